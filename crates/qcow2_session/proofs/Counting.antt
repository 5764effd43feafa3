-- The failures that a run counts command by command, and a conversion call by call.
use Rattle.std.proofs.Common.{◌≡◌, ◌≢◌, ◌∷◌, ◌++◌, ℕ, inl, inr, List, [], None, Some, Result, Ok, Err, refl, sym, ap, ◌∙◌, subst, arith}
use Rattle.qcow2_session.proofs.Common.{BackingView, StorageView, HasCause, Rose, StorageError, of_storage, ImageError, Qcow2, CommitRefused, reason_of, is_failed, CountsImageChanges, CountsImageFaults, IsNotOfStorage, NoFewerFaults, SameFaults, ReportsFault, counted_since, each_since, faults_then, fewer_of, rose_after, tells_since, untouched, counts_on, counts_still, FailsBy, MarksConversion, MarksInParts, CommandCounts, ConversionCounts, RunCounts, ReportsConversion, refusal_in, Reply}
use Rattle.image_access.specs.declared.error.StorageError.TheVariants as S
use Rattle.qcow2_alloc.specs.declared.error.ImageError.TheVariants as I
use Rattle.qcow2_session.proofs.Marking.{fails_no_more, last_behind, last_none, parts_behind, stays_failed}

-- a storage that is refused as failed counts that
raw_fault : {A : Type 0} (x : StorageError) (before now : ℕ) → HasCause {T = A} before now (Err x) → of_storage x ≡ I.Storage → Rose before now
raw_fault S.Fault before now cause is = cause.fault refl
raw_fault S.Memory before now cause is = absurd (let no : I.Memory ≡ I.Storage = is in cc)

module _ {S F : Type 0} (view : S → StorageView) (backing : F → BackingView) where
  -- nothing failed where nothing was called
  pub none_counted : (image : Qcow2 S F) → SameFaults view backing image image
  none_counted image = untouched view backing image image refl refl refl

  pub fewer_since : (old mid new : Qcow2 S F) → SameFaults view backing old mid → NoFewerFaults view backing mid new → NoFewerFaults view backing old new
  fewer_since old mid new first last = record { storage = omega (arith, first.storage, last.storage); below = omega (arith, first.below, last.below); beside = omega (arith, first.beside, last.beside) }

  -- a refused commit that follows others
  pub commit_since : {T : Type 0} (old mid new : Qcow2 S F) (r : CommitRefused) (e : ImageError) → reason_of r ≡ e → SameFaults view backing old mid
      → NoFewerFaults view backing mid new × ReportsFault view backing mid new (reason_of r) × (reason_of r ≢ I.Storage → SameFaults view backing mid new) → CountsImageFaults view backing {T = T} old new (Err e)
  commit_since {T = T} old mid new r e is first told =
      let alone : CountsImageFaults view backing {T = T} mid new (Err (reason_of r)) = record { no_fewer = told.0; rose = told.1; told = told.2 } in
      subst (λ x. CountsImageFaults view backing {T = T} old new (Err x)) is (counted_since view backing old mid new (Err (reason_of r)) first alone)

  -- a command that follows others
  command_since : (old mid new : Qcow2 S F) (reply : Reply) → SameFaults view backing old mid → CommandCounts view backing mid new reply → CommandCounts view backing old new reply
  command_since old mid new reply first told = record {
    no_fewer = fewer_since old mid new first told.no_fewer;
    rose = tells_since view backing old mid new (refusal_in reply) first told.rose;
    told = each_since view backing old mid new (refusal_in reply) first told.told;
  }

  -- one command more
  pub run_counts_more : (old mid new : Qcow2 S F) (replies : List Reply) (reply : Reply) → RunCounts view backing old mid replies → CommandCounts view backing mid new reply → RunCounts view backing old new (replies ++ reply ∷ [])
  run_counts_more old mid new [] reply first told = (new, command_since old mid new reply first told, none_counted new)
  run_counts_more old mid new (r ∷ replies) reply first told = (first.0, first.1, run_counts_more first.0 mid new replies reply first.2 told)

  -- and then what fails no more
  pub run_counts_still : (old mid new : Qcow2 S F) (replies : List Reply) → RunCounts view backing old mid replies → SameFaults view backing mid new → RunCounts view backing old new replies
  run_counts_still old mid new [] first last = faults_then view backing old mid new first last
  run_counts_still old mid new (r ∷ replies) first last = (first.0, first.1, run_counts_still first.0 mid new replies first.2 last)

  -- ---- conversions

  -- what was answered so far: nothing failed, and what was changed is counted
  pub record IsSoFar (old mid : Qcow2 S F) : Type 0 where
    pub faults : SameFaults view backing old mid
    pub works : is_failed mid ≡ is_failed old
    pub changes : CountsImageChanges view old mid

  pub so_far_none : (image : Qcow2 S F) → IsSoFar image image
  so_far_none image = record { faults = none_counted image; works = refl; changes = counts_still view image }

  pub so_far_then : (a b c : Qcow2 S F) → IsSoFar a b → IsSoFar b c → IsSoFar a c
  so_far_then a b c first next = record { faults = faults_then view backing a b c first.faults next.faults; works = next.works ∙ first.works; changes = counts_on view a b c first.changes next.changes }

  -- a call of the image was answered, and a part of a conversion was
  pub so_far_call : (old new : Qcow2 S F) → SameFaults view backing old new → MarksInParts view None old new → IsSoFar old new
  so_far_call old new faults marks = record { faults = faults; works = marks.fails; changes = marks.counts }

  pub so_far_part : {T : Type 0} {x : T} (old new : Qcow2 S F) (a b : ℕ) → ConversionCounts view backing old new a b (Ok x) → IsSoFar old new
  so_far_part old new a b counted = record { faults = counted.told.0; works = counted.marks.answered; changes = counted.marks.counts }

  -- the raw disk was refused, or nothing was called
  rests : {T : Type 0} (old new : Qcow2 S F) (e : ImageError) → IsSoFar old new → MarksConversion view old new {A = T} (Err e)
  rests old new e first = record { answered = tt; works = λ _ _. first.works; stays = λ failed. first.works ∙ failed; counts = first.changes; memory = λ _. last_none view old new first.works first.changes }

  -- what a refused call of the image reports, for a conversion that began earlier
  pub image_tells : (old mid new : Qcow2 S F) (before now : ℕ) (e : ImageError) → SameFaults view backing old mid → ReportsFault view backing mid new e → FailsBy (Some e) (is_failed mid) (is_failed new) → ReportsConversion view backing old new before now e
  image_tells old mid new before now e first told fails is = inl (rose_after view backing old mid new first (told is), subst (λ x. FailsBy (Some x) (is_failed mid) (is_failed new)) is fails)

  -- and a refused part of it
  part_tells : (old mid new : Qcow2 S F) (a b c : ℕ) (e : ImageError) → SameFaults view backing old mid → b ≡ a → ReportsConversion view backing mid new b c e → ReportsConversion view backing old new a c e
  part_tells old mid new a b c e first same told is = elim (told is) [
    | inl one ↦ inl (rose_after view backing old mid new first one.0, one.1)
    | inr rose ↦ inr (subst (λ n. Rose n c) same rose)
  ]

  -- what it marks
  pub image_marks : {T : Type 0} (old mid new : Qcow2 S F) (e : ImageError) → IsSoFar old mid → MarksInParts view (Some e) mid new → MarksConversion view old new {A = T} (Err e)
  image_marks old mid new e first marks =
      let all = parts_behind view (Some e) old mid new first.works first.changes marks in
      record { answered = tt; works = fails_no_more e (is_failed old) (is_failed new) all.fails; stays = stays_failed (Some e) _ _ all.fails; counts = all.counts; memory = λ is. all.memory (ap Some (let same : e ≡ I.Memory = cc in same)) }

  part_marks : {A T : Type 0} (old mid new : Qcow2 S F) (e : ImageError) → IsSoFar old mid → MarksConversion view mid new {A = A} (Err e) → MarksConversion view old new {A = T} (Err e)
  part_marks old mid new e first marks = record {
    answered = tt;
    works = λ other unfailed. marks.works other unfailed ∙ first.works;
    stays = λ failed. marks.stays (first.works ∙ failed);
    counts = counts_on view old mid new first.changes marks.counts;
    memory = λ is. last_behind view old mid new first.works first.changes (marks.memory (ap Err (let same : e ≡ I.Memory = cc in same)));
  }

  -- a call of the image was refused
  pub converting_image : {A T : Type 0} (old mid new : Qcow2 S F) (a b : ℕ) → IsSoFar old mid → b ≡ a → (answer : Result A ImageError) (e : ImageError) (result : Result T ImageError)
      → CountsImageFaults view backing mid new answer → MarksInParts view (Some e) mid new → answer ≡ Err e → result ≡ Err e → ConversionCounts view backing old new a b result
  converting_image {A = A} {T = T} old mid new a b first same answer e result told marks was is =
      let counted : CountsImageFaults view backing {T = A} mid new (Err e) = subst (λ (r : Result A ImageError). CountsImageFaults view backing mid new r) was told in
      subst (λ (r : Result T ImageError). ConversionCounts view backing old new a b r) (sym is) (record {
        no_fewer = fewer_since old mid new first.faults counted.no_fewer;
        raw = omega (arith, same);
        rose = image_tells old mid new a b e first.faults counted.rose marks.fails;
        told = λ other. (faults_then view backing old mid new first.faults (counted.told other), same);
        marks = image_marks old mid new e first marks;
      })

  -- a call of the raw disk was
  pub converting_raw : {A T : Type 0} (old new : Qcow2 S F) (a b c : ℕ) → IsSoFar old new → b ≡ a → (answer : Result A StorageError) (x : StorageError) (result : Result T ImageError)
      → HasCause b c answer → answer ≡ Err x → result ≡ Err (of_storage x) → ConversionCounts view backing old new a c result
  converting_raw {A = A} {T = T} old new a b c first same answer x result told was is =
      let cause : HasCause {T = A} b c (Err x) = subst (λ (r : Result A StorageError). HasCause b c r) was told in
      subst (λ (r : Result T ImageError). ConversionCounts view backing old new a c r) (sym is) (record {
        no_fewer = fewer_of view backing old new first.faults;
        raw = omega (arith, same, cause.no_fewer);
        rose = λ failed. inr (subst (λ n. Rose n c) same (raw_fault x b c cause failed));
        told = λ other. (first.faults, cause.told (λ fault. other (ap of_storage fault)) ∙ same);
        marks = rests old new (of_storage x) first;
      })

  -- a part of the conversion was
  pub converting_part : {A T : Type 0} (old mid new : Qcow2 S F) (a b c : ℕ) → IsSoFar old mid → b ≡ a → (answer : Result A ImageError) (e : ImageError) (result : Result T ImageError)
      → ConversionCounts view backing mid new b c answer → answer ≡ Err e → result ≡ Err e → ConversionCounts view backing old new a c result
  converting_part {A = A} {T = T} old mid new a b c first same answer e result told was is =
      let counted : ConversionCounts view backing {T = A} mid new b c (Err e) = subst (λ (r : Result A ImageError). ConversionCounts view backing mid new b c r) was told in
      subst (λ (r : Result T ImageError). ConversionCounts view backing old new a c r) (sym is) (record {
        no_fewer = fewer_since old mid new first.faults counted.no_fewer;
        raw = omega (arith, same, counted.raw);
        rose = part_tells old mid new a b c e first.faults same counted.rose;
        told = λ other. (faults_then view backing old mid new first.faults (counted.told other).0, (counted.told other).1 ∙ same);
        marks = part_marks old mid new e first counted.marks;
      })

  -- it was refused, and not for a storage
  pub converting_else : {T : Type 0} (old new : Qcow2 S F) (a b : ℕ) → IsSoFar old new → b ≡ a → (e : ImageError) (result : Result T ImageError) → IsNotOfStorage e → result ≡ Err e → ConversionCounts view backing old new a b result
  converting_else {T = T} old new a b first same e result other is =
      subst (λ (r : Result T ImageError). ConversionCounts view backing old new a b r) (sym is) (record {
        no_fewer = fewer_of view backing old new first.faults;
        raw = omega (arith, same);
        rose = λ failed. absurd (other failed);
        told = λ no. (first.faults, same);
        marks = rests old new e first;
      })

  -- it was answered
  pub converted : {T : Type 0} (old new : Qcow2 S F) (a b : ℕ) (x : T) → IsSoFar old new → b ≡ a → ConversionCounts view backing old new a b (Ok x)
  converted old new a b x first same = record {
    no_fewer = fewer_of view backing old new first.faults;
    raw = omega (arith, same);
    rose = tt;
    told = (first.faults, same);
    marks = record { answered = first.works; works = tt; stays = λ failed. first.works ∙ failed; counts = first.changes; memory = λ bad. absurd (cc) };
  }
