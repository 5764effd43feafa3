-- Which calls on an image count a failure of its storage, of the backing disk or of the data file, and how such calls compose.
use Rattle.std.proofs.Common.{◌≡◌, inl, inr, Option, Some, None, Result, Ok, Err, IsErr, IsErrAnd, ap, arith, subst, sym, ◌∙◌}
use Rattle.qcow2_image.proofs.Common.{IfErr-weaker, le_trans, BackingView, StorageView, Rose, UnlessErr, ImageError, Storage, CountsFaults, faults_of, handed_on, Qcow2, CountsImageFaults, NoFewerFaults, OneRose, SameFaults, ReportsEachIn, ReportsFault, faults_below, faults_beside}
use Rattle.std.specs.Option.{IfSome}

-- a weaker statement, if the refusal is another one
pub unless_weaker : {T E : Type 0} (r : Result T E) (refusal : E) {P Q : Type 0} → (P → Q) → UnlessErr r refusal P → UnlessErr r refusal Q
unless_weaker (Ok x) refusal implies holds = implies holds
unless_weaker (Err e) refusal implies holds = λ other. implies (holds other)

module _ {S F : Type 0} (view : S → StorageView) (backing : F → BackingView) where
  -- numbers that stay, one after the other, and none falls
  pub faults_then : (old mid new : Qcow2 S F) → SameFaults view backing old mid → SameFaults view backing mid new → SameFaults view backing old new
  faults_then old mid new first last = record { storage = last.storage ∙ first.storage; below = last.below ∙ first.below; beside = last.beside ∙ first.beside }

  pub fewer_of : (old new : Qcow2 S F) → SameFaults view backing old new → NoFewerFaults view backing old new
  fewer_of old new same = record { storage = omega (arith, same.storage); below = omega (arith, same.below); beside = omega (arith, same.beside) }

  pub rose_after : (old mid new : Qcow2 S F) → SameFaults view backing old mid → OneRose view backing mid new → OneRose view backing old new
  rose_after old mid new first rose = elim rose [
    | inl one ↦ inl (subst (λ n. Rose n (faults_of view new.file.storage)) first.storage one)
    | inr (inl one) ↦ inr (inl (subst (λ n. Rose n (faults_below view backing new.backing)) first.below one))
    | inr (inr one) ↦ inr (inr (subst (λ n. Rose n (faults_beside view new.data_file)) first.beside one))
  ]

  rose_before : (old mid new : Qcow2 S F) → OneRose view backing old mid → SameFaults view backing mid new → OneRose view backing old new
  rose_before old mid new rose last = elim rose [
    | inl one ↦ inl (subst (λ n. Rose (faults_of view old.file.storage) n) (sym last.storage) one)
    | inr (inl one) ↦ inr (inl (subst (λ n. Rose (faults_below view backing old.backing) n) (sym last.below) one))
    | inr (inr one) ↦ inr (inr (subst (λ n. Rose (faults_beside view old.data_file) n) (sym last.beside) one))
  ]

  -- a call that follows others
  pub counted_since : {T : Type 0} (old mid new : Qcow2 S F) (result : Result T ImageError) → SameFaults view backing old mid → CountsImageFaults view backing mid new result → CountsImageFaults view backing old new result
  counted_since old mid new result first told = let fewer = fewer_of old mid first in record {
    no_fewer = record { storage = le_trans fewer.storage told.no_fewer.storage; below = le_trans fewer.below told.no_fewer.below; beside = le_trans fewer.beside told.no_fewer.beside };
    rose = IfErr-weaker result (ReportsFault view backing mid new) (ReportsFault view backing old new) (λ e reports is. rose_after old mid new first (reports is)) told.rose;
    told = unless_weaker result Storage (faults_then old mid new first) told.told;
  }

  -- a call that is followed by what fails no more
  pub counted_still : {T : Type 0} (old mid new : Qcow2 S F) (result : Result T ImageError) → CountsImageFaults view backing old mid result → SameFaults view backing mid new → CountsImageFaults view backing old new result
  counted_still old mid new result told last = let fewer = fewer_of mid new last in record {
    no_fewer = record { storage = le_trans told.no_fewer.storage fewer.storage; below = le_trans told.no_fewer.below fewer.below; beside = le_trans told.no_fewer.beside fewer.beside };
    rose = IfErr-weaker result (ReportsFault view backing old mid) (ReportsFault view backing old new) (λ e reports is. rose_before old mid new (reports is) last) told.rose;
    told = unless_weaker result Storage (λ first. faults_then old mid new first last) told.told;
  }

  -- where neither the storage nor the disk below nor the data file changed
  pub untouched : (old new : Qcow2 S F) → new.file.storage ≡ old.file.storage → new.backing ≡ old.backing → new.data_file ≡ old.data_file → SameFaults view backing old new
  untouched old new storage below beside = record {
    storage = ap (λ s. faults_of view s) storage;
    below = ap (λ b. faults_below view backing b) below;
    beside = ap (λ b. faults_beside view b) beside;
  }

  -- a call after which the image is marked
  pub marked_after : {T : Type 0} (old last new : Qcow2 S F) (result : Result T ImageError) → CountsImageFaults view backing old last result → new ≡ record last { is_failed = new.is_failed } → CountsImageFaults view backing old new result
  marked_after old last new result told rest = counted_still old last new result told (untouched last new (ap (λ (i : Qcow2 S F). i.file.storage) rest) (ap (λ (i : Qcow2 S F). i.backing) rest) (ap (λ (i : Qcow2 S F). i.data_file) rest))

  -- a call whose refusal marks the image
  pub counted_marked : {T : Type 0} (old mid last new : Qcow2 S F) (done result : Result T ImageError) → SameFaults view backing old mid → CountsImageFaults view backing mid last done → result ≡ done → new ≡ record last { is_failed = new.is_failed }
      → CountsImageFaults view backing old new result
  counted_marked old mid last new done result first told is rest =
      subst (λ r. CountsImageFaults view backing old new r) (sym is) (marked_after old last new done (counted_since old mid last done first told) rest)

  -- what is answered
  pub counted_ok : {T : Type 0} (old new : Qcow2 S F) (x : T) → SameFaults view backing old new → CountsImageFaults view backing old new (Ok x)
  counted_ok old new x same = record { no_fewer = fewer_of old new same; rose = tt; told = same }

  -- what an answer leaves
  pub same_of : {T : Type 0} (old new : Qcow2 S F) (answer : Result T ImageError) (x : T) → CountsImageFaults view backing old new answer → answer ≡ Ok x → SameFaults view backing old new
  same_of old new answer x told is = (subst (λ r. CountsImageFaults view backing old new r) is told).told

  -- what a change of its file leaves that was answered
  pub same_told : {T : Type 0} (old new : Qcow2 S F) (answer : Result T ImageError) (x : T) → CountsFaults view old.file.storage new.file.storage answer → answer ≡ Ok x → new.backing ≡ old.backing → new.data_file ≡ old.data_file → SameFaults view backing old new
  same_told old new answer x told is below beside = record {
    storage = (subst (λ r. CountsFaults view old.file.storage new.file.storage r) is told).told;
    below = ap (λ b. faults_below view backing b) below;
    beside = ap (λ b. faults_beside view b) beside;
  }

  -- the same refusal, of another call
  pub counted_as : {T A : Type 0} (old mid new : Qcow2 S F) (answer : Result A ImageError) (e : ImageError) → SameFaults view backing old mid → CountsImageFaults view backing mid new answer → answer ≡ Err e → CountsImageFaults view backing {T = T} old new (Err e)
  counted_as old mid new answer e first told is =
      let all = subst (λ r. CountsImageFaults view backing old new r) is (counted_since old mid new answer first told) in
      record { no_fewer = all.no_fewer; rose = all.rose; told = all.told }

  -- one that `?` hands on
  pub counted_on : {T A : Type 0} (old mid new : Qcow2 S F) (answer : Result A ImageError) (e : ImageError) (result : Result T ImageError) → SameFaults view backing old mid → CountsImageFaults view backing mid new answer → answer ≡ Err e
      → IsErr result × IsErrAnd result (λ x. x ≡ e) → CountsImageFaults view backing old new result
  counted_on old mid new answer e result first told is on = handed_on (λ r. CountsImageFaults view backing old new r) result e on (counted_as old mid new answer e first told is)

  -- one without an answer's type
  pub counted_of : {T A : Type 0} (old new : Qcow2 S F) (e : ImageError) → CountsImageFaults view backing {T = A} old new (Err e) → CountsImageFaults view backing {T = T} old new (Err e)
  counted_of old new e told = record { no_fewer = told.no_fewer; rose = told.rose; told = told.told }

  -- what a call reports, seen from an earlier start
  pub tells_since : (old mid new : Qcow2 S F) (refusal : Option ImageError) → SameFaults view backing old mid → IfSome refusal (ReportsFault view backing mid new) → IfSome refusal (ReportsFault view backing old new)
  tells_since old mid new None first told = tt
  tells_since old mid new (Some e) first told = λ is. rose_after old mid new first (told is)

  pub each_since : (old mid new : Qcow2 S F) (refusal : Option ImageError) → SameFaults view backing old mid → ReportsEachIn view backing mid new refusal → ReportsEachIn view backing old new refusal
  each_since old mid new None first told = faults_then old mid new first told
  each_since old mid new (Some e) first told = λ other. faults_then old mid new first (told other)
