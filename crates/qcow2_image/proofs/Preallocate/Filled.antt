-- Parts of preallocation, one after another.
use Rattle.std.proofs.Common.{◌≡◌, ◌⊎◌, ◌+◌, ◌-◌, ◌%◌, ◌^◌, ◌<◌, ◌≤◌, ◌∷◌, ⊎_elim, inl, inr, ℕ, min, true, false, List, [], refl, sym, ap, ◌∙◌, subst, arith, IsTrue, Option, Result, Ok, Err}
use Rattle.qcow2_image.proofs.Common.{GoesTo, BackingView, StorageView, HeaderFields, cluster_size, entries_per_cluster, rest_of_table, cases_lt, Guest, guest_of, EffectOnSound, with_disk, Disk, zeroed_between, GivenBytes, works_less, works_then, stops_as, known_in, ImageError, has_noted_change, RefusedCall, InternalCall, ClearsPart, IsUnderMapping, KeptZeros, Qcow2, Prepared, ImageInvariant, abstract_of, disk_of, pending_in, l1_index_of, KeepsL1Place, MovesTables, ChangesFree, FilledCovers, FillsOrRefuses, FillsPart, FillsSome, InterruptedGiving, IsUnderMappingIn, MayBeZero, RefusedFill, given_by_zeros, MayFail, MayFailIf, IsUnlimited, pow_pos, Mappings, Causes}
use Rattle.qcow2_alloc.specs.ImageError.{IsFault as FaultOfTables}
use Rattle.qcow2_alloc.specs.declared.error.ImageError.TheVariants as I
use Rattle.qcow2_image.proofs.Call.Called.{works_none}
use Rattle.qcow2_image.proofs.Clear.ClearCalls.{under_before}
use Rattle.qcow2_image.proofs.Clear.Ranges.{table_end, table_whole}
use Rattle.qcow2_image.proofs.Grow.L1Lengths.{place_same, reaching_stays, reaching_stays_shorter, reaching_stays_then}
use Rattle.qcow2_image.proofs.Images.Moved.{file_step_then}
use Rattle.qcow2_image.proofs.Prepare.LimitCauses.{limited_from, limited_less, other_limit}
use Rattle.qcow2_image.proofs.Preallocate.Covers.{covers_before, covers_cleared, covers_from, covers_none, covers_stay, covers_then}
use Rattle.qcow2_image.proofs.Preallocate.Pieces.{none_of}
use Rattle.qcow2_image.proofs.Preallocate.NoPreparedEntries.{untaken_before, untaken_none, untaken_then, untaken_zeros}
use Rattle.qcow2_image.proofs.Preallocate.Zeros.{may_none, may_then, may_wider, may_zeroed, shown_zeros, zeroed_before, zeroed_none, zeroed_then, zeros_wider, zeros_touch}
use Rattle.qcow2_image.proofs.Images.UngivenCovers.{touches_part}

-- a refusal that comes during the work is not 9
pub met_taken : {A : Type 0} (causes : Causes) (e : ImageError) → MayFailIf causes e → e ≡ I.TablePrepared → A
met_taken causes e may_fail is = absurd (subst (MayFailIf causes) is may_fail)

-- a prepared table of a part is one of the whole, by the header before
pub taken_wider : (h h' : HeaderFields) (from to from' to' : ℕ) (out : Mappings) → MovesTables h h' → from' ≤ from → to ≤ to' → IsUnderMappingIn h' from to out → IsUnderMappingIn h from' to' out
taken_wider h h' from to from' to' out file_step low high is = let a = is.low in let b = is.high in record {
  offset = is.offset;
  low = omega arith;
  high = omega arith;
  under = under_before h h' is.offset out file_step is.under;
}

pub taken_here : (h : HeaderFields) (from to : ℕ) (out : Mappings) → from < to → IsUnderMapping h from out → IsUnderMappingIn h from to out
taken_here h from to out lt under = record { offset = from; low = omega arith; high = lt; under = under }

-- where the first L2 table of a range ends, or the range does
module _ (h : HeaderFields) (some : 0 < cluster_size h) (rows : 0 < entries_per_cluster h) (from to next : ℕ) (whole : to % cluster_size h ≡ 0) (is : next ≡ min to (min (from + rest_of_table h from) (2 ^ 64 - 1))) (high : to < 2 ^ 64) where
  pub next_within : next ≤ from + rest_of_table h from
  next_within = omega (arith, is)

  pub next_whole : next % cluster_size h ≡ 0
  next_whole = elim (cases_lt (from + rest_of_table h from) to) [
    | inl before ↦
        let e : next ≡ from + rest_of_table h from = omega (arith, is, before, high) in
        ap (λ x. x % cluster_size h) (e ∙ table_end h some rows from) ∙ table_whole h some rows from
    | inr behind ↦
        let e : next ≡ to = omega (arith, is, behind, high) in
        ap (λ x. x % cluster_size h) e ∙ whole
  ]

module _ {S F : Type 0} (view : S → StorageView) (backing : F → BackingView) (out : Mappings) where
  -- zeros of a part are zeros of the whole
  wider_works : (old new : Qcow2 S F) (from to from' to' : ℕ) → from' ≤ from → to ≤ to' → EffectOnSound (abstract_of view backing old out) (abstract_of view backing new out) (given_by_zeros from to ∷ []) []
      → EffectOnSound (abstract_of view backing old out) (abstract_of view backing new out) (given_by_zeros from' to' ∷ []) []
  wider_works old new from to from' to' low high works =
      works_less (abstract_of view backing old out) (abstract_of view backing new out) (given_by_zeros from to ∷ []) (given_by_zeros from' to' ∷ []) [] (λ o w given. inr (zeros_wider from to from' to' low high o w given)) (zeros_touch (cluster_size old.file.header.fields) from to from' to' low high) works

  -- a sound image that is marked as failed
  pub given_broken : (given : List GivenBytes) (old new : Qcow2 S F) (e : ImageError) → FaultOfTables e → (e ≡ I.Memory → IsTrue (has_noted_change new)) → ImageInvariant view backing (pending_in view backing new out) new out
      → EffectOnSound (abstract_of view backing old out) (abstract_of view backing new out) given [] → InterruptedGiving view backing given old new out e
  given_broken given old new e fault recorded sound works = record {
    fault = fault;
    recorded = recorded;
    works = record {
      setting = works.setting;
      surplus = λ now. absurd (let f : true ≡ false = now.works in cc);
      beside = λ now. absurd (let f : true ≡ false = now.works in cc);
      leaks = works.leaks;
      stops = λ m starts.
          stops_as (abstract_of view backing old out) (abstract_of view backing new out) (abstract_of view backing old out) (abstract_of view backing (record new { is_failed = true }) out) given [] refl refl refl (λ now. (sound, refl)) m (works.stops m starts);
    };
  }

  -- ---- nothing yet
  pub fills_none : (image : Qcow2 S F) (first from : ℕ) → ImageInvariant view backing (pending_in view backing image out) image out → EffectOnSound (abstract_of view backing image out) (abstract_of view backing image out) [] [] → FillsPart view backing first from from image image out
  fills_none image first from sound works = record {
    works = none_of _ _ (given_by_zeros from from ∷ []) works;
    sound = sound;
    shows = ap (λ (d : Disk). with_disk (guest_of (abstract_of view backing image out)) d) (sym (zeroed_none (disk_of view backing out.place image) from from (omega arith)));
    header = refl;
    l1_table = λ within. (refl, refl);
    covers = covers_none (cluster_size image.file.header.fields) (pow_pos image.file.header.fields.cluster_bits) first from image.file.header.fields (known_in view image.file);
    free = untaken_none (cluster_size image.file.header.fields) (pow_pos image.file.header.fields.cluster_bits) out first from image.file.header.fields (known_in view image.file);
  }

  -- a refused part that no guest sees
  pub fill_unseen : (old new : Qcow2 S F) (from to : ℕ) (e : ImageError) → RefusedCall view backing old new out e → FillsSome view backing from to old new out ⊎ InterruptedGiving view backing (given_by_zeros from to ∷ []) old new out e
  fill_unseen old new from to e (inl stays) = inl (record {
    works = none_of _ _ (given_by_zeros from to ∷ []) stays.works;
    sound = stays.sound;
    now = disk_of view backing out.place old;
    may = may_none from to (disk_of view backing out.place old);
    shows = stays.same;
  })
  fill_unseen old new from to e (inr interrupted) = inr (record { fault = interrupted.fault; recorded = interrupted.recorded; works = none_of _ _ (given_by_zeros from to ∷ []) interrupted.works })

  -- nothing was done
  some_none : (image : Qcow2 S F) (from to : ℕ) → ImageInvariant view backing (pending_in view backing image out) image out → FillsSome view backing from to image image out
  some_none image from to sound = record {
    works = none_of _ _ (given_by_zeros from to ∷ []) (works_none (abstract_of view backing image out) sound);
    sound = sound;
    now = disk_of view backing out.place image;
    may = may_none from to (disk_of view backing out.place image);
    shows = refl;
  }

  -- refused before anything was done
  pub refused_here : (image : Qcow2 S F) (from to : ℕ) (e : ImageError) → (e ≡ I.TablePrepared → ⊥) → (e ≡ I.Limit → ⊥) → ImageInvariant view backing (pending_in view backing image out) image out
      → RefusedFill view backing from to image image out e
  refused_here image from to e other unlimited sound = record { left = inl (some_none image from to sound); taken = λ is. absurd (other is); limit = λ is. absurd (unlimited is) }

  -- ---- one part after another
  module _ (a b c : Qcow2 S F) (zeros from mid to : ℕ) (low : from ≤ mid) (high : mid ≤ to) where
    as_large : (x y : ℕ) → MovesTables a.file.header.fields b.file.header.fields → FilledCovers (cluster_size b.file.header.fields) zeros x y b.file.header.fields (known_in view b.file) c.file.header.fields (known_in view c.file)
        → FilledCovers (cluster_size a.file.header.fields) zeros x y b.file.header.fields (known_in view b.file) c.file.header.fields (known_in view c.file)
    as_large x y file_step covers = subst (λ size. FilledCovers size zeros x y b.file.header.fields (known_in view b.file) c.file.header.fields (known_in view c.file)) (ap (λ (h : HeaderFields). cluster_size h) file_step) covers

    free_large : (x y : ℕ) → MovesTables a.file.header.fields b.file.header.fields → ChangesFree (cluster_size b.file.header.fields) zeros x y b.file.header.fields (known_in view b.file) out
        → ChangesFree (cluster_size a.file.header.fields) zeros x y b.file.header.fields (known_in view b.file) out
    free_large x y file_step free = subst (λ size. ChangesFree size zeros x y b.file.header.fields (known_in view b.file) out) (ap (λ (h : HeaderFields). cluster_size h) file_step) free

    pub fills_then : FillsPart view backing zeros from mid a b out → FillsPart view backing zeros mid to b c out → FillsPart view backing zeros from to a c out
    fills_then first then = record {
      works = works_then (abstract_of view backing a out) (abstract_of view backing b out) (abstract_of view backing c out) (given_by_zeros from to ∷ []) [] first.sound (wider_works a b from mid from to (omega arith) high first.works) (wider_works b c mid to from to low (omega arith) then.works);
      sound = then.sound;
      shows = then.shows ∙ ap (λ (g : Guest). with_disk g (zeroed_between g.disk mid to)) first.shows ∙ ap (λ (d : Disk). with_disk (guest_of (abstract_of view backing a out)) d) (zeroed_then (disk_of view backing out.place a) from mid to low high);
      header = file_step_then a.file.header.fields b.file.header.fields c.file.header.fields first.header then.header;
      l1_table = reaching_stays_then a.file.header.fields b.file.header.fields c.file.header.fields to first.header (reaching_stays_shorter a.file.header.fields b.file.header.fields mid to high first.l1_table) then.l1_table;
      covers = covers_then (cluster_size a.file.header.fields) (pow_pos a.file.header.fields.cluster_bits) zeros a.file.header.fields (known_in view a.file) b.file.header.fields (known_in view b.file) c.file.header.fields (known_in view c.file) from mid to low high first.covers
          (as_large mid to first.header then.covers);
      free = untaken_then (cluster_size a.file.header.fields) (pow_pos a.file.header.fields.cluster_bits) out zeros a.file.header.fields (known_in view a.file) b.file.header.fields (known_in view b.file)
          first.header from mid to low high first.covers first.free (free_large mid to first.header then.free);
    }

    -- the later part of the range may come first
    pub fills_before : FillsPart view backing zeros mid to a b out → FillsPart view backing zeros from mid b c out → FillsPart view backing zeros from to a c out
    fills_before first then = record {
      works = works_then (abstract_of view backing a out) (abstract_of view backing b out) (abstract_of view backing c out) (given_by_zeros from to ∷ []) [] first.sound (wider_works a b mid to from to low (omega arith) first.works) (wider_works b c from mid from to (omega arith) high then.works);
      sound = then.sound;
      shows = then.shows ∙ ap (λ (g : Guest). with_disk g (zeroed_between g.disk from mid)) first.shows ∙ ap (λ (d : Disk). with_disk (guest_of (abstract_of view backing a out)) d) (zeroed_before (disk_of view backing out.place a) from mid to low high);
      header = file_step_then a.file.header.fields b.file.header.fields c.file.header.fields first.header then.header;
      l1_table = reaching_stays_then a.file.header.fields b.file.header.fields c.file.header.fields to first.header first.l1_table (reaching_stays_shorter b.file.header.fields c.file.header.fields mid to high then.l1_table);
      covers = covers_before (cluster_size a.file.header.fields) (pow_pos a.file.header.fields.cluster_bits) zeros a.file.header.fields (known_in view a.file) b.file.header.fields (known_in view b.file) c.file.header.fields (known_in view c.file) from mid to low high first.covers
          (as_large from mid first.header then.covers);
      free = untaken_before (cluster_size a.file.header.fields) (pow_pos a.file.header.fields.cluster_bits) out zeros a.file.header.fields (known_in view a.file) b.file.header.fields (known_in view b.file)
          first.header from mid to low high first.covers first.free (free_large from mid first.header then.free);
    }

  -- a part that is refused after one that wasn't, of a range that has both
  module _ (a b c : Qcow2 S F) (zeros from to x y x' y' : ℕ) (low : from ≤ x) (high : y ≤ to) (low' : from ≤ x') (high' : y' ≤ to) (first : FillsPart view backing zeros x y a b out) where
    some_after : FillsSome view backing x' y' b c out → FillsSome view backing from to a c out
    some_after then = record {
      works = works_then (abstract_of view backing a out) (abstract_of view backing b out) (abstract_of view backing c out) (given_by_zeros from to ∷ []) [] first.sound (wider_works a b x y from to low high first.works) (wider_works b c x' y' from to low' high' then.works);
      sound = then.sound;
      now = then.now;
      may = may_then from to (disk_of view backing out.place a) (zeroed_between (disk_of view backing out.place a) x y) then.now (may_wider x y from to (disk_of view backing out.place a) (zeroed_between (disk_of view backing out.place a) x y) low high (may_zeroed x y (disk_of view backing out.place a)))
          (subst (λ (d : Disk). MayBeZero from to d then.now) (ap (λ (g : Guest). g.disk) first.shows) (may_wider x' y' from to (disk_of view backing out.place b) then.now low' high' then.may));
      shows = then.shows ∙ ap (λ (g : Guest). with_disk g then.now) first.shows;
    }

    broken_after : (e : ImageError) → InterruptedGiving view backing (given_by_zeros x' y' ∷ []) b c out e → InterruptedGiving view backing (given_by_zeros from to ∷ []) a c out e
    broken_after e then = record {
      fault = then.fault;
      recorded = then.recorded;
      works = works_then (abstract_of view backing a out) (abstract_of view backing b out) (abstract_of view backing (record c { is_failed = true }) out) (given_by_zeros from to ∷ []) [] first.sound (wider_works a b x y from to low high first.works)
          (wider_works b (record c { is_failed = true }) x' y' from to low' high' then.works);
    }

    left_after : (e : ImageError) → FillsSome view backing x' y' b c out ⊎ InterruptedGiving view backing (given_by_zeros x' y' ∷ []) b c out e
        → FillsSome view backing from to a c out ⊎ InterruptedGiving view backing (given_by_zeros from to ∷ []) a c out e
    left_after e left = ⊎_elim (λ (some : FillsSome view backing x' y' b c out). inl (some_after some)) (λ (broken : InterruptedGiving view backing (given_by_zeros x' y' ∷ []) b c out e). inr (broken_after e broken)) left

    pub refused_after : GoesTo view a b → (e : ImageError) → RefusedFill view backing x' y' b c out e → RefusedFill view backing from to a c out e
    refused_after goes e then = record {
      left = left_after e then.left;
      taken = λ is. taken_wider a.file.header.fields b.file.header.fields x' y' from to out first.header low' high' (then.taken is);
      limit = λ is. limited_from (omega arith) high' goes first.sound (wider_works a b x y from to low high first.works)
          (limited_less (given_by_zeros x' y' ∷ []) (given_by_zeros from to ∷ []) (zeros_wider x' y' from to low' high') (zeros_touch (cluster_size b.file.header.fields) x' y' from to low' high') (then.limit is));
    }

  -- a part, and then clusters are freed, which no guest sees
  module _ (a b c : Qcow2 S F) (zeros from to : ℕ) (first : FillsPart view backing zeros from to a b out) where
    pub fills_stays : InternalCall view backing b c out → c.file.header ≡ b.file.header → FillsPart view backing zeros from to a c out
    fills_stays then same = record {
      works = works_then (abstract_of view backing a out) (abstract_of view backing b out) (abstract_of view backing c out) (given_by_zeros from to ∷ []) [] first.sound first.works (none_of _ _ (given_by_zeros from to ∷ []) then.works);
      sound = then.sound;
      shows = then.same ∙ first.shows;
      header = file_step_then a.file.header.fields b.file.header.fields c.file.header.fields first.header then.header;
      l1_table = λ within. place_same a.file.header.fields b.file.header c.file.header same (first.l1_table within);
      covers = covers_stay (cluster_size a.file.header.fields) (pow_pos a.file.header.fields.cluster_bits) zeros a.file.header.fields (known_in view a.file) b.file.header.fields (known_in view b.file) c.file.header.fields (known_in view c.file) from to first.covers then.covers;
      free = first.free;
    }

    pub fills_refused : (to' : ℕ) (e : ImageError) → to ≤ to' → MayFail e → IsUnlimited e → RefusedCall view backing b c out e → c.file.header ≡ b.file.header → RefusedFill view backing from to' a c out e
    fills_refused to' e high may_fail unlimited then same = record {
      left = left_after a b c zeros from to' from to from to' (omega arith) high (omega arith) (omega arith) first e (fill_unseen b c from to' e then);
      taken = met_taken _ e may_fail;
      limit = other_limit _ e unlimited;
    }

  -- whole clusters are cleared
  pub cleared_fills : (old new : Qcow2 S F) (from to : ℕ) → from < to → (entries : ℕ) → entries ≡ old.file.header.fields.l1_entries → (l1_index_of old.file.header.fields from < entries → KeepsL1Place old.file.header.fields new.file.header.fields) → from % cluster_size old.file.header.fields ≡ 0 → ClearsPart view backing KeptZeros from to old new out
      → ChangesFree (cluster_size old.file.header.fields) 0 from to old.file.header.fields (known_in view old.file) out → FillsPart view backing 0 from to old new out
  cleared_fills old new from to lt entries count stays whole part free = record {
    works = works_less (abstract_of view backing old out) (abstract_of view backing new out) _ (given_by_zeros from to ∷ []) [] (λ o w given. inr (shown_zeros (disk_of view backing out.place old) from to o w given)) (touches_part (cluster_size old.file.header.fields) _ _ _ _ (omega arith) (omega arith)) part.works;
    sound = part.sound;
    shows = part.shows;
    header = part.header;
    l1_table = reaching_stays old.file.header.fields new.file.header.fields from to entries lt count stays;
    covers = covers_cleared old.file.header.fields new.file.header.fields (known_in view old.file) (known_in view new.file) from to whole part.covers;
    free = free;
  }

  -- where all are zeros, those from the start on are
  pub zeros_from : (old new : Qcow2 S F) (from to : ℕ) → from % cluster_size old.file.header.fields ≡ 0 → FillsPart view backing 0 from to old new out → FillsPart view backing from from to old new out
  zeros_from old new from to whole part = record {
    works = part.works;
    sound = part.sound;
    shows = part.shows;
    header = part.header;
    l1_table = part.l1_table;
    covers = covers_from (cluster_size old.file.header.fields) (pow_pos old.file.header.fields.cluster_bits) from to old.file.header.fields (known_in view old.file) new.file.header.fields (known_in view new.file) whole part.covers;
    free = untaken_zeros (cluster_size old.file.header.fields) (pow_pos old.file.header.fields.cluster_bits) out from from to old.file.header.fields (known_in view old.file) part.free;
  }

  -- where they begin before the range, that may be anywhere before it
  pub zeros_all : (old new : Qcow2 S F) (first from to : ℕ) → from % cluster_size old.file.header.fields ≡ 0 → first ≤ from → FillsPart view backing 0 from to old new out → FillsPart view backing first from to old new out
  zeros_all old new first from to whole le part =
      let is = zeros_from old new from to whole part in
      record {
        works = part.works;
        sound = part.sound;
        shows = part.shows;
        header = part.header;
        l1_table = part.l1_table;
        covers = record {
          beside = part.covers.beside;
          zeros = λ g t at. part.covers.zeros g t (omega arith);
          copied = λ g t lt. is.covers.copied g t (omega (arith, lt, le));
        };
        free = untaken_zeros (cluster_size old.file.header.fields) (pow_pos old.file.header.fields.cluster_bits) out first from to old.file.header.fields (known_in view old.file) part.free;
      }

  -- the answer of one part is that of both
  module _ (a b c : Qcow2 S F) (zeros from mid to : ℕ) (low : from ≤ mid) (high : mid ≤ to) (first : FillsPart view backing zeros from mid a b out) where
    -- the last part clears whole clusters
    pub fills_or_refuses : GoesTo view a b → zeros ≤ mid → mid % cluster_size b.file.header.fields ≡ 0 → (r : Result (Unit {0}) ImageError) → FillsOrRefuses view backing 0 mid to b c out r
        → FillsOrRefuses view backing zeros from to a c out r
    fills_or_refuses goes le whole (Ok done) then = fills_then a b c zeros from mid to low high first (zeros_all b c zeros mid to whole le then)
    fills_or_refuses goes le whole (Err e) then = refused_after a b c zeros from to from mid mid to (omega arith) high low (omega arith) first goes e then
