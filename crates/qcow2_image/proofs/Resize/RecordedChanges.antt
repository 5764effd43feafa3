-- Guests don't see which changes are recorded: a call does the same to the image with other marks.
use Rattle.std.proofs.Common.{◌≡◌, Bool, Option, Some, None, List, ℕ, inl, inr, refl, sym, subst, Result, Ok, Err}
use Rattle.qcow2_image.proofs.Common.{IfSome, BackingView, StorageView, PreallocateMode, AbstractImage, CallEffect, AnsweredEffect, Refusal, RefusedEffect, EffectOnSound, GivenBytes, Allocator, ImageError, IsAllocatorOf, is_changed_of, file_invariant_of, Qcow2, Prepared, CountsImageFaults, SameFaults, is_failed, with_marks, ImageInvariant, abstract_of, pending_in, GrowsTables, GrowsTo, RefusesUnchanged, Shrinks, Mappings}
use Rattle.qcow2_image.proofs.Call.FaultCounts.{counted_since, counted_still}

module _ {S F : Type 0} (view : S → StorageView) (backing : F → BackingView) where
  reftable_noted : (image : Qcow2 S F) (recorded : Bool) (o : Option Allocator) → IfSome o (IsAllocatorOf view image.file) → IfSome o (IsAllocatorOf view (with_marks image recorded (is_failed image)).file)
  reftable_noted image recorded None has = tt
  reftable_noted image recorded (Some a) has = record { reftable = record { cluster = has.reftable.cluster; bits = has.reftable.bits; count = has.reftable.count; entries = has.reftable.entries }; hint = has.hint }

  pub sound_noted : (image : Qcow2 S F) (recorded : Bool) (out : Mappings) → ImageInvariant view backing (pending_in view backing image out) image out
      → ImageInvariant view backing (pending_in view backing (with_marks image recorded (is_failed image)) out) (with_marks image recorded (is_failed image)) out
  sound_noted image recorded out s = record {
    works = s.works;
    file = file_invariant_of s.file.honest s.file.caches s.file.named_blocks s.file.room;
    l1_table = record { cluster = s.l1_table.cluster; bits = s.l1_table.bits; count = s.l1_table.count; entries = s.l1_table.entries };
    reftable = reftable_noted image recorded image.allocator s.reftable;
    stands = s.stands;
    below = s.below;
    ready = λ k q at. let r = s.ready k q at in record { own = r.own; mapped = r.mapped };
    pinned = s.pinned;
    once = s.once;
  }

  module _ (v : AbstractImage) (image : Qcow2 S F) (recorded : Bool) (out : Mappings) (given : List GivenBytes) (asked : List ℕ) where
    abbrev other : Qcow2 S F
    other = with_marks image recorded (is_failed image)

    back : ImageInvariant view backing (pending_in view backing (with_marks image recorded (is_failed image)) out) (with_marks image recorded (is_failed image)) out → ImageInvariant view backing (pending_in view backing image out) image out
    back sound = sound_noted (with_marks image recorded (is_failed image)) image.file.storage.is_changed out sound

    works_noted : EffectOnSound v (abstract_of view backing image out) given asked → EffectOnSound v (abstract_of view backing (with_marks image recorded (is_failed image)) out) given asked
    works_noted works = record {
      setting = works.setting;
      surplus = λ sound. works.surplus (back sound);
      beside = λ sound. works.beside (back sound);
      leaks = works.leaks;
      stops = λ m starts. let t = works.stops m starts in record { moments = t.moments; contents = t.contents; known = λ sound. t.known (back sound) };
    }

    acts_noted : CallEffect v (abstract_of view backing image out) given asked → CallEffect v (abstract_of view backing (with_marks image recorded (is_failed image)) out) given asked
    acts_noted acts = record {
      number = acts.number;
      works = λ sound. works_noted (acts.works sound);
      rests = λ failed. let r = acts.rests failed in record { setting = r.setting; failed = r.failed; contents = r.contents; moments = r.moments; leaks = r.leaks };
    }

    pub does_noted : {done : Type 0} → AnsweredEffect v (abstract_of view backing image out) given asked done → AnsweredEffect v (abstract_of view backing (with_marks image recorded (is_failed image)) out) given asked done
    does_noted does = record { acts = acts_noted does.acts; answer = λ sound. let is = does.answer sound in (sound_noted image recorded out is.0, is.1) }

    pub refuses_noted : {still : Type 0} (e : Refusal) → RefusedEffect v (abstract_of view backing image out) given asked e still → RefusedEffect v (abstract_of view backing (with_marks image recorded (is_failed image)) out) given asked e still
    refuses_noted e refuses = record {
      acts = acts_noted refuses.acts;
      answer = λ sound. elim (refuses.answer sound) [ inl still ↦ inl (sound_noted image recorded out still.0, still.1) | inr failed ↦ inr failed ];
      fault = refuses.fault;
    }

  module _ (old image : Qcow2 S F) (recorded : Bool) (size : ℕ) where
    pub shrinks_noted : (r : Result ℕ ImageError) → Shrinks view backing old image size r → Shrinks view backing old (with_marks image recorded (is_failed image)) size r
    shrinks_noted (Ok at) shrinks = λ out. does_noted _ image recorded out _ _ (shrinks out)
    shrinks_noted (Err e) shrinks = λ out. refuses_noted _ image recorded out _ _ _ (shrinks out)

    pub unchanged_noted : (out : Mappings) (e : ImageError) → RefusesUnchanged view backing old image out e → RefusesUnchanged view backing old (with_marks image recorded (is_failed image)) out e
    unchanged_noted out e refuses = refuses_noted _ image recorded out _ _ _ refuses

    module _ (mode : PreallocateMode) where
      pub grows_noted : (r : Result (Unit {0}) ImageError) → GrowsTo view backing old image size mode r → GrowsTo view backing old (with_marks image recorded (is_failed image)) size mode r
      grows_noted (Ok done) grows = λ out. does_noted _ image recorded out _ _ (grows out)
      grows_noted (Err e) grows = λ out. refuses_noted _ image recorded out _ _ _ (grows out)

      pub tables_noted : (out : Mappings) (r : Result (Unit {0}) ImageError) → GrowsTables view backing old image size mode out r → GrowsTables view backing old (with_marks image recorded (is_failed image)) size mode out r
      tables_noted out (Ok done) tables = record { autoclear = tables.autoclear; format = tables.format; reaches = tables.reaches; length = tables.length; covers = tables.covers; emptied = tables.emptied; zeros = tables.zeros; free = tables.free }
      tables_noted out (Err e) tables = record {
        taken = tables.taken;
        zeros = λ zero lacks. unchanged_noted out e (tables.zeros zero lacks);
        version = λ zero lacks. elim (tables.version zero lacks) [
          | inl is ↦ inl is
          | inr other ↦ inr other
        ];
      }

  -- ---- the number of faults stays
  pub same_noted : (last new : Qcow2 S F) (recorded failed : Bool) → new ≡ with_marks last recorded failed → SameFaults view backing last new
  same_noted last new recorded failed rest = subst (λ (i : Qcow2 S F). SameFaults view backing last i) (sym rest) (record { storage = refl; below = refl; beside = refl })

  pub counted_noted : {T : Type 0} (old mid last new : Qcow2 S F) (done result : Result T ImageError) → SameFaults view backing old mid → CountsImageFaults view backing mid last done → result ≡ done
      → new ≡ with_marks last (is_changed_of new.file.storage) (is_failed new) → CountsImageFaults view backing old new result
  counted_noted old mid last new done result first told is rest =
      subst (λ r. CountsImageFaults view backing old new r) (sym is) (counted_still view backing old last new done (counted_since view backing old mid last done first told) (same_noted last new _ _ rest))
