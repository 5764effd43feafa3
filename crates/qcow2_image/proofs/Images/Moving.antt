-- A step on an image's file that guests don't see, as a step on the image.
use Rattle.std.proofs.Common.{◌≡◌, ◌+◌, ◌/◌, ◌<◌, ℕ, List, [], Option, Some, refl, sym, ap, ◌∙◌, subst}
use Rattle.qcow2_image.proofs.Common.{IfSome, append-nil, BackingView, StorageView, HeaderFields, cluster_size, Pending, KeepsFormat, l1_format, SameLeaks, l2_pins, Allocator, ImageFile, contents_in, known_in, InternalFileStep, InternalFileGrowth, file_step_on, IsAllocatorOf, Qcow2, Prepared, leaked_by, leaked_in, InternalStep, ListGrows, InternalFreeingStep, cluster_of, HasL1Table, IsReadyWith, ImageInvariant, IsAt, Mappings}
use Rattle.qcow2_image.proofs.Images.Formats.{l1_shared, ready_format}
use Rattle.qcow2_image.proofs.Images.Ready.{still_ready}

-- an allocator that leaked nothing leaves the number of its image
pub leaked_still : {S F : Type 0} (image : Qcow2 S F) (before after : Allocator) → image.allocator ≡ Some before → SameLeaks before after → leaked_by (Some after) ≡ leaked_in image
leaked_still image before after is same = same ∙ ap leaked_by (sym is)

module _ {S F : Type 0} (view : S → StorageView) (backing : F → BackingView) (old : Qcow2 S F) (out : Mappings) (p p' : Pending) (sound : ImageInvariant view backing p old out)
    (file : ImageFile S) (allocator : Option Allocator) (file_step : InternalFileGrowth view p p' old.file file) (reftable : IfSome allocator (IsAllocatorOf view file)) (leaks : leaked_by allocator ≡ leaked_in old)
    (pins : (table : ℕ) → l2_pins file.caches table ≡ l2_pins old.file.caches table) where
  abbrev h : HeaderFields
  h = old.file.header.fields

  header : KeepsFormat h file.header.fields
  header = file_step.unseen.header

  l1_moved : HasL1Table view backing file old.l1_table
  l1_moved = record {
    cluster = λ some. sound.l1_table.cluster (subst (λ (x : HeaderFields). 0 < x.l1_entries) header some) ∙ ap (λ (x : HeaderFields). Some (x.l1_offset / cluster_size x)) (sym header);
    bits = sound.l1_table.bits ∙ ap (λ (x : HeaderFields). x.cluster_bits) (sym header);
    count = sound.l1_table.count ∙ ap (λ (x : HeaderFields). x.l1_entries) (sym header);
    entries = λ i. sound.l1_table.entries i ∙ sym (file_step.l1_table i) ∙ sym (l1_format h file.header.fields header (contents_in view file) i);
  }

  ready_moved : (k : ℕ) (q : Prepared) → IsReadyWith h out.place (known_in view old.file) (contents_in view old.file) q q.table → IsReadyWith file.header.fields out.place (known_in view file) (contents_in view file) q q.table
  ready_moved k q ready =
      ready_format h file.header.fields header (known_in view file) (contents_in view file) out.place q q.table
      (still_ready h out.place (known_in view old.file) (contents_in view old.file) (known_in view file) (contents_in view file) q sound.file.caches.kept.kept.crash_invariant.same_top.l1
      (λ i. l1_shared h file.header.fields header (contents_in view file) (known_in view file) i (file_step.sound.caches.kept.kept.crash_invariant.same_top.l1 i)) (λ i copied. file_step.l1_table i) (λ i. file_step.unseen.covers (cluster_of h q + i)) q.table ready)

  pub file_tidied : InternalFreeingStep view backing p p' old (record old { file = file; allocator = allocator }) out
  file_tidied = record {
    sound = record {
      works = sound.works;
      file = file_step.sound;
      l1_table = l1_moved;
      reftable = reftable;
      stands = subst (λ bits. IsAt view backing out.place bits old.data_file) (sym (ap (λ (k : HeaderFields). k.incompatible) header)) sound.stands;
      below = sound.below;
      ready = λ k q at. let r = sound.ready k q at in record { own = r.own; mapped = ready_moved k q r.mapped };
      pinned = λ table. pins table ∙ sound.pinned table;
      once = sound.once;
    };
    safe_step = file_step.safe_step;
    since = file_step.since;
    unseen = file_step.unseen;
    copied = λ i copied. file_step.l1_table i;
    below = refl;
    leaks = leaks;
  }

  pub file_moved_on : ListGrows old (record old { file = file; allocator = allocator }) → InternalStep view backing p p' old (record old { file = file; allocator = allocator }) out
  file_moved_on list = record {
    sound = file_tidied.sound;
    safe_step = file_tidied.safe_step;
    since = file_tidied.since;
    unseen = file_tidied.unseen;
    copied = file_tidied.copied;
    below = file_tidied.below;
    list = list;
    leaks = leaks;
  }

-- the reftable stays, and so does the list
module _ {S F : Type 0} (view : S → StorageView) (backing : F → BackingView) (old : Qcow2 S F) (out : Mappings) (p p' : Pending) (sound : ImageInvariant view backing p old out)
    (file : ImageFile S) (allocator : Option Allocator) (file_step : InternalFileStep view p p' old.file file) (reftable : IfSome allocator (IsAllocatorOf view file)) (leaks : leaked_by allocator ≡ leaked_in old)
    (pins : (table : ℕ) → l2_pins file.caches table ≡ l2_pins old.file.caches table) where
  pub file_moved : file.free_list ≡ old.file.free_list → InternalStep view backing p p' old (record old { file = file; allocator = allocator }) out
  file_moved list = file_moved_on view backing old out p p' sound file allocator (file_step_on view p p' old.file file file_step) reftable leaks pins (record { more = []; is = list ∙ sym (append-nil old.file.free_list) })
