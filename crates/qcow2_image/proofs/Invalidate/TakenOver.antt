-- Tables are read with a header without names, and replace those in memory together with their pointers.
use Rattle.std.proofs.Common.{◌≡◌, ◌<◌, ◌≤◌, ◌∙◌, ◌&&◌, is_none, is_some, Bool, false, true, ℕ, IsTrue, inl, inr, List, Option, Some, None, Result, Ok, Err, refl, sym, ap, subst}
use Rattle.qcow2_image.proofs.Common.{cases_lt, IfSome, OnErr, BackingView, StorageView, EntryTableView, HeaderView, has_data_file, with_fields, with_tables_of, HeaderFields, Pending, view_in, HasReftable, IsAllocatorOf, Allocator, MetadataCaches, ImageError, ImageFile, KeepsTablesBehind, NamesTablesBehind, TablesBehindHeader, CountsImageFaults, ReportsEach, HasL1Table, ImageInvariant, KeepsTables, ReadsTables, ReplacesTables, reftable_in, InternalStep, Qcow2, Prepared, Mappings}
use Rattle.qcow2_image.proofs.Invalidate.Reading.{behind_silent, stays_over, takes_over}

-- the image with this header in memory
abbrev pub with_header : {S F : Type 0} → Qcow2 S F → HeaderView → Qcow2 S F
with_header image v = record image { file = record image.file { header = v } }

-- ---- names don't matter

-- a header with other numbers, which are the same
renumbered : (w : HeaderView) (h : HeaderFields) → w.fields ≡ h → record w { fields = h } ≡ w
renumbered w h same = ap (λ (f : HeaderFields). record w { fields = f }) (sym same)

module _ {S F : Type 0} (view : S → StorageView) (backing : F → BackingView) (p : Pending) (out : Mappings) where
  own_named : (file : ImageFile S) (w : HeaderView) (o : Option Allocator) → IfSome o (IsAllocatorOf view file) → IfSome o (IsAllocatorOf view (record file { header = record w { fields = file.header.fields } }))
  own_named file w None own = tt
  own_named file w (Some a) own = record {
    reftable = record { cluster = own.reftable.cluster; bits = own.reftable.bits; count = own.reftable.count; entries = own.reftable.entries };
    hint = own.hint;
  }

  sound_same : (image : Qcow2 S F) (w : HeaderView) → ImageInvariant view backing p image out → ImageInvariant view backing p (with_header image (record w { fields = image.file.header.fields })) out
  sound_same image w sound = record {
    works = sound.works;
    file = record { honest = sound.file.honest; caches = sound.file.caches; named_blocks = sound.file.named_blocks; room = sound.file.room };
    l1_table = record { cluster = sound.l1_table.cluster; bits = sound.l1_table.bits; count = sound.l1_table.count; entries = sound.l1_table.entries };
    reftable = own_named image.file w image.allocator sound.reftable;
    stands = sound.stands;
    below = sound.below;
    ready = λ k q at. let r = sound.ready k q at in record { own = r.own; mapped = r.mapped };
    pinned = sound.pinned;
    once = sound.once;
  }

  pub sound_named : (image : Qcow2 S F) (w : HeaderView) → w.fields ≡ image.file.header.fields → ImageInvariant view backing p image out → ImageInvariant view backing p (with_header image w) out
  sound_named image w same sound = subst (λ (x : HeaderView). ImageInvariant view backing p (with_header image x) out) (renumbered w image.file.header.fields same) (sound_same image w sound)

  step_same : (a b : Qcow2 S F) (w w' : HeaderView) → InternalStep view backing p p a b out → InternalStep view backing p p (with_header a (record w { fields = a.file.header.fields })) (with_header b (record w' { fields = b.file.header.fields })) out
  step_same a b w w' step = record {
    sound = sound_same b w' step.sound;
    safe_step = step.safe_step;
    since = step.since;
    unseen = step.unseen;
    copied = step.copied;
    below = step.below;
    list = record { more = step.list.more; is = step.list.is };
    leaks = step.leaks;
  }

  pub step_named : (a b : Qcow2 S F) (w w' : HeaderView) → w.fields ≡ a.file.header.fields → w'.fields ≡ b.file.header.fields → InternalStep view backing p p a b out → InternalStep view backing p p (with_header a w) (with_header b w') out
  step_named a b w w' same same' step =
      subst (λ (x : HeaderView). InternalStep view backing p p (with_header a x) (with_header b w') out) (renumbered w a.file.header.fields same)
      (subst (λ (x : HeaderView). InternalStep view backing p p (with_header a (record w { fields = a.file.header.fields })) (with_header b x) out) (renumbered w' b.file.header.fields same') (step_same a b w w' step))

  -- a part that began with these places in memory, which were those of the header that is put back, or takes them over
  pub step_over : (old mid : Qcow2 S F) (w v : HeaderView) → w.fields ≡ old.file.header.fields → mid.file.header ≡ w → v.fields ≡ old.file.header.fields → InternalStep view backing p p (with_header old w) mid out → InternalStep view backing p p old (with_header mid v) out
  step_over old mid w v same stays is step =
      step_named (with_header old w) mid old.file.header v (sym same) (is ∙ sym same ∙ ap (λ (x : HeaderView). x.fields) (sym stays)) step

-- ---- what doesn't depend on what is pending

module _ {S F : Type 0} (view : S → StorageView) (backing : F → BackingView) where
  -- tables that were loaded by the same numbers
  l1_same : (file : ImageFile S) (w : HeaderView) (t : EntryTableView) → HasL1Table view backing file t → HasL1Table view backing (record file { header = record w { fields = file.header.fields } }) t
  l1_same file w t has = record { cluster = has.cluster; bits = has.bits; count = has.count; entries = has.entries }

  reftable_same : (file : ImageFile S) (w : HeaderView) (o : Option Allocator) → IfSome o (λ a. HasReftable view file a.reftable) → IfSome o (λ a. HasReftable view (record file { header = record w { fields = file.header.fields } }) a.reftable)
  reftable_same file w None has = tt
  reftable_same file w (Some a) has = record { cluster = has.cluster; bits = has.bits; count = has.count; entries = has.entries }

  pub tables_named : (file : ImageFile S) (w : HeaderView) (t : EntryTableView) (o : Option Allocator) → w.fields ≡ file.header.fields → HasL1Table view backing file t × IfSome o (λ a. HasReftable view file a.reftable)
      → HasL1Table view backing (record file { header = w }) t × IfSome o (λ a. HasReftable view (record file { header = w }) a.reftable)
  tables_named file w t o same has =
      subst (λ (x : HeaderView). HasL1Table view backing (record file { header = x }) t × IfSome o (λ a. HasReftable view (record file { header = x }) a.reftable)) (renumbered w file.header.fields same) (l1_same file w t has.0, reftable_same file w o has.1)

  -- what it counts
  told_named : {T : Type 0} (old mid : Qcow2 S F) (w v : HeaderView) (r : Result T ImageError) → ReportsEach view backing (with_header old w) mid r → ReportsEach view backing old (with_header mid v) r
  told_named old mid w v (Ok x) told = record { storage = told.storage; below = told.below; beside = told.beside }
  told_named old mid w v (Err e) told = λ other. let same = told other in record { storage = same.storage; below = same.below; beside = same.beside }

  pub counts_named : {T : Type 0} (old mid : Qcow2 S F) (w v : HeaderView) (r : Result T ImageError) → CountsImageFaults view backing (with_header old w) mid r → CountsImageFaults view backing old (with_header mid v) r
  counts_named old mid w v r counts = record {
    no_fewer = record { storage = counts.no_fewer.storage; below = counts.no_fewer.below; beside = counts.no_fewer.beside };
    rose = counts.rose;
    told = told_named old mid w v r counts.told;
  }

-- ---- what the part leaves

module _ {S F : Type 0} (view : S → StorageView) (old mid : Qcow2 S F) (w : HeaderView) (read : ReadsTables view (with_header old w) mid) where
  pub header_stays : mid.file.header ≡ w
  header_stays = ap (λ (i : Qcow2 S F). i.file.header) read.rest

  data_stay : mid.data_file ≡ old.data_file
  data_stay = ap (λ (i : Qcow2 S F). i.data_file) read.rest

  module _ (v : HeaderView) (others : w.fields ≡ with_tables_of old.file.header.fields w.fields) (is : v ≡ with_fields old.file.header (with_tables_of old.file.header.fields w.fields)) where
    pub places_taken : v.fields ≡ w.fields
    places_taken = ap (λ (x : HeaderView). x.fields) is ∙ sym others

    behind_taken : NamesTablesBehind v.fields → KeepsTablesBehind old.file.header.fields.cluster_bits old.l1_table (view_in view old.file) old.file.caches old.allocator v.fields.cluster_bits mid.l1_table (view_in view mid.file) mid.file.caches mid.allocator
    behind_taken names =
        let bits : w.fields.cluster_bits ≡ old.file.header.fields.cluster_bits = ap (λ (h : HeaderFields). h.cluster_bits) others in
        let last : mid.file.header.fields.cluster_bits ≡ v.fields.cluster_bits = ap (λ (x : HeaderView). x.fields.cluster_bits) header_stays ∙ sym (ap (λ (h : HeaderFields). h.cluster_bits) places_taken) in
        subst (λ n. KeepsTablesBehind n old.l1_table (view_in view old.file) old.file.caches old.allocator v.fields.cluster_bits mid.l1_table (view_in view mid.file) mid.file.caches mid.allocator) bits
        (subst (λ n. KeepsTablesBehind w.fields.cluster_bits old.l1_table (view_in view old.file) old.file.caches old.allocator n mid.l1_table (view_in view mid.file) mid.file.caches mid.allocator) last (read.part.header_cluster (subst NamesTablesBehind places_taken names)))

    pub all_taken : ReplacesTables view old (with_header mid v)
    all_taken = record {
      part = record {
        stays = record {
          image = record {
            number = read.part.stays.image.number;
            size = ap (λ (x : HeaderView). x.fields.size) is;
            writable = read.part.stays.image.writable;
            lacks = ap (λ (x : HeaderView). has_data_file x.fields && is_none mid.data_file) is ∙ ap (λ (d : Option S). has_data_file old.file.header.fields && is_none d) data_stay;
            beside = ap (λ (d : Option S). is_some d) data_stay;
          };
          failed = read.part.stays.failed;
        };
        notes = read.part.notes;
        header_cluster = behind_taken;
      };
      rest = ap (λ (i : Qcow2 S F). with_header i v) read.rest;
      header = takes_over old.file.header v w.fields is;
      leaks = read.leaks;
      silent = read.silent;
    }

  module _ (tables : (mid.l1_table ≡ old.l1_table) × (mid.allocator ≡ old.allocator)) where
    behind_kept : (bits : ℕ) → TablesBehindHeader bits old.file.header.fields.cluster_bits old.l1_table old.file.caches old.allocator → TablesBehindHeader bits old.file.header.fields.cluster_bits mid.l1_table old.file.caches mid.allocator
    behind_kept bits lies =
        subst (λ (t : EntryTableView). TablesBehindHeader bits old.file.header.fields.cluster_bits t old.file.caches mid.allocator) (sym tables.0)
        (subst (λ (o : Option Allocator). TablesBehindHeader bits old.file.header.fields.cluster_bits old.l1_table old.file.caches o) (sym tables.1) lies)

    behind_none_taken : KeepsTablesBehind old.file.header.fields.cluster_bits old.l1_table (view_in view old.file) old.file.caches old.allocator old.file.header.fields.cluster_bits mid.l1_table (view_in view mid.file) mid.file.caches mid.allocator
    behind_none_taken =
        subst (λ (m : MetadataCaches S). KeepsTablesBehind old.file.header.fields.cluster_bits old.l1_table (view_in view old.file) old.file.caches old.allocator old.file.header.fields.cluster_bits mid.l1_table (view_in view mid.file) m mid.allocator) (sym (ap (λ (i : Qcow2 S F). i.file.caches) read.rest))
        (behind_silent {own = old.file.header.fields.cluster_bits} {own' = old.file.header.fields.cluster_bits} {l1 = old.l1_table} {l1' = mid.l1_table} {v = view_in view old.file} {v' = view_in view mid.file} {caches = old.file.caches} {o = old.allocator} {o' = mid.allocator} behind_kept read.silent)

    pub none_taken : ReplacesTables view old (with_header mid old.file.header)
    none_taken = record {
      part = record {
        stays = record {
          image = record { number = read.part.stays.image.number; size = refl; writable = read.part.stays.image.writable; lacks = ap (λ (d : Option S). has_data_file old.file.header.fields && is_none d) data_stay; beside = ap (λ (d : Option S). is_some d) data_stay };
          failed = read.part.stays.failed;
        };
        notes = read.part.notes;
        header_cluster = λ names. behind_none_taken;
      };
      rest = ap (λ (i : Qcow2 S F). with_header i old.file.header) read.rest;
      header = stays_over old.file.header old.file.header refl;
      leaks = read.leaks;
      silent = read.silent;
    }

    pub tables_kept : KeepsTables old (with_header mid old.file.header)
    tables_kept = record { header = refl; l1_table = tables.0; reftable = ap (λ (o : Option Allocator). reftable_in (record mid { allocator = o })) tables.1 }

-- tables are kept by one part after another
pub kept_then : {S F : Type 0} {a b c : Qcow2 S F} → KeepsTables a b → KeepsTables b c → KeepsTables a c
kept_then first then = record { header = then.header ∙ first.header; l1_table = then.l1_table ∙ first.l1_table; reftable = then.reftable ∙ first.reftable }

-- what holds in any case holds of a refusal
pub on_refused : {A E : Type 0} {P : Type 0} (r : Result A E) → P → OnErr r P
on_refused (Ok x) holds = tt
on_refused (Err e) holds = holds

pub on_refused_map : {A E : Type 0} {P Q : Type 0} (r : Result A E) → (P → Q) → OnErr r P → OnErr r Q
on_refused_map (Ok x) follows holds = tt
on_refused_map (Err e) follows holds = follows holds

-- if a number is not reported as above a limit
pub not_above : (limit n : ℕ) (b : Bool) → b ≡ false → (limit < n → IsTrue b) → n ≤ limit
not_above limit n b isnt above = elim (cases_lt limit n) [
  | inl more ↦ absurd (let yes : b ≡ true = above more in let bad : false ≡ true = sym isnt ∙ yes in cc)
  | inr most ↦ most
]
