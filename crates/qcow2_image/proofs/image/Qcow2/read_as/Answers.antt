use Rattle.std.proofs.Common.{◌≡◌, ◌+◌, ◌/◌, ◌<◌, ℕ, List, length, replicate, refl, sym, ap, ◌∙◌, subst, rules, is_some, inl}
use Rattle.qcow2_image.proofs.Common.{length-replicate, get_or-replicate, byte_at-bytes_at, length-bytes_at, byte_at, known_byte, cluster_size, cover, disk, known_of, known_in, state_in, view_in, found_kind, is_data_file, backing_bytes, disk_of, MayFailReading, IsFault, IfOk-weaker, storage_of, ImageFile, IsQuiet, ReadsAs, OnOk, Qcow2, always_ok, Image, IfOk, Shows}
use Rattle.qcow2_image.proofs.Lemmas.{reads_same, met_as}
use Rattle.qcow2_image.proofs.Map.Reading.{raw_shown, zero_shown, indirect_shown, none_below}
use Rattle.qcow2_image.proofs.Map.Held.{keeps_storage}
use Rattle.qcow2_image.proofs.image.Qcow2.read_as.Goals as goal
use Rattle.qcow2_alloc.proofs.KeptTables.Quiet.{quiet_none}
use Rattle.qcow2_image.proofs.Images.Places.{alone_of, inside_of, from_image}

pub returns-in-Indirect-clause-shows : goal.returns-in-Indirect-clause-shows
returns-in-Indirect-clause-shows g c = λ p out sound mapped.
    let image = c.args.self.now in
    let file = image.file in
    let h = file.header.fields in
    let new = c.read_backing.new.self in
    let below = backing_bytes g.S.Storage.view g.F.BackingDisk.backing image.backing in
    let same : disk_of g.S.Storage.view g.F.BackingDisk.backing Image new ≡ disk (known_in g.S.Storage.view file) below =
    ap (λ b. disk (known_in g.S.Storage.view new.file) b.1) (c.read_backing.ensures.keeps p out sound).below ∙ ap (λ f. disk (known_in g.S.Storage.view f) below) c.read_backing.ensures.file in
    from_image (λ place. IfOk c.read_backing.result (λ done. Shows (disk_of g.S.Storage.view g.F.BackingDisk.backing place new) c.args.offset c.read_backing.new.bytes)) sound (IfOk-weaker c.read_backing.result _ _
    (λ done read i lt. ap (λ d. d.value (c.args.offset + i)) same
    ∙ indirect_shown (state_in g.S.Storage.view file p) sound.file.caches.kept.kept.crash_invariant (inside_of sound) c.args.offset (length c.args.bytes.now) mapped.alike (is_some image.backing) below
    (cover h (known_in g.S.Storage.view file) (c.args.offset / cluster_size h)) refl c.in-Indirect.offset (ap found_kind (sym c.in-Indirect.is) ∙ mapped.kind_is) i (subst (λ m. i < m) read.0 lt)
    ∙ ap known_byte (sym (read.1 i lt)))
    (c.read_backing.ensures.reads sound.below))

pub returns-in-Zero-clause-shows : goal.returns-in-Zero-clause-shows
returns-in-Zero-clause-shows g c = λ p out sound mapped i lt.
    let image = c.args.self.now in
    let file = image.file in
    let h = file.header.fields in
    let n = length c.args.bytes.now in
    let filled : c.fill.new.self ≡ replicate n 0 = search rules in
    let within : i < n = subst (λ m. i < m) (ap length filled ∙ length-replicate {A = ℕ} n 0) lt in
    from_image (λ place. (disk_of g.S.Storage.view g.F.BackingDisk.backing place image).value (c.args.offset + i) ≡ known_byte (byte_at c.fill.new.self i)) sound (zero_shown (state_in g.S.Storage.view file p) sound.file.caches.kept.kept.crash_invariant (inside_of sound) c.args.offset n mapped.alike (is_some image.backing) (backing_bytes g.S.Storage.view g.F.BackingDisk.backing image.backing)
    (cover h (known_in g.S.Storage.view file) (c.args.offset / cluster_size h)) refl (none_below g.S.Storage.view g.F.BackingDisk.backing image.backing) c.in-Zero.explicit (ap found_kind (sym c.in-Zero.is) ∙ mapped.kind_is) i within
    ∙ ap known_byte (sym (ap (λ (b : List ℕ). byte_at b i) filled ∙ get_or-replicate n i 0 0 within)))

pub returns-in-Indirect-clause-fails : goal.returns-in-Indirect-clause-fails
returns-in-Indirect-clause-fails g c = record {
  faults = search rules;
  cause = met_as IsFault (MayFailReading c.args.kind.now) c.read_backing.result (λ e fault. inl fault) c.read_backing.ensures.fault;
  limited = search rules;
}

pub returns-in-Indirect-clause-step : goal.returns-in-Indirect-clause-step
returns-in-Indirect-clause-step g c = record { part = search rules; header = search rules; list = search rules; quiet = reads_same g.S.Storage.view c.args.self.now c.read_backing.new.self c.read_backing.ensures.file }

pub returns-in-Indirect-clause-quiet : goal.returns-in-Indirect-clause-quiet
returns-in-Indirect-clause-quiet g c = λ honest.
    let old = g.S.Storage.view (storage_of c.args.self.now.file.storage) in
    subst (λ (f : ImageFile _). IsQuiet old (g.S.Storage.view (storage_of f.storage))) (sym c.read_backing.ensures.file) (quiet_none old honest)

pub returns-in-Zero-clause-quiet : goal.returns-in-Zero-clause-quiet
returns-in-Zero-clause-quiet g c = quiet_none (g.S.Storage.view (storage_of c.args.self.now.file.storage))

pub returns-in-Special-clause-quiet : goal.returns-in-Special-clause-quiet
returns-in-Special-clause-quiet g c = quiet_none (g.S.Storage.view (storage_of c.args.self.now.file.storage))

pub returns-in-Eof-clause-quiet : goal.returns-in-Eof-clause-quiet
returns-in-Eof-clause-quiet g c = quiet_none (g.S.Storage.view (storage_of c.args.self.now.file.storage))

pub returns-in-Zero-clause-reads : goal.returns-in-Zero-clause-reads
returns-in-Zero-clause-reads g c =
    let n = length c.args.bytes.now in
    let filled : c.fill.new.self ≡ replicate n 0 = search rules in
    subst (λ k. ReadsAs g.S.Storage.view c.args.self.now c.args.self.now k c.fill.new.self) (sym c.in-Zero.is) (filled ∙ ap (λ m. replicate m 0) (sym (ap length filled ∙ length-replicate {A = ℕ} n 0)))

pub returns-in-Indirect-clause-reads : goal.returns-in-Indirect-clause-reads
returns-in-Indirect-clause-reads g c = always_ok c.read_backing.result (subst (λ k. ReadsAs g.S.Storage.view c.args.self.now c.read_backing.new.self k c.read_backing.new.bytes) (sym c.in-Indirect.is) tt)

pub returns-in-Raw-clause-shows : goal.returns-in-Raw-clause-shows
returns-in-Raw-clause-shows g c = λ p out sound mapped.
    let view = g.S.Storage.view in
    let file = c.args.self.now.file in
    let h = file.header.fields in
    let below = backing_bytes view g.F.BackingDisk.backing c.args.self.now.backing in
    let contents = (view_in view file).contents in
    let n = length c.args.bytes.now in
    from_image (λ place. IfOk c.read_data.result (λ done. Shows (disk_of view g.F.BackingDisk.backing place c.read_data.new.self) c.args.offset c.read_data.new.bytes)) sound (IfOk-weaker c.read_data.result _ _
    (λ done read i lt.
    let within : i < n = subst (λ m. i < m) (ap length read ∙ length-bytes_at contents c.in-Raw.offset n) lt in
    ap (λ (image : Qcow2 _ _). (disk_of view g.F.BackingDisk.backing Image image).value (c.args.offset + i)) c.read_data.ensures.data.rest
    ∙ ap (λ (bytes : List ℕ). (disk (known_of h file.caches (byte_at bytes)) below).value (c.args.offset + i)) (c.read_data.ensures.data.same sound.file.honest)
    ∙ raw_shown (state_in view file p) sound.file.caches.kept.kept.crash_invariant (inside_of sound) c.args.offset n mapped.alike (is_some c.args.self.now.backing) below
    (cover h (known_in view file) (c.args.offset / cluster_size h)) refl (is_data_file c.in-Raw.place) c.in-Raw.offset c.in-Raw.writable (ap found_kind (sym c.in-Raw.is) ∙ mapped.kind_is) i within
    ∙ ap known_byte (sym (ap (λ (b : List ℕ). byte_at b i) read ∙ byte_at-bytes_at contents c.in-Raw.offset n i within)))
    (c.read_data.ensures.own (alone_of sound) sound.file.honest))

pub returns-in-Raw-clause-fails : goal.returns-in-Raw-clause-fails
returns-in-Raw-clause-fails g c = record {
  faults = c.read_data.ensures.fails.faults;
  cause = met_as IsFault (MayFailReading c.args.kind.now) c.read_data.result (λ e fault. inl fault) c.read_data.ensures.fails.cause;
  limited = search rules;
}

pub returns-in-Raw-clause-tables : goal.returns-in-Raw-clause-tables
returns-in-Raw-clause-tables g c = keeps_storage c.args.self.now c.read_data.new.self c.read_data.new.self.file.storage c.read_data.new.self.data_file c.read_data.ensures.data.rest c.read_data.ensures.step.part.stays.image.beside

pub returns-in-Raw-clause-reads : goal.returns-in-Raw-clause-reads
returns-in-Raw-clause-reads g c = subst (λ k. OnOk c.read_data.result (ReadsAs g.S.Storage.view c.args.self.now c.read_data.new.self k c.read_data.new.bytes)) (sym c.in-Raw.is) c.read_data.ensures.reads
