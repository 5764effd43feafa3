use Rattle.qcow2_image.proofs.Lemmas.{pins_kept, discards, untouched, behind_by, behind_none, behind_tables, behind_then}
use Rattle.std.proofs.Common.{◌≡◌, ◌-◌, ℕ, refl, sym, ap, ◌∙◌, subst, rules}
use Rattle.qcow2_image.proofs.Common.{SameTables, l2_pins, Qcow2, contents_in, ReleasesOneMapping, Discards, pins_of, AreClean}
use Rattle.qcow2_image.proofs.image.Qcow2.release_prepared.Goals as goal

pub returns-clause-sees : goal.returns-clause-sees
returns-clause-sees g c =
    let view = g.S.Storage.view in
    let below = g.F.BackingDisk.backing in
    let old = c.args.self.now in
    let p = c.args.prepared in
    let caches = c.unpin.new.self.file.caches in
    let freed = c.list_new_clusters.ensures in
    let un = c.unpin.ensures in
    let same = un.rest ∙ ap (λ (m : Qcow2 _ _). record m { file = record m.file { caches = caches } }) freed in
    let tables : SameTables old.file.caches caches = subst (λ (m : Qcow2 _ _). SameTables m.file.caches caches) freed un.tables in
    let pins : (n : ℕ) → l2_pins caches n ≡ l2_pins old.file.caches n - pins_of p.table n = λ n. un.pins n ∙ ap (λ (m : Qcow2 _ _). l2_pins m.file.caches n - pins_of p.table n) freed in
    subst (λ (image : Qcow2 _ _). Discards view below old image p) (sym same) (discards view below old p caches tables pins)

pub returns-clause-rest : goal.returns-clause-rest
returns-clause-rest g c =
    let view = g.S.Storage.view in
    let old = c.args.self.now in
    let caches = c.unpin.new.self.file.caches in
    let freed = c.list_new_clusters.ensures in
    let un = c.unpin.ensures in
    let same = un.rest ∙ ap (λ (m : Qcow2 _ _). record m { file = record m.file { caches = caches } }) freed in
    let tables : SameTables old.file.caches caches = subst (λ (m : Qcow2 _ _). SameTables m.file.caches caches) freed un.tables in
    let changed : caches.is_changed ≡ old.file.caches.is_changed = un.changed ∙ ap (λ (m : Qcow2 _ _). m.file.caches.is_changed) freed in
    let counted : caches.changes ≡ old.file.caches.changes = un.counted ∙ ap (λ (m : Qcow2 _ _). m.file.caches.changes) freed in
    subst (λ (image : Qcow2 _ _). ReleasesOneMapping view old image) (sym same) (record { rest = refl; held = tables.l2_at; known = tables.known old.file.header.fields (contents_in view old.file); changed = changed; counted = counted; written = λ all. (subst AreClean (sym tables.l2_tables) all.0, subst AreClean (sym tables.refblocks) all.1) })

pub returns-clause-faults : goal.returns-clause-faults
returns-clause-faults g c =
    untouched g.S.Storage.view g.F.BackingDisk.backing c.args.self.now c.unpin.new.self
    (ap (λ (m : Qcow2 _ _). m.file.storage) c.unpin.ensures.rest ∙ ap (λ (m : Qcow2 _ _). m.file.storage) c.list_new_clusters.ensures)
    (ap (λ (m : Qcow2 _ _). m.backing) c.unpin.ensures.rest ∙ ap (λ (m : Qcow2 _ _). m.backing) c.list_new_clusters.ensures)
    (ap (λ (m : Qcow2 _ _). m.data_file) c.unpin.ensures.rest ∙ ap (λ (m : Qcow2 _ _). m.data_file) c.list_new_clusters.ensures)

pub returns-clause-step : goal.returns-clause-step
returns-clause-step g c = record {
  stays = search rules;
  notes = pins_kept c.args.self.now c.unpin.new.self (ap (λ (m : Qcow2 _ _). m.file.storage) c.unpin.ensures.rest ∙ ap (λ (m : Qcow2 _ _). m.file.storage) c.list_new_clusters.ensures)
      (c.unpin.ensures.changed ∙ ap (λ (m : Qcow2 _ _). m.file.caches.is_changed) c.list_new_clusters.ensures) (c.unpin.ensures.counted ∙ ap (λ (m : Qcow2 _ _). m.file.caches.changes) c.list_new_clusters.ensures);
  header_cluster = behind_then (behind_by g.S.Storage.view c.list_new_clusters.ensures behind_none) (behind_by g.S.Storage.view c.unpin.ensures.rest (behind_tables c.unpin.ensures.tables.behind));
}
