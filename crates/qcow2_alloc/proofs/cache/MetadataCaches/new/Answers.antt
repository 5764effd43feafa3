use Rattle.qcow2_alloc.proofs.Common.{rules, false, ap, ◌∙◌, refl}
use Rattle.qcow2_alloc.specs.declared.cache.Direction.TheVariants as D
use Rattle.qcow2_alloc.proofs.KeptTables.Empty.{known_of_empty, sound_empty}
use Rattle.qcow2_alloc.proofs.KeptTables.BehindHeader.{empty_behind}
use Rattle.qcow2_alloc.proofs.cache.MetadataCaches.new.Goals as goal

pub returns : goal.returns
returns g c = record {
  sound = λ p on_storage. sound_empty c.args.header.now.fields (record { l2 = c.in_ok-l2.l2; rb = c.in_ok-rb.rb; direction = D.None; is_changed = false; changes = 0 }) (ap (λ x. x.entries) c.in_ok-l2.ensures) (ap (λ x. x.entries) c.in_ok-rb.ensures)
      (ap (λ x. x.backend.header.fields) c.in_ok-l2.ensures ∙ c.new.ensures) (ap (λ x. x.backend.header.fields) c.in_ok-rb.ensures ∙ c.new-3.ensures) refl p on_storage;
  known = known_of_empty c.args.header.now.fields (record { l2 = c.in_ok-l2.l2; rb = c.in_ok-rb.rb; direction = D.None; is_changed = false; changes = 0 }) (ap (λ x. x.entries) c.in_ok-l2.ensures) (ap (λ x. x.entries) c.in_ok-rb.ensures);
  named_blocks = search rules;
  order = refl;
  sizes = search rules;
  room = search rules;
  pins = search rules;
  unchanged = search rules;
  all_written = search rules;
  header_cluster = empty_behind c.args.header.now.fields.cluster_bits (record { l2 = c.in_ok-l2.l2; rb = c.in_ok-rb.rb; direction = D.None; is_changed = false; changes = 0 }) (ap (λ x. x.entries) c.in_ok-l2.ensures) (ap (λ x. x.entries) c.in_ok-rb.ensures) (ap (λ x. x.backend.header.fields.cluster_bits) c.in_ok-l2.ensures ∙ ap (λ h. h.cluster_bits) c.new.ensures) (ap (λ x. x.backend.header.fields.cluster_bits) c.in_ok-rb.ensures ∙ ap (λ h. h.cluster_bits) c.new-3.ensures);
}
