use Rattle.std.proofs.Common.{◌≡◌, ◌+◌, ◌-◌, ◌/◌, min, sym, ap, ◌∙◌, subst, arith, rules, Ok}
use Rattle.qcow2_image.proofs.Common.{cluster_size, HeaderFields, header_format, Prepared, FindsBehind, IsExtended, cover, IsCopiedCompressed, known_in}
use Rattle.qcow2_image.proofs.Lemmas.{extended, hands_limit, hands_alone}
use Rattle.qcow2_image.proofs.image.Qcow2.prepare_next.Goals as goal

pub returns-in_default-clause-sound : goal.returns-in_default-clause-sound
returns-in_default-clause-sound g c = λ out k at may sound.
    record {
      may_fail = search rules;
      limit = search rules;
      does = subst (λ v. FindsBehind g.S.Storage.view g.F.BackingDisk.backing c.args.self.now c.cluster_mapping_behind.new.self out c.args.length c.args.overwrite c.args.prepared.now (Ok v)) c.in_default.is ((c.in_ok-cluster_mapping.ensures.sound out k at may sound).does);
    }

pub returns-clause-sound : goal.returns-clause-sound
returns-clause-sound g c = λ out k at may sound.
    let view = g.S.Storage.view in
    let below = g.F.BackingDisk.backing in
    let old = c.args.self.now in
    let mid = c.cluster_mapping_behind.new.self in
    let p = c.args.prepared.now in
    let found = subst (λ v. FindsBehind view below old mid out c.args.length c.args.overwrite c.args.prepared.now (Ok v)) c.in-Some.is ((c.in_ok-cluster_mapping.ensures.sound out k at may sound).does) in
    let size : c.cluster_size-size.result ≡ cluster_size old.file.header.fields = c.cluster_size-size.ensures.value ∙ ap (λ (x : HeaderFields). cluster_size x) (header_format old.file.header mid.file.header c.cluster_mapping_behind.ensures.step.header) in
    record {
      may_fail = search rules;
      limit = search rules;
      does = let longer : c.min-prepared.result ≡ min c.args.length (p.length + cluster_size old.file.header.fields) =
          let a = c.min-prepared.ensures in let b = c.saturating_add.ensures in let few = c.ranges.length.fits in omega arith in
          let like : Prepared = record p { clusters = c.push_reserved.new.self } in
          subst (λ l. IsExtended view below old mid out k c.args.length c.args.overwrite p (record p { length = l; clusters = c.push_reserved.new.self })) (sym longer)
          (extended view below old mid out k p at c.args.length c.args.table c.args.overwrite may c.in-Some.cluster_mapping found like c.push_reserved.ensures.items sound.file.caches.kept.kept.crash_invariant);
    }

pub returns-in_err-cluster_mapping-clause-sound : goal.returns-in_err-cluster_mapping-clause-sound
returns-in_err-cluster_mapping-clause-sound g c = λ out k at may sound.
    let old = c.args.self.now in
    let p = c.args.prepared.now in
    let h = old.file.header.fields in
    record {
      does = search rules;
      may_fail = hands_alone (IsCopiedCompressed h (cover h (known_in g.S.Storage.view old.file) ((p.guest + p.length) / cluster_size h)) (p.guest + p.length) (c.args.length - p.length) c.args.overwrite) ⊥ c.from_residual.result c.in_err-cluster_mapping.field-0.0 c.from_residual.ensures ((c.in_err-cluster_mapping.ensures.sound out k at may sound).may_fail);
      limit = hands_limit c.from_residual.result c.in_err-cluster_mapping.field-0.0 c.from_residual.ensures ((c.in_err-cluster_mapping.ensures.sound out k at may sound).limit);
    }
