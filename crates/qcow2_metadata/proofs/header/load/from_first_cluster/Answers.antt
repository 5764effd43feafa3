use Rattle.qcow2_metadata.proofs.Common.{option_copied, refl, subst, ◌∙◌, arith, rules, tests, byte_at, IsWithinLimits, AreNamed}
use Rattle.qcow2_metadata.proofs.ShortNames.{cluster_small, kept}
use Rattle.qcow2_metadata.proofs.header.load.from_first_cluster.Goals as goal

pub read_extensions-requires-clause-few : goal.read_extensions-requires-clause-few
read_extensions-requires-clause-few c = omega (arith, c.requires.whole, cluster_small c.args.fields c.requires.in_range)

pub invariant_of-result : goal.invariant_of-result
invariant_of-result c =
    let limits : IsWithinLimits c.args.fields = search (rules, tests) in
    kept c.args.fields (byte_at c.args.cluster.now) _ _ _ c.requires.in_range limits c.in_ok-backing_name.ensures.ok
    (c.in_ok-owned.ensures ∙ c.in_ok-backing_name.ensures.name)
    (rw (c.in_ok-owned-2.ensures, c.in_ok-owned-3.ensures, ← c.requires.whole) c.in_ok-names.ensures.ok)

pub returns-clause-ok : goal.returns-clause-ok
returns-clause-ok c =
    let limits : IsWithinLimits c.args.fields = search (rules, tests) in
    let names = subst (λ n. AreNamed (byte_at c.args.cluster.now) n c.args.fields.header_length (option_copied c.in_ok-names.names.backing_format) (option_copied c.in_ok-names.names.data_file_name)) c.requires.whole c.in_ok-names.ensures.ok in
    record {
      fields = refl;
      reads = record {
        well_formed = record { in_range = c.requires.in_range; extensions = names.reads; backing_name = c.in_ok-backing_name.ensures.ok };
        within_limits = limits;
      };
      backing_name = c.in_ok-owned.ensures ∙ c.in_ok-backing_name.ensures.name;
      backing_format = c.in_ok-owned-2.ensures ∙ names.backing_format;
      data_file_name = c.in_ok-owned-3.ensures ∙ names.data_file_name;
    }
