use Rattle.std.proofs.Common.{◌≡◌, ◌↔◌, ◌∙◌, false, rules, sym, true, IsTrue}
use Rattle.qcow2_image.proofs.Common.{CanBeNew, backing_format_in, backing_name_in, data_file_name_in}
use Rattle.qcow2_image.proofs.Create.Causes.{is_allowed, no_such_header, too_long}
use Rattle.qcow2_image.proofs.builder.Qcow2CreateBuilder.check.Goals as goal

pub returns-then-not-fits-clause-cause : goal.returns-then-not-fits-clause-cause
returns-then-not-fits-clause-cause g c =
    let fits : IsTrue c.fits.result ↔ CanBeNew c.in-Some.cluster_bits c.in-Some-power_of_two.refcount_order (backing_name_in c.args.self.now) (backing_format_in c.args.self.now) (data_file_name_in c.args.self.now) = search rules in
    no_such_header c.args.self.now c.in-Some.cluster_bits c.in-Some-power_of_two.refcount_order c.in-Some.ensures.some c.in-Some-power_of_two.ensures.some (λ can. absurd (let so = fits.1 can in let bad : true ≡ false = sym so ∙ c.if-not-fits.true in cc))

pub returns-then-not-fits-clause-over : goal.returns-then-not-fits-clause-over
returns-then-not-fits-clause-over g c =
    let fits : IsTrue c.fits.result ↔ CanBeNew c.in-Some.cluster_bits c.in-Some-power_of_two.refcount_order (backing_name_in c.args.self.now) (backing_format_in c.args.self.now) (data_file_name_in c.args.self.now) = search rules in
    λ allowed is. absurd (no_such_header c.args.self.now c.in-Some.cluster_bits c.in-Some-power_of_two.refcount_order c.in-Some.ensures.some c.in-Some-power_of_two.ensures.some (λ can. absurd (let so = fits.1 can in let bad : true ≡ false = sym so ∙ c.if-not-fits.true in cc)) allowed)

pub returns-then-not-fits-clause-limit : goal.returns-then-not-fits-clause-limit
returns-then-not-fits-clause-limit g c =
    let fits : IsTrue c.fits.result ↔ CanBeNew c.in-Some.cluster_bits c.in-Some-power_of_two.refcount_order (backing_name_in c.args.self.now) (backing_format_in c.args.self.now) (data_file_name_in c.args.self.now) = search rules in
    λ allowed no long. absurd (no_such_header c.args.self.now c.in-Some.cluster_bits c.in-Some-power_of_two.refcount_order c.in-Some.ensures.some c.in-Some-power_of_two.ensures.some (λ can. absurd (let so = fits.1 can in let bad : true ≡ false = sym so ∙ c.if-not-fits.true in cc)) allowed)

pub returns-then-allocates_over-clause-refused : goal.returns-then-allocates_over-clause-refused
returns-then-allocates_over-clause-refused g c =
    let fits : IsTrue c.fits.result ↔ CanBeNew c.in-Some.cluster_bits c.in-Some-power_of_two.refcount_order (backing_name_in c.args.self.now) (backing_format_in c.args.self.now) (data_file_name_in c.args.self.now) = search rules in
    λ none. absurd (none (is_allowed c.args.self.now (c.in-Some.cluster_bits, c.in-Some-power_of_two.refcount_order) (record { clusters = c.in-Some.ensures.some; counts = c.in-Some-power_of_two.ensures.some; can_be_new = fits.0 c.if-not-fits.false })))

pub returns-then-not-has_l1_entries-clause-refused : goal.returns-then-not-has_l1_entries-clause-refused
returns-then-not-has_l1_entries-clause-refused g c =
    let fits : IsTrue c.fits.result ↔ CanBeNew c.in-Some.cluster_bits c.in-Some-power_of_two.refcount_order (backing_name_in c.args.self.now) (backing_format_in c.args.self.now) (data_file_name_in c.args.self.now) = search rules in
    λ none. absurd (none (is_allowed c.args.self.now (c.in-Some.cluster_bits, c.in-Some-power_of_two.refcount_order) (record { clusters = c.in-Some.ensures.some; counts = c.in-Some-power_of_two.ensures.some; can_be_new = fits.0 c.if-not-fits.false })))

pub returns-then-not-has_l1_entries-clause-cause : goal.returns-then-not-has_l1_entries-clause-cause
returns-then-not-has_l1_entries-clause-cause g c =
    too_long c.args.self.now _ c.in-Some.ensures.some (λ le. absurd (let so = c.has_l1_entries.ensures.1 le in let bad : true ≡ false = sym so ∙ c.if-not-has_l1_entries.true in cc))

pub returns-clause-fits : goal.returns-clause-fits
returns-clause-fits g c =
    let fits : IsTrue c.fits.result ↔ CanBeNew c.in-Some.cluster_bits c.in-Some-power_of_two.refcount_order (backing_name_in c.args.self.now) (backing_format_in c.args.self.now) (data_file_name_in c.args.self.now) = search rules in
    record { clusters = c.in-Some.ensures.some; counts = c.in-Some-power_of_two.ensures.some; can_be_new = fits.0 c.if-not-fits.false }

pub returns-clause-refused : goal.returns-clause-refused
returns-clause-refused g c =
    let fits : IsTrue c.fits.result ↔ CanBeNew c.in-Some.cluster_bits c.in-Some-power_of_two.refcount_order (backing_name_in c.args.self.now) (backing_format_in c.args.self.now) (data_file_name_in c.args.self.now) = search rules in
    λ none. absurd (none (is_allowed c.args.self.now (c.in-Some.cluster_bits, c.in-Some-power_of_two.refcount_order) (record { clusters = c.in-Some.ensures.some; counts = c.in-Some-power_of_two.ensures.some; can_be_new = fits.0 c.if-not-fits.false })))
