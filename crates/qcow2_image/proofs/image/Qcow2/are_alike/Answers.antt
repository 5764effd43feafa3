use Rattle.std.proofs.Common.{◌≡◌, ◌⊎◌, inl, inr, ap}
use Rattle.qcow2_image.proofs.Common.{IsUnalignedIn, UnalignedTable, of_metadata}
use Rattle.qcow2_image.proofs.Lemmas.{hands_met}
use Rattle.qcow2_image.proofs.image.Qcow2.are_alike.Goals as goal

pub returns-in_err-first-clause-cause : goal.returns-in_err-first-clause-cause
returns-in_err-first-clause-cause g c =
    hands_met (λ e. (e ≡ UnalignedTable) × (IsUnalignedIn c.args.table.now c.args.first ⊎ IsUnalignedIn c.args.table.now c.args.next)) c.from_residual.result (of_metadata c.in_err-first.field-0.0) c.from_residual.ensures
    (ap of_metadata c.in_err-first.ensures.err.0, inl c.in_err-first.ensures.err.1)

pub returns-in_err-next-clause-cause : goal.returns-in_err-next-clause-cause
returns-in_err-next-clause-cause g c =
    hands_met (λ e. (e ≡ UnalignedTable) × (IsUnalignedIn c.args.table.now c.args.first ⊎ IsUnalignedIn c.args.table.now c.args.next)) c.from_residual-in_err-next.result (of_metadata c.in_err-next.field-0.0) c.from_residual-in_err-next.ensures
    (ap of_metadata c.in_err-next.ensures.err.0, inr c.in_err-next.ensures.err.1)
