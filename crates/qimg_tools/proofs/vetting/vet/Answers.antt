use Rattle.qcow2_alloc.proofs.KeptTables.Causes.{given_err}
use Rattle.qcow2_metadata.specs.Bytes.{byte_at}
use Rattle.qimg_tools.specs.Vetted.{IsReasonForNoVerdict}
use Rattle.qimg_tools.specs.declared.failures.Failure.TheVariants.{Unprinted}
use Rattle.qimg_tools.proofs.vetting.vet.Goals as goal

pub returns-in_err-print_lines-in-Text-clause-cause : goal.returns-in_err-print_lines-in-Text-clause-cause
returns-in_err-print_lines-in-Text-clause-cause g c = λ honest. given_err _ (Unprinted c.in_err-print_lines-in-Text.field-0.0) (IsReasonForNoVerdict (byte_at (g.S.Storage.view c.args.storage.now).contents)) c.from_residual.ensures tt

pub returns-in_err-print_object-in-Json-clause-cause : goal.returns-in_err-print_object-in-Json-clause-cause
returns-in_err-print_object-in-Json-clause-cause g c = λ honest. given_err _ (Unprinted c.in_err-print_object-in-Json.field-0.0) (IsReasonForNoVerdict (byte_at (g.S.Storage.view c.args.storage.now).contents)) c.from_residual-in_err-print_object-in-Json.ensures tt
