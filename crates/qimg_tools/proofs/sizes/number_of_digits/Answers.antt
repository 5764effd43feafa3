use Rattle.std.proofs.Common.{sym}
use Rattle.qimg_tools.proofs.Digits.{no_number}
use Rattle.qimg_tools.proofs.sizes.number_of_digits.Goals as goal

pub returns-in-Err : goal.returns-in-Err
returns-in-Err c = sym (no_number c.args.digits.now c.in-Err.ensures.cases.0)
