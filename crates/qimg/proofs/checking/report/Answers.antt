use Rattle.program_parts.proofs.Texts.{found_consistent}
use Rattle.qimg.proofs.checking.report.Goals as goal

pub returns-clause-consistent : goal.returns-clause-consistent
returns-clause-consistent g c = λ honest done. let told = c.tell.ensures.consistent done in found_consistent _ _ _ _ _ (c.in-Ok.ensures.consistent honest).0 (c.in-Ok.ensures.leaks honest) told.0 told.1
