use Rattle.program_parts.proofs.resizing.resize_disk.Goals as goal

pub returns-clause-done : goal.returns-clause-done
returns-clause-done g c = c.in_ok-shrink_to.ensures.done c.args.mode
