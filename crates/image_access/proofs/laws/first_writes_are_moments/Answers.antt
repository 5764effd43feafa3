use Rattle.image_access.proofs.Replays.{write_offsets-up_to_write, had_up_to_write}
use Rattle.image_access.proofs.laws.first_writes_are_moments.Goals as goal

pub returns-clause-offsets : goal.returns-clause-offsets
returns-clause-offsets c = write_offsets-up_to_write

pub returns-clause-moment : goal.returns-clause-moment
returns-clause-moment c = had_up_to_write
