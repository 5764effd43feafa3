-- Disks that are only read.
use Rattle.program_parts.proofs.Common.{quiet_none, quiet_then, IsOnlyRead, SeenDisk}

-- no call at all
pub reads_none : (seen : SeenDisk) → IsOnlyRead seen seen
reads_none seen = record { written = λ w. w; quiet = λ w honest. quiet_none seen.storage honest }

-- one call after another
pub reads_then : (a b c : SeenDisk) → IsOnlyRead a b → IsOnlyRead b c → IsOnlyRead a c
reads_then a b c first second = record {
  written = λ w. second.written (first.written w);
  quiet = λ w honest. let one = first.quiet w honest in quiet_then a.storage b.storage c.storage one (second.quiet (first.written w) one.honest);
}

-- so it is of two disks
pub reads_more : (a b c d e f : SeenDisk) → IsOnlyRead a b × IsOnlyRead d e → IsOnlyRead b c × IsOnlyRead e f → IsOnlyRead a c × IsOnlyRead d f
reads_more a b c d e f first second = (reads_then a b c first.0 second.0, reads_then d e f first.1 second.1)
