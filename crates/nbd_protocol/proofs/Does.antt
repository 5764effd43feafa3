-- What requests do, and that they do nothing else.
use Rattle.std.proofs.Common.{◌+◌, inl, ℕ, List, refl, arith}
use Rattle.nbd_protocol.proofs.Common.{Command, Request, Does, MayDo, DeviceView, MayWrite, Stays, Writes, Zeroes}
use Rattle.nbd_protocol.specs.declared.request.Command.TheVariants as C
use Rattle.nbd_protocol.proofs.Ranges.{may_of_zeroes, may_start, stays_start, stays_then}
use Rattle.nbd_protocol.proofs.Trims.{trims_of_stays, trims_start, trims_then}

writes_stays : (offset : ℕ) (bytes : List ℕ) (a b c : DeviceView) → Writes offset bytes a b → Stays b c → Writes offset bytes a c
writes_stays offset bytes a b c w s = grind arith

zeroes_stays : (from to : ℕ) (a b c : DeviceView) → Zeroes from to a b → Stays b c → Zeroes from to a c
zeroes_stays from to a b c z s = grind arith

may_write : (offset : ℕ) (bytes : List ℕ) (a b : DeviceView) → Writes offset bytes a b → MayWrite offset bytes a b
may_write offset bytes a b w = grind arith

write_start : (offset : ℕ) (bytes : List ℕ) (a : DeviceView) → MayWrite offset bytes a a
write_start offset bytes a = record { beside = record { size = refl; unit = refl; values = λ o lt out. refl }; within = λ i lt here. inl refl }

-- what stays after it is still done
pub does_stays : (command : Command) (r : Request) (payload : List ℕ) (a b c : DeviceView) → Does command r payload a b → Stays b c → Does command r payload a c
does_stays C.Write r payload a b c d s = writes_stays r.offset payload a b c d s
does_stays C.Trim r payload a b c d s = trims_then r.offset (r.offset + r.length) a b c d (trims_of_stays r.offset (r.offset + r.length) b c s)
does_stays C.WriteZeroes r payload a b c d s = zeroes_stays r.offset (r.offset + r.length) a b c d s
does_stays _ r payload a b c d s = stays_then a b c d s

-- what was done may be done
pub may_of_does : (command : Command) (r : Request) (payload : List ℕ) (a b : DeviceView) → Does command r payload a b → MayDo command r payload a b
may_of_does C.Write r payload a b d = may_write r.offset payload a b d
may_of_does C.WriteZeroes r payload a b d = may_of_zeroes r.offset (r.offset + r.length) a b d
may_of_does _ r payload a b d = d

-- nothing was done
pub may_do_nothing : (command : Command) (r : Request) (payload : List ℕ) (a : DeviceView) → MayDo command r payload a a
may_do_nothing C.Write r payload a = write_start r.offset payload a
may_do_nothing C.Trim r payload a = trims_start r.offset (r.offset + r.length) a
may_do_nothing C.WriteZeroes r payload a = may_start r.offset (r.offset + r.length) a
may_do_nothing _ r payload a = stays_start a
