use Rattle.std.proofs.Common.{◌≤◌, if◌then◌else◌, ap, Bool, true, false, List, ℕ, Ok, Err, length, refl, subst, arith}
use Rattle.nbd_protocol.proofs.Common.{OnOk, Appends, Extent, lookup_reply, extents_reply}
use Rattle.nbd_protocol.proofs.serving.answer_lookup.Goals as goal

few : (b : Bool) (n : ℕ) → n ≤ (if b then 1 else 1024) → n ≤ 1024
few true n le = omega arith
few false n le = le

pub send_extents-requires : goal.send_extents-requires
send_extents-requires g c = let le = few c.args.request.now.flags.one_extent _ c.in-Ok.ensures.answer.few in omega (arith, le, ap (λ (l : List Extent). length l) c.deref.ensures.value)

pub returns-in-Ok : goal.returns-in-Ok
returns-in-Ok g c = let r = c.args.request.now in (
  lookup_reply r.cookie (Ok c.in-Ok.found),
  record { found = Ok c.in-Ok.found; told = refl; answer = c.in-Ok.ensures.answer; refused = c.in-Ok.ensures.fails; looks_up = c.in-Ok.ensures.sound },
  subst (λ (l : List Extent). OnOk c.send_extents.result (Appends (g.W.Write.contents c.args.writer.now) (g.W.Write.contents c.send_extents.new.writer) (extents_reply r.cookie l))) c.deref.ensures.value c.send_extents.ensures,
)

pub returns-in-Err : goal.returns-in-Err
returns-in-Err g c = let r = c.args.request.now in (
  lookup_reply r.cookie (Err c.in-Err.error),
  record { found = Err c.in-Err.error; told = refl; answer = tt; refused = c.in-Err.ensures.fails; looks_up = c.in-Err.ensures.sound },
  c.tell.ensures,
)
