use Rattle.std.proofs.Common.{◌≡◌, ◌+◌, ◌-◌, ◌++◌, ℕ, List, length, take, drop, ap, ◌∙◌, arith}
use Rattle.qcow2_metadata.proofs.Common.{put_mid-overwritten}
use Rattle.qcow2_metadata.proofs.table_bytes.put.Goals as goal

pub returns : goal.returns
returns c =
    let n : c.args.place + length c.args.bytes.now - c.args.place ≡ length c.args.bytes.now = omega arith in
    ap (λ (l : List ℕ). take c.args.place c.args.within.now ++ (l ++ drop (c.args.place + length c.args.bytes.now - c.args.place) (drop c.args.place c.args.within.now))) c.copy_from_slice.ensures.after
    ∙ ap (λ (k : ℕ). take c.args.place c.args.within.now ++ (c.args.bytes.now ++ drop k (drop c.args.place c.args.within.now))) n
    ∙ put_mid-overwritten c.args.within.now c.args.place c.args.bytes.now c.requires
