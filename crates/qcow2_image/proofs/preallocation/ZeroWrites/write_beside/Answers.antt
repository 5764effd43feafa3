use Rattle.std.proofs.Common.{◌≡◌, ◌≤◌, ◌∙◌, ap, List, ℕ, subst, length, take, replicate}
use Rattle.qcow2_image.proofs.Common.{AreZeros, ContentsBecome, most_of, overwritten, take-replicate}
use Rattle.qcow2_image.specs.declared.preallocation.ZeroWrites.{ZeroWrites}
use Rattle.qcow2_image.proofs.preallocation.ZeroWrites.write_beside.Goals as goal

first_zeros : (n : ℕ) (zeros : List ℕ) → n ≤ length zeros → zeros ≡ replicate (length zeros) 0 → take n zeros ≡ replicate n 0
first_zeros n zeros few are = ap (take n) are ∙ take-replicate n (length zeros) 0 few

pub returns-in-Plain-clause-written : goal.returns-in-Plain-clause-written
returns-in-Plain-clause-written g c = λ honest.
    let few = subst (λ (w : ZeroWrites). c.args.count ≤ most_of w) c.in-Plain.is c.requires.few in
    let are = subst (λ (w : ZeroWrites). AreZeros w) c.in-Plain.is c.requires.zeros in
    let contents = (g.S.Storage.view c.args.file.now).contents in
    subst (λ (bytes : List ℕ). ContentsBecome c.write.result contents (overwritten contents c.args.at bytes) (g.S.Storage.view c.write.new.self).contents) (ap (take c.args.count) c.deref.ensures.value ∙ first_zeros c.args.count c.in-Plain.zeros.items few are) (c.write.ensures.written honest)
