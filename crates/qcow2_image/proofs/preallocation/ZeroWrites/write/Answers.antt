use Rattle.std.proofs.Common.{◌≡◌, ◌≤◌, ℕ, List, ◌∙◌, ap, length, replicate, subst, take}
use Rattle.qcow2_image.proofs.Common.{take-replicate, overwritten, ContentsBecome, storage_of, AreZeros, most_of}
use Rattle.qcow2_image.specs.declared.preallocation.ZeroWrites.{ZeroWrites}
use Rattle.qcow2_image.proofs.preallocation.ZeroWrites.write.Goals as goal

first_zeros : (n : ℕ) (zeros : List ℕ) → n ≤ length zeros → zeros ≡ replicate (length zeros) 0 → take n zeros ≡ replicate n 0
first_zeros n zeros few are = ap (take n) are ∙ take-replicate n (length zeros) 0 few

pub returns-in-Plain-clause-written : goal.returns-in-Plain-clause-written
returns-in-Plain-clause-written g c = λ honest.
    let few = subst (λ (w : ZeroWrites). c.args.count ≤ most_of w) c.in-Plain.is c.requires.zeros.few in
    let are = subst (λ (w : ZeroWrites). AreZeros w) c.in-Plain.is c.requires.zeros.zeros in
    let contents = (g.S.Storage.view (storage_of c.args.storage.now)).contents in
    subst (λ (bytes : List ℕ). ContentsBecome c.write_data.result contents (overwritten contents c.args.at bytes) (g.S.Storage.view (storage_of c.write_data.new.self)).contents) (ap (take c.args.count) c.deref.ensures.value ∙ first_zeros c.args.count c.in-Plain.zeros.items few are) (c.write_data.ensures.writes.written honest)
