use Rattle.std.proofs.Common.{◌≡◌, sym, subst, length, Option}
use Rattle.qcow2_image.proofs.Common.{OnOk, MatchOption, bytes_at, view_in}
use Rattle.qcow2_image.proofs.image.Qcow2.read_data.Goals as goal

pub returns-in-None-clause-reads : goal.returns-in-None-clause-reads
returns-in-None-clause-reads g c =
    let view = g.S.Storage.view in
    let old = c.args.self.now in
    let new = c.read_own_data.new.self in
    let bytes = c.read_own_data.new.bytes in
    subst (λ (was : Option _). OnOk c.read_own_data.result (MatchOption was ((view_in view old.file).is_honest → bytes ≡ bytes_at (view_in view new.file).contents c.args.at (length bytes)) (λ file. (view file).is_honest → bytes ≡ bytes_at (view file).contents c.args.at (length bytes)))) (sym c.in-None.is) c.read_own_data.ensures.reads
