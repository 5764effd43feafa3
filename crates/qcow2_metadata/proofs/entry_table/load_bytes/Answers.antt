use Rattle.qcow2_metadata.proofs.Common.{sym, ◌∙◌, arith}
use Rattle.qcow2_metadata.proofs.EntryTables.{no_bytes_at}
use Rattle.qcow2_metadata.proofs.entry_table.load_bytes.Goals as goal

pub returns-then-count-eq0-clause-bytes : goal.returns-then-count-eq0-clause-bytes
returns-then-count-eq0-clause-bytes g c = λ _.
    c.new.ensures.items ∙ sym (no_bytes_at (g.S.Storage.view c.args.storage.now).contents c.args.at c.args.count (omega arith))
