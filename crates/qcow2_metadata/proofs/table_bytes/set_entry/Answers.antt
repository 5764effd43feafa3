use Rattle.std.proofs.Common.{◌*◌, ap, ◌∙◌, arith}
use Rattle.qcow2_metadata.proofs.Common.{overwritten}
use Rattle.qcow2_metadata.proofs.TableEntries.{set_entry_changes}
use Rattle.qcow2_metadata.proofs.table_bytes.set_entry.Goals as goal

pub returns : goal.returns
returns c =
    let old = c.args.table.now in
    let is = c.put.ensures ∙ ap (overwritten old (8 * c.args.index)) c.to_be_bytes.ensures in
    rw is (set_entry_changes old c.args.index c.args.entry c.requires (omega arith))
