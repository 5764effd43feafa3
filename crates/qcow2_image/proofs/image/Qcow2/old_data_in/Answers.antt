use Rattle.std.proofs.Common.{◌≡◌, ◌+◌, ◌/◌, ◌%◌, suc, ap, ◌∙◌, subst, arith, sym, IfErr}
use Rattle.qcow2_image.proofs.Common.{ReadsAll, ReadsDropped, entries_per_cluster, IsFault, known_in, IsEntryAt, handed_on}
use Rattle.qcow2_image.proofs.Clear.Between.{reads_next, entry_behind}
use Rattle.qcow2_image.proofs.image.Qcow2.old_data_in.Goals as goal

pub loop-i-preserved : goal.loop-i-preserved
loop-i-preserved g c =
    let view = g.S.Storage.view in
    let below = g.F.BackingDisk.backing in
    let image = c.args.self.now in
    let here : c.new-cluster.result ≡ c.args.first + c.loop-i.i = c.new-cluster.ensures ∙ ap (λ n. n + c.loop-i.i) c.value.ensures in
    let one : suc c.loop-i.i ≡ c.loop-i.i + 1 = omega arith in
    subst (λ n. ReadsAll view below c.args.how c.args.table c.args.first n image c.list_old_data.new.list) one
    (reads_next view below c.args.how c.args.table c.args.first c.loop-i.i image c.loop-i.old_data c.list_old_data.new.list c.loop-i.invariant
    (subst (λ n. ReadsDropped view below c.args.how c.args.table n image c.loop-i.old_data c.list_old_data.new.list) here c.in_ok-list_old_data.ensures.reads))

pub returns-clause-reads : goal.returns-clause-reads
returns-clause-reads g c =
    let all : c.loop-i.i ≡ c.args.count = omega (arith, c.loop-i-test.false, c.loop-i.auto.i-end) in
    subst (λ n. ReadsAll g.S.Storage.view g.F.BackingDisk.backing c.args.how c.args.table c.args.first n c.args.self.now c.loop-i.old_data) all c.loop-i.invariant

pub returns-in_err-list_old_data-clause-only_faults : goal.returns-in_err-list_old_data-clause-only_faults
returns-in_err-list_old_data-clause-only_faults g c = λ p i sound inside at here fits some.
    let image = c.args.self.now in
    let behind : c.new-cluster.result ≡ c.args.first + c.loop-i.i = c.new-cluster.ensures ∙ ap (λ n. n + c.loop-i.i) c.value.ensures in
    let there = entry_behind image.file.header.fields (known_in g.S.Storage.view image.file) c.args.table c.args.first c.args.count c.loop-i.i i at here fits (omega (arith, c.loop-i-test.true)) in
    handed_on (λ r. IfErr r IsFault) c.from_residual.result c.in_err-list_old_data.field-0.0 c.from_residual.ensures
    (c.in_err-list_old_data.ensures.only_faults p i sound inside (subst (λ n. IsEntryAt image.file.header.fields (known_in g.S.Storage.view image.file) i c.args.table (n % entries_per_cluster image.file.header.fields)) (sym behind) there.0)
    (ap (λ n. n / entries_per_cluster image.file.header.fields) behind ∙ there.1) some)
