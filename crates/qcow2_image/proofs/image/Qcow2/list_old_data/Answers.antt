use Rattle.std.proofs.Common.{◌≡◌, ◌++◌, true, false, sym, ap, ◌∙◌, subst}
use Rattle.qcow2_image.proofs.Common.{cover, IsInReach, old_data_run, L2Mapping, known_in, cover_once_cleared, listed_run, on_ok_weaker}
use Rattle.qcow2_image.proofs.image.Qcow2.list_old_data.Goals as goal

pub returns-clause-reads : goal.returns-clause-reads
returns-clause-reads g c = on_ok_weaker c.list_run.result (λ listed p i alone sound at here.
    let how = c.args.how in
    let old = c.in_ok-old.old in
    let says : cover c.args.self.now.file.header.fields (known_in g.S.Storage.view c.args.self.now.file) c.args.cluster ≡ c.in_ok-old.old = c.in_ok-old.ensures.says p i sound at here in
    let run : c.old_data-run.result ≡ old_data_run c.args.self.now.file.header.fields.cluster_bits (cover c.args.self.now.file.header.fields (known_in g.S.Storage.view c.args.self.now.file) c.args.cluster) (cover_once_cleared c.args.how (cover c.args.self.now.file.header.fields (known_in g.S.Storage.view c.args.self.now.file) c.args.cluster)) =
    c.old_data-run.ensures ∙ ap (λ b. old_data_run b old (cover_once_cleared how old)) c.cluster_bits.ensures.value ∙ ap (λ (v : L2Mapping). old_data_run c.args.self.now.file.header.fields.cluster_bits v (cover_once_cleared how v)) (sym says) in
    (listed ∙ ap (λ r. c.args.list.now ++ listed_run r) run, subst IsInReach (sym says) c.in_ok-old.ensures.reach)) c.list_run.ensures.listed

pub returns-in_err-old-clause-only_faults : goal.returns-in_err-old-clause-only_faults
returns-in_err-old-clause-only_faults g c = λ p i sound inside at here some. absurd (let no = c.in_err-old.ensures.reads p i sound inside at here some in cc)

pub returns-clause-beside : goal.returns-clause-beside
returns-clause-beside g c = λ beside. absurd (let no : false ≡ true = sym c.if-is_placed_by_guest.false ∙ c.is_placed_by_guest.ensures ∙ beside in cc)
