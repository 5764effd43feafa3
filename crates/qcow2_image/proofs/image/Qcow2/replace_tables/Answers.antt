use Rattle.std.proofs.Common.{◌≡◌, ◌*◌, ◌≤◌, ◌∙◌, Result, sym, ap, subst, IfErr}
use Rattle.qcow2_image.proofs.Common.{HeaderView, entries_per_cluster, with_fields, with_tables_of, contents_in, ImageError, handed_on, is_writable, ImageFails, KeepsTables, ReplacesTables, IsReasonAgainstTables, MayFail}
use Rattle.qcow2_image.proofs.Invalidate.TakenOver.{all_taken, counts_named, header_stays, none_taken, on_refused, places_taken, sound_named, step_over, tables_kept, tables_named, with_header}
use Rattle.qcow2_image.proofs.image.Qcow2.replace_tables.Goals as goal

pub copy_table_pointers-requires : goal.copy_table_pointers-requires
copy_table_pointers-requires g c =
    let view = g.S.Storage.view in
    let old = c.args.self.now in
    let mid = c.read_tables-read.new.self in
    let w = c.replace-named.new.dest in
    let read = c.read_tables-read.ensures in
    let back : c.replace-places.new.dest ≡ old.file.header = c.replace-places.ensures.after ∙ c.replace-named.ensures.value in
    let few = subst (λ (x : HeaderView). x.fields.reftable_clusters * entries_per_cluster old.file.header.fields ≤ 1048576) (sym (c.replace-places.ensures.value ∙ header_stays view old mid w read.step ∙ c.replace-named.ensures.after)) c.requires.few in
    subst (λ (x : HeaderView). c.replace-places.result.fields.reftable_clusters * entries_per_cluster x.fields ≤ 1048576) (sym back) few

pub returns-in_err-read-clause-step : goal.returns-in_err-read-clause-step
returns-in_err-read-clause-step g c =
    let view = g.S.Storage.view in
    let old = c.args.self.now in
    let mid = c.read_tables-read.new.self in
    let w = c.replace-named.new.dest in
    let read = c.read_tables-read.ensures in
    let back : c.replace-places.new.dest ≡ old.file.header = c.replace-places.ensures.after ∙ c.replace-named.ensures.value in
    subst (λ (v : HeaderView). ReplacesTables view old (with_header mid v)) (sym back) (none_taken view old mid w read.step c.in_err-read.ensures.refused)

pub returns-in_err-read-clause-fails : goal.returns-in_err-read-clause-fails
returns-in_err-read-clause-fails g c =
    let view = g.S.Storage.view in
    let below = g.F.BackingDisk.backing in
    let old = c.args.self.now in
    let mid = c.read_tables-read.new.self in
    let w = c.replace-named.new.dest in
    let new = with_header mid c.replace-places.new.dest in
    handed_on (λ (r : Result _ ImageError). ImageFails view below old new r MayFail) c.from_residual.result c.in_err-read.field-0.0 c.from_residual.ensures
    (record { faults = counts_named view below old mid w c.replace-places.new.dest _ c.in_err-read.ensures.fails.faults; cause = c.in_err-read.ensures.fails.cause })

pub returns-in_err-read-clause-kept : goal.returns-in_err-read-clause-kept
returns-in_err-read-clause-kept g c =
    let old = c.args.self.now in
    let mid = c.read_tables-read.new.self in
    let w = c.replace-named.new.dest in
    let read = c.read_tables-read.ensures in
    let back : c.replace-places.new.dest ≡ old.file.header = c.replace-places.ensures.after ∙ c.replace-named.ensures.value in
    on_refused c.from_residual.result (subst (λ (v : HeaderView). KeepsTables old (with_header mid v)) (sym back) (tables_kept g.S.Storage.view old mid w read.step c.in_err-read.ensures.refused))

pub returns-in_err-read-clause-why : goal.returns-in_err-read-clause-why
returns-in_err-read-clause-why g c = λ honest.
    let old = c.args.self.now in
    let b = contents_in g.S.Storage.view old.file in
    let e = c.in_err-read.field-0.0 in
    handed_on (λ (r : Result _ ImageError). IfErr r (IsReasonAgainstTables c.args.places.fields b (is_writable old))) c.from_residual.result e c.from_residual.ensures
    (subst (λ (x : HeaderView). IsReasonAgainstTables x.fields b (is_writable old) e) c.replace-named.ensures.after (c.in_err-read.ensures.why honest))

pub returns-in_err-read-clause-keeps : goal.returns-in_err-read-clause-keeps
returns-in_err-read-clause-keeps g c = λ same p out sound.
    let view = g.S.Storage.view in
    let below = g.F.BackingDisk.backing in
    let old = c.args.self.now in
    let mid = c.read_tables-read.new.self in
    let w = c.replace-named.new.dest in
    let read = c.read_tables-read.ensures in
    let back : c.replace-places.new.dest ≡ old.file.header = c.replace-places.ensures.after ∙ c.replace-named.ensures.value in
    let first = ap (λ (x : HeaderView). x.fields) c.replace-named.ensures.after ∙ same in
    step_over view below p out old mid w c.replace-places.new.dest first (header_stays view old mid w read.step) (ap (λ (x : HeaderView). x.fields) back) (read.keeps p out (sound_named view below p out old w first sound))

pub returns-clause-step : goal.returns-clause-step
returns-clause-step g c =
    let view = g.S.Storage.view in
    let old = c.args.self.now in
    let mid = c.read_tables-read.new.self in
    let w = c.replace-named.new.dest in
    let read = c.read_tables-read.ensures in
    let back : c.replace-places.new.dest ≡ old.file.header = c.replace-places.ensures.after ∙ c.replace-named.ensures.value in
    let v = c.copy_table_pointers.new.header in
    let others : w.fields ≡ with_tables_of old.file.header.fields w.fields = subst (λ (x : HeaderView). x.fields ≡ with_tables_of old.file.header.fields x.fields) (sym c.replace-named.ensures.after) c.requires.others in
    let is : v ≡ with_fields old.file.header (with_tables_of old.file.header.fields w.fields) =
    c.copy_table_pointers.ensures ∙ ap (λ (x : HeaderView). with_fields x (with_tables_of x.fields c.replace-places.result.fields)) back
    ∙ ap (λ (x : HeaderView). with_fields old.file.header (with_tables_of old.file.header.fields x.fields)) (c.replace-places.ensures.value ∙ header_stays view old mid w read.step) in
    all_taken view old mid w read.step v others is

pub returns-clause-fails : goal.returns-clause-fails
returns-clause-fails g c =
    let old = c.args.self.now in
    let w = c.replace-named.new.dest in
    record { faults = counts_named g.S.Storage.view g.F.BackingDisk.backing old c.read_tables-read.new.self w c.copy_table_pointers.new.header _ c.in_ok-read.ensures.fails.faults; cause = tt }

pub returns-clause-taken : goal.returns-clause-taken
returns-clause-taken g c =
    let view = g.S.Storage.view in
    let old = c.args.self.now in
    let mid = c.read_tables-read.new.self in
    let w = c.replace-named.new.dest in
    let read = c.read_tables-read.ensures in
    let back : c.replace-places.new.dest ≡ old.file.header = c.replace-places.ensures.after ∙ c.replace-named.ensures.value in
    let v = c.copy_table_pointers.new.header in
    let others : w.fields ≡ with_tables_of old.file.header.fields w.fields = subst (λ (x : HeaderView). x.fields ≡ with_tables_of old.file.header.fields x.fields) (sym c.replace-named.ensures.after) c.requires.others in
    let is : v ≡ with_fields old.file.header (with_tables_of old.file.header.fields w.fields) =
    c.copy_table_pointers.ensures ∙ ap (λ (x : HeaderView). with_fields x (with_tables_of x.fields c.replace-places.result.fields)) back
    ∙ ap (λ (x : HeaderView). with_fields old.file.header (with_tables_of old.file.header.fields x.fields)) (c.replace-places.ensures.value ∙ header_stays view old mid w read.step) in
    places_taken view old mid w read.step v others is ∙ ap (λ (x : HeaderView). x.fields) c.replace-named.ensures.after

pub returns-clause-read : goal.returns-clause-read
returns-clause-read g c = λ honest.
    let view = g.S.Storage.view in
    let old = c.args.self.now in
    let mid = c.read_tables-read.new.self in
    let w = c.replace-named.new.dest in
    let read = c.read_tables-read.ensures in
    let back : c.replace-places.new.dest ≡ old.file.header = c.replace-places.ensures.after ∙ c.replace-named.ensures.value in
    let v = c.copy_table_pointers.new.header in
    let others : w.fields ≡ with_tables_of old.file.header.fields w.fields = subst (λ (x : HeaderView). x.fields ≡ with_tables_of old.file.header.fields x.fields) (sym c.replace-named.ensures.after) c.requires.others in
    let is : v ≡ with_fields old.file.header (with_tables_of old.file.header.fields w.fields) =
    c.copy_table_pointers.ensures ∙ ap (λ (x : HeaderView). with_fields x (with_tables_of x.fields c.replace-places.result.fields)) back
    ∙ ap (λ (x : HeaderView). with_fields old.file.header (with_tables_of old.file.header.fields x.fields)) (c.replace-places.ensures.value ∙ header_stays view old mid w read.step) in
    let same = places_taken view old mid w read.step v others is ∙ sym (ap (λ (x : HeaderView). x.fields) (header_stays view old mid w read.step)) in
    tables_named view g.F.BackingDisk.backing mid.file v mid.l1_table mid.allocator same (c.in_ok-read.ensures.read honest)

pub returns-clause-keeps : goal.returns-clause-keeps
returns-clause-keeps g c = λ same p out sound.
    let view = g.S.Storage.view in
    let below = g.F.BackingDisk.backing in
    let old = c.args.self.now in
    let mid = c.read_tables-read.new.self in
    let w = c.replace-named.new.dest in
    let read = c.read_tables-read.ensures in
    let back : c.replace-places.new.dest ≡ old.file.header = c.replace-places.ensures.after ∙ c.replace-named.ensures.value in
    let v = c.copy_table_pointers.new.header in
    let others : w.fields ≡ with_tables_of old.file.header.fields w.fields = subst (λ (x : HeaderView). x.fields ≡ with_tables_of old.file.header.fields x.fields) (sym c.replace-named.ensures.after) c.requires.others in
    let is : v ≡ with_fields old.file.header (with_tables_of old.file.header.fields w.fields) =
    c.copy_table_pointers.ensures ∙ ap (λ (x : HeaderView). with_fields x (with_tables_of x.fields c.replace-places.result.fields)) back
    ∙ ap (λ (x : HeaderView). with_fields old.file.header (with_tables_of old.file.header.fields x.fields)) (c.replace-places.ensures.value ∙ header_stays view old mid w read.step) in
    let first = ap (λ (x : HeaderView). x.fields) c.replace-named.ensures.after ∙ same in
    step_over view below p out old mid w v first (header_stays view old mid w read.step) (places_taken view old mid w read.step v others is ∙ first) (read.keeps p out (sound_named view below p out old w first sound))
