use Rattle.std.proofs.Common.{◌≡◌, subst, IfOk}
use Rattle.qcow2_image.proofs.Common.{header, contents_in, view_in, with_tables_of, Qcow2}
use Rattle.qcow2_image.proofs.Lemmas.{keeps_then}
use Rattle.qcow2_image.proofs.Call.DataFiles.{keeps_beside}
use Rattle.qcow2_image.proofs.image.Qcow2.read_places_anew.Goals as goal

pub returns-clause-read : goal.returns-clause-read
returns-clause-read g c = λ honest.
    let view = g.S.Storage.view in
    let read = subst (λ (i : Qcow2 _ _). (view_in view i.file).is_honest → IfOk c.read_places.result (λ places. with_tables_of i.file.header.fields (header (contents_in view i.file)) ≡ places.fields)) c.invalidate_data_file.ensures.beside.rest c.read_places.ensures.read in
    read honest

pub returns-clause-keeps : goal.returns-clause-keeps
returns-clause-keeps g c = λ p out sound.
    let first = keeps_beside c.invalidate_data_file.ensures.beside p out sound in
    keeps_then g.S.Storage.view g.F.BackingDisk.backing out c.args.self.now c.invalidate_data_file.new.self c.read_places.new.self p p p (λ k h. h) first (c.read_places.ensures.keeps p out first.sound)
