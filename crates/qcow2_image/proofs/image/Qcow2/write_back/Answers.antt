use Rattle.std.proofs.Common.{◌≡◌, ◌∙◌, ap, sym, subst, Result}
use Rattle.qcow2_image.proofs.Common.{FreesListed, Qcow2, ReadsQuietly, always_ok, contents_in, handed_on, known_in}
use Rattle.qcow2_image.proofs.Lemmas.{if_ok_any}
use Rattle.qcow2_image.specs.SizeSteps.{WritesTables}
use Rattle.qcow2_image.proofs.image.Qcow2.write_back.Goals as goal
use Rattle.qcow2_image.proofs.Images.Places.{alone_of}

pub returns-in_err-flush_image-clause-tables : goal.returns-in_err-flush_image-clause-tables
returns-in_err-flush_image-clause-tables g c = handed_on (WritesTables g.S.Storage.view g.F.BackingDisk.backing c.args.self.now c.flush_image.new.self) c.from_residual.result c.in_err-flush_image.field-0.0 c.from_residual.ensures c.in_err-flush_image.ensures.tables

pub returns-clause-tables : goal.returns-clause-tables
returns-clause-tables g c = record {
  header = ap (λ (i : Qcow2 _ _). i.file.header) c.flush_data_file.ensures.beside.rest ∙ c.in_ok-flush_image.ensures.tables.header;
  fault = λ p out sound. c.flush_data_file.ensures.beside.cause;
  emptied = λ writable. always_ok c.flush_data_file.result (ap (λ (i : Qcow2 _ _). i.file.free_list) c.flush_data_file.ensures.beside.rest ∙ c.in_ok-flush_image.ensures.tables.emptied writable);
  quiet = λ reading. subst (λ (i : Qcow2 _ _). ReadsQuietly g.S.Storage.view c.args.self.now i) (sym c.flush_data_file.ensures.beside.rest) (c.in_ok-flush_image.ensures.tables.quiet reading);
  written = if_ok_any c.flush_data_file.result (λ done. subst (λ (i : Qcow2 _ _). known_in g.S.Storage.view i.file ≡ contents_in g.S.Storage.view i.file) (sym c.flush_data_file.ensures.beside.rest) c.in_ok-flush_image.ensures.tables.written);
  frees = λ p out sound.
      let view = g.S.Storage.view in
      let below = g.F.BackingDisk.backing in
      let first = c.in_ok-flush_image.ensures.tables.frees p out sound in
      let none = c.flush_data_file.ensures.beside.none (alone_of first.sound) in
      subst (λ (i : Qcow2 _ _). FreesListed view below p c.args.self.now i out c.flush_data_file.result) (sym none.1)
      (subst (λ (r : Result _ _). FreesListed view below p c.args.self.now c.flush_image.new.self out r) (sym none.0) first);
}
