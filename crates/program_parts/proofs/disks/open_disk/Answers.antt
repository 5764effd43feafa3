use Rattle.program_parts.proofs.Common.{inl, inr, storage_of_image}
use Rattle.program_parts.proofs.Compared.{opened_image}
use Rattle.program_parts.proofs.Exported.{disk_is, opened_quietly}
use Rattle.program_parts.proofs.disks.open_disk.Goals as goal

pub returns-in-Ok-clause-opened : goal.returns-in-Ok-clause-opened
returns-in-Ok-clause-opened g c = opened_image c.args.format (g.S.Storage.view c.args.storage) _ c.in-Qcow2.is (λ honest consistent.
    let view = g.S.Storage.view in
    let opened = (c.in-Ok.ensures.opens honest consistent).opened in
    record {
      honest = opened.sound;
      disk = disk_is view _ (view c.args.storage) c.in-Ok.image c.in-Ok.image opened c.in-Ok.ensures.below.0 (c.in-Ok.ensures.step.storage.contents honest).contents;
    })

pub returns-in-Ok-clause-step : goal.returns-in-Ok-clause-step
returns-in-Ok-clause-step g c = record {
  written = c.in-Ok.ensures.image.unmodified;
  quiet = λ honest.
      let view = g.S.Storage.view in
      opened_quietly (view c.args.storage) (view (storage_of_image c.in-Ok.image)) (c.in-Ok.ensures.step.storage.honest honest) (c.in-Ok.ensures.step.storage.at_once honest) (c.in-Ok.ensures.step.storage.contents honest).contents;
}

pub returns-in-Err-clause-step : goal.returns-in-Err-clause-step
returns-in-Err-clause-step g c = λ honest.
    let view = g.S.Storage.view in
    opened_quietly (view c.args.storage) (view c.in-Err.refused.0) (c.in-Err.ensures.step.storage.honest honest) (c.in-Err.ensures.step.storage.at_once honest) (elim (c.in-Err.ensures.step.storage.contents honest) [ inl stay ↦ stay | inr made ↦ made.2 ])
