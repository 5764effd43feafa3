use Rattle.qcow2_alloc.proofs.Common.{Metadata}
use Rattle.qcow2_alloc.proofs.MadeClusters.{made_run}
use Rattle.qcow2_alloc.proofs.allocation.Allocator.allocate_meta.Goals as goal

pub returns-clause-sound : goal.returns-clause-sound
returns-clause-sound g c = λ p sound.
    record {
      found = record {
        takes = (c.allocate.ensures.sound p sound tt).takes;
        uses = (c.allocate.ensures.sound p sound tt).uses;
        hint = λ hint. (c.allocate.ensures.sound p sound tt).hint hint;
        lowest = λ hint. (c.allocate.ensures.sound p sound tt).lowest hint;
        limit = λ hint some. (c.allocate.ensures.sound p sound tt).limit hint some;
      };
      leaks = c.allocate.ensures.leaks p sound;
      made = made_run g.S.Storage.view p c.args.file.now c.allocate.new.file c.args.self.now c.allocate.new.self sound c.allocate.ensures.step.list c.allocate.ensures.step.former Metadata c.args.count c.allocate.result ((c.allocate.ensures.sound p sound tt).takes);
    }
