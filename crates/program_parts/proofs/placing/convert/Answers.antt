use Rattle.program_parts.proofs.Placed.{made_now, replaces_all, replaces_maybe}
use Rattle.program_parts.proofs.placing.convert.Goals as goal

pub returns-in-Ok-finish-clause-sound : goal.returns-in-Ok-finish-clause-sound
returns-in-Ok-finish-clause-sound g c = λ file_honest place_honest.
    let file = g.F.Storage.view in
    let named = g.P.Place.named in
    let made = made_now c.args.how c.in-Ok.size (g.S.Storage.view c.args.source) (file c.make-source.result.1) (file c.verify-source.result.1) c.make-source.result.2 c.in-Ok.is (c.make-source.ensures.sound file_honest) c.verify-source.ensures.step.1 in
    replaces_all c.args.how (g.S.Storage.view c.args.source) (named c.args.place.now) (named c.finish.new.self) c.in-Ok.size (file c.verify-source.result.1).contents made.whole (c.in-Ok-finish.ensures place_honest made.honest)

pub returns-in-Err-finish-clause-sound : goal.returns-in-Err-finish-clause-sound
returns-in-Err-finish-clause-sound g c = λ file_honest place_honest.
    let file = g.F.Storage.view in
    let named = g.P.Place.named in
    let made = made_now c.args.how c.in-Ok.size (g.S.Storage.view c.args.source) (file c.make-source.result.1) (file c.verify-source.result.1) c.make-source.result.2 c.in-Ok.is (c.make-source.ensures.sound file_honest) c.verify-source.ensures.step.1 in
    replaces_maybe c.args.how (g.S.Storage.view c.args.source) (named c.args.place.now) (named c.finish.new.self) c.in-Ok.size (file c.verify-source.result.1).contents made.whole _ (c.in-Err-finish.ensures place_honest made.honest)
