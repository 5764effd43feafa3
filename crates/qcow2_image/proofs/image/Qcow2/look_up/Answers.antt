use Rattle.std.proofs.Common.{◌≡◌, ◌-◌, ap, arith, min, refl, rules, subst}
use Rattle.qcow2_image.proofs.Common.{IfOk-weaker, rest_of_table, IsRunFrom, MayFailFinding}
use Rattle.qcow2_image.proofs.image.Qcow2.look_up.Goals as goal
use Rattle.qcow2_image.proofs.Lemmas.{only_none, met_as, finding_more}

pub returns-clause-sound : goal.returns-clause-sound
returns-clause-sound g c = λ p out sound.
    let view = g.S.Storage.view in
    let new = c.run_from.new.self in
    let h = new.file.header.fields in
    let at = c.run_from.ensures.sound p out sound in
    let stays = c.run_from.ensures.step.part.stays.image.size in
    let limit : min c.min.result (rest_of_table h c.args.offset) ≡ min (min c.args.max (h.size - c.args.offset)) (rest_of_table h c.args.offset) =
    ap (λ m. min m (rest_of_table h c.args.offset)) (let a = c.min.ensures in let s = c.size-size.ensures in omega (arith, stays)) in
    record {
      keeps = at.keeps;
      known = at.known;
      may_fail = at.may_fail;
      found = IfOk-weaker c.run_from.result _ _
          (λ x run. record {
            past = λ le. absurd (let e = c.if-offset-size.false in let s = c.size-size.ensures in omega (arith, stays));
            run = λ lt. subst (λ m. IsRunFrom view new c.args.offset m x.0 x.1) limit run;
          })
          at.run;
    }

pub returns-clause-within : goal.returns-clause-within
returns-clause-within g c = IfOk-weaker c.run_from.result _ _ (λ x within. let a = c.min.ensures in omega (arith, within)) c.run_from.ensures.within

pub returns-clause-some : goal.returns-clause-some
returns-clause-some g c = IfOk-weaker c.run_from.result _ _ (λ x some. λ lt most. some (let a = c.min.ensures in let s = c.size-size.ensures in omega arith)) c.run_from.ensures.some

pub returns-clause-held : goal.returns-clause-held
returns-clause-held g c = λ lt. c.run_from.ensures.held c.args.max (let a = c.min.ensures in let s = c.size-size.ensures in omega arith) lt

pub returns-then-offset-size-clause-sound : goal.returns-then-offset-size-clause-sound
returns-then-offset-size-clause-sound g c = λ p out sound. record { keeps = search rules; known = refl; may_fail = tt; found = search rules }

pub returns-then-offset-size-clause-looks : goal.returns-then-offset-size-clause-looks
returns-then-offset-size-clause-looks g c = only_none g.S.Storage.view c.args.offset c.args.self.now

pub returns-clause-fails : goal.returns-clause-fails
returns-clause-fails g c =
    let old = c.args.self.now in
    let new = c.run_from.new.self in
    record {
      faults = c.run_from.ensures.fails.faults;
      cause = met_as (MayFailFinding old new c.args.offset c.min.result) (MayFailFinding old new c.args.offset c.args.max) c.run_from.result (finding_more old new c.args.offset c.min.result c.args.max (let a = c.min.ensures in omega arith)) c.run_from.ensures.fails.cause;
    }

pub returns-then-offset-size-clause-kind : goal.returns-then-offset-size-clause-kind
returns-then-offset-size-clause-kind g c = record { whole = refl; special = λ so. absurd so }
