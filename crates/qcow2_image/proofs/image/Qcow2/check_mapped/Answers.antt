use Rattle.std.proofs.Common.{◌≡◌, ◌≤◌, ◌<◌, IsTrue, true, false, sym, subst, arith, ⊎_elim, inl, inr, refl, rules, Result, is_some}
use Rattle.qcow2_image.proofs.Common.{is_beside, IsFoundInImage, IsFoundWhole, IsMappedAs, handed_on, IsCacheHeld, MayFailLookingAgain, cases_lt, FitsTables, IsHeldAs, IsOfTables, size_of, MayFailFindingAgain, IsSpecial}
use Rattle.qcow2_image.proofs.Lemmas.{found_after, found_before, found_whole, mapped_as, hands_met, held_whole, heeds_else, same_found}
use Rattle.qcow2_image.proofs.Call.CacheErrors.{finding_tables}
use Rattle.qcow2_image.proofs.image.Qcow2.check_mapped.Goals.{else-found-length-via-then-found-length+else-is, else-found-length-via-else-found-length}
use Rattle.qcow2_alloc.specs.declared.error.ImageError.TheVariants.{Compressed, OutdatedMapping}
use Rattle.qcow2_image.proofs.image.Qcow2.check_mapped.Goals as goal

pub returns-then-is-clause-sound : goal.returns-then-is-clause-sound
returns-then-is-clause-sound g c = λ p out sound.
    let view = g.S.Storage.view in
    let same : c.args.wanted.now ≡ c.in_ok-kind.kind = c.is.ensures.0 c.if-is.true in
    record {
      keeps = (c.look_up.ensures.sound p out sound).keeps;
      may_fail = search rules;
      outdated = search rules;
      mapped = λ some. subst (λ k. IsMappedAs view c.look_up.new.self c.args.offset k c.args.length) (sym same)
          (mapped_as view c.look_up.new.self c.args.offset c.args.length c.in_ok-kind.kind c.in_ok-kind.found some (let l = c.if-found-length.true in omega arith) ((c.in_ok-kind.ensures.sound p out sound).found));
      found = let new = c.look_up.new.self in
          let offset = c.args.offset in
          let n = c.args.length in
          let whole : c.in_ok-kind.found ≡ c.args.length = let least = c.if-found-length.true in let most : c.in_ok-kind.found ≤ c.args.length = c.in_ok-kind.ensures.within in omega arith in
          found_before view g.F.BackingDisk.backing c.args.self.now new out p p offset n c.args.wanted.now ((c.in_ok-kind.ensures.sound p out sound).keeps)
          (subst (λ k. IsFoundWhole view new offset k n) (sym same) (subst (λ m. IsFoundInImage view new offset n c.in_ok-kind.kind m) whole ((c.in_ok-kind.ensures.sound p out sound).found)));
    }

pub returns-clause-sound : goal.returns-clause-sound
returns-clause-sound g c = λ p out sound.
    let view = g.S.Storage.view in
    record {
      keeps = (c.look_up.ensures.sound p out sound).keeps;
      may_fail = inr refl;
      outdated = λ is whole. let still = found_after view g.F.BackingDisk.backing c.args.self.now c.look_up.new.self out p p c.args.offset c.args.length c.args.wanted.now ((c.in_ok-kind.ensures.sound p out sound).keeps) whole in
          let both = found_whole view c.look_up.new.self c.args.offset c.args.length c.in_ok-kind.kind c.args.wanted.now c.in_ok-kind.found ((c.in_ok-kind.ensures.sound p out sound).found) still in
          elim c.else-found-length.branch [
            | else-found-length-via-then-found-length+else-is w ↦ absurd (let no : false ≡ true = subst IsTrue w.if-is.false (w.is.ensures.1 both.0) in cc)
            | else-found-length-via-else-found-length w ↦ absurd (let short = w.if-found-length.false in omega (arith, both.1))
          ];
      mapped = search rules;
      found = search rules;
    }

pub returns-in_err-kind-clause-sound : goal.returns-in_err-kind-clause-sound
returns-in_err-kind-clause-sound g c = λ p out sound.
    record {
      keeps = (c.look_up.ensures.sound p out sound).keeps;
      may_fail = hands_met (MayFailLookingAgain (IsCacheHeld c.args.self.now out)) c.from_residual.result c.in_err-kind.field-0.0 c.from_residual.ensures (inl ((c.in_err-kind.ensures.sound p out sound).may_fail));
      outdated = search rules;
      mapped = search rules;
      found = search rules;
    }

pub returns-then-is-clause-held : goal.returns-then-is-clause-held
returns-then-is-clause-held g c = λ some.
    let new = c.look_up.new.self in
    let same : c.args.wanted.now ≡ c.in_ok-kind.kind = c.is.ensures.0 c.if-is.true in
    let least = c.if-found-length.true in
    let whole : c.in_ok-kind.found ≡ c.args.length = let most : c.in_ok-kind.found ≤ c.args.length = c.in_ok-kind.ensures.within in omega (arith, least, most) in
    ⊎_elim (λ lt. subst (λ k. IsHeldAs new c.args.offset k c.args.length) (sym same) (subst (λ n. IsHeldAs new c.args.offset c.in_ok-kind.kind n) whole (c.in_ok-kind.ensures.held lt).mapped))
    (λ past. absurd (let none = same_found _ _ _ _ (c.in_ok-kind.ensures.past past) in omega (arith, least, some, none))) (cases_lt c.args.offset (size_of c.args.self.now))

pub returns-clause-held : goal.returns-clause-held
returns-clause-held g c = λ some.
    let new = c.look_up.new.self in
    let isnt : ¬ IsHeldAs new c.args.offset c.args.wanted.now c.args.length = λ whole.
    let below : c.args.offset < size_of c.args.self.now = let b = whole.below in let s = c.look_up.ensures.step.part.stays.image.size in omega (arith, b, s, some) in
    let both = held_whole new.file.header.fields (is_beside new) (is_some new.backing) new.l1_table new.file.caches c.args.offset c.args.length c.in_ok-kind.found c.in_ok-kind.kind c.args.wanted.now (c.in_ok-kind.ensures.held below) whole in
    elim c.else-found-length.branch [
      | else-found-length-via-then-found-length+else-is w ↦ absurd (let no : false ≡ true = subst IsTrue w.if-is.false (w.is.ensures.1 both.0) in cc)
      | else-found-length-via-else-found-length w ↦ absurd (let short = w.if-found-length.false in omega (arith, both.1))
    ] in
    record { outdated = λ outdated. (λ was. isnt (c.look_up.ensures.looks.still c.args.wanted.now c.args.length was), isnt); compressed = λ compressed. let no : OutdatedMapping ≡ Compressed = compressed in absurd cc }

pub returns-in_err-kind-clause-held : goal.returns-in_err-kind-clause-held
returns-in_err-kind-clause-held g c = λ some.
    handed_on (λ (r : Result _ _). FitsTables c.args.self.now c.look_up.new.self c.args.offset c.args.wanted.now c.args.length r) c.from_residual.result c.in_err-kind.field-0.0 c.from_residual.ensures
    (heeds_else c.args.self.now c.look_up.new.self c.args.offset c.args.wanted.now c.args.length IsOfTables c.in_err-kind.field-0.0 (λ no. no) (λ no. no) (finding_tables c.args.self.now c.look_up.new.self c.args.offset c.args.length c.in_err-kind.field-0.0 c.in_err-kind.ensures.fails.cause))

pub returns-in_err-kind-clause-fails : goal.returns-in_err-kind-clause-fails
returns-in_err-kind-clause-fails g c = record {
  faults = search rules;
  cause = hands_met (MayFailFindingAgain c.args.self.now c.look_up.new.self c.args.offset c.args.length) c.from_residual.result c.in_err-kind.field-0.0 c.from_residual.ensures (inl c.in_err-kind.ensures.fails.cause);
}

pub returns-clause-fails : goal.returns-clause-fails
returns-clause-fails g c = record { faults = search rules; cause = inr refl }

pub returns-then-is-clause-special : goal.returns-then-is-clause-special
returns-then-is-clause-special g c = λ so.
    let same : c.args.wanted.now ≡ c.in_ok-kind.kind = c.is.ensures.0 c.if-is.true in
    c.in_ok-kind.ensures.kind.special (subst IsSpecial same so)
