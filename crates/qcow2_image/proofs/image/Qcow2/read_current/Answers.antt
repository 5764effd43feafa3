use Rattle.std.proofs.Common.{◌≡◌, ◌+◌, ◌∙◌, inl, inr, length, Err, subst, sym, arith, IfOk, rules, IfErr, Result, is_some}
use Rattle.qcow2_image.proofs.Common.{is_beside, Shows, OutdatedMapping, handed_on, always_ok, IsFoundWhole, further_by, disk_of, IsCacheHeld, MayFailMapped, MayFailReading, written_then, FitsTables, IsHeldAs, LooksQuietly, ReadsAs, MayFailFindingAgain, MayFailReadingFound, IsSpecial, on_ok_weaker}
use Rattle.qcow2_image.proofs.Lemmas.{keeps_then, none_past, hands_met, mapped_met, met_as, heeds_then, held_as, none_eof, step_then, looks_none, looks_then, reading_found, reads_from, special_of}
use Rattle.qcow2_alloc.specs.declared.error.ImageError.TheVariants.{Compressed}
use Rattle.qcow2_image.proofs.image.Qcow2.read_current.Goals as goal

pub returns-clause-sound : goal.returns-clause-sound
returns-clause-sound g c = λ p out sound.
    let old = c.args.self.now in
    let below = g.F.BackingDisk.backing in
    let view = g.S.Storage.view in
    let n = length c.args.bytes.now in
    record {
      keeps = let first = (c.in_ok-check_mapped.ensures.sound p out sound).keeps in
          keeps_then view below out old c.check_mapped.new.self c.read_as.new.self p p p (λ k h. h) first (c.read_as.ensures.keeps p out first.sound);
      may_fail = let kind = further_by c.args.at c.args.mapping.now.kind in
          let whole = subst (λ o. IsFoundWhole view old o kind n) c.in_ok-offset.ensures.place (subst (λ k. IsFoundWhole view old c.in_ok-offset.offset k n) c.further-kind.ensures ((c.in_ok-check_mapped.ensures.sound p out sound).found)) in
          met_as (MayFailReading kind) (MayFailMapped (IsCacheHeld old out) kind (IsFoundWhole view old (c.args.mapping.now.offset + c.args.at) kind n)) c.read_as.result (mapped_met (IsCacheHeld old out) kind whole) (subst (λ k. IfErr c.read_as.result (MayFailReading k)) c.further-kind.ensures c.read_as.ensures.fails.cause);
      outdated = λ some is whole. none_past view old (c.args.mapping.now.offset + c.args.at) (length c.args.bytes.now) some
          (subst (λ k. IsFoundWhole view old (c.args.mapping.now.offset + c.args.at) k (length c.args.bytes.now)) (sym c.further-kind.ensures ∙ (c.read_as.ensures.outdated is).0) whole);
      mapped = always_ok c.read_as.result
          (subst (λ o. IsFoundWhole view old o (further_by c.args.at c.args.mapping.now.kind) n) c.in_ok-offset.ensures.place
          (subst (λ k. IsFoundWhole view old c.in_ok-offset.offset k n) c.further-kind.ensures ((c.in_ok-check_mapped.ensures.sound p out sound).found)));
      shows = let at : c.in_ok-offset.offset ≡ c.args.mapping.now.offset + c.args.at = c.in_ok-offset.ensures.place in
          λ some. subst (λ o. IfOk c.read_as.result (λ done. Shows (disk_of view below out.place c.read_as.new.self) o c.read_as.new.bytes)) at
          (c.read_as.ensures.shows p out ((c.in_ok-check_mapped.ensures.sound p out sound).keeps).sound ((c.in_ok-check_mapped.ensures.sound p out sound).mapped some));
    }

pub returns-in_err-offset-clause-sound : goal.returns-in_err-offset-clause-sound
returns-in_err-offset-clause-sound g c = λ p out sound.
    let old = c.args.self.now in
    record {
      keeps = search rules;
      may_fail = hands_met (MayFailMapped (IsCacheHeld old out) (further_by c.args.at c.args.mapping.now.kind) (IsFoundWhole g.S.Storage.view old (c.args.mapping.now.offset + c.args.at) (further_by c.args.at c.args.mapping.now.kind) (length c.args.bytes.now))) c.from_residual.result c.in_err-offset.field-0.0 c.from_residual.ensures (inl (inr c.in_err-offset.ensures.cause));
      outdated = λ some is whole. absurd (let none = (whole.past c.in_err-offset.ensures.past).1 in omega arith);
      mapped = search rules;
      shows = search rules;
    }

pub returns-in_err-check_mapped-clause-sound : goal.returns-in_err-check_mapped-clause-sound
returns-in_err-check_mapped-clause-sound g c = λ p out sound.
    let old = c.args.self.now in
    let view = g.S.Storage.view in
    record {
      keeps = (c.check_mapped.ensures.sound p out sound).keeps;
      may_fail = hands_met (MayFailMapped (IsCacheHeld old out) (further_by c.args.at c.args.mapping.now.kind) (IsFoundWhole view old (c.args.mapping.now.offset + c.args.at) (further_by c.args.at c.args.mapping.now.kind) (length c.args.bytes.now))) c.from_residual-in_err-check_mapped.result c.in_err-check_mapped.field-0.0 c.from_residual-in_err-check_mapped.ensures
          (inl ((c.in_err-check_mapped.ensures.sound p out sound).may_fail));
      outdated = let n = length c.args.bytes.now in
          λ some is whole. let here = subst (λ k. IsFoundWhole view old c.in_ok-offset.offset k n) (sym c.further-kind.ensures)
          (subst (λ o. IsFoundWhole view old o (further_by c.args.at c.args.mapping.now.kind) n) (sym c.in_ok-offset.ensures.place) whole) in
          handed_on (λ r. r ≡ Err OutdatedMapping → ⊥) c.from_residual-in_err-check_mapped.result c.in_err-check_mapped.field-0.0 c.from_residual-in_err-check_mapped.ensures (λ was. (c.in_err-check_mapped.ensures.sound p out sound).outdated was here) is;
      mapped = search rules;
      shows = search rules;
    }

pub returns-in_err-offset-clause-held : goal.returns-in_err-offset-clause-held
returns-in_err-offset-clause-held g c = λ some.
    handed_on (λ (r : Result _ _). FitsTables c.args.self.now c.args.self.now (c.args.mapping.now.offset + c.args.at) (further_by c.args.at c.args.mapping.now.kind) (length c.args.bytes.now) r) c.from_residual.result c.in_err-offset.field-0.0 c.from_residual.ensures
    (let isnt : ¬ IsHeldAs c.args.self.now (c.args.mapping.now.offset + c.args.at) (further_by c.args.at c.args.mapping.now.kind) (length c.args.bytes.now) = λ whole. let b = whole.below in let p = c.in_err-offset.ensures.past in omega (arith, b, p, some) in
    record { outdated = λ outdated. (isnt, isnt); compressed = λ compressed. let no : OutdatedMapping ≡ Compressed = sym c.in_err-offset.ensures.cause ∙ compressed in absurd cc })

pub returns-in_err-check_mapped-clause-held : goal.returns-in_err-check_mapped-clause-held
returns-in_err-check_mapped-clause-held g c = λ some.
    let n = length c.args.bytes.now in
    let new = c.check_mapped.new.self in
    let e = c.in_err-check_mapped.field-0.0 in
    handed_on (λ (r : Result _ _). FitsTables c.args.self.now new (c.args.mapping.now.offset + c.args.at) (further_by c.args.at c.args.mapping.now.kind) n r) c.from_residual-in_err-check_mapped.result e c.from_residual-in_err-check_mapped.ensures
    (subst (λ k. FitsTables c.args.self.now new (c.args.mapping.now.offset + c.args.at) {A = Unit {0}} k n (Err e)) c.further-kind.ensures
    (subst (λ o. FitsTables c.args.self.now new o {A = Unit {0}} c.further-kind.result n (Err e)) c.in_ok-offset.ensures.place (c.in_err-check_mapped.ensures.held some)))

pub returns-clause-held : goal.returns-clause-held
returns-clause-held g c = λ some.
    let n = length c.args.bytes.now in
    let mid = c.check_mapped.new.self in
    let new = c.read_as.new.self in
    let at = c.args.mapping.now.offset + c.args.at in
    let kind = further_by c.args.at c.args.mapping.now.kind in
    let held : IsHeldAs mid at kind n = subst (λ k. IsHeldAs mid at k n) c.further-kind.ensures (subst (λ o. IsHeldAs mid o c.further-kind.result n) c.in_ok-offset.ensures.place (c.in_ok-check_mapped.ensures.held some)) in
    heeds_then at kind n c.args.self.now new c.read_as.result
    (λ outdated. none_eof mid.file.header.fields (is_beside mid) (is_some mid.backing) mid.l1_table mid.file.caches at n (subst (λ k. IsHeldAs mid at k n) (sym c.further-kind.ensures ∙ (c.read_as.ensures.outdated outdated).0) held))
    (λ compressed. subst IsSpecial c.further-kind.ensures (special_of c.further-kind.result c.read_as.result c.read_as.ensures.fails.cause compressed))
    (held_as mid new at kind n c.read_as.ensures.tables held)

pub returns-clause-step : goal.returns-clause-step
returns-clause-step g c = record {
  header = search rules;
  list = search rules;
  part = step_then c.check_mapped.ensures.step.part c.read_as.ensures.step.part;
  quiet = written_then g.S.Storage.view c.in_ok-check_mapped.ensures.step.quiet c.read_as.ensures.step.quiet;
}

pub returns-in_err-offset-clause-quiet : goal.returns-in_err-offset-clause-quiet
returns-in_err-offset-clause-quiet g c = looks_none g.S.Storage.view (c.args.mapping.now.offset + c.args.at) c.args.self.now

pub returns-in_err-check_mapped-clause-quiet : goal.returns-in_err-check_mapped-clause-quiet
returns-in_err-check_mapped-clause-quiet g c = subst (λ o. LooksQuietly g.S.Storage.view o c.args.self.now c.check_mapped.new.self) c.in_ok-offset.ensures.place c.check_mapped.ensures.looks.quiet

pub returns-clause-quiet : goal.returns-clause-quiet
returns-clause-quiet g c =
    let view = g.S.Storage.view in
    let old = c.args.self.now in
    let mid = c.check_mapped.new.self in
    looks_then view (c.args.mapping.now.offset + c.args.at) old mid c.read_as.new.self (subst (λ o. LooksQuietly view o old mid) c.in_ok-offset.ensures.place c.check_mapped.ensures.looks.quiet) c.read_as.ensures.quiet

pub returns-clause-reads : goal.returns-clause-reads
returns-clause-reads g c =
    let view = g.S.Storage.view in
    on_ok_weaker c.read_as.result (λ reads. reads_from view c.args.self.now c.check_mapped.new.self c.read_as.new.self (further_by c.args.at c.args.mapping.now.kind) c.read_as.new.bytes c.check_mapped.ensures.looks.data_file c.check_mapped.ensures.step.part.notes.storage.honest
    (subst (λ k. ReadsAs view c.check_mapped.new.self c.read_as.new.self k c.read_as.new.bytes) c.further-kind.ensures reads)) c.read_as.ensures.reads

pub returns-in_err-offset-clause-fails : goal.returns-in_err-offset-clause-fails
returns-in_err-offset-clause-fails g c = record {
  faults = search rules;
  cause = hands_met (MayFailReadingFound c.args.self.now c.args.self.now (c.args.mapping.now.offset + c.args.at) (length c.args.bytes.now)) c.from_residual.result c.in_err-offset.field-0.0 c.from_residual.ensures (inl (inr c.in_err-offset.ensures.cause));
}

pub returns-in_err-check_mapped-clause-fails : goal.returns-in_err-check_mapped-clause-fails
returns-in_err-check_mapped-clause-fails g c =
    let new = c.check_mapped.new.self in
    let n = length c.args.bytes.now in
    let e = c.in_err-check_mapped.field-0.0 in
    record {
      faults = search rules;
      cause = hands_met (MayFailReadingFound c.args.self.now new (c.args.mapping.now.offset + c.args.at) n) c.from_residual-in_err-check_mapped.result e c.from_residual-in_err-check_mapped.ensures
          (inl (subst (λ o. MayFailFindingAgain c.args.self.now new o n e) c.in_ok-offset.ensures.place c.in_err-check_mapped.ensures.fails.cause));
    }

pub returns-clause-fails : goal.returns-clause-fails
returns-clause-fails g c =
    let old = c.args.self.now in
    let mid = c.check_mapped.new.self in
    let new = c.read_as.new.self in
    let n = length c.args.bytes.now in
    record {
      faults = search rules;
      cause = met_as (MayFailReading c.further-kind.result) (MayFailReadingFound old new (c.args.mapping.now.offset + c.args.at) n) c.read_as.result
          (λ e why. subst (λ o. MayFailReadingFound old new o n e) c.in_ok-offset.ensures.place (reading_found old mid new c.in_ok-offset.offset n c.further-kind.result c.read_as.ensures.tables c.in_ok-check_mapped.ensures.special e why)) c.read_as.ensures.fails.cause;
    }
