use Rattle.std.proofs.Common.{◌≡◌, rules, sym, subst, Result, Ok}
use Rattle.std.specs.Prelude.{IfOk}
use Rattle.program_parts.specs.Conversions.{IsImageOf}
use Rattle.qimg.specs.Conversions.{clusters_asked, width_asked}
use Rattle.qimg.proofs.conversions.import_raw.Goals as goal
use Rattle.qimg.proofs.conversions.import_raw.Goals.{in-Ok, in-Err+in-StillInUse-1, in-Err+in-ReadOnly-1}

-- what holds of each answer holds of this one
of_answer : {A E : Type 0} (P : A → Type 0) (r : Result A E) (x : A) → r ≡ Ok x → IfOk r P → P x
of_answer P r x is each = subst (λ q. IfOk q P) is each

pub returns-clause-image : goal.returns-clause-image
returns-clause-image g c = λ raw storage zero. elim c.match-imported.branch [
  | in-Ok w ↦
      let made = (of_answer _ _ _ w.in-Ok.is (c.make_image-storage.ensures.image storage)).disk raw in
      subst (λ q. IsImageOf (g.S.Storage.view c.make_image-storage.result.0) (g.R.Storage.view c.args.raw.now).contents (clusters_asked q) (width_asked q)) (sym c.in-Import.is) made
  | in-Err+in-StillInUse-1 w ↦ search rules
  | in-Err+in-ReadOnly-1 w ↦ search rules
]
