use Rattle.std.proofs.Common.{◌≡◌, ◌∙◌, ap, refl, subst, ℕ, None, Option, Some, true, Err, Ok, Result, false}
use Rattle.qcow2_session.proofs.Common.{IfOk, option_map, option_flatten, BackingView, StorageView, ImageError, Missing, Qcow2, IsHonestBacking, Opens, missing_beside}
use Rattle.qcow2_image.specs.declared.opening.Qcow2OpenBuilder.{Qcow2OpenBuilder}
use Rattle.qcow2_image.specs.Readable.{IsNewlyOpened, OpeningStep, files_missing}
use Rattle.std.proofs.lemmas.Result.{IfOk-weaker}
use Rattle.qcow2_session.proofs.headline.open_over.Goals as goal

-- the builder that opens a storage for writing, over this disk where there is one
abbrev builder_over : {S F : Type 0} → S → ℕ → Option F → Qcow2OpenBuilder S F
builder_over storage number below = record { image = storage; number = number; writable = true; backing = option_map Some below; data_file = None }

missing_is : {F : Type 0} (S : Type 0) (below : Option F) → files_missing {S = S} (option_map Some below) None ≡ missing_beside below
missing_is S None = refl
missing_is S (Some disk) = refl

given_is : {F : Type 0} (below : Option F) → option_flatten (option_map Some below) ≡ below
given_is None = refl
given_is (Some disk) = refl

made_so : {S F : Type 0} (storage : S) (number : ℕ) (below : Option F) (new written over : Qcow2OpenBuilder S F) → new ≡ record { image = storage; number = number; writable = false; backing = None; data_file = None } → written ≡ record new { writable = true }
    → over ≡ record written { backing = option_map Some below } → over ≡ builder_over storage number below
made_so storage number below new written over is write set =
    set ∙ ap (λ (b : Qcow2OpenBuilder _ _). record b { backing = option_map Some below }) (write ∙ ap (λ (b : Qcow2OpenBuilder _ _). record b { writable = true }) is)

module _ {S F : Type 0} (view : S → StorageView) (storage : S) (number : ℕ) (below : Option F) (b : Qcow2OpenBuilder S F) (is : b ≡ builder_over storage number below) (result : Result (Qcow2 S F) (S × ImageError)) where
  step_by : OpeningStep view (view b.image) b.writable (files_missing b.backing b.data_file) result → OpeningStep view (view storage) true (missing_beside below) result
  step_by step = subst (λ (m : Missing). OpeningStep view (view storage) true m result) (missing_is S below) (subst (λ (x : Qcow2OpenBuilder S F). OpeningStep view (view x.image) x.writable (files_missing x.backing x.data_file) result) is step)

  image_by : IfOk result (IsNewlyOpened (view b.image) b.writable b.number) → IfOk result (IsNewlyOpened (view storage) true number)
  image_by image = subst (λ (x : Qcow2OpenBuilder S F). IfOk result (IsNewlyOpened (view x.image) x.writable x.number)) is image

  over_by : IfOk result (λ image. (image.backing ≡ option_flatten b.backing) × (image.data_file ≡ option_flatten b.data_file)) → IfOk result (λ image. (image.backing ≡ below) × (image.data_file ≡ None))
  over_by over = subst (λ disk. IfOk result (λ image. (image.backing ≡ disk) × (image.data_file ≡ None))) (given_is below) (subst (λ (x : Qcow2OpenBuilder S F). IfOk result (λ image. (image.backing ≡ option_flatten x.backing) × (image.data_file ≡ option_flatten x.data_file))) is over)

  opens_by : (backing : F → BackingView) → (IsHonestBacking view backing (option_flatten b.backing) → option_flatten b.data_file ≡ None → IfOk result (Opens view backing (view b.image))) → IsHonestBacking view backing below → IfOk result (Opens view backing (view storage))
  opens_by backing opens honest = subst (λ (disk : Option F). IsHonestBacking view backing disk → (◌≡◌ {A = Option S} None None) → IfOk result (Opens view backing (view storage))) (given_is below)
      (subst (λ (x : Qcow2OpenBuilder S F). IsHonestBacking view backing (option_flatten x.backing) → option_flatten x.data_file ≡ None → IfOk result (Opens view backing (view x.image))) is opens) honest refl

-- what is so of each answer under a premise
if_ok_under : {A E P : Type 0} (Q : A → Type 0) (result : Result A E) → (P → IfOk result Q) → IfOk result (λ a. P → Q a)
if_ok_under Q (Ok a) holds = holds
if_ok_under Q (Err e) holds = tt

pub returns-clause-since : goal.returns-clause-since
returns-clause-since g c = (step_by g.S.Storage.view c.args.storage c.args.number c.args.below c.over_disk.result (made_so c.args.storage c.args.number c.args.below c.new.result c.write.result c.over_disk.result c.new.ensures c.write.ensures c.over_disk.ensures) c.open.result c.open.ensures.step).since

pub returns-clause-faults : goal.returns-clause-faults
returns-clause-faults g c = (step_by g.S.Storage.view c.args.storage c.args.number c.args.below c.over_disk.result (made_so c.args.storage c.args.number c.args.below c.new.result c.write.result c.over_disk.result c.new.ensures c.write.ensures c.over_disk.ensures) c.open.result c.open.ensures.step).faults

pub returns-clause-storage : goal.returns-clause-storage
returns-clause-storage g c = (step_by g.S.Storage.view c.args.storage c.args.number c.args.below c.over_disk.result (made_so c.args.storage c.args.number c.args.below c.new.result c.write.result c.over_disk.result c.new.ensures c.write.ensures c.over_disk.ensures) c.open.result c.open.ensures.step).storage

pub returns-clause-another : goal.returns-clause-another
returns-clause-another g c = (step_by g.S.Storage.view c.args.storage c.args.number c.args.below c.over_disk.result (made_so c.args.storage c.args.number c.args.below c.new.result c.write.result c.over_disk.result c.new.ensures c.write.ensures c.over_disk.ensures) c.open.result c.open.ensures.step).another

pub returns-clause-cause : goal.returns-clause-cause
returns-clause-cause g c = (step_by g.S.Storage.view c.args.storage c.args.number c.args.below c.over_disk.result (made_so c.args.storage c.args.number c.args.below c.new.result c.write.result c.over_disk.result c.new.ensures c.write.ensures c.over_disk.ensures) c.open.result c.open.ensures.step).cause

pub returns-clause-format : goal.returns-clause-format
returns-clause-format g c = λ honest. IfOk-weaker c.open.result _ _ (λ image is. is.format honest) (image_by g.S.Storage.view c.args.storage c.args.number c.args.below c.over_disk.result (made_so c.args.storage c.args.number c.args.below c.new.result c.write.result c.over_disk.result c.new.ensures c.write.ensures c.over_disk.ensures) c.open.result c.open.ensures.image)

pub returns-clause-ok : goal.returns-clause-ok
returns-clause-ok g c = IfOk-weaker c.open.result _ _ (λ image is. (is.number_is, is.works, is.writable_is)) (image_by g.S.Storage.view c.args.storage c.args.number c.args.below c.over_disk.result (made_so c.args.storage c.args.number c.args.below c.new.result c.write.result c.over_disk.result c.new.ensures c.write.ensures c.over_disk.ensures) c.open.result c.open.ensures.image)

pub returns-clause-header_cluster : goal.returns-clause-header_cluster
returns-clause-header_cluster g c = IfOk-weaker c.open.result _ _ (λ image is. is.header_cluster) (image_by g.S.Storage.view c.args.storage c.args.number c.args.below c.over_disk.result (made_so c.args.storage c.args.number c.args.below c.new.result c.write.result c.over_disk.result c.new.ensures c.write.ensures c.over_disk.ensures) c.open.result c.open.ensures.image)

pub returns-clause-over : goal.returns-clause-over
returns-clause-over g c = over_by g.S.Storage.view c.args.storage c.args.number c.args.below c.over_disk.result (made_so c.args.storage c.args.number c.args.below c.new.result c.write.result c.over_disk.result c.new.ensures c.write.ensures c.over_disk.ensures) c.open.result c.open.ensures.over

pub returns-clause-opens : goal.returns-clause-opens
returns-clause-opens g c = if_ok_under (Opens g.S.Storage.view g.F.BackingDisk.backing (g.S.Storage.view c.args.storage)) c.open.result (opens_by g.S.Storage.view c.args.storage c.args.number c.args.below c.over_disk.result (made_so c.args.storage c.args.number c.args.below c.new.result c.write.result c.over_disk.result c.new.ensures c.write.ensures c.over_disk.ensures) c.open.result g.F.BackingDisk.backing c.open.ensures.opens)
