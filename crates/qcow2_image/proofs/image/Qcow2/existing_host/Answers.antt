use Rattle.qcow2_image.proofs.Call.KeptOffsets.{cached_at}
use Rattle.std.proofs.Common.{inr, ◌≡◌, ◌-◌, ◌≤◌, ℕ, Option, None, Some, refl, sym, ap, ◌∙◌, subst, arith, min, is_some, false, true}
use Rattle.qcow2_image.proofs.Common.{IfSome, IsLongestRun, is_beside, known_in, rest_of_table, writable_place, IsPlaceOf, IsWritableInTables, MayFailOn, IsUnlimited}
use Rattle.qcow2_image.proofs.Lemmas.{writable_held, hands_met, unaligned_as}
use Rattle.qcow2_alloc.proofs.ChangedTables.{if_some_then}
use Rattle.qcow2_image.proofs.Prepare.WritableInPlace.{place_found, short_of}
use Rattle.qcow2_image.proofs.Prepare.LimitCauses.{hands_unlimited}
use Rattle.qcow2_image.proofs.Prepare.MarkedPlaces.{place_behind}
use Rattle.qcow2_image.proofs.image.Qcow2.existing_host.Goals as goal

pub returns-then-found-length-clause-place : goal.returns-then-found-length-clause-place
returns-then-found-length-clause-place g c = λ p sound inside alone at some.
    let h = c.args.self.now.file.header.fields in
    let known = known_in g.S.Storage.view c.args.self.now.file in
    let limit : c.min-max.result ≡ min c.args.length (rest_of_table h c.args.offset) = c.min-max.ensures ∙ ap (min c.args.length) c.rest_of_table.ensures.value in
    let run = c.in_ok-kind.ensures.run p sound alone at (omega (arith, limit)) in
    short_of h known c.args.offset c.args.length c.in_ok-kind.found some (subst (λ m. IsLongestRun h known c.args.offset m c.in_ok-kind.found) limit run.longest) c.if-found-length.true

pub returns-clause-place : goal.returns-clause-place
returns-clause-place g c = λ p sound inside alone at some.
    let h = c.args.self.now.file.header.fields in
    let known = known_in g.S.Storage.view c.args.self.now.file in
    let limit : c.min-max.result ≡ min c.args.length (rest_of_table h c.args.offset) = c.min-max.ensures ∙ ap (min c.args.length) c.rest_of_table.ensures.value in
    let run = c.in_ok-kind.ensures.run p sound alone at (omega (arith, limit)) in
    let found = subst (IsPlaceOf h known c.args.offset c.args.length) (sym (c.writable_place-place.ensures ∙ ap writable_place run.kind_is))
    (place_found h known c.args.offset c.args.length c.in_ok-kind.found some (subst (λ m. IsLongestRun h known c.args.offset m c.in_ok-kind.found) limit run.longest) (is_some c.args.self.now.backing) (let l = c.if-found-length.false in omega arith)) in
    let behind = place_behind g.S.Storage.view p c.args.self.now.file sound inside c.args.offset c.args.length c.writable_place-place.result some found in
    subst (IsPlaceOf h known c.args.offset c.args.length) (sym (c.behind_header.ensures.same (subst (λ n. IfSome c.writable_place-place.result (λ host. n ≤ host)) (sym c.cluster_size.ensures.value) behind))) found

pub returns-in_err-kind-clause-limited : goal.returns-in_err-kind-clause-limited
returns-in_err-kind-clause-limited g c = hands_unlimited c.from_residual.result c.in_err-kind.field-0.0 c.from_residual.ensures (unaligned_as IsUnlimited c.in_err-kind.field-0.0 c.in_err-kind.ensures.cause tt)

pub returns-in_err-kind-clause-reads : goal.returns-in_err-kind-clause-reads
returns-in_err-kind-clause-reads g c = λ p sound at.
    let limit : c.min-max.result ≡ min c.args.length (rest_of_table c.args.self.now.file.header.fields c.args.offset) = c.min-max.ensures ∙ ap (min c.args.length) c.rest_of_table.ensures.value in
    absurd (let no : false ≡ true = c.in_err-kind.ensures.reads p sound at (omega (arith, limit)) in cc)

pub returns-clause-held : goal.returns-clause-held
returns-clause-held g c = λ lies own.
    let image = c.args.self.now in
    let h = image.file.header.fields in
    let n = c.args.length in
    let below = lies.below in
    let limit : c.min-max.result ≡ min (min c.args.length (h.size - c.args.offset)) (rest_of_table h c.args.offset) =
    c.min-max.ensures ∙ ap (min n) c.rest_of_table.ensures.value ∙ ap (λ m. min m (rest_of_table h c.args.offset)) (omega (arith, below)) in
    let run = (c.in_ok-kind.ensures.held own lies.own.0).run n limit (let some = lies.some in omega (arith, some, below)) in
    let whole : c.in_ok-kind.found ≡ c.args.length = let most = run.at_most in let least = c.if-found-length.false in omega (arith, most, least) in
    if_some_then (λ host. c.writable_place-place.result ≡ Some host) (IsWritableInTables image c.args.offset n) c.behind_header.result c.behind_header.ensures.own
    (λ host place. subst (λ m. IsWritableInTables image c.args.offset m host) whole (writable_held h (is_beside image) (is_some image.backing) image.l1_table image.file.caches c.args.offset c.in_ok-kind.kind c.in_ok-kind.found host (sym c.writable_place-place.ensures ∙ place) run.mapped))

pub returns-in_err-kind-clause-cause : goal.returns-in_err-kind-clause-cause
returns-in_err-kind-clause-cause g c = hands_met (MayFailOn c.args.self.now) c.from_residual.result c.in_err-kind.field-0.0 c.from_residual.ensures
    (unaligned_as (MayFailOn c.args.self.now) c.in_err-kind.field-0.0 c.in_err-kind.ensures.cause (inr (inr (cached_at c.args.self.now.file.header.fields c.args.self.now.file.caches c.args.table c.args.offset _ c.in_err-kind.ensures.cause.1))))

-- what is found, if something is
each_found : (o : Option ℕ) (P : ℕ → Type 0) → ((host : ℕ) → o ≡ Some host → P host) → IfSome o P
each_found None P found = tt
each_found (Some host) P found = found host refl

pub returns-then-is_some-clause-held : goal.returns-then-is_some-clause-held
returns-then-is_some-clause-held g c = λ lies own.
    let image = c.args.self.now in
    let h = image.file.header.fields in
    let n = c.args.length in
    let below = lies.below in
    let limit : c.min-max.result ≡ min (min c.args.length (h.size - c.args.offset)) (rest_of_table h c.args.offset) =
    c.min-max.ensures ∙ ap (min n) c.rest_of_table.ensures.value ∙ ap (λ m. min m (rest_of_table h c.args.offset)) (omega (arith, below)) in
    let run = (c.in_ok-kind.ensures.held own lies.own.0).run n limit (let some = lies.some in omega (arith, some, below)) in
    let whole : c.in_ok-kind.found ≡ c.args.length = let most = run.at_most in let least = c.if-found-length.false in omega (arith, most, least) in
    each_found c.writable_place-place.result (IsWritableInTables image c.args.offset n)
    (λ host place. subst (λ m. IsWritableInTables image c.args.offset m host) whole (writable_held h (is_beside image) (is_some image.backing) image.l1_table image.file.caches c.args.offset c.in_ok-kind.kind c.in_ok-kind.found host (sym c.writable_place-place.ensures ∙ place) run.mapped))
