-- Slots of prepared mappings.
use Rattle.std.proofs.Common.{◌≡◌, ◌∷◌, ◌++◌, ℕ, zero, suc, List, [], refl, sym, ap, ◌∙◌, subst, Option, Some, None, length, replicate}
use Rattle.qcow2_session.proofs.Common.{slice_get, slice_set, append-nil, fun_ext, PreparedMapping, Abstraction, HasFreePlaces, Guest, abstract_image, guest_of, AnsweredEffect, with_slot, stops_none, rests_none, set_set, set_same}
use Rattle.qcow2_session.proofs.Turns.{none_within, does_if, does_then}

pub set_back : {X : Type 0} (xs : List X) (k : ℕ) (a b : X) → slice_get xs k ≡ Some b → slice_set (slice_set xs k a) k b ≡ xs
set_back xs k a b e = set_set xs k a b ∙ set_same xs k b e

-- what was there, put back
pub set_again : {X : Type 0} (xs : List X) (k : ℕ) (a b v : X) → slice_get xs k ≡ Some v → b ≡ v → slice_set (slice_set xs k a) k b ≡ xs
set_again xs k a b v e same = set_back xs k a b (e ∙ ap Some (sym same))

pub get_front : {X : Type 0} (xs ys : List X) (k : ℕ) (y : X) → slice_get xs k ≡ Some y → slice_get (xs ++ ys) k ≡ Some y
get_front [] ys k y e = cc
get_front (x ∷ xs) ys zero y e = e
get_front (x ∷ xs) ys (suc k) y e = get_front xs ys k y e

get_last : {X : Type 0} (xs : List X) (y : X) → slice_get (xs ++ y ∷ []) (length xs) ≡ Some y
get_last [] y = refl
get_last (x ∷ xs) y = get_last xs y

set_last : {X : Type 0} (xs : List X) (y z : X) → slice_set (xs ++ y ∷ []) (length xs) z ≡ xs ++ z ∷ []
set_last [] y z = refl
set_last (x ∷ xs) y z = ap (λ ys. x ∷ ys) (set_last xs y z)

module _ {D P : Type 0} (spec : Abstraction D P) (has : HasFreePlaces spec) where
  -- the same image with other places
  pub does_none : (d : D) (out out' : List (Option P)) → (spec.is_sound d out → spec.is_sound d out') → spec.surplus d out' ≡ spec.surplus d out
      → AnsweredEffect (abstract_image spec d out) (abstract_image spec d out') [] [] ((guest_of (abstract_image spec d out')).disk ≡ (guest_of (abstract_image spec d out)).disk)
  does_none d out out' sound same = record {
    acts = record {
      number = refl;
      works = λ h. record {
        setting = refl;
        surplus = λ _. same;
        beside = λ _ g untouched. refl;
        leaks = refl;
        stops = stops_none (abstract_image spec d out) (abstract_image spec d out') [] [] refl (λ _. refl);
      };
      rests = λ failed. rests_none (abstract_image spec d out) (abstract_image spec d out') refl refl failed refl;
    };
    answer = λ h. (sound h, refl);
  }

  pub enters : (d : D) (out : List (Option P)) → AnsweredEffect (abstract_image spec d out) (abstract_image spec d (None ∷ out)) [] [] ((guest_of (abstract_image spec d (None ∷ out))).disk ≡ (guest_of (abstract_image spec d out)).disk)
  enters d out = does_none d out (None ∷ out) (has.free d [] out) (has.surplus d [] out)

  pub leaves : (d : D) (out : List (Option P)) → AnsweredEffect (abstract_image spec d (None ∷ out)) (abstract_image spec d out) [] [] ((guest_of (abstract_image spec d out)).disk ≡ (guest_of (abstract_image spec d (None ∷ out))).disk)
  leaves d out = does_none d (None ∷ out) out (has.left d [] out) (sym (has.surplus d [] out))

  -- ---- many free places

  slots_none : (d : D) (n k : ℕ) → (abstract_image spec d []).slots k ≡ (abstract_image spec d (replicate n None)).slots k
  slots_none d zero k = refl
  slots_none d (suc n) zero = refl
  slots_none d (suc n) (suc k) = slots_none d n k

  pub guest_none : (d : D) (n : ℕ) → guest_of (abstract_image spec d []) ≡ guest_of (abstract_image spec d (replicate n None))
  guest_none d n = ap (λ (f : ℕ → Option PreparedMapping). record (guest_of (abstract_image spec d [])) { slots = f }) (fun_ext (slots_none d n))

  pub sound_none : (d : D) (n : ℕ) → spec.is_sound d [] → spec.is_sound d (replicate n None)
  sound_none d zero sound = sound
  sound_none d (suc n) sound = has.free d [] (replicate n None) (sound_none d n sound)

  pub surplus_none : (d : D) (n : ℕ) → spec.surplus d (replicate n None) ≡ spec.surplus d []
  surplus_none d zero = refl
  surplus_none d (suc n) = has.surplus d [] (replicate n None) ∙ surplus_none d n

  -- ---- the last place is let go

  pub last_none : (d : D) (out : List (Option P)) → AnsweredEffect (abstract_image spec d (out ++ None ∷ [])) (abstract_image spec d out) [] [] ((guest_of (abstract_image spec d out)).disk ≡ (guest_of (abstract_image spec d (out ++ None ∷ []))).disk)
  last_none d out =
      let full = abstract_image spec d (out ++ None ∷ []) in
      subst (λ (o : List (Option P)). AnsweredEffect full (abstract_image spec d o) [] [] ((guest_of (abstract_image spec d o)).disk ≡ (guest_of full).disk)) (append-nil out)
      (does_none d (out ++ None ∷ []) (out ++ []) (has.left d out []) (sym (has.surplus d out [])))

  pub last_release : (old new : D) (p : P) (out : List (Option P))
      → ((o : List (Option P)) (k : ℕ) → slice_get o k ≡ Some (Some p) → AnsweredEffect (abstract_image spec old o) (abstract_image spec new (slice_set o k None)) [] [] (guest_of (abstract_image spec new (slice_set o k None)) ≡ with_slot (guest_of (abstract_image spec old o)) k None))
      → AnsweredEffect (abstract_image spec old (out ++ Some p ∷ [])) (abstract_image spec new out) [] [] ((guest_of (abstract_image spec new out)).disk ≡ (guest_of (abstract_image spec old (out ++ Some p ∷ []))).disk)
  last_release old new p out discards =
      let full : List (Option P) = out ++ Some p ∷ [] in
      let To = λ (o : List (Option P)). AnsweredEffect (abstract_image spec old full) (abstract_image spec new o) [] [] ((guest_of (abstract_image spec new o)).disk ≡ (guest_of (abstract_image spec old full)).disk) in
      let first : To (out ++ None ∷ []) = subst To (set_last out (Some p) None) (does_if (λ e. ap (λ (h : Guest). h.disk) e) (discards full (length out) (get_last out (Some p)))) in
      does_if (λ both. both.1 ∙ both.0) (does_then (λ _ _. none_within (abstract_image spec new (out ++ None ∷ [])) []) first (last_none new out))
