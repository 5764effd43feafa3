-- A cached value is replaced by another one.
use Rattle.std.proofs.Common.{◌≡◌, ℕ, false, cond, eqb, List, Option, Some, None, refl, ap, ◌∙◌}
use Rattle.qcow2_alloc.proofs.Common.{nat_eq_equiv, option_map, option_map_or, lookup, set_value, Slot, slot_of, value_at, set_at, ChangesHeld}
use Rattle.qcow2_alloc.proofs.CachePins.{set_found}

module _ {V : Type 0} (key : ℕ) (es : List (ℕ × Slot V)) (w : V) where
  abbrev value_of : Option (Slot V) → Option V
  value_of o = option_map (λ s. s.value) o

  abbrev with_value : Option (Slot V) → List (ℕ × Slot V)
  with_value o = option_map_or (λ s. set_value (eqb key) es (slot_of w s.pins)) o es

  pub here_of : (o : Option (Slot V)) → lookup (eqb key) es ≡ o → (v : V) → value_of o ≡ Some v → value_at (eqb key) (with_value o) ≡ Some w
  here_of None found v is = cc
  here_of (Some s) found v is = ap value_of (set_found key es s (slot_of w s.pins) found key) ∙ ap (λ b. value_of (cond b (Some (slot_of w s.pins)) (lookup (eqb key) es))) (nat_eq_equiv.refl key)

  others_of : (o : Option (Slot V)) → lookup (eqb key) es ≡ o → (c : ℕ) → eqb key c ≡ false → value_at (eqb c) (with_value o) ≡ value_at (eqb c) es
  others_of None found c other = refl
  others_of (Some s) found c other = ap value_of (set_found key es s (slot_of w s.pins) found c) ∙ ap (λ b. value_of (cond b (Some (slot_of w s.pins)) (lookup (eqb c) es))) other

  pub one_changed : (v : V) → value_at (eqb key) es ≡ Some v → (with_bytes : List ℕ → V) (Change : List ℕ → Type 0) (bytes : List ℕ) → w ≡ with_bytes bytes → Change bytes
      → ChangesHeld (λ c. value_at (eqb c) es) (λ c. value_at (eqb c) (set_at (eqb key) es w)) key with_bytes Change
  one_changed v found with_bytes Change bytes is change = record {
    bytes = bytes;
    change = change;
    here = here_of (lookup (eqb key) es) refl v found ∙ ap (λ x. Some x) is;
    others = λ c other. others_of (lookup (eqb key) es) refl c other;
  }
