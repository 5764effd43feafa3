-- What calls keep, from one image to the next, and what follows for a stop.
use Rattle.std.proofs.Common.{arith, ◌≡◌, ◌⊎◌, ◌∷◌, ◌++◌, ⊎_elim, inl, inr, ℕ, List, [], refl, sym, ◌∙◌, subst}
use Rattle.qcow2_disk.proofs.Common.{Bytes, Value, IsConsistent, disk, KeepsHeaderRest, GivenBytes, IsGiven, IsAsked, Checkpoint, checkpoint_with, StopOk, StopOkEverywhere}
use Rattle.qcow2_disk.proofs.HeaderRest.{header_rest_same, header_rest_then}

-- ---- gifts and sizes of several calls

pub given_more : (gs hs : List GivenBytes) (o : ℕ) (v : Value) → IsGiven hs o v → IsGiven (gs ++ hs) o v
given_more [] hs o v given = given
given_more (g ∷ gs) hs o v given = inr (given_more gs hs o v given)

pub given_front : (gs hs : List GivenBytes) (o : ℕ) (v : Value) → IsGiven gs o v → IsGiven (gs ++ hs) o v
given_front [] hs o v given = absurd given
given_front (g ∷ gs) hs o v (inl given) = inl given
given_front (g ∷ gs) hs o v (inr given) = inr (given_front gs hs o v given)

pub given_split : (gs hs : List GivenBytes) (o : ℕ) (v : Value) → IsGiven (gs ++ hs) o v → IsGiven gs o v ⊎ IsGiven hs o v
given_split [] hs o v given = inr given
given_split (g ∷ gs) hs o v (inl given) = inl (inl given)
given_split (g ∷ gs) hs o v (inr given) = ⊎_elim (λ l. inl (inr l)) (λ r. inr r) (given_split gs hs o v given)

pub asked_more : (ns ms : List ℕ) (n : ℕ) → IsAsked ms n → IsAsked (ns ++ ms) n
asked_more [] ms n asked = asked
asked_more (k ∷ ns) ms n asked = inr (asked_more ns ms n asked)

pub asked_front : (ns ms : List ℕ) (n : ℕ) → IsAsked ns n → IsAsked (ns ++ ms) n
asked_front [] ms n asked = absurd asked
asked_front (k ∷ ns) ms n (inl asked) = inl asked
asked_front (k ∷ ns) ms n (inr asked) = inr (asked_front ns ms n asked)

pub asked_split : (ns ms : List ℕ) (n : ℕ) → IsAsked (ns ++ ms) n → IsAsked ns n ⊎ IsAsked ms n
asked_split [] ms n asked = inr asked
asked_split (k ∷ ns) ms n (inl asked) = inl (inl asked)
asked_split (k ∷ ns) ms n (inr asked) = ⊎_elim (λ l. inl (inr l)) (λ r. inr r) (asked_split ns ms n asked)

-- ---- what is kept

-- the kept clause is stronger than the stop clause
pub stop_of_kept : (backing : Bytes) (m : Checkpoint) (b : Bytes) → StopOkEverywhere backing m b → StopOk backing m b
stop_of_kept backing m b kept = record { consistent = kept.consistent; rest = kept.rest; size = kept.size; values = λ o _ _. kept.values o }

-- what is safe stays so with more given and asked
pub stop_more : (backing : Bytes) (given : List GivenBytes) (asked : List ℕ) (m : Checkpoint) (b : Bytes) → StopOk backing m b → StopOk backing (checkpoint_with given asked m) b
stop_more backing given asked m b stop = grind (arith, asked_more, given_more)

-- an image of which each value is that of a kept one, or given, and the size that of the kept one or asked
pub kept_on : (backing : Bytes) (m : Checkpoint) (given : List GivenBytes) (asked : List ℕ) (b b' : Bytes) → IsConsistent b' → KeepsHeaderRest b b'
    → ((disk b' backing).size ≡ (disk b backing).size) ⊎ IsAsked asked (disk b' backing).size
    → ((o : ℕ) → ((disk b' backing).value o ≡ (disk b backing).value o) ⊎ IsGiven given o ((disk b' backing).value o))
    → StopOkEverywhere backing m b → StopOkEverywhere backing (checkpoint_with given asked m) b'
kept_on backing m given asked b b' consistent rest size values kept = record {
  consistent = consistent;
  rest = header_rest_then m.header_bytes b b' kept.rest rest;
  size = ⊎_elim
      (λ (e : (disk b' backing).size ≡ (disk b backing).size). ⊎_elim (λ (l : (disk b backing).size ≡ m.last.size). inl (e ∙ l))
      (λ (a : IsAsked m.asked (disk b backing).size). inr (asked_more asked m.asked _ (subst (λ n. IsAsked m.asked n) (sym e) a))) kept.size)
      (λ (a : IsAsked asked (disk b' backing).size). inr (asked_front asked m.asked _ a)) size;
  values = λ o. ⊎_elim
      (λ (e : (disk b' backing).value o ≡ (disk b backing).value o). ⊎_elim (λ (l : (disk b backing).value o ≡ m.last.value o). inl (e ∙ l))
      (λ (g : IsGiven m.given o ((disk b backing).value o)). inr (given_more given m.given o _ (subst (λ v. IsGiven m.given o v) (sym e) g))) (kept.values o))
      (λ (g : IsGiven given o ((disk b' backing).value o)). inr (given_front given m.given o _ g)) (values o);
}

-- an image of which each value is that of one of two kept ones
pub kept_either : (backing : Bytes) (m : Checkpoint) (on_storage known b : Bytes) → IsConsistent b → KeepsHeaderRest on_storage b
    → (disk b backing).size ≡ (disk on_storage backing).size
    → ((o : ℕ) → ((disk b backing).value o ≡ (disk on_storage backing).value o) ⊎ ((disk b backing).value o ≡ (disk known backing).value o))
    → StopOkEverywhere backing m on_storage → StopOkEverywhere backing m known → StopOkEverywhere backing m b
kept_either backing m on_storage known b consistent rest size values kept known_kept = record {
  consistent = consistent;
  rest = header_rest_then m.header_bytes on_storage b kept.rest rest;
  size = subst (λ n. (n ≡ m.last.size) ⊎ IsAsked m.asked n) (sym size) kept.size;
  values = λ o. ⊎_elim
      (λ (e : (disk b backing).value o ≡ (disk on_storage backing).value o). subst (λ v. (v ≡ m.last.value o) ⊎ IsGiven m.given o v) (sym e) (kept.values o))
      (λ (e : (disk b backing).value o ≡ (disk known backing).value o). subst (λ v. (v ≡ m.last.value o) ⊎ IsGiven m.given o v) (sym e) (known_kept.values o)) (values o);
}

-- what was given twice was given
pub kept_twice : (backing : Bytes) (given : List GivenBytes) (asked : List ℕ) (m : Checkpoint) (b : Bytes) → StopOkEverywhere backing (checkpoint_with given asked (checkpoint_with given asked m)) b → StopOkEverywhere backing (checkpoint_with given asked m) b
kept_twice backing given asked m b kept = grind (arith, asked_front, asked_split, given_front, given_split)

-- what is kept is kept with more given
pub kept_more : (backing : Bytes) (given : List GivenBytes) (asked : List ℕ) (m : Checkpoint) (b : Bytes) → StopOkEverywhere backing m b → StopOkEverywhere backing (checkpoint_with given asked m) b
kept_more backing given asked m b kept = kept_on backing m given asked b b kept.consistent (header_rest_same b) (inl refl) (λ o. inl refl) kept
