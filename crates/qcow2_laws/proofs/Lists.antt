-- Lists of cached tables, one of which is written.
use Rattle.std.proofs.Common.{◌≡◌, ◌+◌, ◌-◌, ◌/◌, ◌%◌, ◌<◌, ◌∷◌, ◌++◌, ◌&&◌, ℕ, inl, inr, Bool, true, false, cond, List, [], refl, sym, ap, subst, ◌∙◌, arith}
use Rattle.qcow2_laws.proofs.Common.{fun_ext, cases_eq, cases_Bool, cond-true, cond-false, Bytes, is_within, CachedTable, known, overlays, IsPartly, IsSameOutside, IsFreeAt, AreApart, AreClean, IsWrittenSo}
use Rattle.qcow2_laws.proofs.Places.{in_one}
use Rattle.qcow2_disk.proofs.Within.{within_is}

-- ---- places in a cluster

pub within_cluster : (place size o : ℕ) → place % size ≡ 0 → is_within place size o ≡ true → o / size ≡ place / size
within_cluster place size o aligned is =
    let w = within_is place size o is in
    let e : o ≡ place + (o - place) = omega arith in
    ap (λ n. n / size) e ∙ in_one size place (o - place) aligned (omega arith)

pub cluster_within : (place size o : ℕ) → 0 < size → place % size ≡ 0 → o / size ≡ place / size → is_within place size o ≡ true
cluster_within place size o some aligned same = grind arith

pub differs : (b : Bool) → b ≡ true → b ≡ false → ⊥
differs b is isnt = cc

pub overlays_modified : (size : ℕ) (t : CachedTable) (o : ℕ) → overlays size t o ≡ true → t.is_modified ≡ true
overlays_modified size t o is = grind arith

pub overlays_within : (size : ℕ) (t : CachedTable) (o : ℕ) → overlays size t o ≡ true → is_within t.place size o ≡ true
overlays_within size t o is = grind arith

pub no_overlay : (size : ℕ) (t : CachedTable) (o : ℕ) → (overlays size t o ≡ true → ⊥) → overlays size t o ≡ false
no_overlay size t o none = elim (cases_Bool (overlays size t o)) [ inl is ↦ absurd (none is) | inr isnt ↦ isnt ]

pub unmodified_over : (size : ℕ) (t : CachedTable) (o : ℕ) → t.is_modified ≡ false → overlays size t o ≡ false
unmodified_over size t o clean = ap (λ m. m && is_within t.place size o) clean

-- ---- what is known

-- what is known at a place depends on the storage at that place alone
pub known-at : (size : ℕ) (tables : List CachedTable) (b c : Bytes) (o : ℕ) → b o ≡ c o → known size tables b o ≡ known size tables c o
unfolding known
known-at size [] b c o same = same
known-at size (t ∷ tables) b c o same = ap (λ n. cond (overlays size t o) (t.bytes (o - t.place)) n) (known-at size tables b c o same)

pub known-none : (size : ℕ) (tables : List CachedTable) (b : Bytes) (o : ℕ) → IsFreeAt size tables o → known size tables b o ≡ b o
unfolding known
known-none size [] b o none = refl
known-none size (t ∷ tables) b o none = cond-false _ _ _ none.0 ∙ known-none size tables b o none.1

known_over : (size : ℕ) (t : CachedTable) (ts : List CachedTable) (b : Bytes) (o : ℕ) → overlays size t o ≡ true → known size (t ∷ ts) b o ≡ t.bytes (o - t.place)
unfolding known
known_over size t ts b o over = cond-true _ _ _ over

known_past : (size : ℕ) (t : CachedTable) (ts : List CachedTable) (b : Bytes) (o : ℕ) → overlays size t o ≡ false → known size (t ∷ ts) b o ≡ known size ts b o
unfolding known
known_past size t ts b o past = cond-false _ _ _ past

known_cons : (size : ℕ) (t : CachedTable) (ts us : List CachedTable) (b c : Bytes) (o : ℕ) → known size ts b o ≡ known size us c o → known size (t ∷ ts) b o ≡ known size (t ∷ us) c o
unfolding known
known_cons size t ts us b c o same = ap (λ n. cond (overlays size t o) (t.bytes (o - t.place)) n) same

-- a table of a list of which none lies at the place
free_at : (size : ℕ) (front back : List CachedTable) (t : CachedTable) (o : ℕ) → IsFreeAt size (front ++ t ∷ back) o → overlays size t o ≡ false
free_at size [] back t o free = free.0
free_at size (u ∷ front) back t o free = free_at size front back t o free.1

-- where one lies, none of the others does
free_others : (size : ℕ) (front back : List CachedTable) (t : CachedTable) (o : ℕ) → AreApart size (front ++ t ∷ back) → overlays size t o ≡ true → IsFreeAt size (front ++ back) o
free_others size [] back t o apart over = apart.1 o over
free_others size (u ∷ front) back t o apart over =
    (no_overlay size u o (λ both. differs (overlays size t o) over (free_at size front back t o (apart.1 o both))), free_others size front back t o apart.2 over)

-- where a modified table of the list lies, its bytes are known
pub known_there : (size : ℕ) (front back : List CachedTable) (t : CachedTable) (b : Bytes) (o : ℕ) → AreApart size (front ++ t ∷ back) → overlays size t o ≡ true
    → known size (front ++ t ∷ back) b o ≡ t.bytes (o - t.place)
known_there size [] back t b o apart over = known_over size t back b o over
known_there size (u ∷ front) back t b o apart over =
    known_past size u (front ++ t ∷ back) b o (no_overlay size u o (λ both. differs (overlays size t o) over (free_at size front back t o (apart.1 o both))))
    ∙ known_there size front back t b o apart.2 over

-- elsewhere the table doesn't matter
pub known_elsewhere : (size : ℕ) (front back : List CachedTable) (t : CachedTable) (b : Bytes) (o : ℕ) → overlays size t o ≡ false
    → known size (front ++ t ∷ back) b o ≡ known size (front ++ back) b o
known_elsewhere size [] back t b o past = known_past size t back b o past
known_elsewhere size (u ∷ front) back t b o past = known_cons size u (front ++ t ∷ back) (front ++ back) b b o (known_elsewhere size front back t b o past)

-- a table that isn't modified may come, go, or move
pub known_unmodified : (size : ℕ) (front back : List CachedTable) (t : CachedTable) (b : Bytes) → t.is_modified ≡ false → known size (front ++ t ∷ back) b ≡ known size (front ++ back) b
known_unmodified size front back t b clean = fun_ext (λ o. known_elsewhere size front back t b o (unmodified_over size t o clean))

-- a table comes to the front of the list
pub known_promoted : (size : ℕ) (front back : List CachedTable) (t : CachedTable) (b : Bytes) → AreApart size (front ++ t ∷ back) → known size (front ++ t ∷ back) b ≡ known size (t ∷ (front ++ back)) b
known_promoted size front back t b apart = grind (arith, known_there, known_over, known_elsewhere, known_past)

-- a table of the list is changed: outside of its cluster nothing changes, and there it is what the table says
module _ (size : ℕ) (front back : List CachedTable) (t t' : CachedTable) (b : Bytes) (place : t'.place ≡ t.place) (aligned : t.place % size ≡ 0) where
  pub changed_outside : IsSameOutside size (t.place / size) (known size (front ++ t ∷ back) b) (known size (front ++ t' ∷ back) b)
  changed_outside o other =
      known_elsewhere size front back t b o (no_overlay size t o (λ over. other (within_cluster t.place size o aligned (overlays_within size t o over))))
      ∙ sym (known_elsewhere size front back t' b o (no_overlay size t' o (λ over. other (within_cluster t.place size o aligned (subst (λ p. is_within p size o ≡ true) place (overlays_within size t' o over))))))

  pub changed_there : AreApart size (front ++ t' ∷ back) → t'.is_modified ≡ true → (k : ℕ) → k < size → known size (front ++ t' ∷ back) b (t'.place + k) ≡ t'.bytes k
  changed_there apart marked k lt = grind (arith, known_there)

pub clean_known : (size : ℕ) (ts : List CachedTable) (b : Bytes) → AreClean ts → known size ts b ≡ b
clean_known size ts b clean = fun_ext (λ o. known-none size ts b o (free ts o clean))
  where
    free : (ts : List CachedTable) (o : ℕ) → AreClean ts → IsFreeAt size ts o
    free [] o clean = tt
    free (t ∷ ts) o clean = (unmodified_over size t o clean.0, free ts o clean.1)

-- ---- one table is written
module _ (size : ℕ) (t t' : CachedTable) (b b' : Bytes) (so : IsWrittenSo size t t' b b') where
  still_past : (o : ℕ) → overlays size t o ≡ false → overlays size t' o ≡ false
  still_past o past = grind arith

  untouched : (o : ℕ) → overlays size t o ≡ false → b' o ≡ b o
  untouched o past = elim so.outcome [
    | inl none ↦ ap (λ (m : Bytes). m o) none.0
    | inr done ↦ ap (λ (m : Bytes). m o) done.0 ∙ known-none size (t ∷ []) b o (past, tt)
  ]

  pub free_too : (front back : List CachedTable) (o : ℕ) → IsFreeAt size (front ++ t ∷ back) o → IsFreeAt size (front ++ t' ∷ back) o
  free_too [] back o free = (still_past o free.0, free.1)
  free_too (u ∷ front) back o free = (free.0, free_too front back o free.1)

  pub apart_too : (front back : List CachedTable) → AreApart size (front ++ t ∷ back) → AreApart size (front ++ t' ∷ back)
  apart_too [] back apart = (ap (λ p. p % size) so.place ∙ apart.0, (λ o over. apart.1 o (elim (cases_Bool (overlays size t o)) [ inl is ↦ is | inr past ↦ absurd (differs (overlays size t' o) over (still_past o past)) ])), apart.2)
  apart_too (u ∷ front) back apart = (apart.0, (λ o over. free_too front back o (apart.1 o over)), apart_too front back apart.2)

  pub written_partly : (front back : List CachedTable) → 0 < size → AreApart size (front ++ t ∷ back) → IsPartly size b (known size (front ++ t ∷ back) b) b'
  written_partly front back some apart c = elim so.outcome [
    | inl none ↦ inl (λ o in_c. ap (λ (m : Bytes). m o) none.0)
    | inr done ↦ elim (cases_Bool t.is_modified) [
      | inr clean ↦ inl (λ o in_c. ap (λ (m : Bytes). m o) done.0 ∙ known-none size (t ∷ []) b o (unmodified_over size t o clean, tt))
      | inl marked ↦ elim (cases_eq c (t.place / size)) [
        | inl here ↦ inr (λ o in_c.
            let over : overlays size t o ≡ true = ap (λ m. m && is_within t.place size o) marked ∙ (cluster_within t.place size o some (aligned_at front apart) (in_c ∙ here)) in
            ap (λ (m : Bytes). m o) done.0 ∙ known_over size t [] b o over ∙ sym (known_there size front back t b o apart over))
        | inr other ↦ inl (λ o in_c. untouched o (no_overlay size t o (λ over. other (sym in_c ∙ within_cluster t.place size o (aligned_at front apart) (overlays_within size t o over)))))
      ]
    ]
  ]
    where
      aligned_at : (front : List CachedTable) → AreApart size (front ++ t ∷ back) → t.place % size ≡ 0
      aligned_at [] apart = apart.0
      aligned_at (u ∷ front) apart = aligned_at front apart.2

  -- it is known as before
  pub written_known : (front back : List CachedTable) → AreApart size (front ++ t ∷ back) → known size (front ++ t' ∷ back) b' ≡ known size (front ++ t ∷ back) b
  written_known front back apart = fun_ext (λ o. elim (cases_Bool (overlays size t o)) [
    | inr past ↦
        known_elsewhere size front back t' b' o (still_past o past) ∙ known-at size (front ++ back) b' b o (untouched o past) ∙ sym (known_elsewhere size front back t b o past)
    | inl over ↦ elim (cases_Bool (overlays size t' o)) [
      | inl still ↦
          let same : t'.bytes (o - t'.place) ≡ t.bytes (o - t.place) = ap (λ (f : Bytes). f (o - t'.place)) so.bytes ∙ ap (λ p. t.bytes (o - p)) so.place in
          known_there size front back t' b' o (apart_too front back apart) still ∙ same ∙ sym (known_there size front back t b o apart over)
      | inr gone ↦
          known_elsewhere size front back t' b' o gone
          ∙ known-none size (front ++ back) b' o (free_others size front back t o apart over)
          ∙ was_written o gone over
          ∙ sym (known_there size front back t b o apart over)
    ]
  ])
    where
      was_written : (o : ℕ) → overlays size t' o ≡ false → overlays size t o ≡ true → b' o ≡ t.bytes (o - t.place)
      was_written o gone over = elim so.outcome [
        | inl none ↦ absurd (
            let marked : t'.is_modified ≡ true = none.1 ∙ overlays_modified size t o over in
            let inside : is_within t'.place size o ≡ true = subst (λ p. is_within p size o ≡ true) (sym so.place) (overlays_within size t o over) in
            let both : overlays size t' o ≡ true = ap (λ m. m && is_within t'.place size o) marked ∙ inside in
            differs (overlays size t' o) both gone)
        | inr done ↦ ap (λ (m : Bytes). m o) done.0 ∙ known_over size t [] b o over
      ]
