-- What the caches hold after one of their tables was written.
use Rattle.std.proofs.Common.{◌≡◌, ◌≢◌, ◌+◌, ◌-◌, ◌*◌, ◌/◌, ◌%◌, ◌<◌, ◌&&◌, ◌∷◌, ◌++◌, ℕ, true, false, inl, inr, List, [], sym, ap, ◌∙◌, subst, arith}
use Rattle.qcow2_alloc.proofs.Common.{cases_Bool, div-add-mod', div-mul-add, Bytes, is_within, CachedTable, overlays, SameIn, IsFreeAt, IsFreeOf, IsWrittenSo, known_there, known-none, unmodified_over, overlays_within, within_cluster, cluster_within, no_overlay, AreElsewhere, IsCurrent, AreLoaded}

-- ---- places

pub elsewhere_of : (place : ℕ) (front back : List CachedTable) (t : CachedTable) → AreElsewhere place (front ++ t ∷ back) → t.place ≢ place
elsewhere_of place [] back t away = away.0
elsewhere_of place (u ∷ front) back t away = elsewhere_of place front back t away.1

pub elsewhere_with : (place : ℕ) (front back : List CachedTable) (t t' : CachedTable) → t'.place ≡ t.place → AreElsewhere place (front ++ t ∷ back) → AreElsewhere place (front ++ t' ∷ back)
elsewhere_with place [] back t t' same away = ((λ e. away.0 (sym same ∙ e)), away.1)
elsewhere_with place (u ∷ front) back t t' same away = (away.0, elsewhere_with place front back t t' same away.1)

pub elsewhere_without : (place : ℕ) (front back : List CachedTable) (t : CachedTable) → AreElsewhere place (front ++ t ∷ back) → AreElsewhere place (front ++ back)
elsewhere_without place [] back t away = away.1
elsewhere_without place (u ∷ front) back t away = (away.0, elsewhere_without place front back t away.1)

-- two tables of one cluster begin at one place
pub one_place : (size a b : ℕ) → a % size ≡ 0 → b % size ≡ 0 → a / size ≡ b / size → a ≡ b
one_place size a b at bt same =
    let x : a / size * size + a % size ≡ a = div-add-mod' a size in
    let y : b / size * size + b % size ≡ b = div-add-mod' b size in
    let z : a / size * size ≡ b / size * size = ap (λ n. n * size) same in
    omega arith

pub in_own_cluster : (size place i : ℕ) → place % size ≡ 0 → i < size → (place + i) / size ≡ place / size
in_own_cluster size place i aligned lt =
    let x : place / size * size + place % size ≡ place = div-add-mod' place size in
    let e : place + i ≡ place / size * size + i = omega arith in
    ap (λ n. n / size) e ∙ div-mul-add (place / size) size i lt

-- ---- one table of a list is written
module _ (size : ℕ) (t t' : CachedTable) (on_storage on_storage' : Bytes) (so : IsWrittenSo size t t' on_storage on_storage') where
  stays : (o : ℕ) → overlays size t o ≡ false → on_storage' o ≡ on_storage o
  stays o past = elim so.outcome [
    | inl none ↦ ap (λ (m : Bytes). m o) none.0
    | inr done ↦ ap (λ (m : Bytes). m o) done.0 ∙ known-none size (t ∷ []) on_storage o (past, tt)
  ]

  -- other clusters stay
  pub stays_in : t.place % size ≡ 0 → (c : ℕ) → c ≢ t.place / size → SameIn size c on_storage' on_storage
  stays_in aligned c other o in_c = stays o (no_overlay size t o (λ over. other (sym in_c ∙ within_cluster t.place size o aligned (overlays_within size t o over))))

  -- so does one in which no modified table lies
  pub stays_free : (front back : List CachedTable) (c : ℕ) → IsFreeOf size (front ++ t ∷ back) c → SameIn size c on_storage' on_storage
  stays_free front back c free o in_c = stays o (free_at front (free o in_c))
    where
      free_at : (front : List CachedTable) → IsFreeAt size (front ++ t ∷ back) o → overlays size t o ≡ false
      free_at [] free = free.0
      free_at (u ∷ front) free = free_at front free.1

  -- a table of another place is as current as before
  beside : (u : CachedTable) → t.place % size ≡ 0 → u.place % size ≡ 0 → u.place ≢ t.place → IsCurrent size u on_storage → IsCurrent size u on_storage'
  beside u t_aligned u_aligned other was i lt =
      was i lt ∙ sym (stays_in t_aligned (u.place / size) (λ same. other (one_place size u.place t.place u_aligned t_aligned same)) (u.place + i) (in_own_cluster size u.place i u_aligned lt))

  beside_all : (IsNamed IsNamed' : ℕ → Type 0) (us : List CachedTable) → ((c : ℕ) → IsNamed' c → IsNamed c) → t.place % size ≡ 0 → AreElsewhere t.place us → AreLoaded size IsNamed us on_storage → AreLoaded size IsNamed' us on_storage'
  beside_all IsNamed IsNamed' [] named aligned away loaded = tt
  beside_all IsNamed IsNamed' (u ∷ us) named aligned away loaded =
      (loaded.0, loaded.1, (λ clean is. beside u aligned loaded.0 away.0 (loaded.2 clean (named (u.place / size) is))), beside_all IsNamed IsNamed' us named aligned away.1 loaded.3)

  -- the table itself is current, unless it is still modified
  written_current : (Was : Type 0) → t.place % size ≡ 0 → (t.is_modified ≡ false → Was → IsCurrent size t on_storage) → t'.is_modified ≡ false → Was → IsCurrent size t' on_storage'
  written_current Was aligned before clean was i lt = elim so.outcome [
    | inl none ↦
        same_byte i ∙ before (sym none.1 ∙ clean) was i lt ∙ sym (ap (λ (m : Bytes). m (t.place + i)) none.0) ∙ ap (λ n. on_storage' (n + i)) (sym so.place)
    | inr done ↦ elim (cases_Bool t.is_modified) [
      | inr unmodified ↦ same_byte i ∙ before unmodified was i lt ∙ sym (stays (t.place + i) (unmodified_over size t (t.place + i) unmodified)) ∙ ap (λ n. on_storage' (n + i)) (sym so.place)
      | inl modified ↦
          let some : 0 < size = omega arith in
          let over : overlays size t (t.place + i) ≡ true = ap (λ m. m && is_within t.place size (t.place + i)) modified ∙ cluster_within t.place size (t.place + i) some aligned (in_own_cluster size t.place i aligned lt) in
          let back_to : t.place + i - t.place ≡ i = omega arith in
          let there : on_storage' (t.place + i) ≡ t.bytes i = ap (λ (m : Bytes). m (t.place + i)) done.0 ∙ known_there size [] [] t on_storage (t.place + i) (aligned, (λ o over. tt), tt) over ∙ ap t.bytes back_to in
          same_byte i ∙ sym there ∙ ap (λ n. on_storage' (n + i)) (sym so.place)
    ]
  ]
    where
      same_byte : (i : ℕ) → t'.bytes i ≡ t.bytes i
      same_byte i = ap (λ (f : Bytes). f i) so.bytes

  -- the list of which it is
  pub loaded_written : (IsNamed IsNamed' : ℕ → Type 0) (front back : List CachedTable) → ((c : ℕ) → IsNamed' c → IsNamed c) → AreLoaded size IsNamed (front ++ t ∷ back) on_storage → AreLoaded size IsNamed' (front ++ t' ∷ back) on_storage'
  loaded_written IsNamed IsNamed' [] back named loaded = (
    ap (λ n. n % size) so.place ∙ loaded.0,
    subst (λ n. AreElsewhere n back) (sym so.place) loaded.1,
    (λ clean is. written_current (IsNamed (t.place / size)) loaded.0 loaded.2 clean (named (t.place / size) (subst (λ n. IsNamed' (n / size)) so.place is))),
    beside_all IsNamed IsNamed' back named loaded.0 loaded.1 loaded.3,
  )
  loaded_written IsNamed IsNamed' (u ∷ front) back named loaded = (
    loaded.0,
    elsewhere_with u.place front back t t' so.place loaded.1,
    (λ clean is. beside u (aligned_of front loaded.3) loaded.0 (λ e. elsewhere_of u.place front back t loaded.1 (sym e)) (loaded.2 clean (named (u.place / size) is))),
    loaded_written IsNamed IsNamed' front back named loaded.3,
  )
    where
      aligned_of : (front : List CachedTable) → AreLoaded size IsNamed (front ++ t ∷ back) on_storage → t.place % size ≡ 0
      aligned_of [] loaded = loaded.0
      aligned_of (v ∷ front) loaded = aligned_of front loaded.3

-- the other list, in whose clusters nothing changes
pub loaded_beside : (size : ℕ) (IsNamed IsNamed' : ℕ → Type 0) (on_storage on_storage' : Bytes) (us : List CachedTable) → ((c : ℕ) → IsNamed' c → IsNamed c × SameIn size c on_storage' on_storage)
    → AreLoaded size IsNamed us on_storage → AreLoaded size IsNamed' us on_storage'
loaded_beside size IsNamed IsNamed' on_storage on_storage' [] named loaded = tt
loaded_beside size IsNamed IsNamed' on_storage on_storage' (u ∷ us) named loaded = (
  loaded.0,
  loaded.1,
  (λ clean is i lt.
      let n = named (u.place / size) is in
      loaded.2 clean n.0 i lt ∙ sym (n.1 (u.place + i) (in_own_cluster size u.place i loaded.0 lt))),
  loaded_beside size IsNamed IsNamed' on_storage on_storage' us named loaded.3,
)

-- ---- a table that isn't modified goes, one comes, and one moves to the front

pub loaded_without : (size : ℕ) (IsNamed : ℕ → Type 0) (on_storage : Bytes) (front back : List CachedTable) (t : CachedTable) → AreLoaded size IsNamed (front ++ t ∷ back) on_storage → AreLoaded size IsNamed (front ++ back) on_storage
loaded_without size IsNamed on_storage [] back t loaded = loaded.3
loaded_without size IsNamed on_storage (u ∷ front) back t loaded = (loaded.0, elsewhere_without u.place front back t loaded.1, loaded.2, loaded_without size IsNamed on_storage front back t loaded.3)

pub loaded_promoted : (size : ℕ) (IsNamed : ℕ → Type 0) (on_storage : Bytes) (front back : List CachedTable) (t : CachedTable) → AreLoaded size IsNamed (front ++ t ∷ back) on_storage → AreLoaded size IsNamed (t ∷ (front ++ back)) on_storage
loaded_promoted size IsNamed on_storage front back t loaded =
    let own = own_part front loaded in
    (own.0, away front loaded, own.1, loaded_without size IsNamed on_storage front back t loaded)
  where
    own_part : (front : List CachedTable) → AreLoaded size IsNamed (front ++ t ∷ back) on_storage → (t.place % size ≡ 0) × (t.is_modified ≡ false → IsNamed (t.place / size) → IsCurrent size t on_storage)
    own_part [] loaded = (loaded.0, loaded.2)
    own_part (u ∷ front) loaded = own_part front loaded.3

    away : (front : List CachedTable) → AreLoaded size IsNamed (front ++ t ∷ back) on_storage → AreElsewhere t.place (front ++ back)
    away [] loaded = loaded.1
    away (u ∷ front) loaded = ((λ e. elsewhere_of u.place front back t loaded.1 (sym e)), away front loaded.3)
