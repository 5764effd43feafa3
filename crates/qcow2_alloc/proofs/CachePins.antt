-- What calls of the caches do to pins and recorded changes.
use Rattle.std.proofs.Common.{◌≡◌, ◌+◌, ◌-◌, ◌^◌, ◌<◌, ◌∷◌, ℕ, Bool, true, false, cond, eqb, nat_lt, List, [], map, Option, Some, None, IsTrue, refl, sym, ap, ◌∙◌, subst}
use Rattle.qcow2_alloc.proofs.Common.{nat_eq_equiv, option_map, option_map_or, lookup, set_value, lookup-set_value, L2TableView, RefBlockView, Slot, L2CacheBackend, RefBlockCacheBackend, MetadataCaches, Cache, slot_of, value_at, set_at, pins_at, pin_at, unpin_at, can_pin, can_unpin, with_entries, KeepsPins, cached_table, cached_tables, AllValuesFit, IsTableOf, l2_tables, IsOneChange, counts_none, counts_one, counts_then, l2_pins, KeepsPinsAndNotes, SameTables, SetsPins, same_number}
use Rattle.qcow2_alloc.proofs.CachedEntries.Pins.{set_free}

-- ---- calls that keep the marks
module _ {S : Type 0} where
  pub marks_none : (c : MetadataCaches S) → KeepsPinsAndNotes c c
  marks_none c = record { pins = λ _. refl; room = λ r. r; changes = counts_none c.is_changed c.changes }

  pub marks_then : (a b c : MetadataCaches S) → KeepsPinsAndNotes a b → KeepsPinsAndNotes b c → KeepsPinsAndNotes a c
  marks_then a b c first then = record { pins = λ k. then.pins k ∙ first.pins k; room = λ r. then.room (first.room r); changes = counts_then a.is_changed b.is_changed c.is_changed a.changes b.changes c.changes first.changes then.changes }

  pub marks_tables : (c : MetadataCaches S) (l2 : Cache (L2CacheBackend S) ℕ L2TableView) → l2 ≡ with_entries c.l2 l2.entries → KeepsPins eqb c.l2.entries l2.entries → KeepsPinsAndNotes c (record c { l2 = l2 })
  marks_tables c l2 others keeps = record {
    pins = keeps.pins;
    room = λ r. record { tables = subst (λ n. 0 < n) (sym (ap (λ (x : Cache (L2CacheBackend S) ℕ L2TableView). x.size) others)) r.tables; some = r.some; free = r.free };
    changes = counts_none c.is_changed c.changes;
  }

  pub marks_blocks : (c : MetadataCaches S) (rb : Cache (RefBlockCacheBackend S) ℕ RefBlockView) → rb ≡ with_entries c.rb rb.entries → KeepsPins eqb c.rb.entries rb.entries → KeepsPinsAndNotes c (record c { rb = rb })
  marks_blocks c rb others keeps = record {
    pins = λ _. refl;
    room = λ r. record { tables = r.tables; some = subst (λ n. 0 < n) (sym (ap (λ (x : Cache (RefBlockCacheBackend S) ℕ RefBlockView). x.size) others)) r.some; free = keeps.free r.free };
    changes = counts_none c.is_changed c.changes;
  }

  pub marks_noted : (a b : MetadataCaches S) (n : ℕ) → IsOneChange true b.changes n → KeepsPinsAndNotes a b → KeepsPinsAndNotes a (record b { is_changed = true; changes = n })
  marks_noted a b n one keeps = record {
    pins = keeps.pins;
    room = λ r. let s = keeps.room r in record { tables = s.tables; some = s.some; free = s.free };
    changes = counts_then a.is_changed b.is_changed true a.changes b.changes n keeps.changes (counts_one b.is_changed true b.changes n one);
  }

-- ---- values without their pins
module _ {V : Type 0} where
  abbrev pub values_of : List (ℕ × Slot V) → List (ℕ × V)
  values_of es = map (λ e. (e.0, e.1.value)) es

  pub set_values : (k : ℕ) (es : List (ℕ × Slot V)) (s : Slot V) (n : ℕ) → lookup (eqb k) es ≡ Some s → values_of (set_value (eqb k) es (slot_of s.value n)) ≡ values_of es
  set_values k [] s n found = refl
  set_values k (e ∷ es) s n found = (elim (eqb k e.0) as (λ b. eqb k e.0 ≡ b → values_of (set_value (eqb k) (e ∷ es) (slot_of s.value n)) ≡ values_of (e ∷ es)) [
    | true ↦ λ t. let f = rw t at found in let same : e.1 ≡ s = some_is f in rw t (ap (λ (x : Slot V). (e.0, x.value) ∷ values_of es) (sym same))
    | false ↦ λ t. rw t (ap (λ l. (e.0, e.1.value) ∷ l) (set_values k es s n (rw t at found)))
  ]) refl
    where
      some_is : {A : Type 0} {a b : A} → Some a ≡ Some b → a ≡ b
      some_is e = cc

  tables_of : (bits : ℕ) (bytes : V → List ℕ) (is_modified : V → Bool) (es : List (ℕ × Slot V))
      → cached_tables bits bytes is_modified es ≡ map (λ (e : ℕ × V). cached_table bits bytes is_modified (e.0, slot_of e.1 0)) (values_of es)
  tables_of bits bytes is_modified [] = refl
  tables_of bits bytes is_modified (e ∷ es) = ap (λ l. cached_table bits bytes is_modified e ∷ l) (tables_of bits bytes is_modified es)

  pub same_tables : (bits : ℕ) (bytes : V → List ℕ) (is_modified : V → Bool) (es fs : List (ℕ × Slot V)) → values_of fs ≡ values_of es → cached_tables bits bytes is_modified fs ≡ cached_tables bits bytes is_modified es
  same_tables bits bytes is_modified es fs same =
      tables_of bits bytes is_modified fs ∙ ap (map (λ (e : ℕ × V). cached_table bits bytes is_modified (e.0, slot_of e.1 0))) same ∙ sym (tables_of bits bytes is_modified es)

  abbrev AllFit' : (V → Type 0) → List (ℕ × V) → Type 0
  AllFit' IsFit [] = Unit {0}
  AllFit' IsFit (e ∷ es) = IsFit e.1 × AllFit' IsFit es

  fit_values : (IsFit : V → Type 0) (es : List (ℕ × Slot V)) → AllValuesFit IsFit es → AllFit' IsFit (values_of es)
  fit_values IsFit [] all = tt
  fit_values IsFit (e ∷ es) all = (all.0, fit_values IsFit es all.1)

  values_fit : (IsFit : V → Type 0) (es : List (ℕ × Slot V)) → AllFit' IsFit (values_of es) → AllValuesFit IsFit es
  values_fit IsFit [] all = tt
  values_fit IsFit (e ∷ es) all = (all.0, values_fit IsFit es all.1)

  pub same_fit : (IsFit : V → Type 0) (es fs : List (ℕ × Slot V)) → values_of fs ≡ values_of es → AllValuesFit IsFit es → AllValuesFit IsFit fs
  same_fit IsFit es fs same all = values_fit IsFit fs (subst (AllFit' IsFit) (sym same) (fit_values IsFit es all))

  value_of : (test : ℕ → Bool) (es : List (ℕ × Slot V)) → value_at test es ≡ lookup test (values_of es)
  value_of test [] = refl
  value_of test (e ∷ es) = elim (test e.0) as (λ b. option_map (λ (s : Slot V). s.value) (cond b (Some e.1) (lookup test es)) ≡ cond b (Some e.1.value) (lookup test (values_of es))) [
    | true ↦ refl
    | false ↦ value_of test es
  ]

  pub same_values : (test : ℕ → Bool) (es fs : List (ℕ × Slot V)) → values_of fs ≡ values_of es → value_at test fs ≡ value_at test es
  same_values test es fs same = value_of test fs ∙ ap (lookup test) same ∙ sym (value_of test es)

  -- ---- pins of one key
  pin_case : (k : ℕ) (es : List (ℕ × Slot V)) (o : Option (Slot V)) (b : Bool) → lookup (eqb k) es ≡ o
      → values_of (option_map_or (λ s. cond (nat_lt s.pins (2 ^ 64 - 1)) (set_value (eqb k) es (slot_of s.value (s.pins + 1))) es) o es) ≡ values_of es
  pin_case k es None b found = refl
  pin_case k es (Some s) b found = elim (nat_lt s.pins (2 ^ 64 - 1)) as (λ c. values_of (cond c (set_value (eqb k) es (slot_of s.value (s.pins + 1))) es) ≡ values_of es) [
    | true ↦ set_values k es s (s.pins + 1) found
    | false ↦ refl
  ]

  pub pin_values : (k : ℕ) (es : List (ℕ × Slot V)) → values_of (pin_at (eqb k) es) ≡ values_of es
  pin_values k es = pin_case k es (lookup (eqb k) es) true refl

  unpin_case : (k : ℕ) (es : List (ℕ × Slot V)) (o : Option (Slot V)) → lookup (eqb k) es ≡ o
      → values_of (option_map_or (λ s. cond (nat_lt 0 s.pins) (set_value (eqb k) es (slot_of s.value (s.pins - 1))) es) o es) ≡ values_of es
  unpin_case k es None found = refl
  unpin_case k es (Some s) found = elim (nat_lt 0 s.pins) as (λ c. values_of (cond c (set_value (eqb k) es (slot_of s.value (s.pins - 1))) es) ≡ values_of es) [
    | true ↦ set_values k es s (s.pins - 1) found
    | false ↦ refl
  ]

  pub unpin_values : (k : ℕ) (es : List (ℕ × Slot V)) → values_of (unpin_at (eqb k) es) ≡ values_of es
  unpin_values k es = unpin_case k es (lookup (eqb k) es) refl

  abbrev pins_of : Option (Slot V) → ℕ
  pins_of o = option_map_or (λ s. s.pins) o 0

  -- the pins of a key, and those of the others
  pub record PinsAre (k n : ℕ) (es fs : List (ℕ × Slot V)) : Type 0 where
    pub here : pins_at (eqb k) fs ≡ n
    pub others : (c : ℕ) → eqb k c ≡ false → pins_at (eqb c) fs ≡ pins_at (eqb c) es

  pub set_found : (k : ℕ) (es : List (ℕ × Slot V)) (s w : Slot V) → lookup (eqb k) es ≡ Some s → (c : ℕ) → lookup (eqb c) (set_value (eqb k) es w) ≡ cond (eqb k c) (Some w) (lookup (eqb c) es)
  set_found k es s w found c = lookup-set_value nat_eq_equiv (eqb k) (λ x y t. apart k x y t) c w es (rw found refl)
    where
      apart : (k x y : ℕ) → eqb k x ≡ true → eqb k y ≡ eqb x y
      apart k x y t = nat_eq_equiv.congr k x y t

  pub pins_set : (k : ℕ) (es : List (ℕ × Slot V)) (s w : Slot V) → lookup (eqb k) es ≡ Some s → PinsAre k w.pins es (set_value (eqb k) es w)
  pins_set k es s w found = record {
    here = ap pins_of (set_found k es s w found k) ∙ ap (λ b. pins_of (cond b (Some w) (lookup (eqb k) es))) (nat_eq_equiv.refl k);
    others = λ c other. ap pins_of (set_found k es s w found c) ∙ ap (λ b. pins_of (cond b (Some w) (lookup (eqb c) es))) other;
  }

  same_case : (k : ℕ) (es : List (ℕ × Slot V)) (s w : Slot V) → lookup (eqb k) es ≡ Some s → w.pins ≡ s.pins → (c : ℕ) (b : Bool) → eqb k c ≡ b → pins_of (cond b (Some w) (lookup (eqb c) es)) ≡ pins_at (eqb c) es
  same_case k es s w found same c false t = refl
  same_case k es s w found same c true t = same ∙ sym (ap pins_of (ap (λ n. lookup (eqb n) es) (sym (same_number k c t)) ∙ found))

  set_case : (k : ℕ) (es : List (ℕ × Slot V)) (v : V) (o : Option (Slot V)) → lookup (eqb k) es ≡ o → KeepsPins eqb es (option_map_or (λ s. set_value (eqb k) es (slot_of v s.pins)) o es)
  set_case k es v None found = record { pins = λ _. refl; free = λ f. f }
  set_case k es v (Some s) found = record {
    pins = λ c. ap pins_of (set_found k es s (slot_of v s.pins) found c) ∙ same_case k es s (slot_of v s.pins) found refl c (eqb k c) refl;
    free = λ f. set_free (eqb k) es s (slot_of v s.pins) found refl f;
  }

  -- another value in its place keeps the pins
  pub set_keeps_pins : (k : ℕ) (es : List (ℕ × Slot V)) (v : V) → KeepsPins eqb es (set_at (eqb k) es v)
  set_keeps_pins k es v = set_case k es v (lookup (eqb k) es) refl

-- ---- pins of L2 tables
module _ {S : Type 0} (c : MetadataCaches S) (k : ℕ) (l2 : Cache (L2CacheBackend S) ℕ L2TableView) where
  pub same_but_pins : (es : List (ℕ × Slot L2TableView)) → l2 ≡ with_entries c.l2 es → values_of es ≡ values_of c.l2.entries → SameTables c (record c { l2 = l2 })
  same_but_pins es is same =
      let backend : l2.backend ≡ c.l2.backend = ap (λ (x : Cache (L2CacheBackend S) ℕ L2TableView). x.backend) is in
      let entries : l2.entries ≡ es = ap (λ (x : Cache (L2CacheBackend S) ℕ L2TableView). x.entries) is in
      let tables : l2_tables (record c { l2 = with_entries c.l2 es }) ≡ l2_tables c = same_tables c.l2.backend.header.fields.cluster_bits (λ (t : L2TableView). t.bytes) (λ t. t.is_modified) c.l2.entries es same in
      subst (λ (x : Cache (L2CacheBackend S) ℕ L2TableView). SameTables c (record c { l2 = x })) (sym is) (record {
        sound = λ h p on_storage sound. record {
          l2_format = sound.l2_format;
          rb_format = sound.rb_format;
          l2_fit = same_fit (IsTableOf c.l2.backend.header.fields) c.l2.entries es same sound.l2_fit;
          rb_fit = sound.rb_fit;
          kept = rw tables sound.kept;
        };
        known = λ h on_storage. rw tables refl;
        l2_tables = tables;
        refblocks = refl;
        l2_at = λ cluster. same_values (eqb cluster) c.l2.entries es same;
        order = refl;
        room = λ r. record { tables = r.tables; some = r.some; free = r.free };
        behind = λ bits are. record { l2_bits = are.l2_bits; rb_bits = are.rb_bits; tables = same_values (eqb 0) c.l2.entries es same ∙ are.tables; blocks = are.blocks };
      })

  set_answer : (s : Slot L2TableView) (n : ℕ) → lookup (eqb k) c.l2.entries ≡ Some s → l2 ≡ with_entries c.l2 (set_value (eqb k) c.l2.entries (slot_of s.value n)) → SetsPins c (record c { l2 = l2 }) k n
  set_answer s n found is =
      let entries : l2.entries ≡ set_value (eqb k) c.l2.entries (slot_of s.value n) = ap (λ (x : Cache (L2CacheBackend S) ℕ L2TableView). x.entries) is in
      let set = pins_set k c.l2.entries s (slot_of s.value n) found in
      record { here = ap (λ l. pins_at (eqb k) l) entries ∙ set.here; others = λ j other. ap (λ l. pins_at (eqb j) l) entries ∙ set.others j other }

  -- ---- one pin more
  pin_of : (o : Option (Slot L2TableView)) (b : Bool) → lookup (eqb k) c.l2.entries ≡ o → b ≡ option_map_or (λ s. nat_lt s.pins (2 ^ 64 - 1)) o false
      → l2 ≡ with_entries c.l2 (option_map_or (λ s. cond (nat_lt s.pins (2 ^ 64 - 1)) (set_value (eqb k) c.l2.entries (slot_of s.value (s.pins + 1))) c.l2.entries) o c.l2.entries)
      → IsTrue b → SetsPins c (record c { l2 = l2 }) k (pins_of o + 1)
  pin_of None b found told is taken = absurd (let e : false ≡ true = sym told ∙ taken in cc)
  pin_of (Some s) b found told is taken = let can : nat_lt s.pins (2 ^ 64 - 1) ≡ true = sym told ∙ taken in set_answer s (s.pins + 1) found (rw can at is)

  module _ (b : Bool) (told : b ≡ can_pin (eqb k) c.l2.entries) (is : l2 ≡ with_entries c.l2 (pin_at (eqb k) c.l2.entries)) where
    pub pin_tables : SameTables c (record c { l2 = l2 })
    pin_tables = same_but_pins (pin_at (eqb k) c.l2.entries) is (pin_values k c.l2.entries)

    pub pin_sets : IsTrue b → SetsPins c (record c { l2 = l2 }) k (l2_pins c k + 1)
    pin_sets = pin_of (lookup (eqb k) c.l2.entries) b refl told is

  -- ---- one pin less
  unpin_of : (o : Option (Slot L2TableView)) (b : Bool) → lookup (eqb k) c.l2.entries ≡ o → b ≡ option_map_or (λ s. nat_lt 0 s.pins) o false
      → l2 ≡ with_entries c.l2 (option_map_or (λ s. cond (nat_lt 0 s.pins) (set_value (eqb k) c.l2.entries (slot_of s.value (s.pins - 1))) c.l2.entries) o c.l2.entries)
      → IsTrue b → SetsPins c (record c { l2 = l2 }) k (pins_of o - 1)
  unpin_of None b found told is taken = absurd (let e : false ≡ true = sym told ∙ taken in cc)
  unpin_of (Some s) b found told is taken = let can : nat_lt 0 s.pins ≡ true = sym told ∙ taken in set_answer s (s.pins - 1) found (rw can at is)

  module _ (b : Bool) (told : b ≡ can_unpin (eqb k) c.l2.entries) (is : l2 ≡ with_entries c.l2 (unpin_at (eqb k) c.l2.entries)) where
    pub unpin_tables : SameTables c (record c { l2 = l2 })
    unpin_tables = same_but_pins (unpin_at (eqb k) c.l2.entries) is (unpin_values k c.l2.entries)

    pub unpin_sets : IsTrue b → SetsPins c (record c { l2 = l2 }) k (l2_pins c k - 1)
    unpin_sets = unpin_of (lookup (eqb k) c.l2.entries) b refl told is
