-- One storage write over a run of clusters: in place, into clusters that zero entries keep, and into new data.
use Rattle.std.proofs.Common.{◌≡◌, ◌+◌, ◌-◌, ◌*◌, ◌/◌, ◌%◌, ◌<◌, ◌≤◌, ◌≢◌, ◌⊎◌, ◌∷◌, ℕ, zero, suc, Bool, true, false, cond, List, [], length, refl, sym, ap, ◌∙◌, arith, inl, inr, subst, Some}
use Rattle.qcow2_laws.proofs.Common.{fun_ext, cases_eq, cases_lt, div-add-mod', div-mul-add, mod_below, pow_pos, Bytes, byte_at, laid_over, cluster_size, cover, known_byte, in_cluster, named_for_tables, Zero, disk, with_values, GivenBytes, IsGiven, given_of, names, marks, named_in_either, SameCovers, SameIn, IsSameOutside, WritesAt, IsWritten, DriverState, StateInvariant, SafeStep, SameL1Table, IsDataAt, Hosting, InPlace, Kept, Held, IsHostedAt, IsHeld, is_private_hosting, IsGivenAt, WritesRun, RunIsWritten, laid_inside, laid_outside}
use Rattle.qcow2_laws.proofs.Lemmas.{in_one, tied, in_own, new_data_is_unnamed, marked_alone, storage_stays, known_covers, its_own, top_stays, data_is_written, named_some, size_stays, value_stays}
use Rattle.qcow2_laws.proofs.Shown.{Writes, shown_zero}
use Rattle.qcow2_laws.proofs.Alike.{at_shown}

-- ---- a place lies outside of a range, or is one of its places
pub in_range : (o from n : ℕ) → ((o < from) ⊎ (from + n ≤ o)) ⊎ ((i : ℕ) × (i < n) × (from + i ≡ o))
in_range o from n = elim (cases_lt o from) [
  | inl below ↦ inl (inl below)
  | inr above ↦ elim (cases_lt o (from + n)) [ inl inside ↦ inr (o - from, omega arith, omega arith) | inr past ↦ inl (inr past) ]
]

-- some byte of a range lies in a cluster, or none does
meets : (size from c n : ℕ) → ((i : ℕ) × (i < n) × ((from + i) / size ≡ c)) ⊎ ((i : ℕ) → i < n → (from + i) / size ≢ c)
meets size from c zero = inr (λ i lt. absurd (omega arith))
meets size from c (suc n) = elim (meets size from c n) [
  | inl some ↦ inl (some.0, (let lt = some.1 in omega arith), some.2)
  | inr none ↦ elim (cases_eq ((from + n) / size) c) [
    | inl here ↦ inl (n, omega arith, here)
    | inr other ↦ inr (λ i lt. elim (cases_lt i n) [
      | inl below ↦ none i below
      | inr last ↦ let e : i ≡ n = omega arith in λ is. other (ap (λ k. (from + k) / size) (sym e) ∙ is)
    ])
  ]
]

pub same_either : {X : Type 0} (test : Bool) (a b v : X) → v ≡ a → v ≡ b → v ≡ cond test a b
same_either true a b v e f = e
same_either false a b v e f = f

-- ---- a place that a guest byte has by its entry, as copied data or kept
record IsOwnAt (s : DriverState) (o place : ℕ) : Type 0 where
  host : ℕ
  begins : host + o % cluster_size s.header ≡ place
  aligned : host % cluster_size s.header ≡ 0
  named : (c : ℕ) → names s.header s.known c (o / cluster_size s.header) ≡ in_cluster s.header c host
  marked : marks s.header s.known (host / cluster_size s.header) (o / cluster_size s.header) ≡ 1

module _ (s : DriverState) (sound : StateInvariant s) (inside : s.header.incompatible ≡ 0) (o place : ℕ) where
  own_in_place : IsDataAt s.header s.known true o place → IsOwnAt s o place
  own_in_place at = grind arith

  own_kept : IsHostedAt s Kept o place → IsOwnAt s o place
  own_kept at = grind arith

  -- it is held, or its own and given
  sorted : (given : List GivenBytes) (byte : ℕ) (k : Hosting) → IsHostedAt s k o place → IsGivenAt given k o byte
      → ((0 < s.pending.new_data (place / cluster_size s.header)) × IsHeld k) ⊎ (IsOwnAt s o place × IsGiven given o (known_byte byte))
  sorted given byte InPlace at gives = inr (own_in_place at, gives)
  sorted given byte Kept at gives = inr (own_kept at, gives)
  sorted given byte Held at gives = inl (at, tt)

  module _ (own : IsOwnAt s o place) where
    -- any byte of its guest cluster has its place in the same host cluster
    own_cluster : (p q : ℕ) → p / cluster_size s.header ≡ o / cluster_size s.header → q + o ≡ place + p → q / cluster_size s.header ≡ own.host / cluster_size s.header
    own_cluster p q here apart =
        let p_is : p / cluster_size s.header * cluster_size s.header + p % cluster_size s.header ≡ p = div-add-mod' p (cluster_size s.header) in
        let o_is : o / cluster_size s.header * cluster_size s.header + o % cluster_size s.header ≡ o = div-add-mod' o (cluster_size s.header) in
        let same : p / cluster_size s.header * cluster_size s.header ≡ o / cluster_size s.header * cluster_size s.header = ap (λ n. n * cluster_size s.header) here in
        let begins = own.begins in
        let e : q ≡ own.host + p % cluster_size s.header = omega arith in
        ap (λ n. n / cluster_size s.header) e ∙ in_one (cluster_size s.header) own.host (p % cluster_size s.header) own.aligned (mod_below p (cluster_size s.header) (pow_pos s.header.cluster_bits))

    own_here : place / cluster_size s.header ≡ own.host / cluster_size s.header
    own_here = own_cluster o place refl refl

    own_marked : 0 < marks s.header s.known (place / cluster_size s.header) (o / cluster_size s.header)
    own_marked = subst (λ c. 0 < marks s.header s.known c (o / cluster_size s.header)) (sym own_here) (let one = own.marked in omega arith)

    own_in_either : 0 < named_in_either s.header s.on_storage s.known (place / cluster_size s.header)
    own_in_either =
        let named : names s.header s.known (place / cluster_size s.header) (o / cluster_size s.header) ≡ 1 =
        ap (λ c. names s.header s.known c (o / cluster_size s.header)) own_here ∙ own.named (own.host / cluster_size s.header) ∙ in_own s.header own.host in
        let some = named_some s s sound (place / cluster_size s.header) (o / cluster_size s.header) (omega arith) in
        let t = (tied s.header s.pending s.on_storage s.known (place / cluster_size s.header)).known in
        omega arith

    own_unheld : s.pending.new_data (place / cluster_size s.header) ≡ 0
    own_unheld = elim (cases_lt 0 (s.pending.new_data (place / cluster_size s.header))) [
      | inr none ↦ omega arith
      | inl new_data ↦ absurd (
          let none = (new_data_is_unnamed s.header s.direction s.pending s.on_storage s.known sound (place / cluster_size s.header) new_data).no_entry in
          let some = own_in_either in
          omega arith)
    ]

-- ---- the write: n values from a place on, for guest bytes from an offset on
module _ (s : DriverState) (on_storage' known' : Bytes) (sound : StateInvariant s) (inside : s.header.incompatible ≡ 0) (hosting : ℕ → Hosting) (offset place n : ℕ) (value : ℕ → ℕ) (given : List GivenBytes)
    (hosts : (i : ℕ) → i < n → IsHostedAt s (hosting (offset + i)) (offset + i) (place + i))
    (gives : (i : ℕ) → i < n → IsGivenAt given (hosting (offset + i)) (offset + i) (value i))
    (writes : WritesAt place n s.on_storage s.known on_storage' known') (there : (i : ℕ) → i < n → on_storage' (place + i) ≡ value i) where
  kind : (i : ℕ) → i < n
      → ((0 < s.pending.new_data ((place + i) / cluster_size s.header)) × IsHeld (hosting (offset + i))) ⊎ (IsOwnAt s (offset + i) (place + i) × IsGiven given (offset + i) (known_byte (value i)))
  kind i lt = sorted s sound inside (offset + i) (place + i) given (value i) (hosting (offset + i)) (hosts i lt) (gives i lt)

  pub known_there : (i : ℕ) → i < n → known' (place + i) ≡ value i
  known_there i lt =
      sym (writes.agree (place + i) (sound.not_overlaid (place + i) (elim (kind i lt) [
        | inl new_data ↦ let some = new_data.0 in omega arith
        | inr own ↦ let some = own_in_either s sound inside (offset + i) (place + i) own.0 in omega arith
      ])))
      ∙ there i lt

  -- a cluster that no byte is written to
  untouched : (k : ℕ) → ((i : ℕ) → i < n → (place + i) / cluster_size s.header ≢ k) → SameIn (cluster_size s.header) k s.on_storage on_storage' × SameIn (cluster_size s.header) k s.known known'
  untouched k none =
      let out : (o : ℕ) → o / cluster_size s.header ≡ k → (o < place) ⊎ (place + n ≤ o) = λ o in_k. elim (in_range o place n) [
        | inl out ↦ out
        | inr at ↦ absurd (none at.0 at.1 (ap (λ n. n / cluster_size s.header) at.2 ∙ in_k))
      ] in
      ((λ o in_k. writes.others o (out o in_k)), (λ o in_k. writes.known_others o (out o in_k)))

  pub new_data_stays : (k : ℕ) → 0 < s.pending.new_data k → ((i : ℕ) → i < n → IsHeld (hosting (offset + i)) → (place + i) / cluster_size s.header ≢ k)
      → SameIn (cluster_size s.header) k s.on_storage on_storage' × SameIn (cluster_size s.header) k s.known known'
  new_data_stays k some apart = untouched k (λ i lt here. elim (kind i lt) [
    | inl new_data ↦ apart i lt new_data.1 here
    | inr own ↦ let none = own_unheld s sound inside (offset + i) (place + i) own.0 in let has : 0 < s.pending.new_data ((place + i) / cluster_size s.header) = subst (λ c. 0 < s.pending.new_data c) (sym here) some in absurd (omega arith)
  ])

  -- each byte of an own cluster that is written to is as it was, or given
  gives_at : (i : ℕ) → i < n → IsOwnAt s (offset + i) (place + i) → (o : ℕ) → o / cluster_size s.header ≡ (place + i) / cluster_size s.header
      → ((s.on_storage o ≡ on_storage' o) × (s.known o ≡ known' o)) ⊎ IsGiven given ((offset + i) / cluster_size s.header * cluster_size s.header + o % cluster_size s.header) (known_byte (known' o))
  gives_at i lt own o in_k = elim (in_range o place n) [
    | inl out ↦ inl (writes.others o out, writes.known_others o out)
    | inr j ↦
        let in_host : o / cluster_size s.header ≡ own.host / cluster_size s.header = in_k ∙ own_here s sound inside (offset + i) (place + i) own in
        let h_is : own.host / cluster_size s.header * cluster_size s.header + own.host % cluster_size s.header ≡ own.host = div-add-mod' own.host (cluster_size s.header) in
        let o_is : o / cluster_size s.header * cluster_size s.header + o % cluster_size s.header ≡ o = div-add-mod' o (cluster_size s.header) in
        let g_is : (offset + i) / cluster_size s.header * cluster_size s.header + (offset + i) % cluster_size s.header ≡ offset + i = div-add-mod' (offset + i) (cluster_size s.header) in
        let q : o / cluster_size s.header * cluster_size s.header ≡ own.host / cluster_size s.header * cluster_size s.header = ap (λ n. n * cluster_size s.header) in_host in
        let aligned = own.aligned in
        let begins = own.begins in
        let from = j.2 in
        let is : (offset + i) / cluster_size s.header * cluster_size s.header + o % cluster_size s.header ≡ offset + j.0 = omega arith in
        let byte : known' o ≡ value j.0 = ap known' (sym j.2) ∙ known_there j.0 j.1 in
        elim (kind j.0 j.1) [
          | inl new_data ↦ absurd (
              let none = own_unheld s sound inside (offset + i) (place + i) own in
              let some : 0 < s.pending.new_data ((place + i) / cluster_size s.header) = subst (λ c. 0 < s.pending.new_data c) (ap (λ n. n / cluster_size s.header) j.2 ∙ in_k) new_data.0 in
              omega arith)
          | inr bytes_given ↦ inr (subst (λ (p : ℕ). IsGiven given p (known_byte (known' o))) (sym is) (subst (λ (b : ℕ). IsGiven given (offset + j.0) (known_byte b)) (sym byte) bytes_given.1))
        ]
  ]

  written : IsWritten s.header s.on_storage s.known on_storage' known' given
  written = record {
    agree = writes.agree;
    each = λ k. elim (meets (cluster_size s.header) place k n) [
      | inr none ↦ inl (untouched k none)
      | inl some ↦ elim (kind some.0 some.1) [
        | inl new_data ↦ inr (inl (new_data_is_unnamed s.header s.direction s.pending s.on_storage s.known sound k (subst (λ c. 0 < s.pending.new_data c) some.2 new_data.0)))
        | inr own ↦ inr (inr (record {
          guest = (offset + some.0) / cluster_size s.header;
          marked = subst (λ c. 0 < marks s.header s.known c ((offset + some.0) / cluster_size s.header)) some.2 (own_marked s sound inside (offset + some.0) (place + some.0) own.0);
          gives = λ o in_k. gives_at some.0 some.1 own.0 o (in_k ∙ sym some.2);
        }))
      ]
    ];
  }

  pub covers_stay : SameCovers s.header s.known known'
  covers_stay = known_covers s.header s.direction s.pending s.on_storage s.known on_storage' known' given sound written

  pub safe_step_on : SafeStep s (record s { on_storage = on_storage'; known = known' }) (λ _. given) []
  safe_step_on = data_is_written.written s on_storage' known' given sound written

  pub l1_stays : SameL1Table s (record s { on_storage = on_storage'; known = known' })
  l1_stays i = sym ((top_stays s.header s.on_storage on_storage' sound.top (storage_stays s.header s.direction s.pending s.on_storage s.known on_storage' known' given sound written)).l1 i)

  -- what a guest cluster names stays, if no byte is written that is its own
  stays_named : (g : ℕ) → ((i : ℕ) → i < n → IsOwnAt s (offset + i) (place + i) → (offset + i) / cluster_size s.header ≢ g) → (o : ℕ) → 0 < names s.header s.known (o / cluster_size s.header) g → known' o ≡ s.known o
  stays_named g apart o some = elim (in_range o place n) [
    | inl out ↦ sym (writes.known_others o out)
    | inr at ↦ absurd (
        let named : 0 < names s.header s.known ((place + at.0) / cluster_size s.header) g = subst (λ p. 0 < names s.header s.known (p / cluster_size s.header) g) (sym at.2) some in
        elim (kind at.0 at.1) [
          | inl new_data ↦
              let none = (new_data_is_unnamed s.header s.direction s.pending s.on_storage s.known sound ((place + at.0) / cluster_size s.header) new_data.0).no_entry in
              let sum = named_some s s sound ((place + at.0) / cluster_size s.header) g named in
              let t = (tied s.header s.pending s.on_storage s.known ((place + at.0) / cluster_size s.header)).known in
              omega arith
          | inr own ↦
              apart at.0 at.1 own.0 (its_own s.header s.direction s.pending s.on_storage s.known on_storage' known' given sound written
              ((place + at.0) / cluster_size s.header) ((offset + at.0) / cluster_size s.header) g (own_marked s sound inside (offset + at.0) (place + at.0) own.0) (omega arith))
        ])
  ]

  pub others_stay : (g : ℕ) → ((i : ℕ) → i < n → (offset + i) / cluster_size s.header ≢ g) → (o : ℕ) → 0 < names s.header s.known (o / cluster_size s.header) g → known' o ≡ s.known o
  others_stay g apart o some = stays_named g (λ i lt own. apart i lt) o some

  -- ---- what the guest reads then
  module _ (backing : Bytes) where
    abbrev new : DriverState
    new = record s { on_storage = on_storage'; known = known' }

    now_at : (o to : ℕ) → IsDataAt s.header s.known true o to → IsDataAt s.header known' true o to
    now_at o to at = (at.0, sym (covers_stay (o / cluster_size s.header)) ∙ at.1, at.2)

    -- a byte of a guest cluster of which a byte is written so, if it isn't written in place itself
    zeros_stay : (o p to : ℕ) → p / cluster_size s.header ≡ o / cluster_size s.header → IsHostedAt s Kept p to → (disk known' backing).value o ≡ (disk s.known backing).value o
    zeros_stay o p to here at =
        let is : cover s.header s.known (o / cluster_size s.header) ≡ Zero (Some (at.0, true)) = ap (cover s.header s.known) (sym here) ∙ at.1 in
        shown_zero new safe_step_on.sound backing o (Some (at.0, true)) (sym (covers_stay (o / cluster_size s.header)) ∙ is) ∙ sym (shown_zero s sound backing o (Some (at.0, true)) is)

    new_data_stay : (o i : ℕ) → i < n → (offset + i) / cluster_size s.header ≡ o / cluster_size s.header → 0 < s.pending.new_data ((place + i) / cluster_size s.header)
        → (disk known' backing).value o ≡ (disk s.known backing).value o
    new_data_stay o i lt here new_data =
        value_stays s new sound inside safe_step_on.sound refl backing o (covers_stay (o / cluster_size s.header)) (stays_named (o / cluster_size s.header) (λ j j_lt own in_g.
        let same : (place + i) / cluster_size s.header ≡ own.host / cluster_size s.header = own_cluster s sound inside (offset + j) (place + j) own (offset + i) (place + i) (here ∙ sym in_g) (omega arith) in
        let at : (place + j) / cluster_size s.header ≡ (place + i) / cluster_size s.header = own_here s sound inside (offset + j) (place + j) own ∙ sym same in
        let none = own_unheld s sound inside (offset + j) (place + j) own in
        let has : 0 < s.pending.new_data ((place + j) / cluster_size s.header) = subst (λ c. 0 < s.pending.new_data c) (sym at) new_data in
        absurd (omega arith)))

    data_beside : (o i : ℕ) → i < n → (offset + i) / cluster_size s.header ≡ o / cluster_size s.header → IsDataAt s.header s.known true (offset + i) (place + i) → (o < offset) ⊎ (offset + n ≤ o)
        → (disk known' backing).value o ≡ (disk s.known backing).value o
    data_beside o i lt here at out =
        let to = at.0 + o % cluster_size s.header in
        let was : IsDataAt s.header s.known true o (at.0 + o % cluster_size s.header) = (at.0, ap (cover s.header s.known) (sym here) ∙ at.1, refl) in
        let g_is : (offset + i) / cluster_size s.header * cluster_size s.header + (offset + i) % cluster_size s.header ≡ offset + i = div-add-mod' (offset + i) (cluster_size s.header) in
        let o_is : o / cluster_size s.header * cluster_size s.header + o % cluster_size s.header ≡ o = div-add-mod' o (cluster_size s.header) in
        let q : o / cluster_size s.header * cluster_size s.header ≡ (offset + i) / cluster_size s.header * cluster_size s.header = ap (λ n. n * cluster_size s.header) (sym here) in
        let begins = at.2 in
        let beside : (at.0 + o % cluster_size s.header < place) ⊎ (place + n ≤ at.0 + o % cluster_size s.header) = elim out [
          | inl below ↦ inl (omega arith)
          | inr past ↦ inr (omega arith)
        ] in
        at_shown new safe_step_on.sound inside true o to (now_at o to was) backing ∙ sym (ap known_byte (writes.others to beside)) ∙ sym (at_shown s sound inside true o to was backing)

    beside : (o i : ℕ) → i < n → (offset + i) / cluster_size s.header ≡ o / cluster_size s.header → (o < offset) ⊎ (offset + n ≤ o) → (k : Hosting) → IsHostedAt s k (offset + i) (place + i)
        → (disk known' backing).value o ≡ (disk s.known backing).value o
    beside o i lt here out InPlace at = data_beside o i lt here at out
    beside o i lt here out Kept at = zeros_stay o (offset + i) (place + i) here at
    beside o i lt here out Held at = new_data_stay o i lt here at

    at_written : (i : ℕ) → i < n → (k : Hosting) → IsHostedAt s k (offset + i) (place + i)
        → (disk known' backing).value (offset + i) ≡ cond (is_private_hosting k) ((disk s.known backing).value (offset + i)) (laid_over offset n (λ j. known_byte (value j)) (disk s.known backing).value (offset + i))
    at_written i lt InPlace at =
        at_shown new safe_step_on.sound inside true (offset + i) (place + i) (now_at (offset + i) (place + i) at) backing
        ∙ ap known_byte (there i lt)
        ∙ sym (laid_inside offset n (λ j. known_byte (value j)) (disk s.known backing).value i lt)
    at_written i lt Kept at = zeros_stay (offset + i) (offset + i) (place + i) refl at
    at_written i lt Held at = new_data_stay (offset + i) i lt refl at

    value_now : (o : ℕ) → (disk known' backing).value o ≡ cond (is_private_hosting (hosting o)) ((disk s.known backing).value o) (laid_over offset n (λ j. known_byte (value j)) (disk s.known backing).value o)
    value_now o = elim (in_range o offset n) [
      | inr at ↦
          subst (λ (p : ℕ). (disk known' backing).value p ≡ cond (is_private_hosting (hosting p)) ((disk s.known backing).value p) (laid_over offset n (λ j. known_byte (value j)) (disk s.known backing).value p)) at.2
          (at_written at.0 at.1 (hosting (offset + at.0)) (hosts at.0 at.1))
      | inl out ↦
          let same : (disk known' backing).value o ≡ (disk s.known backing).value o = elim (meets (cluster_size s.header) offset (o / cluster_size s.header) n) [
            | inl some ↦ beside o some.0 some.1 some.2 out (hosting (offset + some.0)) (hosts some.0 some.1)
            | inr none ↦ value_stays s new sound inside safe_step_on.sound refl backing o (covers_stay (o / cluster_size s.header)) (others_stay (o / cluster_size s.header) none)
          ] in
          same_either (is_private_hosting (hosting o)) _ _ _ same (same ∙ sym (laid_outside offset n (λ j. known_byte (value j)) (disk s.known backing).value o out))
    ]

    pub shows_run : disk known' backing ≡ record (disk s.known backing) { value = λ o. cond (is_private_hosting (hosting o)) ((disk s.known backing).value o) ((with_values (disk s.known backing) offset n (λ j. known_byte (value j))).value o) }
    shows_run =
        let now : (disk known' backing).value ≡ (λ o. cond (is_private_hosting (hosting o)) ((disk s.known backing).value o) ((with_values (disk s.known backing) offset n (λ j. known_byte (value j))).value o)) = fun_ext value_now in
        λ j. record { size = size_stays s new sound inside safe_step_on.sound refl backing j; value = now j }

pub run_written : (s : DriverState) (on_storage' known' : Bytes) (hosting : ℕ → Hosting) (offset place : ℕ) (bytes : List ℕ) (given : List GivenBytes) → StateInvariant s → s.header.incompatible ≡ 0
    → ((i : ℕ) → i < length bytes → IsHostedAt s (hosting (offset + i)) (offset + i) (place + i))
    → ((i : ℕ) → i < length bytes → IsGivenAt given (hosting (offset + i)) (offset + i) (byte_at bytes i))
    → WritesAt place (length bytes) s.on_storage s.known on_storage' known' → ((i : ℕ) → i < length bytes → on_storage' (place + i) ≡ byte_at bytes i)
    → WritesRun hosting offset place bytes given s (record s { on_storage = on_storage'; known = known' })
run_written s on_storage' known' hosting offset place bytes given sound inside hosts gives writes there = record {
  safe_step = safe_step_on s on_storage' known' sound inside hosting offset place (length bytes) (byte_at bytes) given hosts gives writes there;
  covers = covers_stay s on_storage' known' sound inside hosting offset place (length bytes) (byte_at bytes) given hosts gives writes there;
  l1 = l1_stays s on_storage' known' sound inside hosting offset place (length bytes) (byte_at bytes) given hosts gives writes there;
  there = known_there s on_storage' known' sound inside hosting offset place (length bytes) (byte_at bytes) given hosts gives writes there;
  others = others_stay s on_storage' known' sound inside hosting offset place (length bytes) (byte_at bytes) given hosts gives writes there;
  new_data = new_data_stays s on_storage' known' sound inside hosting offset place (length bytes) (byte_at bytes) given hosts gives writes there;
  shows = shows_run s on_storage' known' sound inside hosting offset place (length bytes) (byte_at bytes) given hosts gives writes there;
}

-- no table lies at such a place
pub beside_tables : (s : DriverState) (hosting : Hosting) (o place : ℕ) → StateInvariant s → s.header.incompatible ≡ 0 → IsHostedAt s hosting o place → named_for_tables s.header s.on_storage (place / cluster_size s.header) ≡ 0
beside_tables s InPlace o place sound inside at =
    (marked_alone s.header s.direction s.pending s.on_storage s.known sound (place / cluster_size s.header) (o / cluster_size s.header) (own_marked s sound inside o place (own_in_place s sound inside o place at))).0
beside_tables s Kept o place sound inside at =
    (marked_alone s.header s.direction s.pending s.on_storage s.known sound (place / cluster_size s.header) (o / cluster_size s.header) (own_marked s sound inside o place (own_kept s sound inside o place at))).0
beside_tables s Held o place sound inside at = (new_data_is_unnamed s.header s.direction s.pending s.on_storage s.known sound (place / cluster_size s.header) at).no_table

pub run_is_written : RunIsWritten
run_is_written = record {
  written = λ s on_storage' known' hosting offset place bytes given sound inside hosts gives writes there. run_written s on_storage' known' hosting offset place bytes given sound inside hosts gives writes there;
  beside_tables = λ s hosting o place sound inside at. beside_tables s hosting o place sound inside at;
}

-- ---- over data in place alone

-- one gift of all the bytes
pub given_has : (offset : ℕ) (bytes : List ℕ) (i : ℕ) → i < length bytes → IsGiven (given_of offset bytes ∷ []) (offset + i) (known_byte (byte_at bytes i))
given_has offset bytes i lt = let e : i ≡ offset + i - offset = omega arith in inl (omega arith, omega arith, ap (λ j. known_byte (byte_at bytes j)) e)

-- ---- into one cluster that is held
module _ (s : DriverState) (on_storage' known' : Bytes) (sound : StateInvariant s) (inside : s.header.incompatible ≡ 0) (c : ℕ) (new_data : 0 < s.pending.new_data c) (outside : IsSameOutside (cluster_size s.header) c s.on_storage on_storage')
    (known_outside : IsSameOutside (cluster_size s.header) c s.known known') (agree : (o : ℕ) → s.on_storage o ≡ s.known o → on_storage' o ≡ known' o) where
  beyond : (o : ℕ) → (o < c * cluster_size s.header) ⊎ (c * cluster_size s.header + cluster_size s.header ≤ o) → o / cluster_size s.header ≢ c
  beyond o out here = grind (arith, pow_pos)

  writes_cluster : WritesAt (c * cluster_size s.header) (cluster_size s.header) s.on_storage s.known on_storage' known'
  writes_cluster = record { others = λ o out. outside o (beyond o out); known_others = λ o out. known_outside o (beyond o out); agree = agree }

  hosts_cluster : (i : ℕ) → i < cluster_size s.header → 0 < s.pending.new_data ((c * cluster_size s.header + i) / cluster_size s.header)
  hosts_cluster i lt = subst (λ k. 0 < s.pending.new_data k) (sym (div-mul-add c (cluster_size s.header) i lt)) new_data

  pub private_written : Writes c s (record s { on_storage = on_storage'; known = known' }) (λ _. []) (λ backing. disk s.known backing)
  private_written =
      let value : ℕ → ℕ = λ i. on_storage' (c * cluster_size s.header + i) in
      record {
        safe_step = safe_step_on s on_storage' known' sound inside (λ _. Held) 0 (c * cluster_size s.header) (cluster_size s.header) value [] hosts_cluster (λ i lt. tt) writes_cluster (λ i lt. refl);
        unseen = record {
          header = refl;
          covers = covers_stay s on_storage' known' sound inside (λ _. Held) 0 (c * cluster_size s.header) (cluster_size s.header) value [] hosts_cluster (λ i lt. tt) writes_cluster (λ i lt. refl);
          bytes = λ o other some. sym (known_outside o other);
        };
        l1 = l1_stays s on_storage' known' sound inside (λ _. Held) 0 (c * cluster_size s.header) (cluster_size s.header) value [] hosts_cluster (λ i lt. tt) writes_cluster (λ i lt. refl);
        shows = λ backing. shows_run s on_storage' known' sound inside (λ _. Held) 0 (c * cluster_size s.header) (cluster_size s.header) value [] hosts_cluster (λ i lt. tt) writes_cluster (λ i lt. refl) backing;
      }
