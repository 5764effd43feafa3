-- Runs of numbers, as a map from the number at which each begins.
use Rattle.std.proofs.Common.{◌≡◌, ◌≢◌, ◌⊎◌, inl, inr, ℕ, ◌+◌, ◌-◌, ◌<◌, ◌≤◌, ◌^◌, List, Bool, true, false, IsTrue, IsFalse, Option, Some, None, sym, ap, ◌∙◌, subst, refl, arith}
use Rattle.std.proofs.lemmas.Bool.{cases_eq, cases_lt}
use Rattle.std.proofs.lemmas.Grind.{common_steps}
use Rattle.std.specs.Ordering.{nat_cmp, is_lt, is_gt}
use Rattle.std.specs.Option.{IsSome, is_some}
use Rattle.std.specs.Prelude.{IfSome, IsNone}
use Rattle.std.specs.BTreeMap.{is_at}
use Rattle.std.specs.Prelude.{if◌then◌else◌}
use Rattle.number_runs.specs.NumberRuns.{run_at, AreApart, AreKept, LiesIn, IsIn, NoneIn, IsRun, Adds, Forgets, IsParted}

pub some_is : (o : Option ℕ) (a b : ℕ) → o ≡ Some a → o ≡ Some b → a ≡ b
some_is o a b is is' = cc

pub not_both : (o : Option ℕ) (a : ℕ) → o ≡ Some a → o ≡ None → ⊥
not_both o a is none = let bad : Some a ≡ None = sym is ∙ none in cc

-- a number is in no run where the last one that begins at it or before it ends before it
pub not_in : (at : ℕ → Option ℕ) → AreApart at → (first n k : ℕ) → at first ≡ Some n → first ≤ k → (k - first < n → ⊥) → ((q m : ℕ) → at q ≡ Some m → q ≤ k → q ≤ first) → LiesIn at k → ⊥
not_in at lie first n k run from short last free = grind arith

-- ---- a run is put

module _ (at at' : ℕ → Option ℕ) (first n : ℕ) (lie : AreApart at) (some : 0 < n) (near : first + n < 2 ^ 64) (free : (k : ℕ) → first ≤ k → k < first + n → LiesIn at k → ⊥)
    (put : at' first ≡ Some n) (others : (k : ℕ) → k ≢ first → at' k ≡ at k) where
  -- each run was there, or is the new one
  each : (s m : ℕ) → at' s ≡ Some m → ((s ≡ first) × (m ≡ n)) ⊎ ((s ≢ first) × (at s ≡ Some m))
  each s m is = grind arith

  -- one that was there lies before the new one, or after it
  beside : (s m : ℕ) → at s ≡ Some m → (s + m ≤ first) ⊎ (first + n ≤ s)
  beside s m is = elim (cases_lt s first) [
    | inl before ↦ elim (cases_lt first (s + m)) [
      | inl within ↦ absurd (free first (omega arith) (omega (arith, some)) (record { first = s; n = m; run = is; from = omega (arith, before); below = within }))
      | inr apart ↦ inl (omega (arith, apart))
    ]
    | inr not_before ↦ elim (cases_lt s (first + n)) [
      | inl within ↦ let more = lie.some s m is in absurd (free s (omega (arith, not_before)) within (record { first = s; n = m; run = is; from = omega arith; below = omega (arith, more) }))
      | inr apart ↦ inr (omega (arith, apart))
    ]
  ]

  pub added : AreApart at'
  added = grind (arith, beside)

-- ---- a run loses some of its numbers

module _ (at at' : ℕ → Option ℕ) (first n low high left right : ℕ) (lie : AreApart at) (run : at first ≡ Some n) (from : first ≤ low) (in_order : low ≤ high) (past : first < high)
    (left_is : first + left ≡ low) (right_is : high + right ≡ first + n) (before : 0 < left → at' first ≡ Some left) (none : left ≡ 0 → at' first ≡ None)
    (behind : 0 < right → at' high ≡ Some right) (last : right ≡ 0 → at' high ≡ at high) (others : (k : ℕ) → k ≢ first → k ≢ high → at' k ≡ at k) where
  -- an old run beside the cut one lies before it, or after it
  away : (s m : ℕ) → s ≢ first → at s ≡ Some m → (s + m ≤ first) ⊎ (first + n ≤ s)
  away s m other is = grind arith

  -- where a run of now lies: within the old one, before the lost numbers or after them; or it is an old one beside it
  placed : (s m : ℕ) → at' s ≡ Some m → (0 < m) × (s + m < 2 ^ 64) × (((s + m ≤ low) × (s ≡ first)) ⊎ (((s ≡ high) × (s + m ≤ first + n)) ⊎ (((s + m ≤ first) ⊎ (first + n ≤ s)) × (at s ≡ Some m) × (s ≢ first))))
  placed s m is = grind arith

  pub cut_apart : AreApart at'
  cut_apart = grind arith

  pub cut_gone : (k : ℕ) → low ≤ k → k < high → LiesIn at' k → ⊥
  cut_gone k above under is = grind arith

  pub cut_was : (k : ℕ) → LiesIn at' k → LiesIn at k
  cut_was k is = grind arith

  -- a number that isn't lost is in a run still
  stays : (k : ℕ) → (low ≤ k → k < high → ⊥) → LiesIn at k → LiesIn at' k
  stays k out is =
      let a = is.from in
      let b = is.below in
      elim (cases_eq is.first first) [
        | inl same ↦
            let n_is : is.n ≡ n = some_is (at first) is.n n (subst (λ s. at s ≡ Some is.n) same is.run) run in
            elim (cases_lt k low) [
              | inl less ↦ record { first = first; n = left; run = before (omega (arith, less, a, same, left_is)); from = omega (arith, a, same); below = omega (arith, less, left_is) }
              | inr not_less ↦ elim (cases_lt k high) [
                | inl lost ↦ absurd (out (omega (arith, not_less)) lost)
                | inr more ↦ record { first = high; n = right; run = behind (omega (arith, more, b, same, n_is, right_is)); from = omega (arith, more); below = omega (arith, more, b, same, n_is, right_is) }
              ]
            ]
        | inr other ↦
            let as_before : at' is.first ≡ at is.first = elim (cases_eq is.first high) [
              | inl next ↦
                  let some = lie.some is.first is.n is.run in
                  let empty : right ≡ 0 = elim (away is.first is.n other is.run) [
                    | inl le ↦ absurd (omega (arith, le, next, past, some))
                    | inr le ↦ omega (arith, le, next, right_is)
                  ] in
                  ap at' next ∙ last empty ∙ ap at (sym next)
              | inr elsewhere ↦ others is.first other elsewhere
            ] in
            record { first = is.first; n = is.n; run = as_before ∙ is.run; from = a; below = b }
      ]

  pub cut_before : (k : ℕ) → k < low → LiesIn at k → LiesIn at' k
  cut_before k less = stays k (λ above under. omega (arith, less, above))

  pub cut_behind : (k : ℕ) → high ≤ k → LiesIn at k → LiesIn at' k
  cut_behind k up = stays k (λ above under. omega (arith, up, under))

  -- no run goes over a number that none went over
  pub cut_finer : (j : ℕ) → ((s m : ℕ) → at s ≡ Some m → s < j → s + m ≤ j) → (s m : ℕ) → at' s ≡ Some m → s < j → s + m ≤ j
  cut_finer j parted s m is less = grind arith

-- ---- a number is given back, and joins the runs beside it

module _ (at at' : ℕ → Option ℕ) (first behind number : ℕ) (lie : AreApart at) (near : number + 1 < 2 ^ 64) (taken : LiesIn at number → ⊥)
    (left : (first ≡ number) ⊎ ((first < number) × (at first ≡ Some (number - first)))) (right : (behind ≡ 0) ⊎ ((0 < behind) × (at (number + 1) ≡ Some behind)))
    (set : at' first ≡ Some (number - first + 1 + behind)) (gone : 0 < behind → at' (number + 1) ≡ None)
    (others : (k : ℕ) → k ≢ first → ((k ≡ number + 1) × (0 < behind) → ⊥) → at' k ≡ at k) where
  low : first ≤ number
  low = elim left [ inl same ↦ omega (arith, same) | inr before ↦ let b = before.0 in omega (arith, b) ]

  high : number + 1 + behind < 2 ^ 64
  high = elim right [ inl none ↦ omega (arith, none, near) | inr some ↦ lie.near (number + 1) behind some.1 ]

  -- an old run that isn't joined lies before the new one, or after it
  apart_from : (s m : ℕ) → s ≢ first → ((s ≡ number + 1) × (0 < behind) → ⊥) → at s ≡ Some m → (s + m ≤ first) ⊎ (number + 1 + behind ≤ s)
  apart_from s m other unjoined is =
      let more = lie.some s m is in
      let not_here : s ≤ number → number < s + m → ⊥ = λ a b. taken (record { first = s; n = m; run = is; from = a; below = b }) in
      elim (cases_lt s first) [
        | inl less ↦ elim left [
          | inl same ↦ elim (cases_lt number (s + m)) [ inl over ↦ absurd (not_here (omega (arith, less, same)) over) | inr short ↦ inl (omega (arith, short, same)) ]
          | inr before ↦ inl (lie.apart s m first (number - first) is before.1 less)
        ]
        | inr above ↦ elim (cases_lt number s) [
          | inl past ↦ elim right [
            | inl none ↦ inr (omega (arith, none, past))
            | inr some ↦ elim (cases_eq s (number + 1)) [
              | inl next ↦ absurd (unjoined (next, some.0))
              | inr away_from ↦ inr (lie.apart (number + 1) behind s m some.1 is (omega (arith, past, away_from)))
            ]
          ]
          | inr within ↦ elim left [
            | inl same ↦ absurd (omega (arith, same, within, above, other))
            | inr before ↦
                let le = lie.apart first (number - first) s m before.1 is (omega (arith, above, other)) in
                absurd (not_here (omega (arith, within)) (let b = before.0 in omega (arith, le, within, more, b)))
          ]
        ]
      ]

  -- each run is the new one, or an old one that isn't joined
  either : (s m : ℕ) → at' s ≡ Some m → ((s ≡ first) × (m ≡ number - first + 1 + behind)) ⊎ ((s ≢ first) × (at s ≡ Some m) × ((s + m ≤ first) ⊎ (number + 1 + behind ≤ s)))
  either s m is = grind arith

  pub gave : AreApart at'
  gave = grind arith

  in_new : (k : ℕ) → first ≤ k → k < number + 1 + behind → LiesIn at' k
  in_new k from below = record { first = first; n = number - first + 1 + behind; run = set; from = from; below = let c = low in omega (arith, below, c) }

  pub gave_it : LiesIn at' number
  gave_it = in_new number low (omega arith)

  pub gave_stays : (k : ℕ) → LiesIn at k → LiesIn at' k
  gave_stays k is =
      let from = is.from in
      let below = is.below in
      elim (cases_eq is.first first) [
        | inl same ↦ elim left [
          | inl here ↦ absurd (taken (record { first = is.first; n = is.n; run = is.run; from = omega (arith, same, here); below = let more = lie.some is.first is.n is.run in omega (arith, same, here, more) }))
          | inr before ↦
              let n_is = some_is (at first) is.n (number - first) (subst (λ s. at s ≡ Some is.n) same is.run) before.1 in
              let b = before.0 in
              in_new k (omega (arith, from, same)) (omega (arith, below, n_is, same, b))
        ]
        | inr other ↦ elim right [
          | inl none ↦ record { first = is.first; n = is.n; run = others is.first other (λ next. let some = next.1 in omega (arith, some, none)) ∙ is.run; from = from; below = below }
          | inr some ↦ elim (cases_eq is.first (number + 1)) [
            | inl next ↦
                let n_is = some_is (at (number + 1)) is.n behind (subst (λ s. at s ≡ Some is.n) next is.run) some.1 in
                let c = low in
                in_new k (omega (arith, from, next, c)) (omega (arith, below, n_is, next))
            | inr away_from ↦ record { first = is.first; n = is.n; run = others is.first other (λ next. away_from next.0) ∙ is.run; from = from; below = below }
          ]
        ]
      ]

  pub gave_was : (k : ℕ) → k ≢ number → LiesIn at' k → LiesIn at k
  gave_was k other is =
      let from = is.from in
      let below = is.below in
      elim (either is.first is.n is.run) [
        | inl new ↦
            let a = new.0 in
            let b = new.1 in
            let c = low in
            elim (cases_lt k number) [
              | inl less ↦ elim left [
                | inl same ↦ absurd (omega (arith, less, same, from, a))
                | inr before ↦ record { first = first; n = number - first; run = before.1; from = omega (arith, from, a); below = omega (arith, less, c) }
              ]
              | inr more ↦ elim right [
                | inl none ↦ absurd (omega (arith, more, other, below, a, b, none, c))
                | inr some ↦ record { first = number + 1; n = behind; run = some.1; from = omega (arith, more, other); below = omega (arith, below, a, b, c) }
              ]
            ]
        | inr old ↦ record { first = is.first; n = is.n; run = old.1; from = from; below = below }
      ]

-- what is forgotten where all runs from a number on up to before an end are gone, and none goes over these
pub forgot : (old new : List (ℕ × ℕ)) (first end : ℕ) → IsParted old first → IsParted old end → ((k n : ℕ) → run_at new k ≡ Some n → run_at old k ≡ Some n)
    → ((k : ℕ) → k < first → run_at new k ≡ run_at old k) → ((k : ℕ) → end ≤ k → run_at new k ≡ run_at old k) → ((k : ℕ) → first ≤ k → k < end → run_at new k ≡ None) → Forgets old new first end
forgot old new first end begins ends was below behind none = grind arith

-- fewer runs are apart
pub fewer : (at at' : ℕ → Option ℕ) → AreApart at → ((k n : ℕ) → at' k ≡ Some n → at k ≡ Some n) → AreApart at'
fewer at at' lie was = grind arith

-- ---- comparisons of numbers

pub not_less : (a b : ℕ) → is_lt (nat_cmp a b) ≡ false → b ≤ a
not_less a b h = grind (arith, common_steps, h)

pub not_more : (q k : ℕ) → q ≤ k → is_gt (nat_cmp q k) ≡ false
not_more q k le = grind (arith, common_steps, le)

never_some : (o : Option (ℕ × ℕ)) → o ≡ None → IsSome o → ⊥
never_some o none some = grind (arith, common_steps, none, some)

pub is_there : (o : Option ℕ) (m : ℕ) → o ≡ Some m → IsSome o
is_there o m is = subst IsSome (sym is) (grind (arith, common_steps))

pub not_at : (a k : ℕ) → k ≢ a → is_at (nat_cmp a) k ≡ false
not_at a k other = grind (arith, common_steps, other)

pub shorter : (o : Option ℕ) (n a b : ℕ) → o ≡ Some n → a + (if is_some o then 1 else 0) ≡ b → a < b
shorter (Some m) n a b is sum = omega (arith, sum)
shorter None n a b is sum = absurd (not_both None n is refl)

-- ---- maps of runs

-- a run that begins somewhere is a run of the numbers in them
pub found : (runs view : List (ℕ × ℕ)) (most : ℕ) (o : Option (ℕ × ℕ)) → runs ≡ view → AreKept runs most → IfSome o (λ run. run_at runs run.0 ≡ Some run.1) → IfSome o (IsRun view)
found runs view most (Some run) same kept is = subst (λ es. IsRun es run) same (record {
  some = kept.apart.some run.0 run.1 is;
  near = kept.apart.near run.0 run.1 is;
  all = λ k from below. record { first = run.0; n = run.1; run = is; from = from; below = below };
})
found runs view most None same kept is = is

-- what is so of a run put where none of its numbers were
module _ (old new view : List (ℕ × ℕ)) (first n : ℕ) (same : old ≡ view) (lie : AreApart (run_at old)) (near : first + n < 2 ^ 64) (none : NoneIn view first (first + n))
    (others : (k : ℕ) → k ≢ first → run_at new k ≡ run_at old k) where
  none_old : (k : ℕ) → first ≤ k → k < first + n → LiesIn (run_at old) k → ⊥
  none_old k from below is = none k from below (subst (λ es. IsIn es k) same is)

  put_apart : (r : Bool) → 0 < n → (IsTrue r → 0 < n → run_at new first ≡ Some n) → (IsFalse r → new ≡ old) → AreApart (run_at new)
  put_apart true some put refused = added (run_at old) (run_at new) first n lie some near none_old (put refl some) others
  put_apart false some put refused = subst (λ es. AreApart (run_at es)) (sym (refused refl)) lie

  pub adds_apart : (r : Bool) → (IsTrue r → 0 < n → run_at new first ≡ Some n) → (n ≡ 0 → IsTrue r × (new ≡ old)) → (IsFalse r → new ≡ old) → AreApart (run_at new)
  adds_apart r put nothing refused = elim (cases_eq n 0) [
    | inl zero ↦ subst (λ es. AreApart (run_at es)) (sym (nothing zero).1) lie
    | inr some ↦ put_apart r (omega (arith, some)) put refused
  ]

  pub adds : (0 < n → run_at new first ≡ Some n) → (n ≡ 0 → new ≡ old) → Adds view new first n
  adds put nothing = grind arith

-- a number lies in the run that was found
pub is_in : (runs : List (ℕ × ℕ)) (number : ℕ) (o : Option (ℕ × ℕ)) → IsSome o → IfSome o (λ run. run_at runs run.0 ≡ Some run.1) → IfSome o (λ run. (run.0 ≤ number) × (number < run.0 + run.1)) → IsIn runs number
is_in runs number (Some run) some is within = record { first = run.0; n = run.1; run = is; from = within.0; below = within.1 }
is_in runs number None some is within = absurd (never_some None refl some)

-- a number that is there is added without a change
pub there : (runs view : List (ℕ × ℕ)) → runs ≡ view → (number : ℕ) → IsIn runs number → Adds view view number 1
there runs view same number is = grind arith

-- a number lies in none where none was found
pub out_of : (runs : List (ℕ × ℕ)) (number : ℕ) (o : Option (ℕ × ℕ)) → is_some o ≡ false → (IsNone o → IsIn runs number → ⊥) → IsIn runs number → ⊥
out_of runs number None none out = out refl
out_of runs number (Some run) none out = absurd (grind (arith, common_steps, none))

-- ---- two runs are joined

module _ (at at' : ℕ → Option ℕ) (first n number behind : ℕ) (lie : AreApart at) (run : at first ≡ Some n) (ends : first + n ≡ number) (next : at number ≡ Some behind)
    (set : at' first ≡ Some (n + behind)) (gone : at' number ≡ None) (others : (k : ℕ) → k ≢ first → k ≢ number → at' k ≡ at k) where
  -- each run is the joined one, or an old one beside it
  old_or_joined : (s m : ℕ) → at' s ≡ Some m → ((s ≡ first) × (m ≡ n + behind)) ⊎ ((s ≢ first) × (s ≢ number) × (at s ≡ Some m))
  old_or_joined s m is = grind arith

  pub joined_apart : AreApart at'
  joined_apart = grind arith

  pub joined_stays : (k : ℕ) → LiesIn at k → LiesIn at' k
  joined_stays k is = grind arith

  pub joined_was : (k : ℕ) → LiesIn at' k → LiesIn at k
  joined_was k is =
      let a = is.from in
      let b = is.below in
      elim (old_or_joined is.first is.n is.run) [
        | inl new ↦
            let d = new.0 in
            let e = new.1 in
            elim (cases_lt k number) [
              | inl low ↦ record { first = first; n = n; run = run; from = omega (arith, a, d); below = omega (arith, low, ends) }
              | inr high ↦ record { first = number; n = behind; run = next; from = omega (arith, high); below = omega (arith, b, d, e, ends) }
            ]
        | inr old ↦ record { first = is.first; n = is.n; run = old.2; from = a; below = b }
      ]
