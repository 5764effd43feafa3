-- Lengths in whole clusters.
use Rattle.std.proofs.Common.{◌+◌, ◌-◌, ◌*◌, ◌/◌, ◌%◌, ◌<◌, ◌≤◌, ◌≡◌, ◌≢◌, ℕ, ◌∙◌, refl, inl, inr, arith, max, min, sym, subst, ap}
use Rattle.qcow2_alloc.proofs.Common.{cases_lt, mul-le-mul_left, mul-le-mul_right, mul-div_cancel, mul_assoc, IsLongEnough, IsLeastLength}
use Rattle.std.proofs.lemmas.Grind.{div_ceil_times}

as_clusters : (n p : ℕ) → 0 < p → n % p ≡ 0 → n ≡ n / p * p
as_clusters n p some whole = omega arith

-- so many clusters are long enough
pub record Suffices (old index p b t : ℕ) : Type 0 where
  pub above : index < t * p
  pub longer : old ≤ t * p
  pub room : t ≤ (t * p - index) * (b - 1)

pub record IsLeastCount (old index p b t : ℕ) : Type 0 where
  pub suffices : Suffices old index p b t
  pub least : (s : ℕ) → Suffices old index p b s → t ≤ s

enough_suffices : (old index p b n : ℕ) → 0 < p → IsLongEnough old index p b n → Suffices old index p b (n / p)
enough_suffices old index p b n some enough =
    let e : n ≡ n / p * p = as_clusters n p some enough.whole in
    record {
      above = omega (arith, e, enough.above);
      longer = omega (arith, e, enough.longer);
      room = subst (λ x. n / p ≤ (x - index) * (b - 1)) e enough.room;
    }

pub length_least : (old index p b t : ℕ) → 0 < p → IsLeastCount old index p b t → IsLeastLength old index p b (t * p)
length_least old index p b t some is = record {
  enough = record {
    longer = is.suffices.longer;
    whole = (let e : t * p / p ≡ t = mul-div_cancel t some in let h : p * (t * p / p) ≡ p * t = ap (λ x. p * x) e in omega arith);
    above = is.suffices.above;
    room = subst (λ x. x ≤ (t * p - index) * (b - 1)) (sym (mul-div_cancel t some)) is.suffices.room;
  };
  least = λ other enough.
      let h : p * t ≤ p * (other / p) = mul-le-mul_left p (is.least (other / p) (enough_suffices old index p b other some enough)) in
      omega (arith, as_clusters other p some enough.whole);
}

-- none is long enough up to a limit, where the least is longer
pub length_none : (old index p b t limit : ℕ) → 0 < p → IsLeastCount old index p b t → limit / p < t → (n : ℕ) → n ≤ limit → IsLongEnough old index p b n → ⊥
length_none old index p b t limit some is past n le enough =
    let low : t ≤ n / p = is.least (n / p) (enough_suffices old index p b n some enough) in
    let h : p * (limit / p + 1) ≤ p * (n / p) = mul-le-mul_left p (omega arith) in
    omega (arith, as_clusters n p some enough.whole)

room_of : (d index m q t : ℕ) → d + index ≡ m → index * q + t ≤ m * q → t ≤ d * q
room_of d index m q t is le = let e : (d + index) * q ≡ m * q = ap (λ x. x * q) is in omega arith

room_from : (d index m q t : ℕ) → d + index ≡ m → t ≤ d * q → index * q + t ≤ m * q
room_from d index m q t is le = let e : (d + index) * q ≡ m * q = ap (λ x. x * q) is in omega arith

-- what clusters let be counted, and what they let be counted beside themselves
beside : (t more p q : ℕ) → more + 1 ≡ p * q → t * more + t ≡ t * p * q
beside t more p q is = let e : t * (more + 1) ≡ t * (p * q) = ap (λ x. t * x) is in omega (arith, mul_assoc t p q)

room_beside : (old index p b s more : ℕ) → more + 1 ≡ p * (b - 1) → Suffices old index p b s → index * (b - 1) ≤ s * more
room_beside old index p b s more is suffices =
    let above = suffices.above in
    let from = room_from (s * p - index) index (s * p) (b - 1) s (omega arith) suffices.room in
    omega (arith, beside s more p (b - 1) is, from)

ceil_least : (a k s : ℕ) → 0 < k → a ≤ s * k → a / k + min 1 (a % k) ≤ s
ceil_least a k s some le = elim (cases_lt s (a / k + min 1 (a % k))) [
  | inl lt ↦ let h : k * (s + 1) ≤ k * (a / k + min 1 (a % k)) = mul-le-mul_left k (omega arith) in let times = (div_ceil_times a k some).1 in absurd (omega arith)
  | inr not ↦ not
]

few_room : (index q t more p : ℕ) → more + 1 ≡ p * q → min index 1 ≤ more → index * q ≤ t * max more 1 → index * q + t ≤ t * p * q
few_room index q t more p is few enough = elim (cases_lt 0 more) [
  | inl some ↦ let e : max more 1 ≡ more = omega arith in let le : index * q ≤ t * more = subst (λ m. index * q ≤ t * m) e enough in omega (arith, beside t more p q is)
  | inr none ↦ let z : index ≡ 0 = omega arith in let zero : index * q ≡ 0 * q = ap (λ x. x * q) z in omega (arith, beside t more p q is)
]

-- the greatest of what each demand asks for
least_count : (old index p b more above longer counted t : ℕ) → 0 < p → more + 1 ≡ p * (b - 1) → min index 1 ≤ more
    → above ≡ index / p + 1 → longer ≡ old / p + min 1 (old % p) → counted ≡ index * (b - 1) / max more 1 + min 1 (index * (b - 1) % max more 1)
    → t ≡ max (max above longer) counted → IsLeastCount old index p b t
least_count old index p b more above longer counted t some is few is_above is_longer is_counted is_t =
    let q : ℕ = b - 1 in
    let up : p * (index / p + 1) ≤ p * t = mul-le-mul_left p (omega arith) in
    let far : index < t * p = omega arith in
    let long : p * longer ≤ p * t = mul-le-mul_left p (omega arith) in
    let wide : max more 1 * counted ≤ max more 1 * t = mul-le-mul_left (max more 1) (omega arith) in
    let ceil = (div_ceil_times (index * (b - 1)) (max more 1) (omega arith)).0 in
    let times : (index * (b - 1) / max more 1 + min 1 (index * (b - 1) % max more 1)) * max more 1 ≡ counted * max more 1 = ap (λ x. x * max more 1) (sym is_counted) in
    let enough : index * (b - 1) ≤ t * max more 1 = omega arith in
    record {
      suffices = record {
        above = far;
        longer = (let ceil = (div_ceil_times old p some).0 in let times : (old / p + min 1 (old % p)) * p ≡ longer * p = ap (λ x. x * p) (sym is_longer) in omega arith);
        room = room_of (t * p - index) index (t * p) (b - 1) t (omega arith) (few_room index (b - 1) t more p is few enough);
      };
      least = λ s suffices.
          let low : above ≤ s = (let h = suffices.above in elim (cases_lt (index / p) s) [
            | inl lt ↦ omega arith
            | inr not ↦ let h : p * s ≤ p * (index / p) = mul-le-mul_left p not in absurd (omega arith)
          ]) in
          let high : longer ≤ s = omega (arith, ceil_least old p s some suffices.longer) in
          let beside : index * (b - 1) ≤ s * max more 1 = (let le = room_beside old index p b s more is suffices in let h : s * more ≤ s * max more 1 = mul-le-mul_left s (omega arith) in omega arith) in
          let last : counted ≤ s = omega (arith, ceil_least (index * (b - 1)) (max more 1) s (omega arith) beside) in
          omega arith;
    }

pub clusters_least : (old index p b lower longer divisor counted reach t : ℕ) → 0 < p → b - 1 ≢ 0 → lower ≡ min index 1 → lower ≤ p * (b - 1) - 1 → longer ≡ old / p + min 1 (old % p)
    → divisor ≡ max (p * (b - 1) - 1) 1 → counted ≡ index * (b - 1) / divisor + min 1 (index * (b - 1) % divisor) → reach ≡ max (index / p + 1) longer → t ≡ max reach counted → IsLeastCount old index p b t
clusters_least old index p b lower longer divisor counted reach t some counts is_lower few is_longer is_divisor is_counted is_reach is_t =
    let least : 1 * (b - 1) ≤ p * (b - 1) = mul-le-mul_right (b - 1) some in
    least_count old index p b (p * (b - 1) - 1) (index / p + 1) longer counted t some (omega arith) (omega arith) refl is_longer
    (is_counted ∙ ap (λ k. index * (b - 1) / k + min 1 (index * (b - 1) % k)) is_divisor) (is_t ∙ ap (λ m. max m counted) is_reach)

-- there is one least length, as equal numbers say it
pub one_least : (old index p p' per_block per_block' n n' : ℕ) → p' ≡ p → per_block' ≡ per_block → IsLeastLength old index p per_block n → IsLeastLength old index p' per_block' n' → n' ≡ n
one_least old index p p' per_block per_block' n n' same_p same_block least other =
    let this : IsLeastLength old index p per_block n' = subst (λ m. IsLeastLength old index p m n') same_block (subst (λ m. IsLeastLength old index m per_block' n') same_p other) in
    let low = least.least n' this.enough in
    let high = this.least n least.enough in
    omega (arith, low, high)
