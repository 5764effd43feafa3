-- When an untrusted image may be accepted.
use Rattle.std.proofs.Common.{◌≡◌, ◌↔◌, ◌≤◌, ◌&&◌, ◌==◌, ◌∷◌, if◌then◌else◌, ℕ, zero, suc, Bool, true, false, not, nat_eq, nat_lt, List, [], length, refl, sym, subst, ◌∙◌, ap, arith, Some, None}
use Rattle.program_parts.proofs.Common.{IsTrue, ltb-false, le-ltb, Bytes, IsConsistent, header, backing_name, HeaderFields, Breach}
use Rattle.program_parts.specs.Vetting.{MayBeTakenIn}

unnamed : (h : HeaderFields) (image : Bytes) → h.backing_offset ≡ 0 → backing_name h image ≡ None
unfolding backing_name
unnamed h image none = rw none refl

without_offset : (n : ℕ) (name : List ℕ) → (if n == 0 then None else Some name) ≡ None → n ≡ 0
without_offset zero name none = refl
without_offset (suc n) name none = grind arith

not_named : (h : HeaderFields) (image : Bytes) → backing_name h image ≡ None → h.backing_offset ≡ 0
unfolding backing_name
not_named h image none = without_offset h.backing_offset _ none

-- what is found, in plain words
pub record Speaks (items : List Breach) (offset size max : ℕ) : Type 0 where
  pub none : items ≡ []
  pub unnamed : offset ≡ 0
  pub small : size ≤ max

false_of : (b : Bool) → not b ≡ true → b ≡ false
false_of true is = absurd cc
false_of false is = refl

speaks : (items : List Breach) (offset size max : ℕ) → IsTrue ((length items == 0) && (not (not (nat_eq offset 0)) && not (nat_lt max size))) ↔ Speaks items offset size max
speaks [] zero size max = (λ is. record { none = refl; unnamed = refl; small = ltb-false max size (false_of _ is) }, λ so. ap not (le-ltb max size so.small))
speaks [] (suc n) size max = (λ is. grind arith, λ so. let no : suc n ≡ 0 = so.unnamed in absurd (omega (arith, no)))
speaks (item ∷ items) offset size max = (λ is. grind arith, λ so. let no : (item ∷ items) ≡ [] = so.none in absurd cc)

-- the image passes exactly where it may be taken in
pub vetted : (image : Bytes) (max : ℕ) (items : List Breach) (h : HeaderFields) → h ≡ header image → ((items ≡ []) ↔ IsConsistent image)
    → IsTrue ((length items == 0) && (not (not (nat_eq h.backing_offset 0)) && not (nat_lt max h.size))) ↔ MayBeTakenIn max image
vetted image max items h is consistent =
    let says = speaks items h.backing_offset h.size max in (
      λ passes.
          let so = says.0 passes in
          let whole : IsConsistent image = consistent.0 so.none in
          record {
            consistent = whole;
            no_backing_file = unnamed (header image) image (sym (ap (λ k. k.backing_offset) is) ∙ so.unnamed);
            no_data_file = whole.no_data_file;
            no_snapshots = whole.no_snapshots;
            not_encrypted = whole.header_reads.well_formed.in_range.not_encrypted;
            small = subst (λ k. k.size ≤ max) is so.small;
          },
      λ may. says.1 (record {
        none = consistent.1 may.consistent;
        unnamed = ap (λ k. k.backing_offset) is ∙ not_named (header image) image may.no_backing_file;
        small = subst (λ k. k.size ≤ max) (sym is) may.small;
      }),
    )
