-- Two disks that are read and compared.
use Rattle.std.proofs.Common.{◌≡◌, ◌+◌, ◌-◌, ◌<◌, ◌≤◌, inl, inr, ℕ, List, [], length, sym, ap, ◌∙◌, subst, arith, Option, Some, None, Result, Ok, Err, IfOk, OnOk}
use Rattle.program_parts.proofs.Common.{cases_lt, BackingView, StorageView, byte_at, IsConsistent, Value, known_byte, Shows, Disk, ImageError, disk_alone, IsCompared, IsFirstOther, IsFoundBetween, AreSameBelow, IsComparisonIn, IsComparisonOf, IsFirstDifference, IsOpenedAs, IsSeenAs, SeenDisk, seen_image}
use Rattle.image_access.specs.declared.storage.Format.{Format}
use Rattle.image_access.specs.declared.storage.Format.TheVariants.{Qcow2}
use Rattle.qcow2_image.specs.declared.image.Qcow2.{Qcow2 as Image}
use Rattle.qcow2_session.specs.Sessions.{ReadsInto}
use Rattle.program_parts.specs.declared.comparing.Comparison.{Comparison}
use Rattle.qcow2_image.specs.ImageInvariant.{in_image}

-- ---- what is so of an answer

pub on_ok : {A E : Type 0} (P : Type 0) (r : Result A E) (v : A) → r ≡ Ok v → OnOk r P → P
on_ok {A} {E} P r v is h = subst (λ (q : Result A E). OnOk q P) is h

pub if_ok : {A E : Type 0} (P : A → Type 0) (r : Result A E) (v : A) → r ≡ Ok v → IfOk r P → P v
if_ok {A} {E} P r v is h = subst (λ (q : Result A E). IfOk q P) is h

-- ---- reads of an image's disk

module _ {S F : Type 0} (view : S → StorageView) (backing : F → BackingView) (old new : Image S F) (at : ℕ) (bytes : List ℕ) where
  pub shown_if : (r : Result (Unit {0}) ImageError) → ReadsInto view backing old new at bytes r → (seen_image view backing old).is_honest → OnOk r (Shows (seen_image view backing old).disk at bytes)
  shown_if (Ok x) sees sound = ((sees (in_image [])).answer sound).1.0
  shown_if (Err e) sees sound = tt

  pub seen_still : (r : Result (Unit {0}) ImageError) → ReadsInto view backing old new at bytes r → (seen_image view backing old).is_honest → OnOk r (IsSeenAs (seen_image view backing old).disk (seen_image view backing new))
  seen_still (Ok x) sees sound = let done = (sees (in_image [])).answer sound in record { honest = done.0; disk = ap (λ g. g.disk) done.1.1 }
  seen_still (Err e) sees sound = tt

-- ---- a range of both

byte_of : Value → ℕ
byte_of (known_byte b) = b
byte_of _ = 0

known_is : (a b : ℕ) → known_byte a ≡ known_byte b → a ≡ b
unfolding byte_of
known_is a b is = ap byte_of is

module _ (d e : Disk) (at : ℕ) (bytes others : List ℕ) (long : length others ≡ length bytes) (one : Shows d at bytes) (other : Shows e at others) where
  same_upto : (n : ℕ) → n ≤ length bytes → ((j : ℕ) → j < n → byte_at bytes j ≡ byte_at others j) → AreSameBelow d e at → AreSameBelow d e (at + n)
  same_upto n few same before = λ o lt. elim (cases_lt o at) [
    | inl below ↦ before o below
    | inr past ↦
        let place : at + (o - at) ≡ o = omega (arith, past) in
        let inside : o - at < n = omega (arith, past, lt) in (
          byte_at bytes (o - at),
          ap d.value (sym place) ∙ one (o - at) (omega (arith, inside, few)),
          ap e.value (sym place) ∙ other (o - at) (omega (arith, inside, few, long)) ∙ ap known_byte (sym (same (o - at) inside)),
        )
  ]

  pub found_none : bytes ≡ others → IsFoundBetween d e at (at + length bytes) None
  found_none same = same_upto (length bytes) (omega arith) (λ j lt. ap (λ b. byte_at b j) same)

  pub found_some : (i : ℕ) → IsFirstOther bytes others i → IsFoundBetween d e at (at + length bytes) (Some (at + i))
  found_some i first = record {
    after = omega arith;
    within = omega (arith, first.within);
    before = same_upto i (omega (arith, first.within)) first.before;
    differs = λ same. first.differs (known_is _ _ (sym (one i first.within) ∙ same ∙ other i (omega (arith, first.within, long))));
  }

-- ---- one more range

module _ (d e : Disk) (a a' b b' : SeenDisk) (at end size : ℕ) (found : Option ℕ) (one : IsSeenAs d a) (other : IsSeenAs e b) (is : IsCompared a a' b b' at end found)
    (before : AreSameBelow d e at) (within : end ≤ size) (size_one : size ≡ d.size) (size_other : size ≡ e.size) where
  pub then_one : IsSeenAs d a'
  then_one = record { honest = is.one.honest; disk = is.one.disk ∙ one.disk }

  pub then_other : IsSeenAs e b'
  then_other = record { honest = is.other.honest; disk = is.other.disk ∙ other.disk }

  found_is : IsFoundBetween d e at end found
  found_is =
      subst (λ x. end ≤ x.size → end ≤ e.size → IsFoundBetween x e at end found) one.disk
      (subst (λ x. end ≤ a.disk.size → end ≤ x.size → IsFoundBetween a.disk x at end found) other.disk is.found_is)
      (omega (arith, within, size_one)) (omega (arith, within, size_other))

  pub then_none : found ≡ None → AreSameBelow d e end
  then_none none = subst (IsFoundBetween d e at end) none found_is before

  pub then_some : (p : ℕ) → found ≡ Some p → IsFirstDifference d e p
  then_some p some =
      let it = subst (IsFoundBetween d e at end) some found_is in
      record { size = sym size_one ∙ size_other; within = omega (arith, it.within, within, size_one); before = it.before before; differs = it.differs }

-- ---- disks of other sizes, and whole ones

pub compared_as : (d e d' e' : Disk) (found : Comparison) → d' ≡ d → e' ≡ e → IsComparisonOf d' e' found → IsComparisonOf d e found
compared_as d e d' e' found one other is = subst (λ x. IsComparisonOf d x found) other (subst (λ x. IsComparisonOf x e' found) one is)

pub all_compared_as : {E : Type 0} (d e d' e' : Disk) (r : Result Comparison E) → d' ≡ d → e' ≡ e → IfOk r (IsComparisonOf d' e') → IfOk r (IsComparisonOf d e)
all_compared_as d e d' e' (Ok found) one other is = compared_as d e d' e' found one other is
all_compared_as d e d' e' (Err x) one other is = tt

pub opened_both : {E : Type 0} (r : Result Comparison E) (f : Format) (v : StorageView) (g : Format) (w : StorageView) (a b : SeenDisk) → IsOpenedAs f v a → IsOpenedAs g w b
    → (a.is_honest → b.is_honest → IfOk r (IsComparisonOf a.disk b.disk)) → IfOk r (IsComparisonIn f v g w)
opened_both (Ok found) f v g w a b one other is = λ v_honest w_honest holds_one holds_other.
    let first = one v_honest holds_one in
    let second = other w_honest holds_other in
    compared_as _ _ _ _ found first.disk second.disk (is first.honest second.honest)
opened_both (Err x) f v g w a b one other is = tt

pub opened_image : (format : Format) (v : StorageView) (seen : SeenDisk) → format ≡ Qcow2 → (v.is_honest → IsConsistent (byte_at v.contents) → IsSeenAs (disk_alone (byte_at v.contents)) seen) → IsOpenedAs format v seen
opened_image format v seen is so = subst (λ f. IsOpenedAs f v seen) (sym is) so
