-- What special reads mean.
use Rattle.std.proofs.Common.{◌≡◌, ◌⊎◌, ◌<◌, false, true, inl, inr, refl, sym, ◌∙◌, subst, ℕ, zero, suc, arith, Option, Some, None, IfErr, Result, Ok, Err}
use Rattle.qcow2_session.proofs.Common.{IsErr, IfOk, MatchOption, Bytes, not_compressed, IsCompressedAt, IsRightlySpecial, ImageError, refusal_of, MayFailToRead, ReportsPlain, ReportsSpecial}
use Rattle.qcow2_alloc.specs.declared.error.ImageError.TheVariants as I
use Rattle.qcow2_image.specs.SpecialReads.{ReportsCompressed, ReportsWhether}

-- What a refused special read reports: nothing, unless it is refused as compressed or as not compressed.
pub refused_specially : (known : Bytes) (offset n : ℕ) (e : ImageError) → (e ≡ I.Compressed → (0 < n) × IsCompressedAt known offset) → ((at : ℕ) → e ≡ I.NotCompressed at → IsRightlySpecial known offset n (not_compressed at)) → IsRightlySpecial known offset n (refusal_of e)
refused_specially known offset n I.ReadOnly is not = λ no. absurd cc
refused_specially known offset n I.BeyondSize is not = λ no. absurd cc
refused_specially known offset n I.Version is not = λ no. absurd cc
refused_specially known offset n I.UnalignedTable is not = λ no. absurd cc
refused_specially known offset n I.InvalidOption is not = λ no. absurd cc
refused_specially known offset n I.Preallocation is not = λ no. absurd cc
refused_specially known offset n I.Compressed is not = λ _. is refl
refused_specially known offset n I.InUse is not = λ no. absurd cc
refused_specially known offset n I.TablePrepared is not = λ no. absurd cc
refused_specially known offset n I.OutdatedMapping is not = λ no. absurd cc
refused_specially known offset n I.ForeignState is not = λ no. absurd cc
refused_specially known offset n I.Dependency is not = λ no. absurd cc
refused_specially known offset n I.Limit is not = λ no. absurd cc
refused_specially known offset n I.Memory is not = tt
refused_specially known offset n I.Storage is not = tt
refused_specially known offset n I.Failed is not = λ no. absurd cc
refused_specially known offset n I.MappingPrepared is not = λ no. absurd cc
refused_specially known offset n (I.NotCompressed at) is not = not at refl
refused_specially known offset n I.Metadata is not = λ no. absurd cc
refused_specially known offset n I.Overflow is not = λ no. absurd cc
refused_specially known offset n (I.StillInUse tables) is not = λ no. absurd cc

-- of no bytes none is refused
some_bytes : {A : Type 0} (n : ℕ) (e : ImageError) (r : Result A ImageError) (a : A) → r ≡ Err e → (n ≡ 0 → r ≡ Ok a) → 0 < n
some_bytes zero e r a is none = absurd (let no : Err e ≡ Ok a = sym is ∙ none refl in cc)
some_bytes (suc n) e r a is none = omega arith

-- only a range of no bytes is done
done_empty : (n : ℕ) (r : Result (Unit {0}) ImageError) → (0 < n → IsErr r) → IfOk r (λ _. n ≡ 0)
done_empty n (Err e) some = tt
done_empty zero (Ok _) some = refl
done_empty (suc n) (Ok _) some = absurd (let no : false ≡ true = some (omega arith) in cc)

-- and only such a one is answered by no offset
own_offset : (offset n : ℕ) (r : Result (Option ℕ) ImageError) → (0 < n → IfOk r (λ at. at ≡ Some offset)) → (n ≡ 0 → r ≡ Ok None) → IfOk r (λ plain. MatchOption plain (n ≡ 0) (λ at. at ≡ offset))
own_offset offset n (Err e) some none = tt
own_offset offset zero (Ok None) some none = refl
own_offset offset zero (Ok (Some at)) some none = absurd (let no : Ok (Some at) ≡ Ok None = none refl in let inner : Some at ≡ None = cc in cc)
own_offset offset (suc n) (Ok None) some none = absurd (let no : None ≡ Some offset = some (omega arith) in cc)
own_offset offset (suc n) (Ok (Some at)) some none = let same : Some at ≡ Some offset = some (omega arith) in cc

-- what an image's call reports is reported
pub told_specially : (Plain : Type 0) (known : Bytes) (offset n : ℕ) (r : Result (Unit {0}) ImageError) → (0 < n → IsErr r) → (n ≡ 0 → r ≡ Ok tt) → IfErr r (λ e. MayFailToRead e ⊎ ((e ≡ I.NotCompressed offset) × Plain)) → (0 < n → IfErr r (ReportsCompressed known offset)) → ReportsSpecial known offset n r
told_specially Plain known offset n (Ok _) some none may_fail reports = done_empty n (Ok tt) some
told_specially Plain known offset n (Err e) fails none may_fail reports =
    let some = some_bytes n e (Err e) tt refl none in
    refused_specially known offset n e (λ is. (some, (reports some).0 is)) (λ at is. plain at is may_fail)
  where
    plain : (at : ℕ) → e ≡ I.NotCompressed at → MayFailToRead e ⊎ ((e ≡ I.NotCompressed offset) × Plain) → IsRightlySpecial known offset n (not_compressed at)
    plain at is (inl may_fail) = absurd (subst MayFailToRead is may_fail)
    plain at is (inr own) =
        let same : I.NotCompressed at ≡ I.NotCompressed offset = sym is ∙ own.0 in
        let here : at ≡ offset = cc in
        let some = some_bytes n e (Err e) tt refl none in
        (some, here, (reports some).1 own.0)

some_plain : (n at : ℕ) (r : Result (Option ℕ) ImageError) → r ≡ Ok (Some at) → (n ≡ 0 → r ≡ Ok None) → 0 < n
some_plain zero at r is none = absurd (let no : Ok (Some at) ≡ Ok None = sym is ∙ none refl in let inner : Some at ≡ None = cc in cc)
some_plain (suc n) at r is none = omega arith

pub told_plainly : (known : Bytes) (offset n : ℕ) (r : Result (Option ℕ) ImageError) → (0 < n → IfOk r (λ at. at ≡ Some offset)) → (n ≡ 0 → r ≡ Ok None) → IfErr r MayFailToRead → (0 < n → ReportsWhether known offset r) → ReportsPlain known offset n r
told_plainly known offset n (Ok None) own none may_fail reports = own_offset offset n (Ok None) own none
told_plainly known offset n (Ok (Some at)) own none may_fail reports = let some = some_plain n at (Ok (Some at)) refl none in (some, own_offset offset n (Ok (Some at)) own none, reports some)
told_plainly known offset n (Err e) own none may_fail reports =
    let some = some_bytes n e (Err e) None refl none in
    refused_specially known offset n e (λ is. (some, reports some is)) (λ at is. absurd (subst MayFailToRead is may_fail))
