-- A raw disk that is copied piece by piece.
use Rattle.std.proofs.Common.{◌≡◌, ◌+◌, ◌-◌, ◌<◌, inl, inr, ℕ, max, List, length, ap, subst, sym, ◌∙◌, arith}
use Rattle.program_parts.proofs.Common.{cases_lt, byte_at-bytes_at, byte_at-overwritten, byte_at-overwritten_below, length-bytes_at, length-overwritten, length-resized, same_contents, StorageView, CopiesFrom, IsCopiedUpTo, KeepsBoth}
use Rattle.image_access.specs.Contents.{bytes_at, overwritten, resized, stored_byte}

-- one piece more
pub copied_more : (raw copy : List ℕ) (at n : ℕ) → 0 < n → IsCopiedUpTo at raw copy → IsCopiedUpTo (at + n) raw (overwritten copy at (bytes_at raw at n))
copied_more raw copy at n some so_far =
    let piece = bytes_at raw at n in
    let many : length piece ≡ n = length-bytes_at raw at n in
    let filled : 0 < length piece = omega (arith, some, many) in
    record {
      long = length-overwritten copy at piece filled ∙ ap (λ k. max k (at + length piece)) so_far.long ∙ ap (λ k. max at (at + k)) many ∙ omega arith;
      same = λ o lt. elim (cases_lt o at) [
        | inl below ↦ byte_at-overwritten_below copy at piece o below ∙ so_far.same o below
        | inr past ↦
            let place : at + (o - at) ≡ o = omega (arith, past) in
            let inside : o - at < n = omega (arith, past, lt) in
            let inside_piece : o - at < length piece = omega (arith, inside, many) in
            ap (stored_byte (overwritten copy at piece)) (sym place) ∙ byte_at-overwritten copy at piece (o - at) inside_piece ∙ byte_at-bytes_at raw at n (o - at) inside ∙ ap (stored_byte raw) place
      ];
    }

-- all of it
pub copied_all : (raw copy : List ℕ) → IsCopiedUpTo (length raw) raw copy → copy ≡ raw
copied_all raw copy all = same_contents copy raw all.long (λ o lt. all.same o (omega (arith, lt, all.long)))

-- so it is of a piece that was read of a raw disk which is as it was at first
pub copied_piece : (first raw : StorageView) (copy copy' : List ℕ) (at count n : ℕ) → count ≡ n → 0 < n → raw.contents ≡ first.contents → IsCopiedUpTo at first.contents copy
    → copy' ≡ overwritten copy at (bytes_at raw.contents at count) → IsCopiedUpTo (at + n) first.contents copy'
copied_piece first raw copy copy' at count n long some same so_far is =
    let wrote : copy' ≡ overwritten copy at (bytes_at first.contents at n) = is ∙ ap (λ k. overwritten copy at (bytes_at raw.contents at k)) long ∙ ap (λ b. overwritten copy at (bytes_at b at n)) same in
    subst (IsCopiedUpTo (at + n) first.contents) (sym wrote) (copied_more first.contents copy at n some so_far)

-- ---- one call after another

pub keeps_more : (a b c d e f : StorageView) → KeepsBoth a b d e → KeepsBoth b c e f → KeepsBoth a c d f
keeps_more a b c d e f first second = record {
  raw_left = λ honest. let one = first.raw_left honest in let two = second.raw_left one.0 in (two.0, two.1 ∙ one.1);
  honest = λ honest. second.honest (first.honest honest);
}

-- a call of the raw disk alone, or of the copy alone
pub keeps_raw : (a b d : StorageView) → (a.is_honest → b.is_honest) → (a.is_honest → b.contents ≡ a.contents) → KeepsBoth a b d d
keeps_raw a b d honest same = record { raw_left = λ h. (honest h, same h); honest = λ h. h }

-- both, one after the other
pub keeps_resized : (a b d e : StorageView) → (a.is_honest → b.is_honest) → (a.is_honest → b.contents ≡ a.contents) → (d.is_honest → e.is_honest) → KeepsBoth a b d e
keeps_resized a b d e honest same other = record { raw_left = λ h. (honest h, same h); honest = other }

-- and a call of the copy behind them
pub keeps_then : (a b c d e f g : StorageView) → KeepsBoth a b d e → KeepsBoth b c e f → (f.is_honest → g.is_honest) → KeepsBoth a c d g
keeps_then a b c d e f g first second last = let both = keeps_more a b c d e f first second in record { raw_left = both.raw_left; honest = λ h. last (both.honest h) }

-- all of a raw disk was copied to one that was emptied
pub copied_from : (raw raw' old cut full new : List ℕ) (n : ℕ) → n ≡ length raw → raw' ≡ raw → cut ≡ resized old 0 → (length cut ≡ 0 → IsCopiedUpTo n raw' full) → new ≡ full → CopiesFrom raw new n
copied_from raw raw' old cut full new n count same empty copied last =
    let none : length cut ≡ 0 = ap length empty ∙ length-resized old 0 in
    let all : IsCopiedUpTo (length raw) raw full = subst (λ k. IsCopiedUpTo k raw full) count (subst (λ b. IsCopiedUpTo n b full) same (copied none)) in
    record { count = count; same = last ∙ copied_all raw full all }
