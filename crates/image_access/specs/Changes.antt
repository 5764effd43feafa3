-- Changes of a storage's contents, one after another.
use Rattle.std.specs.Prelude.{◌≡◌, ℕ, ◌-◌, ◌≤◌, List, [], ◌∷◌, length, take, nat_eq, if◌then◌else◌, Option, Some, None, is_some}
use Rattle.std.specs.List.{filter_map}
use Rattle.std.proofs.Common.{◌∙◌, sym, ap, arith}
use Rattle.std.proofs.lemmas.List.{take_all}
use Rattle.image_access.specs.Contents.{overwritten, resized, zeroed}
use Rattle.image_access.specs.declared.change.Change.{Change}
use Rattle.image_access.specs.declared.change.Change.TheVariants.{Write, Zeroes, Resize}

-- The contents after one change.
abbrev pub applied : List ℕ → Change → List ℕ
applied contents (Write at bytes) = overwritten contents at bytes
applied contents (Zeroes at count) = zeroed contents at count
applied contents (Resize size) = resized contents size

-- The contents after all changes.
abbrev pub replayed : List ℕ → List Change → List ℕ
replayed contents [] = contents
replayed contents (change ∷ changes) = replayed (applied contents change) changes

-- The contents after some number of changes, at least t.
pub record HadSince (start : List ℕ) (changes : List Change) (t : ℕ) (contents : List ℕ) : Type 0 where
  pub count : ℕ
  pub from : t ≤ count
  pub up_to : count ≤ length changes
  pub is : contents ≡ replayed start (take count changes)

pub counts_all : (start : List ℕ) (changes : List Change) (t : ℕ) → t ≤ length changes → HadSince start changes t (replayed start changes)
counts_all start changes t le = record {
  count = length changes;
  from = le;
  up_to = omega arith;
  is = ap (replayed start) (sym (take_all (length changes) changes (omega arith)));
}

pub only_all : (start : List ℕ) (changes : List Change) (contents : List ℕ) → HadSince start changes (length changes) contents → contents ≡ replayed start changes
only_all start changes contents had = had.is ∙ ap (replayed start) (take_all had.count changes had.from)

-- The offset of a write or zeroing, none for a resize.
abbrev pub write_offset : Change → Option ℕ
write_offset (Write at bytes) = Some at
write_offset (Zeroes at count) = Some at
write_offset (Resize size) = None

-- The offsets of the writes and zeroings, in their order.
abbrev pub write_offsets : List Change → List ℕ
write_offsets changes = filter_map write_offset changes

-- The changes up to and including the n-th write or zeroing; all changes if there are fewer.
abbrev pub up_to_write : ℕ → List Change → List Change
up_to_write n [] = []
up_to_write n (change ∷ changes) = if nat_eq n 0 then [] else change ∷ up_to_write (if is_some (write_offset change) then n - 1 else n) changes
