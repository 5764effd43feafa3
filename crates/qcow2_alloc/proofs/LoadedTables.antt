-- A table is loaded if it is readable, and otherwise refused for that.
use Rattle.std.proofs.Common.{◌≡◌, ◌+◌, ◌*◌, ◌<◌, ◌≤◌, ◌^◌, inl, inr, ℕ, List, Result, Err, sym, subst, arith}
use Rattle.qcow2_alloc.proofs.Common.{cases_lt, bytes_at, length-bytes_at, HeaderFields, EachReads, IsReasonNotToLoad, PassesLimit, SomeUnread, entry_at, MetadataError, of_metadata, EntriesRead, HasUnreadEntry, IsReasonAgainst}
use Rattle.image_access.specs.declared.error.StorageError.TheVariants as S
use Rattle.qcow2_metadata.specs.declared.error.MetadataError.TheVariants as M

-- the entries of a table that was loaded read
pub entries_read : (entries : ℕ) (bytes : List ℕ) (entry : ℕ → ℕ) (Reads : ℕ → Type 0) → EachReads Reads bytes → ((i : ℕ) → entry_at bytes i ≡ entry i) → EntriesRead entries (λ i. Reads (entry i))
entries_read entries bytes entry Reads reads is = λ i lt. subst Reads (is i) (reads i)

-- so many entries from a cluster on, where nothing passes a limit
module _ (greatest bits n cluster place entries : ℕ) (at : cluster * 2 ^ bits ≡ place) (few : entries ≤ greatest) where
  fits_or : PassesLimit greatest bits n cluster entries → 2 ^ 64 ≤ place + n
  fits_or passes = elim passes [ inl many ↦ absurd (omega (arith, many, few)) | inr end ↦ omega (arith, end, at) ]

  -- a load that isn't refused for that
  pub fits_so : {T : Type 0} (result : Result T MetadataError) → (PassesLimit greatest bits n cluster entries → result ≡ Err M.Limit) → (result ≡ Err M.Limit → ⊥) → place + n < 2 ^ 64
  fits_so result limit not = elim (cases_lt (place + n) (2 ^ 64)) [ inl below ↦ below | inr past ↦ absurd (not (limit (inr (omega (arith, past, at))))) ]

  -- an entry of it doesn't read
  unread_so : (contents : List ℕ) (entry : ℕ → ℕ) (Reads : ℕ → Type 0) → ((i : ℕ) → entry_at (bytes_at contents place (8 * entries)) i ≡ entry i) → SomeUnread Reads (bytes_at contents place (8 * entries)) → HasUnreadEntry entries (λ i. Reads (entry i))
  unread_so contents entry Reads is some = record {
    index = some.0;
    within = let long = length-bytes_at contents place (8 * entries) in let lt = some.1 in omega (arith, long, lt);
    unread = λ reads. some.2 (subst Reads (sym (is some.0)) reads);
  }

  -- why it isn't loaded, by the error that this becomes
  pub not_loaded : {T : Type 0} (h : HeaderFields) (contents : List ℕ) (entry : ℕ → ℕ) (Reads : ℕ → Type 0) → ((i : ℕ) → entry_at (bytes_at contents place (8 * entries)) i ≡ entry i) → (UnreadThere : Type 0) → (UnreadThere → SomeUnread Reads (bytes_at contents place (8 * entries)))
      → (Passes Unread : Type 0) → (2 ^ 64 ≤ place + n → Passes) → (place + n < 2 ^ 64 → HasUnreadEntry entries (λ i. Reads (entry i)) → Unread)
      → (e : MetadataError) → (PassesLimit greatest bits n cluster entries → (let r : Result T MetadataError = Err e in r ≡ Err M.Limit)) → IsReasonNotToLoad (PassesLimit greatest bits n cluster entries) UnreadThere e → IsReasonAgainst h place Passes Unread (of_metadata e)
  not_loaded h contents entry Reads is UnreadThere there Passes Unread past unread (M.Storage S.Fault) limit why = tt
  not_loaded h contents entry Reads is UnreadThere there Passes Unread past unread (M.Storage S.Memory) limit why = tt
  not_loaded h contents entry Reads is UnreadThere there Passes Unread past unread M.Memory limit why = tt
  not_loaded h contents entry Reads is UnreadThere there Passes Unread past unread M.Version limit why = absurd why
  not_loaded h contents entry Reads is UnreadThere there Passes Unread past unread M.Unaligned limit why = absurd why
  not_loaded h contents entry Reads is UnreadThere there Passes Unread past unread M.Limit limit why = past (fits_or why)
  not_loaded {T} h contents entry Reads is UnreadThere there Passes Unread past unread M.Format limit why = unread (fits_so {T = T} (Err M.Format) limit (λ e. absurd (cc e))) (unread_so contents entry Reads is (there why))
