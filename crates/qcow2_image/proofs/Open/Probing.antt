-- The first eight bytes of a storage, as two numbers.
use Rattle.std.proofs.Common.{◌≡◌, ◌≢◌, ◌+◌, ◌*◌, ◌<◌, ◌==◌, ◌&&◌, ◌||◌, ℕ, Bool, List, get_or, sym, ap, ◌∙◌, arith, lit<}
use Rattle.qcow2_image.proofs.Common.{eq-eqb, ne_eqb, bytes_at, byte_at-bytes_at, byte_at, number_at, begins_image}

module _ (contents buf : List ℕ) (read : buf ≡ bytes_at contents 0 8) where
  at : (i : ℕ) → i < 8 → get_or buf i 0 ≡ byte_at contents i
  at i lt = let e : 0 + i ≡ i = omega arith in ap (λ l. byte_at l i) read ∙ byte_at-bytes_at contents 0 8 i lt ∙ ap (byte_at contents) e

  pub magic_at : get_or buf 0 0 * 16777216 + get_or buf 1 0 * 65536 + get_or buf 2 0 * 256 + get_or buf 3 0 ≡ number_at (byte_at contents) 0 4
  unfolding number_at
  magic_at = omega (arith, at 0 (lit< tt), at 1 (lit< tt), at 2 (lit< tt), at 3 (lit< tt))

  pub version_at : get_or buf 4 0 * 16777216 + get_or buf 5 0 * 65536 + get_or buf 6 0 * 256 + get_or buf 7 0 ≡ number_at (byte_at contents) 4 4
  unfolding number_at
  version_at = omega (arith, at 4 (lit< tt), at 5 (lit< tt), at 6 (lit< tt), at 7 (lit< tt))

  pub begins_as : (magic version : ℕ) → magic ≡ number_at (byte_at contents) 0 4 → version ≡ number_at (byte_at contents) 4 4
      → begins_image (byte_at contents) ≡ ((magic == 0x514649fb) && (version == 2 || version == 3))
  begins_as magic version is_magic is_version = ap (λ m. (m == 0x514649fb) && (number_at (byte_at contents) 4 4 == 2 || number_at (byte_at contents) 4 4 == 3)) (sym is_magic) ∙ ap (λ v. (magic == 0x514649fb) && (v == 2 || v == 3)) (sym is_version)

pub either_version : (r : Bool) (m n v : ℕ) → m ≡ n → v ≡ 2 → r ≡ (v == 2) → r ≡ ((m == n) && (v == 2 || v == 3))
either_version r m n v is is' e =
    let two = eq-eqb v 2 is' in
    e ∙ sym (ap (λ x. x && (v == 2 || v == 3)) (eq-eqb m n is) ∙ ap (λ x. x || (v == 3)) two ∙ sym two)

pub other_version : (r : Bool) (m n v : ℕ) → m ≡ n → v ≢ 2 → r ≡ (v == 3) → r ≡ ((m == n) && (v == 2 || v == 3))
other_version r m n v is other e = e ∙ sym (ap (λ x. x && (v == 2 || v == 3)) (eq-eqb m n is) ∙ ap (λ x. x || (v == 3)) (ne_eqb v 2 other))

pub no_magic : (r b : Bool) (m n : ℕ) → m ≢ n → r ≡ (m == n) → r ≡ ((m == n) && b)
no_magic r b m n other e = let none = ne_eqb m n other in e ∙ none ∙ sym (ap (λ x. x && b) none)
