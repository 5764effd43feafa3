-- A header that was written with its names at their new offsets reads back.
use Rattle.std.proofs.Common.{◌≡◌, ◌≢◌, ◌+◌, ◌-◌, ◌^◌, ◌<◌, ◌≤◌, ◌∷◌, ◌++◌, if◌then◌else◌, ℕ, List, [], length, replicate, Option, Some, None, is_some, unwrap_or, refl, sym, ◌∙◌, subst, zero-add, arith, lit<}
use Rattle.qcow2_metadata.proofs.Common.{w32, w64, to_be_bytes, length-append, length-replicate, Four, Eight, Bytes, byte_at, number_at, HeaderFields, HeaderView, header, cluster_size, backing_name, backing_format_kind, data_file_kind, first_of_kind, behind_extension, rounded_up, IsInRange, IsWithinLimits, IsExtension, AreExtensions, BackingNameReads, IsHeaderOf, IsHeaderIn, numbers_of, bytes_of_numbers, AllFit, extension_bytes, name_extension, header_bytes, header_written, extension_size, name_place, HasNewNames, IsText}
use Rattle.qcow2_metadata.specs.declared.header.write.Number.{Number}
use Rattle.qcow2_metadata.proofs.ShortNames.{cluster_small}
use Rattle.qcow2_metadata.proofs.HeldBytes.{Holds, holds_written, holds_left, holds_right, held_4, held_8, held_bytes}

-- ---- the numbers
-- these numbers are at a place
abbrev AreNumbers : Bytes → ℕ → List Number → Type 0
AreNumbers b place [] = Unit {0}
AreNumbers b place (Four n ∷ rest) = (number_at b place 4 ≡ n) × AreNumbers b (place + 4) rest
AreNumbers b place (Eight n ∷ rest) = (number_at b place 8 ≡ n) × AreNumbers b (place + 8) rest

are_numbers : (b : Bytes) (numbers : List Number) (place : ℕ) → AllFit numbers → Holds b place (bytes_of_numbers numbers) → AreNumbers b place numbers
unfolding bytes_of_numbers
are_numbers b [] place fit holds = tt
are_numbers b (Four n ∷ rest) place fit holds =
    (held_4 b place n fit.0 (holds_left b place (to_be_bytes w32 n) (bytes_of_numbers rest) holds), are_numbers b rest (place + 4) fit.1 (holds_right b place (to_be_bytes w32 n) (bytes_of_numbers rest) holds))
are_numbers b (Eight n ∷ rest) place fit holds =
    (held_8 b place n fit.0 (holds_left b place (to_be_bytes w64 n) (bytes_of_numbers rest) holds), are_numbers b rest (place + 8) fit.1 (holds_right b place (to_be_bytes w64 n) (bytes_of_numbers rest) holds))

pub length-numbers : (h : HeaderFields) → length (bytes_of_numbers (numbers_of h)) ≡ 104
unfolding bytes_of_numbers numbers_of
length-numbers h = refl

fields_back : (b : Bytes) (h : HeaderFields) → h.version ≡ 3 → AreNumbers b 0 (numbers_of h) → header b ≡ h
unfolding header numbers_of
fields_back b h version is = grind arith

-- ---- the extensions
length-extension : (kind : ℕ) (name : List ℕ) → length (extension_bytes kind name) ≡ 8 + rounded_up 8 (length name)
unfolding extension_bytes bytes_of_numbers
length-extension kind name =
    let front : List ℕ = bytes_of_numbers (Four kind ∷ Four (length name) ∷ []) in
    omega (arith, length-append (front ++ name) (replicate (rounded_up 8 (length name) - length name) 0), length-append front name, length-replicate {A = ℕ} (rounded_up 8 (length name) - length name) 0)

pub length-name_extension : (kind : ℕ) (name : Option (List ℕ)) → length (name_extension kind name) ≡ extension_size name
length-name_extension kind None = refl
length-name_extension kind (Some name) = length-extension kind name

extension_back : (b : Bytes) (limit place kind : ℕ) (name : List ℕ) → kind ≢ 0 → kind < 2 ^ 32 → length name < 2 ^ 32 → place + 8 + length name ≤ limit
    → Holds b place (extension_bytes kind name) → IsExtension b limit place (kind, name)
unfolding extension_bytes bytes_of_numbers
extension_back b limit place kind name some fits short inside holds =
    let first : List ℕ = to_be_bytes w32 kind in
    let second : List ℕ = to_be_bytes w32 (length name) in
    let zeros : List ℕ = replicate (rounded_up 8 (length name) - length name) 0 in
    let front = holds_left b place (first ++ second ++ name) zeros holds in
    let numbers = holds_left b place (first ++ second) name front in
    let behind : place + length (first ++ second) ≡ place + 8 = refl in
    record {
      not_the_end = some;
      kind = held_4 b place kind fits (holds_left b place first second numbers);
      size = held_4 b (place + 4) (length name) short (holds_right b place first second numbers);
      bytes = held_bytes b (place + 8) name (holds_right b place (first ++ second) name front);
      inside = inside;
    }

abbrev named_list : ℕ → Option (List ℕ) → List (ℕ × List ℕ) → List (ℕ × List ℕ)
named_list kind None rest = rest
named_list kind (Some name) rest = (kind, name) ∷ rest

name_back : (b : Bytes) (limit place kind : ℕ) (name : Option (List ℕ)) (rest : List (ℕ × List ℕ)) → kind ≢ 0 → kind < 2 ^ 32 → limit ≤ 2097152 → place + extension_size name ≤ limit
    → IsText name → Holds b place (name_extension kind name) → AreExtensions b limit (place + extension_size name) rest → AreExtensions b limit place (named_list kind name rest)
name_back b limit place kind None rest some fits small inside text holds stand = let here : place + 0 ≡ place = omega arith in subst (λ p. AreExtensions b limit p rest) here stand
name_back b limit place kind (Some name) rest some fits small inside text holds stand =
    let next : place + (8 + rounded_up 8 (length name)) ≡ behind_extension place (length name) = omega arith in
    (extension_back b limit place kind name some fits (omega arith) (omega arith) holds, λ _. text, subst (λ p. AreExtensions b limit p rest) next stand)

end_back : (b : Bytes) (limit place : ℕ) → place + 8 ≤ limit → Holds b place (replicate 8 0) → AreExtensions b limit place []
end_back b limit place fits holds = (fits, held_4 b place 0 (lit< tt) (holds_left b place (replicate 4 0) (replicate 4 0) holds))

format_first : (format data_file : Option (List ℕ)) → format ≡ first_of_kind backing_format_kind (named_list backing_format_kind format (named_list data_file_kind data_file []))
format_first None None = refl
format_first _ _ = refl

data_file_first : (format data_file : Option (List ℕ)) → data_file ≡ first_of_kind data_file_kind (named_list backing_format_kind format (named_list data_file_kind data_file []))
data_file_first None None = refl
data_file_first None (Some d) = refl
data_file_first (Some f) None = refl
data_file_first (Some f) (Some d) = refl

-- ---- the name of the backing file
backing_back : (b : Bytes) (h : HeaderFields) (place : ℕ) (name : Option (List ℕ)) → h.backing_offset ≡ (if is_some name then place else 0) → h.backing_length ≡ length (unwrap_or name [])
    → place + length (unwrap_or name []) ≤ cluster_size h → h.header_length ≤ place → 0 < place → IsText name → Holds b place (unwrap_or name []) → BackingNameReads h b × (name ≡ backing_name h b)
unfolding backing_name
backing_back b h place None offset len room behind some text holds = grind arith
backing_back b h place (Some name) offset len room behind some text holds = grind (arith, held_bytes)

-- ---- the whole
record Pieces (b : Bytes) (v : HeaderView) : Type 0 where
  numbers : Holds b 0 (bytes_of_numbers (numbers_of v.fields))
  format : Holds b 104 (name_extension backing_format_kind v.backing_format)
  data_file : Holds b (104 + extension_size v.backing_format) (name_extension data_file_kind v.data_file_name)
  ending : Holds b (104 + extension_size v.backing_format + extension_size v.data_file_name) (replicate 8 0)
  name : Holds b (name_place v.backing_format v.data_file_name) (unwrap_or v.backing_name [])

pieces : (b : Bytes) (v : HeaderView) → Holds b 0 (header_bytes v) → Pieces b v
unfolding header_bytes
pieces b v holds =
    let n : List ℕ = bytes_of_numbers (numbers_of v.fields) in
    let f : List ℕ = name_extension backing_format_kind v.backing_format in
    let d : List ℕ = name_extension data_file_kind v.data_file_name in
    let z : List ℕ = replicate 8 0 in
    let t : List ℕ = unwrap_or v.backing_name [] in
    let to_z = holds_left b 0 (n ++ f ++ d ++ z) t holds in
    let to_d = holds_left b 0 (n ++ f ++ d) z to_z in
    let to_f = holds_left b 0 (n ++ f) d to_d in
    let n_len = length-numbers v.fields in
    let f_len : length (n ++ f) ≡ 104 + extension_size v.backing_format = omega (arith, length-append n f, n_len, length-name_extension backing_format_kind v.backing_format) in
    let d_len : length (n ++ f ++ d) ≡ 104 + extension_size v.backing_format + extension_size v.data_file_name = omega (arith, length-append (n ++ f) d, f_len, length-name_extension data_file_kind v.data_file_name) in
    let z_len : length (n ++ f ++ d ++ z) ≡ name_place v.backing_format v.data_file_name = omega (arith, length-append (n ++ f ++ d) z, d_len) in
    record {
      numbers = holds_left b 0 n f to_f;
      format = subst (λ p. Holds b p f) (zero-add (length n) ∙ n_len) (holds_right b 0 n f to_f);
      data_file = subst (λ p. Holds b p d) (zero-add (length (n ++ f)) ∙ f_len) (holds_right b 0 (n ++ f) d to_d);
      ending = subst (λ p. Holds b p z) (zero-add (length (n ++ f ++ d)) ∙ d_len) (holds_right b 0 (n ++ f ++ d) z to_z);
      name = subst (λ p. Holds b p t) (zero-add (length (n ++ f ++ d ++ z)) ∙ z_len) (holds_right b 0 (n ++ f ++ d ++ z) t holds);
    }

pub reads_back : (v : HeaderView) (contents : List ℕ) → AllFit (numbers_of v.fields) → IsInRange v.fields → IsWithinLimits v.fields
    → IsText v.backing_name → IsText v.backing_format → IsText v.data_file_name → HasNewNames v → IsHeaderIn v (header_written v contents)
reads_back v contents fit in_range limits name_text format_text data_file_text new =
    let b : Bytes = byte_at (header_written v contents) in
    let at = pieces b v (holds_written contents 0 (header_bytes v)) in
    let small = cluster_small v.fields in_range in
    let limit : ℕ = cluster_size v.fields in
    let place : ℕ = name_place v.backing_format v.data_file_name in
    let list : List (ℕ × List ℕ) = named_list backing_format_kind v.backing_format (named_list data_file_kind v.data_file_name []) in
    let ending = end_back b limit (104 + extension_size v.backing_format + extension_size v.data_file_name) (omega (arith, new.room)) at.ending in
    let data_file = name_back b limit (104 + extension_size v.backing_format) data_file_kind v.data_file_name [] (λ none. omega arith) (lit< tt) small (omega (arith, new.room)) data_file_text at.data_file ending in
    let format = name_back b limit 104 backing_format_kind v.backing_format (named_list data_file_kind v.data_file_name []) (λ none. omega arith) (lit< tt) small (omega (arith, new.room)) format_text at.format data_file in
    let backing = backing_back b v.fields place v.backing_name new.backing_offset new.backing_length new.room (omega (arith, new.header_length)) (omega arith) name_text at.name in
    let fields : header b ≡ v.fields = fields_back b v.fields new.version (are_numbers b (numbers_of v.fields) 0 fit at.numbers) in
    subst (λ h. IsHeaderOf v h b) (sym fields)
    record {
      fields = refl;
      reads = record {
        well_formed = record {
          in_range = in_range;
          extensions = record { list = list; stand = subst (λ p. AreExtensions b limit p list) (sym new.header_length) format };
          backing_name = backing.0;
        };
        within_limits = limits;
      };
      backing_name = backing.1;
      backing_format = format_first v.backing_format v.data_file_name;
      data_file_name = data_file_first v.backing_format v.data_file_name;
    }
