-- A walk over the extensions of a header.
use Rattle.std.proofs.Common.{◌≡◌, ◌≢◌, ◌+◌, ◌<◌, ◌≤◌, ◌∷◌, ℕ, List, [], length, get_or, take, drop, Option, Some, None, refl, sym, ap, ◌∙◌, subst, ⊎_elim, arith}
use Rattle.qcow2_metadata.proofs.Common.{length-take, length-drop, get_or-take, get_or-drop, ext_get_or, length-map-range_with_len, get_or-map-range_with_len, Bytes, byte_at, bytes_from, number_at, IsUtf8, IsExtension, AreExtensions, ExtensionsRead, IsNameKind, behind_extension, first_of_kind, backing_format_kind, data_file_kind, first_so_far, AreNamed}

-- no extension and no end begins where less than eight bytes are left
pub stand_no_room : (b : Bytes) (limit place : ℕ) → limit < place + 8 → (list : List (ℕ × List ℕ)) → AreExtensions b limit place list → ⊥
stand_no_room b limit place past [] stand = omega (arith, stand.0)
stand_no_room b limit place past (e ∷ rest) stand = omega (arith, stand.0.inside)

-- nor one whose data pass the limit
pub stand_past : (b : Bytes) (limit place : ℕ) → number_at b place 4 ≢ 0 → limit < place + 8 + number_at b (place + 4) 4 → (list : List (ℕ × List ℕ)) → AreExtensions b limit place list → ⊥
stand_past b limit place some past [] stand = some stand.1
stand_past b limit place some past (e ∷ rest) stand = omega (arith, stand.0.size, stand.0.inside)

-- a part that is cut out of the bytes
pub bytes_from-part : (bytes part : List ℕ) (place n : ℕ) → part ≡ take n (drop place bytes) → place + n ≤ length bytes → bytes_from (byte_at bytes) place (length part) ≡ part
bytes_from-part bytes part place n is fits =
    let len : length part ≡ n = ap length is ∙ omega (arith, length-take n (drop place bytes), length-drop place bytes) in
    let all : length (bytes_from (byte_at bytes) place (length part)) ≡ length part = length-map-range_with_len (byte_at bytes) place (length part) in
    ext_get_or 0 _ _ all (λ i lt.
    get_or-map-range_with_len (byte_at bytes) place (length part) i (place + i) 0 (omega (arith, all)) refl
    ∙ sym (ap (λ (l : List ℕ). get_or l i 0) is ∙ get_or-take n (drop place bytes) i 0 (omega (arith, all, len)) ∙ get_or-drop place bytes i 0))

-- what a step of the walk found is an extension
pub found : (bytes : List ℕ) (place kind n m : ℕ) → kind ≢ 0 → kind ≡ number_at (byte_at bytes) place 4 → n ≡ number_at (byte_at bytes) (place + 4) 4 → m ≡ n → place + 8 + n ≤ length bytes
    → IsExtension (byte_at bytes) (length bytes) place (kind, take m (drop (place + 8) bytes))
found bytes place kind n m some is_kind is_size same fits = grind (arith, length-take, length-drop, bytes_from-part)

-- what was read from the start up to a place: extensions from there on complete it, and none else do
pub record IsReadSoFar (b : Bytes) (limit start place : ℕ) (format data_file : Option (List ℕ)) : Type 0 where
  pub on : (rest : List (ℕ × List ℕ)) → AreExtensions b limit place rest
      → (list : List (ℕ × List ℕ)) × AreExtensions b limit start list
      × (first_of_kind backing_format_kind list ≡ first_so_far backing_format_kind format rest)
      × (first_of_kind data_file_kind list ≡ first_so_far data_file_kind data_file rest)
  pub back : ExtensionsRead b limit start → ExtensionsRead b limit place

more_so_far : (kind : ℕ) (so_far name : Option (List ℕ)) (e : ℕ × List ℕ) (rest : List (ℕ × List ℕ))
    → name ≡ first_so_far kind so_far (e ∷ []) → first_so_far kind so_far (e ∷ rest) ≡ first_so_far kind name rest
more_so_far kind (Some x) name e rest is = sym (ap (λ n. first_so_far kind n rest) is)
more_so_far kind None name e rest is = grind arith

-- The extensions from a place on begin with the one that was found there.
rest_of : (b : Bytes) (limit place : ℕ) (e : ℕ × List ℕ) → IsExtension b limit place e → ExtensionsRead b limit place
    → (IsNameKind e.0 → IsUtf8 e.1) × ExtensionsRead b limit (behind_extension place (length e.1))
rest_of b limit place e here reads = of_list reads.list reads.stand where
  of_list : (list : List (ℕ × List ℕ)) → AreExtensions b limit place list → (IsNameKind e.0 → IsUtf8 e.1) × ExtensionsRead b limit (behind_extension place (length e.1))
  of_list [] stand = absurd (here.not_the_end (sym here.kind ∙ stand.1))
  of_list (f ∷ rest) stand =
      let len : length f.1 ≡ length e.1 = sym stand.0.size ∙ here.size in
      let kind : f.0 ≡ e.0 = sym stand.0.kind ∙ here.kind in
      let bytes : f.1 ≡ e.1 = sym stand.0.bytes ∙ ap (bytes_from b (place + 8)) len ∙ here.bytes in (
        λ (name : IsNameKind e.0). subst IsUtf8 bytes (stand.1 (subst IsNameKind (sym kind) name)),
        record { list = rest; stand = subst (λ n. AreExtensions b limit (behind_extension place n) rest) len stand.2 },
      )

-- the text of an extension of the kind of a name, where the extensions read
pub text_of : (b : Bytes) (limit start place : ℕ) (format data_file : Option (List ℕ)) (e : ℕ × List ℕ) → IsReadSoFar b limit start place format data_file → IsExtension b limit place e
    → ExtensionsRead b limit start → IsNameKind e.0 → IsUtf8 e.1
text_of b limit start place format data_file e so_far here reads = (rest_of b limit place e here (so_far.back reads)).0

pub read_more : (b : Bytes) (limit start place next : ℕ) (format data_file format' data_file' : Option (List ℕ)) (e : ℕ × List ℕ)
    → IsReadSoFar b limit start place format data_file → IsExtension b limit place e → next ≡ behind_extension place (length e.1)
    → (e.0 ≡ backing_format_kind → IsUtf8 e.1) → (e.0 ≡ data_file_kind → IsUtf8 e.1)
    → format' ≡ first_so_far backing_format_kind format (e ∷ []) → data_file' ≡ first_so_far data_file_kind data_file (e ∷ [])
    → IsReadSoFar b limit start next format' data_file'
read_more b limit start place next format data_file format' data_file' e so_far here is_next format_text data_file_text format_is data_file_is = record {
  on = λ rest stand.
      let all = so_far.on (e ∷ rest) (here, ⊎_elim format_text data_file_text, subst (λ n. AreExtensions b limit n rest) is_next stand) in
      (all.0, all.1, all.2 ∙ more_so_far backing_format_kind format format' e rest format_is, all.3 ∙ more_so_far data_file_kind data_file data_file' e rest data_file_is);
  back = λ reads. subst (ExtensionsRead b limit) (sym is_next) (rest_of b limit place e here (so_far.back reads)).1;
}

-- the walk reached the end
pub read_to_end : (b : Bytes) (limit start place : ℕ) (format data_file : Option (List ℕ)) → IsReadSoFar b limit start place format data_file → AreExtensions b limit place []
    → AreNamed b limit start format data_file
read_to_end b limit start place format data_file so_far stand =
    let all = so_far.on [] stand in
    record {
      reads = record { list = all.0; stand = all.1 };
      backing_format = sym (all.2 ∙ at_end backing_format_kind format);
      data_file_name = sym (all.3 ∙ at_end data_file_kind data_file);
    }
  where
    at_end : (kind : ℕ) (name : Option (List ℕ)) → first_so_far kind name [] ≡ name
    at_end kind None = refl
    at_end kind (Some x) = refl

-- a name that is cut out of the bytes
pub name_part : (bytes : List ℕ) (place n m : ℕ) → m ≡ n → place + n ≤ length bytes → bytes_from (byte_at bytes) place n ≡ take m (drop place bytes)
name_part bytes place n m same fits =
    let part : List ℕ = take m (drop place bytes) in
    let len : length part ≡ n = omega (arith, length-take m (drop place bytes), length-drop place bytes) in
    ap (bytes_from (byte_at bytes) place) (sym len) ∙ bytes_from-part bytes part place m refl (omega arith)
