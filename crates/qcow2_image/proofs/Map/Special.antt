-- A lookup finds a special range exactly if the guest cluster is compressed, also past the size.
use Rattle.std.proofs.Common.{◌≡◌, ◌/◌, inl, ℕ, Bool, true, false, refl, sym, ◌∙◌, subst, [], ap}
use Rattle.qcow2_image.proofs.Common.{Bytes, cover, header, cluster_size, HeaderFields, L2Mapping, Compressed, Uncovered, Refusal, AnsweredEffect, RefusedEffect, IsSame, storage, AbstractImage, Kind, special, kind_at, kind_in, IsCompressed, IsCompressedAt, IsSpecial, MappingKind, found_kind}
use Rattle.qcow2_image.specs.declared.mapping.MappingKind.TheVariants as M
use Rattle.qcow2_image.specs.SpecialReads.{is_special}

special_compressed : (h : HeaderFields) (b : Bool) (offset o : ℕ) (v : L2Mapping) → special o ≡ kind_at h b offset v → IsCompressed v
special_compressed h b offset o (Compressed place sectors) e = tt
special_compressed h true offset o Uncovered e = absurd cc
special_compressed h b offset o v e = absurd cc

compressed_special : (h : HeaderFields) (b : Bool) (offset : ℕ) (v : L2Mapping) → IsCompressed v → is_special (kind_at h b offset v) ≡ true
compressed_special h b offset (Compressed place sectors) is = refl
compressed_special h b offset v is = absurd is

-- the kind of compressed data
pub special_told : (kind : MappingKind) → IsSpecial kind → is_special (found_kind kind) ≡ true
special_told (M.Special o) is = refl
special_told kind is = absurd is

-- the kind that a compressed cluster is found as
compressed_kind : (h : HeaderFields) (beside b : Bool) (offset : ℕ) (v : L2Mapping) → IsCompressed v → is_special (kind_in h beside b offset v) ≡ true
compressed_kind h beside b offset (Compressed place sectors) is = refl
compressed_kind h beside b offset v is = absurd is

pub special_found : (h : HeaderFields) (beside b : Bool) (offset : ℕ) (v : L2Mapping) (kind : MappingKind) → found_kind kind ≡ kind_in h beside b offset v → IsCompressed v → IsSpecial kind
special_found h beside b offset v (M.Special o) found is = tt
special_found h beside b offset v kind found is = absurd (let no = ap is_special found ∙ compressed_kind h beside b offset v is in cc)

module _ (known : Bytes) (b : Bool) (offset : ℕ) where
  abbrev IsKindThere : Kind → Type 0
  IsKindThere kind = kind ≡ kind_at (header known) b offset (cover (header known) known (offset / cluster_size (header known)))

  -- it was found to be special
  pub found_special : (kind : Kind) → IsKindThere kind → is_special kind ≡ true → IsCompressedAt known offset
  found_special (special o) found is = special_compressed (header known) b offset o (cover (header known) known (offset / cluster_size (header known))) found
  found_special kind found is = absurd cc

  -- it wasn't
  pub found_plain : (kind : Kind) → IsKindThere kind → is_special kind ≡ false → IsCompressedAt known offset → ⊥
  found_plain kind found not is =
      let special : is_special kind ≡ true = subst (λ k. is_special k ≡ true) (sym found) (compressed_special (header known) b offset (cover (header known) known (offset / cluster_size (header known))) is) in
      let e : false ≡ true = sym not ∙ special in
      cc

-- such a kind
pub special_kind : (kind : MappingKind) → is_special (found_kind kind) ≡ true → IsSpecial kind
special_kind (M.Special o) is = tt
special_kind kind is = absurd cc

-- a call refuses by itself, after its work was done
pub refuses_after : {old new : AbstractImage} (e : Refusal) → (e ≡ storage → ⊥) → AnsweredEffect old new [] [] (IsSame old new) → RefusedEffect old new [] [] e (IsSame old new)
refuses_after e none d = record { acts = d.acts; answer = λ sound. inl (d.answer sound); fault = λ is. absurd (none is) }
