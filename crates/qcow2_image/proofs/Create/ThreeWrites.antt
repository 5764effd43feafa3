-- The refblock, the reftable and the header of a new image are written one after another: what a stop may leave on the way.
use Rattle.std.proofs.Common.{◌≡◌, ◌*◌, ◌/◌, ◌^◌, ◌≤◌, inl, inr, ℕ, List, [], Option, Result, Ok, Err, sym, ap, ◌∙◌, subst, arith}
use Rattle.qcow2_image.proofs.Common.{IfSome, OnOk, overwritten, StorageView, EachMomentSince, Changes, Calls, StorageError, passes_none, passes_on, passes_if, passes_change, Bytes, byte_at, HeaderFields, HeaderView, header, cluster_size, entries_per_cluster, IsHeaderIn, header_written, cover, host_offset, EntryTableView, guest_value, value_under, known_byte, RefBlockView, IsRefBlockAt, L2Mapping, Uncovered, disk, disk_with, IsNewImage, new_image_consistent, cover_none, l1_entry-past, ImageError, IsUnwritten, IsStopOfCreating, StaysCreating, IsNewHeader, CountsThree, NamesOne, IsThreeWith, WritesThree}
use Rattle.image_access.specs.declared.storage.PreallocateMode.TheVariants as Mode
use Rattle.qcow2_image.proofs.Create.FirstImage.{IsBlank, no_image, blank_still, is_new_image, three_with}

-- ---- a new image is unwritten
uncovered_shows : (h : HeaderFields) (b backing : Bytes) (o : ℕ) → cover h b (o / cluster_size h) ≡ Uncovered → guest_value h b b backing o ≡ known_byte (backing o)
unfolding guest_value
uncovered_shows h b backing o none = ap (λ (m : L2Mapping). value_under h b b backing o m) none

no_table_shows : (b backing : Bytes) (o : ℕ) → (header b).l1_entries ≡ 0 → (disk b backing).value o ≡ known_byte (backing o)
unfolding disk_with
no_table_shows b backing o none =
    let h = header b in
    uncovered_shows h b backing o (cover_none h b (o / cluster_size h) (ap host_offset (l1_entry-past h b (o / cluster_size h / entries_per_cluster h) (omega (arith, none)))))

pub new_unwritten : (h : HeaderFields) (b : Bytes) → IsNewImage h b → h.size ≡ 0 → IsUnwritten 0 b
new_unwritten h b new none = record {
  consistent = new_image_consistent h b new;
  size = ap (λ (k : HeaderFields). k.size) new.header_is ∙ none;
  shows_below = λ backing o. no_table_shows b backing o (ap (λ (k : HeaderFields). k.l1_entries) new.header_is ∙ new.no_l1_table.0);
}

-- ---- moments
pub stops_none : (n : ℕ) (v : StorageView) → v.is_honest → StaysCreating Mode.None n v v
stops_none n v honest = record { honest = honest; moments = passes_none v _ }

pub stops_write : {T : Type 0} (result : Result T StorageError) (n : ℕ) (start old new : StorageView) (change : List ℕ → List ℕ) → StaysCreating Mode.None n start old → Calls old new result → Changes old new result change → IsStopOfCreating Mode.None n (byte_at old.contents)
    → IsStopOfCreating Mode.None n (byte_at (change old.contents)) → StaysCreating Mode.None n start new
stops_write result n start old new change stops calls changes before after =
    record { honest = calls.honest stops.honest; moments = passes_change (λ c. IsStopOfCreating Mode.None n (byte_at c)) change stops.moments calls changes stops.honest before after }

module _ {S : Type 0} (view : S → StorageView) (v : HeaderView) (new : IsNewHeader v) (block : RefBlockView) (counts : CountsThree v.fields block) (t : EntryTableView) (names : NamesOne v.fields t)
    (start : S) (honest : (view start).is_honest) (empty : (view start).contents ≡ []) where
  abbrev h : HeaderFields
  h = v.fields

  large : 4 ≤ cluster_size v.fields
  large = omega (arith, new.names.room)

  blank : IsBlank (view start).contents
  blank i lt = ap (λ (l : List ℕ). byte_at l i) empty

  module _ (told s1 : S) (same : told ≡ start) (r1 : Result (Unit {0}) StorageError)
      (wrote : IfSome block.cluster (λ c. Changes (view told) (view s1) r1 (λ b. overwritten b (c * 2 ^ block.cluster_bits) block.bytes))) (called : Calls (view told) (view s1) r1) where
    abbrev c1 : List ℕ
    c1 = overwritten (view start).contents (2 * cluster_size v.fields) block.bytes

    writes_first : Changes (view start) (view s1) r1 (λ b. overwritten b (2 * cluster_size h) block.bytes)
    writes_first =
        subst (λ (s : S). Changes (view s) (view s1) r1 (λ b. overwritten b (2 * cluster_size h) block.bytes)) same
        (subst (λ n. Changes (view told) (view s1) r1 (λ b. overwritten b (2 * 2 ^ n) block.bytes)) counts.bits
        (subst (λ (k : Option ℕ). IfSome k (λ c. Changes (view told) (view s1) r1 (λ b. overwritten b (c * 2 ^ block.cluster_bits) block.bytes))) counts.cluster_is wrote))

    blank_first : IsBlank c1
    blank_first = blank_still (view start).contents (2 * cluster_size h) block.bytes (omega (arith, large)) blank

    pub stops_first : StaysCreating Mode.None 0 (view start) (view s1)
    stops_first =
        stops_write r1 0 (view start) (view start) (view s1) (λ b. overwritten b (2 * cluster_size h) block.bytes) (stops_none 0 (view start) honest) (subst (λ (s : S). Calls (view s) (view s1) r1) same called) writes_first (inl (no_image (view start).contents blank)) (inl (no_image c1 blank_first))

    module _ (x : Unit {0}) (done : r1 ≡ Ok x) (told' s2 : S) (same' : told' ≡ s1) (r2 : Result (Unit {0}) StorageError)
        (wrote' : IfSome t.cluster (λ c. Changes (view told') (view s2) r2 (λ b. overwritten b (c * 2 ^ t.cluster_bits) t.bytes))) (called' : Calls (view told') (view s2) r2) where
      first_is : (view s1).contents ≡ c1
      first_is = rw done at (writes_first honest)

      abbrev c2 : List ℕ
      c2 = overwritten (view s1).contents (cluster_size v.fields) t.bytes

      writes_second : Changes (view s1) (view s2) r2 (λ b. overwritten b (cluster_size h) t.bytes)
      writes_second =
          let once : 1 * cluster_size h ≡ cluster_size h = omega arith in
          subst (λ (s : S). Changes (view s) (view s2) r2 (λ b. overwritten b (cluster_size h) t.bytes)) same'
          (subst (λ n. Changes (view told') (view s2) r2 (λ b. overwritten b n t.bytes)) once
          (subst (λ n. Changes (view told') (view s2) r2 (λ b. overwritten b (1 * 2 ^ n) t.bytes)) names.bits
          (subst (λ (k : Option ℕ). IfSome k (λ c. Changes (view told') (view s2) r2 (λ b. overwritten b (c * 2 ^ t.cluster_bits) t.bytes))) names.cluster_is wrote')))

      blank_there : IsBlank (view s1).contents
      blank_there = subst IsBlank (sym first_is) blank_first

      blank_second : IsBlank c2
      blank_second = blank_still (view s1).contents (cluster_size h) t.bytes large blank_there

      pub stops_second : StaysCreating Mode.None 0 (view start) (view s2)
      stops_second = stops_write r2 0 (view start) (view s1) (view s2) (λ b. overwritten b (cluster_size h) t.bytes) stops_first (subst (λ (s : S). Calls (view s) (view s2) r2) same' called') writes_second (inl (no_image (view s1).contents blank_there)) (inl (no_image c2 blank_second))

      module _ (y : Unit {0}) (done' : r2 ≡ Ok y) (stands : (view told).is_honest → IfSome block.cluster (λ c. OnOk r1 (IsRefBlockAt (byte_at (view s1).contents) (c * 2 ^ block.cluster_bits) block)))
          (told'' s3 : S) (same'' : told'' ≡ s2) (r3 : Result (Unit {0}) StorageError) (wrote'' : Changes (view told'') (view s3) r3 (header_written v)) (called'' : Calls (view told'') (view s3) r3)
          (there : IsHeaderIn v (header_written v (view told'').contents)) where
        writes_third : Changes (view s2) (view s3) r3 (header_written v)
        writes_third = subst (λ (s : S). Changes (view s) (view s3) r3 (header_written v)) same'' wrote''

        there_second : IsHeaderIn v (header_written v (view s2).contents)
        there_second = subst (λ (s : S). IsHeaderIn v (header_written v (view s).contents)) same'' there

        second_is : (view s2).contents ≡ c2
        second_is = rw done' at (writes_second stops_first.honest)

        block_stands : IsRefBlockAt (byte_at (view s1).contents) (2 * cluster_size h) block
        block_stands =
            let here = stands (subst (λ (s : S). (view s).is_honest) (sym same) honest) in
            let two : OnOk r1 (IsRefBlockAt (byte_at (view s1).contents) (2 * 2 ^ block.cluster_bits) block) = subst (λ (k : Option ℕ). IfSome k (λ c. OnOk r1 (IsRefBlockAt (byte_at (view s1).contents) (c * 2 ^ block.cluster_bits) block))) counts.cluster_is here in
            subst (λ n. IsRefBlockAt (byte_at (view s1).contents) (2 * 2 ^ n) block) counts.bits (rw done at two)

        pub new_there : IsNewImage h (byte_at (header_written v (view s2).contents))
        new_there = is_new_image v new block counts t names (view s1).contents (view s2).contents block_stands second_is there_second

        pub stops_third : StaysCreating Mode.None 0 (view start) (view s3)
        stops_third =
            let none : h.size ≡ 0 = ap (λ (w : HeaderView). w.fields.size) new.is in
            stops_write r3 0 (view start) (view s2) (view s3) (header_written v) stops_second (subst (λ (s : S). Calls (view s) (view s3) r3) same'' called'') writes_third (inl (no_image (view s2).contents (subst IsBlank (sym second_is) blank_second)))
            (inr (inl (new_unwritten h (byte_at (header_written v (view s2).contents)) new_there none)))

        pub new_stands : (z : Unit {0}) → r3 ≡ Ok z → IsNewImage h (byte_at (view s3).contents)
        new_stands z done'' = let is = rw done'' at (writes_third stops_second.honest) in subst (λ (l : List ℕ). IsNewImage h (byte_at l)) (sym is) new_there

        pub three_there : (z : Unit {0}) → r3 ≡ Ok z → IsThreeWith v (view s3).contents
        three_there z done'' =
            let first : (view s1).contents ≡ overwritten [] (2 * cluster_size h) block.bytes = first_is ∙ ap (λ (l : List ℕ). overwritten l (2 * cluster_size h) block.bytes) empty in
            subst (λ (l : List ℕ). IsThreeWith v l) (sym (rw done'' at (writes_third stops_second.honest))) (three_with v new block counts t names (view s1).contents (view s2).contents first second_is)

-- ---- one part after another
pub stops_then : (n : ℕ) (old mid new : StorageView) → StaysCreating Mode.None n old mid → StaysCreating Mode.None n mid new → StaysCreating Mode.None n old new
stops_then n old mid new first then = record { honest = then.honest; moments = passes_on (λ c. IsStopOfCreating Mode.None n (byte_at c)) first.moments then.moments (λ c is. is) }

pub stops_cleared : (n : ℕ) (old new : StorageView) → new.is_honest → EachMomentSince old new (λ c. c ≡ []) → StaysCreating Mode.None n old new
stops_cleared n old new honest time = record { honest = honest; moments = passes_if (λ c. IsStopOfCreating Mode.None n (byte_at c)) (λ c none. inl (no_image c (λ i lt. ap (λ (l : List ℕ). byte_at l i) none))) time }

pub writes_then : (h : HeaderFields) (old mid new : StorageView) (r : Result (Unit {0}) ImageError) → StaysCreating Mode.None 0 old mid → WritesThree h mid new r → WritesThree h old new r
writes_then h old mid new (Ok x) first then = (stops_then 0 old mid new first then.0, then.1)
writes_then h old mid new (Err e) first then = stops_then 0 old mid new first then
