-- The first bytes of a range are filled: a mapping is prepared, zeros are written into it, and it is committed.
use Rattle.std.proofs.Math.Nat.{mul-le-mul_right}
use Rattle.qcow2_image.proofs.Common.{IsNone, slice_get, slice_set, cases_lt, length-replicate, div-add-mod', div-mul-add, mod_below, pow_pos, BackingView, overwritten, StorageView, EachMomentSince, IsLeftBy, entry_count, Bytes, HeaderFields, cover, cluster_size, Setting, guest_of, AreDataAt, IsDataAt, EffectOnSound, with_slot, given_by_commit, is_copied_data, works_then, ImageError, ImageStorage, contents_in, known_in, view_in, storage_of, Qcow2, Prepared, AreCopied, EntersAll, IsEntered, IsReadied, IsWriteOutcome, PutsPart, RefusedCall, StaysBeside, WritesBytes, Discards, ReleasesOneMapping, InPlace, ImageInvariant, IsPending, IsReadyWith, cluster_of, abstract_of, disk_of, image_abstraction, meaning, pending_in, ReachingStays, KeepsL1Place, MovesTables, ChangesFree, FilledCovers, CommitsWhole, FillsPart, FillsSome, InterruptedGiving, given_by_zeros, file_sizes, IsUnderMapping, l1_index_of, IsAnswered, Mappings, abstraction_at, set_slot}
use Rattle.std.proofs.Common.{◌≡◌, ◌⊎◌, ◌+◌, ◌-◌, ◌*◌, ◌/◌, ◌%◌, ◌^◌, ◌<◌, ◌≤◌, ◌∷◌, ⊎_elim, inl, inr, ℕ, min, true, false, Bool, List, [], length, refl, sym, ap, ◌∙◌, subst, arith, IsSome, replicate, Option, Some, None, Result, Ok, Err, pow_mono}
use Rattle.qcow2_alloc.specs.declared.error.ImageError.TheVariants as I
use Rattle.qcow2_alloc.specs.ImageError.{IsFault as FaultOfTables}
use Rattle.qcow2_image.specs.Preallocation.{Touches}
use Rattle.qcow2_image.proofs.Lemmas.{under_after, data_moved, get_set_same, set_set, set_slot_set, free_places, data_inside, boundary, covers_own, index_moved, place_same, reaching_stays, given_broken, filled_shows, filled_sound, filled_works, gone_same, gone_works, none_of, never_two, same_row, may_none, zeros_of, never_private}
use Rattle.qcow2_image.proofs.Commit.CommitCalls.{all_shown, commit_existing}
use Rattle.qcow2_image.proofs.Commit.Copied.{stands_entered, stands_released}
use Rattle.qcow2_image.proofs.Write.Hosted.{hosts_behind_header}
use Rattle.qcow2_image.proofs.Write.PutParts.{puts_covers, puts_written}
use Rattle.qcow2_image.proofs.Images.Places.{put_first}
use Rattle.qcow2_image.specs.declared.mapping.Place.{Place}

-- ---- numbers
-- a mapping isn't longer than was asked for, where that ends with a cluster or is a cluster at least
pub piece_fits : (cs from to most n len : ℕ) → 0 < cs → to % cs ≡ 0 → from < to → cs ≤ most → n ≡ min most (to - from) → (n < len → len ≡ cs - from % cs) → len ≤ n
piece_fits cs from to most n len some whole lt large is long = elim (cases_lt n len) [
  | inr within ↦ within
  | inl past ↦
      let l = long past in
      let e = boundary cs from to some whole lt in
      absurd (omega (arith, l, e, past, large, is, lt))
]

-- a byte of a range that lies in a cluster
record Hits (cs from n g : ℕ) : Type 0 where
  index : ℕ
  within : index < n
  here : (from + index) / cs ≡ g

byte_in : (cs : ℕ) → 0 < cs → (from n g : ℕ) → from < g * cs + cs → g * cs < from + n → 0 < n → Hits cs from n g
byte_in cs some from n g low high more = elim (cases_lt from (g * cs)) [
  | inl before ↦
      let at : from + (g * cs - from) ≡ g * cs + 0 = omega (arith, before) in
      record { index = g * cs - from; within = omega (arith, before, high); here = ap (λ x. x / cs) at ∙ div-mul-add g cs 0 some }
  | inr behind ↦
      let at : from + 0 ≡ g * cs + (from - g * cs) = omega (arith, behind) in
      record { index = 0; within = more; here = ap (λ x. x / cs) at ∙ div-mul-add g cs (from - g * cs) (omega (arith, low, behind)) }
]

-- how long a mapping is that is longer than was asked for
by_table : (table : Option ℕ) (n len rest : ℕ) → (IsNone table → len ≡ n) → (IsSome table → n < len → len ≡ rest) → n < len → len ≡ rest
by_table None n len rest none some past = let all = none refl in absurd (omega (arith, all, past))
by_table (Some t) n len rest none some past = some refl past

-- a cluster that a mapping touches has one of its cluster mappings
touched_mapping : (cs first guest len many g : ℕ) → 0 < cs → first ≡ guest / cs → guest % cs + len ≤ many * cs → guest < g * cs + cs → g * cs < guest + len → (first ≤ g) × (g - first < many)
touched_mapping cs first guest len many g some is enough low high =
    let f : guest / cs * cs + guest % cs ≡ guest = div-add-mod' guest cs in
    let below = mod_below guest cs some in
    let reach : guest / cs ≤ g = elim (cases_lt g (guest / cs)) [
      | inr le ↦ le
      | inl past ↦
          let m : (g + 1) * cs ≤ guest / cs * cs = mul-le-mul_right cs (omega (arith, past)) in
          absurd (omega (arith, f, m, low))
    ] in
    let near : g - guest / cs < many = elim (cases_lt (g - guest / cs) many) [
      | inl lt ↦ lt
      | inr past ↦
          let m : (guest / cs + many) * cs ≤ g * cs = mul-le-mul_right cs (omega (arith, past, reach)) in
          absurd (omega (arith, f, m, enough, high))
    ] in
    (omega (arith, is, reach), omega (arith, is, near))

module _ {S F : Type 0} (view : S → StorageView) (backing : F → BackingView) where
  -- the guest clusters of a mapping whose clusters are all in place are copied data
  copied_as : (file : Place) (image : Qcow2 S F) (p q : Prepared) → q.guest ≡ p.guest → q.length ≡ p.length → IsEntered p q → (t : ℕ) → IsPending image.file.header.fields file (known_in view image.file) (contents_in view image.file) q t → AreCopied view p.guest (p.guest + p.length) image
  copied_as file image p q same long entered t pending g low high =
      let h = image.file.header.fields in
      let many = entered.many in
      let enough = pending.enough in
      let at = touched_mapping (cluster_size h) (cluster_of h q) q.guest q.length (length q.clusters.items) g (pow_pos h.cluster_bits) refl enough (omega (arith, same, low)) (omega (arith, same, long, high)) in
      let first = at.0 in
      let back : cluster_of h q + (g - cluster_of h q) ≡ g = omega (arith, first) in
      let near = at.1 in
      ap is_copied_data (ap (cover h (known_in view image.file)) (sym back) ∙ pending.each (g - cluster_of h q) InPlace (entered.in_place (g - cluster_of h q) (omega (arith, near, many))))

  copied_with : (file : Place) (image : Qcow2 S F) (p q : Prepared) → q.guest ≡ p.guest → q.length ≡ p.length → IsEntered p q → (x : Option ℕ) → q.table ≡ x → IsSome x → IsReadyWith image.file.header.fields file (known_in view image.file) (contents_in view image.file) q x
      → AreCopied view p.guest (p.guest + p.length) image
  copied_with file image p q same long entered None is some ready = absurd (let e : false ≡ true = some in cc)
  copied_with file image p q same long entered (Some t) is some ready = copied_as file image p q same long entered t ready

  -- a step that leaves what is known and the header leaves covers
  copied_still : (from to : ℕ) (a b : Qcow2 S F) → b.file.header ≡ a.file.header → known_in view b.file ≡ known_in view a.file → AreCopied view from to a → AreCopied view from to b
  copied_still from to a b header known copied =
      subst (λ (k : Bytes). Copied b.file.header.fields k) (sym known) (subst (λ (h : HeaderFields). Copied h (known_in view a.file)) (ap (λ x. x.fields) (sym header)) copied)
    where
      Copied : HeaderFields → Bytes → Type 0
      Copied h k = (g : ℕ) → from < g * cluster_size h + cluster_size h → g * cluster_size h < to → is_copied_data (cover h k g) ≡ true

  beside_still : (from to : ℕ) (a b c : Qcow2 S F) → c.file.header ≡ b.file.header → known_in view c.file ≡ known_in view b.file → StaysBeside view from to a b → StaysBeside view from to a c
  beside_still from to a b c header known beside g outside = beside g outside ∙ sym (ap (λ (h : HeaderFields). cover h (known_in view c.file) g) (ap (λ x. x.fields) header) ∙ ap (λ k. cover b.file.header.fields k g) known)

  -- ---- a commit of which nothing is refused
  module _ (old : Qcow2 S F) (p : Prepared) (new : Qcow2 S F) (out : Mappings) (k : ℕ) (placed : slice_get out.slots k ≡ Some (Some p)) (sound : ImageInvariant view backing (pending_in view backing old out) old out) where
    pub commits_existing : p.table ≡ None → Discards view backing old new p → ReleasesOneMapping view old new → CommitsWhole view backing old new out k p (set_slot out k None)
    commits_existing none discards image_step =
        let does = commit_existing view backing old p none new sound.works discards out k placed in
        let answer = does.answer sound in
        record {
          works = does.acts.works sound;
          sound = answer.0;
          shows = answer.1;
          beside = beside_still p.guest (p.guest + p.length) old old new (ap (λ (image : Qcow2 S F). image.file.header) image_step.rest) image_step.known (λ g outside. refl);
          copied = λ some. absurd (let e : false ≡ true = subst (λ (x : Option ℕ). IsSome x) none some in cc);
          placed = λ some. absurd (let e : false ≡ true = subst (λ (x : Option ℕ). IsSome x) none some in cc);
          still = λ _ g. sym (ap (λ (h : HeaderFields). cover h (known_in view new.file) g) (ap (λ (image : Qcow2 S F). image.file.header.fields) image_step.rest) ∙ ap (λ k. cover old.file.header.fields k g) image_step.known);
          allocator = ap (λ (image : Qcow2 S F). image.allocator) image_step.rest;
        }

    pub commits_entered : (entered : Qcow2 S F) (q : Prepared) (changed : Bool) → IsSome p.table → entered.allocator ≡ old.allocator → EntersAll view backing old entered p q changed → IsEntered p q → Discards view backing entered new q → ReleasesOneMapping view entered new → CommitsWhole view backing old new out k p (set_slot out k None)
    commits_entered entered q changed some same enters whole discards image_step =
        let all = (enters out k placed some sound).0 in
        let left : Mappings = set_slot out k (Some q) in
        let gone = discards (set_slot out k (Some q)) k (get_set_same out.slots k (Some q) (Some p) placed) in
        let answer = gone.answer all.part.sound in
        let end : set_slot (set_slot out k (Some q)) k None ≡ set_slot out k None = set_slot_set out k (Some q) None in
        let v = abstract_of view backing old out in
        let e = abstract_of view backing entered (set_slot out k (Some q)) in
        let given_bytes = given_by_commit v.setting.cluster_size (guest_of v).disk (meaning view backing out.place old p) ∷ [] in
        record {
          works = subst (λ (now : Mappings). EffectOnSound v (abstract_of view backing new now) given_bytes []) end
              (works_then v e (abstract_of view backing new (set_slot (set_slot out k (Some q)) k None)) given_bytes [] all.part.sound all.part.works
              (none_of e (abstract_of view backing new (set_slot (set_slot out k (Some q)) k None)) given_bytes (gone.acts.works all.part.sound)));
          sound = subst (λ (now : Mappings). ImageInvariant view backing (pending_in view backing new now) new now) end answer.0;
          shows = all_shown (guest_of v) (guest_of e) (guest_of (abstract_of view backing new (set_slot out k None))) k (meaning view backing out.place old p) (meaning view backing out.place entered q) all.part.shows all.visible
              (subst (λ (now : Mappings). guest_of (abstract_of view backing new now) ≡ with_slot (guest_of e) k None) end answer.1);
          beside = beside_still p.guest (p.guest + p.length) old entered new (ap (λ (image : Qcow2 S F). image.file.header) image_step.rest) image_step.known all.part.beside;
          copied = λ _. copied_still p.guest (p.guest + p.length) entered new (ap (λ (image : Qcow2 S F). image.file.header) image_step.rest) image_step.known
              (copied_with out.place entered p q all.part.shows.from all.part.shows.length whole q.table refl (subst (λ (x : Option ℕ). IsSome x) (sym whole.table) some) (all.part.sound.ready k q (get_set_same out.slots k (Some q) (Some p) placed)).mapped);
          placed = λ _. stands_released view p.guest p.offset p.length entered new image_step (stands_entered view out.place entered p q some whole (all.part.sound.ready k q (get_set_same out.slots k (Some q) (Some p) placed)).mapped);
          still = λ none. absurd (let e : false ≡ true = subst (λ (x : Option ℕ). IsSome x) none some in cc);
          allocator = ap (λ (image : Qcow2 S F). image.allocator) image_step.rest ∙ same;
        }

  -- ---- a piece
  module _ (out : Mappings) (old mid : Qcow2 S F) (p : Prepared) (from n : ℕ) (sound : ImageInvariant view backing (pending_in view backing old out) old out) (ready : IsReadied view backing old mid (put_first None out) 0 from n true p)
      (answered : IsAnswered old.file.header.fields (known_in view old.file) from n mid.file.header.fields (known_in view mid.file) p (meaning view backing out.place mid p)) (fits : p.length ≤ n) where
    long : length (zeros_of p.length) ≡ p.length
    long = length-replicate p.length 0

    -- an existing mapping is data at its place
    in_place : p.table ≡ None → AreDataAt mid.file.header.fields (known_in view mid.file) true (p.guest + 0) (p.offset + 0) (length (zeros_of p.length))
    in_place none i lt =
        let all = long in
        let clusters = subst (IsReadyWith mid.file.header.fields out.place (known_in view mid.file) (contents_in view mid.file) p) none (ready.sound.ready 0 p refl).mapped in
        let was = answered.in_place i (omega (arith, lt, all)) (never_private view backing mid p clusters (from + i)) in
        let from_is = ready.prepared.from in
        let at : from + i ≡ p.guest + 0 + i = omega (arith, from_is) in
        let place : p.offset + i ≡ p.offset + 0 + i = omega arith in
        subst (λ k. IsDataAt mid.file.header.fields (known_in view mid.file) true k (p.offset + 0 + i)) at
        (subst (λ k. IsDataAt mid.file.header.fields (known_in view mid.file) true (from + i) k) place
        (data_moved old.file.header.fields mid.file.header.fields (known_in view old.file) (known_in view mid.file) ready.header ready.covers (from + i) (p.offset + i) was))

    -- the mapping doesn't lie in cluster 0
    piece_behind : 0 < p.length → cluster_size mid.file.header.fields ≤ p.offset
    piece_behind some =
        let all = long in
        let first = hosts_behind_header view backing mid (put_first (Some p) out) ready.sound (length (zeros_of p.length)) 0 p 0 refl (omega (arith, all)) in_place 0 (omega (arith, all, some)) in
        omega (arith, first)

    -- zeros are written
    module _ (storage : ImageStorage S) (honest : (view (storage_of storage)).is_honest) (time : EachMomentSince (view_in view mid.file) (view (storage_of storage)) (IsLeftBy (view (storage_of storage)))) where
      pub zeros_put : (r : Result (Unit {0}) ImageError) → IsWriteOutcome r (view_in view mid.file).contents (overwritten (view_in view mid.file).contents p.offset (zeros_of p.length)) (view (storage_of storage)).contents
          → PutsPart view backing mid (record mid { file = record mid.file { storage = storage } }) (put_first (Some p) out) 0 p 0 (zeros_of p.length) r
      zeros_put r is =
          let all = long in
          let at : p.offset ≡ p.offset + 0 = omega arith in
          puts_written view backing (put_first (Some p) out) 0 p 0 (zeros_of p.length) refl mid ready.sound (omega (arith, all)) in_place storage honest time r
          (subst (λ k. IsWriteOutcome r (view_in view mid.file).contents (overwritten (view_in view mid.file).contents k (zeros_of p.length)) (view (storage_of storage)).contents) at is)

      -- the mapping of each guest cluster stays the same
      pub zeros_covers : (view (storage_of storage)).contents ≡ overwritten (view_in view mid.file).contents p.offset (zeros_of p.length)
          → (g : ℕ) → cover mid.file.header.fields (known_in view mid.file) g ≡ cover mid.file.header.fields (known_in view (record mid { file = record mid.file { storage = storage } }).file) g
      zeros_covers is =
          let all = long in
          let at : p.offset ≡ p.offset + 0 = omega arith in
          puts_covers view backing (put_first (Some p) out) 0 p 0 (zeros_of p.length) refl mid ready.sound (omega (arith, all)) in_place storage honest time
          (is ∙ ap (λ k. overwritten (view_in view mid.file).contents k (zeros_of p.length)) at)

    -- an existing mapping lies in copied data
    existing_copied : 0 < p.length → p.table ≡ None → (g : ℕ) → from < g * cluster_size old.file.header.fields + cluster_size old.file.header.fields → g * cluster_size old.file.header.fields < from + p.length → is_copied_data (cover mid.file.header.fields (known_in view mid.file) g) ≡ true
    existing_copied some none g low high =
        let h = old.file.header.fields in
        let clusters = subst (IsReadyWith mid.file.header.fields out.place (known_in view mid.file) (contents_in view mid.file) p) none (ready.sound.ready 0 p refl).mapped in
        let hit = byte_in (cluster_size h) (pow_pos h.cluster_bits) from p.length g low high some in
        let was = answered.in_place hit.index hit.within (never_private view backing mid p clusters (from + hit.index)) in
        ap is_copied_data (sym (ready.covers g) ∙ ap (cover h (known_in view old.file)) (sym hit.here) ∙ was.1)

    -- a mapping that isn't existing lies under no other's L2 table
    piece_untaken : 0 < p.length → (first : ℕ) → from + p.length ≤ first → ChangesFree (cluster_size old.file.header.fields) first from (from + p.length) old.file.header.fields (known_in view old.file) out
    piece_untaken some first high = λ g t change under. elim change [ inl past ↦ let end = t.2 in absurd (omega (arith, past, end, high)) | inr other ↦ by_table p.table refl some g t other under ]
      where
        by_table : (x : Option ℕ) → p.table ≡ x → 0 < p.length → (g : ℕ) → Touches (cluster_size old.file.header.fields) from (from + p.length) g → is_copied_data (cover old.file.header.fields (known_in view old.file) g) ≡ false
            → IsUnderMapping old.file.header.fields (g * cluster_size old.file.header.fields) out → ⊥
        by_table None none some g t other under = absurd (let no : true ≡ false = sym (existing_copied some none g t.1 t.2) ∙ ap is_copied_data (sym (ready.covers g)) ∙ other in cc)
        by_table (Some x) is some g t other under =
            let h = old.file.header.fields in
            let h' = mid.file.header.fields in
            let offset = g * cluster_size h in
            let within = answered.within in
            let end = t.2 in
            let sizes = file_sizes view (pending_in view backing old out) old.file sound.file in
            let from_is : p.guest ≡ from = ready.prepared.from in
            let row : l1_index_of old.file.header.fields (g * cluster_size old.file.header.fields) ≡ l1_index_of old.file.header.fields from = same_row h sizes from g t.1 (omega (arith, end, within)) in
            never_two view backing mid p out ready.sound x is offset (under_after h h' offset out ready.header under) (index_moved h h' offset ready.header ∙ row ∙ sym (index_moved h h' from ready.header) ∙ ap (λ n. l1_index_of h' n) (sym from_is))

    -- they are there, and the mapping is committed
    pub piece_filled : (mid2 new : Qcow2 S F) → PutsPart view backing mid mid2 (put_first (Some p) out) 0 p 0 (zeros_of p.length) (Ok tt) → CommitsWhole view backing mid2 new (put_first (Some p) out) 0 p (put_first None out) → mid2.file.header ≡ mid.file.header → mid2.allocator ≡ mid.allocator → new.file.header ≡ mid2.file.header
        → ReachingStays (from + p.length) old.file.header.fields mid.file.header.fields → (first : ℕ) → FilledCovers (cluster_size old.file.header.fields) first from (from + p.length) old.file.header.fields (known_in view old.file) new.file.header.fields (known_in view new.file)
        → ChangesFree (cluster_size old.file.header.fields) first from (from + p.length) old.file.header.fields (known_in view old.file) out → FillsPart view backing first from (from + p.length) old new out
    piece_filled mid2 new put commits header2 same header3 long first covers free =
        let cs = (abstract_of view backing mid2 (put_first (Some p) out)).setting.cluster_size in
        record {
          works = filled_works (abstraction_at view backing out.place) (free_places view backing out.place) (data_inside view backing out.place) old mid p out.slots (cluster_size old.file.header.fields) from n sound ready.sound ready.works ready.prepared ready.is fits mid2 put.sound put.works put.is new cs commits.sound commits.works commits.shows refl (pow_pos mid2.file.header.fields.cluster_bits);
          sound = filled_sound (abstraction_at view backing out.place) (free_places view backing out.place) (data_inside view backing out.place) old mid p out.slots (cluster_size old.file.header.fields) from n sound ready.sound ready.works ready.prepared ready.is fits mid2 put.sound put.works put.is new cs commits.sound commits.works commits.shows;
          shows = filled_shows (abstraction_at view backing out.place) (free_places view backing out.place) (data_inside view backing out.place) old mid p out.slots (cluster_size old.file.header.fields) from n sound ready.sound ready.works ready.prepared ready.is fits mid2 put.sound put.works put.is new cs commits.sound commits.works commits.shows;
          header = subst (λ (h : HeaderFields). MovesTables old.file.header.fields h) (ap (λ x. x.fields) (sym (header3 ∙ header2))) ready.header;
          l1_table = λ within. place_same old.file.header.fields mid.file.header new.file.header (header3 ∙ header2) (long within);
          covers = covers;
          free = free;
        }

    -- the write was refused, and the mapping is let go; then clusters are freed
    module _ (mid2 gone new : Qcow2 S F) (to : ℕ) (e e' : ImageError) (high : from + p.length ≤ to) (put : PutsPart view backing mid mid2 (put_first (Some p) out) 0 p 0 (zeros_of p.length) (Err e)) (discards : Discards view backing mid2 gone p)
        (fault : FaultOfTables e → (e' ≡ e) × (new ≡ gone)) where
      gone_sound : ImageInvariant view backing (pending_in view backing gone (put_first None out)) gone (put_first None out)
      gone_sound = ((discards (put_first (Some p) out) 0 refl).answer put.sound).0

      pub sound_now : ImageInvariant view backing (pending_in view backing gone out) gone out
      sound_now = (free_places view backing out.place).left gone [] out.slots gone_sound

      works_now : EffectOnSound (abstract_of view backing old out) (abstract_of view backing gone out) (given_by_zeros from (from + p.length) ∷ []) []
      works_now = gone_works (abstraction_at view backing out.place) (free_places view backing out.place) (data_inside view backing out.place) old mid p out.slots (cluster_size old.file.header.fields) from n sound ready.sound ready.works ready.prepared ready.is fits mid2 put.sound put.works gone
          ((discards (put_first (Some p) out) 0 refl).acts.works put.sound) gone_sound

      pub piece_gone : (frees : ImageInvariant view backing (pending_in view backing gone out) gone out → RefusedCall view backing gone new out e') → FillsSome view backing from (from + p.length) old new out ⊎ InterruptedGiving view backing (given_by_zeros from (from + p.length) ∷ []) old new out e'
      piece_gone frees = ⊎_elim
          (λ (same : guest_of (abstract_of view backing mid2 (put_first (Some p) out)) ≡ guest_of (abstract_of view backing mid (put_first (Some p) out))).
          let still = gone_same (abstraction_at view backing out.place) (free_places view backing out.place) (data_inside view backing out.place) old mid p out.slots (cluster_size old.file.header.fields) from n sound ready.sound ready.works ready.prepared ready.is fits mid2 put.sound put.works gone same ((discards (put_first (Some p) out) 0 refl).answer put.sound).1 in
          some_then still (frees sound_now))
          (λ (failed : e ≡ I.Storage).
          let is = fault (inl failed) in
          inr (subst (λ (x : Qcow2 S F). InterruptedGiving view backing (given_by_zeros from (from + p.length) ∷ []) old x out e') (sym is.1)
          (given_broken view backing out (given_by_zeros from (from + p.length) ∷ []) old gone e' (inl (is.0 ∙ failed)) (λ memory. absurd (let no : I.Storage ≡ I.Memory = sym (is.0 ∙ failed) ∙ memory in cc)) sound_now works_now))) put.is
        where
          some_then : guest_of (abstract_of view backing gone out) ≡ guest_of (abstract_of view backing old out) → RefusedCall view backing gone new out e'
              → FillsSome view backing from (from + p.length) old new out ⊎ InterruptedGiving view backing (given_by_zeros from (from + p.length) ∷ []) old new out e'
          some_then still (inl stays) = inl (record {
            works = works_then (abstract_of view backing old out) (abstract_of view backing gone out) (abstract_of view backing new out) (given_by_zeros from (from + p.length) ∷ []) [] sound_now works_now (none_of _ _ (given_by_zeros from (from + p.length) ∷ []) stays.works);
            sound = stays.sound;
            now = disk_of view backing out.place old;
            may = may_none from (from + p.length) (disk_of view backing out.place old);
            shows = stays.same ∙ still;
          })
          some_then still (inr interrupted) = inr (record {
            fault = interrupted.fault;
            recorded = interrupted.recorded;
            works = works_then (abstract_of view backing old out) (abstract_of view backing gone out) (abstract_of view backing (record new { is_failed = true }) out) (given_by_zeros from (from + p.length) ∷ []) [] sound_now works_now (none_of _ _ (given_by_zeros from (from + p.length) ∷ []) interrupted.works);
          })

  -- ---- as a call makes it
  module _ (out : Mappings) (old mid : Qcow2 S F) (p : Prepared) (from to most n count : ℕ) (sound : ImageInvariant view backing (pending_in view backing old out) old out) (ready : IsReadied view backing old mid (put_first None out) 0 from n true p)
      (answered : IsAnswered old.file.header.fields (known_in view old.file) from n mid.file.header.fields (known_in view mid.file) p (meaning view backing out.place mid p)) (lt : from < to) (whole : to % cluster_size old.file.header.fields ≡ 0)
      (few : 2 ^ 21 ≤ most) (asked : n ≡ min most (to - from)) (counted : count ≡ min p.length most) where
    large : cluster_size old.file.header.fields ≤ most
    large = let bits : 2 ^ old.file.header.fields.cluster_bits ≤ 2 ^ 21 = pow_mono sound.file.caches.kept.kept.crash_invariant.top.header_reads.well_formed.in_range.cluster_bits.1 in omega (arith, bits, few)

    pub all_fits : p.length ≤ n
    all_fits = piece_fits (cluster_size old.file.header.fields) from to most n p.length (pow_pos old.file.header.fields.cluster_bits) whole lt large asked (by_table p.table n p.length (cluster_size old.file.header.fields - from % cluster_size old.file.header.fields) answered.whole answered.most)

    pub all_within : from + p.length ≤ to
    all_within = let fits = all_fits in omega (arith, fits, asked, lt)

    all_counted : count ≡ p.length
    all_counted = let fits = all_fits in omega (arith, fits, asked, counted)

    pub all_next : (next : ℕ) → next ≡ min to (min (from + p.length) (2 ^ 64 - 1)) → to < 2 ^ 64 → next ≡ from + p.length
    all_next next is high = let within = all_within in omega (arith, within, is, high)

    pub all_put : (mid2 : Qcow2 S F) (r : Result (Unit {0}) ImageError) → WritesBytes view mid mid2 p.offset (replicate count 0) r → PutsPart view backing mid mid2 (put_first (Some p) out) 0 p 0 (zeros_of p.length) r
    all_put mid2 r w =
        let contents = (view_in view mid.file).contents in
        subst (λ (image : Qcow2 S F). PutsPart view backing mid image (put_first (Some p) out) 0 p 0 (zeros_of p.length) r) (sym w.rest)
        (zeros_put out old mid p from n sound ready answered all_fits mid2.file.storage (w.honest ready.sound.file.honest) (w.time ready.sound.file.honest) r
        (subst (λ k. IsWriteOutcome r contents (overwritten contents p.offset (zeros_of k)) (view_in view mid2.file).contents) all_counted (w.written ready.sound.file.honest)))

    pub all_behind : 0 < p.length → cluster_size mid.file.header.fields ≤ p.offset
    all_behind some = piece_behind out old mid p from n sound ready answered all_fits some

    -- the mapping of each guest cluster stays the same
    all_still : (mid2 : Qcow2 S F) → WritesBytes view mid mid2 p.offset (replicate count 0) (Ok tt) → (g : ℕ) → cover mid.file.header.fields (known_in view mid.file) g ≡ cover mid2.file.header.fields (known_in view mid2.file) g
    all_still mid2 w =
        subst (λ (image : Qcow2 S F). (g : ℕ) → cover mid.file.header.fields (known_in view mid.file) g ≡ cover image.file.header.fields (known_in view image.file) g) (sym w.rest)
        (zeros_covers out old mid p from n sound ready answered all_fits mid2.file.storage (w.honest ready.sound.file.honest) (w.time ready.sound.file.honest)
        (w.written ready.sound.file.honest ∙ ap (λ k. overwritten ((view_in view mid.file).contents) p.offset (zeros_of k)) all_counted))

    -- the mappings of guest clusters afterwards
    all_covers : 0 < p.length → (mid2 new : Qcow2 S F) → WritesBytes view mid mid2 p.offset (replicate count 0) (Ok tt) → CommitsWhole view backing mid2 new (put_first (Some p) out) 0 p (put_first None out) → (first : ℕ) → from + p.length ≤ first
        → FilledCovers (cluster_size old.file.header.fields) first from (from + p.length) old.file.header.fields (known_in view old.file) new.file.header.fields (known_in view new.file)
    all_covers some mid2 new w commits first high =
        let put = all_still mid2 w in
        let so_far : (g : ℕ) → cover old.file.header.fields (known_in view old.file) g ≡ cover mid2.file.header.fields (known_in view mid2.file) g = λ g. ready.covers g ∙ put g in
        let from_is : p.guest ≡ from = ready.prepared.from in
        let size2 : cluster_size mid2.file.header.fields ≡ cluster_size old.file.header.fields = ap (λ (image : Qcow2 S F). cluster_size image.file.header.fields) w.rest ∙ ap (λ (x : HeaderFields). cluster_size x) ready.header in
        own_covers p.table refl some mid2 new commits first high so_far put from_is size2
      where
        own_covers : (t : Option ℕ) → p.table ≡ t → 0 < p.length → (mid2 new : Qcow2 S F) → CommitsWhole view backing mid2 new (put_first (Some p) out) 0 p (put_first None out) → (first : ℕ) → from + p.length ≤ first
            → ((g : ℕ) → cover old.file.header.fields (known_in view old.file) g ≡ cover mid2.file.header.fields (known_in view mid2.file) g) → ((g : ℕ) → cover mid.file.header.fields (known_in view mid.file) g ≡ cover mid2.file.header.fields (known_in view mid2.file) g)
            → p.guest ≡ from → cluster_size mid2.file.header.fields ≡ cluster_size old.file.header.fields
            → FilledCovers (cluster_size old.file.header.fields) first from (from + p.length) old.file.header.fields (known_in view old.file) new.file.header.fields (known_in view new.file)
        own_covers None none some mid2 new commits first high so_far put from_is size2 =
            covers_own (cluster_size old.file.header.fields) (pow_pos old.file.header.fields.cluster_bits) from (from + p.length) old.file.header.fields (known_in view old.file) new.file.header.fields (known_in view new.file) (omega (arith, some))
            (λ g outside. so_far g ∙ commits.still none g)
            (λ g low up. ap is_copied_data (sym (commits.still none g) ∙ sym (put g)) ∙ existing_copied out old mid p from n sound ready answered all_fits some none g low up) first high
        own_covers (Some t) is some mid2 new commits first high so_far put from_is size2 =
            covers_own (cluster_size old.file.header.fields) (pow_pos old.file.header.fields.cluster_bits) from (from + p.length) old.file.header.fields (known_in view old.file) new.file.header.fields (known_in view new.file) (omega (arith, some))
            (λ g outside. so_far g ∙ commits.beside g
            (subst (λ s. (g < p.guest / s) ⊎ (p.guest + p.length ≤ g * s)) (sym size2) (subst (λ f. (g < f / cluster_size old.file.header.fields) ⊎ (f + p.length ≤ g * cluster_size old.file.header.fields)) (sym from_is) outside)))
            (λ g low up.
            let size3 : cluster_size new.file.header.fields ≡ cluster_size old.file.header.fields = ap (λ (x : Setting). x.cluster_size) commits.works.setting ∙ size2 in
            commits.copied (subst (λ (x : Option ℕ). IsSome x) (sym is) refl) g
            (subst (λ s. p.guest < g * s + s) (sym size3) (subst (λ f. f < g * cluster_size old.file.header.fields + cluster_size old.file.header.fields) (sym from_is) low))
            (subst (λ s. g * s < p.guest + p.length) (sym size3) (subst (λ f. g * cluster_size old.file.header.fields < f + p.length) (sym from_is) up))) first high

    pub all_filled : 0 < p.length → (mid2 new : Qcow2 S F) → WritesBytes view mid mid2 p.offset (replicate count 0) (Ok tt) → ((o : Mappings) (k : ℕ) → slice_get o.slots k ≡ Some (Some p) → ImageInvariant view backing (pending_in view backing mid2 o) mid2 o → CommitsWhole view backing mid2 new o k p (set_slot o k None))
        → new.file.header ≡ mid2.file.header → (l1_index_of old.file.header.fields from < entry_count old.l1_table → KeepsL1Place old.file.header.fields mid.file.header.fields) → FillsPart view backing to from (from + p.length) old new out
    all_filled some mid2 new w commits header stays =
        let put = all_put mid2 (Ok tt) w in
        let done = commits (put_first (Some p) out) 0 refl put.sound in
        piece_filled out old mid p from n sound ready answered all_fits mid2 new put done (ap (λ (image : Qcow2 S F). image.file.header) w.rest) (ap (λ (image : Qcow2 S F). image.allocator) w.rest) header
        (reaching_stays old.file.header.fields mid.file.header.fields from (from + p.length) (entry_count old.l1_table) (omega (arith, some)) sound.l1_table.count stays) to (all_covers some mid2 new w done to all_within)
        (piece_untaken out old mid p from n sound ready answered all_fits some to all_within)
