-- Calls of caches in which no cluster has a modified table in both: the known contents stay the same, or a table is overlaid on them, and tables are written in the order of the direction.
use Rattle.std.proofs.Common.{◌≡◌, ◌⊎◌, ◌*◌, ◌/◌, ◌%◌, ◌^◌, ◌<◌, ◌∷◌, ◌++◌, inl, inr, ℕ, Bool, true, false, eqb, List, [], Option, Some, Result, Ok, IsSome, refl, sym, ap, ◌∙◌, subst, IfSome}
use Rattle.qcow2_alloc.proofs.Common.{pow_pos, IsDistinct, IsNone, keys_of, lookup, lookup_entry, remove_entry, promoted, StorageView, EachMomentSince, passes_none, passes_on, passes_if, Bytes, byte_at, HeaderFields, MetadataError, cluster_size, L2TableView, RefBlockView, CachedTable, known, overlays, Direction, Neither, L2DependsOnRb, RbDependsOnL2, SameIn, IsPartly, known_bytes, IsFreeAt, IsFreeOf, BlocksMayGo, TablesMayGo, differs, known_is_on_storage, Slot, CacheError, L2CacheBackend, RefBlockCacheBackend, MetadataCaches, ImageStorage, table_steps, Cache, slot_of, with_entries, Unit₀, Flushes, GetsNew, InsertsNew, Replaces, storage_of, l2_steps, rb_steps, cleared_l2, cleared_rb, IsTableOf, IsBlockOf, cached_table, cached_tables, AreElsewhere, order_of, l2_tables, refblocks, known_of, StandAsIn, IsFlushedSo, IsPartlyFlushed, AreNoMore, table_put, NoClusterDirtyInBoth, AreFlushedSince, KnownStays, KnownUnder, KeepsKnownApart}
use Rattle.qcow2_alloc.proofs.KeptTables.Writing.{no_safety, Flushed, Puts, WritesOne, flushed_all, nothing_new, made_ready}
use Rattle.qcow2_alloc.proofs.KeptTables.Entries.{AreDistinct}
use Rattle.qcow2_alloc.proofs.KeptTables.Getting.{HoldsWhatStands, hit_done, get_done, insert_put, replace_put}
use Rattle.qcow2_alloc.proofs.KeptTables.Laying.{laid_first, laid_under}
use Rattle.qcow2_alloc.proofs.KeptTables.Flushing.{all_of}
use Rattle.qcow2_alloc.proofs.KeptTables.Fetching.{none_or_some, is_none}
use Rattle.qcow2_alloc.proofs.KeptTables.Inserting.{found_or_not, lookup_none}
use Rattle.qcow2_alloc.proofs.KeptTables.Apart.{AreSpread, spread_entries, Along, along_start, along_distinct, along_drop, along_promote, along_add, along_step, tables_past, tables_free, blocks_past, blocks_free, unwritten, tables_ordered, blocks_ordered}

-- ---- one call after another

-- of the modified tables of two kinds, none of the first is written before all of the second are
module _ (size : ℕ) (ts us ts' us' : List CachedTable) (b0 known mid b : Bytes) (apart : (c : ℕ) → IsFreeOf size ts c ⊎ IsFreeOf size us c) (fewer : AreNoMore size ts ts') (fewer' : AreNoMore size us us')
    (settled : (c : ℕ) → IsFreeOf size ts' c → IsFreeOf size us' c → SameIn size c mid known × SameIn size c b mid) (partly : IsPartly size mid known b) where
  order_then : StandAsIn size ts mid b0 ⊎ StandAsIn size us mid known → StandAsIn size ts' b mid ⊎ StandAsIn size us' b known → StandAsIn size ts b b0 ⊎ StandAsIn size us b known
  order_then (inr all) second = inr (λ c. elim (all c) [
    | inl none ↦ inl none
    | inr told ↦ elim (partly c) [ inl as_mid ↦ inr (λ o in_c. as_mid o in_c ∙ told o in_c) | inr as_known ↦ inr as_known ]
  ])
  order_then (inl yet) (inr all) = inr (λ c. elim (apart c) [
    | inr none ↦ inl none
    | inl none ↦ elim (all c) [
      | inr told ↦ inr told
      | inl gone ↦ let s = settled c (fewer c none) gone in inr (λ o in_c. s.1 o in_c ∙ s.0 o in_c)
    ]
  ])
  order_then (inl yet) (inl still) = inl (λ c. elim (yet c) [
    | inl none ↦ inl none
    | inr old ↦ elim (still c) [
      | inr same ↦ inr (λ o in_c. same o in_c ∙ old o in_c)
      | inl gone ↦ elim (apart c) [
        | inl none ↦ inl none
        | inr none ↦ inr (λ o in_c. (settled c gone (fewer' c none)).1 o in_c ∙ old o in_c)
      ]
    ]
  ])

module _ (size : ℕ) (d : Direction) (l2s rbs l2s' rbs' : List CachedTable) (b0 known mid b : Bytes) (apart : (c : ℕ) → IsFreeOf size l2s c ⊎ IsFreeOf size rbs c) (tables : AreNoMore size l2s l2s') (blocks : AreNoMore size rbs rbs')
    (same : known_bytes size l2s' rbs' mid ≡ known) (first : IsPartlyFlushed size d l2s rbs b0 known mid) (second : IsPartlyFlushed size d l2s' rbs' mid known b) where
  settled : (c : ℕ) → IsFreeOf size l2s' c → IsFreeOf size rbs' c → SameIn size c mid known × SameIn size c b mid
  settled c no_table no_block =
      let as_known : SameIn size c mid known = λ o in_c. sym (known_is_on_storage size l2s' rbs' mid o (no_table o in_c) (no_block o in_c)) ∙ ap (λ (m : Bytes). m o) same in
      (as_known, elim (second.partly c) [ inl stays ↦ stays | inr told ↦ λ o in_c. told o in_c ∙ sym (as_known o in_c) ])

  flipped : (c : ℕ) → IsFreeOf size rbs c ⊎ IsFreeOf size l2s c
  flipped c = elim (apart c) [ inl none ↦ inr none | inr none ↦ inl none ]

  so_ordered : (e : Direction) → IsFlushedSo e size l2s rbs b0 known mid → IsFlushedSo e size l2s' rbs' mid known b → IsFlushedSo e size l2s rbs b0 known b
  so_ordered Neither one two = tt
  so_ordered L2DependsOnRb one two = order_then size l2s rbs l2s' rbs' b0 known mid b apart tables blocks settled second.partly one two
  so_ordered RbDependsOnL2 one two = order_then size rbs l2s rbs' l2s' b0 known mid b flipped blocks tables (λ c no_block no_table. settled c no_table no_block) second.partly one two

  partly_then : IsPartlyFlushed size d l2s rbs b0 known b
  partly_then = record {
    partly = λ c. elim (second.partly c) [
      | inr told ↦ inr told
      | inl stays ↦ elim (first.partly c) [ inl old ↦ inl (λ o in_c. stays o in_c ∙ old o in_c) | inr told ↦ inr (λ o in_c. stays o in_c ∙ told o in_c) ]
    ];
    ordered = so_ordered d first.ordered second.ordered;
  }

pub one_more : (h : HeaderFields) (t : CachedTable) (ts ts' : List CachedTable) → AreNoMore (cluster_size h) ts ts' → AreNoMore (cluster_size h) (t ∷ ts) (t ∷ ts')
one_more h t ts ts' fewer c none o in_c = ((none o in_c).0, fewer c (λ o in_c. (none o in_c).1) o in_c)

module _ {S : Type 0} (h : HeaderFields) where
  since_none : (v : StorageView) (c : MetadataCaches S) → AreFlushedSince h v c v
  since_none v c = record {
    moments = passes_none v _;
    contents = record { partly = λ c. inl (λ o in_c. refl); ordered = unwritten (cluster_size h) (l2_tables c) (refblocks c) (byte_at v.contents) (known_of h c (byte_at v.contents)) (order_of c) };
  }

  since_then : (old mid new : StorageView) (a b : MetadataCaches S) → NoClusterDirtyInBoth h a → order_of b ≡ order_of a → KnownStays h old a mid b → AreFlushedSince h mid b new → AreFlushedSince h old a new
  since_then old mid new a b are same first second =
      let then : (l : List ℕ) → IsPartlyFlushed (cluster_size h) (order_of b) (l2_tables b) (refblocks b) (byte_at mid.contents) (known_of h b (byte_at mid.contents)) (byte_at l)
      → IsPartlyFlushed (cluster_size h) (order_of a) (l2_tables a) (refblocks a) (byte_at old.contents) (known_of h a (byte_at old.contents)) (byte_at l) =
      λ l now. partly_then (cluster_size h) (order_of a) (l2_tables a) (refblocks a) (l2_tables b) (refblocks b) (byte_at old.contents) (known_of h a (byte_at old.contents)) (byte_at mid.contents) (byte_at l) are.apart first.tables first.blocks first.known first.since.contents
      (subst (λ (m : Bytes). IsPartlyFlushed (cluster_size h) (order_of a) (l2_tables b) (refblocks b) (byte_at mid.contents) m (byte_at l)) first.known
      (subst (λ (d : Direction). IsPartlyFlushed (cluster_size h) d (l2_tables b) (refblocks b) (byte_at mid.contents) (known_of h b (byte_at mid.contents)) (byte_at l)) same now)) in
      record { moments = passes_on _ first.since.moments second.moments then; contents = then new.contents second.contents }

  stays_none : (v : StorageView) (c : MetadataCaches S) → v.is_honest → NoClusterDirtyInBoth h c → KnownStays h v c v c
  stays_none v c honest are = record { honest = honest; apart = are; known = refl; tables = λ c none. none; blocks = λ c none. none; since = since_none v c }

  pub stays_then : (old mid new : StorageView) (a b c : MetadataCaches S) → NoClusterDirtyInBoth h a → order_of b ≡ order_of a → KnownStays h old a mid b → KnownStays h mid b new c → KnownStays h old a new c
  stays_then old mid new a b c are same first second = record {
    honest = second.honest;
    apart = second.apart;
    known = second.known ∙ first.known;
    tables = λ c none. second.tables c (first.tables c none);
    blocks = λ c none. second.blocks c (first.blocks c none);
    since = since_then old mid new a b are same first second.since;
  }

  -- nothing new, and then a table is put in
  pub under_then : (old mid new : StorageView) (a b c : MetadataCaches S) (t : CachedTable) (ts us ts' us' : List CachedTable) → NoClusterDirtyInBoth h a → order_of b ≡ order_of a → AreNoMore (cluster_size h) ts ts' → AreNoMore (cluster_size h) us us'
      → KnownStays h old a mid b → KnownUnder h mid b new c t ts' us' → KnownUnder h old a new c t ts us
  under_then old mid new a b c t ts us ts' us' are same fewer fewer' first second = record {
    honest = second.honest;
    l2_bits = second.l2_bits;
    rb_bits = second.rb_bits;
    known = λ after. second.known after ∙ ap (known (cluster_size h) (t ∷ [])) first.known;
    tables = λ c none. second.tables c (fewer c none);
    blocks = λ c none. second.blocks c (fewer' c none);
    since = since_then old mid new a b are same first second.since;
  }

module _ {S : Type 0} {view : S → StorageView} where
  pub apart_none : {s : ImageStorage S} {c : MetadataCaches S} → KeepsKnownApart view s c s c
  apart_none {s} {c} = record { stays = λ h honest are. stays_none h (view (storage_of s)) c honest are }

  pub apart_then : {r s t : ImageStorage S} {a b c : MetadataCaches S} → order_of b ≡ order_of a → KeepsKnownApart view r a s b → KeepsKnownApart view s b t c → KeepsKnownApart view r a t c
  apart_then {r} {s} {t} {a} {b} {c} same first second = record {
    stays = λ h honest are.
        let one = first.stays h honest are in
        stays_then h (view (storage_of r)) (view (storage_of s)) (view (storage_of t)) a b c are same one (second.stays h one.honest one.apart);
  }

  -- then the direction turns
  pub apart_turned : {r s : ImageStorage S} {a b : MetadataCaches S} (to : _) → KeepsKnownApart view r a s b → KeepsKnownApart view r a s (record b { direction = to })
  apart_turned to keeps = record {
    stays = λ h honest are.
        let one = keeps.stays h honest are in
        record {
          honest = one.honest;
          apart = record { l2_bits = one.apart.l2_bits; rb_bits = one.apart.rb_bits; apart = one.apart.apart };
          known = one.known;
          tables = one.tables;
          blocks = one.blocks;
          since = one.since;
        };
  }

module _ {S : Type 0} (view : S → StorageView) (r s t : ImageStorage S) (a b c : MetadataCaches S) (key : ℕ) (bytes : List ℕ) (is_modified : Bool) (same : order_of b ≡ order_of a) (first : KeepsKnownApart view r a s b) where
  abbrev put : HeaderFields → CachedTable
  put h = table_put h key bytes is_modified

  pub tables_under_then : ((h : HeaderFields) → (view (storage_of s)).is_honest → NoClusterDirtyInBoth h b → KnownUnder h (view (storage_of s)) b (view (storage_of t)) c (put h) (put h ∷ l2_tables b) (refblocks b))
      → (h : HeaderFields) → (view (storage_of r)).is_honest → NoClusterDirtyInBoth h a → KnownUnder h (view (storage_of r)) a (view (storage_of t)) c (put h) (put h ∷ l2_tables a) (refblocks a)
  tables_under_then second h honest are =
      let one = first.stays h honest are in
      under_then h (view (storage_of r)) (view (storage_of s)) (view (storage_of t)) a b c (put h) (put h ∷ l2_tables a) (refblocks a) (put h ∷ l2_tables b) (refblocks b) are same (one_more h (put h) (l2_tables a) (l2_tables b) one.tables) one.blocks one (second h one.honest one.apart)

  pub blocks_under_then : ((h : HeaderFields) → (view (storage_of s)).is_honest → NoClusterDirtyInBoth h b → KnownUnder h (view (storage_of s)) b (view (storage_of t)) c (put h) (l2_tables b) (put h ∷ refblocks b))
      → (h : HeaderFields) → (view (storage_of r)).is_honest → NoClusterDirtyInBoth h a → KnownUnder h (view (storage_of r)) a (view (storage_of t)) c (put h) (l2_tables a) (put h ∷ refblocks a)
  blocks_under_then second h honest are =
      let one = first.stays h honest are in
      under_then h (view (storage_of r)) (view (storage_of s)) (view (storage_of t)) a b c (put h) (l2_tables a) (put h ∷ refblocks a) (l2_tables b) (put h ∷ refblocks b) are same one.tables (one_more h (put h) (refblocks a) (refblocks b) one.blocks) one (second h one.honest one.apart)

-- ---- calls of one cache, beside the modified tables of the other one

-- what a call leaves of its tables, and of the storage
pub record Leaves (old new : StorageView) (size : ℕ) (all : List CachedTable → Bytes → Bytes) (Ordered : Bytes → Type 0) (ts us : List CachedTable) : Type 0 where
  pub honest : new.is_honest
  pub known : all us (byte_at new.contents) ≡ all ts (byte_at old.contents)
  pub no_more : AreNoMore size ts us
  pub moments : EachMomentSince old new (λ c. IsPartly size (byte_at old.contents) (all ts (byte_at old.contents)) (byte_at c) × Ordered (byte_at c))
  pub contents : IsPartly size (byte_at old.contents) (all ts (byte_at old.contents)) (byte_at new.contents) × Ordered (byte_at new.contents)

-- a value came to stand before such tables
pub record LeavesBehind {V : Type 0} (old new : StorageView) (size : ℕ) (all : List CachedTable → Bytes → Bytes) (Ordered : Bytes → Type 0) (tables : List (ℕ × Slot V) → List CachedTable) (k : ℕ) (v : V) (es fs : List (ℕ × Slot V)) : Type 0 where
  pub rest : List (ℕ × Slot V)
  pub pins : ℕ
  pub leaves : Leaves old new size all Ordered (tables es) (tables rest)
  pub is : fs ≡ (k, slot_of v pins) ∷ rest

module _ {S V : Type 0} (view : S → StorageView) (bits : ℕ) (bytes : V → List ℕ) (is_modified : V → Bool) (cleared : V → V) (IsFit : V → Type 0)
    (unmodified : (v : V) → is_modified (cleared v) ≡ false) (same_bytes : (v : V) → bytes (cleared v) ≡ bytes v)
    (size : ℕ) (is_size : 2 ^ bits ≡ size) (s t : S) (es : List (ℕ × Slot V)) (distinct : IsDistinct eqb (keys_of es)) (honest : (view s).is_honest) (others : List CachedTable)
    (apart : (c : ℕ) → IsFreeOf size (cached_tables bits bytes is_modified es) c ⊎ IsFreeOf size others c) (all : List CachedTable → Bytes → Bytes)
    (past : (ts : List CachedTable) (b : Bytes) (o : ℕ) → IsFreeAt size others o → all ts b o ≡ known size ts b o)
    (free : (ts us : List CachedTable) (b c : Bytes) (o : ℕ) → IsFreeAt size ts o → IsFreeAt size us o → b o ≡ c o → all ts b o ≡ all us c o)
    (relisted : (ts us : List CachedTable) (b : Bytes) → ((m : Bytes) → known size us m ≡ known size ts m) → all us b ≡ all ts b)
    (Ordered : Bytes → Type 0) (yet : Ordered (byte_at (view s).contents)) where
  abbrev tables : List (ℕ × Slot V) → List CachedTable
  tables = cached_tables bits bytes is_modified

  abbrev before : Bytes
  before = byte_at (view s).contents

  some : 0 < size
  some = subst (λ n. 0 < n) is_size (pow_pos bits)

  abbrev P : List CachedTable → Bytes → Type 0
  P = Along size some (tables es) others apart all past free relisted before Ordered

  start : P (tables es) before
  start = along_start size some (tables es) others apart all past free relisted before Ordered (subst (λ n. AreSpread n (tables es) before) is_size (spread_entries bits bytes is_modified es before distinct)) yet

  are_distinct : (ts : List CachedTable) (b : Bytes) → P ts b → AreDistinct ts
  are_distinct = along_distinct size some (tables es) others apart all past free relisted before Ordered

  drop : (front back : List CachedTable) (u : CachedTable) (b : Bytes) → P (front ++ u ∷ back) b → u.is_modified ≡ false → P (front ++ back) b × (all (front ++ back) b ≡ all (front ++ u ∷ back) b)
  drop = along_drop size some (tables es) others apart all past free relisted before Ordered

  promote : (front back : List CachedTable) (u : CachedTable) (b : Bytes) → P (front ++ u ∷ back) b → P (u ∷ (front ++ back)) b × (all (u ∷ (front ++ back)) b ≡ all (front ++ u ∷ back) b)
  promote = along_promote size some (tables es) others apart all past free relisted before Ordered

  add : (u : CachedTable) (ts : List CachedTable) (b : Bytes) → P ts b → u.place % 2 ^ bits ≡ 0 → AreElsewhere u.place ts → u.is_modified ≡ false → HoldsWhatStands all (2 ^ bits) u ts b → P (u ∷ ts) b × (all (u ∷ ts) b ≡ all ts b)
  add = along_add size some (tables es) others apart all past free relisted before Ordered bits is_size

  -- where tables may be written
  abbrev pub Orders : Type 0
  Orders = (b : Bytes) → ((c : ℕ) → IsFreeOf size (tables es) c → SameIn size c b before) → Ordered b

  step : Orders → WritesOne view bits bytes is_modified cleared IsFit unmodified same_bytes P all no_safety
  step orders front back u u' b b' are so =
      let one = along_step size some (tables es) others apart all past free relisted before Ordered bits is_size orders front back u u' b b' are so in
      (one.0, one.1, tt)

  abbrev Left : List (ℕ × Slot V) → Type 0
  Left fs = Flushed view bits bytes is_modified cleared IsFit unmodified same_bytes P all no_safety s t (tables es) (tables fs)

  left_of : (fs : List (ℕ × Slot V)) → Left fs → Leaves (view s) (view t) size all Ordered (tables es) (tables fs)
  left_of fs f = record {
    honest = f.honest;
    known = f.known;
    no_more = f.kept.no_more;
    moments = passes_if _ (λ l now. (now.1.partly, now.1.ordered)) f.moments;
    contents = (f.kept.partly, f.kept.ordered);
  }

  pub flush_leaves : (fs : List (ℕ × Slot V)) (r : Result Unit₀ (CacheError ℕ MetadataError)) → Orders → Flushes (table_steps view bits bytes is_modified cleared IsFit) s es r t fs → Leaves (view s) (view t) size all Ordered (tables es) (tables fs)
  flush_leaves fs r orders flushes =
      let flushed = all_of (table_steps view bits bytes is_modified cleared IsFit) s t es fs r flushes in
      left_of fs (flushed_all view bits bytes is_modified cleared IsFit unmodified same_bytes P all no_safety (step orders) s t [] es fs flushed.0 honest start flushed.1)

  module _ (capacity : ℕ) (may_flush : Bool) (orders : may_flush ≡ true → Orders) (k : ℕ) (fs : List (ℕ × Slot V)) (r : Result Bool (CacheError ℕ MetadataError)) where
    pub get_leaves : (IsSome (lookup (eqb k) es) → (r ≡ Ok true) × (fs ≡ promoted (eqb k) es) × (t ≡ s))
        → (IsNone (lookup (eqb k) es) → GetsNew (table_steps view bits bytes is_modified cleared IsFit) eqb capacity may_flush k s es r t fs) → Leaves (view s) (view t) size all Ordered (tables es) (tables fs)
    get_leaves hit miss = left_of fs (elim (none_or_some (lookup (eqb k) es)) [
      | inl there ↦
          let is = hit there in
          subst (λ x. Flushed view bits bytes is_modified cleared IsFit unmodified same_bytes P all no_safety s x (tables es) (tables fs)) (sym is.2)
          (subst (λ l. Flushed view bits bytes is_modified cleared IsFit unmodified same_bytes P all no_safety s s (tables es) (tables l)) (sym is.1)
          (hit_done view bits bytes is_modified cleared IsFit unmodified same_bytes P all no_safety are_distinct drop add promote s k es honest start))
      | inr missing ↦
          get_done view bits bytes is_modified cleared IsFit unmodified same_bytes P all no_safety are_distinct drop add promote capacity may_flush (λ flush. step (orders flush)) s t k es fs r honest start (is_none (lookup (eqb k) es) missing) (miss missing)
    ])

    module _ (v : V) (value left : Option V) (is : value ≡ Some v)
        (there : IfSome (lookup_entry (eqb k) es) (λ e. IfSome value (λ v. Replaces (table_steps view bits bytes is_modified cleared IsFit) k e (remove_entry (eqb k) es) v may_flush s es r t fs left)))
        (missing : IsNone (lookup (eqb k) es) → IfSome value (λ v. InsertsNew (table_steps view bits bytes is_modified cleared IsFit) eqb capacity may_flush k v s es r t fs left)) where
      puts : Puts view bits bytes is_modified cleared IsFit unmodified same_bytes P all no_safety k v s t es fs r
      puts =
          found_or_not (lookup_entry (eqb k) es)
          (λ none. insert_put view bits bytes is_modified cleared IsFit unmodified same_bytes P all no_safety are_distinct drop add promote capacity may_flush (λ flush. step (orders flush)) k v s t es fs r left honest start (lookup_none (eqb k) es none)
          (rw is at (missing (rw (lookup_none (eqb k) es none) refl))))
          (λ e some. replace_put view bits bytes is_modified cleared IsFit unmodified same_bytes P all no_safety are_distinct drop add promote capacity may_flush (λ flush. step (orders flush)) k v s t es e some honest start fs r left (rw is at (rw some at there)))

      pub put_leaves : (r ≡ Ok true → ⊥) → Leaves (view s) (view t) size all Ordered (tables es) (tables fs)
      put_leaves isnt = left_of fs (nothing_new view bits bytes is_modified cleared IsFit unmodified same_bytes P all no_safety k v s t es fs r isnt puts)

      pub put_leaves_behind : r ≡ Ok true → LeavesBehind (view s) (view t) size all Ordered tables k v es fs
      put_leaves_behind went =
          let ready = made_ready view bits bytes is_modified cleared IsFit unmodified same_bytes P all no_safety k v s t es fs r went puts in
          record { rest = ready.rest; pins = ready.pins; leaves = left_of ready.rest ready.done; is = ready.is }

-- ---- calls of the caches
module _ {S : Type 0} (view : S → StorageView) (old new : ImageStorage S) (caches : MetadataCaches S) where
  abbrev seen : ImageStorage S → StorageView
  seen s = view (storage_of s)

  -- ---- of the L2 tables
  module _ (l2 : Cache (L2CacheBackend S) ℕ L2TableView) (others : l2 ≡ with_entries caches.l2 l2.entries) (distinct : IsDistinct eqb (keys_of caches.l2.entries)) where
    abbrev tables_of : List (ℕ × Slot L2TableView) → List CachedTable
    tables_of = cached_tables caches.l2.backend.header.fields.cluster_bits (λ (t : L2TableView). t.bytes) (λ t. t.is_modified)

    module _ (h : HeaderFields) (honest : (seen old).is_honest) (are : NoClusterDirtyInBoth h caches) where
      abbrev with_tables : List CachedTable → Bytes → Bytes
      with_tables ts b = known_bytes (cluster_size h) ts (refblocks caches) b

      abbrev TablesOrdered : Bytes → Type 0
      TablesOrdered = IsFlushedSo (order_of caches) (cluster_size h) (l2_tables caches) (refblocks caches) (byte_at (seen old).contents) (known_of h caches (byte_at (seen old).contents))

      tables_yet : TablesOrdered (byte_at (seen old).contents)
      tables_yet = unwritten (cluster_size h) (l2_tables caches) (refblocks caches) (byte_at (seen old).contents) (known_of h caches (byte_at (seen old).contents)) (order_of caches)

      tables_may : TablesMayGo (order_of caches) (refblocks caches) → (b : Bytes) → ((c : ℕ) → IsFreeOf (cluster_size h) (l2_tables caches) c → SameIn (cluster_size h) c b (byte_at (seen old).contents)) → TablesOrdered b
      tables_may = tables_ordered (cluster_size h) (l2_tables caches) (refblocks caches) (byte_at (seen old).contents) (known_of h caches (byte_at (seen old).contents)) are.apart (order_of caches)

      tables_since : (ts : List CachedTable) → Leaves (seen old) (seen new) (cluster_size h) with_tables TablesOrdered (l2_tables caches) ts → AreFlushedSince h (seen old) caches (seen new)
      tables_since ts left = record {
        moments = passes_if _ (λ l now. record { partly = now.0; ordered = now.1 }) left.moments;
        contents = record { partly = left.contents.0; ordered = left.contents.1 };
      }

      tables_stay : Leaves (seen old) (seen new) (cluster_size h) with_tables TablesOrdered (l2_tables caches) (tables_of l2.entries) → KnownStays h (seen old) caches (seen new) (record caches { l2 = l2 })
      tables_stay left =
          let same_backend : l2.backend ≡ caches.l2.backend = ap (λ c. c.backend) others in
          rw same_backend (record {
            honest = left.honest;
            apart = record { l2_bits = are.l2_bits; rb_bits = are.rb_bits; apart = λ c. elim (are.apart c) [ inl none ↦ inl (left.no_more c none) | inr none ↦ inr none ] };
            known = left.known;
            tables = left.no_more;
            blocks = λ c none. none;
            since = tables_since (tables_of l2.entries) left;
          })

      tables_under : (key : ℕ) (v : L2TableView) → LeavesBehind (seen old) (seen new) (cluster_size h) with_tables TablesOrdered tables_of key v caches.l2.entries l2.entries
          → KnownUnder h (seen old) caches (seen new) (record caches { l2 = l2 }) (table_put h key v.bytes v.is_modified) (table_put h key v.bytes v.is_modified ∷ l2_tables caches) (refblocks caches)
      tables_under key v behind =
          let whole : l2 ≡ with_entries caches.l2 ((key, slot_of v behind.pins) ∷ behind.rest) = others ∙ ap (with_entries caches.l2) behind.is in
          let put : cached_table caches.l2.backend.header.fields.cluster_bits (λ (t : L2TableView). t.bytes) (λ t. t.is_modified) (key, slot_of v behind.pins) ≡ table_put h key v.bytes v.is_modified =
          ap (λ n. record { place = key * 2 ^ n; bytes = byte_at v.bytes; is_modified = v.is_modified }) are.l2_bits in
          let list : tables_of ((key, slot_of v behind.pins) ∷ behind.rest) ≡ table_put h key v.bytes v.is_modified ∷ tables_of behind.rest = ap (λ (t : CachedTable). t ∷ tables_of behind.rest) put in
          let left = behind.leaves in
          subst (λ (c : Cache (L2CacheBackend S) ℕ L2TableView). KnownUnder h (seen old) caches (seen new) (record caches { l2 = c }) (table_put h key v.bytes v.is_modified) (table_put h key v.bytes v.is_modified ∷ l2_tables caches) (refblocks caches)) (sym whole)
          (record {
            honest = left.honest;
            l2_bits = are.l2_bits;
            rb_bits = are.rb_bits;
            known = λ after.
                ap (λ ts. with_tables ts (byte_at (seen new).contents)) list
                ∙ laid_first (cluster_size h) (table_put h key v.bytes v.is_modified) (tables_of behind.rest) (known (cluster_size h) (refblocks caches) (byte_at (seen new).contents))
                ∙ ap (known (cluster_size h) (table_put h key v.bytes v.is_modified ∷ [])) left.known;
            tables = λ c none. subst (λ ts. IsFreeOf (cluster_size h) ts c) (sym list) (λ o in_c. ((none o in_c).0, left.no_more c (λ o in_c. (none o in_c).1) o in_c));
            blocks = λ c none. none;
            since = tables_since (tables_of behind.rest) left;
          })

    pub tables_flushed_apart : (answer : Result Unit₀ (CacheError ℕ MetadataError)) → Flushes (l2_steps seen caches.l2.backend.header.fields) old caches.l2.entries answer new l2.entries → TablesMayGo (order_of caches) (refblocks caches)
        → KeepsKnownApart view old caches new (record caches { l2 = l2 })
    tables_flushed_apart answer flushes may = record {
      stays = λ h honest are.
          tables_stay h honest are
          (flush_leaves seen caches.l2.backend.header.fields.cluster_bits (λ (t : L2TableView). t.bytes) (λ t. t.is_modified) cleared_l2 (IsTableOf caches.l2.backend.header.fields) (λ v. refl) (λ v. refl) (cluster_size h) (ap (λ n. 2 ^ n) are.l2_bits) old new caches.l2.entries distinct honest (refblocks caches) are.apart (with_tables h honest are) (tables_past (cluster_size h) (refblocks caches)) (tables_free (cluster_size h) (refblocks caches)) (λ ts us b same. same (known (cluster_size h) (refblocks caches) b)) (TablesOrdered h honest are) (tables_yet h honest are) l2.entries answer (tables_may h honest are may) flushes);
    }

    module _ (may_flush : Bool) (key : ℕ) (answer : Result Bool (CacheError ℕ MetadataError)) (may : may_flush ≡ true → TablesMayGo (order_of caches) (refblocks caches)) where
      pub table_got_apart : (IsSome (lookup (eqb key) caches.l2.entries) → (answer ≡ Ok true) × (l2.entries ≡ promoted (eqb key) caches.l2.entries) × (new ≡ old))
          → (IsNone (lookup (eqb key) caches.l2.entries) → GetsNew (l2_steps seen caches.l2.backend.header.fields) eqb caches.l2.size may_flush key old caches.l2.entries answer new l2.entries)
          → KeepsKnownApart view old caches new (record caches { l2 = l2 })
      table_got_apart hit miss = record {
        stays = λ h honest are.
            tables_stay h honest are
            (get_leaves seen caches.l2.backend.header.fields.cluster_bits (λ (t : L2TableView). t.bytes) (λ t. t.is_modified) cleared_l2 (IsTableOf caches.l2.backend.header.fields) (λ v. refl) (λ v. refl) (cluster_size h) (ap (λ n. 2 ^ n) are.l2_bits) old new caches.l2.entries distinct honest (refblocks caches) are.apart (with_tables h honest are) (tables_past (cluster_size h) (refblocks caches)) (tables_free (cluster_size h) (refblocks caches)) (λ ts us b same. same (known (cluster_size h) (refblocks caches) b)) (TablesOrdered h honest are) (tables_yet h honest are) caches.l2.size may_flush (λ flush. tables_may h honest are (may flush)) key l2.entries answer hit miss);
      }

      module _ (v : L2TableView) (value left : Option L2TableView) (is : value ≡ Some v)
          (there : IfSome (lookup_entry (eqb key) caches.l2.entries) (λ e. IfSome value (λ v. Replaces (l2_steps seen caches.l2.backend.header.fields) key e (remove_entry (eqb key) caches.l2.entries) v may_flush old caches.l2.entries answer new l2.entries left)))
          (missing : IsNone (lookup (eqb key) caches.l2.entries) → IfSome value (λ v. InsertsNew (l2_steps seen caches.l2.backend.header.fields) eqb caches.l2.size may_flush key v old caches.l2.entries answer new l2.entries left)) where
        pub table_kept_apart : (answer ≡ Ok true → ⊥) → KeepsKnownApart view old caches new (record caches { l2 = l2 })
        table_kept_apart isnt = record {
          stays = λ h honest are.
              tables_stay h honest are
              (put_leaves seen caches.l2.backend.header.fields.cluster_bits (λ (t : L2TableView). t.bytes) (λ t. t.is_modified) cleared_l2 (IsTableOf caches.l2.backend.header.fields) (λ v. refl) (λ v. refl) (cluster_size h) (ap (λ n. 2 ^ n) are.l2_bits) old new caches.l2.entries distinct honest (refblocks caches) are.apart (with_tables h honest are) (tables_past (cluster_size h) (refblocks caches)) (tables_free (cluster_size h) (refblocks caches)) (λ ts us b same. same (known (cluster_size h) (refblocks caches) b)) (TablesOrdered h honest are) (tables_yet h honest are) caches.l2.size may_flush (λ flush. tables_may h honest are (may flush)) key l2.entries answer v value left is there missing isnt);
        }

        pub table_put_apart : answer ≡ Ok true → (h : HeaderFields) → (seen old).is_honest → NoClusterDirtyInBoth h caches
            → KnownUnder h (seen old) caches (seen new) (record caches { l2 = l2 }) (table_put h key v.bytes v.is_modified) (table_put h key v.bytes v.is_modified ∷ l2_tables caches) (refblocks caches)
        table_put_apart went h honest are =
            tables_under h honest are key v
            (put_leaves_behind seen caches.l2.backend.header.fields.cluster_bits (λ (t : L2TableView). t.bytes) (λ t. t.is_modified) cleared_l2 (IsTableOf caches.l2.backend.header.fields) (λ v. refl) (λ v. refl) (cluster_size h) (ap (λ n. 2 ^ n) are.l2_bits) old new caches.l2.entries distinct honest (refblocks caches) are.apart (with_tables h honest are) (tables_past (cluster_size h) (refblocks caches)) (tables_free (cluster_size h) (refblocks caches)) (λ ts us b same. same (known (cluster_size h) (refblocks caches) b)) (TablesOrdered h honest are) (tables_yet h honest are) caches.l2.size may_flush (λ flush. tables_may h honest are (may flush)) key l2.entries answer v value left is there missing went)

  -- ---- of the refblocks
  module _ (rb : Cache (RefBlockCacheBackend S) ℕ RefBlockView) (others : rb ≡ with_entries caches.rb rb.entries) (distinct : IsDistinct eqb (keys_of caches.rb.entries)) where
    abbrev blocks_of : List (ℕ × Slot RefBlockView) → List CachedTable
    blocks_of = cached_tables caches.rb.backend.header.fields.cluster_bits (λ (b : RefBlockView). b.bytes) (λ b. b.is_modified)

    module _ (h : HeaderFields) (honest : (seen old).is_honest) (are : NoClusterDirtyInBoth h caches) where
      abbrev with_blocks : List CachedTable → Bytes → Bytes
      with_blocks ts b = known_bytes (cluster_size h) (l2_tables caches) ts b

      abbrev BlocksOrdered : Bytes → Type 0
      BlocksOrdered = IsFlushedSo (order_of caches) (cluster_size h) (l2_tables caches) (refblocks caches) (byte_at (seen old).contents) (known_of h caches (byte_at (seen old).contents))

      blocks_apart : (c : ℕ) → IsFreeOf (cluster_size h) (refblocks caches) c ⊎ IsFreeOf (cluster_size h) (l2_tables caches) c
      blocks_apart c = elim (are.apart c) [ inl none ↦ inr none | inr none ↦ inl none ]

      blocks_yet : BlocksOrdered (byte_at (seen old).contents)
      blocks_yet = unwritten (cluster_size h) (l2_tables caches) (refblocks caches) (byte_at (seen old).contents) (known_of h caches (byte_at (seen old).contents)) (order_of caches)

      blocks_may : BlocksMayGo (order_of caches) (l2_tables caches) → (b : Bytes) → ((c : ℕ) → IsFreeOf (cluster_size h) (refblocks caches) c → SameIn (cluster_size h) c b (byte_at (seen old).contents)) → BlocksOrdered b
      blocks_may = blocks_ordered (cluster_size h) (l2_tables caches) (refblocks caches) (byte_at (seen old).contents) (known_of h caches (byte_at (seen old).contents)) are.apart (order_of caches)

      blocks_since : (ts : List CachedTable) → Leaves (seen old) (seen new) (cluster_size h) with_blocks BlocksOrdered (refblocks caches) ts → AreFlushedSince h (seen old) caches (seen new)
      blocks_since ts left = record {
        moments = passes_if _ (λ l now. record { partly = now.0; ordered = now.1 }) left.moments;
        contents = record { partly = left.contents.0; ordered = left.contents.1 };
      }

      blocks_stay : Leaves (seen old) (seen new) (cluster_size h) with_blocks BlocksOrdered (refblocks caches) (blocks_of rb.entries) → KnownStays h (seen old) caches (seen new) (record caches { rb = rb })
      blocks_stay left =
          let same_backend : rb.backend ≡ caches.rb.backend = ap (λ c. c.backend) others in
          rw same_backend (record {
            honest = left.honest;
            apart = record { l2_bits = are.l2_bits; rb_bits = are.rb_bits; apart = λ c. elim (are.apart c) [ inl none ↦ inl none | inr none ↦ inr (left.no_more c none) ] };
            known = left.known;
            tables = λ c none. none;
            blocks = left.no_more;
            since = blocks_since (blocks_of rb.entries) left;
          })

      blocks_under : (key : ℕ) (v : RefBlockView) → LeavesBehind (seen old) (seen new) (cluster_size h) with_blocks BlocksOrdered blocks_of key v caches.rb.entries rb.entries
          → KnownUnder h (seen old) caches (seen new) (record caches { rb = rb }) (table_put h key v.bytes v.is_modified) (l2_tables caches) (table_put h key v.bytes v.is_modified ∷ refblocks caches)
      blocks_under key v behind =
          let whole : rb ≡ with_entries caches.rb ((key, slot_of v behind.pins) ∷ behind.rest) = others ∙ ap (with_entries caches.rb) behind.is in
          let put : cached_table caches.rb.backend.header.fields.cluster_bits (λ (b : RefBlockView). b.bytes) (λ b. b.is_modified) (key, slot_of v behind.pins) ≡ table_put h key v.bytes v.is_modified =
          ap (λ n. record { place = key * 2 ^ n; bytes = byte_at v.bytes; is_modified = v.is_modified }) are.rb_bits in
          let list : blocks_of ((key, slot_of v behind.pins) ∷ behind.rest) ≡ table_put h key v.bytes v.is_modified ∷ blocks_of behind.rest = ap (λ (t : CachedTable). t ∷ blocks_of behind.rest) put in
          let left = behind.leaves in
          subst (λ (c : Cache (RefBlockCacheBackend S) ℕ RefBlockView). KnownUnder h (seen old) caches (seen new) (record caches { rb = c }) (table_put h key v.bytes v.is_modified) (l2_tables caches) (table_put h key v.bytes v.is_modified ∷ refblocks caches)) (sym whole)
          (record {
            honest = left.honest;
            l2_bits = are.l2_bits;
            rb_bits = are.rb_bits;
            known = λ after.
                ap (λ ts. with_blocks ts (byte_at (seen new).contents)) list
                ∙ laid_under (cluster_size h) (table_put h key v.bytes v.is_modified) (l2_tables caches) (blocks_of behind.rest) (byte_at (seen new).contents)
                (λ o over. elim (after.apart (o / cluster_size h)) [
                  | inl none ↦ none o refl
                  | inr none ↦ absurd (differs (overlays (cluster_size h) (table_put h key v.bytes v.is_modified) o) over (subst (λ ts. IsFreeAt (cluster_size h) ts o) list (none o refl)).0)
                ])
                ∙ ap (known (cluster_size h) (table_put h key v.bytes v.is_modified ∷ [])) left.known;
            tables = λ c none. none;
            blocks = λ c none. subst (λ ts. IsFreeOf (cluster_size h) ts c) (sym list) (λ o in_c. ((none o in_c).0, left.no_more c (λ o in_c. (none o in_c).1) o in_c));
            since = blocks_since (blocks_of behind.rest) left;
          })

    pub blocks_flushed_apart : (answer : Result Unit₀ (CacheError ℕ MetadataError)) → Flushes (rb_steps seen caches.rb.backend.header.fields) old caches.rb.entries answer new rb.entries → BlocksMayGo (order_of caches) (l2_tables caches)
        → KeepsKnownApart view old caches new (record caches { rb = rb })
    blocks_flushed_apart answer flushes may = record {
      stays = λ h honest are.
          blocks_stay h honest are
          (flush_leaves seen caches.rb.backend.header.fields.cluster_bits (λ (b : RefBlockView). b.bytes) (λ b. b.is_modified) cleared_rb (IsBlockOf caches.rb.backend.header.fields) (λ v. refl) (λ v. refl) (cluster_size h) (ap (λ n. 2 ^ n) are.rb_bits) old new caches.rb.entries distinct honest (l2_tables caches) (blocks_apart h honest are) (with_blocks h honest are) (blocks_past (cluster_size h) (l2_tables caches)) (blocks_free (cluster_size h) (l2_tables caches)) (λ ts us b same. ap (known (cluster_size h) (l2_tables caches)) (same b)) (BlocksOrdered h honest are) (blocks_yet h honest are) rb.entries answer (blocks_may h honest are may) flushes);
    }

    module _ (may_flush : Bool) (key : ℕ) (answer : Result Bool (CacheError ℕ MetadataError)) (may : may_flush ≡ true → BlocksMayGo (order_of caches) (l2_tables caches)) where
      pub block_got_apart : (IsSome (lookup (eqb key) caches.rb.entries) → (answer ≡ Ok true) × (rb.entries ≡ promoted (eqb key) caches.rb.entries) × (new ≡ old))
          → (IsNone (lookup (eqb key) caches.rb.entries) → GetsNew (rb_steps seen caches.rb.backend.header.fields) eqb caches.rb.size may_flush key old caches.rb.entries answer new rb.entries)
          → KeepsKnownApart view old caches new (record caches { rb = rb })
      block_got_apart hit miss = record {
        stays = λ h honest are.
            blocks_stay h honest are
            (get_leaves seen caches.rb.backend.header.fields.cluster_bits (λ (b : RefBlockView). b.bytes) (λ b. b.is_modified) cleared_rb (IsBlockOf caches.rb.backend.header.fields) (λ v. refl) (λ v. refl) (cluster_size h) (ap (λ n. 2 ^ n) are.rb_bits) old new caches.rb.entries distinct honest (l2_tables caches) (blocks_apart h honest are) (with_blocks h honest are) (blocks_past (cluster_size h) (l2_tables caches)) (blocks_free (cluster_size h) (l2_tables caches)) (λ ts us b same. ap (known (cluster_size h) (l2_tables caches)) (same b)) (BlocksOrdered h honest are) (blocks_yet h honest are) caches.rb.size may_flush (λ flush. blocks_may h honest are (may flush)) key rb.entries answer hit miss);
      }

      module _ (v : RefBlockView) (value left : Option RefBlockView) (is : value ≡ Some v)
          (there : IfSome (lookup_entry (eqb key) caches.rb.entries) (λ e. IfSome value (λ v. Replaces (rb_steps seen caches.rb.backend.header.fields) key e (remove_entry (eqb key) caches.rb.entries) v may_flush old caches.rb.entries answer new rb.entries left)))
          (missing : IsNone (lookup (eqb key) caches.rb.entries) → IfSome value (λ v. InsertsNew (rb_steps seen caches.rb.backend.header.fields) eqb caches.rb.size may_flush key v old caches.rb.entries answer new rb.entries left)) where
        pub block_kept_apart : (answer ≡ Ok true → ⊥) → KeepsKnownApart view old caches new (record caches { rb = rb })
        block_kept_apart isnt = record {
          stays = λ h honest are.
              blocks_stay h honest are
              (put_leaves seen caches.rb.backend.header.fields.cluster_bits (λ (b : RefBlockView). b.bytes) (λ b. b.is_modified) cleared_rb (IsBlockOf caches.rb.backend.header.fields) (λ v. refl) (λ v. refl) (cluster_size h) (ap (λ n. 2 ^ n) are.rb_bits) old new caches.rb.entries distinct honest (l2_tables caches) (blocks_apart h honest are) (with_blocks h honest are) (blocks_past (cluster_size h) (l2_tables caches)) (blocks_free (cluster_size h) (l2_tables caches)) (λ ts us b same. ap (known (cluster_size h) (l2_tables caches)) (same b)) (BlocksOrdered h honest are) (blocks_yet h honest are) caches.rb.size may_flush (λ flush. blocks_may h honest are (may flush)) key rb.entries answer v value left is there missing isnt);
        }

        pub block_put_apart : answer ≡ Ok true → (h : HeaderFields) → (seen old).is_honest → NoClusterDirtyInBoth h caches
            → KnownUnder h (seen old) caches (seen new) (record caches { rb = rb }) (table_put h key v.bytes v.is_modified) (l2_tables caches) (table_put h key v.bytes v.is_modified ∷ refblocks caches)
        block_put_apart went h honest are =
            blocks_under h honest are key v
            (put_leaves_behind seen caches.rb.backend.header.fields.cluster_bits (λ (b : RefBlockView). b.bytes) (λ b. b.is_modified) cleared_rb (IsBlockOf caches.rb.backend.header.fields) (λ v. refl) (λ v. refl) (cluster_size h) (ap (λ n. 2 ^ n) are.rb_bits) old new caches.rb.entries distinct honest (l2_tables caches) (blocks_apart h honest are) (with_blocks h honest are) (blocks_past (cluster_size h) (l2_tables caches)) (blocks_free (cluster_size h) (l2_tables caches)) (λ ts us b same. ap (known (cluster_size h) (l2_tables caches)) (same b)) (BlocksOrdered h honest are) (blocks_yet h honest are) caches.rb.size may_flush (λ flush. blocks_may h honest are (may flush)) key rb.entries answer v value left is there missing went)
