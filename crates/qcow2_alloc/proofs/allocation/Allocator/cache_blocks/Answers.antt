use Rattle.std.proofs.Common.{◌≡◌, ◌+◌, ◌-◌, ◌*◌, ◌/◌, ◌%◌, ◌^◌, ◌<◌, ◌≤◌, inr, ℕ, length, refl, sym, ap, ◌∙◌, subst, arith}
use Rattle.qcow2_alloc.proofs.Common.{div-add-mod', div-le_self, mul-le-mul_left, greatest_offset, IsHostCluster, EntryTableView, entry_count, HeaderFields, HeaderView, cluster_size, counts_per_block, IsSameOutside, Bytes, one_if, ChangesEntry, HasPlace, run_at, NamesLacking, HasBytesAt, with_run, contents_in, known_in, HavePlaces, opens, opened, room_length, CachesBlocks, InternalNewBlocks, IsBlockOf, faults_of}
use Rattle.qcow2_alloc.proofs.Lemmas.{fails_aligned, never_unaligned, handed_on, lacking_none, lacking_more, entries_entered, named_have_places, new_blocks_none, opened_none, free_in_run, run_in, EntersSo, Counting, opens_range, enters_none, enters_first, counting_first, entries_aligned, of_three, rest_then, placed_more, range_within, run_within, counts_as, room_enters, room_counts, file_sizes, fails_by, fails_ok, fails_on, fails_since, memory_other, other_as, table_step_as, table_step_none, table_step_then}
use Rattle.qcow2_alloc.proofs.allocation.Allocator.cache_blocks.Goals.{then-opens_range+in_ok-block+in_ok-cache_new_block, else-opens_range+in_ok-bring_to_front}
use Rattle.qcow2_alloc.proofs.allocation.Allocator.cache_blocks.Goals as goal

fits_below : (at greatest size : ℕ) → at ≤ greatest / size → at * size ≤ greatest
fits_below at greatest size le = let product : size * at ≤ size * (greatest / size) = mul-le-mul_left size le in let e = div-add-mod' greatest size in omega (arith, product, e)

at_fits : (at cluster first n end greatest size : ℕ) → at ≤ cluster → cluster < end → end ≡ first + n → first + n ≤ greatest / size + 1 → at * size ≤ greatest
at_fits at cluster first n end greatest size low lt is near = fits_below at greatest size (omega arith)

-- the next cluster of the room has a place
place_here : (header now : HeaderView) (at cluster first n end place : ℕ) → now ≡ header → place ≡ at → at ≤ cluster → cluster < end → end ≡ first + n → first + n ≤ greatest_offset / 2 ^ header.fields.cluster_bits + 1 → HasPlace now.fields.cluster_bits place
place_here header now at cluster first n end place same is low lt end_is near =
    let fits = at_fits at cluster first n end greatest_offset (2 ^ header.fields.cluster_bits) low lt end_is near in
    let below : at * 2 ^ header.fields.cluster_bits < 2 ^ 64 = omega arith in
    subst (λ (m : ℕ). HasPlace now.fields.cluster_bits m) (sym is) (subst (λ (x : HeaderView). HasPlace x.fields.cluster_bits at) (sym same) below)

pub placing-init : goal.placing-init
placing-init g c =
    let view = g.S.Storage.view in
    let h = c.args.file.now.header.fields in
    let t = c.args.self.now.reftable in
    let first = c.args.room.first in
    let none : first - first ≡ 0 = omega arith in
    record {
      step = table_step_none;
      faults = refl;
      rest = refl;
      as_long = refl;
      lacking = lacking_none t c.args.table.now;
      counts = c.rb_bits-bits.ensures.counts;
      bits = let high = c.rb_bits-bits.ensures.high in omega (arith, high);
      end_is = omega arith;
      low = omega arith;
      high = omega arith;
      placed = none ∙ sym (ap (λ m. opened t (counts_per_block h) first m) none ∙ opened_none t (counts_per_block h) first);
      sound = λ p sound may longer.
          let n = room_length c.args.room in
          let q = with_run p h t first n in (
            new_blocks_none view q c.args.self.now first n c.args.file.now sound (λ k some. let free = free_in_run view p first n c.args.file.now t sound.sound sound.reftable may k some in (free.unnamed, free.unheld)),
            named_have_places h q c.args.file.now.caches (contents_in view c.args.file.now) sound.sound.caches sound.sound.named_blocks,
            subst (λ m. EntersSo h t c.args.table.now c.args.table.now first m first) (sym none) (enters_first h t c.args.table.now first longer.entries (entries_aligned view q c.args.file.now t sound.sound sound.reftable)),
            counting_first h (known_in view c.args.file.now) t c.args.table.now first n longer.entries,
          );
    }

pub returns-in_err-block-clause-sound : goal.returns-in_err-block-clause-sound
returns-in_err-block-clause-sound g c = λ p sound may longer.
    let q = with_run p c.args.file.now.header.fields c.args.self.now.reftable c.args.room.first (room_length c.args.room) in
    let before = c.placing.invariant.sound p sound may longer in
    handed_on (CachesBlocks g.S.Storage.view q c.args.file.now c.args.self.now c.placing.file c.args.self.now.reftable c.placing.table c.args.room) c.from_residual.result c.in_err-block.field-0.0 c.from_residual.ensures
    (inr c.in_err-block.ensures.memory, before.0)

pub returns-in_err-cache_new_block : goal.returns-in_err-cache_new_block
returns-in_err-cache_new_block g c = record {
  step = table_step_then c.placing.invariant.step (c.cache_new_block.ensures.step c.args.self.now.reftable);
  fails = fails_on c.from_residual-in_err-cache_new_block.result c.in_err-cache_new_block.field-0.0 c.from_residual-in_err-cache_new_block.ensures (fails_aligned (fails_since c.placing.invariant.faults c.in_err-cache_new_block.ensures.fails));
  sound = λ p sound may longer.
      let view = g.S.Storage.view in
      let a = c.args.self.now in
      let n = room_length c.args.room in
      let first = c.args.room.first in
      let q = with_run p c.args.file.now.header.fields c.args.self.now.reftable c.args.room.first (room_length c.args.room) in
      let inv = c.placing.invariant in
      let before = inv.sound p sound may longer in
      let at_in : 0 < run_at first n c.new-place.result =
      (let is = c.new-place.ensures in let low = inv.low in let high = inv.high in let lt = c.placing-test.true in let end = inv.end_is in
      let one = run_in first n c.new-place.result (omega (arith, is, low)) (omega (arith, is, high, lt, end)) in omega (arith, one)) in
      let here = place_here c.args.file.now.header c.placing.file.header c.placing.at c.placing.cluster first n _ c.new-place.result inv.step.header c.new-place.ensures inv.high c.placing-test.true inv.end_is c.requires.room.near in
      handed_on (CachesBlocks view q c.args.file.now a c.cache_new_block.new.file a.reftable c.placing.table c.args.room) c.from_residual-in_err-cache_new_block.result c.in_err-cache_new_block.field-0.0 c.from_residual-in_err-cache_new_block.ensures
      (c.in_err-cache_new_block.ensures.sound q a c.args.file.now first n c.new-place.result before.0 before.1 c.in_ok-block.ensures.cluster at_in here c.in_ok-block.ensures.format c.in_ok-block.ensures.whole c.in_ok-block.ensures.modified);
  table = record { rest = c.placing.invariant.rest; as_long = c.placing.invariant.as_long; lacking = c.placing.invariant.lacking };
}

pub returns-in_err-bring_to_front : goal.returns-in_err-bring_to_front
returns-in_err-bring_to_front g c = record {
  step = table_step_then c.placing.invariant.step c.bring_to_front.ensures.step;
  fails = fails_on c.from_residual-in_err-bring_to_front.result c.in_err-bring_to_front.field-0.0 c.from_residual-in_err-bring_to_front.ensures (fails_since c.placing.invariant.faults c.in_err-bring_to_front.ensures.fails);
  sound = λ p sound may longer.
      let a = c.args.self.now in
      let n = room_length c.args.room in
      let first = c.args.room.first in
      let q = with_run p c.args.file.now.header.fields c.args.self.now.reftable c.args.room.first (room_length c.args.room) in
      let before = c.placing.invariant.sound p sound may longer in
      handed_on (CachesBlocks g.S.Storage.view q c.args.file.now a c.bring_to_front.new.file a.reftable c.placing.table c.args.room) c.from_residual-in_err-bring_to_front.result c.in_err-bring_to_front.field-0.0 c.from_residual-in_err-bring_to_front.ensures
      (c.in_err-bring_to_front.ensures.sound q c.args.file.now first n before.0 before.1);
  table = record { rest = c.placing.invariant.rest; as_long = c.placing.invariant.as_long; lacking = c.placing.invariant.lacking };
}

pub placing-preserved : goal.placing-preserved
placing-preserved g c =
    let view = g.S.Storage.view in
    let old = c.args.file.now in
    let h = c.args.file.now.header.fields in
    let a = c.args.self.now in
    let t = c.args.self.now.reftable in
    let n = room_length c.args.room in
    let first = c.args.room.first in
    let inv = c.placing.invariant in
    let from = c.placing.auto.cluster in
    let opens_at = c.opens_range.ensures ∙ ap (λ m. opens t m first c.placing.cluster) (sym inv.counts) in
    elim c.if-opens_range.branch [
      | then-opens_range+in_ok-block+in_ok-cache_new_block w ↦ record {
        step = table_step_as refl w.file-is (table_step_then inv.step (w.cache_new_block.ensures.step t));
        faults = subst (λ f. faults_of g.S.Storage.view f.storage ≡ faults_of g.S.Storage.view old.storage) (sym w.file-is) (w.in_ok-cache_new_block.ensures.fails.told ∙ inv.faults);
        rest = rest_then c.args.table.now c.placing.table w.enter_refblock.new.self c.if-opens_range.table w.table-is w.enter_refblock.ensures.rest inv.rest;
        as_long = ap (λ x. length x.bytes) w.table-is ∙ w.enter_refblock.ensures.entry.as_long ∙ inv.as_long;
        lacking = subst (NamesLacking t c.args.table.now) (sym w.table-is) (lacking_more t c.args.table.now c.placing.table w.enter_refblock.new.self (c.placing.cluster / 2 ^ c.rb_bits-bits.result)
            (opens_range t (2 ^ c.rb_bits-bits.result) first c.placing.cluster (sym c.opens_range.ensures ∙ w.if-opens_range.true)).1 inv.lacking
            (entries_entered c.placing.table w.enter_refblock.new.self (c.placing.cluster / 2 ^ c.rb_bits-bits.result) w.new-place.result
            (let is = w.new-place.ensures in let low = inv.low in let above = c.requires.room.above in omega (arith, is, low, above)) w.enter_refblock.ensures.rest w.enter_refblock.ensures.entry w.enter_refblock.ensures.offset));
        counts = inv.counts;
        bits = inv.bits;
        end_is = inv.end_is;
        low = let is = w.at-is in let low = inv.low in omega (arith, is, low);
        high = let is = w.at-is in let high = inv.high in omega (arith, is, high);
        placed = placed_more t (counts_per_block h) first c.placing.at c.if-opens_range.at 1 c.placing.cluster c.opens_range.result inv.low from opens_at w.at-is (sym (ap one_if w.if-opens_range.true)) inv.placed;
        sound = λ p sound may longer.
            let q = with_run p c.args.file.now.header.fields c.args.self.now.reftable c.args.room.first (room_length c.args.room) in
            let before = inv.sound p sound may longer in
            let at_same : w.new-place.result ≡ c.placing.at = w.new-place.ensures in
            let at_in : 0 < run_at first n w.new-place.result =
            (let low = inv.low in let high = inv.high in let lt = c.placing-test.true in let end = inv.end_is in
            let one = run_in first n w.new-place.result (omega (arith, at_same, low)) (omega (arith, at_same, high, lt, end)) in omega (arith, one)) in
            let here = place_here old.header c.placing.file.header c.placing.at c.placing.cluster first n _ w.new-place.result inv.step.header w.new-place.ensures inv.high c.placing-test.true inv.end_is c.requires.room.near in
            let cached = w.in_ok-cache_new_block.ensures.sound q a old first n w.new-place.result before.0 before.1 w.in_ok-block.ensures.cluster at_in here w.in_ok-block.ensures.format w.in_ok-block.ensures.whole w.in_ok-block.ensures.modified in
            let header_now = ap (λ x. x.fields) ((w.cache_new_block.ensures.step t).header ∙ inv.step.header) in
            let header_same = ap (λ x. x.fields) inv.step.header in
            let t_bits = ap (λ (x : EntryTableView). x.cluster_bits) inv.rest ∙ c.requires.room.bits in
            let format = subst (λ (k : HeaderFields). IsBlockOf k w.in_ok-block.block) header_same w.in_ok-block.ensures.format in
            let run_is : c.args.room.first + c.args.room.blocks + c.args.room.clusters - first ≡ n = omega arith in
            let begin_is : (c.placing.cluster / 2 ^ c.rb_bits-bits.result * 2 ^ c.rb_bits-bits.result) % 18446744073709551616 ≡ (c.placing.cluster / 2 ^ c.rb_bits-bits.result * 2 ^ c.rb_bits-bits.result) =
            (let e = div-add-mod' c.placing.cluster (2 ^ c.rb_bits-bits.result) in let lt = c.placing-test.true in let end = inv.end_is in let near = c.requires.room.near in let le = div-le_self greatest_offset (2 ^ c.args.file.now.header.fields.cluster_bits) in
            omega (arith, e, lt, end, near, le)) in
            let counts = counts_as c.placing.file.header.fields h w.in_ok-block.block ((c.placing.cluster / 2 ^ c.rb_bits-bits.result * 2 ^ c.rb_bits-bits.result) % 18446744073709551616) (c.placing.cluster / 2 ^ c.rb_bits-bits.result * 2 ^ c.rb_bits-bits.result) first _ n header_same begin_is run_is w.in_ok-block.ensures.counts in
            let within = range_within c.placing.cluster (first + n) (entry_count c.placing.table) (counts_per_block h)
            (let lt = c.placing-test.true in let end = inv.end_is in omega (arith, lt, end)) (subst (λ m. first + n ≤ m / 8 * counts_per_block h) (sym inv.as_long) c.requires.room.within) in
            let sizes = file_sizes view q old sound.sound in
            let enter = subst (λ m. ChangesEntry c.placing.table.bytes w.enter_refblock.new.self.bytes (c.placing.cluster / 2 ^ c.rb_bits-bits.result) (m * 2 ^ c.placing.table.cluster_bits)) at_same w.enter_refblock.ensures.entry in
            let offset = w.enter_refblock.ensures.offset ∙ ap (λ m. m * 2 ^ c.placing.table.cluster_bits) at_same in
            let stands = subst (λ m. HasBytesAt (known_in view w.cache_new_block.new.file) (m * cluster_size h) w.in_ok-block.block.bytes) at_same
            (subst (λ (k : HeaderFields). HasBytesAt (known_in view w.cache_new_block.new.file) (w.new-place.result * cluster_size k) w.in_ok-block.block.bytes) header_now cached.stands) in
            let outside = subst (λ m. IsSameOutside (cluster_size h) m (known_in view c.placing.file) (known_in view w.cache_new_block.new.file)) at_same
            (subst (λ (k : HeaderFields). IsSameOutside (cluster_size k) w.new-place.result (known_in view c.placing.file) (known_in view w.cache_new_block.new.file)) header_now cached.outside) in
            let open_here = sym opens_at ∙ w.if-opens_range.true in
            of_three (λ f x m. InternalNewBlocks view q old a f first n × HavePlaces f.header.fields f.caches × EntersSo h t c.args.table.now x first (m - first) (c.placing.cluster + 1) × Counting h (known_in view f) t x first n)
            c.if-opens_range.file w.cache_new_block.new.file c.if-opens_range.table w.enter_refblock.new.self c.if-opens_range.at (c.placing.at + 1) w.file-is w.table-is w.at-is (
              cached.blocks,
              cached.places,
              room_enters h sizes t c.args.table.now c.placing.table w.enter_refblock.new.self (known_in view c.placing.file) (known_in view w.cache_new_block.new.file) first n c.placing.at c.placing.cluster c.rb_bits-bits.result w.in_ok-block.block
                  c.requires.room.above inv.low from inv.counts t_bits longer.entries open_here within enter offset before.2 before.3 w.in_ok-block.ensures.whole format counts stands outside,
              room_counts h sizes t c.args.table.now c.placing.table w.enter_refblock.new.self (known_in view c.placing.file) (known_in view w.cache_new_block.new.file) first n c.placing.at c.placing.cluster c.rb_bits-bits.result w.in_ok-block.block
                  c.requires.room.above inv.low from inv.counts t_bits longer.entries open_here within enter offset before.2 before.3 w.in_ok-block.ensures.whole format counts stands outside,
            );
      }
      | else-opens_range+in_ok-bring_to_front w ↦ record {
        step = table_step_as refl w.file-is (table_step_then inv.step w.bring_to_front.ensures.step);
        faults = subst (λ f. faults_of g.S.Storage.view f.storage ≡ faults_of g.S.Storage.view old.storage) (sym w.file-is) (w.in_ok-bring_to_front.ensures.fails.told ∙ inv.faults);
        rest = subst (λ (x : EntryTableView). x ≡ record c.args.table.now { bytes = x.bytes }) (sym w.table-is) inv.rest;
        as_long = ap (λ x. length x.bytes) w.table-is ∙ inv.as_long;
        lacking = subst (NamesLacking t c.args.table.now) (sym w.table-is) inv.lacking;
        counts = inv.counts;
        bits = inv.bits;
        end_is = inv.end_is;
        low = let is = w.at-is in let low = inv.low in omega (arith, is, low);
        high = let is = w.at-is in let high = inv.high in omega (arith, is, high);
        placed = placed_more t (counts_per_block h) first c.placing.at c.if-opens_range.at 0 c.placing.cluster c.opens_range.result inv.low from opens_at (let is = w.at-is in omega (arith, is)) (sym (ap one_if w.if-opens_range.false)) inv.placed;
        sound = λ p sound may longer.
            let q = with_run p c.args.file.now.header.fields c.args.self.now.reftable c.args.room.first (room_length c.args.room) in
            let before = inv.sound p sound may longer in
            let sizes = file_sizes view q old sound.sound in
            let fetched = w.in_ok-bring_to_front.ensures.sound q old first n before.0 before.1 in
            of_three (λ f x m. InternalNewBlocks view q old a f first n × HavePlaces f.header.fields f.caches × EntersSo h t c.args.table.now x first (m - first) (c.placing.cluster + 1) × Counting h (known_in view f) t x first n)
            c.if-opens_range.file w.bring_to_front.new.file c.if-opens_range.table c.placing.table c.if-opens_range.at c.placing.at w.file-is w.table-is w.at-is
            (fetched.blocks, fetched.places, enters_none h t c.args.table.now c.placing.table first (c.placing.at - first) c.placing.cluster from sizes.counts before.2 (sym opens_at ∙ w.if-opens_range.false), subst (λ (b : Bytes). Counting h b t c.placing.table first n) (sym fetched.known) before.3);
      }
    ]

pub returns-clause-sound : goal.returns-clause-sound
returns-clause-sound g c = λ p sound may longer.
    let h = c.args.file.now.header.fields in
    let t = c.args.self.now.reftable in
    let first = c.args.room.first in
    let n = room_length c.args.room in
    let inv = c.placing.invariant in
    let before = inv.sound p sound may longer in
    let at_end : c.placing.cluster ≡ first + n = (let past = c.placing-test.false in let le = c.placing.auto.cluster-end in let end = inv.end_is in omega (arith, past, le, end)) in
    let blocks : c.placing.at - first ≡ c.args.room.blocks = inv.placed ∙ ap (opened t (counts_per_block h) first) (let e : c.placing.cluster - first ≡ n = omega (arith, at_end) in e) ∙ sym c.requires.room.blocks in
    let enters = subst (λ m. EntersSo h t c.args.table.now c.placing.table first m c.placing.cluster) blocks before.2 in
    record {
      blocks = before.0;
      places = before.1;
      grown = record {
        cluster = refl;
        bits = ap (λ (x : EntryTableView). x.cluster_bits) inv.rest ∙ c.requires.room.bits;
        whole = ap (λ m. 8 * (m / 8)) inv.as_long ∙ longer.whole;
        keeps = enters.keeps;
        aligned = enters.aligned;
        placed = enters.in_room;
        named = λ k. enters.named k ∙ ap (λ m. m + run_at first c.args.room.blocks k) (longer.named k);
        covered = λ k some. let in_run = run_within first n k some in enters.covered k in_run.0 (let lt = in_run.1 in omega (arith, at_end, lt));
      };
      counts = subst (λ (x : HeaderFields). Counting x (known_in g.S.Storage.view c.placing.file) t c.placing.table first n) (sym (ap (λ x. x.fields) inv.step.header)) before.3;
    }

pub run_block-requires-clause-place : goal.run_block-requires-clause-place
run_block-requires-clause-place g c =
    let inv = c.placing.invariant in
    place_here c.args.file.now.header c.placing.file.header c.placing.at c.placing.cluster c.args.room.first (room_length c.args.room) _ c.new-place.result inv.step.header c.new-place.ensures inv.high c.placing-test.true inv.end_is c.requires.room.near

pub enter_refblock-requires-clause-within : goal.enter_refblock-requires-clause-within
enter_refblock-requires-clause-within g c =
    let inv = c.placing.invariant in
    let h = c.args.file.now.header.fields in
    let first = c.args.room.first in
    let n = room_length c.args.room in
    let within = range_within c.placing.cluster (first + n) (entry_count c.placing.table) (counts_per_block h)
    (let lt = c.placing-test.true in let end = inv.end_is in omega (arith, lt, end)) (subst (λ m. first + n ≤ m / 8 * counts_per_block h) (sym inv.as_long) c.requires.room.within) in
    subst (λ (m : ℕ). c.placing.cluster / m < entry_count c.placing.table) inv.counts within

pub enter_refblock-requires-clause-cluster : goal.enter_refblock-requires-clause-cluster
enter_refblock-requires-clause-cluster g c =
    let inv = c.placing.invariant in
    let fits = at_fits c.placing.at c.placing.cluster c.args.room.first (room_length c.args.room) _ greatest_offset (2 ^ c.args.file.now.header.fields.cluster_bits) inv.high c.placing-test.true inv.end_is c.requires.room.near in
    let bits = ap (λ (x : EntryTableView). x.cluster_bits) inv.rest ∙ c.requires.room.bits in
    subst (λ (m : ℕ). IsHostCluster c.placing.table.cluster_bits m) (sym c.new-place.ensures) (subst (λ (b : ℕ). IsHostCluster b c.placing.at) (sym bits) fits)

pub returns-in_err-block-clause-fails : goal.returns-in_err-block-clause-fails
returns-in_err-block-clause-fails g c =
    fails_since c.placing.invariant.faults (fails_on c.from_residual.result c.in_err-block.field-0.0 c.from_residual.ensures (fails_by c.in_err-block.field-0.0 (other_as c.in_err-block.ensures.memory memory_other) refl (never_unaligned _ c.in_err-block.field-0.0 c.in_err-block.ensures.cause)))

pub returns-clause-fails : goal.returns-clause-fails
returns-clause-fails g c = fails_ok c.placing.invariant.faults

pub returns-in_err-block-clause-table : goal.returns-in_err-block-clause-table
returns-in_err-block-clause-table g c = record { rest = c.placing.invariant.rest; as_long = c.placing.invariant.as_long; lacking = c.placing.invariant.lacking }

pub returns-clause-table : goal.returns-clause-table
returns-clause-table g c = record { rest = c.placing.invariant.rest; as_long = c.placing.invariant.as_long; lacking = c.placing.invariant.lacking }
