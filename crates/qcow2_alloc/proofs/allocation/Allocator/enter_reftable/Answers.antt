use Rattle.std.proofs.Common.{◌≡◌, ◌+◌, ◌*◌, ◌/◌, ◌%◌, ◌^◌, ◌<◌, ◌≤◌, refl, Option, Some, Ok, Err, ℕ, min, Result, ◌∙◌, sym, ap, subst, OnErr, arith, IfSome, IfErr, OnOk}
use Rattle.qcow2_alloc.proofs.Common.{mul-le-mul_left, pow_mono, HeaderView, counts_per_block, entries_per_cluster, EntryTableView, entry_count, greatest_offset, Pending, ImageError, ImageFile, NamesLacking, InternalAllocatorStep, IsCloneOf, with_run, EntersReftable, NamesReftable, AllocatorInvariant, KeepsHeader, IsFaultOr, nameable_clusters, HasNoRoomBelow, HasNoRoomFor, LiesLowest, KeepsUsed, IsUsed, IsLonger, room_length, opened, EntersRoom, EntersTable, Allocator, Room, HeaderFields}
use Rattle.qcow2_alloc.proofs.Lemmas.{handed_on, is_sound_now, leaves_as, cause_as, search_by, search_then, uses_refused, header_same, header_then, header_counts, still_noted, fails_on, fails_since, pointer_step_on, pointer_step_then}
use Rattle.qcow2_alloc.proofs.FullRooms.{no_room_for, lies_lowest, lowest_entered}
use Rattle.qcow2_alloc.proofs.GrownReftables.{clone_clusters, clone_is_longer, entered, uses_entered, names_fault, room_now}
use Rattle.qcow2_alloc.proofs.allocation.Allocator.enter_reftable.Goals as goal

-- the clusters that a reftable has entries for, as 64 bits hold them
few_clusters : (n bits : ℕ) → n ≤ 2 ^ 20 → bits ≤ 24 → n * 2 ^ bits < 2 ^ 64
few_clusters n bits few high = let pow : 2 ^ bits ≤ 2 ^ 24 = pow_mono high in let h : n * 2 ^ bits ≤ n * 2 ^ 24 = mul-le-mul_left n pow in omega (arith, few, h)

lesser : (a a' b b' end e : ℕ) → a < 2 ^ 64 → a ≡ a' → b ≡ b' → end ≡ min (a % 2 ^ 64) b → e ≤ a' → e ≤ b' → e ≤ end
lesser a a' b b' end e fits same_a same_b is low near = omega arith

-- what is said of the table that was entered in a room: a table of whole clusters fills those, and stands behind the header's cluster where its room does
entered_place : {S : Type 0} (r : Result (Unit {0}) ImageError) (reftable table t : EntryTableView) (room : Room) (new : ImageFile S) → OnOk r (EntersRoom reftable table t room new) → OnOk r (t.cluster ≡ Some (room.first + room.blocks))
entered_place (Ok done) reftable table t room new entered = entered.place
entered_place (Err e) reftable table t room new entered = tt

entered_count : {S : Type 0} (r : Result (Unit {0}) ImageError) (reftable table t : EntryTableView) (room : Room) (new : ImageFile S) → OnOk r (EntersRoom reftable table t room new) → OnOk r (entry_count t ≡ entry_count table)
entered_count (Ok done) reftable table t room new entered = entered.entered.count
entered_count (Err e) reftable table t room new entered = tt

enters_table : {S : Type 0} (r : Result (Unit {0}) ImageError) (h : HeaderFields) (reftable' reftable table t : EntryTableView) (room : Room) (new : ImageFile S) → reftable' ≡ reftable → 0 < room.first → table.cluster_bits ≡ h.cluster_bits
    → OnOk r (EntersRoom reftable' table t room new) → OnOk r (EntersTable h reftable table t new)
enters_table (Ok done) h reftable' reftable table t room new is above same entered =
    let so = entered.entered in
    record {
      entered = record { count = so.count; lacking = subst (λ (x : EntryTableView). NamesLacking x table t) is so.lacking; recorded = so.recorded };
      fills = λ whole. record {
        whole = subst (λ n. n % (2 ^ t.cluster_bits / 8) ≡ 0) (sym so.count) (subst (λ b. entry_count table % (2 ^ b / 8) ≡ 0) (sym (so.lacking.behind.bits ∙ same)) whole);
        elsewhere = subst (λ (v : Option ℕ). IfSome v (λ c. 0 < c)) (sym entered.place) (omega (arith, above));
      };
    }
enters_table (Err e) h reftable' reftable table t room new is above same entered = tt

pub returns-in_err-room-clause-sound : goal.returns-in_err-room-clause-sound
returns-in_err-room-clause-sound g c = λ p sound clone whole.
    record {
      enters = handed_on (EntersReftable g.S.Storage.view p c.args.file.now c.allocate_room.new.self c.allocate_room.new.file) c.from_residual.result c.in_err-room.field-0.0 c.from_residual.ensures
          (leaves_as g.S.Storage.view p c.args.file.now c.allocate_room.new.file c.allocate_room.new.self c.in_err-room.field-0.0 ((c.in_err-room.ensures.sound p sound).takes));
      uses = handed_on (KeepsUsed g.S.Storage.view c.args.file.now c.allocate_room.new.file) c.from_residual.result c.in_err-room.field-0.0 c.from_residual.ensures
          (uses_refused g.S.Storage.view p c.args.file.now c.allocate_room.new.file c.allocate_room.new.self c.in_err-room.field-0.0 ((c.in_err-room.ensures.sound p sound).takes));
      lowest = λ hint. handed_on (λ (r : Result (Unit {0}) ImageError). OnOk r (LiesLowest (IsUsed g.S.Storage.view c.allocate_room.new.file) c.allocate_room.new.file.header.fields c.args.self.now.reftable c.allocate_room.new.self.reftable)) c.from_residual.result c.in_err-room.field-0.0 c.from_residual.ensures tt;
      limit = λ hint. let view = g.S.Storage.view in
          let t = c.args.self.now.reftable in
          let new = c.allocate_room.new.file in
          let length : ℕ = entry_count c.args.table in
          let header = c.allocate_room.ensures.step.header in
          let clusters : c.value.result ≡ length / entries_per_cluster new.header.fields = clone_clusters view p c.args.file.now t c.args.table c.value.result sound.sound sound.reftable clone whole (c.value.ensures ∙ c.cluster_count.ensures) ∙ ap (λ (h : HeaderView). length / entries_per_cluster h.fields) (sym header) in
          let named : c.len.result * 2 ^ c.rb_bits.result ≡ length * counts_per_block new.header.fields = ap (λ n. n * 2 ^ c.rb_bits.result) c.len.ensures.value ∙ ap (λ n. length * n) (sym c.rb_bits.ensures.counts) ∙ ap (λ (h : HeaderView). length * counts_per_block h.fields) (sym header) in
          let nameable : greatest_offset / 2 ^ c.cluster_bits-bits.result + 1 ≡ nameable_clusters new.header.fields = ap (λ n. greatest_offset / 2 ^ n + 1) c.cluster_bits-bits.ensures.value ∙ ap (λ (h : HeaderView). nameable_clusters h.fields) (sym header) in
          let fits = few_clusters c.len.result c.rb_bits.result c.len.ensures.limit c.rb_bits.ensures.high in
          handed_on (λ (r : Result (Unit {0}) ImageError). IfErr r (IsFaultOr ((c.allocate_room.new.self.reftable ≡ t) × HasNoRoomFor (IsUsed view new) new.header.fields (λ k. 0) t length))) c.from_residual.result c.in_err-room.field-0.0 c.from_residual.ensures
          (cause_as (HasNoRoomBelow (IsUsed view new) new.header.fields (λ k. 0) t c.value.result c.min-end.result) ((c.allocate_room.new.self.reftable ≡ t) × HasNoRoomFor (IsUsed view new) new.header.fields (λ k. 0) t length) c.in_err-room.field-0.0
          (λ none. (c.allocate_room.ensures.reftable, no_room_for view new (λ k. 0) t c.value.result length c.min-end.result clusters (λ e low near. lesser (c.len.result * 2 ^ c.rb_bits.result) (length * counts_per_block new.header.fields) (greatest_offset / 2 ^ c.cluster_bits-bits.result + 1) (nameable_clusters new.header.fields) c.min-end.result e fits named nameable c.min-end.ensures low near) none))
          ((c.in_err-room.ensures.sound p sound).limit hint));
    }

pub returns : goal.returns
returns g c = record {
  step = pointer_step_then (pointer_step_on c.allocate_room.ensures.step) c.write_reftable.ensures.step;
  fails = fails_since c.in_ok-room.ensures.fails.told c.write_reftable.ensures.fails;
  sound = λ p sound clone whole.
      let view = g.S.Storage.view in
      let a = c.args.file.now in
      let t = c.args.self.now.reftable in
      let u = c.allocate_room.new.self in
      let first = c.in_ok-room.room.first in
      let n = room_length c.in_ok-room.room in
      let q : Pending = with_run p c.args.file.now.header.fields c.args.self.now.reftable first n in
      let b : ImageFile g.row.S.Denot = c.allocate_room.new.file in
      let room : InternalAllocatorStep view p a c.allocate_room.new.self b q = (c.in_ok-room.ensures.sound p sound).takes in
      let now = is_sound_now view p (with_run p b.header.fields t first n) a b u (room_now view p a b c.write_reftable.new.file u c.write_reftable.new.self t first n c.allocate_room.ensures.step.header room) in
      let same = c.allocate_room.ensures.reftable in
      let longer : IsLonger b.header.fields c.allocate_room.new.self.reftable c.args.table c.in_ok-room.room.clusters = clone_is_longer view (with_run p b.header.fields t first n) b u.reftable c.args.table c.in_ok-room.room.clusters now.sound now.reftable (subst (λ (x : EntryTableView). IsCloneOf x c.args.table) (sym same) clone)
      (ap (λ (h : HeaderView). entry_count c.args.table % entries_per_cluster h.fields) c.allocate_room.ensures.step.header ∙ whole) (c.in_ok-room.ensures.room.clusters ∙ c.value.ensures ∙ c.cluster_count.ensures) in
      let sound_now = subst (λ (x : EntryTableView). AllocatorInvariant view u (with_run p b.header.fields x first n) b) (sym same) now in
      record {
        enters = entered view p a b c.write_reftable.new.file u c.write_reftable.new.self t first n c.allocate_room.ensures.step.header room c.write_reftable.result
            (still_noted a.header.fields t first n b.caches.is_changed c.write_reftable.new.file.caches.is_changed c.write_reftable.ensures.step.marks.pins.changes.recorded c.in_ok-room.ensures.room.recorded)
            (subst (λ (x : EntryTableView). NamesReftable view (with_run p b.header.fields x first n) p b c.write_reftable.new.self c.write_reftable.new.file c.write_reftable.result) same ((c.write_reftable.ensures.sound p sound_now longer).names));
        uses = uses_entered view p a b c.write_reftable.new.file u c.write_reftable.new.self t first n c.allocate_room.ensures.step.header room c.write_reftable.result ((c.write_reftable.ensures.sound p sound_now longer).uses);
        lowest = λ hint. let uses = (c.write_reftable.ensures.sound p sound_now longer).uses in
            let new = c.write_reftable.new.file in
            let length : ℕ = entry_count c.args.table in
            let keeps : KeepsHeader a.header new.header = header_then a.header b.header new.header (header_same a.header b.header c.allocate_room.ensures.step.header) c.write_reftable.ensures.step.header in
            let per : counts_per_block new.header.fields ≡ counts_per_block a.header.fields = header_counts a.header new.header keeps in
            let entries : entries_per_cluster new.header.fields ≡ entries_per_cluster a.header.fields = ap (λ (k : HeaderView). entries_per_cluster k.fields) keeps in
            let clusters : c.value.result ≡ length / entries_per_cluster new.header.fields = clone_clusters view p a t c.args.table c.value.result sound.sound sound.reftable clone whole (c.value.ensures ∙ c.cluster_count.ensures) ∙ ap (λ m. length / m) (sym entries) in
            let named : c.len.result * 2 ^ c.rb_bits.result ≡ length * counts_per_block new.header.fields = ap (λ n. n * 2 ^ c.rb_bits.result) c.len.ensures.value ∙ ap (λ n. length * n) (sym c.rb_bits.ensures.counts) ∙ ap (λ n. length * n) (sym per) in
            let nameable : greatest_offset / 2 ^ c.cluster_bits-bits.result + 1 ≡ nameable_clusters new.header.fields = ap (λ n. greatest_offset / 2 ^ n + 1) c.cluster_bits-bits.ensures.value ∙ ap (λ (k : HeaderView). nameable_clusters k.fields) (sym keeps) in
            let fits = few_clusters c.len.result c.rb_bits.result c.len.ensures.limit c.rb_bits.ensures.high in
            let lacks : c.in_ok-room.room.blocks ≡ opened t (counts_per_block new.header.fields) first (c.in_ok-room.room.blocks + c.value.result) = c.in_ok-room.ensures.room.blocks ∙ ap (λ m. opened t m first n) (sym per) ∙ ap (λ m. opened t (counts_per_block new.header.fields) first (c.in_ok-room.room.blocks + m)) c.in_ok-room.ensures.room.clusters in
            let lowest = (c.in_ok-room.ensures.sound p sound).lowest hint in
            lies_lowest view new t c.write_reftable.new.self.reftable first c.in_ok-room.room.blocks c.value.result c.min-end.result c.write_reftable.result length c.in_ok-room.ensures.room.above (entered_place c.write_reftable.result c.allocate_room.new.self.reftable c.args.table c.write_reftable.new.self.reftable c.in_ok-room.room c.write_reftable.new.file c.write_reftable.ensures.entered) (entered_count c.write_reftable.result c.allocate_room.new.self.reftable c.args.table c.write_reftable.new.self.reftable c.in_ok-room.room c.write_reftable.new.file c.write_reftable.ensures.entered) clusters lacks
            (λ e low near. lesser (c.len.result * 2 ^ c.rb_bits.result) (length * counts_per_block new.header.fields) (greatest_offset / 2 ^ c.cluster_bits-bits.result + 1) (nameable_clusters new.header.fields) c.min-end.result e fits named nameable c.min-end.ensures low near)
            (lowest_entered view b new t c.value.result c.min-end.result first c.write_reftable.result (per ∙ ap (λ (h : HeaderView). counts_per_block h.fields) (sym c.allocate_room.ensures.step.header)) uses lowest);
        limit = λ hint. names_fault view (with_run p b.header.fields c.allocate_room.new.self.reftable first n) p b c.write_reftable.new.file c.write_reftable.new.self _ c.write_reftable.result ((c.write_reftable.ensures.sound p sound_now longer).names);
      };
  entered =
      enters_table c.write_reftable.result c.args.file.now.header.fields c.allocate_room.new.self.reftable c.args.self.now.reftable c.args.table c.write_reftable.new.self.reftable c.in_ok-room.room c.write_reftable.new.file
      c.allocate_room.ensures.reftable c.in_ok-room.ensures.room.above (sym c.cluster_bits.ensures.value ∙ c.if-cluster_bits-bits.false ∙ c.cluster_bits-bits.ensures.value) c.write_reftable.ensures.entered;
  kept = subst (λ (t : EntryTableView). OnErr c.write_reftable.result (c.write_reftable.new.self.reftable ≡ t)) c.allocate_room.ensures.reftable c.write_reftable.ensures.kept;
  first = search_then c.args.self.now c.allocate_room.new.self c.write_reftable.new.self c.allocate_room.ensures.first (search_by c.allocate_room.new.self _ c.write_reftable.new.self c.write_reftable.ensures.rest refl (λ k passed. passed));
  leaks = λ p sound. ap (λ (a : Allocator). a.leaked_clusters) c.write_reftable.ensures.rest ∙ (c.allocate_room.ensures.sound p sound).leaks;
}

pub returns-in_err-room-clause-step : goal.returns-in_err-room-clause-step
returns-in_err-room-clause-step g c = pointer_step_on c.allocate_room.ensures.step

pub returns-in_err-room-clause-fails : goal.returns-in_err-room-clause-fails
returns-in_err-room-clause-fails g c = fails_on c.from_residual.result c.in_err-room.field-0.0 c.from_residual.ensures c.in_err-room.ensures.fails

pub returns-in_err-room-clause-leaks : goal.returns-in_err-room-clause-leaks
returns-in_err-room-clause-leaks g c = λ p sound. (c.allocate_room.ensures.sound p sound).leaks
