use Rattle.std.proofs.Common.{◌≡◌, ◌+◌, ◌-◌, ◌/◌, ◌%◌, ◌^◌, ◌<◌, ℕ, sym, ap, ◌∙◌, subst, arith, min, refl, is_some, Some, false, true, inl}
use Rattle.qcow2_image.proofs.Common.{cluster_size, entries_per_cluster, cover, IsLongestRun, Sizes-from, IsTop-top, contents_in, known_in, is_beside, kind_in, mapping_of, l1_index_of, IsRunBehind, l2_at, IsLongestSo, named_place, HasUnalignedAt, IsUnalignedIn, UnalignedTable, of_metadata, IsCompressed, L2TableView}
use Rattle.qcow2_image.proofs.Lemmas.{cluster_near, says_known, run_found, run_held, hands_met, unaligned_from}
use Rattle.qcow2_image.proofs.Map.Special.{special_found}
use Rattle.qcow2_image.proofs.Map.Aligned.{entries_aligned}
use Rattle.qcow2_image.proofs.Map.Looked.{compressed_there, kind_alone}
use Rattle.qcow2_image.proofs.image.Qcow2.run_in_table.Goals as goal

pub alike_behind-requires-clause-near : goal.alike_behind-requires-clause-near
alike_behind-requires-clause-near g c =
    subst (λ n. n < 2 ^ 62) (sym (c.cluster-2.ensures ∙ ap (λ o. o / 2 ^ c.cluster_bits-bits.result) c.new-guest.ensures)) (cluster_near c.args.offset c.cluster_bits-bits.result (omega (arith, c.ranges.offset.fits)) c.cluster_bits-bits.ensures.low)

pub returns-clause-run : goal.returns-clause-run
returns-clause-run g c = λ p sound alone at le.
    let h = c.args.self.now.file.header.fields in
    let known = known_in g.S.Storage.view c.args.self.now.file in
    let crash_invariant = sound.caches.kept.kept.crash_invariant in
    let sizes = Sizes-from h known (IsTop-top h (contents_in g.S.Storage.view c.args.self.now.file) known crash_invariant.same_top crash_invariant.top).header_reads in
    let t = c.in-Some.table.now in
    let shows = λ (index : ℕ) (lt : index < entries_per_cluster h). c.in-Some.ensures.shows h p (contents_in g.S.Storage.view c.args.self.now.file) (l1_index_of h c.args.offset) index sound.caches (record { real = at.real; place = at.place; within = lt }) in
    let format = (shows (c.args.offset / cluster_size h % entries_per_cluster h) at.within).format in
    let says = says_known h known t (l1_index_of h c.args.offset) sizes at.real format (λ index lt. (shows index lt).entry) in
    let bits = c.cluster_bits-bits.ensures.value in
    let own : c.cluster.result ≡ c.args.offset / cluster_size h = c.cluster.ensures ∙ ap (λ o. o / 2 ^ c.cluster_bits-bits.result) c.new-guest.ensures ∙ ap (λ b. c.args.offset / 2 ^ b) bits in
    let own2 : c.cluster-2.result ≡ c.args.offset / cluster_size h = c.cluster-2.ensures ∙ ap (λ o. o / 2 ^ c.cluster_bits-bits.result) c.new-guest.ensures ∙ ap (λ b. c.args.offset / 2 ^ b) bits in
    let first : c.in_ok-first.first ≡ cover h known (c.args.offset / cluster_size h) = c.in_ok-first.ensures.ok ∙ ap (mapping_of t) own ∙ says (c.args.offset / cluster_size h) refl in
    let rest : c.remaining_in_cluster-rest.result ≡ cluster_size h - c.args.offset % cluster_size h =
    let e = c.remaining_in_cluster-rest.ensures in
    let f : c.new-guest.result % 2 ^ c.cluster_bits-bits.result ≡ c.args.offset % cluster_size h = ap (λ o. o % 2 ^ c.cluster_bits-bits.result) c.new-guest.ensures ∙ ap (λ b. c.args.offset % 2 ^ b) bits in
    let k : 2 ^ c.cluster_bits-bits.result ≡ cluster_size h = ap (λ b. 2 ^ b) bits in omega arith in
    let more : c.saturating_sub.result ≡ c.args.max - (cluster_size h - c.args.offset % cluster_size h) = c.saturating_sub.ensures ∙ ap (λ n. c.args.max - n) rest in
    let behind : IsRunBehind t (c.args.offset / cluster_size h) (c.args.max - (cluster_size h - c.args.offset % cluster_size h)) c.in_ok-behind.behind =
    subst (λ n. IsRunBehind t (c.args.offset / cluster_size h) n c.in_ok-behind.behind) more (subst (λ n. IsRunBehind t n c.saturating_sub.result c.in_ok-behind.behind) own2 c.in_ok-behind.ensures.run) in
    let is : c.min.result ≡ min (cluster_size h - c.args.offset % cluster_size h + c.in_ok-behind.behind) c.args.max = c.min.ensures ∙ ap (λ n. min (n + c.in_ok-behind.behind) c.args.max) rest in
    record {
      kind_is = c.kind_of.ensures.value ∙ ap (kind_in h (is_beside c.args.self.now) (is_some c.args.self.now.backing) c.args.offset) first
          ∙ kind_alone c.args.self.now alone c.args.offset (cover h known (c.args.offset / cluster_size h));
      longest = subst (IsLongestRun h known c.args.offset c.args.max) (sym is) (run_found h c.args.offset sizes known t format.bits says c.args.max le c.in_ok-behind.behind behind);
    }

pub returns-clause-held : goal.returns-clause-held
returns-clause-held g c = λ own_is named.
    let image = c.args.self.now in
    let h = image.file.header.fields in
    let t = c.in-Some.table.now in
    let bits = c.cluster_bits-bits.ensures.value in
    let held : l2_at image.file.caches (named_place h image.l1_table c.args.offset / cluster_size h) ≡ Some t = ap (l2_at image.file.caches) (sym own_is) ∙ sym c.in-Some.ensures.value in
    let own : c.cluster.result ≡ c.args.offset / cluster_size h = c.cluster.ensures ∙ ap (λ o. o / 2 ^ c.cluster_bits-bits.result) c.new-guest.ensures ∙ ap (λ b. c.args.offset / 2 ^ b) bits in
    let own2 : c.cluster-2.result ≡ c.args.offset / cluster_size h = c.cluster-2.ensures ∙ ap (λ o. o / 2 ^ c.cluster_bits-bits.result) c.new-guest.ensures ∙ ap (λ b. c.args.offset / 2 ^ b) bits in
    let rest : c.remaining_in_cluster-rest.result ≡ cluster_size h - c.args.offset % cluster_size h =
    let e = c.remaining_in_cluster-rest.ensures in
    let f : c.new-guest.result % 2 ^ c.cluster_bits-bits.result ≡ c.args.offset % cluster_size h = ap (λ o. o % 2 ^ c.cluster_bits-bits.result) c.new-guest.ensures ∙ ap (λ b. c.args.offset % 2 ^ b) bits in
    let k : 2 ^ c.cluster_bits-bits.result ≡ cluster_size h = ap (λ b. 2 ^ b) bits in omega arith in
    let more : c.saturating_sub.result ≡ c.args.max - (cluster_size h - c.args.offset % cluster_size h) = c.saturating_sub.ensures ∙ ap (λ n. c.args.max - n) rest in
    let behind : IsRunBehind t (c.args.offset / cluster_size h) (c.args.max - (cluster_size h - c.args.offset % cluster_size h)) c.in_ok-behind.behind =
    subst (λ n. IsRunBehind t (c.args.offset / cluster_size h) n c.in_ok-behind.behind) more (subst (λ n. IsRunBehind t n c.saturating_sub.result c.in_ok-behind.behind) own2 c.in_ok-behind.ensures.run) in
    let is : c.min.result ≡ min (cluster_size h - c.args.offset % cluster_size h + c.in_ok-behind.behind) c.args.max = c.min.ensures ∙ ap (λ n. min (n + c.in_ok-behind.behind) c.args.max) rest in
    let first = c.kind_of.ensures.value ∙ ap (λ n. kind_in h (is_beside image) (is_some image.backing) c.args.offset n) (c.in_ok-first.ensures.ok ∙ ap (mapping_of t) own) in
    record {
      plain = λ compressed. let same : Some t ≡ Some compressed.table = sym held ∙ compressed.held in
          let table : t ≡ compressed.table = cc in
          special_found h (is_beside image) (is_some image.backing) c.args.offset (mapping_of t (c.args.offset / cluster_size h)) c.kind_of.result first (subst (λ (x : L2TableView). IsCompressed (mapping_of x (c.args.offset / cluster_size h))) (sym table) compressed.compressed);
      special = λ so. record { named = named; table = t; held = held; compressed = compressed_there h (is_beside image) (is_some image.backing) c.args.offset c.kind_of.result (mapping_of t (c.args.offset / cluster_size h)) first so };
      whole = c.kind_of.ensures.whole;
      run = λ limit short below. subst (IsLongestSo h (is_beside image) (is_some image.backing) image.l1_table image.file.caches c.args.offset limit c.kind_of.result) (sym is)
          (run_held h (is_beside image) (is_some image.backing) image.l1_table image.file.caches c.args.offset c.args.max limit short below t named held c.kind_of.result first c.in_ok-behind.behind behind);
    }

pub returns-in_err-first-clause-reads : goal.returns-in_err-first-clause-reads
returns-in_err-first-clause-reads g c = λ p sound at le.
    absurd (c.in_err-first.ensures.err.1 (entries_aligned g.S.Storage.view c.args.self.now.file p c.in-Some.table.now c.args.table _ _ sound c.in-Some.ensures.shows at c.cluster.result))

pub returns-in_err-behind-clause-reads : goal.returns-in_err-behind-clause-reads
returns-in_err-behind-clause-reads g c = λ p sound at le.
    absurd (let no : false ≡ true = c.in_err-behind.ensures.reads (entries_aligned g.S.Storage.view c.args.self.now.file p c.in-Some.table.now c.args.table _ _ sound c.in-Some.ensures.shows at) in cc)

pub returns-in_err-first-clause-cause : goal.returns-in_err-first-clause-cause
returns-in_err-first-clause-cause g c =
    let image = c.args.self.now in
    let h = image.file.header.fields in
    let own : c.cluster.result ≡ c.args.offset / cluster_size h = c.cluster.ensures ∙ ap (λ o. o / 2 ^ c.cluster_bits-bits.result) c.new-guest.ensures ∙ ap (λ b. c.args.offset / 2 ^ b) c.cluster_bits-bits.ensures.value in
    hands_met (λ e. (e ≡ UnalignedTable) × HasUnalignedAt h image.file.caches c.args.table c.args.offset c.args.max) c.from_residual.result (of_metadata c.in_err-first.field-0.0) c.from_residual.ensures (
      ap of_metadata c.in_err-first.ensures.err.0,
      (c.in-Some.table.now, sym c.in-Some.ensures.value, inl (subst (IsUnalignedIn c.in-Some.table.now) own c.in_err-first.ensures.err.1)),
    )

pub returns-in_err-behind-clause-cause : goal.returns-in_err-behind-clause-cause
returns-in_err-behind-clause-cause g c =
    let image = c.args.self.now in
    let h = image.file.header.fields in
    let bits = c.cluster_bits-bits.ensures.value in
    let own : c.cluster-2.result ≡ c.args.offset / cluster_size h = c.cluster-2.ensures ∙ ap (λ o. o / 2 ^ c.cluster_bits-bits.result) c.new-guest.ensures ∙ ap (λ b. c.args.offset / 2 ^ b) bits in
    let rest : c.remaining_in_cluster-rest.result ≡ cluster_size h - c.args.offset % cluster_size h =
    let e = c.remaining_in_cluster-rest.ensures in
    let f : c.new-guest.result % 2 ^ c.cluster_bits-bits.result ≡ c.args.offset % cluster_size h = ap (λ o. o % 2 ^ c.cluster_bits-bits.result) c.new-guest.ensures ∙ ap (λ b. c.args.offset % 2 ^ b) bits in
    let k : 2 ^ c.cluster_bits-bits.result ≡ cluster_size h = ap (λ b. 2 ^ b) bits in omega arith in
    let more : c.saturating_sub.result ≡ c.args.max - (cluster_size h - c.args.offset % cluster_size h) = c.saturating_sub.ensures ∙ ap (λ n. c.args.max - n) rest in
    hands_met (λ e. (e ≡ UnalignedTable) × HasUnalignedAt h image.file.caches c.args.table c.args.offset c.args.max) c.from_residual-in_err-behind.result c.in_err-behind.field-0.0 c.from_residual-in_err-behind.ensures (
      c.in_err-behind.ensures.cause.0,
      (c.in-Some.table.now, sym c.in-Some.ensures.value, unaligned_from h c.in-Some.table.now c.args.offset c.args.max c.cluster-2.result c.saturating_sub.result own more c.in_err-behind.ensures.cause.1),
    )
