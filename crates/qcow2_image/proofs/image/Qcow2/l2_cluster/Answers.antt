use Rattle.std.proofs.Common.{◌≡◌, ◌*◌, ◌/◌, ◌%◌, ◌^◌, sym, ap, ◌∙◌, arith, refl}
use Rattle.qcow2_image.proofs.Common.{host_offset, entry_at, l1_index_of}
use Rattle.qcow2_image.proofs.Lemmas.{named_aligned, whole_quotient}
use Rattle.qcow2_image.proofs.image.Qcow2.l2_cluster.Goals as goal

pub returns-in_default-clause-own : goal.returns-in_default-clause-own
returns-in_default-clause-own g c =
    let old = c.args.self.now in
    let idx : c.l1_index.result ≡ l1_index_of old.file.header.fields c.args.offset =
    c.l1_index.ensures ∙ ap (λ n. n / 2 ^ c.cluster_bits-bits.result / (2 ^ c.cluster_bits-bits.result / 8)) c.new.ensures ∙ ap (λ b. c.args.offset / 2 ^ b / (2 ^ b / 8)) c.cluster_bits-bits.ensures.value in
    ap (λ i. host_offset (entry_at old.l1_table.bytes i)) (sym idx) ∙ c.in_default.ensures.none

pub returns-in-Some-checked_cluster-clause-own : goal.returns-in-Some-checked_cluster-clause-own
returns-in-Some-checked_cluster-clause-own g c =
    let old = c.args.self.now in
    let idx : c.l1_index.result ≡ l1_index_of old.file.header.fields c.args.offset =
    c.l1_index.ensures ∙ ap (λ n. n / 2 ^ c.cluster_bits-bits.result / (2 ^ c.cluster_bits-bits.result / 8)) c.new.ensures ∙ ap (λ b. c.args.offset / 2 ^ b / (2 ^ b / 8)) c.cluster_bits-bits.ensures.value in
    let place : c.in-Some.entry.offset ≡ host_offset (entry_at old.l1_table.bytes (l1_index_of old.file.header.fields c.args.offset)) = c.in-Some.ensures.offset ∙ ap (λ i. host_offset (entry_at old.l1_table.bytes i)) idx in (
      whole_quotient old.file.header.fields.cluster_bits c.in-Some-checked_cluster.cluster _ (sym (ap (λ b. c.in-Some-checked_cluster.cluster * 2 ^ b) c.cluster_bits-bits.ensures.value) ∙ c.in-Some-checked_cluster.ensures.cluster ∙ place),
      λ none. let some = c.in-Some.ensures.some in let zero = place ∙ none in omega (arith, some, zero),
    )

pub returns-in-None-clause-reads : goal.returns-in-None-clause-reads
returns-in-None-clause-reads g c = λ p out sound.
    let old = c.args.self.now in
    let place = c.in-Some.ensures.offset in
    absurd (c.in-None.ensures.none (ap (λ b. c.in-Some.entry.offset % 2 ^ b) c.cluster_bits-bits.ensures.value ∙ ap (λ n. n % 2 ^ old.file.header.fields.cluster_bits) place
    ∙ named_aligned g.S.Storage.view g.F.BackingDisk.backing out p old sound c.l1_index.result (λ none. let some = c.in-Some.ensures.some in let zero = place ∙ none in omega (arith, some, zero))))

pub returns-in-None-clause-cause : goal.returns-in-None-clause-cause
returns-in-None-clause-cause g c =
    let old = c.args.self.now in
    let bits = c.cluster_bits-bits.ensures.value in
    let idx : c.l1_index.result ≡ l1_index_of old.file.header.fields c.args.offset =
    c.l1_index.ensures ∙ ap (λ n. n / 2 ^ c.cluster_bits-bits.result / (2 ^ c.cluster_bits-bits.result / 8)) c.new.ensures ∙ ap (λ b. c.args.offset / 2 ^ b / (2 ^ b / 8)) bits in
    let place : c.in-Some.entry.offset ≡ host_offset (entry_at old.l1_table.bytes (l1_index_of old.file.header.fields c.args.offset)) = c.in-Some.ensures.offset ∙ ap (λ i. host_offset (entry_at old.l1_table.bytes i)) idx in
    (refl, λ aligned. c.in-None.ensures.none (ap (λ n. n % 2 ^ c.cluster_bits-bits.result) place ∙ ap (λ b. host_offset (entry_at old.l1_table.bytes (l1_index_of old.file.header.fields c.args.offset)) % 2 ^ b) bits ∙ aligned))
