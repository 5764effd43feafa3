use Rattle.std.proofs.Common.{◌≡◌, ◌⊎◌, ◌*◌, ◌/◌, ◌^◌, ◌≤◌, Ok, arith, sym, ap, ◌∙◌, subst, inr, inl, rules}
use Rattle.qcow2_image.proofs.Common.{HasNearEntry, HasOwnTable, host_offset, is_copied, l1_index_of, OwnsTable, MayName, entry_count, entry_at, NamesOwn, HasOwnEntry, HeaderView, on_ok_weaker}
use Rattle.qcow2_image.proofs.Lemmas.{step_none, refused, left_alone, says_none, entered_owns, owns_already, lacks_past, not_within, owns_or_lacks, behind_first, whole_quotient}
use Rattle.qcow2_image.proofs.image.Qcow2.writable_l2_cluster.Goals as goal
use Rattle.qcow2_image.proofs.Prepare.WritableL2Table.{may_none}

pub returns-in_default-clause-quiet : goal.returns-in_default-clause-quiet
returns-in_default-clause-quiet g c = λ own.
    let old = c.args.self.now in
    let idx : c.l1_index-index.result ≡ l1_index_of old.file.header.fields c.args.offset =
    c.l1_index-index.ensures ∙ ap (λ n. n / 2 ^ c.cluster_bits-bits.result / (2 ^ c.cluster_bits-bits.result / 8)) c.new.ensures ∙ ap (λ b. c.args.offset / 2 ^ b / (2 ^ b / 8)) c.cluster_bits-bits.ensures.value in
    absurd (own.0 (ap (λ i. host_offset (entry_at old.l1_table.bytes i)) (sym idx) ∙ c.in_default.ensures.none))

pub returns-clause-quiet : goal.returns-clause-quiet
returns-clause-quiet g c = λ own.
    let old = c.args.self.now in
    let idx : c.l1_index-index.result ≡ l1_index_of old.file.header.fields c.args.offset =
    c.l1_index-index.ensures ∙ ap (λ n. n / 2 ^ c.cluster_bits-bits.result / (2 ^ c.cluster_bits-bits.result / 8)) c.new.ensures ∙ ap (λ b. c.args.offset / 2 ^ b / (2 ^ b / 8)) c.cluster_bits-bits.ensures.value in
    absurd (let is = sym own.1 ∙ ap (λ i. is_copied (entry_at old.l1_table.bytes i)) (sym idx) ∙ sym c.in-Some.ensures.copied ∙ c.if-entry.false in cc)

pub returns-then-entry-clause-elsewhere : goal.returns-then-entry-clause-elsewhere
returns-then-entry-clause-elsewhere g c = behind_first c.cluster_bits-bits.result c.in-Some-checked_cluster.cluster c.in-Some.entry.offset c.in-Some-checked_cluster.ensures.cluster c.in-Some.ensures.some

pub returns-then-entry-clause-own : goal.returns-then-entry-clause-own
returns-then-entry-clause-own g c = λ own.
    let old = c.args.self.now in
    let idx : c.l1_index-index.result ≡ l1_index_of old.file.header.fields c.args.offset =
    c.l1_index-index.ensures ∙ ap (λ n. n / 2 ^ c.cluster_bits-bits.result / (2 ^ c.cluster_bits-bits.result / 8)) c.new.ensures ∙ ap (λ b. c.args.offset / 2 ^ b / (2 ^ b / 8)) c.cluster_bits-bits.ensures.value in
    let place : c.in-Some.entry.offset ≡ host_offset (entry_at c.args.self.now.l1_table.bytes (l1_index_of c.args.self.now.file.header.fields c.args.offset)) = sym (sym (ap (λ i. host_offset (entry_at old.l1_table.bytes i)) idx) ∙ sym c.in-Some.ensures.offset) in
    whole_quotient old.file.header.fields.cluster_bits c.in-Some-checked_cluster.cluster _ (sym (ap (λ b. c.in-Some-checked_cluster.cluster * 2 ^ b) c.cluster_bits-bits.ensures.value) ∙ c.in-Some-checked_cluster.ensures.cluster ∙ place)

pub returns-in_default-clause-own : goal.returns-in_default-clause-own
returns-in_default-clause-own g c = λ own.
    let old = c.args.self.now in
    let idx : c.l1_index-index.result ≡ l1_index_of old.file.header.fields c.args.offset =
    c.l1_index-index.ensures ∙ ap (λ n. n / 2 ^ c.cluster_bits-bits.result / (2 ^ c.cluster_bits-bits.result / 8)) c.new.ensures ∙ ap (λ b. c.args.offset / 2 ^ b / (2 ^ b / 8)) c.cluster_bits-bits.ensures.value in
    absurd (own.0 (ap (λ i. host_offset (entry_at old.l1_table.bytes i)) (sym idx) ∙ c.in_default.ensures.none))

pub returns-clause-own : goal.returns-clause-own
returns-clause-own g c = λ own.
    let old = c.args.self.now in
    let idx : c.l1_index-index.result ≡ l1_index_of old.file.header.fields c.args.offset =
    c.l1_index-index.ensures ∙ ap (λ n. n / 2 ^ c.cluster_bits-bits.result / (2 ^ c.cluster_bits-bits.result / 8)) c.new.ensures ∙ ap (λ b. c.args.offset / 2 ^ b / (2 ^ b / 8)) c.cluster_bits-bits.ensures.value in
    absurd (let is = sym own.1 ∙ ap (λ i. is_copied (entry_at old.l1_table.bytes i)) (sym idx) ∙ sym c.in-Some.ensures.copied ∙ c.if-entry.false in cc)

pub returns-then-not-in_bounds-clause-step : goal.returns-then-not-in_bounds-clause-step
returns-then-not-in_bounds-clause-step g c = step_none

pub returns-in_err-table-clause-step : goal.returns-in_err-table-clause-step
returns-in_err-table-clause-step g c = step_none

pub returns-then-entry-clause-step : goal.returns-then-entry-clause-step
returns-then-entry-clause-step g c = step_none

pub returns-clause-step : goal.returns-clause-step
returns-clause-step g c = record {
  stays = search rules;
  notes = c.replace_l2.ensures.step.notes;
  header_cluster = c.replace_l2.ensures.step.header_cluster (behind_first c.cluster_bits-bits.result c.in-Some-checked_cluster.cluster c.in-Some.entry.offset c.in-Some-checked_cluster.ensures.cluster c.in-Some.ensures.some);
}

pub returns-then-not-in_bounds-clause-sound : goal.returns-then-not-in_bounds-clause-sound
returns-then-not-in_bounds-clause-sound g c = λ p out sound.
    let view = g.S.Storage.view in
    let below = g.F.BackingDisk.backing in
    let old = c.args.self.now in
    let idx : c.l1_index-index.result ≡ l1_index_of old.file.header.fields c.args.offset =
    c.l1_index-index.ensures ∙ ap (λ n. n / 2 ^ c.cluster_bits-bits.result / (2 ^ c.cluster_bits-bits.result / 8)) c.new.ensures ∙ ap (λ b. c.args.offset / 2 ^ b / (2 ^ b / 8)) c.cluster_bits-bits.ensures.value in
    let past : entry_count old.l1_table ≤ l1_index_of old.file.header.fields c.args.offset = subst (λ i. entry_count old.l1_table ≤ i) idx (not_within c.in_bounds.result c.l1_index-index.result (entry_count old.l1_table) c.in_bounds.ensures c.if-not-in_bounds.true) in
    let lacks = lacks_past view below out p old old sound c.args.offset past in
    record {
      may_fail = search rules;
      does = left_alone view below out p old sound c.l1_index-index.result _;
      limit = λ cause is. elim cause [ inl own ↦ absurd (lacks (subst NamesOwn (sound.l1_table.entries (l1_index_of old.file.header.fields c.args.offset)) own)) | inr near ↦ absurd (let within = near.within in omega (arith, past, within)) ];
      lacks = inr lacks;
    }

pub returns-in_err-table-clause-sound : goal.returns-in_err-table-clause-sound
returns-in_err-table-clause-sound g c = λ p out sound.
    record {
      may_fail = search rules;
      limit = search rules;
      lacks = search rules;
      does = refused (OwnsTable g.S.Storage.view g.F.BackingDisk.backing p c.args.self.now c.args.self.now out (l1_index_of c.args.self.now.file.header.fields c.args.offset)) c.from_residual.result c.from_residual.ensures.0
          (left_alone g.S.Storage.view g.F.BackingDisk.backing out p c.args.self.now sound c.l1_index-index.result);
    }

pub returns-in_default-clause-sound : goal.returns-in_default-clause-sound
returns-in_default-clause-sound g c = λ p out sound.
    let view = g.S.Storage.view in
    let below = g.F.BackingDisk.backing in
    let old = c.args.self.now in
    let idx : c.l1_index-index.result ≡ l1_index_of old.file.header.fields c.args.offset =
    c.l1_index-index.ensures ∙ ap (λ n. n / 2 ^ c.cluster_bits-bits.result / (2 ^ c.cluster_bits-bits.result / 8)) c.new.ensures ∙ ap (λ b. c.args.offset / 2 ^ b / (2 ^ b / 8)) c.cluster_bits-bits.ensures.value in
    let empty = ap host_offset (sym (sound.l1_table.entries c.l1_index-index.result)) ∙ c.in_default.ensures.none in
    let may = may_none view below out p old sound c.l1_index-index.result empty in
    let entered = c.allocate_l2.ensures.sound p out sound may (says_none view below out p old sound c.l1_index-index.result empty c.in_ok-table.table _ c.in_ok-table.ensures.table c.in_ok-table.ensures.zeros) in
    let owns = subst (λ i. OwnsTable view below p old c.allocate_l2.new.self out i c.allocate_l2.result) idx (entered_owns view below out p old sound c.l1_index-index.result empty c.allocate_l2.new.self c.allocate_l2.result entered.does) in
    let near : HasOwnTable old c.args.offset ⊎ HasNearEntry old (l1_index_of old.file.header.fields c.args.offset) → HasNearEntry old c.l1_index-index.result = λ cause. elim cause [
      | inl own ↦ absurd (own.0 (ap (λ i. host_offset (entry_at old.l1_table.bytes i)) (sym idx) ∙ c.in_default.ensures.none))
      | inr near ↦ subst (HasNearEntry old) (sym idx) near
    ] in
    record {
      does = owns;
      may_fail = λ cause. entered.may_fail (near cause);
      limit = λ cause. entered.limit (near cause);
      lacks = owns_or_lacks view below out p old c.allocate_l2.new.self sound c.args.offset (subst (MayName view old) idx may) c.allocate_l2.result owns c.allocate_l2.ensures.l1_table;
    }

pub returns-then-entry-clause-sound : goal.returns-then-entry-clause-sound
returns-then-entry-clause-sound g c = λ p out sound.
    let old = c.args.self.now in
    record {
      may_fail = search rules;
      limit = search rules;
      lacks = search rules;
      does = let idx : c.l1_index-index.result ≡ l1_index_of old.file.header.fields c.args.offset =
          c.l1_index-index.ensures ∙ ap (λ n. n / 2 ^ c.cluster_bits-bits.result / (2 ^ c.cluster_bits-bits.result / 8)) c.new.ensures ∙ ap (λ b. c.args.offset / 2 ^ b / (2 ^ b / 8)) c.cluster_bits-bits.ensures.value in
          let offset = ap host_offset (sym (sound.l1_table.entries c.l1_index-index.result)) ∙ sym c.in-Some.ensures.offset in
          subst (λ i. OwnsTable g.S.Storage.view g.F.BackingDisk.backing p old old out i (Ok c.in-Some-checked_cluster.cluster)) idx
          (owns_already g.S.Storage.view g.F.BackingDisk.backing out p old sound c.l1_index-index.result c.in-Some-checked_cluster.cluster (record {
            place = offset ∙ sym c.in-Some-checked_cluster.ensures.cluster ∙ ap (λ b. c.in-Some-checked_cluster.cluster * 2 ^ b) c.cluster_bits-bits.ensures.value;
            own = ((λ none. absurd (let some = c.in-Some.ensures.some in omega (arith, some, none, offset))), ap is_copied (sym (sound.l1_table.entries c.l1_index-index.result)) ∙ sym c.in-Some.ensures.copied ∙ c.if-entry.true);
          }));
    }

pub returns-clause-sound : goal.returns-clause-sound
returns-clause-sound g c = λ p out sound.
    let view = g.S.Storage.view in
    let below = g.F.BackingDisk.backing in
    let old = c.args.self.now in
    let idx : c.l1_index-index.result ≡ l1_index_of old.file.header.fields c.args.offset =
    c.l1_index-index.ensures ∙ ap (λ n. n / 2 ^ c.cluster_bits-bits.result / (2 ^ c.cluster_bits-bits.result / 8)) c.new.ensures ∙ ap (λ b. c.args.offset / 2 ^ b / (2 ^ b / 8)) c.cluster_bits-bits.ensures.value in
    let offset = ap host_offset (sym (sound.l1_table.entries c.l1_index-index.result)) ∙ sym c.in-Some.ensures.offset in
    let may : MayName view old c.l1_index-index.result = λ own. absurd (let is = sym own.1 ∙ ap is_copied (sym (sound.l1_table.entries c.l1_index-index.result)) ∙ sym c.in-Some.ensures.copied ∙ c.if-entry.false in cc) in
    let replaced = c.replace_l2.ensures.sound p out sound (record {
      place = offset ∙ sym c.in-Some-checked_cluster.ensures.cluster ∙ ap (λ b. c.in-Some-checked_cluster.cluster * 2 ^ b) c.cluster_bits-bits.ensures.value;
      real = λ none. absurd (let some = c.in-Some.ensures.some in omega (arith, some, none, offset));
      may = may;
    }) in
    let owns = subst (λ i. OwnsTable view below p old c.replace_l2.new.self out i c.replace_l2.result) idx replaced.does in
    let near : HasOwnTable old c.args.offset ⊎ HasNearEntry old (l1_index_of old.file.header.fields c.args.offset) → HasNearEntry old c.l1_index-index.result = λ cause. elim cause [
      | inl own ↦ absurd (let is = sym own.1 ∙ ap (λ i. is_copied (entry_at old.l1_table.bytes i)) (sym idx) ∙ sym c.in-Some.ensures.copied ∙ c.if-entry.false in cc)
      | inr near ↦ subst (HasNearEntry old) (sym idx) near
    ] in
    record {
      does = owns;
      may_fail = λ cause. replaced.may_fail (near cause);
      limit = λ cause. replaced.limit (near cause);
      lacks = owns_or_lacks view below out p old c.replace_l2.new.self sound c.args.offset (subst (MayName view old) idx may) c.replace_l2.result owns c.replace_l2.ensures.l1_table;
    }

pub returns-then-entry-clause-owns : goal.returns-then-entry-clause-owns
returns-then-entry-clause-owns g c =
    let old = c.args.self.now in
    let idx : c.l1_index-index.result ≡ l1_index_of old.file.header.fields c.args.offset =
    c.l1_index-index.ensures ∙ ap (λ n. n / 2 ^ c.cluster_bits-bits.result / (2 ^ c.cluster_bits-bits.result / 8)) c.new.ensures ∙ ap (λ b. c.args.offset / 2 ^ b / (2 ^ b / 8)) c.cluster_bits-bits.ensures.value in
    subst (λ i. HasOwnEntry old i) idx ((λ none. let place = c.in-Some.ensures.offset in let some = c.in-Some.ensures.some in omega (arith, place, some, none)), sym c.in-Some.ensures.copied ∙ c.if-entry.true)

pub returns-in_default-clause-owns : goal.returns-in_default-clause-owns
returns-in_default-clause-owns g c =
    let old = c.args.self.now in
    let new = c.allocate_l2.new.self in
    let idx : c.l1_index-index.result ≡ l1_index_of old.file.header.fields c.args.offset =
    c.l1_index-index.ensures ∙ ap (λ n. n / 2 ^ c.cluster_bits-bits.result / (2 ^ c.cluster_bits-bits.result / 8)) c.new.ensures ∙ ap (λ b. c.args.offset / 2 ^ b / (2 ^ b / 8)) c.cluster_bits-bits.ensures.value in
    on_ok_weaker c.allocate_l2.result (subst (λ i. HasOwnEntry new i) (idx ∙ sym (ap (λ (v : HeaderView). l1_index_of v.fields c.args.offset) c.allocate_l2.ensures.keeps_rest.header))) c.allocate_l2.ensures.own

pub returns-clause-owns : goal.returns-clause-owns
returns-clause-owns g c =
    let old = c.args.self.now in
    let new = c.replace_l2.new.self in
    let idx : c.l1_index-index.result ≡ l1_index_of old.file.header.fields c.args.offset =
    c.l1_index-index.ensures ∙ ap (λ n. n / 2 ^ c.cluster_bits-bits.result / (2 ^ c.cluster_bits-bits.result / 8)) c.new.ensures ∙ ap (λ b. c.args.offset / 2 ^ b / (2 ^ b / 8)) c.cluster_bits-bits.ensures.value in
    on_ok_weaker c.replace_l2.result (subst (λ i. HasOwnEntry new i) (idx ∙ sym (ap (λ (v : HeaderView). l1_index_of v.fields c.args.offset) c.replace_l2.ensures.keeps_rest.header))) c.replace_l2.ensures.own
