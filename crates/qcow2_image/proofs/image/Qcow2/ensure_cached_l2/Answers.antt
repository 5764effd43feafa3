use Rattle.qcow2_image.proofs.Lemmas.{other_limit, hands_limit, with_caches, refused, keeps_loaded, holds_table, fault_alone, named_place, loads_looking, behind_caches, behind_then, in_use_unlimited, hands_met, looking_taking}
use Rattle.qcow2_image.proofs.image.Qcow2.ensure_cached_l2.Goals as goal
use Rattle.qcow2_image.proofs.Common.{ap, inl, ◌∙◌, sym, rules, handed_on, Qcow2, Ensures, pending_with_listed, IfErr, IsFaultOrLacksTable, contents_in, l1_index_of, notes_then, notes_of_both, l2_pins, FindsOwn, HasPinnedMapping, MayFailAllocating, file_loads, Err}

pub returns-in_err-cluster-clause-own : goal.returns-in_err-cluster-clause-own
returns-in_err-cluster-clause-own g c = λ own.
    handed_on (λ r. FindsOwn c.args.self.now c.writable_l2_cluster.new.self c.args.offset r) c.from_residual.result c.in_err-cluster.field-0.0 c.from_residual.ensures
    (record { table = tt; l1_table = ap (λ (i : Qcow2 _ _). i.l1_table) (c.writable_l2_cluster.ensures.quiet own); header = ap (λ (i : Qcow2 _ _). i.file.header) (c.writable_l2_cluster.ensures.quiet own); pins = λ t. ap (λ (i : Qcow2 _ _). l2_pins i.file.caches t) (c.writable_l2_cluster.ensures.quiet own) })

pub returns-in_err-l2_get_or_insert-clause-own : goal.returns-in_err-l2_get_or_insert-clause-own
returns-in_err-l2_get_or_insert-clause-own g c = λ own.
    let mid = c.writable_l2_cluster.new.self in
    handed_on (λ r. FindsOwn c.args.self.now (record mid { file = record mid.file { storage = c.l2_get_or_insert.new.storage; caches = c.l2_get_or_insert.new.self } }) c.args.offset r) c.from_residual-in_err-l2_get_or_insert.result c.in_err-l2_get_or_insert.field-0.0 c.from_residual-in_err-l2_get_or_insert.ensures
    (record { table = tt; l1_table = ap (λ (i : Qcow2 _ _). i.l1_table) (c.writable_l2_cluster.ensures.quiet own); header = ap (λ (i : Qcow2 _ _). i.file.header) (c.writable_l2_cluster.ensures.quiet own); pins = λ t. c.l2_get_or_insert.ensures.step.marks.pins.pins t ∙ ap (λ (i : Qcow2 _ _). l2_pins i.file.caches t) (c.writable_l2_cluster.ensures.quiet own) })

pub returns-clause-own : goal.returns-clause-own
returns-clause-own g c = λ own.
    record { table = c.in_ok-cluster.ensures.own own; l1_table = ap (λ (i : Qcow2 _ _). i.l1_table) (c.writable_l2_cluster.ensures.quiet own); header = ap (λ (i : Qcow2 _ _). i.file.header) (c.writable_l2_cluster.ensures.quiet own); pins = λ t. c.l2_get_or_insert.ensures.step.marks.pins.pins t ∙ ap (λ (i : Qcow2 _ _). l2_pins i.file.caches t) (c.writable_l2_cluster.ensures.quiet own) }

pub returns-in_err-cluster-clause-rest : goal.returns-in_err-cluster-clause-rest
returns-in_err-cluster-clause-rest g c = λ own. c.writable_l2_cluster.ensures.quiet own ∙ ap (λ (i : Qcow2 _ _). record c.args.self.now { file = record c.args.self.now.file { storage = i.file.storage; caches = i.file.caches } }) (sym (c.writable_l2_cluster.ensures.quiet own))

pub returns-in_err-l2_get_or_insert-clause-rest : goal.returns-in_err-l2_get_or_insert-clause-rest
returns-in_err-l2_get_or_insert-clause-rest g c = λ own. ap (λ (i : Qcow2 _ _). record i { file = record i.file { storage = c.l2_get_or_insert.new.storage; caches = c.l2_get_or_insert.new.self } }) (c.writable_l2_cluster.ensures.quiet own)

pub returns-clause-rest : goal.returns-clause-rest
returns-clause-rest g c = λ own. ap (λ (i : Qcow2 _ _). record i { file = record i.file { storage = c.l2_get_or_insert.new.storage; caches = c.l2_get_or_insert.new.self } }) (c.writable_l2_cluster.ensures.quiet own)

pub returns-in_err-l2_get_or_insert-clause-step : goal.returns-in_err-l2_get_or_insert-clause-step
returns-in_err-l2_get_or_insert-clause-step g c = record {
  stays = search rules;
  notes = notes_then c.writable_l2_cluster.ensures.step.notes (notes_of_both c.l2_get_or_insert.ensures.step.marks.pins c.l2_get_or_insert.ensures.step.marks.notes);
  header_cluster = behind_then c.writable_l2_cluster.ensures.step.header_cluster (behind_caches (c.l2_get_or_insert.ensures.step.header_cluster c.in_ok-cluster.ensures.elsewhere));
}

pub returns-clause-step : goal.returns-clause-step
returns-clause-step g c = record {
  stays = search rules;
  notes = notes_then c.writable_l2_cluster.ensures.step.notes (notes_of_both c.l2_get_or_insert.ensures.step.marks.pins c.l2_get_or_insert.ensures.step.marks.notes);
  header_cluster = behind_then c.writable_l2_cluster.ensures.step.header_cluster (behind_caches (c.l2_get_or_insert.ensures.step.header_cluster c.in_ok-cluster.ensures.elsewhere));
}

pub returns-in_err-cluster-clause-sound : goal.returns-in_err-cluster-clause-sound
returns-in_err-cluster-clause-sound g c = λ p out sound.
    record {
      ready = handed_on (Ensures g.S.Storage.view g.F.BackingDisk.backing p c.args.self.now c.writable_l2_cluster.new.self out c.args.offset) c.from_residual.result c.in_err-cluster.field-0.0 c.from_residual.ensures
          ((c.in_err-cluster.ensures.sound p out sound).does);
      may_fail = λ cause. hands_met (MayFailAllocating (HasPinnedMapping out) ⊥ ⊥ ⊥) c.from_residual.result c.in_err-cluster.field-0.0 c.from_residual.ensures ((c.in_err-cluster.ensures.sound p out sound).may_fail cause);
      limit = λ cause. hands_limit c.from_residual.result c.in_err-cluster.field-0.0 c.from_residual.ensures ((c.in_err-cluster.ensures.sound p out sound).limit cause);
      lacks = λ none. handed_on (λ r. IfErr r (IsFaultOrLacksTable g.S.Storage.view c.writable_l2_cluster.new.self c.args.offset)) c.from_residual.result c.in_err-cluster.field-0.0 c.from_residual.ensures ((c.in_err-cluster.ensures.sound p out sound).lacks);
    }

pub returns-in_err-l2_get_or_insert-clause-sound : goal.returns-in_err-l2_get_or_insert-clause-sound
returns-in_err-l2_get_or_insert-clause-sound g c = λ p out sound.
    let old = c.args.self.now in
    let view = g.S.Storage.view in
    let mid = c.writable_l2_cluster.new.self in
    let below = g.F.BackingDisk.backing in
    let owned = (c.in_ok-cluster.ensures.sound p out sound).does in
    let loaded = with_caches g.S.Storage.view g.F.BackingDisk.backing mid out (pending_with_listed p old mid) owned.0.sound c.l2_get_or_insert.new.storage c.l2_get_or_insert.new.self in
    let q = pending_with_listed p old mid in
    let file = owned.0.sound.file in
    let e = c.in_err-l2_get_or_insert.field-0.0 in
    record {
      ready = refused (Ensures g.S.Storage.view g.F.BackingDisk.backing p old loaded out c.args.offset) c.from_residual-in_err-l2_get_or_insert.result c.from_residual-in_err-l2_get_or_insert.ensures.0
          (λ e. inl (keeps_loaded g.S.Storage.view g.F.BackingDisk.backing out p old mid c.args.offset c.in_ok-cluster.cluster owned.0 c.l2_get_or_insert.new.storage c.l2_get_or_insert.new.self
          (c.l2_get_or_insert.ensures.sound.keeps mid.file.header.fields (pending_with_listed p old mid) owned.0.sound.file.honest owned.0.sound.file.caches) c.l2_get_or_insert.ensures.step.marks.pins.room c.l2_get_or_insert.ensures.step.marks.pins.pins));
      may_fail = λ cause. hands_met (MayFailAllocating (HasPinnedMapping out) ⊥ ⊥ ⊥) c.from_residual-in_err-l2_get_or_insert.result e c.from_residual-in_err-l2_get_or_insert.ensures
          (looking_taking ⊥ ⊥ ⊥ e (loads_looking view below out q mid owned.0.sound e
          (file_loads {A = Unit {0}} view q mid.file file (Err e) c.l2_get_or_insert.new.self c.in_ok-cluster.cluster (named_place mid.file.header.fields (contents_in view mid.file) (l1_index_of old.file.header.fields c.args.offset) c.in_ok-cluster.cluster owned.1.place) c.in_err-l2_get_or_insert.ensures.fails)));
      limit = λ cause. hands_limit c.from_residual-in_err-l2_get_or_insert.result e c.from_residual-in_err-l2_get_or_insert.ensures
          (other_limit _ e (in_use_unlimited mid.file.caches e
          (file_loads {A = Unit {0}} view q mid.file file (Err e) c.l2_get_or_insert.new.self c.in_ok-cluster.cluster (named_place mid.file.header.fields (contents_in view mid.file) (l1_index_of old.file.header.fields c.args.offset) c.in_ok-cluster.cluster owned.1.place) c.in_err-l2_get_or_insert.ensures.fails)));
      lacks = λ none. let loaded = with_caches view below mid out q owned.0.sound c.l2_get_or_insert.new.storage c.l2_get_or_insert.new.self in
          handed_on (λ r. IfErr r (IsFaultOrLacksTable view loaded c.args.offset)) c.from_residual-in_err-l2_get_or_insert.result e c.from_residual-in_err-l2_get_or_insert.ensures
          (inl (fault_alone view below out q mid owned.0.sound none e
          (file_loads {A = Unit {0}} view q mid.file file (Err e) c.l2_get_or_insert.new.self c.in_ok-cluster.cluster (named_place mid.file.header.fields (contents_in view mid.file) (l1_index_of old.file.header.fields c.args.offset) c.in_ok-cluster.cluster owned.1.place) c.in_err-l2_get_or_insert.ensures.fails)));
    }

pub returns-clause-sound : goal.returns-clause-sound
returns-clause-sound g c = λ p out sound.
    let old = c.args.self.now in
    let mid = c.writable_l2_cluster.new.self in
    let owned = (c.in_ok-cluster.ensures.sound p out sound).does in
    record {
      may_fail = search rules;
      limit = search rules;
      lacks = search rules;
      ready = let stay = c.l2_get_or_insert.ensures.sound.keeps mid.file.header.fields (pending_with_listed p old mid) owned.0.sound.file.honest owned.0.sound.file.caches in (
        keeps_loaded g.S.Storage.view g.F.BackingDisk.backing out p old mid c.args.offset c.in_ok-cluster.cluster owned.0 c.l2_get_or_insert.new.storage c.l2_get_or_insert.new.self stay c.l2_get_or_insert.ensures.step.marks.pins.room c.l2_get_or_insert.ensures.step.marks.pins.pins,
        holds_table g.S.Storage.view g.F.BackingDisk.backing out p old mid c.args.offset c.in_ok-cluster.cluster owned.0 c.l2_get_or_insert.new.storage c.l2_get_or_insert.new.self stay c.l2_get_or_insert.ensures.step.marks.pins.room c.l2_get_or_insert.ensures.step.marks.pins.pins owned.1
            c.in_ok-l2_get_or_insert.ensures.gets.cached,
      );
    }
