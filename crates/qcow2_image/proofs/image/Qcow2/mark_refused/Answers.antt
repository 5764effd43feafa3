use Rattle.qcow2_image.proofs.Common.{inl, inr, sym, ap, ◌∙◌, subst, IsTrue, or_cases, or_left, or_right, has_noted, is_changed_of, MetadataCaches, ImageFile, Qcow2, is_failed, with_marks}
use Rattle.qcow2_image.proofs.image.Qcow2.mark_refused.Goals as goal

pub returns-clause-rest : goal.returns-clause-rest
returns-clause-rest g c =
    let failed = is_failed c.mark_if_failed.new.self in
    c.mark_if_failed.ensures.rest ∙ ap (λ (f : ImageFile _). record c.args.self.now { is_failed = failed; file = f }) c.record_change_since.ensures.rest
    ∙ ap (λ b. with_marks c.args.self.now b failed) (sym (ap (λ (i : Qcow2 _ _). is_changed_of i.file.storage) c.mark_if_failed.ensures.rest))

pub returns-clause-recorded : goal.returns-clause-recorded
returns-clause-recorded g c = λ recorded.
    let old = c.args.self.now in
    let now = c.record_change_since.new.self in
    subst (λ (f : ImageFile _). IsTrue (has_noted f)) (sym (ap (λ (i : Qcow2 _ _). i.file) c.mark_if_failed.ensures.rest)) (elim (or_cases (is_changed_of old.file.storage) old.file.caches.is_changed recorded) [
      | inl storage ↦ or_left (is_changed_of now.storage) now.caches.is_changed (c.record_change_since.ensures.kept storage)
      | inr tables ↦ or_right (is_changed_of now.storage) now.caches.is_changed (subst (λ (x : MetadataCaches _). IsTrue x.is_changed) (sym (ap (λ (f : ImageFile _). f.caches) c.record_change_since.ensures.rest)) tables)
    ])

pub returns-clause-changed : goal.returns-clause-changed
returns-clause-changed g c = λ risen.
    subst (λ (f : ImageFile _). IsTrue (has_noted f)) (sym (ap (λ (i : Qcow2 _ _). i.file) c.mark_if_failed.ensures.rest)) (or_left (is_changed_of c.record_change_since.new.self.storage) c.record_change_since.new.self.caches.is_changed (c.record_change_since.ensures.recorded risen))

pub returns-clause-why : goal.returns-clause-why
returns-clause-why g c = λ recorded.
    let old = c.args.self.now in
    let now = c.record_change_since.new.self in
    let noted_now = subst (λ (f : ImageFile _). IsTrue (has_noted f)) (ap (λ (i : Qcow2 _ _). i.file) c.mark_if_failed.ensures.rest) recorded in
    elim (or_cases (is_changed_of now.storage) now.caches.is_changed noted_now) [
      | inl storage ↦ elim (c.record_change_since.ensures.why storage) [ inl was ↦ inl (or_left (is_changed_of old.file.storage) old.file.caches.is_changed was) | inr risen ↦ inr risen ]
      | inr tables ↦ inl (or_right (is_changed_of old.file.storage) old.file.caches.is_changed (subst (λ (x : MetadataCaches _). IsTrue x.is_changed) (ap (λ (f : ImageFile _). f.caches) c.record_change_since.ensures.rest) tables))
    ]
