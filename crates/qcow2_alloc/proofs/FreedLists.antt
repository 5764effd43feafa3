-- The entries of a list of clusters to free are freed one after another.
use Rattle.std.proofs.Common.{◌≡◌, ◌≤◌, ◌++◌, ◌∷◌, ◌+◌, ◌-◌, ◌/◌, ◌^◌, ◌<◌, [], List, Result, Ok, refl, sym, ap, ◌∙◌, subst, append_assoc, ℕ, Err}
use Rattle.qcow2_alloc.proofs.Common.{le_refl, le_trans, StorageView, HeaderView, counts_per_block, one_at, Pending, Allocator, ClusterKind, ClustersToFreeEntry, ImageError, ImageFile, Frees, GivesBack, IsUnaligned, Listed, MayFree, MayDecrement, Owed, listed_as, owed_as, but, run_of, with_listed, FreesListed, IsFault, AllocatorInvariant, LeaksOne, LeaksUnaligned, Fails, GivesSoundly, TableStep}
use Rattle.qcow2_alloc.proofs.AllocationSteps.{allocator_step_none, is_sound_now, may_lower_still}
use Rattle.qcow2_alloc.proofs.Freeing.{behind_first, but_more, but_same, first_owed, frees_as, frees_then, listed_none, run_freed, run_refused, with_both, with_one, with_relisted}
use Rattle.qcow2_alloc.proofs.Steps.{fails_ok, fails_since, free_step_listed, free_step_none, free_step_of, free_step_then}
use Rattle.qcow2_alloc.proofs.FreedEach.{blocks_same, off_as, off_beside, off_done, off_first, off_none, off_of, off_refused, off_then}
use Rattle.qcow2_alloc.specs.Leaks.{DecrementsOrLeaks, FreesOff}
use Rattle.qcow2_alloc.proofs.UnalignedLeaks.{leaks_as, leaks_before, leaks_behind, leaks_done, leaks_first, leaks_none, leaks_then}

module _ {S : Type 0} {view : S → StorageView} {kind : ClusterKind} where
  pub listed_stay : {t : Allocator} {f : ImageFile S} {l : List ClustersToFreeEntry} → FreesListed view kind t f l t f l (Ok tt)
  listed_stay {t} {f} {l} = record {
    step = free_step_none;
    fails = fails_ok refl;
    others = refl;
    sound = λ p sound may. record { gives = allocator_step_none view (with_listed p l) f t sound; leaks = refl; hint = λ hint. hint };
    grows = le_refl _;
    unaligned = leaks_none f.header.fields t.reftable t t l (le_refl _);
    each = off_none f.header.fields t.reftable t f.caches f.caches l (blocks_same f.caches);
  }

  pub listed_then : {t t' t'' : Allocator} {a b c : ImageFile S} {l m r : List ClustersToFreeEntry} {result : Result (Unit {0}) ImageError} → FreesListed view kind t a l t' b m (Ok tt) → FreesListed view kind t' b m t'' c r result → FreesListed view kind t a l t'' c r result
  listed_then {t} {t'} {t''} {a} {b} {c} {l} {m} {r} {result} first then = record {
    step = free_step_then first.step then.step;
    fails = fails_since first.fails.told then.fails;
    others = then.others ∙ first.others;
    sound = λ p sound may.
        let one = first.sound p sound may in
        let two = then.sound p (is_sound_now view (with_listed p l) (with_listed p m) a b t' one.gives) (may_lower_still (Listed kind) a b first.step.marks.order may) in
        record {
          gives = frees_then view (with_listed p l) (with_listed p m) (with_listed p r) a b c t' t'' result (λ k some. some) one.gives two.gives;
          leaks = two.leaks ∙ one.leaks;
          hint = λ hint. two.hint (one.hint hint);
        };
    grows = le_trans first.grows then.grows;
    unaligned = leaks_then a.header.fields t.reftable t t' t'' l m r first.unaligned
        (leaks_as a.header.fields b.header.fields t.reftable t'.reftable t' t'' m m r r (ap (λ (x : HeaderView). x.fields) first.step.header) first.step.reftable refl refl then.unaligned);
    each = off_then a.header.fields t.reftable t t' t'' a.caches b.caches c.caches l m r result first.each
        (off_of a.header.fields b.header.fields t.reftable t'.reftable t' t'' b.caches c.caches m r result (ap (λ (x : HeaderView). x.fields) first.step.header) first.step.reftable then.each);
  }

  -- beside entries that are taken
  pub listed_beside : {t t' : Allocator} {a b : ImageFile S} {l m : List ClustersToFreeEntry} {result : Result (Unit {0}) ImageError} (rest : List ClustersToFreeEntry) → FreesListed view kind t a l t' b m result → FreesListed view kind t a (l ++ rest) t' b (m ++ rest) result
  listed_beside {t} {t'} {a} {b} {l} {m} {result} rest frees = record {
    step = frees.step;
    fails = frees.fails;
    others = but_more kind m rest ∙ ap (λ x. x ++ but kind rest) frees.others ∙ sym (but_more kind l rest);
    sound = λ p sound may.
        let one = frees.sound (with_listed p rest) (subst (λ (q : Pending). AllocatorInvariant view t q a) (sym (with_both p l rest)) sound) may in
        record {
          gives = frees_as view (with_listed (with_listed p rest) l) (with_listed p (l ++ rest)) (with_listed (with_listed p rest) m) (with_listed p (m ++ rest)) a b t' a.free_list b.free_list result (with_both p l rest) (with_both p m rest) one.gives;
          leaks = one.leaks;
          hint = one.hint;
        };
    grows = frees.grows;
    unaligned = leaks_before a.header.fields t.reftable t t' l m rest frees.unaligned;
    each = off_beside a.header.fields t.reftable t t' a.caches b.caches l m rest result frees.each;
  }

  -- the lists said in another way, and other ones in the files
  pub listed_as_well : {t t' : Allocator} {a b : ImageFile S} {l l' m m' : List ClustersToFreeEntry} {result : Result (Unit {0}) ImageError} (before after : List ClustersToFreeEntry) → l ≡ l' → m ≡ m'
      → FreesListed view kind t (record a { free_list = before }) l t' b m result → FreesListed view kind t a l' t' (record b { free_list = after }) m' result
  listed_as_well {t} {t'} {a} {b} {l} {l'} {m} {m'} {result} before after same same' frees = record {
    step = free_step_listed after (free_step_then (free_step_listed before free_step_none) frees.step);
    fails = frees.fails;
    others = ap (but kind) (sym same') ∙ frees.others ∙ ap (but kind) same;
    sound = λ p sound may.
        let one = frees.sound p (subst (λ (q : Pending). AllocatorInvariant view t q (record a { free_list = before })) (sym (ap (with_listed p) same)) (with_relisted view (with_listed p l') a t before sound)) (may_lower_still (Listed kind) a (record a { free_list = before }) refl may) in
        record {
          gives = frees_as view (with_listed p l) (with_listed p l') (with_listed p m) (with_listed p m') a b t' before after result (ap (with_listed p) same) (ap (with_listed p) same') one.gives;
          leaks = one.leaks;
          hint = one.hint;
        };
    grows = frees.grows;
    unaligned = leaks_as a.header.fields a.header.fields t.reftable t.reftable t t' l' l m' m refl refl same same' frees.unaligned;
    each = off_as a.header.fields t.reftable t t' a.caches b.caches l' l m' m result same same' frees.each;
  }

  -- the first of the entries that are taken
  pub listed_first : {t t' : Allocator} {a b : ImageFile S} {result : Result (Unit {0}) ImageError} {taken rest : List ClustersToFreeEntry} {e : ClustersToFreeEntry} → taken ≡ e ∷ rest
      → FreesListed view kind t a (a.free_list ++ e ∷ []) t' b b.free_list result → FreesListed view kind t a (a.free_list ++ taken) t' b (b.free_list ++ rest) result
  listed_first {t} {t'} {a} {b} {result} {taken} {rest} {e} is frees =
      listed_as_well a.free_list b.free_list (append_assoc a.free_list (e ∷ []) rest ∙ ap (λ l. a.free_list ++ l) (sym is)) refl (listed_beside rest frees)

  -- a run that is worked off
  pub listed_done : {t t' : Allocator} {a b : ImageFile S} {l m : List ClustersToFreeEntry} (run : ClustersToFreeEntry) → run.kind ≡ kind → run.count ≡ 0 → FreesListed view kind t a l t' b (m ++ run ∷ []) (Ok tt) → FreesListed view kind t a l t' b m (Ok tt)
  listed_done {t} {t'} {a} {b} {l} {m} run of_kind none frees = record {
    step = frees.step;
    fails = frees.fails;
    others = sym (but_same kind m run of_kind) ∙ frees.others;
    sound = λ p sound may.
        let one = frees.sound p sound may in
        record {
          gives = frees_as view (with_listed p l) (with_listed p l) (with_listed p (m ++ run ∷ [])) (with_listed p m) a b t' a.free_list b.free_list (Ok tt) refl (with_one p m run ∙ listed_none run.kind (with_listed p m) run none) one.gives;
          leaks = one.leaks;
          hint = one.hint;
        };
    grows = frees.grows;
    unaligned = leaks_done a.header.fields t.reftable t t' m l run none frees.unaligned;
    each = off_done a.header.fields t.reftable t t' a.caches b.caches m l run (Ok tt) none frees.each;
  }

-- what lowering the count of a cluster gives
abbrev DecrementsSoundly : {S : Type 0} → (S → StorageView) → ℕ → Allocator → ImageFile S → Allocator → ImageFile S → Result (Unit {0}) ImageError → Type 0
DecrementsSoundly view at t a t' b result =
    (p : Pending) (owed : Owed) → AllocatorInvariant view t (owed_as owed p (one_at at)) a → MayDecrement owed a → GivesSoundly view (GivesBack view (owed_as owed p (one_at at)) a t' b p result) t a t' b result

module _ {S : Type 0} {view : S → StorageView} {t t' : Allocator} {a b : ImageFile S} (l : List ClustersToFreeEntry) (run : ClustersToFreeEntry) where
  -- a run behind the others on a list
  run_listed : {result : Result (Unit {0}) ImageError} (next : ClustersToFreeEntry) → next.kind ≡ run.kind → TableStep view t.reftable a t'.reftable b → t'.reftable ≡ t.reftable → Fails view a.storage b.storage result IsFault
      → ((p : Pending) → AllocatorInvariant view t (listed_as run.kind p (run_of run)) a → MayFree run.kind a → GivesSoundly view (Frees view (listed_as run.kind p (run_of run)) a t' b (listed_as run.kind p (run_of next)) result) t a t' b result)
      → t.leaked_clusters ≤ t'.leaked_clusters → LeaksUnaligned a.header.fields t.reftable t t' (run ∷ []) (next ∷ [])
      → FreesOff a.header.fields t.reftable t a.caches (l ++ run ∷ []) t' b.caches (l ++ next ∷ []) result → FreesListed view run.kind t a (l ++ run ∷ []) t' b (l ++ next ∷ []) result
  run_listed {result} next of_kind step same fails sound grows unaligned each = record {
    step = free_step_of same step;
    fails = fails;
    others = but_same run.kind l next of_kind ∙ sym (but_same run.kind l run refl);
    sound = λ p sound' may.
        let q = with_listed p l in
        let one = sound q (subst (λ (x : Pending). AllocatorInvariant view t x a) (with_one p l run) sound') may in
        let after : listed_as run.kind q (run_of next) ≡ with_listed p (l ++ next ∷ []) = sym (with_one p l next ∙ ap (λ x. listed_as x q (run_of next)) of_kind) in
        record {
          gives = frees_as view (listed_as run.kind q (run_of run)) (with_listed p (l ++ run ∷ [])) (listed_as run.kind q (run_of next)) (with_listed p (l ++ next ∷ [])) a b t' a.free_list b.free_list result (sym (with_one p l run)) after one.gives;
          leaks = one.leaks;
          hint = one.hint;
        };
    grows = grows;
    unaligned = leaks_behind a.header.fields t.reftable t t' l (run ∷ []) (next ∷ []) unaligned;
    each = each;
  }

  module _ {at : ℕ} (some : 0 < run.count) (is : at ≡ run.first_cluster) (step : TableStep view t.reftable a t'.reftable b) (same : t'.reftable ≡ t.reftable) (grows : t.leaked_clusters ≤ t'.leaked_clusters) where
    -- its first cluster is freed
    pub run_lowered : (next : ClustersToFreeEntry) → Fails view {T = Unit {0}} a.storage b.storage (Ok tt) IsFault → DecrementsSoundly view at t a t' b (Ok tt) → (run.first_cluster + 1 < 2 ^ 64 → next.first_cluster ≡ run.first_cluster + 1) → next.count ≡ run.count - 1 → next.kind ≡ run.kind
        → (IsUnaligned a.header.fields t.reftable (at / counts_per_block a.header.fields) → LeaksOne t t') → DecrementsOrLeaks a.header.fields t.reftable t a.caches t' b.caches at (Ok tt) → FreesListed view run.kind t a (l ++ run ∷ []) t' b (l ++ next ∷ []) (Ok tt)
    run_lowered next fails sound first count of_kind leaks lowers = run_listed next of_kind step same fails
        (λ p begun may.
        let q = listed_as run.kind p (run_of run) in
        let low = sound (behind_first run run.kind p) (Listed run.kind) (first_owed view run.kind p run some at is a t begun) may in
        record {
          gives = run_freed view run.kind p run some at is q (λ k held. held) a a b t t' (allocator_step_none view q a t begun) next first count low.gives;
          leaks = low.leaks;
          hint = low.hint;
        })
        grows (leaks_first a.header.fields t.reftable run next some first count t t' grows (λ u. leaks (subst (λ n. IsUnaligned a.header.fields t.reftable (n / counts_per_block a.header.fields)) (sym is) u)))
        (off_first a.header.fields t.reftable t t' a.caches b.caches l run next at is some first count lowers)

    -- it can't be freed
    pub run_stays : {e : ImageError} → Fails view {T = Unit {0}} a.storage b.storage (Err e) IsFault → DecrementsSoundly view at t a t' b (Err e) → DecrementsOrLeaks a.header.fields t.reftable t a.caches t' b.caches at (Err e) → FreesListed view run.kind t a (l ++ run ∷ []) t' b (l ++ run ∷ []) (Err e)
    run_stays {e} fails sound stopped = run_listed run refl step same fails
        (λ p begun may.
        let q = listed_as run.kind p (run_of run) in
        let low = sound (behind_first run run.kind p) (Listed run.kind) (first_owed view run.kind p run some at is a t begun) may in
        record {
          gives = run_refused view run.kind p run some at is q (λ k held. held) a a b t t' (allocator_step_none view q a t begun) e low.gives;
          leaks = low.leaks;
          hint = low.hint;
        })
        grows (leaks_none a.header.fields t.reftable t t' (run ∷ []) grows)
        (off_refused a.header.fields t.reftable t t' a.caches b.caches (l ++ run ∷ []) e stopped.0 stopped.1)
