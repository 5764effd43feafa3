use Rattle.std.proofs.Common.{◌≡◌, ◌-◌, ◌/◌, ◌<◌, refl, sym, ap, ◌∙◌, subst, arith, min, is_some, Option, Some, None, false, true, rules, ⊎_elim, ℕ, inl, inr, Err}
use Rattle.qcow2_image.proofs.Common.{Qcow2, is_beside, IfOk-weaker, cluster_size, host_offset, IsLongestRun, table_at, Sizes-from, cover_none, IsTop-top, contents_in, known_in, kind_at, rest_of_table, l1_index_of, l2_index_of, NamesL2Table, IsRunFrom, IfSome, MatchOption, IsEntryAt, IsCacheHeld, MayFailLooking, own_table, GetsTableQuietly, HasUnalignedAt, UnalignedTable, MayFailFinding, MayFailLoadingL2, Uncovered, file_loads}
use Rattle.qcow2_image.proofs.Lemmas.{caches_moved, with_caches, none_found, behind_caches, answers_met, cache_looking, named_entry, hands_met, named_place, reads_none, uncovered_held, only_none, met_as, finding_more, still_loaded}
use Rattle.qcow2_image.specs.HeldMappings.{named_place as place_named}
use Rattle.qcow2_image.proofs.Map.Looked.{compressed_there}
use Rattle.qcow2_image.proofs.image.Qcow2.run_from.Goals as goal
use Rattle.qcow2_image.proofs.Images.Places.{alone_of}

-- an offset has its own L2 table, or none
abbrev HasOwn : {S F : Type 0} → Qcow2 S F → ℕ → Option ℕ → Type 0
HasOwn image offset table = MatchOption table (place_named image.file.header.fields image.l1_table offset ≡ 0) (λ cluster. (cluster ≡ own_table image offset) × ¬ (place_named image.file.header.fields image.l1_table offset ≡ 0))

own_found : {S F : Type 0} (image : Qcow2 S F) (offset : ℕ) (was is : Option ℕ) → was ≡ is → HasOwn image offset was → HasOwn image offset is
own_found image offset was is same own = subst (HasOwn image offset) same own

pub returns-in_err-l2_get_or_insert-in-Some-clause-sound : goal.returns-in_err-l2_get_or_insert-in-Some-clause-sound
returns-in_err-l2_get_or_insert-in-Some-clause-sound g c = λ p out sound.
    let view = g.S.Storage.view in
    let below = g.F.BackingDisk.backing in
    let old = c.args.self.now in
    let h = old.file.header.fields in
    let e = c.in_err-l2_get_or_insert-in-Some.field-0.0 in
    let stay = c.l2_get_or_insert.ensures.sound.keeps h p sound.file.honest sound.file.caches in
    let names : NamesL2Table view old c.args.offset (Some c.in-Some.table) = subst (NamesL2Table view old c.args.offset) c.in-Some.is (c.in_ok-l2_cluster.ensures.names sound.l1_table) in
    record {
      keeps = caches_moved view below old out p sound c.l2_get_or_insert.new.storage c.l2_get_or_insert.new.self stay c.l2_get_or_insert.ensures.step.marks.pins.room c.l2_get_or_insert.ensures.step.marks.pins.pins;
      known = stay.known;
      may_fail = hands_met (MayFailLooking (IsCacheHeld old out)) c.from_residual-in_err-l2_get_or_insert-in-Some.result e c.from_residual-in_err-l2_get_or_insert-in-Some.ensures
          (cache_looking view below out p old sound e
          (file_loads {A = Unit {0}} view p old.file sound.file (Err e) c.l2_get_or_insert.new.self c.in-Some.table (named_place h (contents_in view old.file) (l1_index_of h c.args.offset) c.in-Some.table names.0) c.in_err-l2_get_or_insert-in-Some.ensures.fails));
      run = search rules;
    }

pub returns-in_ok-l2_get_or_insert-in-Some-clause-sound : goal.returns-in_ok-l2_get_or_insert-in-Some-clause-sound
returns-in_ok-l2_get_or_insert-in-Some-clause-sound g c = λ p out sound.
    let view = g.S.Storage.view in
    let below = g.F.BackingDisk.backing in
    let old = c.args.self.now in
    let h = old.file.header.fields in
    let stay = c.l2_get_or_insert.ensures.sound.keeps h p sound.file.honest sound.file.caches in
    let kept = caches_moved view below old out p sound c.l2_get_or_insert.new.storage c.l2_get_or_insert.new.self stay c.l2_get_or_insert.ensures.step.marks.pins.room c.l2_get_or_insert.ensures.step.marks.pins.pins in
    let image = with_caches view below old out p sound c.l2_get_or_insert.new.storage c.l2_get_or_insert.new.self in
    let names : NamesL2Table view old c.args.offset (Some c.in-Some.table) = subst (NamesL2Table view old c.args.offset) c.in-Some.is (c.in_ok-l2_cluster.ensures.names sound.l1_table) in
    let entry = subst (λ b. IsEntryAt h b (l1_index_of h c.args.offset) c.in-Some.table (l2_index_of h c.args.offset)) (sym stay.known) (named_entry view below out p old sound c.args.offset c.in-Some.table names) in
    let limit : c.min-max.result ≡ min c.args.max (rest_of_table h c.args.offset) = c.min-max.ensures ∙ ap (min c.args.max) c.rest_of_table.ensures.value in
    record {
      keeps = kept;
      known = stay.known;
      may_fail = answers_met (MayFailLooking (IsCacheHeld old out)) c.run_in_table.result (c.run_in_table.ensures.reads p kept.sound.file entry (omega (arith, limit)));
      run = IfOk-weaker c.run_in_table.result _ _ (λ x run. subst (λ m. IsRunFrom view image c.args.offset m x.0 x.1) limit run) (c.run_in_table.ensures.run p kept.sound.file (alone_of kept.sound) entry (omega (arith, limit)));
    }

pub returns-in-None-clause-sound : goal.returns-in-None-clause-sound
returns-in-None-clause-sound g c = λ p out sound.
    let old = c.args.self.now in
    let view = g.S.Storage.view in
    record {
      keeps = search rules;
      known = search rules;
      may_fail = search rules;
      run = let h = old.file.header.fields in
          let known = known_in view old.file in
          let crash_invariant = sound.file.caches.kept.kept.crash_invariant in
          let sizes = Sizes-from h known (IsTop-top h (contents_in view old.file) known crash_invariant.same_top crash_invariant.top).header_reads in
          let names : NamesL2Table view old c.args.offset None = subst (NamesL2Table view old c.args.offset) c.in-None.is (c.in_ok-l2_cluster.ensures.names sound.l1_table) in
          let none : table_at h known (l1_index_of h c.args.offset) ≡ 0 = ap host_offset (sym (crash_invariant.same_top.l1 (l1_index_of h c.args.offset))) ∙ names in
          let limit : c.min-max.result ≡ min c.args.max (rest_of_table h c.args.offset) = c.min-max.ensures ∙ ap (min c.args.max) c.rest_of_table.ensures.value in
          record {
            kind_is = c.uncovered.ensures.value false ∙ ap (kind_at h (is_some old.backing) c.args.offset) (sym (cover_none h known (c.args.offset / cluster_size h) none));
            longest = subst (λ m. IsLongestRun h known c.args.offset m c.min-max.result) limit (none_found h c.args.offset sizes known c.min-max.result (omega (arith, limit)) none);
          };
    }

pub returns-in_err-l2_cluster-clause-sound : goal.returns-in_err-l2_cluster-clause-sound
returns-in_err-l2_cluster-clause-sound g c = λ p out sound.
    record {
      keeps = search rules;
      known = search rules;
      may_fail = absurd (let no : false ≡ true = c.in_err-l2_cluster.ensures.reads p out sound in cc);
      run = search rules;
    }

pub returns-in-None-clause-held : goal.returns-in-None-clause-held
returns-in-None-clause-held g c = λ most is lt.
    let h = c.args.self.now.file.header.fields in
    let limit : c.min-max.result ≡ min (min most (h.size - c.args.offset)) (rest_of_table h c.args.offset) = c.min-max.ensures ∙ ap (min c.args.max) c.rest_of_table.ensures.value ∙ ap (λ m. min m (rest_of_table h c.args.offset)) is in
    let image = c.args.self.now in
    let none = own_found image c.args.offset _ _ c.in-None.is c.in_ok-l2_cluster.ensures.own in
    uncovered_held h (is_beside image) (is_some image.backing) image.l1_table image.file.caches c.args.offset c.min-max.result most limit lt c.uncovered.result none (c.uncovered.ensures.value (is_beside image))

pub returns-in_ok-l2_get_or_insert-in-Some-clause-held : goal.returns-in_ok-l2_get_or_insert-in-Some-clause-held
returns-in_ok-l2_get_or_insert-in-Some-clause-held g c = λ most is lt.
    let h = c.args.self.now.file.header.fields in
    let limit : c.min-max.result ≡ min (min most (h.size - c.args.offset)) (rest_of_table h c.args.offset) = c.min-max.ensures ∙ ap (min c.args.max) c.rest_of_table.ensures.value ∙ ap (λ m. min m (rest_of_table h c.args.offset)) is in
    let image = c.args.self.now in
    let own = own_found image c.args.offset _ _ c.in-Some.is c.in_ok-l2_cluster.ensures.own in
    IfOk-weaker c.run_in_table.result _ _ (λ x held. held.run most limit lt) (c.run_in_table.ensures.held own.0 own.1)

pub returns-in_ok-l2_get_or_insert-in-Some-clause-plain : goal.returns-in_ok-l2_get_or_insert-in-Some-clause-plain
returns-in_ok-l2_get_or_insert-in-Some-clause-plain g c =
    let own = own_found c.args.self.now c.args.offset _ _ c.in-Some.is c.in_ok-l2_cluster.ensures.own in
    IfOk-weaker c.run_in_table.result _ _ (λ x held. held.plain) (c.run_in_table.ensures.held own.0 own.1)

pub returns-in_ok-l2_get_or_insert-in-Some-clause-kind : goal.returns-in_ok-l2_get_or_insert-in-Some-clause-kind
returns-in_ok-l2_get_or_insert-in-Some-clause-kind g c =
    let own = own_found c.args.self.now c.args.offset _ _ c.in-Some.is c.in_ok-l2_cluster.ensures.own in
    IfOk-weaker c.run_in_table.result _ _ (λ x held. record { whole = held.whole; special = held.special }) (c.run_in_table.ensures.held own.0 own.1)

pub returns-in-None-clause-plain : goal.returns-in-None-clause-plain
returns-in-None-clause-plain g c = λ compressed. absurd (compressed.named (own_found c.args.self.now c.args.offset _ _ c.in-None.is c.in_ok-l2_cluster.ensures.own))

pub returns-in_err-l2_get_or_insert-in-Some-clause-looks : goal.returns-in_err-l2_get_or_insert-in-Some-clause-looks
returns-in_err-l2_get_or_insert-in-Some-clause-looks g c =
    let image = c.args.self.now in
    let h = image.file.header.fields in
    let own = own_found image c.args.offset _ _ c.in-Some.is c.in_ok-l2_cluster.ensures.own in
    record {
      quiet = λ loads honest. c.l2_get_or_insert.ensures.gets.quiet (⊎_elim (λ is. absurd (own.1 is)) (λ gets. subst (GetsTableQuietly image.file.caches) (sym own.0) gets) loads) honest;
      still = λ kind n. still_loaded h (is_beside image) (is_some image.backing) image.l1_table image.file.caches c.args.offset c.l2_get_or_insert.new.self c.in-Some.table own c.l2_get_or_insert.ensures.gets.kept kind n;
      data_file = refl;
    }

pub returns-in_ok-l2_get_or_insert-in-Some-clause-looks : goal.returns-in_ok-l2_get_or_insert-in-Some-clause-looks
returns-in_ok-l2_get_or_insert-in-Some-clause-looks g c =
    let image = c.args.self.now in
    let h = image.file.header.fields in
    let own = own_found image c.args.offset _ _ c.in-Some.is c.in_ok-l2_cluster.ensures.own in
    record {
      quiet = λ loads honest. c.l2_get_or_insert.ensures.gets.quiet (⊎_elim (λ is. absurd (own.1 is)) (λ gets. subst (GetsTableQuietly image.file.caches) (sym own.0) gets) loads) honest;
      still = λ kind n. still_loaded h (is_beside image) (is_some image.backing) image.l1_table image.file.caches c.args.offset c.l2_get_or_insert.new.self c.in-Some.table own c.l2_get_or_insert.ensures.gets.kept kind n;
      data_file = refl;
    }

pub returns-in_err-l2_get_or_insert-in-Some-clause-step : goal.returns-in_err-l2_get_or_insert-in-Some-clause-step
returns-in_err-l2_get_or_insert-in-Some-clause-step g c = record {
  header = search rules;
  list = search rules;
  part = record { stays = search rules; notes = search rules; header_cluster = behind_caches (c.l2_get_or_insert.ensures.step.header_cluster (subst (λ t. IfSome t (λ n. 0 < n)) c.in-Some.is c.in_ok-l2_cluster.ensures.elsewhere)) };
  quiet = c.l2_get_or_insert.ensures.step.all_written;
}

pub returns-in_ok-l2_get_or_insert-in-Some-clause-step : goal.returns-in_ok-l2_get_or_insert-in-Some-clause-step
returns-in_ok-l2_get_or_insert-in-Some-clause-step g c = record {
  header = search rules;
  list = search rules;
  part = record { stays = search rules; notes = search rules; header_cluster = behind_caches (c.l2_get_or_insert.ensures.step.header_cluster (subst (λ t. IfSome t (λ n. 0 < n)) c.in-Some.is c.in_ok-l2_cluster.ensures.elsewhere)) };
  quiet = c.l2_get_or_insert.ensures.step.all_written;
}

pub returns-in-None-clause-step : goal.returns-in-None-clause-step
returns-in-None-clause-step g c = record { part = search rules; header = search rules; list = search rules; quiet = reads_none g.S.Storage.view c.args.self.now }

pub returns-in_err-l2_cluster-clause-step : goal.returns-in_err-l2_cluster-clause-step
returns-in_err-l2_cluster-clause-step g c = record { part = search rules; header = search rules; list = search rules; quiet = reads_none g.S.Storage.view c.args.self.now }

pub returns-in-None-clause-looks : goal.returns-in-None-clause-looks
returns-in-None-clause-looks g c = only_none g.S.Storage.view c.args.offset c.args.self.now

pub returns-in_err-l2_cluster-clause-looks : goal.returns-in_err-l2_cluster-clause-looks
returns-in_err-l2_cluster-clause-looks g c = only_none g.S.Storage.view c.args.offset c.args.self.now

pub returns-in_err-l2_cluster-clause-fails : goal.returns-in_err-l2_cluster-clause-fails
returns-in_err-l2_cluster-clause-fails g c = record {
  faults = search rules;
  cause = hands_met (MayFailFinding c.args.self.now c.args.self.now c.args.offset c.args.max) c.from_residual.result c.in_err-l2_cluster.field-0.0 c.from_residual.ensures (inl (c.in_err-l2_cluster.ensures.cause.0, inl c.in_err-l2_cluster.ensures.cause.1));
}

pub returns-in_err-l2_get_or_insert-in-Some-clause-fails : goal.returns-in_err-l2_get_or_insert-in-Some-clause-fails
returns-in_err-l2_get_or_insert-in-Some-clause-fails g c =
    let image = c.args.self.now in
    let own = own_found image c.args.offset _ _ c.in-Some.is c.in_ok-l2_cluster.ensures.own in
    let e = c.in_err-l2_get_or_insert-in-Some.field-0.0 in
    let new = record image { file = record image.file { storage = c.l2_get_or_insert.new.storage; caches = c.l2_get_or_insert.new.self } } in
    record {
      faults = search rules;
      cause = hands_met (MayFailFinding image new c.args.offset c.args.max) c.from_residual-in_err-l2_get_or_insert-in-Some.result e c.from_residual-in_err-l2_get_or_insert-in-Some.ensures
          (inr (subst (λ k. MayFailLoadingL2 image.file.caches c.l2_get_or_insert.new.self k e) own.0 c.in_err-l2_get_or_insert-in-Some.ensures.fails.cause));
    }

pub returns-in_ok-l2_get_or_insert-in-Some-clause-fails : goal.returns-in_ok-l2_get_or_insert-in-Some-clause-fails
returns-in_ok-l2_get_or_insert-in-Some-clause-fails g c =
    let image = c.args.self.now in
    let own = own_found image c.args.offset _ _ c.in-Some.is c.in_ok-l2_cluster.ensures.own in
    let new = record image { file = record image.file { storage = c.l2_get_or_insert.new.storage; caches = c.l2_get_or_insert.new.self } } in
    record {
      faults = search rules;
      cause = met_as (λ e. (e ≡ UnalignedTable) × HasUnalignedAt new.file.header.fields new.file.caches c.in-Some.table c.args.offset c.min-max.result) (MayFailFinding image new c.args.offset c.args.max) c.run_in_table.result
          (λ e why. finding_more image new c.args.offset c.min-max.result c.args.max (let a = c.min-max.ensures in omega arith) e (inl (why.0, inr (subst (λ cluster. HasUnalignedAt new.file.header.fields new.file.caches cluster c.args.offset c.min-max.result) own.0 why.1)))) c.run_in_table.ensures.cause;
    }

pub returns-in-None-clause-kind : goal.returns-in-None-clause-kind
returns-in-None-clause-kind g c = record {
  whole = c.uncovered.ensures.whole;
  special = λ so. absurd (compressed_there c.args.self.now.file.header.fields false (is_some c.args.self.now.backing) c.args.offset c.uncovered.result Uncovered (c.uncovered.ensures.value false) so);
}
