use Rattle.std.proofs.Common.{◌≡◌, ◌+◌, ◌<◌, ◌≤◌, ℕ, refl, ap, ◌∙◌, subst, arith, length, IfSome}
use Rattle.qcow2_alloc.proofs.Common.{lookup, option_map_or, option_or, FlushesAt, Cache, with_entries, behind}
use Rattle.qcow2_alloc.proofs.FlushedMarks.{IsWalking, walk_begins, walk_ends, is_held, walks_on, left_to_walk}
use Rattle.qcow2_alloc.proofs.table_cache.TableCache.flush_modified.Goals as goal

less : (a b n c : ℕ) → a ≤ b → b + 1 ≡ n + 1 → c ≡ n + 1 → a < c
less a b n c le same is = omega (arith, le, same, is)

pub flushing-init : goal.flushing-init
flushing-init g c = record {
  walk = walk_begins (g.B.AsyncLruCacheBackend.steps c.args.self.now.backend) g.B.Key.PartialEq.eq g.B.Value.CachedValue.is_modified c.args.store.now c.args.self.now.entries c.first_modified-next.result c.first_modified-next.ensures.found;
  distinct = c.first_modified-next.ensures.distinct;
  others = refl;
  keeps = g.met.B.AsyncLruCacheBackend.keeps_same c.args.store.now;
}

pub flush_one-failure-requires : goal.flush_one-failure-requires
flush_one-failure-requires g c =
    let i = c.flushing.invariant in
    let now = c.args.self.now in
    let w = subst (λ n. IsWalking (g.B.AsyncLruCacheBackend.steps now.backend) g.B.Key.PartialEq.eq g.B.Value.CachedValue.is_modified c.args.store.now now.entries c.flushing.first n c.flushing.store c.flushing.self.entries) c.in-Some.is i.walk in
    record { there = is_held (g.B.AsyncLruCacheBackend.steps now.backend) g.B.Key.PartialEq.eq g.B.Value.CachedValue.is_modified c.args.store.now now.entries (g.met.B.TableBackend.rests now.backend) g.met.B.Key.Eq.laws g.met.B.TableBackend.exact c.flushing.first c.in-Some.key c.flushing.store c.flushing.self.entries w i.distinct }

pub flushing-preserved : goal.flushing-preserved
flushing-preserved g c =
    let i = c.flushing.invariant in
    let now = c.args.self.now in
    let steps = g.B.AsyncLruCacheBackend.steps in
    let eq = g.B.Key.PartialEq.eq in
    let one = c.flush_one-failure.new in
    let w = subst (λ n. IsWalking (steps now.backend) eq g.B.Value.CachedValue.is_modified c.args.store.now now.entries c.flushing.first n c.flushing.store c.flushing.self.entries) c.in-Some.is i.walk in
    let backend = ap (λ (x : Cache g.row.B.Denot g.row.B-Key.Denot g.row.B-Value.Denot). x.backend) i.others in
    let flush = subst (λ b. IfSome (lookup (eq c.in-Some.key) c.flushing.self.entries) (λ d. FlushesAt eq (steps b) c.in-Some.key d c.flushing.store c.flushing.self c.flush_one-failure.result one.store one.self)) backend c.flush_one-failure.ensures.flushed in
    let on = walks_on (steps now.backend) eq g.B.Value.CachedValue.is_modified c.args.store.now now.entries (g.met.B.TableBackend.rests now.backend) g.met.B.Key.Eq.laws g.met.B.TableBackend.exact c.flushing.first c.in-Some.key c.flushing.store c.flushing.self.entries w i.distinct
    c.flushing.self one.self refl c.flush_one-failure.result one.store flush c.next_modified-next.result c.next_modified-next.ensures.found in record {
      walk = rw c.or-first.ensures on.walk;
      distinct = c.next_modified-next.ensures.distinct;
      others = c.flush_one-failure.ensures.others ∙ ap (λ (x : Cache g.row.B.Denot g.row.B-Key.Denot g.row.B-Value.Denot). with_entries x one.self.entries) i.others;
      keeps = g.met.B.AsyncLruCacheBackend.keeps_then c.args.store.now c.flushing.store one.store i.keeps c.flush_one-failure.ensures.keeps;
    }

pub flushing-smaller : goal.flushing-smaller
flushing-smaller g c =
    let i = c.flushing.invariant in
    let now = c.args.self.now in
    let steps = g.B.AsyncLruCacheBackend.steps in
    let eq = g.B.Key.PartialEq.eq in
    let one = c.flush_one-failure.new in
    let w = subst (λ n. IsWalking (steps now.backend) eq g.B.Value.CachedValue.is_modified c.args.store.now now.entries c.flushing.first n c.flushing.store c.flushing.self.entries) c.in-Some.is i.walk in
    let backend = ap (λ (x : Cache g.row.B.Denot g.row.B-Key.Denot g.row.B-Value.Denot). x.backend) i.others in
    let flush = subst (λ b. IfSome (lookup (eq c.in-Some.key) c.flushing.self.entries) (λ d. FlushesAt eq (steps b) c.in-Some.key d c.flushing.store c.flushing.self c.flush_one-failure.result one.store one.self)) backend c.flush_one-failure.ensures.flushed in
    let on = walks_on (steps now.backend) eq g.B.Value.CachedValue.is_modified c.args.store.now now.entries (g.met.B.TableBackend.rests now.backend) g.met.B.Key.Eq.laws g.met.B.TableBackend.exact c.flushing.first c.in-Some.key c.flushing.store c.flushing.self.entries w i.distinct
    c.flushing.self one.self refl c.flush_one-failure.result one.store flush c.next_modified-next.result c.next_modified-next.ensures.found in
    let left = left_to_walk (steps now.backend) eq g.B.Value.CachedValue.is_modified c.args.store.now now.entries g.met.B.Key.Eq.laws g.met.B.TableBackend.exact (g.met.B.TableBackend.rests now.backend) (option_or c.flushing.first c.flush_one-failure.result) c.next_modified-next.result one.store one.self.entries on.walk c.next_modified-next.ensures.distinct in
    let before : option_map_or (λ k. length (behind (eq k) c.flushing.self.entries) + 1) c.flushing.next 0 ≡ length (behind (eq c.in-Some.key) c.flushing.self.entries) + 1 = ap (λ n. option_map_or (λ k. length (behind (eq k) c.flushing.self.entries) + 1) n 0) c.in-Some.is in
    less (option_map_or (λ k. length (behind (eq k) one.self.entries) + 1) c.next_modified-next.result 0) (length on.walk.todo) (length (behind (eq c.in-Some.key) c.flushing.self.entries)) (option_map_or (λ k. length (behind (eq k) c.flushing.self.entries) + 1) c.flushing.next 0) left on.shorter before

pub returns-clause-flushed : goal.returns-clause-flushed
returns-clause-flushed g c =
    let i = c.flushing.invariant in
    let now = c.args.self.now in
    let w = subst (λ n. IsWalking (g.B.AsyncLruCacheBackend.steps now.backend) g.B.Key.PartialEq.eq g.B.Value.CachedValue.is_modified c.args.store.now now.entries c.flushing.first n c.flushing.store c.flushing.self.entries) c.in_default.is i.walk in
    walk_ends (g.B.AsyncLruCacheBackend.steps now.backend) g.B.Key.PartialEq.eq g.B.Value.CachedValue.is_modified c.args.store.now now.entries (g.met.B.TableBackend.rests now.backend) c.flushing.first c.flushing.store c.flushing.self.entries w
