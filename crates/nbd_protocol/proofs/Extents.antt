-- Appending one run of the disk to a list of runs.
use Rattle.std.proofs.Common.{◌≡◌, ◌+◌, ◌<◌, ◌++◌, ◌∷◌, ℕ, [], List, subst, sym, arith}
use Rattle.nbd_protocol.proofs.Common.{IsTrue, Extent, AreExtents, total, DeviceView, ShowsZeros, is_zeros}

total_push : (es : List Extent) (e : Extent) → total (es ++ e ∷ []) ≡ total es + e.length
total_push [] e = omega arith
total_push (x ∷ es) e = omega (arith, total_push es e)

pub pushed_total : (es more : List Extent) (e : Extent) → more ≡ es ++ e ∷ [] → total more ≡ total es + e.length
pushed_total es more e is = subst (λ (xs : List Extent). total xs ≡ total es + e.length) (sym is) (total_push es e)

push_runs : (d : DeviceView) (offset : ℕ) (es : List Extent) (e : Extent) → AreExtents d offset es → 0 < e.length → (IsTrue (is_zeros e.state) → ShowsZeros d (offset + total es) (offset + total es + e.length)) → AreExtents d offset (es ++ e ∷ [])
push_runs d offset [] e old some zeros = (some, (λ zero o lt low high. zeros zero o lt (omega arith) (omega arith)), tt)
push_runs d offset (x ∷ es) e old some zeros = (old.0, old.1, push_runs d (offset + x.length) es e old.2 some (λ zero o lt low high. zeros zero o lt (omega arith) (omega arith)))

pub pushed_runs : (d : DeviceView) (offset : ℕ) (es more : List Extent) (e : Extent) → more ≡ es ++ e ∷ [] → AreExtents d offset es → 0 < e.length
    → (IsTrue (is_zeros e.state) → ShowsZeros d (offset + total es) (offset + total es + e.length)) → AreExtents d offset more
pushed_runs d offset es more e is old some zeros = subst (λ (xs : List Extent). AreExtents d offset xs) (sym is) (push_runs d offset es e old some zeros)
