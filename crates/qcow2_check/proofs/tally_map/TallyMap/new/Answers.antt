use Rattle.qcow2_check.proofs.Common.{ℕ, List, get_or, unwrap_or, ap, ◌∙◌, lookup, is_at, nat_cmp, Tally, no_tally, blank, is_blank}
use Rattle.qcow2_check.proofs.TallyMaps.{tally-large}
use Rattle.qcow2_check.proofs.tally_map.TallyMap.new.Goals as goal

pub returns : goal.returns
returns c q =
    tally-large _ q (ap (λ xs. is_blank (get_or xs q blank)) c.new.ensures.items)
    ∙ ap (λ (es : List (ℕ × Tally)). unwrap_or (lookup (is_at (nat_cmp q)) es) no_tally) c.new-2.ensures.empty
