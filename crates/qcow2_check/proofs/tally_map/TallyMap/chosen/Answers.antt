use Rattle.std.proofs.Common.{◌≡◌, ◌^◌, ◌++◌, ℕ, List, length, false, refl, sym, ap, subst, ◌∙◌, arith}
use Rattle.qcow2_check.proofs.Common.{IsStrictlySortedBy, nat_cmp, Tally, no_tally, tally_in, takes, shown, shown_entries, entries_past}
use Rattle.qcow2_check.specs.declared.told.Choice.{Choice}
use Rattle.qcow2_check.specs.declared.told.Choice.TheVariants.{Breached, Named}
use Rattle.qcow2_check.proofs.Rising.{lines_joined, keys_of-others, tally_of-others}
use Rattle.qcow2_check.proofs.TallyMaps.{past_array}
use Rattle.qcow2_check.proofs.tally_map.TallyMap.chosen.Goals as goal

none_taken : (choice : Choice) → takes choice no_tally ≡ false
none_taken (Breached counts) = refl
none_taken Named = refl

none_shown : (choice : Choice) (q : ℕ) → shown choice q no_tally ≡ no_tally
none_shown (Breached counts) q = refl
none_shown Named q = refl

pub returns : goal.returns
returns c =
    let m = c.args.self.now in
    let choice = c.args.choice in
    let test = takes choice in
    let t : ℕ → Tally = λ q. shown choice q (tally_in m q) in
    let first = length m.small.items in
    let es = shown_entries choice m.large.entries in
    let none = none_shown choice in
    let S : List ℕ → Type 0 = IsStrictlySortedBy nat_cmp in
    c.in_ok-add_chosen_of_map.ensures.adds
    ∙ ap (λ (xs : List (ℕ × Tally)). xs ++ entries_past first test es) c.in_ok-chosen.ensures.chosen
    ∙ lines_joined test t first (2 ^ 64) es (none_taken choice) (omega (arith, c.chosen_of_array.ensures.short))
    (subst S (sym (keys_of-others (shown choice) none m.large.entries)) c.add_chosen_of_map.ensures.sorted)
    (λ q past. ap (shown choice q) (past_array m q past) ∙ sym (tally_of-others (shown choice) none m.large.entries q))
    (λ q past. ap (shown choice q) (c.requires.near q past) ∙ none q)
