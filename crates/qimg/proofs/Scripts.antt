-- Lines that are read one after another, if the bytes are known.
use Rattle.std.proofs.Common.{◌≡◌, ◌≢◌, ◌⊎◌, ℕ, true, false, List, [], ◌∷◌, ◌++◌, map, Option, Some, None, IfSome, refl, sym, ap, ◌∙◌, subst}
use Rattle.std.proofs.lemmas.List.{map-append}
use Rattle.std.specs.Io.BufRead.{take_through, drop_through, strip_last}
use Rattle.std.specs.Option.{MatchOption}
use Rattle.std.specs.Str.{IsUtf8}
use Rattle.qcow2_session.specs.declared.session.Command.{Command}
use Rattle.qimg.specs.Lines.{Order, order_of_command, order_of_line}
use Rattle.qimg.specs.Reading.{AsksNothing, BeginsWith, Asks, IsScriptOf, is_cut, no_orders, and_then}
use Rattle.qimg.specs.declared.reading.ScriptEnd.{ScriptEnd}
use Rattle.qimg.specs.declared.reading.ScriptEnd.TheVariants as E

-- what a call that read a line leaves known
abbrev pub ReadsOn : Option (List ℕ) → Order → Option (List ℕ) → Type 0
ReadsOn known asked left = IfSome known (λ text. (rest : List ℕ) × (left ≡ Some rest) × BeginsWith text asked rest)

pub reads_on : (known left : Option (List ℕ)) (start bytes : List ℕ) (asked : Order) → start ≡ [] → IfSome known (λ text. bytes ≡ start ++ take_through 10 text) → order_of_line (strip_last 10 bytes) ≡ Some asked → IfSome known (λ text. left ≡ Some (drop_through 10 text)) → ReadsOn known asked left
reads_on None left start bytes asked empty is asks rest = tt
reads_on (Some text) left start bytes asked empty is asks rest =
    let whole : bytes ≡ take_through 10 text = is ∙ ap (λ it. it ++ take_through 10 text) empty in
    (drop_through 10 text, rest, record { line = rw (sym whole) asks; rest = refl })

pub reads_next : (known left : Option (List ℕ)) (next : Option Command) (command : Command) → next ≡ Some command → IfSome known (λ text. MatchOption next (text ≡ []) (λ it. (rest : List ℕ) × (left ≡ Some rest) × BeginsWith text (order_of_command it) rest)) → ReadsOn known (order_of_command command) left
reads_next None left next command e read = tt
reads_next (Some text) left next command e read =
    let P : Option Command → Type 0 = λ n. MatchOption n (text ≡ []) (λ it. (rest : List ℕ) × (left ≡ Some rest) × BeginsWith text (order_of_command it) rest) in
    subst P e read

-- the first lines of a text ask for these commands, and that is known to be left
pub record HasAsked (text : List ℕ) (commands : List Command) (left : Option (List ℕ)) : Type 0 where
  pub rest : List ℕ
  pub left_is : left ≡ Some rest
  pub asks : Asks text (map order_of_command commands) rest

pub asked_none : (known : Option (List ℕ)) (commands : List Command) → commands ≡ [] → IfSome known (λ text. HasAsked text commands known)
asked_none None commands e = tt
asked_none (Some text) commands e = record { rest = text; left_is = refl; asks = rw e no_orders }

pub asked_more : (known mid left : Option (List ℕ)) (commands all : List Command) (command : Command) → all ≡ commands ++ command ∷ [] → IfSome known (λ text. HasAsked text commands mid) → ReadsOn mid (order_of_command command) left → IfSome known (λ text. HasAsked text all left)
asked_more None mid left commands all command e before now = tt
asked_more (Some text) None left commands all command e before now = let never : None ≡ Some before.rest = before.left_is in cc
asked_more (Some text) (Some between) left commands all command e before (rest, left_is, begins) = record {
  rest = rest;
  left_is = left_is;
  asks =
      let same : between ≡ before.rest = cc in
      let asks : Asks text (map order_of_command commands) between = rw same before.asks in
      rw e (rw (map-append order_of_command commands (command ∷ [])) (and_then (map order_of_command commands) between (order_of_command command) rest asks begins));
}

-- where nothing was cut off, all lines are asked
pub asked_all : (known : Option (List ℕ)) (orders : List Order) (end : ScriptEnd) → IfSome known (λ text. IsScriptOf text orders end) → is_cut end ≡ false → IfSome known (λ text. Asks text orders [])
asked_all None orders end script uncut = tt
asked_all (Some text) orders E.Whole script uncut = subst (λ rest. Asks text orders rest) (script.all refl) script.asks
asked_all (Some text) orders E.BadLine script uncut = let never : true ≡ false = uncut in cc
asked_all (Some text) orders E.FailedRead script uncut = let never : true ≡ false = uncut in cc

-- a line that was read, and isn't UTF-8 or asks for nothing
pub asks_nothing : (known : Option (List ℕ)) (start bytes : List ℕ) → start ≡ [] → bytes ≢ [] → IfSome known (λ text. bytes ≡ start ++ take_through 10 text) → ¬ IsUtf8 (strip_last 10 bytes) ⊎ (order_of_line (strip_last 10 bytes) ≡ None) → IfSome known AsksNothing
asks_nothing None start bytes empty some is line = tt
asks_nothing (Some text) start bytes empty some is line =
    let whole : bytes ≡ take_through 10 text = is ∙ ap (λ it. it ++ take_through 10 text) empty in
    record {
      more = λ none. some (whole ∙ ap (take_through 10) none);
      line = subst (λ it. ¬ IsUtf8 (strip_last 10 it) ⊎ (order_of_line (strip_last 10 it) ≡ None)) whole line;
    }

-- the script ends before a line that asks for nothing
pub script_bad : (known left : Option (List ℕ)) (commands : List Command) → IfSome known (λ text. HasAsked text commands left) → IfSome left AsksNothing → IfSome known (λ text. IsScriptOf text (map order_of_command commands) E.BadLine)
script_bad None left commands asked bad = tt
script_bad (Some text) left commands asked bad = record {
  rest = asked.rest;
  asks = asked.asks;
  all = λ is. let never : E.BadLine ≡ E.Whole = is in cc;
  bad = λ is. subst (λ it. IfSome it AsksNothing) asked.left_is bad;
}

-- it ends where a read failed
pub script_failed : (known left : Option (List ℕ)) (commands : List Command) → IfSome known (λ text. HasAsked text commands left) → IfSome known (λ text. IsScriptOf text (map order_of_command commands) E.FailedRead)
script_failed None left commands asked = tt
script_failed (Some text) left commands asked = record {
  rest = asked.rest;
  asks = asked.asks;
  all = λ is. let never : E.FailedRead ≡ E.Whole = is in cc;
  bad = λ is. let never : E.FailedRead ≡ E.BadLine = is in cc;
}
