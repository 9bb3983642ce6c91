use Rattle.std.proofs.Common.{◌+◌, sym, ap, ◌∙◌, rules, List, ℕ, Bool}
use borrow.Author.Tests.{tests}
use Rattle.std.proofs.lemmas.Iterator.{YieldsList-from_slice}
use Rattle.std.proofs.lemmas.Iterator.Search.{position_from_yields_List}
use Rattle.std.specs.Option.{option_map}
use Rattle.tables.specs.Lookups.{label_spelled}
use Rattle.tables.specs.Rows.{Row}
use Rattle.tables.proofs.Lookups.{numbered}
use Rattle.tables.proofs.lookup.find_statement.Goals as goal

abbrev has : List ℕ → Row → Bool
has chars row = label_spelled chars row.label

pub returns : goal.returns
returns c =
    let e = numbered (has c.args.chars.now) c.args.rows.now c.position.result (position_from_yields_List (has c.args.chars.now) _ _ _ c.position.ensures.ran (YieldsList-from_slice c.args.rows.now (cc)) (λ x b q k. search (rules, tests))) in
    sym (e ∙ ap (option_map (λ n. n + 1)) c.in_ok-row.was)

pub returns-in_err-row : goal.returns-in_err-row
returns-in_err-row c =
    let e = numbered (has c.args.chars.now) c.args.rows.now c.position.result (position_from_yields_List (has c.args.chars.now) _ _ _ c.position.ensures.ran (YieldsList-from_slice c.args.rows.now (cc)) (λ x b q k. search (rules, tests))) in
    c.from_residual.ensures ∙ sym (e ∙ ap (option_map (λ n. n + 1)) c.in_err-row.was)
