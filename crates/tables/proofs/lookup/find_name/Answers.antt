use Rattle.std.proofs.Common.{◌+◌, sym, ap, ◌∙◌, rules}
use borrow.Author.Tests.{tests}
use Rattle.std.proofs.lemmas.Iterator.{YieldsList-from_slice}
use Rattle.std.proofs.lemmas.Iterator.Search.{position_from_yields_List}
use Rattle.std.specs.List.{position_from}
use Rattle.std.specs.Option.{option_map}
use Rattle.tables.specs.Lookups.{spelled}
use Rattle.tables.proofs.Lookups.{numbered}
use Rattle.tables.proofs.lookup.find_name.Goals as goal

pub returns-clause-value : goal.returns-clause-value
returns-clause-value c =
    let test = spelled c.args.chars.now in
    let e = numbered test c.names.result.now c.position.result (position_from_yields_List test _ _ _ c.position.ensures.ran (YieldsList-from_slice c.names.result.now (cc)) (λ x b q k. search (rules, tests))) in
    sym (ap (position_from test 1) (sym c.names.ensures) ∙ e ∙ ap (option_map (λ n. n + 1)) c.in_ok-name.was)

pub returns-in_err-name-clause-value : goal.returns-in_err-name-clause-value
returns-in_err-name-clause-value c =
    let test = spelled c.args.chars.now in
    let e = numbered test c.names.result.now c.position.result (position_from_yields_List test _ _ _ c.position.ensures.ran (YieldsList-from_slice c.names.result.now (cc)) (λ x b q k. search (rules, tests))) in
    c.from_residual.ensures ∙ sym (ap (position_from test 1) (sym c.names.ensures) ∙ e ∙ ap (option_map (λ n. n + 1)) c.in_err-name.was)
