use Rattle.std.proofs.Common.{◌∙◌, rules}
use borrow.Author.Tests.{tests}
use Rattle.std.proofs.lemmas.Iterator.{YieldsList-from_slice}
use Rattle.std.proofs.lemmas.Iterator.Consumers.{YieldsList-from_enumerate}
use Rattle.std.proofs.lemmas.Iterator.Search.{all_from_yields_List}
use Rattle.scan.specs.Elements.{fits}
use Rattle.scan.proofs.Fitting.{fit_enumerated}
use Rattle.scan.proofs.range.elements_fit.Goals as goal

pub returns : goal.returns
returns c =
    all_from_yields_List (λ p. fits c.args.constants p.0 p.1) _ _ _ c.all.ensures.ran (YieldsList-from_enumerate (YieldsList-from_slice c.args.elements.now (cc)) (cc)) (λ x b q k. search (rules, tests))
    ∙ fit_enumerated c.args.constants 0 c.args.elements.now
