use Rattle.std.proofs.Common.{◌≡◌, false, true, drop, ◌∙◌, subst, arith, rules}
use borrow.Author.Tests.{tests}
use Rattle.std.proofs.lemmas.List.{take_all, length-drop}
use Rattle.std.proofs.lemmas.Iterator.{YieldsList-from_slice, IsFirst-from_position}
use Rattle.scan.proofs.Starting.{Found, found_none, found_some}
use Rattle.scan.proofs.search.Search.find.Goals as goal

pub returns-in_err-passed : goal.returns-in_err-passed
returns-in_err-passed g c =
    let eq = g.K.Kind.equal in
    let x = c.args.symbol in
    let s = c.args.self.now.subject.now in
    let found : Found eq x s c.args.from c.position.result = IsFirst-from_position _ _ _ (λ y. eq y x ≡ true) (λ y. eq y x ≡ false) c.position.ensures.ran (YieldsList-from_slice (drop c.args.from s) (c.iter.ensures.rest ∙ take_all _ (drop c.args.from s) (omega (arith, length-drop c.args.from s)))) (λ y q k. search (rules, tests)) (λ y q k. search (rules, tests)) in
    rw c.from_residual.ensures (found_none eq x s c.args.from (subst (Found eq x s c.args.from) c.in_err-passed.was found))

pub returns : goal.returns
returns g c =
    let eq = g.K.Kind.equal in
    let x = c.args.symbol in
    let s = c.args.self.now.subject.now in
    let found : Found eq x s c.args.from c.position.result = IsFirst-from_position _ _ _ (λ y. eq y x ≡ true) (λ y. eq y x ≡ false) c.position.ensures.ran (YieldsList-from_slice (drop c.args.from s) (c.iter.ensures.rest ∙ take_all _ (drop c.args.from s) (omega (arith, length-drop c.args.from s)))) (λ y q k. search (rules, tests)) (λ y q k. search (rules, tests)) in
    found_some eq x s c.args.from c.in_ok-passed.passed (subst (Found eq x s c.args.from) c.in_ok-passed.was found)
