use Rattle.std.proofs.Common.{◌≡◌, [], length, Some, None, sym, ap, ◌∙◌}
use Rattle.std.proofs.lemmas.Result.{err_from_is_err_and}
use Rattle.std.specs.Option.{option_map}
use Rattle.symbols.specs.Answers.{answered, unless, over}
use Rattle.stores.specs.Names.{under}
use Rattle.session.specs.Calls.{look_refusal}
use Rattle.session.specs.Refusals.{stored}
use Rattle.session.specs.State.{state}
use Rattle.session.proofs.Answers.{answered_err, answered_ok, answered_value, stops, goes_on}
use Rattle.session.proofs.session.Session.look.Goals as goal

pub returns-in_err-check_fit : goal.returns-in_err-check_fit
returns-in_err-check_fit g c =
    let s = state g.S.Store.held c.args.self.now [] in
    let area = c.args.area.now in
    let p = err_from_is_err_and c.from_residual.result c.from_residual.ensures.1 in
    let unfits = answered_err _ _ _ _ c.in_err-check_fit.was c.check_fit.ensures in
    let is : look_refusal s c.args.number (length area) ≡ Some _ = stops _ _ _ unfits in
    rw (p.1, p.2) (record { answer = ap (λ o. answered o (length (under s.names c.args.number))) (sym is); area = ap (λ o. unless o area (over (under s.names c.args.number) area)) (sym is) })

pub returns-in_err-check_number : goal.returns-in_err-check_number
returns-in_err-check_number g c =
    let s = state g.S.Store.held c.args.self.now [] in
    let area = c.args.area.now in
    let p = err_from_is_err_and c.from_residual-in_err-check_number.result c.from_residual-in_err-check_number.ensures.1 in
    let fits = answered_ok _ _ _ _ c.in_ok-check_fit.was c.check_fit.ensures in
    let unknown = answered_err _ _ _ _ c.in_err-check_number.was c.check_number.ensures in
    let is : look_refusal s c.args.number (length area) ≡ Some _ = goes_on _ _ fits ∙ stops _ _ _ unknown in
    rw (p.1, p.2) (record { answer = ap (λ o. answered o (length (under s.names c.args.number))) (sym is); area = ap (λ o. unless o area (over (under s.names c.args.number) area)) (sym is) })

pub returns-in_err-fetch : goal.returns-in_err-fetch
returns-in_err-fetch g c =
    let s = state g.S.Store.held c.args.self.now [] in
    let area = c.args.area.now in
    let p = err_from_is_err_and c.from_residual-in_err-fetch.result c.from_residual-in_err-fetch.ensures.1 in
    let fits = answered_ok _ _ _ _ c.in_ok-check_fit.was c.check_fit.ensures in
    let known = answered_ok _ _ _ _ c.in_ok-check_number.was c.check_number.ensures in
    let refused = answered_err _ _ _ _ c.in_err-fetch.was c.fetch.ensures.answer in
    let is : look_refusal s c.args.number (length area) ≡ Some _ = goes_on _ _ fits ∙ (goes_on _ _ known ∙ ap (option_map stored) refused) in
    let left = rw refused at c.fetch.ensures.area in
    rw (p.1, p.2) (record { answer = ap (λ o. answered o (length (under s.names c.args.number))) (sym is); area = left ∙ ap (λ o. unless o area (over (under s.names c.args.number) area)) (sym is) })

pub returns : goal.returns
returns g c =
    let s = state g.S.Store.held c.args.self.now [] in
    let area = c.args.area.now in
    let fits = answered_ok _ _ _ _ c.in_ok-check_fit.was c.check_fit.ensures in
    let known = answered_ok _ _ _ _ c.in_ok-check_number.was c.check_number.ensures in
    let taken = answered_ok _ _ _ _ c.in_ok-fetch.was c.fetch.ensures.answer in
    let long = answered_value _ _ _ _ c.in_ok-fetch.was c.fetch.ensures.answer in
    let is : look_refusal s c.args.number (length area) ≡ None = goes_on _ _ fits ∙ (goes_on _ _ known ∙ ap (option_map stored) taken) in
    let new = rw taken at c.fetch.ensures.area in
    record {
      answer = ap (λ n. answered None n) long ∙ ap (λ o. answered o (length (under s.names c.args.number))) (sym is);
      area = new ∙ ap (λ o. unless o area (over (under s.names c.args.number) area)) (sym is);
    }
