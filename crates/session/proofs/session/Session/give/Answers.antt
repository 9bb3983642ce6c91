use Rattle.std.proofs.Common.{◌≡◌, set, Some, None, sym, refl, ap, ◌∙◌}
use Rattle.std.proofs.lemmas.Result.{err_from_is_err_and}
use Rattle.std.specs.Option.{option_map}
use Rattle.symbols.specs.Answers.{answered}
use Rattle.session.specs.Calls.{give_refusal}
use Rattle.session.specs.Refusals.{stored}
use Rattle.session.specs.State.{state}
use Rattle.session.proofs.Answers.{answered_err, answered_ok, stops, goes_on}
use Rattle.session.proofs.Leaves.{room_left, kept, done}
use Rattle.session.proofs.session.Session.give.Goals as goal

pub returns-in_err-check_fit : goal.returns-in_err-check_fit
returns-in_err-check_fit g c =
    let s = c.args.self.now in
    let area = c.args.entries.now in
    let p = err_from_is_err_and c.from_residual.result c.from_residual.ensures.1 in
    let unfits = answered_err _ _ _ _ c.in_err-check_fit.was c.check_fit.ensures in
    let is : give_refusal (state g.S.Store.held s area) c.args.number c.args.string.now ≡ Some _ = stops _ _ _ unfits in
    rw (p.1, p.2) (record { answer = ap (λ o. answered o tt) (sym is); leaves = kept g.S.Store.held s area s.store _ _ _ is refl; kind = refl })

pub returns-in_err-check_number : goal.returns-in_err-check_number
returns-in_err-check_number g c =
    let s = c.args.self.now in
    let area = c.args.entries.now in
    let p = err_from_is_err_and c.from_residual-in_err-check_number.result c.from_residual-in_err-check_number.ensures.1 in
    let fits = answered_ok _ _ _ _ c.in_ok-check_fit.was c.check_fit.ensures in
    let unknown = answered_err _ _ _ _ c.in_err-check_number.was c.check_number.ensures in
    let is : give_refusal (state g.S.Store.held s area) c.args.number c.args.string.now ≡ Some _ = goes_on _ _ fits ∙ stops _ _ _ unknown in
    rw (p.1, p.2) (record { answer = ap (λ o. answered o tt) (sym is); leaves = kept g.S.Store.held s area s.store _ _ _ is refl; kind = refl })

pub returns-in_err-check_room : goal.returns-in_err-check_room
returns-in_err-check_room g c =
    let s = c.args.self.now in
    let area = c.args.entries.now in
    let p = err_from_is_err_and c.from_residual-in_err-check_room.result c.from_residual-in_err-check_room.ensures.1 in
    let fits = answered_ok _ _ _ _ c.in_ok-check_fit.was c.check_fit.ensures in
    let known = answered_ok _ _ _ _ c.in_ok-check_number.was c.check_number.ensures in
    let fills = answered_err _ _ _ _ c.in_err-check_room.was c.check_room.ensures in
    let is : give_refusal (state g.S.Store.held s area) c.args.number c.args.string.now ≡ Some _ = goes_on _ _ fits ∙ (goes_on _ _ known ∙ stops _ _ _ fills) in
    rw (p.1, p.2) (record { answer = ap (λ o. answered o tt) (sym is); leaves = kept g.S.Store.held s area s.store _ _ _ is refl; kind = refl })

pub returns-in_err-put : goal.returns-in_err-put
returns-in_err-put g c =
    let s = c.args.self.now in
    let area = c.args.entries.now in
    let p = err_from_is_err_and c.from_residual-in_err-put.result c.from_residual-in_err-put.ensures.1 in
    let fits = answered_ok _ _ _ _ c.in_ok-check_fit.was c.check_fit.ensures in
    let known = answered_ok _ _ _ _ c.in_ok-check_number.was c.check_number.ensures in
    let room = answered_ok _ _ _ _ c.in_ok-check_room.was c.check_room.ensures in
    let refused = answered_err _ _ _ _ c.in_err-put.was c.put.ensures.answer in
    let is : give_refusal (state g.S.Store.held s area) c.args.number c.args.string.now ≡ Some _ = goes_on _ _ fits ∙ (goes_on _ _ known ∙ (goes_on _ _ room ∙ ap (option_map stored) refused)) in
    rw (p.1, p.2) (record { answer = ap (λ o. answered o tt) (sym is); leaves = kept g.S.Store.held s area c.put.new.self _ _ _ is (rw refused at c.put.ensures.after); kind = refl })

pub note-requires : goal.note-requires
note-requires g c =
    let room = answered_ok _ _ _ _ c.in_ok-check_room.was c.check_room.ensures in
    room_left g.S.Store.held c.args.self.now c.args.entries.now room

pub returns : goal.returns
returns g c =
    let s = c.args.self.now in
    let area = c.args.entries.now in
    let fits = answered_ok _ _ _ _ c.in_ok-check_fit.was c.check_fit.ensures in
    let known = answered_ok _ _ _ _ c.in_ok-check_number.was c.check_number.ensures in
    let room = answered_ok _ _ _ _ c.in_ok-check_room.was c.check_room.ensures in
    let taken = answered_ok _ _ _ _ c.in_ok-put.was c.put.ensures.answer in
    let is : give_refusal (state g.S.Store.held s area) c.args.number c.args.string.now ≡ None = goes_on _ _ fits ∙ (goes_on _ _ known ∙ (goes_on _ _ room ∙ ap (option_map stored) taken)) in
    record {
      answer = ap (λ o. answered o tt) (sym is);
      leaves = rw c.note.ensures.session (done g.S.Store.held s area _ _ _ _ _ is (room_left g.S.Store.held s area room) refl (c.note.ensures.area ∙ ap (set area s.recorded) c.plain.ensures) (rw taken at c.put.ensures.after));
      kind = rw c.note.ensures.session refl;
    }
