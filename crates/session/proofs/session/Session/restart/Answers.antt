use Rattle.std.proofs.Common.{set, sym, refl, ap, ◌∙◌}
use Rattle.std.proofs.lemmas.Result.{err_from_is_err_and}
use Rattle.symbols.specs.Answers.{answered}
use Rattle.session.specs.Calls.{full}
use Rattle.session.specs.Refusals.{first_of}
use Rattle.session.specs.State.{state}
use Rattle.session.proofs.Answers.{answered_err, answered_ok}
use Rattle.session.proofs.Leaves.{room_left, kept, done}
use Rattle.session.proofs.session.Session.restart.Goals as goal

pub returns-in_err-check_fit : goal.returns-in_err-check_fit
returns-in_err-check_fit g c =
    let s = c.args.self.now in
    let area = c.args.entries.now in
    let p = err_from_is_err_and c.from_residual.result c.from_residual.ensures.1 in
    let unfits = answered_err _ _ _ _ c.in_err-check_fit.was c.check_fit.ensures in
    let is = ap (λ o. first_of o (full (state g.S.Store.held s area))) unfits in
    rw (p.1, p.2) (record { answer = ap (λ o. answered o tt) (sym is); leaves = kept g.S.Store.held s area s.store _ _ _ is refl; kind = refl })

pub returns-in_err-check_room : goal.returns-in_err-check_room
returns-in_err-check_room g c =
    let s = c.args.self.now in
    let area = c.args.entries.now in
    let p = err_from_is_err_and c.from_residual-in_err-check_room.result c.from_residual-in_err-check_room.ensures.1 in
    let fits = answered_ok _ _ _ _ c.in_ok-check_fit.was c.check_fit.ensures in
    let fills = answered_err _ _ _ _ c.in_err-check_room.was c.check_room.ensures in
    let is = ap (λ o. first_of o (full (state g.S.Store.held s area))) fits ∙ fills in
    rw (p.1, p.2) (record { answer = ap (λ o. answered o tt) (sym is); leaves = kept g.S.Store.held s area s.store _ _ _ is refl; kind = refl })

pub note-requires : goal.note-requires
note-requires g c =
    let room = answered_ok _ _ _ _ c.in_ok-check_room.was c.check_room.ensures in
    room_left g.S.Store.held c.args.self.now c.args.entries.now room

pub returns : goal.returns
returns g c =
    let s = c.args.self.now in
    let area = c.args.entries.now in
    let fits = answered_ok _ _ _ _ c.in_ok-check_fit.was c.check_fit.ensures in
    let room = answered_ok _ _ _ _ c.in_ok-check_room.was c.check_room.ensures in
    let is = ap (λ o. first_of o (full (state g.S.Store.held s area))) fits ∙ room in
    record {
      answer = ap (λ o. answered o tt) (sym is);
      leaves = rw c.note.ensures.session (done g.S.Store.held s area _ _ _ _ _ is (room_left g.S.Store.held s area room) refl (c.note.ensures.area ∙ ap (set area s.recorded) c.plain.ensures) refl);
      kind = rw c.note.ensures.session refl;
    }
