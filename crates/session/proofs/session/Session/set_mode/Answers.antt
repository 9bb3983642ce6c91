use Rattle.std.proofs.Common.{◌≡◌, set, Some, None, sym, refl, ap, ◌∙◌}
use Rattle.std.proofs.lemmas.Result.{err_from_is_err_and}
use Rattle.symbols.specs.Answers.{answered}
use Rattle.placings.specs.Modes.{mode_word}
use Rattle.session.specs.Calls.{no_mode, word_refusal}
use Rattle.session.specs.Effects.{chosen}
use Rattle.session.specs.Entries.{plain}
use Rattle.session.specs.State.{state}
use Rattle.session.proofs.Answers.{answered_err, answered_ok, stops, goes_on}
use Rattle.session.proofs.Leaves.{room_left, kept, done}
use Rattle.session.proofs.Words.{word_known, word_unknown, chosen_word}
use Rattle.session.proofs.session.Session.set_mode.Goals as goal

pub returns-in_err-check_fit : goal.returns-in_err-check_fit
returns-in_err-check_fit g c =
    let s = c.args.self.now in
    let area = c.args.entries.now in
    let p = err_from_is_err_and c.from_residual.result c.from_residual.ensures.1 in
    let unfits = answered_err _ _ _ _ c.in_err-check_fit.was c.check_fit.ensures in
    let is : word_refusal (state g.S.Store.held s area) c.args.word.now ≡ Some _ = stops _ _ _ unfits in
    rw (p.1, p.2) (record { answer = ap (λ o. answered o tt) (sym is); leaves = kept g.S.Store.held s area s.store _ _ _ is refl; kind = refl })

pub returns-in_err-mode : goal.returns-in_err-mode
returns-in_err-mode g c =
    let s = c.args.self.now in
    let area = c.args.entries.now in
    let p = err_from_is_err_and c.from_residual-in_err-mode.result c.from_residual-in_err-mode.ensures.1 in
    let fits = answered_ok _ _ _ _ c.in_ok-check_fit.was c.check_fit.ensures in
    let unknown = word_unknown (mode_word c.args.word.now) c.parse.result _ c.parse.ensures.value c.in_err-mode.was in
    let is : word_refusal (state g.S.Store.held s area) c.args.word.now ≡ Some _ = goes_on _ _ fits ∙ stops _ _ _ unknown in
    rw (p.1, p.2) (record { answer = ap (λ o. answered o tt) (sym is); leaves = kept g.S.Store.held s area s.store _ _ _ is refl; kind = refl })

pub returns-in_err-check_room : goal.returns-in_err-check_room
returns-in_err-check_room g c =
    let s = c.args.self.now in
    let area = c.args.entries.now in
    let p = err_from_is_err_and c.from_residual-in_err-check_room.result c.from_residual-in_err-check_room.ensures.1 in
    let fits = answered_ok _ _ _ _ c.in_ok-check_fit.was c.check_fit.ensures in
    let named = word_known (mode_word c.args.word.now) c.parse.result _ c.parse.ensures.value c.in_ok-mode.was in
    let fills = answered_err _ _ _ _ c.in_err-check_room.was c.check_room.ensures in
    let is : word_refusal (state g.S.Store.held s area) c.args.word.now ≡ Some _ = goes_on _ _ fits ∙ (goes_on _ _ (ap no_mode named) ∙ fills) in
    rw (p.1, p.2) (record { answer = ap (λ o. answered o tt) (sym is); leaves = kept g.S.Store.held s area s.store _ _ _ is refl; kind = refl })

pub note-requires : goal.note-requires
note-requires g c =
    let room = answered_ok _ _ _ _ c.in_ok-check_room.was c.check_room.ensures in
    room_left g.S.Store.held c.args.self.now c.args.entries.now room

pub returns : goal.returns
returns g c =
    let s = c.args.self.now in
    let area = c.args.entries.now in
    let before = state g.S.Store.held s area in
    let mode = c.in_ok-mode.mode in
    let fits = answered_ok _ _ _ _ c.in_ok-check_fit.was c.check_fit.ensures in
    let named = word_known (mode_word c.args.word.now) c.parse.result _ c.parse.ensures.value c.in_ok-mode.was in
    let room = answered_ok _ _ _ _ c.in_ok-check_room.was c.check_room.ensures in
    let is : word_refusal before c.args.word.now ≡ None = goes_on _ _ fits ∙ (goes_on _ _ (ap no_mode named) ∙ room) in
    let entry = c.plain.ensures ∙ ap (λ k. plain k 0) c.from.ensures in
    let leaves = done g.S.Store.held s area s.store _ (chosen before mode) _ _ is (room_left g.S.Store.held s area room) refl (c.note.ensures.area ∙ ap (set area s.recorded) entry) refl in
    record {
      answer = ap (λ o. answered o tt) (sym is);
      leaves = rw c.note.ensures.session (chosen_word before _ area _ _ _ mode named leaves);
      kind = rw c.note.ensures.session refl;
    }
