use Rattle.std.proofs.Common.{set, sym, refl, ap, ◌∙◌}
use Rattle.std.proofs.lemmas.Result.{err_from_is_err_and}
use Rattle.tables.specs.Tables.{tabled}
use Rattle.session.specs.State.{state}
use Rattle.session.specs.Steps.{number_of, carried_from, step_answer, step_effect, verdict_entry}
use Rattle.session.proofs.Leaves.{room_left, refused_leaves, accepted_leaves}
use Rattle.session.proofs.Saying.{step_says}
use Rattle.session.proofs.Stepping.{ready_clears, clears_carriable, done_at, refused_at}
use Rattle.session.proofs.session.Session.step.Goals as goal

pub returns-in_err-row : goal.returns-in_err-row
returns-in_err-row g c =
    let s = c.args.self.now in
    let area = c.args.entries.now in
    let st = state g.S.Store.held s area in
    let p = err_from_is_err_and c.from_residual.result c.from_residual.ensures.1 in
    let is = ap (carried_from g.K.Kind.equal (g.K.Kind.acts s.kind) g.K.Kind.chars st c.args.allowance (tabled c.args.tables)) (sym c.in_err-row.ensures) in
    rw (p.1, p.2) (record { answer = ap step_answer (sym is); says = step_says g.K.Kind.equal g.met.K.Kind.decides (g.K.Kind.acts s.kind) g.K.Kind.chars st c.args.allowance c.args.tables _ _ (ap step_answer (sym is)); leaves = refused_leaves g.S.Store.held s area s.store _ _ (ap (step_effect st) is) refl; kind = refl })

pub carry-requires : goal.carry-requires
carry-requires g c =
    let s = c.args.self.now in
    let st = state g.S.Store.held s c.args.entries.now in
    let clear = ready_clears st c.args.allowance _ c.args.tables c.in_ok-row.row (sym c.in_ok-row.ensures) in
    record {
      carriable = clears_carriable st c.args.allowance _ c.args.tables c.in_ok-row.row clear _ refl;
      low = clear.low;
      high = clear.high;
      string = clear.string;
      constants = clear.constants;
      contents = clear.contents;
    }

pub returns-in_err-done : goal.returns-in_err-done
returns-in_err-done g c =
    let s = c.args.self.now in
    let area = c.args.entries.now in
    let names = g.S.Store.held s.store in
    let role = g.K.Kind.acts s.kind in
    let st = state g.S.Store.held s area in
    let tables = tabled c.args.tables in
    let p = err_from_is_err_and c.from_residual-in_err-done.result c.from_residual-in_err-done.ensures.1 in
    let ready = ap (carried_from g.K.Kind.equal role g.K.Kind.chars st c.args.allowance tables) (sym c.in_ok-row.ensures) in
    let r = refused_at g.K.Kind.equal role s.mode c.args.allowance g.K.Kind.chars names c.in_ok-row.row _ tables refl _ (number_of s.next) c.number-number.ensures _ c.in_err-done.ensures.after _ c.in_err-done.ensures.answer in
    let is = ready ∙ r.0 in
    rw (p.1, p.2) (record { answer = ap step_answer (sym is); says = step_says g.K.Kind.equal g.met.K.Kind.decides (g.K.Kind.acts s.kind) g.K.Kind.chars st c.args.allowance c.args.tables _ _ (ap step_answer (sym is)); leaves = refused_leaves g.S.Store.held s area c.carry.new.store _ _ (ap (step_effect st) is) r.1; kind = refl })

pub note-requires : goal.note-requires
note-requires g c =
    let s = c.args.self.now in
    let area = c.args.entries.now in
    let clear = ready_clears (state g.S.Store.held s area) c.args.allowance _ c.args.tables c.in_ok-row.row (sym c.in_ok-row.ensures) in
    room_left g.S.Store.held s area clear.room

pub returns : goal.returns
returns g c =
    let s = c.args.self.now in
    let area = c.args.entries.now in
    let names = g.S.Store.held s.store in
    let role = g.K.Kind.acts s.kind in
    let st = state g.S.Store.held s area in
    let tables = tabled c.args.tables in
    let done = c.in_ok-done.done in
    let clear = ready_clears st c.args.allowance _ c.args.tables c.in_ok-row.row (sym c.in_ok-row.ensures) in
    let ready = ap (carried_from g.K.Kind.equal role g.K.Kind.chars st c.args.allowance tables) (sym c.in_ok-row.ensures) in
    let is =
    ready ∙ done_at g.K.Kind.equal role s.mode c.args.allowance g.K.Kind.chars names c.in_ok-row.row _ tables refl _ (number_of s.next) c.number-number.ensures _ c.in_ok-done.ensures.after done c.in_ok-done.ensures.answer in
    let entry = c.verdict_entry.ensures ∙ ap (λ k. verdict_entry k done.scanned.verdict) c.number-number.ensures in
    record {
      answer = ap step_answer (sym is);
      says = step_says g.K.Kind.equal g.met.K.Kind.decides (g.K.Kind.acts s.kind) g.K.Kind.chars st c.args.allowance c.args.tables _ _ (ap step_answer (sym is));
      leaves = rw c.note.ensures.session (accepted_leaves g.S.Store.held s area _ _ _ _ _ (ap (step_effect st) is) (room_left g.S.Store.held s area clear.room) refl (c.note.ensures.area ∙ ap (set area s.recorded) entry) refl);
      kind = rw c.note.ensures.session refl;
    }
