use Rattle.std.proofs.Common.{◌∙◌}
use Rattle.changes.specs.Told.{told}
use Rattle.changes.proofs.Fetches.{fetch_outside, fetch_new, fetch_kept}
use Rattle.changes.proofs.after.AfterStrings.read.Goals as goal

pub returns-then-is_outside : goal.returns-then-is_outside
returns-then-is_outside g c =
    let after = c.args.self.now in
    let f = fetch_outside (told after.success) (g.S.Store.held after.store.now) after.sound c.tell-limits.result c.tell-limits.ensures c.args.name c.args.area.now c.if-is_outside.ensures in
    record { answer = f.0; area = f.1 }

pub returns-in-Some : goal.returns-in-Some
returns-in-Some g c =
    let after = c.args.self.now in
    let f = fetch_new (told after.success) (g.S.Store.held after.store.now) after.sound c.tell-limits.result c.tell-limits.ensures c.args.name c.args.area.now c.if-is_outside.ensures _ c.in-Some.ensures.value in
    record { answer = c.copy_front.ensures.answer ∙ f.0; area = c.copy_front.ensures.area ∙ f.1 }

pub returns-in-None : goal.returns-in-None
returns-in-None g c =
    let after = c.args.self.now in
    let f = fetch_kept (told after.success) (g.S.Store.held after.store.now) after.sound c.tell-limits.result c.tell-limits.ensures c.args.name c.args.area.now c.if-is_outside.ensures c.in-None.ensures.value in
    record { answer = c.fetch.ensures.answer ∙ f.0; area = c.fetch.ensures.area ∙ f.1 }
