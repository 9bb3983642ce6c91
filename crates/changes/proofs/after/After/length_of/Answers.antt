use Rattle.std.proofs.Common.{length, None, sym, ap, ◌∙◌}
use Rattle.std.specs.Result.{result_unwrap_or}
use Rattle.changes.specs.Told.{told}
use Rattle.changes.proofs.Fetches.{length_told}
use Rattle.changes.proofs.Written.{string_under}
use Rattle.changes.proofs.after.After.length_of.Goals as goal

pub returns-in-Some : goal.returns-in-Some
returns-in-Some g c =
    let after = c.args.self.now in
    ap length (sym (string_under (told after.success) (g.S.Store.held after.store.now) after.sound c.args.name _ c.in-Some.ensures.value))

pub returns-in-None : goal.returns-in-None
returns-in-None g c =
    let after = c.args.self.now in
    let names = g.S.Store.held after.store.now in
    c.unwrap_or.ensures
    ∙ ap (λ r. result_unwrap_or r 0) c.length.ensures
    ∙ length_told names c.args.name
    ∙ ap length (sym (string_under (told after.success) names after.sound c.args.name None c.in-None.ensures.value))
