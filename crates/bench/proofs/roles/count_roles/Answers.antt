use Rattle.std.proofs.Common.{refl, ap, ◌∙◌, arith}
use Rattle.std.proofs.lemmas.List.{take_all}
use Rattle.placings.specs.Pattern.{opens, closes, openings, closings}
use Rattle.bench.proofs.Tallies.{total_more, opens_few, closes_few}
use Rattle.bench.proofs.roles.count_roles.Goals as goal

pub loop-symbol-preserved : goal.loop-symbol-preserved
loop-symbol-preserved g c =
    let role = g.K.Kind.acts c.args.kind.now in
    let x = c.symbol-item.result in
    let is = c.role-role.ensures in
    let o = total_more (λ y. opens (role y)) (openings role) refl (λ _ _. refl) c.args.symbols.now c.loop-symbol.symbol-index x (omega arith) c.symbol-item.is in
    let k = total_more (λ y. closes (role y)) (closings role) refl (λ _ _. refl) c.args.symbols.now c.loop-symbol.symbol-index x (omega arith) c.symbol-item.is in
    let p = c.opens.ensures ∙ ap opens is in
    let q = c.closes.ensures ∙ ap closes is in
    let a = opens_few c.role-role.result in
    let b = closes_few c.role-role.result in
    (omega arith, omega arith, omega arith, omega arith)

pub returns : goal.returns
returns g c =
    let t = take_all c.loop-symbol.symbol-index c.args.symbols.now (omega arith) in
    record { opening = c.loop-symbol.invariant.0 ∙ ap (openings (g.K.Kind.acts c.args.kind.now)) t; closing = c.loop-symbol.invariant.1 ∙ ap (closings (g.K.Kind.acts c.args.kind.now)) t }
