use Rattle.std.proofs.Common.{◌+◌, ◌<◌, ◌≤◌, length, take, ap, ◌∙◌, arith}
use mir.Facts.{Fits-below}
use Rattle.std.proofs.lemmas.List.{length-take-le}
use Rattle.placings.specs.Pattern.{opens, closes}
use Rattle.scan.proofs.Blocks.{opens_one, closes_one, openings_more, closings_more, openings_few, closings_few}
use Rattle.scan.proofs.balance.tally.Goals as goal

pub overflow_add-opened : goal.overflow_add-opened
overflow_add-opened g c =
    let few = openings_few (g.K.Kind.acts c.args.kind.now) (take c.loop-symbol.symbol-index c.args.block.now) in
    let long = length-take-le c.loop-symbol.symbol-index c.args.block.now (omega arith) in
    let one = opens_one c.role-role.result in
    let h : c.loop-symbol.opened + c.opens-opened.result ≤ 64 = omega arith in
    Fits-below {n = 64} tt h

pub overflow_add-closed : goal.overflow_add-closed
overflow_add-closed g c =
    let few = closings_few (g.K.Kind.acts c.args.kind.now) (take c.loop-symbol.symbol-index c.args.block.now) in
    let long = length-take-le c.loop-symbol.symbol-index c.args.block.now (omega arith) in
    let one = closes_one c.role-role.result in
    let h : c.loop-symbol.closed + c.closes-closed.result ≤ 64 = omega arith in
    Fits-below {n = 64} tt h

pub loop-symbol-preserved : goal.loop-symbol-preserved
loop-symbol-preserved g c =
    let role = g.K.Kind.acts c.args.kind.now in
    let block = c.args.block.now in
    let l : c.loop-symbol.symbol-index < length block = omega arith in
    let a = openings_more role block c.loop-symbol.symbol-index c.symbol-item.result l c.symbol-item.is in
    let b = closings_more role block c.loop-symbol.symbol-index c.symbol-item.result l c.symbol-item.is in
    let x = c.opens-opened.ensures ∙ ap opens c.role-role.ensures in
    let y = c.closes-closed.ensures ∙ ap closes c.role-role.ensures in
    (omega arith, omega arith)
