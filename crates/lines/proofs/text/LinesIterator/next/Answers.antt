use Rattle.std.proofs.Common.{◌<◌, ◌≤◌, ◌-◌, length, drop, refl, arith, length-drop}
use Rattle.std.proofs.lemmas.List.{length-take-le}
use Rattle.lines.proofs.Cuts.{lines_at, lines_end}
use Rattle.lines.proofs.text.LinesIterator.next.Goals as goal

pub returns-then-self-clause-steps : goal.returns-then-self-clause-steps
returns-then-self-clause-steps c =
    let e = lines_end c.args.self.now.text.now c.args.self.now.from (omega arith) in (e, e)

pub returns-clause-steps : goal.returns-clause-steps
returns-clause-steps c =
    let h : c.args.self.now.from < length c.args.self.now.text.now = omega arith in
    let l = lines_at c.args.self.now.text.now c.args.self.now.from c.line_end-end.result h c.line_end-end.ensures.above c.line_end-end.ensures.value in
    let long : c.line_end-end.result - c.args.self.now.from ≤ length (drop c.args.self.now.from c.args.self.now.text.now) = rw length-drop (omega arith) in
    record { from = refl; text = refl; same = refl; on = rw length-take-le (omega arith); line = l }
