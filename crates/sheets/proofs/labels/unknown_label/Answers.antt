use Rattle.std.proofs.Common.{ℕ, ◌+◌, Some, None, sym, ap, ◌∙◌, arith, inl}
use Rattle.sheets.specs.Labels.{lines_unknown}
use Rattle.lines.specs.Walks.{lines_left}
use Rattle.sheets.specs.Parts.{words}
use Rattle.sheets.proofs.LabelLoops.{lines_unknown_at, lines_unknown_end}
use Rattle.sheets.proofs.labels.unknown_label.Goals as goal

pub loop-i-init-derived : goal.loop-i-init-derived
loop-i-init-derived c =
    let e = c.enumerate-i-items.ensures in
    ((tt, tt, inl (rw (c.into_iter-i-iterator.ensures.into_iter_gives, e.source, e.count) (omega arith))), tt)

pub returns-in-Some-line_unknown : goal.returns-in-Some-line_unknown
returns-in-Some-line_unknown c =
    let st = c.in-Some.ensures.steps in
    let at = lines_unknown_at (words c.args.labels) c.loop-i.i-iterator.iter (c.loop-i.i-iterator.count + 1) _ c.loop-i.invariant c.in-Some.line c.next.new.self.iter st.0
    (Some c.in-Some-line_unknown.fault) c.in-Some-line_unknown.ensures in
    rw (c.from.ensures, st.1) (sym at)

pub loop-i-preserved : goal.loop-i-preserved
loop-i-preserved c =
    let st = c.in-Some.ensures.steps in
    let at = lines_unknown_at (words c.args.labels) c.loop-i.i-iterator.iter (c.loop-i.i-iterator.count + 1) _ c.loop-i.invariant c.in-Some.line c.next.new.self.iter st.0
    None c.in_default.ensures in
    at ∙ ap (λ (k : ℕ). lines_unknown (words c.args.labels) (k + 1) (lines_left c.next.new.self.iter)) (sym st.2)

pub returns : goal.returns
returns c =
    lines_unknown_end (words c.args.labels) c.loop-i.i-iterator.iter (c.loop-i.i-iterator.count + 1) _ c.loop-i.invariant c.in-None.ensures.steps.0.0
