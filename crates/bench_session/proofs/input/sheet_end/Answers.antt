use Rattle.std.proofs.Common.{sym, ◌∙◌}
use Rattle.bench_session.proofs.Reaches.{reach_within, reach_here, reach_on, reach_end}
use Rattle.bench_session.proofs.input.sheet_end.Goals as goal

pub past-requires : goal.past-requires
past-requires c =
    let i = c.loop-line.invariant in
    reach_within c.args.text.now c.loop-line.line-iterator i.0 i.1 c.in-Some.line c.next.new.self c.in-Some.ensures.steps

pub returns-then-labelled_end : goal.returns-then-labelled_end
returns-then-labelled_end c =
    let i = c.loop-line.invariant in
    reach_here c.args.text.now c.loop-line.line-iterator i.0 i.1 c.in-Some.line c.next.new.self c.in-Some.ensures.steps (sym c.if-labelled_end.ensures) _ c.past.ensures

pub loop-line-preserved : goal.loop-line-preserved
loop-line-preserved c =
    let i = c.loop-line.invariant in
    let cut = c.in-Some.ensures.steps in
    (cut.same ∙ i.0, reach_on c.args.text.now c.loop-line.line-iterator i.0 i.1 c.in-Some.line c.next.new.self cut (sym c.if-labelled_end.ensures))

pub returns : goal.returns
returns c =
    let i = c.loop-line.invariant in
    reach_end c.args.text.now c.loop-line.line-iterator i.0 i.1 c.in-None.ensures.steps.0
