use Rattle.rows.specs.Namings.{labels_of}
use Rattle.load.proofs.StartLoops.{line_on, lines_done}
use Rattle.load.proofs.start.find_start.Goals as goal

pub loop-line-preserved : goal.loop-line-preserved
loop-line-preserved c =
    line_on (labels_of c.args.naming.now) c.loop-line.line-iterator _ c.loop-line.start c.loop-line.invariant
    c.in-Some.line c.next.new.self c.in-Some.ensures.steps c.after_line-start.result c.after_line-start.ensures

pub returns : goal.returns
returns c = lines_done (labels_of c.args.naming.now) c.loop-line.line-iterator _ c.loop-line.start c.loop-line.invariant c.in-None.ensures.steps.0
