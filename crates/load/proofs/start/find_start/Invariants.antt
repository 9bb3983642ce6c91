use Rattle.std.proofs.Common.{◌≡◌}
use Rattle.lines.specs.Walks.{lines_left}
use Rattle.rows.specs.Givens.{else, last_given}
use Rattle.rows.specs.Namings.{labels_of}
use Rattle.load.specs.Starts.{line_start, text_start}
use Rattle.load.proofs.start.find_start.Given as goal

abbrev pub invariant-loop-line : goal.invariant-loop-line
invariant-loop-line l =
    text_start (labels_of l.naming) l.naming.text.now ≡ else l.start (last_given (line_start (labels_of l.naming)) (lines_left l.line-iterator))
