use Rattle.std.proofs.Common.{◌≡◌, ◌+◌}
use Rattle.lines.specs.Walks.{lines_left}
use Rattle.sheets.specs.Labels.{lines_unknown}
use Rattle.sheets.specs.Parts.{words}
use Rattle.sheets.specs.Sheets.{lines_of}
use Rattle.sheets.proofs.labels.unknown_label.Given as goal

abbrev pub invariant-loop-i : goal.invariant-loop-i
invariant-loop-i l =
    lines_unknown (words l.labels) 1 (lines_of l.labels.text.now)
    ≡ lines_unknown (words l.labels) (l.i-iterator.count + 1) (lines_left l.i-iterator.iter)
