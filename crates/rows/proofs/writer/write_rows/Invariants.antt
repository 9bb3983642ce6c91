use Rattle.std.proofs.Common.{◌≡◌, ◌+◌, ◌≤◌, length}
use Rattle.lines.specs.Walks.{lines_left}
use Rattle.sheets.specs.Sheets.{lines_of}
use Rattle.rows.specs.Namings.{names_of, labels_of}
use Rattle.rows.specs.Rows.{rows_from}
use Rattle.rows.proofs.RowPuts.{put}
use Rattle.rows.proofs.writer.write_rows.Given as goal

abbrev pub invariant-loop-line : goal.invariant-loop-line
invariant-loop-line g l =
    (l.line-iterator.text.now ≡ l.naming.text.now) × (l.stored ≤ l.line-iterator.from) × (l.count ≤ l.line-iterator.from)
    × (length (rows_from g.L.Label.labelled g.K.Kind.meant g.K.Kind.WIDTH (names_of l.naming) (labels_of l.naming) 0 0 (lines_of l.naming.text.now)) ≡ l.count + length (rows_from g.L.Label.labelled g.K.Kind.meant g.K.Kind.WIDTH (names_of l.naming) (labels_of l.naming) l.line-iterator.from l.stored (lines_left l.line-iterator)))
    × (put 0 (rows_from g.L.Label.labelled g.K.Kind.meant g.K.Kind.WIDTH (names_of l.naming) (labels_of l.naming) 0 0 (lines_of l.naming.text.now)) l.initial.rows
    ≡ put l.count (rows_from g.L.Label.labelled g.K.Kind.meant g.K.Kind.WIDTH (names_of l.naming) (labels_of l.naming) l.line-iterator.from l.stored (lines_left l.line-iterator)) l.rows)
