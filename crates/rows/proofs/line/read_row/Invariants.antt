use Rattle.std.proofs.Common.{◌≡◌, ◌+◌, [], length}
use Rattle.lines.specs.Tokens.{tokens}
use Rattle.lines.specs.Walks.{tokens_left}
use Rattle.constants.specs.Constants.{line_symbols}
use Rattle.rows.specs.Namings.{names_of, labels_of}
use Rattle.rows.specs.Rows.{row_of}
use Rattle.rows.proofs.RowLoops.{filled_from, symbols_with}
use Rattle.rows.proofs.line.read_row.Given as goal

abbrev pub invariant-loop-lexeme : goal.invariant-loop-lexeme
invariant-loop-lexeme g l =
    (l.lexeme-iterator.line.now ≡ l.line.characters.now)
    × (filled_from g.L.Label.labelled g.K.Kind.meant g.K.Kind.WIDTH (names_of l.naming) (labels_of l.naming) l.line.from l.line.characters.now (row_of []) l.symbols (tokens l.line.characters.now)
    ≡ filled_from g.L.Label.labelled g.K.Kind.meant g.K.Kind.WIDTH (names_of l.naming) (labels_of l.naming) l.line.from l.line.characters.now l.row l.stored (tokens_left l.lexeme-iterator))
    × (l.symbols + length (line_symbols g.K.Kind.meant g.K.Kind.WIDTH l.line.characters.now)
    ≡ symbols_with g.L.Label.labelled g.K.Kind.meant g.K.Kind.WIDTH (names_of l.naming) (labels_of l.naming) l.line.from l.line.characters.now l.stored (tokens_left l.lexeme-iterator))
