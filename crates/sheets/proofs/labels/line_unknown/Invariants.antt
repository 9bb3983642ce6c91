use Rattle.std.proofs.Common.{◌≡◌}
use Rattle.lines.specs.Tokens.{tokens}
use Rattle.lines.specs.Walks.{tokens_left}
use Rattle.sheets.specs.Labels.{unknown_from}
use Rattle.sheets.specs.Parts.{words}
use Rattle.sheets.proofs.labels.line_unknown.Given as goal

abbrev pub invariant-loop-lexeme : goal.invariant-loop-lexeme
invariant-loop-lexeme l =
    (l.lexeme-iterator.line.now ≡ l.line)
    × (unknown_from (words l.labels) l.line (tokens l.line) ≡ unknown_from (words l.labels) l.line (tokens_left l.lexeme-iterator))
