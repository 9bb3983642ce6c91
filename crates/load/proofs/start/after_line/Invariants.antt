use Rattle.std.proofs.Common.{◌≡◌}
use Rattle.lines.specs.Walks.{tokens_left}
use Rattle.rows.specs.Givens.{else, last_given}
use Rattle.rows.specs.Namings.{labels_of}
use Rattle.load.specs.Starts.{token_start, line_start}
use Rattle.load.proofs.start.after_line.Given as goal

abbrev pub invariant-loop-lexeme : goal.invariant-loop-lexeme
invariant-loop-lexeme l =
    (l.lexeme-iterator.line.now ≡ l.line)
    × (else l.initial.start (line_start (labels_of l.naming) l.line)
    ≡ else l.start (last_given (token_start (labels_of l.naming) l.line) (tokens_left l.lexeme-iterator)))
