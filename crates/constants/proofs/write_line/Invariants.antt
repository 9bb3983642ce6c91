use Rattle.std.proofs.Common.{◌≡◌, ◌+◌, length}
use Rattle.symbols.specs.Answers.{over}
use Rattle.constants.specs.Constants.{line_symbols}
use Rattle.constants.proofs.Areas.{written}
use Rattle.constants.proofs.Loops.{symbols_left}
use Rattle.constants.proofs.write_line.Given as goal

abbrev pub invariant-loop-lexeme : goal.invariant-loop-lexeme
invariant-loop-lexeme g l =
    (l.lexeme-iterator.line.now ≡ l.line)
    × (length (line_symbols g.K.Kind.meant g.K.Kind.WIDTH l.line) ≡ l.count + length (symbols_left g.K.Kind.meant g.K.Kind.WIDTH l.line l.lexeme-iterator))
    × (over (line_symbols g.K.Kind.meant g.K.Kind.WIDTH l.line) l.initial.area ≡ written l.count (symbols_left g.K.Kind.meant g.K.Kind.WIDTH l.line l.lexeme-iterator) l.area)
