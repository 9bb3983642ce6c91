use Rattle.std.proofs.Common.{◌≡◌, ◌+◌, length}
use Rattle.symbols.specs.Answers.{over}
use Rattle.constants.specs.Constants.{sheet_symbols}
use Rattle.constants.proofs.Areas.{written}
use Rattle.constants.proofs.Loops.{all_left}
use Rattle.constants.proofs.write_constants.Given as goal

abbrev pub invariant-loop-line : goal.invariant-loop-line
invariant-loop-line g l =
    (l.line-iterator.text.now ≡ l.text)
    × (length (sheet_symbols g.K.Kind.meant g.K.Kind.WIDTH l.text) ≡ l.count + length (all_left g.K.Kind.meant g.K.Kind.WIDTH l.line-iterator))
    × (over (sheet_symbols g.K.Kind.meant g.K.Kind.WIDTH l.text) l.initial.area ≡ written l.count (all_left g.K.Kind.meant g.K.Kind.WIDTH l.line-iterator) l.area)
