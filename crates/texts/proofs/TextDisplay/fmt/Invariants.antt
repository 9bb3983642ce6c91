use Rattle.std.proofs.Common.{◌≡◌, ℕ, List, ◌++◌}
use Rattle.std.specs.Fmt.{HasWritten, IsPlainFormatter}
use Rattle.std.specs.List.{flat_map}
use Rattle.std.specs.Slice.Iter.{chunks_rest}
use Rattle.texts.proofs.TextDisplay.fmt.Given as goal

-- what is written so far, and what the symbols write that are left
abbrev pub invariant-loop-symbols : goal.invariant-loop-symbols
invariant-loop-symbols g l =
    (goal.iterator-loop-symbols g).can_next l.symbols-iterator
    × (goal.iterator-loop-symbols g).is_finite l.symbols-iterator
    × (IsPlainFormatter l.initial.f → (done : List ℕ) × HasWritten g.W.Write.write_str_gives l.initial.f done l.f
    × (done ++ flat_map g.K.Kind.chars (chunks_rest l.symbols-iterator) ≡ flat_map g.K.Kind.chars l.fn.self.symbols.now))
