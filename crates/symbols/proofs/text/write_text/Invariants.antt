use Rattle.std.proofs.Common.{◌≡◌, ◌*◌, ◌++◌, take, drop}
use Rattle.std.specs.List.{flat_map}
use Rattle.symbols.proofs.text.write_text.Given as goal

abbrev pub invariant-loop-i : goal.invariant-loop-i
invariant-loop-i g l = l.area ≡ flat_map g.K.Kind.chars (take l.i l.symbols) ++ drop (l.i * g.K.Kind.WIDTH) l.initial.area
