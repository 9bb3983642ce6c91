use Rattle.std.proofs.Common.{◌≡◌, map, drop}
use Rattle.sheets.specs.Parts.{part_of, position, position_from}
use Rattle.sheets.proofs.part.find_word.Given as goal

abbrev pub invariant-loop-i : goal.invariant-loop-i
invariant-loop-i l = position l.word (map (part_of l.text) l.parts) ≡ position_from l.i l.word (map (part_of l.text) (drop l.i l.parts))
