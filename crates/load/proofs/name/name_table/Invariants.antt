use Rattle.std.proofs.Common.{◌≡◌, map, take}
use Rattle.sheets.specs.Parts.{part_of}
use Rattle.load.specs.Names.{name_table}
use Rattle.load.proofs.NameLoops.{table}
use Rattle.load.proofs.name.name_table.Given as goal

abbrev pub invariant-loop-part : goal.invariant-loop-part
invariant-loop-part l = table l.names l.count ≡ name_table (map (part_of l.naming.text.now) (take l.part-index l.naming.names.now))
