-- The names of a sheet as its tables keep them. Assumes nothing.
use Rattle.std.specs.Prelude.{ℕ, min, List, [], map, length}
use Rattle.tables.specs.declared.sheet.NameTable.{NameTable}
use Rattle.rows.specs.Fills.{filled}
use Rattle.rows.specs.Names.{name_of}

-- the names in their order, null names behind them
abbrev pub name_table : List (List ℕ) → NameTable
name_table ws = record { names = filled 64 (name_of []) (map name_of ws); count = min (length ws) 64 }
