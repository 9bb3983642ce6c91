-- What the tables of a sheet tell. Assumes nothing.
use Rattle.std.specs.Prelude.{ℕ, Bool, ◌&&◌, nat_le, List, take}
use Rattle.tables.specs.Rows.{Row}
use Rattle.tables.specs.declared.sheet.Counts.{Counts}
use Rattle.tables.specs.declared.listing.Listing.{Listing}
use Rattle.tables.specs.declared.sheet.NameTable.{NameTable}
use Rattle.tables.specs.declared.sheet.Sheet.{Sheet}
use Rattle.tables.specs.declared.sheet.Tables.{Tables}

-- how many statements, constant symbols and names a sheet has
abbrev pub counts : Sheet → Counts
counts sheet = record { statements = sheet.statements; constants = sheet.constants; names = sheet.names.count }

-- k is one of n numbers, counted from 1
abbrev pub numbered : ℕ → ℕ → Bool
numbered n k = nat_le 1 k && nat_le k n

-- what carrying out a statement reads of a sheet: its names, its statements, its constants
pub record Tabled (X : Type 0) : Type 0 where
  pub names : NameTable
  pub rows : List Row
  pub constants : List X

-- what lent tables tell: as many statements and constants as the sheet counts
abbrev pub tabled : {X : Type 0} → Tables X → Tabled X
tabled lent =
    record {
      names = lent.sheet.now.names;
      rows = take lent.sheet.now.statements lent.rows.now;
      constants = take lent.sheet.now.constants lent.constants.now;
    }

-- what a listing tells
abbrev pub listed : {K X : Type 0} → Listing K X → Tabled X
listed listing = record { names = listing.names.now; rows = listing.rows.now; constants = listing.constants.now }
