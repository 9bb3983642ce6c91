-- Where a verdict leads. Assumes nothing.
use Rattle.std.specs.Prelude.{ℕ, ◌+◌, cond, List, length, Some, None, Option, nat_lt}
use Rattle.std.specs.List.{flat_map}
use Rattle.stores.specs.Names.{Names, under}
use Rattle.tables.specs.declared.row.Next.{Next}
use Rattle.tables.specs.declared.row.Next.TheVariants.{Statement, End}
use Rattle.tables.specs.Rows.{Row}
use Rattle.tables.specs.declared.row.Target.{Target}
use Rattle.tables.specs.declared.row.Target.TheVariants.{To, Through}
use Rattle.tables.specs.Limits.{longest_name}
use Rattle.tables.specs.Lookups.{label_place}

-- the statement behind number k of n, END behind the last
abbrev pub following : ℕ → ℕ → Next
following n k = cond (nat_lt k n) (Statement (k + 1)) End

module _ {X : Type 0} (chars : X → List ℕ) (rows : List Row) where
  -- where the label leads that the characters of contents spell, if the sheet has it; more characters than a label may have spell none
  abbrev pub labelled_by : List X → Option Next
  labelled_by contents = cond (nat_lt longest_name (length (flat_map chars contents))) None (label_place rows (flat_map chars contents))

  -- where a go-to of statement k leads under the names after it: without go-to to the statement behind, and nowhere where `$` yields no label
  abbrev pub leads : ℕ → Names X → Option Target → Option Next
  leads k names None = Some (following (length rows) k)
  leads k names (Some (To next)) = Some next
  leads k names (Some (Through name)) = labelled_by (under names name)
