-- Which name of a sheet a reference means. Assumes nothing.
use Rattle.std.specs.Prelude.{◌≡◌, ℕ, cond, List, length, Some, None, Option, nat_lt}
use Rattle.std.specs.Bool.{MatchBool}
use Rattle.std.specs.List.{flat_map}
use Rattle.stores.specs.Names.{Names, under}
use Rattle.tables.specs.declared.row.Reference.{Reference}
use Rattle.tables.specs.declared.row.Reference.TheVariants.{Named, Through}
use Rattle.tables.specs.declared.sheet.NameTable.{NameTable}
use Rattle.tables.specs.Limits.{longest_name}
use Rattle.tables.specs.Lookups.{name_number}

-- what a look-up may give at a text; more characters than a name may have are not looked up
abbrev pub Spells : {A : Type 0} → (List ℕ → Option A → Type 0) → List ℕ → Option A → Type 0
Spells Gives text result = MatchBool (nat_lt longest_name (length text)) (result ≡ None) (Gives text result)

module _ {X : Type 0} (chars : X → List ℕ) (table : NameTable) where
  -- the number of the name that the characters of contents spell, if the sheet has it; more characters than a name may have spell none
  abbrev pub named_by : List X → Option ℕ
  named_by contents = cond (nat_lt longest_name (length (flat_map chars contents))) None (name_number table (flat_map chars contents))

  -- the number of the name that a reference means: its own, or under `$` the one that the contents spell
  abbrev pub meant : Names X → Reference → Option ℕ
  meant names (Named k) = Some k
  meant names (Through k) = named_by (under names k)
