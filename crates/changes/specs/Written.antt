-- The names after a success. Assumes nothing.
use Rattle.std.specs.Prelude.{ℕ, List, [], ◌∷◌, Some, None, Option}
use Rattle.placings.specs.Pattern.{part}
use Rattle.stores.specs.Names.{Names, with_string}
use Rattle.tables.specs.declared.row.Item.{Item}
use Rattle.tables.specs.declared.row.Item.TheVariants.{Operand, Variable}
use Rattle.changes.specs.Success.{Success}

-- a variable takes its part; no other element takes anything
abbrev pub takes : {X : Type 0} → Item → List X → Names X → Names X
takes (Operand o) s names = names
takes (Variable v) s names = with_string names v.name s

-- the names once the variables took their parts, left to right; a part begins where the one before it ends
unfoldable pub named : {X : Type 0} → List X → ℕ → List Item → List ℕ → Names X → Names X
named subject start [] ends names = names
named subject start (i ∷ is) [] names = names
named subject start (i ∷ is) (e ∷ es) names = named subject e is es (takes i (part subject start e) names)

-- the names once the string reference has its new contents, if there are any
abbrev pub renewed : {X : Type 0} → Option ℕ → List X → Names X → Names X
renewed None s names = names
renewed (Some k) s names = with_string names k s

-- the names after a success: the variables are named, then the string reference gets its new contents
abbrev pub written : {X : Type 0} → Success X → Names X → Names X
written success names = renewed success.reference success.contents (named success.subject success.start success.items success.ends names)
