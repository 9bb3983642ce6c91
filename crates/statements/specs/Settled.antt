-- What writes leave, and where the verdict then leads. Assumes nothing.
use Rattle.std.specs.Prelude.{ℕ, cond, List, Some, None, Ok, Err, Option, Result}
use Rattle.stores.specs.Names.{Names}
use Rattle.tables.specs.declared.row.Next.{Next}
use Rattle.tables.specs.Rows.{Row}
use Rattle.tables.specs.declared.row.Target.{Target}
use Rattle.changes.specs.Limits.{over_limits}
use Rattle.statements.specs.declared.refusal.StatementRefusal.{StatementRefusal}
use Rattle.statements.specs.declared.refusal.StatementRefusal.TheVariants.{NoName, TooLong}
use Rattle.statements.specs.GoTos.{leads}

-- what a statement leaves: the names, and the statement that comes next
pub record Left (X : Type 0) : Type 0 where
  pub names : Names X
  pub next : Next

-- the names with the next statement; refused where the go-to leads nowhere
abbrev pub left : {X : Type 0} → Names X → Option Next → Result (Left X) StatementRefusal
left names None = Err NoName
left names (Some next) = Ok (record { names = names; next = next })

module _ {X : Type 0} (chars : X → List ℕ) (rows : List Row) (k : ℕ) where
  -- the names after the writes of statement k, and where its go-to leads under them; refused where they go over a limit, then where it leads nowhere
  abbrev pub settled : Option Target → Names X → Result (Left X) StatementRefusal
  settled target after = cond (over_limits after) (Err TooLong) (left after (leads chars rows k after target))

-- the next statement that is left, or the refusal
abbrev pub next_of : {X : Type 0} → Result (Left X) StatementRefusal → Result Next StatementRefusal
next_of (Ok l) = Ok l.next
next_of (Err e) = Err e

-- the names that are left: those before under a refusal
abbrev pub names_of : {X : Type 0} → Names X → Result (Left X) StatementRefusal → Names X
names_of names (Ok l) = l.names
names_of names (Err e) = names
