-- What a session stands for. Assumes nothing.
use Rattle.std.specs.Prelude.{ℕ, Bool, List, [], length, take}
use Rattle.placings.specs.declared.mode.Mode.{Mode}
use Rattle.placings.specs.declared.mode.Mode.TheVariants.{Unanchored}
use Rattle.stores.specs.Names.{Names}
use Rattle.tables.specs.Tables.{counts}
use Rattle.tables.specs.declared.row.Next.{Next}
use Rattle.tables.specs.declared.sheet.Counts.{Counts}
use Rattle.tables.specs.declared.sheet.Sheet.{Sheet}
use Rattle.session.specs.declared.entry.Entry.{Entry}
use Rattle.session.specs.declared.session.Session.{Session}

-- what a session is to whoever calls it
pub record State (X : Type 0) : Type 0 where
  -- the names' contents
  pub names : Names X
  -- the counts of the sheet at the opening, where it starts, and whether its tables fitted
  pub counts : Counts
  pub start : Next
  pub admitted : Bool
  pub mode : Mode
  pub next : Next
  -- how many entries were recorded, the record, and how many entries its area takes
  pub recorded : ℕ
  pub entries : List Entry
  pub room : ℕ

-- the state of a session whose store means `held`, with its record area
abbrev pub state : {K S X : Type 0} → (S → Names X) → Session K S → List Entry → State X
state held s area =
    record {
      names = held s.store;
      counts = s.counts;
      start = s.start;
      admitted = s.admitted;
      mode = s.mode;
      next = s.next;
      recorded = s.recorded;
      entries = take s.recorded area;
      room = length area;
    }

-- a session as opened, whether or not its tables fitted
abbrev pub opened : {X : Type 0} → Bool → Sheet → Names X → ℕ → State X
opened fitted sheet names room =
    record {
      names = names;
      counts = counts sheet;
      start = sheet.start;
      admitted = fitted;
      mode = Unanchored;
      next = sheet.start;
      recorded = 0;
      entries = [];
      room = room;
    }

-- a session that has recorded so many entries
abbrev pub with_recorded : {K S : Type 0} → Session K S → ℕ → Session K S
with_recorded s n =
    record {
      kind = s.kind;
      store = s.store;
      counts = s.counts;
      start = s.start;
      admitted = s.admitted;
      mode = s.mode;
      next = s.next;
      recorded = n;
    }
