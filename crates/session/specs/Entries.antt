-- The entries of a record. Assumes nothing.
use Rattle.std.specs.Prelude.{ℕ, List, take, replicate}
use Rattle.session.specs.declared.entry.Entry.{Entry}
use Rattle.session.specs.declared.entry.EntryKind.{EntryKind}
use Rattle.session.specs.declared.entry.EntryKind.TheVariants.{Success, Failure, Given, Restarted, Anchored, Unanchored}

-- the letter by which a record shows a kind, as its code: S, F, G, R, A, U
abbrev pub letter : EntryKind → ℕ
letter Success = 83
letter Failure = 70
letter Given = 71
letter Restarted = 82
letter Anchored = 65
letter Unanchored = 85

-- an entry without a placing
abbrev pub plain : EntryKind → ℕ → Entry
plain kind number = record { kind = kind; number = number; start = 0; count = 0; ends = replicate 8 0 }

-- what fills a record area before anything is recorded
abbrev pub blank : Entry
blank = plain Restarted 0

-- the ends that an entry has
abbrev pub ends_in : Entry → List ℕ
ends_in entry = take entry.count entry.ends
