-- What an accepted call leaves, and the state after every call. Assumes nothing.
use Rattle.std.specs.Prelude.{◌≡◌, ℕ, ◌+◌, List, [], ◌∷◌, ◌++◌, Ok, Err, Result}
use Rattle.std.specs.Option.{unwrap_or}
use Rattle.symbols.specs.Answers.{answered, over}
use Rattle.placings.specs.declared.mode.Mode.{Mode}
use Rattle.placings.specs.declared.mode.Mode.TheVariants.{Anchored, Unanchored}
use Rattle.placings.specs.Modes.{mode_word}
use Rattle.stores.specs.Names.{Names, with_string}
use Rattle.tables.specs.declared.row.Next.{Next}
use Rattle.session.specs.declared.entry.Entry.{Entry}
use Rattle.session.specs.declared.entry.EntryKind.{EntryKind}
use Rattle.session.specs.declared.entry.EntryKind.TheVariants.{Given, Restarted, Anchored as anchored, Unanchored as unanchored}
use Rattle.session.specs.declared.refusal.Refusal.{Refusal}
use Rattle.session.specs.Entries.{plain}
use Rattle.session.specs.State.{State}
use Rattle.session.specs.Calls.{give_refusal, word_refusal, restart_refusal}

-- what an accepted call makes of names, mode and next statement, and its entry
pub record Effect (X : Type 0) : Type 0 where
  pub names : Names X
  pub mode : Mode
  pub next : Next
  pub entry : Entry

-- the state after a call: as it was where the call was refused, else one entry more
abbrev pub after : {X : Type 0} → State X → Result (Effect X) Refusal → State X
after s (Err e) = s
after s (Ok f) =
    record {
      names = f.names;
      counts = s.counts;
      start = s.start;
      admitted = s.admitted;
      mode = f.mode;
      next = f.next;
      recorded = s.recorded + 1;
      entries = s.entries ++ f.entry ∷ [];
      room = s.room;
    }

-- name k has the string xs
abbrev pub give_effect : {X : Type 0} → State X → ℕ → List X → Result (Effect X) Refusal
give_effect s k xs =
    answered (give_refusal s k xs) (record { names = with_string s.names k xs; mode = s.mode; next = s.next; entry = plain Given k })

-- the kind of entry that a choice of the mode adds
abbrev pub mode_kind : Mode → EntryKind
mode_kind Anchored = anchored
mode_kind Unanchored = unanchored

-- the mode is the chosen one
abbrev pub chosen : {X : Type 0} → State X → Mode → Effect X
chosen s mode = record { names = s.names; mode = mode; next = s.next; entry = plain (mode_kind mode) 0 }

-- the mode is the one that the word chooses
abbrev pub mode_effect : {X : Type 0} → State X → List ℕ → Result (Effect X) Refusal
mode_effect s word = answered (word_refusal s word) (chosen s (unwrap_or (mode_word word) s.mode))

-- the sheet's start is next
abbrev pub restart_effect : {X : Type 0} → State X → Result (Effect X) Refusal
restart_effect s = answered (restart_refusal s) (record { names = s.names; mode = s.mode; next = s.start; entry = plain Restarted 0 })

-- what a call that may add an entry is held to: it leaves the state after its effect, and the record over the front of its area
pub record Leaves {X : Type 0} (s t : State X) (old new : List Entry) (effect : Result (Effect X) Refusal) : Type 0 where
  pub state : t ≡ after s effect
  pub area : new ≡ over (after s effect).entries old
