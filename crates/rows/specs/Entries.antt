-- What each token of a line gives to its statement. Assumes nothing.
use Rattle.std.specs.Prelude.{ℕ, ◌+◌, ◌-◌, ◌*◌, ◌<◌, Bool, cond, ◌&&◌, List, [], ◌∷◌, length, Some, None, codes, Option, ◌==◌, nat_le, nat_lt, slice_index}
use Rattle.std.specs.Str.{bytes_eq}
use Rattle.lines.specs.declared.role.Role.{Role}
use Rattle.lines.specs.declared.token.Token.{Token}
use Rattle.constants.specs.Constants.{token_symbols}
use Rattle.sheets.specs.Items.{indirect, spelling}
use Rattle.sheets.specs.Labels.{token_text}
use Rattle.sheets.specs.Parts.{position}
use Rattle.tables.specs.declared.row.Form.{Form}
use Rattle.tables.specs.declared.row.Item.{Item}
use Rattle.tables.specs.declared.row.Next.{Next}
use Rattle.tables.specs.declared.row.Operand.{Operand}
use Rattle.tables.specs.declared.row.Reference.{Reference}
use Rattle.tables.specs.declared.row.Target.{Target}
use Rattle.rows.specs.declared.entry.Entry.{Entry}
use Rattle.rows.specs.Givens.{in_front}

-- the digit at a place, if there is one
abbrev pub digit_of : List ℕ → ℕ → Option ℕ
digit_of s k = cond (nat_lt k (length s) && (nat_le 48 (slice_index s k) && nat_le (slice_index s k) 57)) (Some (slice_index s k - 48)) None

-- what was read is below ten
abbrev pub Digit : Option ℕ → Type 0
Digit None = Unit {0}
Digit (Some d) = d < 10

-- the number of one to four digits
abbrev digits : Option ℕ → Option ℕ → Option ℕ → Option ℕ → ℕ
digits None b c d = 0
digits (Some a) None c d = a
digits (Some a) (Some b) None d = a * 10 + b
digits (Some a) (Some b) (Some c) None = (a * 100 + b * 10) + c
digits (Some a) (Some b) (Some c) (Some d) = ((a * 1000 + b * 100) + c * 10) + d

-- the number that the digits from a place on write
abbrev pub decimal : List ℕ → ℕ → ℕ
decimal s k = digits (digit_of s k) (digit_of s (k + 1)) (digit_of s (k + 2)) (digit_of s (k + 3))

-- a place counted from 1, 0 where there is none
abbrev pub numbered : Option ℕ → ℕ
numbered None = 0
numbered (Some k) = k + 1

-- the number of a token's name among the names of the sheet
abbrev pub name_number : List (List ℕ) → List ℕ → Token → ℕ
name_number names s t = numbered (position (spelling s t) names)

-- a name, or `$` and a name
abbrev pub reference_of : List (List ℕ) → List ℕ → Token → Reference
reference_of names s t = cond (indirect s t) (Reference.Through (name_number names s t)) (Reference.Named (name_number names s t))

-- where a label leads: END, or the statement that has it
abbrev pub destination : List (List ℕ) → List ℕ → Next
destination labels w = cond (bytes_eq w (codes "END")) Next.End (Next.Statement (numbered (position w labels)))

-- a `/` at a place
abbrev pub slash_at : List ℕ → ℕ → Bool
slash_at s k = nat_lt k (length s) && slice_index s k == 47

-- a variable that is not in parentheses: arbitrary, or of the fixed length that `/` and a quote precede
abbrev pub form_at : List ℕ → ℕ → Form
form_at s k = cond (slash_at s k) (Form.Fixed (decimal s (k + 2))) Form.Arbitrary

-- a variable, by its name's number
abbrev pub variable : ℕ → Form → Item
variable n f = Item.Variable (record { name = n; form = f })

-- where a go-to leads: what its label names, or the label that the contents of a name spell
abbrev pub target_of : List (List ℕ) → List (List ℕ) → List ℕ → Token → Target
target_of names labels s t = cond (indirect s t) (Target.Through (name_number names s t)) (Target.To (destination labels (token_text s t)))

module _ {L : Type 0} (labelled : ℕ → List ℕ → Token → L) (names labels : List (List ℕ)) (from : ℕ) (s : List ℕ) where
  abbrev role_entry : Role → Token → Operand → Option (Entry L)
  role_entry Role.Between t constant = None
  role_entry Role.Label t constant = Some (Entry.Label (labelled from s t))
  role_entry Role.Start t constant = None
  role_entry Role.Reference t constant = Some (Entry.Reference (reference_of names s t))
  role_entry Role.Element t constant = Some (Entry.Element (Item.Operand (Operand.Contents (reference_of names s t))))
  role_entry Role.LiteralElement t constant = Some (Entry.Element (Item.Operand constant))
  role_entry Role.Star t constant = None
  role_entry Role.Variable t constant = Some (Entry.Element (variable (name_number names s t) (form_at s (t.start + t.size))))
  role_entry Role.Group t constant = Some (Entry.Element (variable (name_number names s t) Form.Balanced))
  role_entry Role.Length t constant = None
  role_entry Role.Equal t constant = Some Entry.Equal
  role_entry Role.Operand t constant = Some (Entry.Operand (Operand.Contents (reference_of names s t)))
  role_entry Role.LiteralOperand t constant = Some (Entry.Operand constant)
  role_entry Role.Both t constant = Some (Entry.Both (target_of names labels s t))
  role_entry Role.OnS t constant = Some (Entry.OnS (target_of names labels s t))
  role_entry Role.OnF t constant = Some (Entry.OnF (target_of names labels s t))

  -- what a token gives to its statement, if anything, where a literal is the given part of the constants; the line begins at `from`
  abbrev pub entry_of : Token → Operand → Option (Entry L)
  entry_of t constant = role_entry t.role t constant

  -- what tokens give, where the symbols of their literals stand one behind the other from place `at` of the constants on
  unfoldable pub entries_from : {X : Type 0} → (List ℕ → Option X) → ℕ → ℕ → List Token → List (Entry L)
  entries_from meant wide at [] = []
  entries_from meant wide at (t ∷ ts) =
      in_front (entry_of t (Operand.Literal at (at + length (token_symbols meant wide s t))))
      (entries_from meant wide (at + length (token_symbols meant wide s t)) ts)
