-- The row of a statement, by what the tokens of its line give. Assumes nothing.
use Rattle.std.specs.Prelude.{ℕ, ◌+◌, min, Bool, true, false, cond, not, ◌&&◌, ◌||◌, List, [], ◌∷◌, length, Some, None, Option}
use Rattle.lines.specs.declared.token.Token.{Token}
use Rattle.lines.specs.Lines.{idle}
use Rattle.lines.specs.Tokens.{tokens}
use Rattle.constants.specs.Constants.{line_symbols}
use Rattle.sheets.specs.LineFaults.{labelled_end}
use Rattle.tables.specs.declared.row.Item.{Item}
use Rattle.tables.specs.declared.row.Operand.{Operand}
use Rattle.tables.specs.declared.row.Pattern.{Pattern}
use Rattle.tables.specs.declared.row.Reference.{Reference}
use Rattle.tables.specs.declared.row.RightSide.{RightSide}
use Rattle.tables.specs.declared.row.RowOf.{RowOf}
use Rattle.tables.specs.declared.row.Target.{Target}
use Rattle.rows.specs.declared.entry.Entry.{Entry}
use Rattle.rows.specs.Entries.{entries_from}
use Rattle.rows.specs.Fills.{filled}
use Rattle.rows.specs.Givens.{else, given, last_given}

-- the null literal
abbrev pub null : Operand
null = Operand.Literal 0 0

-- elements in the first places of a pattern, null literals in the others
abbrev pub pattern_of : List Item → Pattern
pattern_of xs = record { items = filled 8 (Item.Operand null) xs; count = min (length xs) 8 }

-- operands in the first places of a right side, null literals in the others
abbrev pub right_side_of : List Operand → RightSide
right_side_of xs = record { operands = filled 8 null xs; count = min (length xs) 8 }

module _ {L : Type 0} where
  -- the label that a token gives
  abbrev pub label_in : Entry L → Option L
  label_in (Entry.Label x) = Some x
  label_in (Entry.Reference x) = None
  label_in (Entry.Element e) = None
  label_in Entry.Equal = None
  label_in (Entry.Operand e) = None
  label_in (Entry.Both g) = None
  label_in (Entry.OnS g) = None
  label_in (Entry.OnF g) = None

  -- the string reference that a token gives
  abbrev pub reference_in : Entry L → Option Reference
  reference_in (Entry.Label x) = None
  reference_in (Entry.Reference x) = Some x
  reference_in (Entry.Element e) = None
  reference_in Entry.Equal = None
  reference_in (Entry.Operand e) = None
  reference_in (Entry.Both g) = None
  reference_in (Entry.OnS g) = None
  reference_in (Entry.OnF g) = None

  -- the element that a token gives
  abbrev pub element_in : Entry L → Option Item
  element_in (Entry.Label x) = None
  element_in (Entry.Reference x) = None
  element_in (Entry.Element e) = Some e
  element_in Entry.Equal = None
  element_in (Entry.Operand e) = None
  element_in (Entry.Both g) = None
  element_in (Entry.OnS g) = None
  element_in (Entry.OnF g) = None

  -- whether a token is `=`
  abbrev pub is_equal : Entry L → Bool
  is_equal (Entry.Label x) = false
  is_equal (Entry.Reference x) = false
  is_equal (Entry.Element e) = false
  is_equal Entry.Equal = true
  is_equal (Entry.Operand e) = false
  is_equal (Entry.Both g) = false
  is_equal (Entry.OnS g) = false
  is_equal (Entry.OnF g) = false

  -- the right side operand that a token gives
  abbrev pub operand_in : Entry L → Option Operand
  operand_in (Entry.Label x) = None
  operand_in (Entry.Reference x) = None
  operand_in (Entry.Element e) = None
  operand_in Entry.Equal = None
  operand_in (Entry.Operand e) = Some e
  operand_in (Entry.Both g) = None
  operand_in (Entry.OnS g) = None
  operand_in (Entry.OnF g) = None

  -- the go-to of S that a token gives; `/(L)` gives both
  abbrev pub success_in : Entry L → Option Target
  success_in (Entry.Label x) = None
  success_in (Entry.Reference x) = None
  success_in (Entry.Element e) = None
  success_in Entry.Equal = None
  success_in (Entry.Operand e) = None
  success_in (Entry.Both g) = Some g
  success_in (Entry.OnS g) = Some g
  success_in (Entry.OnF g) = None

  -- the go-to of F that a token gives
  abbrev pub failure_in : Entry L → Option Target
  failure_in (Entry.Label x) = None
  failure_in (Entry.Reference x) = None
  failure_in (Entry.Element e) = None
  failure_in Entry.Equal = None
  failure_in (Entry.Operand e) = None
  failure_in (Entry.Both g) = Some g
  failure_in (Entry.OnS g) = None
  failure_in (Entry.OnF g) = Some g

  -- some token is the equal sign
  unfoldable pub replaces : List (Entry L) → Bool
  replaces [] = false
  replaces (e ∷ es) = is_equal e || replaces es

  -- the row of a statement whose tokens give these things; without `=` it has no right side
  abbrev pub row_of : List (Entry L) → RowOf L
  row_of es =
      record {
        label = last_given label_in es;
        reference = else (Reference.Named 0) (last_given reference_in es);
        pattern = pattern_of (given element_in es);
        right_side = cond (replaces es) (Some (right_side_of (given operand_in es))) None;
        on_success = last_given success_in es;
        on_failure = last_given failure_in es;
      }

-- a line has a row: it is neither idle nor END's
abbrev pub has_row : List ℕ → Bool
has_row s = not (idle s) && not (labelled_end s)

-- rows with one more in front where the test holds
abbrev pub led : {L : Type 0} → Bool → RowOf L → List (RowOf L) → List (RowOf L)
led b r rs = cond b (r ∷ rs) rs

module _ {L X : Type 0} (labelled : ℕ → List ℕ → Token → L) (meant : List ℕ → Option X) (wide : ℕ) (names labels : List (List ℕ)) where
  -- the row of a line that begins at `from`, and whose literals stand from place `at` of the constants on
  abbrev pub line_row : ℕ → ℕ → List ℕ → RowOf L
  line_row from at s = row_of (entries_from labelled names labels from s meant wide at (tokens s))

  -- the rows of lines, of which the first begins at `from`, and whose literals stand from place `at` of the constants on
  unfoldable pub rows_from : ℕ → ℕ → List (List ℕ) → List (RowOf L)
  rows_from from at [] = []
  rows_from from at (l ∷ ls) =
      led (has_row l) (line_row from at l) (rows_from ((from + length l) + 1) (at + length (line_symbols meant wide l)) ls)
