-- The faults of a line, by what the lines before it brought. Assumes nothing.
use Rattle.std.specs.Prelude.{◌≡◌, ℕ, ◌+◌, ◌≤◌, Bool, true, false, cond, not, ◌&&◌, ◌||◌, List, [], ◌∷◌, ◌++◌, map, length, take, Some, None, Ok, Err, codes, Option, Result, nat_le, nat_lt}
use Rattle.std.specs.Str.{bytes_eq}
use Rattle.lines.specs.declared.line.Form.{Form}
use Rattle.lines.specs.declared.role.Role.{Role}
use Rattle.lines.specs.declared.token.Token.{Token}
use Rattle.lines.specs.Lines.{idle, form_of, longest}
use Rattle.lines.specs.Roles.{same_role}
use Rattle.lines.specs.Tokens.{tokens}
use Rattle.symbols.specs.declared.fault.TextFault.{TextFault}
use Rattle.sheets.specs.declared.check.Carried.{Carried}
use Rattle.sheets.specs.declared.fault.Cause.{Cause}
use Rattle.sheets.specs.declared.fault.Fault.{Fault}
use Rattle.sheets.specs.declared.part.Part.{Part}
use Rattle.sheets.specs.Faults.{fault}
use Rattle.sheets.specs.Parts.{part_of, position}
use Rattle.sheets.specs.Tallies.{Count, when, absent, faults_from, count_from}

-- what lines bring: how many statements, their labels (null where there is none), constant symbols, names, and whether END's line was there
pub record Brought : Type 0 where
  pub statements : ℕ
  pub labels : List (List ℕ)
  pub symbols : ℕ
  pub names : List (List ℕ)
  pub ended : Bool

-- over 120 characters, at the first too many
abbrev pub too_long : List ℕ → List Fault
too_long s = when (nat_lt 120 (length s)) (fault 121 Cause.LineLong)

-- codes outside 32 to 126, from column k on
unfoldable pub bad_codes : ℕ → List ℕ → List Fault
bad_codes k [] = []
bad_codes k (c ∷ s) = cond (nat_le 32 c && nat_le c 126) (bad_codes (k + 1) s) (fault k Cause.BadCode ∷ bad_codes (k + 1) s)

-- a form that no statement line has
abbrev broken : Form → Bool
broken Form.Idle = false
broken Form.Statement = false
broken Form.End = false
broken Form.Broken = true

-- no statement line, after the longest beginning that some statement line has
abbrev pub no_statement : List ℕ → List Fault
no_statement s = when (broken (form_of s)) (fault (longest s + 1) Cause.NoStatement)

-- how many characters the label has; none where the first token is no label
abbrev pub label_size : List Token → ℕ
label_size [] = 0
label_size (t ∷ ts) = cond (same_role t.role Role.Label) t.size 0

-- the label of a line, null where it has none
unfoldable pub label : List ℕ → List ℕ
label s = take (label_size (tokens s)) s

-- the line is labelled END
abbrev pub labelled_end : List ℕ → Bool
labelled_end s = bytes_eq (label s) (codes "END")

-- a statement after 128 others, in column 1
abbrev pub extra_statement : ℕ → List ℕ → List Fault
extra_statement statements s = when (nat_le 128 statements && not (labelled_end s)) (fault 1 Cause.TooMany)

-- a label that a statement before has, in column 1
abbrev pub second_label : List (List ℕ) → List ℕ → List Fault
second_label labels s = when (nat_lt 0 (length (label s)) && not (absent (position (label s) labels))) (fault 1 Cause.SecondLabel)

-- nothing of a statement is counted yet
abbrev pub none_yet : Brought → Count
none_yet n = record { elements = 0; operands = 0; symbols = n.symbols; names = n.names }

-- the faults that any line may have
abbrev pub code_faults : List ℕ → List Fault
code_faults s = too_long s ++ bad_codes 1 s

-- an idle line, or one after END's: it brings nothing
abbrev pub passed : Brought → List ℕ → Bool
passed n s = idle s || n.ended

-- the faults of a line's form and label: an idle line has none, a line after END's only that it is there
abbrev pub form_faults : ℕ → List (List ℕ) → Bool → List ℕ → List Fault
form_faults statements labels ended s =
    cond (idle s) [] (cond ended (fault 1 Cause.End ∷ []) ((no_statement s ++ extra_statement statements s) ++ second_label labels s))

-- the faults of a line but for those of its tokens
abbrev pub own_faults : Brought → List ℕ → List Fault
own_faults n s = code_faults s ++ form_faults n.statements n.labels n.ended s

module _ (reads : List ℕ → Result ℕ TextFault) where
  -- the faults of a line: its own and those of its tokens
  unfoldable pub line_faults : Brought → List ℕ → List Fault
  line_faults n s = own_faults n s ++ cond (passed n s) [] (faults_from reads s (none_yet n) (tokens s))

  -- what a statement line adds; END's line adds no statement
  abbrev pub with_statement : Brought → List ℕ → Brought
  with_statement n s =
      record {
        statements = cond (labelled_end s) n.statements (n.statements + 1);
        labels = cond (labelled_end s) n.labels (n.labels ++ (label s ∷ []));
        symbols = (count_from reads s (none_yet n) (tokens s)).symbols;
        names = (count_from reads s (none_yet n) (tokens s)).names;
        ended = labelled_end s;
      }

  -- what a line without fault adds
  unfoldable pub with_line : Brought → List ℕ → Brought
  with_line n s = cond (passed n s) n (with_statement n s)

-- what is carried over lines means what they brought, labels and names being parts of the text
abbrev pub carried : List ℕ → List Part → List Part → Carried → Brought
carried text names labels c =
    record {
      statements = c.statements;
      labels = map (part_of text) (take c.statements labels);
      symbols = c.symbols;
      names = map (part_of text) (take c.names names);
      ended = c.ended;
    }

-- a sheet that goes over no limit
pub record Limited (c : Carried) : Type 0 where
  pub statements : c.statements ≤ 128
  pub symbols : c.symbols ≤ 4096
  pub names : c.names ≤ 64

-- what checking lines answers: the fault that counts; or what they brought, within all limits
abbrev pub Checked : Option Fault → Brought → List ℕ → List Part → List Part → Result Carried Fault → Type 0
Checked fault n text names labels (Ok c) = (fault ≡ None) × (carried text names labels c ≡ n) × Limited c
Checked fault n text names labels (Err f) = fault ≡ Some f
