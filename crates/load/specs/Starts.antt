-- Where a sheet starts. Assumes nothing.
use Rattle.std.specs.Prelude.{ℕ, List, Some, None, Option}
use Rattle.lines.specs.declared.role.Role.{Role}
use Rattle.lines.specs.declared.token.Token.{Token}
use Rattle.lines.specs.Tokens.{tokens}
use Rattle.sheets.specs.Labels.{token_text}
use Rattle.sheets.specs.Sheets.{lines_of}
use Rattle.tables.specs.declared.row.Next.{Next}
use Rattle.rows.specs.Entries.{destination}
use Rattle.rows.specs.Givens.{else, last_given}

abbrev role_start : Role → Next → Option Next
role_start Role.Between n = None
role_start Role.Label n = None
role_start Role.Start n = Some n
role_start Role.Reference n = None
role_start Role.Element n = None
role_start Role.LiteralElement n = None
role_start Role.Star n = None
role_start Role.Variable n = None
role_start Role.Group n = None
role_start Role.Length n = None
role_start Role.Equal n = None
role_start Role.Operand n = None
role_start Role.LiteralOperand n = None
role_start Role.Both n = None
role_start Role.OnS n = None
role_start Role.OnF n = None

-- where the label to start at leads, if a token is one
abbrev pub token_start : List (List ℕ) → List ℕ → Token → Option Next
token_start labels s t = role_start t.role (destination labels (token_text s t))

-- where the label to start at of a line leads, if it has one
abbrev pub line_start : List (List ℕ) → List ℕ → Option Next
line_start labels s = last_given (token_start labels s) (tokens s)

-- where END's line of a text has the sheet start
abbrev pub text_start : List (List ℕ) → List ℕ → Next
text_start labels text = else Next.End (last_given (line_start labels) (lines_of text))
