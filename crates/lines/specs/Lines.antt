-- Statement lines, idle lines, and the longest beginning of a line that some statement line has. Assumes nothing.
use Rattle.std.specs.Prelude.{◌≡◌, ℕ, ◌≤◌, Bool, true, false, cond, ◌||◌, ◌↔◌, List, [], ◌∷◌, ◌++◌, map, length, take, ◌==◌}
use Rattle.std.specs.List.{list_all}
use Rattle.lines.specs.declared.role.Role.{Role}
use Rattle.lines.specs.declared.line.Form.{Form}
use Rattle.lines.specs.Marks.{mark_of}
use Rattle.lines.specs.Languages.{In}
use Rattle.lines.specs.After.{holds_null, after_all, reach}
use Rattle.lines.specs.Grammar.{Character, plain, tinted, ending, line}
use Rattle.lines.specs.Roles.{roles}
use Rattle.lines.specs.Tokens.{Abut, tokens, spread}

-- the characters of a text are a statement line
abbrev pub StatementLine : List ℕ → Type 0
StatementLine s = In (line plain) (map mark_of s)

-- they are END's line
abbrev pub EndLine : List ℕ → Type 0
EndLine s = In (ending plain) (map mark_of s)

-- some statement line begins with them
abbrev pub BeginsLine : List ℕ → Type 0
BeginsLine s = (t : List ℕ) × StatementLine (s ++ t)

-- how many characters the longest beginning has
unfoldable pub longest : List ℕ → ℕ
longest s = reach (line plain) (map mark_of s)

-- the longest beginning has n characters: it can go on to a statement line, and none can from one character more
abbrev pub Longest : List ℕ → ℕ → Type 0
Longest s n = (k : ℕ) → k ≤ length s → BeginsLine (take k s) ↔ (k ≤ n)

-- a line of blanks or none
abbrev pub all_blank : List ℕ → Bool
all_blank s = list_all (λ c. c == 32) s

-- a line with `*` in column 1
abbrev pub comment : List ℕ → Bool
comment [] = false
comment (c ∷ s) = c == 42

abbrev pub idle : List ℕ → Bool
idle s = comment s || all_blank s

unfoldable pub is_statement : List ℕ → Bool
is_statement s = holds_null (after_all (map mark_of s) (line plain))

unfoldable pub is_end : List ℕ → Bool
is_end s = holds_null (after_all (map mark_of s) (ending plain))

-- what a line is
abbrev pub form_of : List ℕ → Form
form_of s = cond (idle s) Form.Idle (cond (is_end s) Form.End (cond (is_statement s) Form.Statement Form.Broken))

-- what that says
abbrev pub Says : List ℕ → Form → Type 0
Says s Form.Idle = idle s ≡ true
Says s Form.Statement = StatementLine s × (EndLine s → ⊥)
Says s Form.End = EndLine s
Says s Form.Broken = (idle s ≡ false) × (StatementLine s → ⊥)

-- each character of a line with its role
abbrev pub characters : List ℕ → List Role → List Character
characters [] rs = []
characters (c ∷ s) [] = []
characters (c ∷ s) (r ∷ rs) = record { mark = mark_of c; role = r } ∷ characters s rs

-- the law of tokens: one after the other they make up the longest beginning, they are its parts of one role,
-- and the roles of a statement line are those that its items have
pub record Tokenized (s : List ℕ) : Type 0 where
  pub abut : Abut 0 (tokens s) (longest s)
  pub parts : spread (tokens s) ≡ roles s
  pub items : StatementLine s → In (line tinted) (characters s (roles s))
