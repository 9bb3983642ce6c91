-- What the two iterators give: the lines of a text, the tokens of a line. Assumes nothing.
use Rattle.std.specs.Prelude.{◌≡◌, ℕ, ◌+◌, List, [], ◌∷◌, length, drop, Some, None, Option}
use Rattle.lines.specs.declared.lexeme.Lexeme.{Lexeme}
use Rattle.lines.specs.declared.placed.Line.{Line}
use Rattle.lines.specs.declared.text.Lines.{Lines}
use Rattle.lines.specs.declared.token.Token.{Token}
use Rattle.lines.specs.declared.tokens.Tokens.{Tokens}
use Rattle.lines.specs.Texts.{lines_of}
use Rattle.lines.specs.Tokens.{tokens_from}

-- the lines that are still to come
abbrev pub lines_left : Lines → List (List ℕ)
lines_left s = lines_of (drop s.from s.text.now)

-- a line comes, the first of those left
pub record Cut (s : Lines) (x : Line) (t : Lines) : Type 0 where
  pub from : x.from ≡ s.from
  pub text : x.text.now ≡ s.text.now
  pub same : t.text.now ≡ s.text.now
  pub on : t.from ≡ (x.from + length x.characters.now) + 1
  pub line : lines_left s ≡ x.characters.now ∷ lines_left t

-- what one call gives: the next line, absent just if there is none
abbrev pub GivesLine : Lines → Option Line → Lines → Type 0
GivesLine s None t = (lines_left s ≡ []) × (lines_left t ≡ [])
GivesLine s (Some x) t = Cut s x t

-- the tokens that are still to come
abbrev pub tokens_left : Tokens → List Token
tokens_left s = tokens_from s.reading s.at (drop s.at s.line.now)

-- a token comes, the first of those left
pub record Read (s : Tokens) (x : Lexeme) (t : Tokens) : Type 0 where
  pub line : x.line.now ≡ s.line.now
  pub same : t.line.now ≡ s.line.now
  pub token : tokens_left s ≡ x.token ∷ tokens_left t

-- what one call gives: the next token, absent just if there is none
abbrev pub GivesToken : Tokens → Option Lexeme → Tokens → Type 0
GivesToken s None t = (tokens_left s ≡ []) × (tokens_left t ≡ [])
GivesToken s (Some x) t = Read s x t
