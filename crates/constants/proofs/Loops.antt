-- The symbols of a line token by token, and of a text line by line. Assumes nothing.
use Rattle.std.proofs.Common.{◌≡◌, ℕ, ◌+◌, ◌≤◌, List, [], ◌++◌, length, drop, Option, sym, ap, ◌∙◌, subst, arith, length-drop, length-take}
use native.Mathlib.Nat.{min-le_right}
use Rattle.std.specs.List.{flat_map}
use Rattle.lines.specs.declared.lexeme.Lexeme.{Lexeme}
use Rattle.lines.specs.declared.placed.Line.{Line}
use Rattle.lines.specs.declared.text.Lines.{Lines}
use Rattle.lines.specs.declared.tokens.Tokens.{Tokens}
use Rattle.lines.specs.Walks.{tokens_left, lines_left, Read, Cut}
use Rattle.constants.specs.Constants.{token_symbols, line_symbols}
use Rattle.constants.proofs.Areas.{Step, step}

module _ {X : Type 0} (meant : List ℕ → Option X) (wide : ℕ) where
  -- the symbols of the tokens that are left
  abbrev pub symbols_left : List ℕ → Tokens → List X
  symbols_left s q = flat_map (token_symbols meant wide s) (tokens_left q)

  pub token_step : (s : List ℕ) (q : Tokens) → q.line.now ≡ s → (x : Lexeme) (t : Tokens) → Read q x t
      → (all at : ℕ) (area : List X) → all ≡ at + length (symbols_left s q) → all ≤ length area
      → Step all at (token_symbols meant wide x.line.now x.token) (symbols_left s q) (symbols_left s t) area
  token_step s q same x t read all at area sum room =
      step all at (token_symbols meant wide x.line.now x.token) (symbols_left s q) (symbols_left s t) area
      (subst (λ (l : List ℕ). symbols_left s q ≡ token_symbols meant wide l x.token ++ symbols_left s t) (sym (read.line ∙ same))
      (ap (flat_map (token_symbols meant wide s)) read.token)) sum room

  pub tokens_none : (s : List ℕ) (q : Tokens) → tokens_left q ≡ [] → symbols_left s q ≡ []
  tokens_none s q e = ap (flat_map (token_symbols meant wide s)) e

  -- the symbols of the lines that are left
  abbrev pub all_left : Lines → List X
  all_left q = flat_map (line_symbols meant wide) (lines_left q)

  pub line_step : (q : Lines) (x : Line) (t : Lines) → Cut q x t
      → (all at : ℕ) (area : List X) → all ≡ at + length (all_left q) → all ≤ length area
      → Step all at (line_symbols meant wide x.characters.now) (all_left q) (all_left t) area
  line_step q x t cut all at area sum room =
      step all at (line_symbols meant wide x.characters.now) (all_left q) (all_left t) area (ap (flat_map (line_symbols meant wide)) cut.line) sum room

  pub lines_none : (q : Lines) → lines_left q ≡ [] → all_left q ≡ []
  lines_none q e = ap (flat_map (line_symbols meant wide)) e

-- a line lies within its text
pub within : (x : Line) → x.from + length x.characters.now ≤ length x.text.now
within x =
    let h = x.place in
    let l = ap length x.lies ∙ length-take (length x.characters.now) (drop x.from x.text.now) in
    let d = length-drop x.from x.text.now in
    let m = min-le_right (length x.characters.now) (length (drop x.from x.text.now)) in
    omega (arith, h, l, d, m)
