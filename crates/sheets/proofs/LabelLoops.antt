-- Labels looked for token by token and line by line. Assumes nothing.
use Rattle.std.proofs.Common.{◌≡◌, ℕ, ◌+◌, List, [], None, Option, sym, ap, ◌∙◌}
use Rattle.lines.specs.declared.lexeme.Lexeme.{Lexeme}
use Rattle.lines.specs.declared.placed.Line.{Line}
use Rattle.lines.specs.declared.text.Lines.{Lines}
use Rattle.lines.specs.declared.tokens.Tokens.{Tokens}
use Rattle.lines.specs.Tokens.{tokens}
use Rattle.lines.specs.Walks.{tokens_left, lines_left, Read, Cut}
use Rattle.sheets.specs.declared.fault.Fault.{Fault}
use Rattle.sheets.specs.declared.fault.Refusal.{Refusal}
use Rattle.sheets.specs.Labels.{token_unknown, unknown_from, lines_unknown}
use Rattle.sheets.specs.Sheets.{refused_first}
use Rattle.sheets.specs.Tallies.{or_else}

module _ (labels : List (List ℕ)) (s : List ℕ) (q : Tokens) (same : q.line.now ≡ s) (all : Option Fault)
    (inv : all ≡ unknown_from labels s (tokens_left q)) where
  pub unknown_at : (x : Lexeme) (t : Tokens) → Read q x t → (o : Option Fault) → o ≡ token_unknown labels x.line.now x.token
      → all ≡ or_else o (unknown_from labels s (tokens_left t))
  unfolding unknown_from
  unknown_at x t read o e =
      inv ∙ ap (unknown_from labels s) read.token
      ∙ ap (λ (o : Option Fault). or_else o (unknown_from labels s (tokens_left t)))
      (sym (e ∙ ap (λ (l : List ℕ). token_unknown labels l x.token) (read.line ∙ same)))

  pub unknown_end : tokens_left q ≡ [] → None ≡ all
  unfolding unknown_from
  unknown_end e = sym (inv ∙ ap (unknown_from labels s) e)

module _ (labels : List (List ℕ)) (q : Lines) (k : ℕ) (all : Option Refusal) (inv : all ≡ lines_unknown labels k (lines_left q)) where
  pub lines_unknown_at : (x : Line) (t : Lines) → Cut q x t → (o : Option Fault) → o ≡ unknown_from labels x.characters.now (tokens x.characters.now)
      → all ≡ refused_first o k (lines_unknown labels (k + 1) (lines_left t))
  unfolding lines_unknown
  lines_unknown_at x t cut o e =
      inv ∙ ap (lines_unknown labels k) cut.line
      ∙ ap (λ (o : Option Fault). refused_first o k (lines_unknown labels (k + 1) (lines_left t))) (sym e)

  pub lines_unknown_end : lines_left q ≡ [] → None ≡ all
  unfolding lines_unknown
  lines_unknown_end e = sym (inv ∙ ap (lines_unknown labels k) e)
