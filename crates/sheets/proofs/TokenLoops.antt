-- The tokens of a line, taken one by one. Assumes nothing.
use Rattle.std.proofs.Common.{◌≡◌, ℕ, List, [], Some, None, Option, Result, sym, ap, ◌∙◌}
use Rattle.lines.specs.declared.lexeme.Lexeme.{Lexeme}
use Rattle.lines.specs.declared.token.Token.{Token}
use Rattle.lines.specs.declared.tokens.Tokens.{Tokens}
use Rattle.lines.specs.Walks.{tokens_left, Read}
use Rattle.symbols.specs.declared.fault.TextFault.{TextFault}
use Rattle.sheets.specs.declared.fault.Fault.{Fault}
use Rattle.sheets.specs.Faults.{first}
use Rattle.sheets.specs.Tallies.{Count, token_faults, with_token, or_else, first_from, count_from}

module _ (reads : List ℕ → Result ℕ TextFault) (s : List ℕ) (n : Count) (q : Tokens) (same : q.line.now ≡ s) where
  abbrev rest : List Token
  rest = tokens_left q

  -- one more token
  module _ (x : Lexeme) (t : Tokens) (read : Read q x t) where
    here : x.line.now ≡ s
    here = read.line ∙ same

    first_at : (all : Option Fault) → all ≡ first_from reads s n rest
        → all ≡ or_else (first (token_faults reads s n x.token)) (first_from reads s (with_token reads s n x.token) (tokens_left t))
    unfolding first_from
    first_at all inv = inv ∙ ap (first_from reads s n) read.token

    pub first_on : (all : Option Fault) (m : Count) → all ≡ first_from reads s n rest → first (token_faults reads x.line.now n x.token) ≡ None
        → m ≡ with_token reads x.line.now n x.token → all ≡ first_from reads s m (tokens_left t)
    first_on all m inv none counted =
        first_at all inv
        ∙ ap (λ (o : Option Fault). or_else o (first_from reads s (with_token reads s n x.token) (tokens_left t)))
        (ap (λ (l : List ℕ). first (token_faults reads l n x.token)) (sym here) ∙ none)
        ∙ ap (λ (y : Count). first_from reads s y (tokens_left t)) (sym (counted ∙ ap (λ (l : List ℕ). with_token reads l n x.token) here))

    pub first_here : (all : Option Fault) (f : Fault) → all ≡ first_from reads s n rest → first (token_faults reads x.line.now n x.token) ≡ Some f → all ≡ Some f
    first_here all f inv some =
        first_at all inv
        ∙ ap (λ (o : Option Fault). or_else o (first_from reads s (with_token reads s n x.token) (tokens_left t)))
        (ap (λ (l : List ℕ). first (token_faults reads l n x.token)) (sym here) ∙ some)

    pub count_on : (all m : Count) → all ≡ count_from reads s n rest → m ≡ with_token reads x.line.now n x.token → all ≡ count_from reads s m (tokens_left t)
    unfolding count_from
    count_on all m inv counted =
        inv ∙ ap (count_from reads s n) read.token
        ∙ ap (λ (y : Count). count_from reads s y (tokens_left t)) (sym (counted ∙ ap (λ (l : List ℕ). with_token reads l n x.token) here))

  pub first_end : (all : Option Fault) → all ≡ first_from reads s n rest → rest ≡ [] → all ≡ None
  unfolding first_from
  first_end all inv e = inv ∙ ap (first_from reads s n) e

  pub count_end : (all : Count) → all ≡ count_from reads s n rest → rest ≡ [] → n ≡ all
  unfolding count_from
  count_end all inv e = sym (inv ∙ ap (count_from reads s n) e)
