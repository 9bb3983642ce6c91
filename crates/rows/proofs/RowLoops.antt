-- The row of a line, token by token. Assumes nothing.
use Rattle.std.proofs.Common.{◌≡◌, ℕ, ◌+◌, List, [], ◌∷◌, length, Some, None, Option, sym, refl, ap, ◌∙◌, arith}
use Rattle.std.proofs.lemmas.List.{length-append}
use Rattle.std.specs.List.{flat_map}
use Rattle.lines.specs.declared.lexeme.Lexeme.{Lexeme}
use Rattle.lines.specs.declared.token.Token.{Token}
use Rattle.lines.specs.declared.tokens.Tokens.{Tokens}
use Rattle.lines.specs.Tokens.{tokens}
use Rattle.lines.specs.Walks.{tokens_left, Read}
use Rattle.constants.specs.Constants.{token_symbols}
use Rattle.tables.specs.declared.row.Operand.{Operand}
use Rattle.tables.specs.declared.row.RowOf.{RowOf}
use Rattle.rows.specs.declared.entry.Entry.{Entry}
use Rattle.rows.specs.Entries.{entry_of, entries_from}
use Rattle.rows.specs.Filling.{with_given}
use Rattle.rows.specs.Givens.{in_front}
use Rattle.rows.specs.Rows.{row_of, line_row}
use Rattle.rows.proofs.Drafts.{filled_drafted, row_told}
use Rattle.rows.proofs.Filling.{filled_with}
use Rattle.rows.proofs.Orders.{line_ordered}

front : {L : Type 0} (r : RowOf L) (o : Option (Entry L)) (es : List (Entry L)) → filled_with r (in_front o es) ≡ filled_with (with_given r o) es
unfolding filled_with
front r None es = refl
front r (Some e) es = refl

module _ {L X : Type 0} (labelled : ℕ → List ℕ → Token → L) (meant : List ℕ → Option X) (wide : ℕ) (names labels : List (List ℕ)) (from : ℕ) (s : List ℕ) where
  -- a row once what tokens give is in it
  abbrev pub filled_from : RowOf L → ℕ → List Token → RowOf L
  filled_from r at ts = filled_with r (entries_from labelled names labels from s meant wide at ts)

  -- how many constant symbols there are with those of tokens
  abbrev pub symbols_with : ℕ → List Token → ℕ
  symbols_with at ts = at + length (flat_map (token_symbols meant wide s) ts)

  module _ (q : Tokens) (same : q.line.now ≡ s) (r : RowOf L) (at : ℕ) where
    module _ (x : Lexeme) (t : Tokens) (read : Read q x t) (n : ℕ) (ne : n ≡ length (token_symbols meant wide x.line.now x.token)) where
      symbols_here : n ≡ length (token_symbols meant wide s x.token)
      symbols_here = ne ∙ ap (λ (l : List ℕ). length (token_symbols meant wide l x.token)) (read.line ∙ same)

      abbrev given_by : List ℕ → ℕ → Option (Entry L)
      given_by l m = entry_of labelled names labels from l x.token (Operand.Literal at (at + m))

      pub row_on : (all r' : RowOf L) → all ≡ filled_from r at (tokens_left q) → r' ≡ with_given r (given_by x.line.now n) → all ≡ filled_from r' (at + n) (tokens_left t)
      unfolding entries_from
      row_on all r' inv e =
          let m : ℕ = length (token_symbols meant wide s x.token) in
          inv ∙ ap (filled_from r at) read.token
          ∙ front r (given_by s m) (entries_from labelled names labels from s meant wide (at + m) (tokens_left t))
          ∙ ap (λ (i : ℕ). filled_from (with_given r (given_by s i)) (at + i) (tokens_left t)) (sym symbols_here)
          ∙ ap (λ (l : List ℕ). filled_from (with_given r (given_by l n)) (at + n) (tokens_left t)) (sym (read.line ∙ same))
          ∙ ap (λ (y : RowOf L). filled_from y (at + n) (tokens_left t)) (sym e)

      pub symbols_on : (all : ℕ) → all ≡ symbols_with at (tokens_left q) → all ≡ symbols_with (at + n) (tokens_left t)
      symbols_on all inv =
          let l = length-append (token_symbols meant wide s x.token) (flat_map (token_symbols meant wide s) (tokens_left t)) in
          let h = symbols_here in
          let e : symbols_with at (x.token ∷ tokens_left t) ≡ symbols_with (at + n) (tokens_left t) = omega (arith, l, h) in
          inv ∙ ap (symbols_with at) read.token ∙ e

    pub row_end : (start : ℕ) → filled_from (row_of []) start (tokens s) ≡ filled_from r at (tokens_left q) → tokens_left q ≡ []
        → r ≡ line_row labelled meant wide names labels from start s
    unfolding filled_with entries_from
    row_end start inv e =
        sym (inv ∙ ap (filled_from r at) e)
        ∙ filled_drafted (entries_from labelled names labels from s meant wide start (tokens s)) (line_ordered labelled meant wide names labels from s start)
        ∙ row_told (entries_from labelled names labels from s meant wide start (tokens s))

    pub symbols_end : (all : ℕ) → all ≡ symbols_with at (tokens_left q) → tokens_left q ≡ [] → at ≡ all
    symbols_end all inv e = let z : at ≡ at + 0 = omega arith in z ∙ sym (inv ∙ ap (symbols_with at) e)
