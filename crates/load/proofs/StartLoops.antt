-- The label to start at, looked for token by token and line by line. Assumes nothing.
use Rattle.std.proofs.Common.{◌≡◌, ℕ, List, [], ◌∷◌, Some, None, Option, sym, refl, ap, ◌∙◌}
use Rattle.lines.specs.declared.lexeme.Lexeme.{Lexeme}
use Rattle.lines.specs.declared.placed.Line.{Line}
use Rattle.lines.specs.declared.text.Lines.{Lines}
use Rattle.lines.specs.declared.token.Token.{Token}
use Rattle.lines.specs.declared.tokens.Tokens.{Tokens}
use Rattle.lines.specs.Walks.{tokens_left, lines_left, Read, Cut}
use Rattle.tables.specs.declared.row.Next.{Next}
use Rattle.rows.specs.Givens.{or, else, last_given}
use Rattle.load.specs.Starts.{token_start, line_start}

else_or : {A : Type 0} (d : A) (a b : Option A) → else d (or a b) ≡ else (else d b) a
else_or d None b = refl
else_or d (Some x) b = refl

-- the last that things give, one thing further
last_more : {A B : Type 0} (f : A → Option B) (d : B) (x : A) (xs : List A) → else d (last_given f (x ∷ xs)) ≡ else (else d (f x)) (last_given f xs)
unfolding last_given
last_more f d x xs = else_or d (last_given f xs) (f x)

last_none : {A B : Type 0} (f : A → Option B) (d : B) (xs : List A) → xs ≡ [] → else d (last_given f xs) ≡ d
unfolding last_given
last_none f d xs e = ap (λ (ys : List _). else d (last_given f ys)) e

module _ (labels : List (List ℕ)) (s : List ℕ) (q : Tokens) (same : q.line.now ≡ s) (all n : Next)
    (inv : all ≡ else n (last_given (token_start labels s) (tokens_left q))) where
  pub token_on : (x : Lexeme) (t : Tokens) → Read q x t → (m : Next) → m ≡ else n (token_start labels x.line.now x.token)
      → all ≡ else m (last_given (token_start labels s) (tokens_left t))
  token_on x t read m e =
      inv ∙ ap (λ (ts : List Token). else n (last_given (token_start labels s) ts)) read.token
      ∙ last_more (token_start labels s) n x.token (tokens_left t)
      ∙ ap (λ (y : Next). else y (last_given (token_start labels s) (tokens_left t)))
      (sym (e ∙ ap (λ (l : List ℕ). else n (token_start labels l x.token)) (read.line ∙ same)))

  pub tokens_done : tokens_left q ≡ [] → n ≡ all
  tokens_done e = sym (inv ∙ last_none (token_start labels s) n (tokens_left q) e)

module _ (labels : List (List ℕ)) (q : Lines) (all n : Next) (inv : all ≡ else n (last_given (line_start labels) (lines_left q))) where
  pub line_on : (x : Line) (t : Lines) → Cut q x t → (m : Next) → m ≡ else n (line_start labels x.characters.now)
      → all ≡ else m (last_given (line_start labels) (lines_left t))
  line_on x t cut m e =
      inv ∙ ap (λ (ls : List (List ℕ)). else n (last_given (line_start labels) ls)) cut.line
      ∙ last_more (line_start labels) n x.characters.now (lines_left t)
      ∙ ap (λ (y : Next). else y (last_given (line_start labels) (lines_left t))) (sym e)

  pub lines_done : lines_left q ≡ [] → n ≡ all
  lines_done e = sym (inv ∙ last_none (line_start labels) n (lines_left q) e)
