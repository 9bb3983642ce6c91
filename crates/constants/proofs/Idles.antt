-- An idle line brings no symbols. Assumes nothing.
use Rattle.std.proofs.Common.{◌≡◌, ℕ, ◌+◌, ◌≤◌, Bool, true, false, cond, eqb, List, [], ◌∷◌, length, Option, sym, refl, ap, subst, ⊎_elim, le_trans, arith}
use Rattle.std.specs.List.{flat_map}
use Rattle.std.proofs.lemmas.List.{length-append, nil_from_length}
use Rattle.std.proofs.lemmas.Bool.{eqb-true, and_parts, or_cases}
use Rattle.lines.specs.declared.reading.Reading.{Reading}
use Rattle.lines.specs.declared.reading.Section.{Section}
use Rattle.lines.specs.declared.role.Role.{Role}
use Rattle.lines.specs.declared.token.Token.{Token}
use Rattle.lines.specs.Lines.{all_blank, comment, idle}
use Rattle.lines.specs.Roles.{same_role, roles_from}
use Rattle.lines.specs.Tokens.{token, extend, runs, tokens_from, tokens}
use Rattle.constants.specs.Constants.{token_symbols, line_symbols}

-- a comment has no tokens
pub comment_tokens : (s : List ℕ) → comment s ≡ true → tokens s ≡ []
unfolding tokens_from runs roles_from
comment_tokens [] e = refl
comment_tokens (c ∷ s) e = subst (λ (x : ℕ). tokens (x ∷ s) ≡ []) (sym (eqb-true c 42 e)) refl

module _ {X : Type 0} (meant : List ℕ → Option X) (wide : ℕ) (s : List ℕ) where
  abbrev brings : List Token → List X
  brings ts = flat_map (token_symbols meant wide s) ts

  -- blanks in front of tokens bring nothing
  blank_extends : (k n : ℕ) (ts : List Token) → length (brings (extend k Role.Between n ts)) ≤ length (brings ts)
  blank_extends k n [] = omega arith
  blank_extends k n (t ∷ ts) = go (same_role Role.Between t.role)
    where
      go : (b : Bool) → length (brings (cond b (token Role.Between k (n + t.size) ∷ ts) (token Role.Between k n ∷ t ∷ ts))) ≤ length (brings (t ∷ ts))
      go true = let l = length-append (token_symbols meant wide s t) (brings ts) in omega (arith, l)
      go false = omega arith

  abbrev gap : Reading
  gap = Reading.Gap Section.Reference

  blank_runs : (k : ℕ) (cs : List ℕ) → all_blank cs ≡ true → length (brings (runs k (roles_from gap cs))) ≤ 0
  unfolding runs roles_from
  blank_runs k [] e = omega arith
  blank_runs k (c ∷ cs) e =
      let p = and_parts (eqb c 32) (all_blank cs) e in
      subst (λ (x : ℕ). length (brings (runs k (roles_from gap (x ∷ cs)))) ≤ 0) (sym (eqb-true c 32 p.0))
      (le_trans (blank_extends k 1 (runs (k + 1) (roles_from gap cs))) (blank_runs (k + 1) cs p.1))

  blank_line : (cs : List ℕ) → all_blank cs ≡ true → length (brings (tokens cs)) ≤ 0
  unfolding tokens_from runs roles_from
  blank_line [] e = omega arith
  blank_line (c ∷ cs) e =
      let p = and_parts (eqb c 32) (all_blank cs) e in
      subst (λ (x : ℕ). length (brings (tokens (x ∷ cs))) ≤ 0) (sym (eqb-true c 32 p.0))
      (le_trans (blank_extends 0 1 (runs (0 + 1) (roles_from gap cs))) (blank_runs (0 + 1) cs p.1))

  pub idle_none : idle s ≡ true → line_symbols meant wide s ≡ []
  idle_none e =
      ⊎_elim (λ c. ap brings (comment_tokens s c))
      (λ b. let l = blank_line s b in nil_from_length (line_symbols meant wide s) (omega arith))
      (or_cases (comment s) (all_blank s) e)
