-- How many symbols tokens bring. Assumes nothing.
use Rattle.std.proofs.Common.{◌≡◌, ℕ, ◌+◌, Bool, true, false, cond, List, [], ◌∷◌, ◌++◌, length, Ok, Err, Option, Result, sym, refl, ◌∙◌, arith}
use Rattle.std.specs.List.{flat_map as joined}
use Rattle.std.proofs.lemmas.List.{length-append}
use Rattle.lines.specs.declared.token.Token.{Token}
use Rattle.symbols.specs.declared.fault.TextFault.{TextFault}
use Rattle.symbols.specs.Texts.{text_read, symbols_in, counted}
use Rattle.sheets.specs.Items.{contents}
use Rattle.sheets.specs.Parts.{part_of}
use Rattle.sheets.specs.Tallies.{Count, counts, is_literal, literal, symbols_added, with_token, count_from}
use Rattle.constants.specs.Constants.{token_symbols}

module _ {X : Type 0} (meant : List ℕ → Option X) (wide : ℕ) where
  -- a token brings as many symbols as it is said to add
  pub token_count : (s : List ℕ) (t : Token) → length (token_symbols meant wide s t) ≡ symbols_added (literal (counts meant wide) s t)
  token_count s t = go (is_literal s t) (text_read meant wide (part_of s (contents t)))
    where
      go : (b : Bool) (r : Result (List X) TextFault) → length (cond b (symbols_in r) []) ≡ symbols_added (cond b (counted r) (Ok 0))
      go true (Ok xs) = refl
      go true (Err f) = refl
      go false r = refl

  -- a running count that adds what each token adds counts the symbols of the tokens
  pub running_count : (s : List ℕ) (count : ℕ → List Token → ℕ) → ((n : ℕ) → count n [] ≡ n)
      → ((n : ℕ) (t : Token) (ts : List Token) → count n (t ∷ ts) ≡ count (n + symbols_added (literal (counts meant wide) s t)) ts)
      → (at : ℕ) (ts : List Token) → at + length (joined (token_symbols meant wide s) ts) ≡ count at ts
  running_count s count none more at [] = let z : at + 0 ≡ at = omega arith in z ∙ sym (none at)
  running_count s count none more at (t ∷ ts) =
      let ih = running_count s count none more (at + symbols_added (literal (counts meant wide) s t)) ts in
      let l = length-append (token_symbols meant wide s t) (joined (token_symbols meant wide s) ts) in
      let c = token_count s t in
      let e : at + length (token_symbols meant wide s t ++ joined (token_symbols meant wide s) ts)
      ≡ (at + symbols_added (literal (counts meant wide) s t)) + length (joined (token_symbols meant wide s) ts) = omega (arith, l, c) in
      e ∙ ih ∙ sym (more at t ts)

  -- what is counted with tokens has their symbols
  pub tokens_count : (s : List ℕ) (n : Count) (ts : List Token)
      → n.symbols + length (joined (token_symbols meant wide s) ts) ≡ (count_from (counts meant wide) s n ts).symbols
  unfolding count_from with_token
  tokens_count s n [] = omega arith
  tokens_count s n (t ∷ ts) =
      let ih = tokens_count s (with_token (counts meant wide) s n t) ts in
      let l = length-append (token_symbols meant wide s t) (joined (token_symbols meant wide s) ts) in
      let c = token_count s t in
      let e : n.symbols + length (token_symbols meant wide s t ++ joined (token_symbols meant wide s) ts)
      ≡ (n.symbols + symbols_added (literal (counts meant wide) s t)) + length (joined (token_symbols meant wide s) ts) = omega (arith, l, c) in
      e ∙ ih
