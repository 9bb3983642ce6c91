-- A line has no more symbols than characters. Assumes nothing.
use Rattle.std.proofs.Common.{◌≡◌, ℕ, ◌+◌, ◌≤◌, Bool, true, false, cond, List, [], ◌∷◌, length, Some, None, Ok, Err, Option, Result, refl, arith}
use Rattle.std.specs.List.{flat_map}
use Rattle.std.proofs.lemmas.List.{length-append}
use Rattle.lines.specs.declared.reading.Reading.{Reading}
use Rattle.lines.specs.declared.role.Role.{Role}
use Rattle.lines.specs.declared.token.Token.{Token}
use Rattle.lines.specs.Marks.{mark_of}
use Rattle.lines.specs.Next.{beginning, next}
use Rattle.lines.specs.Roles.{same_role, role_of, roles_from, on_roles}
use Rattle.lines.specs.Tokens.{token, extend, runs, tokens_from, tokens}
use Rattle.symbols.specs.declared.fault.TextFault.{TextFault}
use Rattle.constants.specs.Constants.{token_symbols, line_symbols}
use Rattle.constants.proofs.Counts.{token_count}
use Rattle.sheets.specs.Items.{contents}
use Rattle.sheets.specs.Parts.{part_of}
use Rattle.sheets.specs.Tallies.{counts, is_literal, literal, symbols_added}
use Rattle.sheets.proofs.Literals.{counts_short}

-- the sizes of tokens, summed
unfoldable sizes : List Token → ℕ
sizes [] = 0
sizes (t ∷ ts) = t.size + sizes ts

sizes_extend : (k n : ℕ) (r : Role) (ts : List Token) → sizes (extend k r n ts) ≡ n + sizes ts
unfolding sizes
sizes_extend k n r [] = refl
sizes_extend k n r (t ∷ ts) = go (same_role r t.role)
  where
    go : (b : Bool) → sizes (cond b (token r k (n + t.size) ∷ ts) (token r k n ∷ t ∷ ts)) ≡ n + (t.size + sizes ts)
    go true = omega arith
    go false = refl

sizes_runs : (k : ℕ) (rs : List Role) → sizes (runs k rs) ≡ length rs
unfolding runs sizes
sizes_runs k [] = refl
sizes_runs k (r ∷ rs) = let e = sizes_extend k 1 r (runs (k + 1) rs) in let f = sizes_runs (k + 1) rs in omega (arith, e, f)

roles_short : (q : Reading) (s : List ℕ) → length (roles_from q s) ≤ length s
unfolding roles_from
roles_short q [] = omega arith
roles_short q (c ∷ s) = go (next q (mark_of c)) (λ r. roles_short r s)
  where
    go : (o : Option Reading) → ((r : Reading) → length (roles_from r s) ≤ length s) → length (on_roles o (λ r. role_of r ∷ roles_from r s)) ≤ length (c ∷ s)
    go None short = omega arith
    go (Some r) short = let h = short r in omega (arith, h)

module _ {X : Type 0} (meant : List ℕ → Option X) (wide : ℕ) (s : List ℕ) where
  few : (t : Token) (b : Bool) (r : Result ℕ TextFault) → r ≡ cond b (counts meant wide (part_of s (contents t))) (Ok 0) → symbols_added r ≤ t.size
  few t true (Ok n) e = let l = counts_short meant wide s (contents t) n e in omega (arith, l)
  few t false (Ok n) e = let z : n ≡ 0 = cc in omega (arith, z)
  few t b (Err f) e = omega arith

  tokens_few : (ts : List Token) → length (flat_map (token_symbols meant wide s) ts) ≤ sizes ts
  unfolding sizes
  tokens_few [] = omega arith
  tokens_few (t ∷ ts) =
      let a = length-append (token_symbols meant wide s t) (flat_map (token_symbols meant wide s) ts) in
      let c = token_count meant wide s t in
      let f = few t (is_literal s t) (literal (counts meant wide) s t) refl in
      let h = tokens_few ts in
      omega (arith, a, c, f, h)

  pub line_few : length (line_symbols meant wide s) ≤ length s
  unfolding tokens_from
  line_few =
      let a = tokens_few (tokens s) in
      let b = sizes_runs 0 (roles_from beginning s) in
      let c = roles_short beginning s in
      omega (arith, a, b, c)
