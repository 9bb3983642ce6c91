-- A count over a list, with one element more.
use Rattle.std.proofs.Common.{◌≡◌, ℕ, ◌+◌, ◌<◌, ◌≤◌, List, [], ◌∷◌, ◌++◌, length, get_or, take, sym, ap, ◌∙◌, arith}
use Rattle.std.proofs.lemmas.List.{take_more}
use Rattle.symbols.specs.declared.role.Role.{Role}
use Rattle.symbols.specs.declared.role.Role.TheVariants.{Opening, Closing, Plain}
use Rattle.placings.specs.Pattern.{opens, closes}

module _ {A : Type 0} (f : A → ℕ) (total : List A → ℕ) (none : total [] ≡ 0) (more : (x : A) (xs : List A) → total (x ∷ xs) ≡ f x + total xs) where
  total_push : (xs : List A) (x : A) → total (xs ++ x ∷ []) ≡ total xs + f x
  total_push [] x = omega (arith, more x [], none)
  total_push (y ∷ ys) x = omega (arith, more y (ys ++ x ∷ []), more y ys, total_push ys x)

  pub total_more : (xs : List A) (i : ℕ) (x : A) → i < length xs → x ≡ get_or xs i x → total (take (i + 1) xs) ≡ total (take i xs) + f x
  total_more xs i x l e = ap total (take_more xs i x l ∙ ap (λ y. take i xs ++ y ∷ []) (sym e)) ∙ total_push (take i xs) x

pub opens_few : (r : Role) → opens r ≤ 1
opens_few Opening = omega arith
opens_few Closing = omega arith
opens_few Plain = omega arith

pub closes_few : (r : Role) → closes r ≤ 1
closes_few Opening = omega arith
closes_few Closing = omega arith
closes_few Plain = omega arith
