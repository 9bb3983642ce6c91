-- Blocks of symbols: how many open and close, and a walk over a block in one step. Assumes nothing.
use Rattle.std.proofs.Common.{◌≡◌, ℕ, zero, suc, ◌+◌, ◌-◌, ◌<◌, ◌≤◌, List, [], ◌∷◌, ◌++◌, length, get_or, take, sym, refl, ap, ◌∙◌, subst, arith}
use Rattle.std.proofs.lemmas.List.{take_more}
use Rattle.symbols.specs.declared.role.Role.{Role}
use Rattle.symbols.specs.declared.role.Role.TheVariants.{Opening, Closing, Plain}
use Rattle.placings.specs.Pattern.{part, opens, closes, openings, closings}
use Rattle.scan.specs.Ends.{open_behind}
use Rattle.scan.proofs.Parts.{part_none, part_more}
use Rattle.scan.proofs.Walks.{Moves, Walk, walk_more}

pub opens_one : (r : Role) → opens r ≤ 1
opens_one Opening = omega arith
opens_one Closing = omega arith
opens_one Plain = omega arith

pub closes_one : (r : Role) → closes r ≤ 1
closes_one Opening = omega arith
closes_one Closing = omega arith
closes_one Plain = omega arith

module _ {A : Type 0} (role : A → Role) where
  openings_push : (xs : List A) (x : A) → openings role (xs ++ x ∷ []) ≡ openings role xs + opens (role x)
  openings_push [] x = omega arith
  openings_push (y ∷ xs) x = let ih = openings_push xs x in omega arith

  closings_push : (xs : List A) (x : A) → closings role (xs ++ x ∷ []) ≡ closings role xs + closes (role x)
  closings_push [] x = omega arith
  closings_push (y ∷ xs) x = let ih = closings_push xs x in omega arith

  pub openings_more : (xs : List A) (i : ℕ) (x : A) → i < length xs → x ≡ get_or xs i x → openings role (take (i + 1) xs) ≡ openings role (take i xs) + opens (role x)
  openings_more xs i x l is = ap (openings role) (take_more xs i x l) ∙ openings_push (take i xs) (get_or xs i x) ∙ ap (λ y. openings role (take i xs) + opens (role y)) (sym is)

  pub closings_more : (xs : List A) (i : ℕ) (x : A) → i < length xs → x ≡ get_or xs i x → closings role (take (i + 1) xs) ≡ closings role (take i xs) + closes (role x)
  closings_more xs i x l is = ap (closings role) (take_more xs i x l) ∙ closings_push (take i xs) (get_or xs i x) ∙ ap (λ y. closings role (take i xs) + closes (role y)) (sym is)

  pub openings_few : (xs : List A) → openings role xs ≤ length xs
  openings_few [] = omega arith
  openings_few (x ∷ xs) = let ih = openings_few xs in let one = opens_one (role x) in omega arith

  pub closings_few : (xs : List A) → closings role xs ≤ length xs
  closings_few [] = omega arith
  closings_few (x ∷ xs) = let ih = closings_few xs in let one = closes_one (role x) in omega arith

  -- a symbol that stands at a place
  some_at : (s : List A) (e : ℕ) → e < length s → (x : A) × (x ≡ get_or s e x)
  some_at [] e l = absurd (omega arith)
  some_at (y ∷ s) zero l = (y, refl)
  some_at (y ∷ s) (suc e) l = some_at s e (omega arith)

  -- over one symbol as many are open as the block's count says
  moves_to : (r : Role) (d : ℕ) → 0 < d → (o : ℕ) × Moves r d o × (d ≤ o + 1) × (o + closes r ≡ d + opens r)
  moves_to Opening d l = (d + 1, refl, omega arith, omega arith)
  moves_to Closing d l = (d - 1, (l, refl), omega arith, omega arith)
  moves_to Plain d l = (d, refl, omega arith, omega arith)

  -- where more are open than there are symbols in a part, the walk passes over it
  pub walk_far : (s : List A) (a e d j : ℕ) → j < d → e + j ≤ length s → Walk role s a e d → Walk role s a (e + j) (open_behind role (part s e (e + j)) d)
  walk_far s a e d zero l m w =
      let z : e + 0 ≡ e = omega arith in
      let y : d + 0 - 0 ≡ d = omega arith in
      rw (z, part_none s e, y) w
  walk_far s a e d (suc j) l m w =
      let x = some_at s e (omega arith) in
      let o = moves_to (role x.0) d (omega arith) in
      let near = o.2 in
      let sum = o.3 in
      let z : (e + 1) + j ≡ e + suc j = omega arith in
      let next = walk_far s a (e + 1) o.0 j (omega arith) (omega arith) (walk_more role s a e d o.0 x.0 (omega arith) x.1 o.1 w (omega arith)) in
      let p = part_more s e (e + suc j) x.0 (omega arith) (omega arith) x.1 in
      let q : open_behind role (part s (e + 1) (e + suc j)) o.0 ≡ open_behind role (x.0 ∷ part s (e + 1) (e + suc j)) d = omega arith in
      subst (Walk role s a (e + suc j)) (q ∙ ap (λ xs. open_behind role xs d) (sym p)) (subst (λ k. Walk role s a k (open_behind role (part s (e + 1) k) o.0)) z next)
