-- The scan as an enumeration: every place is tried, which lists all partial placings; the first placing among them, how many stand up to it, and what a scan answers. Assumes nothing.
use Rattle.std.specs.Prelude.{ℕ, zero, suc, Bool, true, false, cond, not, ◌&&◌, ◌||◌, List, [], ◌∷◌, length, Some, None, Option, ◌==◌, nat_le, nat_lt, slice_index, slice_index_or}
use Rattle.symbols.specs.declared.role.Role.{Role}
use Rattle.symbols.specs.declared.role.Role.TheVariants.{Opening, Closing, Plain}
use Rattle.placings.specs.declared.mode.Mode.{Mode}
use Rattle.placings.specs.declared.mode.Mode.TheVariants.{Unanchored, Anchored}
use Rattle.placings.specs.Pattern.{Element, constant, arbitrary, balanced, fixed, again, part}
use Rattle.placings.specs.Tree.{paths}

-- whether two parts are equal
abbrev pub same_parts : {A : Type 0} → (A → A → Bool) → List A → List A → Bool
same_parts eq [] [] = true
same_parts eq [] (y ∷ ys) = false
same_parts eq (x ∷ xs) [] = false
same_parts eq (x ∷ xs) (y ∷ ys) = eq x y && same_parts eq xs ys

-- whether one of d open ones can be closed, and the rest holds of those that stay open
abbrev pub close_one : ℕ → (ℕ → Bool) → Bool
close_one zero rest = false
close_one (suc d) rest = rest d

-- whether, where d are open, a symbol of a role can follow, and the rest holds of those that are open then
abbrev pub after : Role → ℕ → (ℕ → Bool) → Bool
after Opening d rest = rest (suc d)
after Closing d rest = close_one d rest
after Plain d rest = rest d

-- whether xs, where d are open before it, never closes one that is not open, and leaves none open
abbrev pub closes_from : {A : Type 0} → (A → Role) → List A → ℕ → Bool
closes_from role [] d = d == 0
closes_from role (x ∷ xs) d = after (role x) d (closes_from role xs)

-- whether a part is balanced
abbrev pub balanced_test : {A : Type 0} → (A → Role) → List A → Bool
balanced_test role xs = nat_lt 0 (length xs) && closes_from role xs 0

-- whether the part of element i, of m, that ends at e suits the element
abbrev pub suits_test : {A : Type 0} → (A → A → Bool) → (A → Role) → List A → ℕ → List ℕ → ℕ → ℕ → Element A → Bool
suits_test eq role s m places i e (constant w) = same_parts eq (part s (slice_index places i) e) w
suits_test eq role s m places i e arbitrary = not (suc i == m) || e == length s
suits_test eq role s m places i e balanced = balanced_test role (part s (slice_index places i) e)
suits_test eq role s m places i e (fixed k) = length (part s (slice_index places i) e) == k
suits_test eq role s m places i e (again j) = nat_lt j i && same_parts eq (part s (slice_index places i) e) (part s (slice_index places j) (slice_index places (suc j)))

-- whether a placing may start at e
abbrev pub starts_test : Mode → ℕ → Bool
starts_test Unanchored e = true
starts_test Anchored e = e == 0

-- whether the places so far may go on with e, where they are so many: the first is a start, each other the end of the next element
unfoldable pub may_at : {A : Type 0} → (A → A → Bool) → (A → Role) → Mode → List A → List (Element A) → List ℕ → ℕ → ℕ → Bool
may_at eq role mode s pattern places zero e = starts_test mode e
may_at eq role mode s pattern places (suc i) e = nat_le (slice_index places i) e && suits_test eq role s (length pattern) places i e (slice_index_or pattern i arbitrary)

-- whether the places so far may go on with e
abbrev pub may : {A : Type 0} → (A → A → Bool) → (A → Role) → Mode → List A → List (Element A) → List ℕ → ℕ → Bool
may eq role mode s pattern places e = may_at eq role mode s pattern places (length places) e

-- all partial placings, in scan order
abbrev pub partials : {A : Type 0} → (A → A → Bool) → (A → Role) → Mode → List A → List (Element A) → List (List ℕ)
partials eq role mode s pattern = paths (may eq role mode s pattern) (length s) (length pattern)

-- the first placing of m elements among partial placings, if there is one
unfoldable pub first : ℕ → List (List ℕ) → Option (List ℕ)
first m [] = None
first m (x ∷ xs) = cond (length x == suc m) (Some x) (first m xs)

-- the trials: how many stand up to and with the first placing of m elements, or all if there is none
unfoldable pub count : ℕ → List (List ℕ) → ℕ
count m [] = 0
count m (x ∷ xs) = cond (length x == suc m) 1 (suc (count m xs))

-- what a scan tells: the first placing and the trials, that there is none and the trials, or that the allowance is spent
pub data Told : Type 0 where
  success : List ℕ → ℕ → Told
  failure : ℕ → Told
  spent : Told

-- what is told of a verdict after t trials
abbrev pub tells : Option (List ℕ) → ℕ → Told
tells None t = failure t
tells (Some p) t = success p t

-- what a scan over the partial placings xs of m elements answers at an allowance of trials
abbrev pub answer : ℕ → ℕ → List (List ℕ) → Told
answer m allowance xs = cond (nat_le (count m xs) allowance) (tells (first m xs) (count m xs)) spent

-- the scan's verdict: the first placing, if there is one
abbrev pub verdict : {A : Type 0} → (A → A → Bool) → (A → Role) → Mode → List A → List (Element A) → Option (List ℕ)
verdict eq role mode s pattern = first (length pattern) (partials eq role mode s pattern)

-- how many partial placings the scan tries
abbrev pub tried : {A : Type 0} → (A → A → Bool) → (A → Role) → Mode → List A → List (Element A) → ℕ
tried eq role mode s pattern = count (length pattern) (partials eq role mode s pattern)

-- the scan's answer at an allowance of trials
abbrev pub scanned : {A : Type 0} → (A → A → Bool) → (A → Role) → Mode → List A → List (Element A) → ℕ → Told
scanned eq role mode s pattern allowance = answer (length pattern) allowance (partials eq role mode s pattern)
