-- Where the part of an element can end: for each kind of element the test of an end, and the first end that passes. Assumes nothing.
use Rattle.std.specs.Prelude.{◌≡◌, ℕ, ◌+◌, ◌-◌, ◌<◌, ◌≤◌, Bool, true, false, not, ◌&&◌, ◌||◌, List, length, Some, None, Option, ◌==◌, nat_le}
use Rattle.symbols.specs.declared.role.Role.{Role}
use Rattle.placings.specs.Pattern.{part, openings, closings}
use Rattle.placings.specs.Enumeration.{same_parts, closes_from, balanced_test}
use Rattle.scan.specs.declared.element.Element.{Element}
use Rattle.scan.specs.declared.element.Element.TheVariants.{Compared, Fixed, Free}
use Rattle.scan.specs.declared.element.Variable.{Variable}
use Rattle.scan.specs.declared.element.Variable.TheVariants.{Arbitrary, Balanced}

-- the first number from c to n that passes a test, or that none does
abbrev pub Next : (ℕ → Bool) → ℕ → ℕ → Option ℕ → Type 0
Next test n c None = (k : ℕ) → c ≤ k → k ≤ n → test k ≡ false
Next test n c (Some e) = (c ≤ e) × (e ≤ n) × (test e ≡ true) × ((k : ℕ) → c ≤ k → k < e → test k ≡ false)

-- a part that begins at a and equals w can end at k
abbrev pub compared_end : {A : Type 0} → (A → A → Bool) → List A → List A → ℕ → ℕ → Bool
compared_end eq s w a k = nat_le a k && same_parts eq (part s a k) w

-- a part that begins at a and has a given length can end at k
abbrev pub fixed_end : {A : Type 0} → List A → ℕ → ℕ → ℕ → Bool
fixed_end s size a k = nat_le a k && length (part s a k) == size

-- any part that begins at a can end at k; as the last element's it ends where the subject does
abbrev pub arbitrary_end : {A : Type 0} → List A → Bool → ℕ → ℕ → Bool
arbitrary_end s last a k = nat_le a k && (not last || k == length s)

-- how many are open behind a part, where d were before it and more than it can close
abbrev pub open_behind : {A : Type 0} → (A → Role) → List A → ℕ → ℕ
open_behind role xs d = d + openings role xs - closings role xs

-- the part from a to k closes the one group that is open before it, and nothing else that is not open
abbrev pub group_end : {A : Type 0} → (A → Role) → List A → ℕ → ℕ → Bool
group_end role s a k = nat_le a k && closes_from role (part s a k) 1

-- a balanced part that begins at a can end at k
abbrev pub balanced_end : {A : Type 0} → (A → Role) → List A → ℕ → ℕ → Bool
balanced_end role s a k = nat_le a k && balanced_test role (part s a k)

-- the part of a variable that begins at a can end at k
abbrev pub variable_end : {A : Type 0} → (A → Role) → List A → Bool → Variable → ℕ → ℕ → Bool
variable_end role s last Arbitrary a k = arbitrary_end s last a k
variable_end role s last Balanced a k = balanced_end role s a k

-- the part of an element that begins at a can end at k, where w is what the element is compared with
abbrev pub element_end : {A : Type 0} → (A → A → Bool) → (A → Role) → List A → List A → Bool → Element → ℕ → ℕ → Bool
element_end eq role s w last (Compared source) a k = compared_end eq s w a k
element_end eq role s w last (Fixed size) a k = fixed_end s size a k
element_end eq role s w last (Free variable) a k = variable_end role s last variable a k

-- the first end of the part of an element that begins at a
abbrev pub FirstEnd : {A : Type 0} → (A → A → Bool) → (A → Role) → List A → List A → Bool → Element → ℕ → Option ℕ → Type 0
FirstEnd eq role s w last element a r = Next (element_end eq role s w last element a) (length s) 0 r

-- the next end of the part of an element, not the last one, behind an end e of it; whatever the element is compared with
abbrev pub NextEnd : {A : Type 0} → (A → A → Bool) → (A → Role) → List A → Element → ℕ → ℕ → Option ℕ → Type 0
NextEnd {A} eq role s element a e r = (w : List A) → element_end eq role s w false element a e ≡ true → Next (element_end eq role s w false element a) (length s) (e + 1) r
