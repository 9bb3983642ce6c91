-- The starts that a scan tries. Assumes nothing.
use Rattle.std.specs.Prelude.{◌≡◌, ℕ, Bool, true, false, List, [], ◌∷◌, drop, Some, None, Option}
use Rattle.placings.specs.Pattern.{part}
use Rattle.placings.specs.declared.mode.Mode.{Mode}
use Rattle.placings.specs.declared.mode.Mode.TheVariants.{Unanchored, Anchored}
use Rattle.scan.specs.declared.element.Element.{Element}
use Rattle.scan.specs.declared.element.Element.TheVariants.{Compared, Fixed, Free}
use Rattle.scan.specs.declared.element.Source.{Source}
use Rattle.scan.specs.declared.element.Source.TheVariants.{Constant, Back}

-- the last start in a subject of n symbols
abbrev pub last_start : Mode → ℕ → ℕ
last_start Unanchored n = n
last_start Anchored n = 0

-- the first symbol of a string, if it is not null
abbrev pub front : {A : Type 0} → List A → Option A
front [] = None
front (x ∷ xs) = Some x

-- the first symbol of a constant
abbrev pub source_front : {A : Type 0} → List A → Source → Option A
source_front constants (Constant from to) = front (part constants from to)
source_front constants (Back j) = None

abbrev pub element_front : {A : Type 0} → List A → Element → Option A
element_front constants (Compared source) = source_front constants source
element_front constants (Fixed size) = None
element_front constants (Free variable) = None

-- the symbol that every placing must start at, where the first element is a constant
abbrev pub pattern_front : {A : Type 0} → List A → List Element → Option A
pattern_front constants [] = None
pattern_front constants (x ∷ xs) = element_front constants x

-- the symbol by which starts are looked for: none where there is only one start
abbrev pub head_of : {A : Type 0} → Mode → List A → List Element → Option A
head_of Unanchored constants elements = pattern_front constants elements
head_of Anchored constants elements = None

-- whether a string begins with a symbol
abbrev pub begins_with : {A : Type 0} → (A → A → Bool) → A → List A → Bool
begins_with eq x [] = false
begins_with eq x (y ∷ ys) = eq y x

-- whether a scan that looks for a symbol stops at the start k
abbrev pub stops_at : {A : Type 0} → (A → A → Bool) → List A → Option A → ℕ → Bool
stops_at eq s None k = true
stops_at eq s (Some x) k = begins_with eq x (drop k s)

-- a symbol is looked for only where every place is a start
abbrev pub Everywhere : {A : Type 0} → Option A → ℕ → ℕ → Type 0
Everywhere None last n = Unit {0}
Everywhere (Some x) last n = last ≡ n
