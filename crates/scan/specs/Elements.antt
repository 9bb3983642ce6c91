-- What the elements of a scan stand for, and which of them fit. Assumes nothing.
use Rattle.std.specs.Prelude.{ℕ, suc, Bool, true, ◌&&◌, List, [], ◌∷◌, map, nat_le, nat_lt}
use Rattle.placings.specs.Pattern.{constant, arbitrary, balanced, fixed, again, part}
use Rattle.placings.specs.Pattern as placings
use Rattle.scan.specs.declared.element.Element.{Element}
use Rattle.scan.specs.declared.element.Element.TheVariants.{Compared, Fixed, Free}
use Rattle.scan.specs.declared.element.Source.{Source}
use Rattle.scan.specs.declared.element.Source.TheVariants.{Constant, Back}
use Rattle.scan.specs.declared.element.Variable.{Variable}
use Rattle.scan.specs.declared.element.Variable.TheVariants.{Arbitrary, Balanced}

-- what is compared with a source is a constant or a back reference
abbrev pub source_stands : {A : Type 0} → List A → Source → placings.Element A
source_stands constants (Constant from to) = constant (part constants from to)
source_stands constants (Back j) = again j

-- what a variable with more than one end is
abbrev pub variable_stands : {A : Type 0} → Variable → placings.Element A
variable_stands Arbitrary = arbitrary
variable_stands Balanced = balanced

-- the element of a pattern that an element of a scan stands for
abbrev pub stands : {A : Type 0} → List A → Element → placings.Element A
stands constants (Compared source) = source_stands constants source
stands constants (Fixed size) = fixed size
stands constants (Free variable) = variable_stands variable

-- the pattern that elements stand for
abbrev pub pattern : {A : Type 0} → List A → List Element → List (placings.Element A)
pattern constants elements = map (stands constants) elements

-- whether a source of element i lies within c constants, or further left
abbrev pub source_fits : ℕ → ℕ → Source → Bool
source_fits c i (Constant from to) = nat_le from to && nat_le to c
source_fits c i (Back j) = nat_lt j i

-- whether element i fits c constants: any fixed length and any variable does
abbrev pub fits : ℕ → ℕ → Element → Bool
fits c i (Compared source) = source_fits c i source
fits c i (Fixed size) = true
fits c i (Free variable) = true

-- whether all elements fit, the first of them being element i
unfoldable pub all_fit : ℕ → ℕ → List Element → Bool
all_fit c i [] = true
all_fit c i (x ∷ xs) = fits c i x && all_fit c (suc i) xs
