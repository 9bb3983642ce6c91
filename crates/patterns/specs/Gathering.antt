-- One element after the other, its constant behind those before it. Assumes nothing.
use Rattle.std.specs.Prelude.{◌≡◌, ℕ, ◌+◌, ◌≤◌, true, List, length, take, Some, None, Option}
use Rattle.std.specs.Option.{option_map}
use Rattle.placings.specs.Pattern as placings
use Rattle.scan.specs.declared.element.Element.{Element}
use Rattle.scan.specs.declared.element.Element.TheVariants.{Compared, Fixed, Free}
use Rattle.scan.specs.declared.element.Source.{Source}
use Rattle.scan.specs.declared.element.Source.TheVariants.{Constant, Back}
use Rattle.scan.specs.Elements.{stands, pattern, fits, all_fit}
use Rattle.patterns.specs.Fitted.{fit, fitted}
use Rattle.patterns.specs.declared.gathered.Gathered.{Gathered}
use Rattle.patterns.specs.Gathered.{elements_in}

-- where the constants end with a source, when they ended at `used` before it
abbrev pub source_end : ℕ → Source → ℕ
source_end used (Constant from to) = to
source_end used (Back j) = used

-- where they end with an element
abbrev pub end_with : ℕ → Element → ℕ
end_with used (Compared source) = source_end used source
end_with used (Fixed size) = used
end_with used (Free variable) = used

-- element i fits the constants that then are used, at most l more than before
pub record Adds (l used i : ℕ) (e : Element) : Type 0 where
  pub fitting : fits (end_with used e) i e ≡ true
  pub more : used ≤ end_with used e
  pub few : end_with used e ≤ used + l

-- the same of an element, if there is one
abbrev pub MayAdd : ℕ → ℕ → ℕ → Option Element → Type 0
MayAdd l used i None = Unit {0}
MayAdd l used i (Some e) = Adds l used i e

-- element i is gathered: it stands for what is wanted of it, and the constants before it are as they were
pub record Gathers {X : Type 0} (l used i : ℕ) (before after : List X) (wanted : Option (placings.Element X)) (r : Option Element) : Type 0 where
  pub value : option_map (stands after) r ≡ option_map (fit l) wanted
  pub kept : take used after ≡ take used before
  pub adds : MayAdd l used i r

-- the gathered elements, if there are any, may be scanned over c constants
abbrev pub MayScan : ℕ → Option Gathered → Type 0
MayScan c None = Unit {0}
MayScan c (Some g) = (length (elements_in g) ≤ 8) × (all_fit c 0 (elements_in g) ≡ true)

-- all elements are gathered: together they stand for what is wanted
pub record GathersAll {X : Type 0} (l : ℕ) (after : List X) (wanted : Option (List (placings.Element X))) (r : Option Gathered) : Type 0 where
  pub value : option_map (λ g. pattern after (elements_in g)) r ≡ option_map (fitted l) wanted
  pub fitting : MayScan (length after) r
