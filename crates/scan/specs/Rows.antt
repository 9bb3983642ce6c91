-- The rows of a scan, one for each element: where its part begins and ends. Assumes nothing.
use Rattle.std.specs.Prelude.{ℕ, ◌<◌, ◌≤◌, List, [], get_or, Some, None, Option, slice_index_or}
use Rattle.placings.specs.Pattern.{part}
use Rattle.scan.specs.declared.element.Element.{Element}
use Rattle.scan.specs.declared.element.Element.TheVariants.{Compared, Fixed, Free}
use Rattle.scan.specs.declared.element.Source.{Source}
use Rattle.scan.specs.declared.element.Source.TheVariants.{Constant, Back}
use Rattle.scan.specs.declared.row.Row.{Row}

-- the row of no part
abbrev pub unused : Row
unused = record { begin = 0; end = 0 }

-- a row once another end was looked for: at the new end, or as it was where there is none
abbrev pub advanced : Row → Option ℕ → Row
advanced row None = row
advanced row (Some e) = record { begin = row.begin; end = e }

-- a row once its element's part was begun anew
abbrev pub entered : Row → ℕ → Option ℕ → Row
entered row begin end = advanced (record { begin = begin; end = row.end }) end

-- the part of the subject that a row holds
abbrev pub held : {A : Type 0} → List A → Row → List A
held s row = part s row.begin row.end

-- what a source gives
abbrev pub given : {A : Type 0} → List A → List A → List Row → Source → List A
given s constants rows (Constant from to) = part constants from to
given s constants rows (Back j) = held s (slice_index_or rows j unused)

-- what an element is compared with: nothing, if its part is not compared
abbrev pub compared_with : {A : Type 0} → List A → List A → List Row → Element → List A
compared_with s constants rows (Compared source) = given s constants rows source
compared_with s constants rows (Fixed size) = []
compared_with s constants rows (Free variable) = []

-- a source lies within n symbols of the subject and c constants
abbrev pub Within : ℕ → ℕ → List Row → Source → Type 0
Within n c rows (Constant from to) = (from ≤ to) × (to ≤ c)
Within n c rows (Back j) = (j < 8) × ((get_or rows j unused).begin ≤ (get_or rows j unused).end) × ((get_or rows j unused).end ≤ n)

-- what an element is compared with can be read
abbrev pub Readable : ℕ → ℕ → List Row → Element → Type 0
Readable n c rows (Compared source) = Within n c rows source
Readable n c rows (Fixed size) = Unit {0}
Readable n c rows (Free variable) = Unit {0}

-- each of the first i rows holds a part within n symbols
abbrev pub Parted : ℕ → List Row → ℕ → Type 0
Parted n rows i = (k : ℕ) → k < i → ((get_or rows k unused).begin ≤ (get_or rows k unused).end) × ((get_or rows k unused).end ≤ n)
