-- What a kind's calls answer, in terms of what its symbols mean. Assumes nothing.
use Rattle.std.specs.Prelude.{ℕ, cond, List, length, Some, None, Option, Result, nat_lt}
use Rattle.std.specs.Option.{ok_or}
use Rattle.symbols.specs.Answers.{unless, over}
use Rattle.symbols.specs.declared.fault.SymbolFault.{SymbolFault}
use Rattle.symbols.specs.declared.fault.SymbolFault.TheVariants.{NotWhole, NoMeaning}
use Rattle.symbols.specs.declared.fault.AreaRefusal.{AreaRefusal}
use Rattle.symbols.specs.declared.fault.AreaRefusal.TheVariants.{ShortArea}

-- the numbers by which the outside knows the faults and the refusal
abbrev pub fault_number : SymbolFault → ℕ
fault_number NotWhole = 1
fault_number NoMeaning = 2

-- the number of a refused area
abbrev pub area_number : AreaRefusal → ℕ
area_number ShortArea = 23

-- reading: the symbol that the characters mean, or fault 2 if they mean none
abbrev pub read_as : {X : Type 0} → Option X → Result X SymbolFault
read_as o = ok_or o NoMeaning

-- an area of `room` places is refused where more are wanted
abbrev pub short_of : ℕ → ℕ → Option AreaRefusal
short_of room wanted = cond (nat_lt room wanted) (Some ShortArea) None

-- an area is refused where it is too short for xs
abbrev pub short_for : {X : Type 0} → List X → List X → Option AreaRefusal
short_for xs area = short_of (length area) (length xs)

-- an area once xs is written to its front, or as it was where it is too short
abbrev pub fronted : {X : Type 0} → List X → List X → List X
fronted xs area = unless (short_for xs area) area (over xs area)
