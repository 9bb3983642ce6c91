-- The numbers by which the outside knows the refusals of a load, and their layers. Assumes nothing.
use Rattle.std.specs.Prelude.{ℕ}
use Rattle.sheets.specs.declared.fault.Cause.{Cause}

-- the numbers by which the outside knows the causes
abbrev pub number : Cause → ℕ
number Cause.TextLong = 1
number Cause.LineLong = 2
number Cause.BadCode = 3
number Cause.NoStatement = 4
number Cause.LongName = 5
number (Cause.Symbol f) = 6
number Cause.TooMany = 7
number Cause.SecondLabel = 8
number Cause.UnknownLabel = 9
number Cause.End = 10
number Cause.ShortArea = 11

-- 1 for symbols, 2 for the form of a line, 3 for the sheet as a whole
abbrev pub layer : Cause → ℕ
layer Cause.TextLong = 3
layer Cause.LineLong = 2
layer Cause.BadCode = 2
layer Cause.NoStatement = 2
layer Cause.LongName = 2
layer (Cause.Symbol f) = 1
layer Cause.TooMany = 2
layer Cause.SecondLabel = 3
layer Cause.UnknownLabel = 3
layer Cause.End = 3
layer Cause.ShortArea = 3
