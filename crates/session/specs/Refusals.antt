-- Why a call of a session is refused. Assumes nothing.
use Rattle.std.specs.Prelude.{ℕ, Some, None, Option}
use Rattle.stores.specs.declared.refusal.StoreRefusal.{StoreRefusal}
use Rattle.stores.specs.declared.refusal.StoreRefusal.TheVariants.{ShortArea as short-area, TooLong as too_long, OutOfRange as out_of_range}
use Rattle.statements.specs.declared.refusal.StatementRefusal as statement
use Rattle.session.specs.declared.refusal.Refusal.{Refusal}
use Rattle.session.specs.declared.refusal.Refusal.TheVariants.{AtEnd, RecordFull, ShortArea, NoName, Spent, TooLong, OutOfRange, NoWord, Unfit}

-- the numbers by which the outside knows the refusals
abbrev pub refusal_number : Refusal → ℕ
refusal_number AtEnd = 21
refusal_number RecordFull = 22
refusal_number ShortArea = 23
refusal_number NoName = 24
refusal_number Spent = 25
refusal_number TooLong = 26
refusal_number OutOfRange = 27
refusal_number NoWord = 28
refusal_number Unfit = 29

-- the refusal of a session whose store refuses
abbrev pub stored : StoreRefusal → Refusal
stored short-area = ShortArea
stored too_long = TooLong
stored out_of_range = OutOfRange

-- the refusal of a session whose statement is refused
abbrev pub stated : statement.StatementRefusal → Refusal
stated statement.StatementRefusal.ShortArea = ShortArea
stated statement.StatementRefusal.NoName = NoName
stated statement.StatementRefusal.Spent = Spent
stated statement.StatementRefusal.TooLong = TooLong
stated statement.StatementRefusal.OutOfRange = OutOfRange

-- the first of two refusals
abbrev pub first_of : Option Refusal → Option Refusal → Option Refusal
first_of (Some e) o = Some e
first_of None o = o
