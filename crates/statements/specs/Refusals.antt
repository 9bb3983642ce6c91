-- Why a statement is not carried out, by the numbers of the refusals. Assumes nothing.
use Rattle.std.specs.Prelude.{ℕ}
use Rattle.joins.specs.declared.refusal.JoinRefusal as join
use Rattle.patterns.specs.declared.gathered.PatternRefusal as pattern
use Rattle.scan.specs.declared.answer.ScanRefusal as scan
use Rattle.statements.specs.declared.refusal.StatementRefusal.{StatementRefusal}
use Rattle.statements.specs.declared.refusal.StatementRefusal.TheVariants.{ShortArea, NoName, Spent, TooLong, OutOfRange}

-- the numbers by which the outside knows the refusals
abbrev pub statement_number : StatementRefusal → ℕ
statement_number ShortArea = 23
statement_number NoName = 24
statement_number Spent = 25
statement_number TooLong = 26
statement_number OutOfRange = 27

-- a pattern's refusal as the statement's
abbrev pub unnamed : pattern.PatternRefusal → StatementRefusal
unnamed pattern.PatternRefusal.ShortArea = ShortArea
unnamed pattern.PatternRefusal.NoName = NoName

-- a right side's refusal as the statement's
abbrev pub unjoined : join.JoinRefusal → StatementRefusal
unjoined join.JoinRefusal.NoName = NoName
unjoined join.JoinRefusal.TooLong = TooLong

-- a scan's refusal as the statement's
abbrev pub unscanned : scan.ScanRefusal → StatementRefusal
unscanned scan.ScanRefusal.Spent = Spent
unscanned scan.ScanRefusal.OutOfRange = OutOfRange
