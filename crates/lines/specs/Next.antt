-- How far a line is read after one more character.
use Rattle.std.specs.Prelude.{Bool, true, false, cond, Some, None, Option}
use Rattle.lines.specs.declared.mark.Mark.{Mark}
use Rattle.lines.specs.declared.mark.Mark.TheVariants.{Blank, LetterE, LetterN, LetterD, LetterS, LetterF, Zero, OneToThree, Four, SevenEight, Nine, Period, Quote, Dollar, Star, Slash, Open, Close, Equal}
use Rattle.lines.specs.declared.reading.Way.{Way}
use Rattle.lines.specs.declared.reading.Place.{Place}
use Rattle.lines.specs.declared.reading.Section.{Section}
use Rattle.lines.specs.declared.reading.Side.{Side}
use Rattle.lines.specs.declared.reading.Room.{Room}
use Rattle.lines.specs.declared.reading.LabelReading.{LabelReading}
use Rattle.lines.specs.declared.reading.VariableReading.{VariableReading}
use Rattle.lines.specs.declared.reading.GoReading.{GoReading}
use Rattle.lines.specs.declared.reading.Reading.{Reading}
use Rattle.lines.specs.Marks.{same, solid, digit}

-- a character leads on where the test holds
abbrev when : Bool → Reading → Option Reading
when b r = cond b (Some r) None

abbrev pub on_blank : Mark → Reading → Option Reading
on_blank m r = when (same m Blank) r

-- more of a name, or else what follows it
abbrev pub in_name : Reading → Reading → Option Reading → Mark → Option Reading
in_name solidly dotted rest m = cond (solid m) (Some solidly) (cond (same m Period) (Some dotted) rest)

-- more of a label, or the blank after it
abbrev pub in_label : Mark → Option Reading
in_label m = in_name (Reading.Label LabelReading.Name) (Reading.Label LabelReading.Dot) (on_blank m (Reading.Gap Section.Reference)) m

abbrev pub label_next : LabelReading → Mark → Option Reading
label_next LabelReading.Begin m =
    cond (same m Blank) (Some (Reading.Gap Section.Reference))
    (cond (same m LetterE) (Some (Reading.Label LabelReading.E)) (when (solid m) (Reading.Label LabelReading.Name)))
label_next LabelReading.E m = cond (same m LetterN) (Some (Reading.Label LabelReading.En)) (in_label m)
label_next LabelReading.En m = cond (same m LetterD) (Some (Reading.Label LabelReading.End)) (in_label m)
label_next LabelReading.End m =
    in_name (Reading.Label LabelReading.Name) (Reading.Label LabelReading.Dot) (on_blank m (Reading.Gap Section.Start)) m
label_next LabelReading.Name m = in_label m
label_next LabelReading.Dot m = in_name (Reading.Label LabelReading.Name) (Reading.Label LabelReading.Dot) None m

-- after the `)` of a go-to's label
abbrev pub closed : Way → Reading
closed Way.Both = Reading.Go GoReading.Done
closed Way.FirstS = Reading.Go GoReading.AfterS
closed Way.FirstF = Reading.Go GoReading.AfterF
closed Way.SecondS = Reading.Go GoReading.Done
closed Way.SecondF = Reading.Go GoReading.Done

-- after a name, other than more of the name
abbrev pub named : Place → Mark → Option Reading
named Place.Reference m = on_blank m (Reading.Gap Section.Pattern)
named Place.Element m = on_blank m (Reading.Gap Section.Pattern)
named Place.Operand m = on_blank m (Reading.Gap Section.Right)
named (Place.Target way) m = when (same m Close) (closed way)

-- the item that a character begins after blanks
abbrev pub begun : Section → Mark → Option Reading
begun Section.Reference m =
    cond (same m Dollar) (Some (Reading.Dollar Place.Reference)) (when (solid m) (Reading.Named Place.Reference))
begun Section.Start m = when (solid m) Reading.Start
begun Section.Pattern m =
    cond (same m Dollar) (Some (Reading.Dollar Place.Element))
    (cond (same m Quote) (Some (Reading.Literal Side.Pattern))
    (cond (same m Star) (Some (Reading.Variable VariableReading.Star))
    (cond (same m Equal) (Some Reading.Equal)
    (cond (same m Slash) (Some (Reading.Go GoReading.Slash))
    (when (solid m) (Reading.Named Place.Element))))))
begun Section.Right m =
    cond (same m Dollar) (Some (Reading.Dollar Place.Operand))
    (cond (same m Quote) (Some (Reading.Literal Side.Right))
    (cond (same m Slash) (Some (Reading.Go GoReading.Slash))
    (when (solid m) (Reading.Named Place.Operand))))
begun Section.Tail m = None

-- after one more digit of a length
abbrev more : Room → Mark → Option Room
more Room.Three m = cond (digit m) (Some Room.Two) None
more Room.Four m = cond (same m Zero) (Some Room.FourZero) (cond (digit m) (Some Room.One) None)
more Room.FourZero m = cond (same m Nine) (Some Room.FourZeroNine) (cond (digit m) (Some Room.One) None)
more Room.FourZeroNine m = cond (same m SevenEight) None (cond (same m Nine) None (cond (digit m) (Some Room.Full) None))
more Room.Two m = cond (digit m) (Some Room.One) None
more Room.One m = cond (digit m) (Some Room.Full) None
more Room.Full m = None

abbrev in_length : Option Room → Option Reading
in_length None = None
in_length (Some left) = Some (Reading.Variable (VariableReading.Length left))

abbrev pub digits : Room → Mark → Option Reading
digits left m = cond (same m Quote) (Some (Reading.Variable VariableReading.Closing)) (in_length (more left m))

abbrev pub in_variable : Bool → VariableReading → Option Reading
in_variable b r = when b (Reading.Variable r)

abbrev pub variable_next : VariableReading → Mark → Option Reading
variable_next VariableReading.Star m =
    cond (same m Open) (Some (Reading.Variable VariableReading.Open)) (in_variable (solid m) VariableReading.Name)
variable_next VariableReading.Name m =
    cond (same m Star) (Some (Reading.Variable VariableReading.Done))
    (cond (same m Slash) (Some (Reading.Variable VariableReading.Slash))
    (in_name (Reading.Variable VariableReading.Name) (Reading.Variable VariableReading.Dot) None m))
variable_next VariableReading.Dot m = in_name (Reading.Variable VariableReading.Name) (Reading.Variable VariableReading.Dot) None m
variable_next VariableReading.Open m = in_variable (solid m) VariableReading.Group
variable_next VariableReading.Group m =
    cond (same m Close) (Some (Reading.Variable VariableReading.Closing))
    (in_name (Reading.Variable VariableReading.Group) (Reading.Variable VariableReading.GroupDot) None m)
variable_next VariableReading.GroupDot m =
    in_name (Reading.Variable VariableReading.Group) (Reading.Variable VariableReading.GroupDot) None m
variable_next VariableReading.Slash m = in_variable (same m Quote) VariableReading.Quote
variable_next VariableReading.Quote m =
    cond (same m Zero) (Some (Reading.Variable (VariableReading.Length Room.Three)))
    (cond (same m OneToThree) (Some (Reading.Variable (VariableReading.Length Room.Three)))
    (cond (same m Four) (Some (Reading.Variable (VariableReading.Length Room.Four)))
    (in_variable (digit m) (VariableReading.Length Room.Two))))
variable_next (VariableReading.Length left) m = digits left m
variable_next VariableReading.Closing m = in_variable (same m Star) VariableReading.Done
variable_next VariableReading.Done m = on_blank m (Reading.Gap Section.Pattern)

-- the `(` before a go-to's label
abbrev pub into : Way → Mark → Option Reading
into way m = when (same m Open) (Reading.Go (GoReading.Into way))

abbrev pub go_next : GoReading → Mark → Option Reading
go_next GoReading.Slash m =
    cond (same m LetterS) (Some (Reading.Go GoReading.S)) (cond (same m LetterF) (Some (Reading.Go GoReading.F)) (into Way.Both m))
go_next GoReading.S m = into Way.FirstS m
go_next GoReading.F m = into Way.FirstF m
go_next GoReading.AlsoS m = into Way.SecondS m
go_next GoReading.AlsoF m = into Way.SecondF m
go_next (GoReading.Into way) m =
    cond (same m Dollar) (Some (Reading.Dollar (Place.Target way))) (when (solid m) (Reading.Named (Place.Target way)))
go_next GoReading.AfterS m = cond (same m LetterF) (Some (Reading.Go GoReading.AlsoF)) (on_blank m (Reading.Gap Section.Tail))
go_next GoReading.AfterF m = cond (same m LetterS) (Some (Reading.Go GoReading.AlsoS)) (on_blank m (Reading.Gap Section.Tail))
go_next GoReading.Done m = on_blank m (Reading.Gap Section.Tail)

-- after a literal, or the equal sign
abbrev pub beyond : Side → Mark → Option Reading
beyond Side.Pattern m = on_blank m (Reading.Gap Section.Pattern)
beyond Side.Right m = on_blank m (Reading.Gap Section.Right)

abbrev pub next : Reading → Mark → Option Reading
next (Reading.Label reading) m = label_next reading m
next (Reading.Gap section) m = cond (same m Blank) (Some (Reading.Gap section)) (begun section m)
next Reading.Start m = in_name Reading.Start Reading.StartDot (on_blank m (Reading.Gap Section.Tail)) m
next Reading.StartDot m = in_name Reading.Start Reading.StartDot None m
next (Reading.Dollar place) m = when (solid m) (Reading.Named place)
next (Reading.Named place) m = in_name (Reading.Named place) (Reading.Dotted place) (named place m) m
next (Reading.Dotted place) m = in_name (Reading.Named place) (Reading.Dotted place) None m
next (Reading.Literal side) m = cond (same m Quote) (Some (Reading.Closed side)) (Some (Reading.Literal side))
next (Reading.Closed side) m = beyond side m
next Reading.Equal m = beyond Side.Right m
next (Reading.Variable reading) m = variable_next reading m
next (Reading.Go reading) m = go_next reading m

-- nothing is read yet
abbrev pub beginning : Reading
beginning = Reading.Label LabelReading.Begin

-- the readings at which a statement line may end
abbrev gap_stands : Section → Bool
gap_stands Section.Reference = false
gap_stands Section.Start = false
gap_stands Section.Pattern = true
gap_stands Section.Right = true
gap_stands Section.Tail = true

abbrev name_stands : Place → Bool
name_stands Place.Reference = true
name_stands Place.Element = true
name_stands Place.Operand = true
name_stands (Place.Target way) = false

abbrev variable_stands : VariableReading → Bool
variable_stands VariableReading.Star = false
variable_stands VariableReading.Name = false
variable_stands VariableReading.Dot = false
variable_stands VariableReading.Open = false
variable_stands VariableReading.Group = false
variable_stands VariableReading.GroupDot = false
variable_stands VariableReading.Slash = false
variable_stands VariableReading.Quote = false
variable_stands (VariableReading.Length left) = false
variable_stands VariableReading.Closing = false
variable_stands VariableReading.Done = true

abbrev go_stands : GoReading → Bool
go_stands GoReading.Slash = false
go_stands GoReading.S = false
go_stands GoReading.F = false
go_stands GoReading.AlsoS = false
go_stands GoReading.AlsoF = false
go_stands (GoReading.Into way) = false
go_stands GoReading.AfterS = true
go_stands GoReading.AfterF = true
go_stands GoReading.Done = true

abbrev pub stands : Reading → Bool
stands (Reading.Label reading) = false
stands (Reading.Gap section) = gap_stands section
stands Reading.Start = true
stands Reading.StartDot = false
stands (Reading.Dollar place) = false
stands (Reading.Named place) = name_stands place
stands (Reading.Dotted place) = false
stands (Reading.Literal side) = false
stands (Reading.Closed side) = true
stands Reading.Equal = true
stands (Reading.Variable reading) = variable_stands reading
stands (Reading.Go reading) = go_stands reading
