-- Each reading, at each mark, goes on as the grammar does: by computing both. Assumes nothing.
use Rattle.std.proofs.Common.{◌≡◌, true, false, map, refl}
use Rattle.lines.specs.declared.mark.Mark.{Mark}
use Rattle.lines.specs.declared.mark.Mark.TheVariants.{Blank, LetterE, LetterN, LetterD, LetterS, LetterF, Letter, Zero, OneToThree, Four, FiveSix, SevenEight, Nine, Period, Quote, Dollar, Star, Slash, Open, Close, Equal, Other}
use Rattle.lines.specs.declared.reading.Way.{Way}
use Rattle.lines.specs.declared.reading.Place.{Place}
use Rattle.lines.specs.declared.reading.Section.{Section}
use Rattle.lines.specs.declared.reading.Side.{Side}
use Rattle.lines.specs.declared.reading.Room.{Room}
use Rattle.lines.specs.declared.reading.LabelReading.{LabelReading}
use Rattle.lines.specs.declared.reading.VariableReading.{VariableReading}
use Rattle.lines.specs.declared.reading.GoReading.{GoReading}
use Rattle.lines.specs.declared.reading.Reading.{Reading}
use Rattle.lines.specs.Marks.{mark_of}
use Rattle.lines.specs.Next.{next, stands}
use Rattle.lines.specs.After.{holds_null, is_none, seq, alt, less, after, after_all}
use Rattle.lines.proofs.Samples.{follow, follows, finish}

abbrev pub AllMarks : (Mark → Type 0) → Type 0
AllMarks P = P Blank × P LetterE × P LetterN × P LetterD × P LetterS × P LetterF × P Letter × P Zero × P OneToThree × P Four × P FiveSix × P SevenEight × P Nine × P Period × P Quote × P Dollar × P Star × P Slash × P Open × P Close × P Equal × P Other

pub at : (P : Mark → Type 0) → AllMarks P → (m : Mark) → P m
at P h Blank = h.0
at P h LetterE = h.1
at P h LetterN = h.2
at P h LetterD = h.3
at P h LetterS = h.4
at P h LetterF = h.5
at P h Letter = h.6
at P h Zero = h.7
at P h OneToThree = h.8
at P h Four = h.9
at P h FiveSix = h.10
at P h SevenEight = h.11
at P h Nine = h.12
at P h Period = h.13
at P h Quote = h.14
at P h Dollar = h.15
at P h Star = h.16
at P h Slash = h.17
at P h Open = h.18
at P h Close = h.19
at P h Equal = h.20
at P h Other = h.21

-- what may follow q and then each mark
abbrev Step : Reading → Type 0
Step q = AllMarks (λ m. after m (follow q) ≡ follows (next q m))

step_label : (x : LabelReading) → Step (Reading.Label x)
unfolding follow follows after_all after alt seq less holds_null is_none
step_label LabelReading.Begin = (refl, refl, refl, refl, refl, refl, refl, refl, refl, refl, refl, refl, refl, refl, refl, refl, refl, refl, refl, refl, refl, refl)
step_label LabelReading.E = (refl, refl, refl, refl, refl, refl, refl, refl, refl, refl, refl, refl, refl, refl, refl, refl, refl, refl, refl, refl, refl, refl)
step_label LabelReading.En = (refl, refl, refl, refl, refl, refl, refl, refl, refl, refl, refl, refl, refl, refl, refl, refl, refl, refl, refl, refl, refl, refl)
step_label LabelReading.End = (refl, refl, refl, refl, refl, refl, refl, refl, refl, refl, refl, refl, refl, refl, refl, refl, refl, refl, refl, refl, refl, refl)
step_label LabelReading.Name = (refl, refl, refl, refl, refl, refl, refl, refl, refl, refl, refl, refl, refl, refl, refl, refl, refl, refl, refl, refl, refl, refl)
step_label LabelReading.Dot = (refl, refl, refl, refl, refl, refl, refl, refl, refl, refl, refl, refl, refl, refl, refl, refl, refl, refl, refl, refl, refl, refl)

step_gap : (x : Section) → Step (Reading.Gap x)
unfolding follow follows after_all after alt seq less holds_null is_none
step_gap Section.Reference = (refl, refl, refl, refl, refl, refl, refl, refl, refl, refl, refl, refl, refl, refl, refl, refl, refl, refl, refl, refl, refl, refl)
step_gap Section.Start = (refl, refl, refl, refl, refl, refl, refl, refl, refl, refl, refl, refl, refl, refl, refl, refl, refl, refl, refl, refl, refl, refl)
step_gap Section.Pattern = (refl, refl, refl, refl, refl, refl, refl, refl, refl, refl, refl, refl, refl, refl, refl, refl, refl, refl, refl, refl, refl, refl)
step_gap Section.Right = (refl, refl, refl, refl, refl, refl, refl, refl, refl, refl, refl, refl, refl, refl, refl, refl, refl, refl, refl, refl, refl, refl)
step_gap Section.Tail = (refl, refl, refl, refl, refl, refl, refl, refl, refl, refl, refl, refl, refl, refl, refl, refl, refl, refl, refl, refl, refl, refl)

step_dollar : (x : Place) → Step (Reading.Dollar x)
unfolding follow follows after_all after alt seq less holds_null is_none
step_dollar Place.Reference = (refl, refl, refl, refl, refl, refl, refl, refl, refl, refl, refl, refl, refl, refl, refl, refl, refl, refl, refl, refl, refl, refl)
step_dollar Place.Element = (refl, refl, refl, refl, refl, refl, refl, refl, refl, refl, refl, refl, refl, refl, refl, refl, refl, refl, refl, refl, refl, refl)
step_dollar Place.Operand = (refl, refl, refl, refl, refl, refl, refl, refl, refl, refl, refl, refl, refl, refl, refl, refl, refl, refl, refl, refl, refl, refl)
step_dollar (Place.Target Way.Both) = (refl, refl, refl, refl, refl, refl, refl, refl, refl, refl, refl, refl, refl, refl, refl, refl, refl, refl, refl, refl, refl, refl)
step_dollar (Place.Target Way.FirstS) = (refl, refl, refl, refl, refl, refl, refl, refl, refl, refl, refl, refl, refl, refl, refl, refl, refl, refl, refl, refl, refl, refl)
step_dollar (Place.Target Way.FirstF) = (refl, refl, refl, refl, refl, refl, refl, refl, refl, refl, refl, refl, refl, refl, refl, refl, refl, refl, refl, refl, refl, refl)
step_dollar (Place.Target Way.SecondS) = (refl, refl, refl, refl, refl, refl, refl, refl, refl, refl, refl, refl, refl, refl, refl, refl, refl, refl, refl, refl, refl, refl)
step_dollar (Place.Target Way.SecondF) = (refl, refl, refl, refl, refl, refl, refl, refl, refl, refl, refl, refl, refl, refl, refl, refl, refl, refl, refl, refl, refl, refl)

step_named : (x : Place) → Step (Reading.Named x)
unfolding follow follows after_all after alt seq less holds_null is_none
step_named Place.Reference = (refl, refl, refl, refl, refl, refl, refl, refl, refl, refl, refl, refl, refl, refl, refl, refl, refl, refl, refl, refl, refl, refl)
step_named Place.Element = (refl, refl, refl, refl, refl, refl, refl, refl, refl, refl, refl, refl, refl, refl, refl, refl, refl, refl, refl, refl, refl, refl)
step_named Place.Operand = (refl, refl, refl, refl, refl, refl, refl, refl, refl, refl, refl, refl, refl, refl, refl, refl, refl, refl, refl, refl, refl, refl)
step_named (Place.Target Way.Both) = (refl, refl, refl, refl, refl, refl, refl, refl, refl, refl, refl, refl, refl, refl, refl, refl, refl, refl, refl, refl, refl, refl)
step_named (Place.Target Way.FirstS) = (refl, refl, refl, refl, refl, refl, refl, refl, refl, refl, refl, refl, refl, refl, refl, refl, refl, refl, refl, refl, refl, refl)
step_named (Place.Target Way.FirstF) = (refl, refl, refl, refl, refl, refl, refl, refl, refl, refl, refl, refl, refl, refl, refl, refl, refl, refl, refl, refl, refl, refl)
step_named (Place.Target Way.SecondS) = (refl, refl, refl, refl, refl, refl, refl, refl, refl, refl, refl, refl, refl, refl, refl, refl, refl, refl, refl, refl, refl, refl)
step_named (Place.Target Way.SecondF) = (refl, refl, refl, refl, refl, refl, refl, refl, refl, refl, refl, refl, refl, refl, refl, refl, refl, refl, refl, refl, refl, refl)

step_dotted : (x : Place) → Step (Reading.Dotted x)
unfolding follow follows after_all after alt seq less holds_null is_none
step_dotted Place.Reference = (refl, refl, refl, refl, refl, refl, refl, refl, refl, refl, refl, refl, refl, refl, refl, refl, refl, refl, refl, refl, refl, refl)
step_dotted Place.Element = (refl, refl, refl, refl, refl, refl, refl, refl, refl, refl, refl, refl, refl, refl, refl, refl, refl, refl, refl, refl, refl, refl)
step_dotted Place.Operand = (refl, refl, refl, refl, refl, refl, refl, refl, refl, refl, refl, refl, refl, refl, refl, refl, refl, refl, refl, refl, refl, refl)
step_dotted (Place.Target Way.Both) = (refl, refl, refl, refl, refl, refl, refl, refl, refl, refl, refl, refl, refl, refl, refl, refl, refl, refl, refl, refl, refl, refl)
step_dotted (Place.Target Way.FirstS) = (refl, refl, refl, refl, refl, refl, refl, refl, refl, refl, refl, refl, refl, refl, refl, refl, refl, refl, refl, refl, refl, refl)
step_dotted (Place.Target Way.FirstF) = (refl, refl, refl, refl, refl, refl, refl, refl, refl, refl, refl, refl, refl, refl, refl, refl, refl, refl, refl, refl, refl, refl)
step_dotted (Place.Target Way.SecondS) = (refl, refl, refl, refl, refl, refl, refl, refl, refl, refl, refl, refl, refl, refl, refl, refl, refl, refl, refl, refl, refl, refl)
step_dotted (Place.Target Way.SecondF) = (refl, refl, refl, refl, refl, refl, refl, refl, refl, refl, refl, refl, refl, refl, refl, refl, refl, refl, refl, refl, refl, refl)

step_literal : (x : Side) → Step (Reading.Literal x)
unfolding follow follows after_all after alt seq less holds_null is_none
step_literal Side.Pattern = (refl, refl, refl, refl, refl, refl, refl, refl, refl, refl, refl, refl, refl, refl, refl, refl, refl, refl, refl, refl, refl, refl)
step_literal Side.Right = (refl, refl, refl, refl, refl, refl, refl, refl, refl, refl, refl, refl, refl, refl, refl, refl, refl, refl, refl, refl, refl, refl)

step_closed : (x : Side) → Step (Reading.Closed x)
unfolding follow follows after_all after alt seq less holds_null is_none
step_closed Side.Pattern = (refl, refl, refl, refl, refl, refl, refl, refl, refl, refl, refl, refl, refl, refl, refl, refl, refl, refl, refl, refl, refl, refl)
step_closed Side.Right = (refl, refl, refl, refl, refl, refl, refl, refl, refl, refl, refl, refl, refl, refl, refl, refl, refl, refl, refl, refl, refl, refl)

step_length : (x : Room) → Step (Reading.Variable (VariableReading.Length x))
unfolding follow follows after_all after alt seq less holds_null is_none
step_length Room.Three = (refl, refl, refl, refl, refl, refl, refl, refl, refl, refl, refl, refl, refl, refl, refl, refl, refl, refl, refl, refl, refl, refl)
step_length Room.Four = (refl, refl, refl, refl, refl, refl, refl, refl, refl, refl, refl, refl, refl, refl, refl, refl, refl, refl, refl, refl, refl, refl)
step_length Room.FourZero = (refl, refl, refl, refl, refl, refl, refl, refl, refl, refl, refl, refl, refl, refl, refl, refl, refl, refl, refl, refl, refl, refl)
step_length Room.FourZeroNine = (refl, refl, refl, refl, refl, refl, refl, refl, refl, refl, refl, refl, refl, refl, refl, refl, refl, refl, refl, refl, refl, refl)
step_length Room.Two = (refl, refl, refl, refl, refl, refl, refl, refl, refl, refl, refl, refl, refl, refl, refl, refl, refl, refl, refl, refl, refl, refl)
step_length Room.One = (refl, refl, refl, refl, refl, refl, refl, refl, refl, refl, refl, refl, refl, refl, refl, refl, refl, refl, refl, refl, refl, refl)
step_length Room.Full = (refl, refl, refl, refl, refl, refl, refl, refl, refl, refl, refl, refl, refl, refl, refl, refl, refl, refl, refl, refl, refl, refl)

step_variable : (x : VariableReading) → Step (Reading.Variable x)
unfolding follow follows after_all after alt seq less holds_null is_none
step_variable VariableReading.Star = (refl, refl, refl, refl, refl, refl, refl, refl, refl, refl, refl, refl, refl, refl, refl, refl, refl, refl, refl, refl, refl, refl)
step_variable VariableReading.Name = (refl, refl, refl, refl, refl, refl, refl, refl, refl, refl, refl, refl, refl, refl, refl, refl, refl, refl, refl, refl, refl, refl)
step_variable VariableReading.Dot = (refl, refl, refl, refl, refl, refl, refl, refl, refl, refl, refl, refl, refl, refl, refl, refl, refl, refl, refl, refl, refl, refl)
step_variable VariableReading.Open = (refl, refl, refl, refl, refl, refl, refl, refl, refl, refl, refl, refl, refl, refl, refl, refl, refl, refl, refl, refl, refl, refl)
step_variable VariableReading.Group = (refl, refl, refl, refl, refl, refl, refl, refl, refl, refl, refl, refl, refl, refl, refl, refl, refl, refl, refl, refl, refl, refl)
step_variable VariableReading.GroupDot = (refl, refl, refl, refl, refl, refl, refl, refl, refl, refl, refl, refl, refl, refl, refl, refl, refl, refl, refl, refl, refl, refl)
step_variable VariableReading.Slash = (refl, refl, refl, refl, refl, refl, refl, refl, refl, refl, refl, refl, refl, refl, refl, refl, refl, refl, refl, refl, refl, refl)
step_variable VariableReading.Quote = (refl, refl, refl, refl, refl, refl, refl, refl, refl, refl, refl, refl, refl, refl, refl, refl, refl, refl, refl, refl, refl, refl)
step_variable VariableReading.Closing = (refl, refl, refl, refl, refl, refl, refl, refl, refl, refl, refl, refl, refl, refl, refl, refl, refl, refl, refl, refl, refl, refl)
step_variable VariableReading.Done = (refl, refl, refl, refl, refl, refl, refl, refl, refl, refl, refl, refl, refl, refl, refl, refl, refl, refl, refl, refl, refl, refl)
step_variable (VariableReading.Length left) = step_length left

step_go : (x : GoReading) → Step (Reading.Go x)
unfolding follow follows after_all after alt seq less holds_null is_none
step_go GoReading.Slash = (refl, refl, refl, refl, refl, refl, refl, refl, refl, refl, refl, refl, refl, refl, refl, refl, refl, refl, refl, refl, refl, refl)
step_go GoReading.S = (refl, refl, refl, refl, refl, refl, refl, refl, refl, refl, refl, refl, refl, refl, refl, refl, refl, refl, refl, refl, refl, refl)
step_go GoReading.F = (refl, refl, refl, refl, refl, refl, refl, refl, refl, refl, refl, refl, refl, refl, refl, refl, refl, refl, refl, refl, refl, refl)
step_go GoReading.AlsoS = (refl, refl, refl, refl, refl, refl, refl, refl, refl, refl, refl, refl, refl, refl, refl, refl, refl, refl, refl, refl, refl, refl)
step_go GoReading.AlsoF = (refl, refl, refl, refl, refl, refl, refl, refl, refl, refl, refl, refl, refl, refl, refl, refl, refl, refl, refl, refl, refl, refl)
step_go (GoReading.Into Way.Both) = (refl, refl, refl, refl, refl, refl, refl, refl, refl, refl, refl, refl, refl, refl, refl, refl, refl, refl, refl, refl, refl, refl)
step_go (GoReading.Into Way.FirstS) = (refl, refl, refl, refl, refl, refl, refl, refl, refl, refl, refl, refl, refl, refl, refl, refl, refl, refl, refl, refl, refl, refl)
step_go (GoReading.Into Way.FirstF) = (refl, refl, refl, refl, refl, refl, refl, refl, refl, refl, refl, refl, refl, refl, refl, refl, refl, refl, refl, refl, refl, refl)
step_go (GoReading.Into Way.SecondS) = (refl, refl, refl, refl, refl, refl, refl, refl, refl, refl, refl, refl, refl, refl, refl, refl, refl, refl, refl, refl, refl, refl)
step_go (GoReading.Into Way.SecondF) = (refl, refl, refl, refl, refl, refl, refl, refl, refl, refl, refl, refl, refl, refl, refl, refl, refl, refl, refl, refl, refl, refl)
step_go GoReading.AfterS = (refl, refl, refl, refl, refl, refl, refl, refl, refl, refl, refl, refl, refl, refl, refl, refl, refl, refl, refl, refl, refl, refl)
step_go GoReading.AfterF = (refl, refl, refl, refl, refl, refl, refl, refl, refl, refl, refl, refl, refl, refl, refl, refl, refl, refl, refl, refl, refl, refl)
step_go GoReading.Done = (refl, refl, refl, refl, refl, refl, refl, refl, refl, refl, refl, refl, refl, refl, refl, refl, refl, refl, refl, refl, refl, refl)

step_start : Step Reading.Start
unfolding follow follows after_all after alt seq less holds_null is_none
step_start = (refl, refl, refl, refl, refl, refl, refl, refl, refl, refl, refl, refl, refl, refl, refl, refl, refl, refl, refl, refl, refl, refl)

step_start_dot : Step Reading.StartDot
unfolding follow follows after_all after alt seq less holds_null is_none
step_start_dot = (refl, refl, refl, refl, refl, refl, refl, refl, refl, refl, refl, refl, refl, refl, refl, refl, refl, refl, refl, refl, refl, refl)

step_equal : Step Reading.Equal
unfolding follow follows after_all after alt seq less holds_null is_none
step_equal = (refl, refl, refl, refl, refl, refl, refl, refl, refl, refl, refl, refl, refl, refl, refl, refl, refl, refl, refl, refl, refl, refl)

all_steps : (q : Reading) → Step q
all_steps (Reading.Label x) = step_label x
all_steps (Reading.Gap x) = step_gap x
all_steps (Reading.Dollar x) = step_dollar x
all_steps (Reading.Named x) = step_named x
all_steps (Reading.Dotted x) = step_dotted x
all_steps (Reading.Literal x) = step_literal x
all_steps (Reading.Closed x) = step_closed x
all_steps (Reading.Variable x) = step_variable x
all_steps (Reading.Go x) = step_go x
all_steps Reading.Start = step_start
all_steps Reading.StartDot = step_start_dot
all_steps Reading.Equal = step_equal

pub steps : (q : Reading) (m : Mark) → after m (follow q) ≡ follows (next q m)
steps q m = at (λ m. after m (follow q) ≡ follows (next q m)) (all_steps q) m

-- every reading can be completed
pub finishes : (q : Reading) → holds_null (after_all (map mark_of (finish q)) (follow q)) ≡ true
unfolding follow follows after_all after alt seq less holds_null is_none
finishes (Reading.Label LabelReading.Begin) = refl
finishes (Reading.Label LabelReading.E) = refl
finishes (Reading.Label LabelReading.En) = refl
finishes (Reading.Label LabelReading.End) = refl
finishes (Reading.Label LabelReading.Name) = refl
finishes (Reading.Label LabelReading.Dot) = refl
finishes (Reading.Gap Section.Reference) = refl
finishes (Reading.Gap Section.Start) = refl
finishes (Reading.Gap Section.Pattern) = refl
finishes (Reading.Gap Section.Right) = refl
finishes (Reading.Gap Section.Tail) = refl
finishes Reading.Start = refl
finishes Reading.StartDot = refl
finishes (Reading.Dollar Place.Reference) = refl
finishes (Reading.Dollar Place.Element) = refl
finishes (Reading.Dollar Place.Operand) = refl
finishes (Reading.Dollar (Place.Target Way.Both)) = refl
finishes (Reading.Dollar (Place.Target Way.FirstS)) = refl
finishes (Reading.Dollar (Place.Target Way.FirstF)) = refl
finishes (Reading.Dollar (Place.Target Way.SecondS)) = refl
finishes (Reading.Dollar (Place.Target Way.SecondF)) = refl
finishes (Reading.Named Place.Reference) = refl
finishes (Reading.Named Place.Element) = refl
finishes (Reading.Named Place.Operand) = refl
finishes (Reading.Named (Place.Target Way.Both)) = refl
finishes (Reading.Named (Place.Target Way.FirstS)) = refl
finishes (Reading.Named (Place.Target Way.FirstF)) = refl
finishes (Reading.Named (Place.Target Way.SecondS)) = refl
finishes (Reading.Named (Place.Target Way.SecondF)) = refl
finishes (Reading.Dotted Place.Reference) = refl
finishes (Reading.Dotted Place.Element) = refl
finishes (Reading.Dotted Place.Operand) = refl
finishes (Reading.Dotted (Place.Target Way.Both)) = refl
finishes (Reading.Dotted (Place.Target Way.FirstS)) = refl
finishes (Reading.Dotted (Place.Target Way.FirstF)) = refl
finishes (Reading.Dotted (Place.Target Way.SecondS)) = refl
finishes (Reading.Dotted (Place.Target Way.SecondF)) = refl
finishes (Reading.Literal Side.Pattern) = refl
finishes (Reading.Literal Side.Right) = refl
finishes (Reading.Closed Side.Pattern) = refl
finishes (Reading.Closed Side.Right) = refl
finishes Reading.Equal = refl
finishes (Reading.Variable VariableReading.Star) = refl
finishes (Reading.Variable VariableReading.Name) = refl
finishes (Reading.Variable VariableReading.Dot) = refl
finishes (Reading.Variable VariableReading.Open) = refl
finishes (Reading.Variable VariableReading.Group) = refl
finishes (Reading.Variable VariableReading.GroupDot) = refl
finishes (Reading.Variable VariableReading.Slash) = refl
finishes (Reading.Variable VariableReading.Quote) = refl
finishes (Reading.Variable (VariableReading.Length Room.Three)) = refl
finishes (Reading.Variable (VariableReading.Length Room.Four)) = refl
finishes (Reading.Variable (VariableReading.Length Room.FourZero)) = refl
finishes (Reading.Variable (VariableReading.Length Room.FourZeroNine)) = refl
finishes (Reading.Variable (VariableReading.Length Room.Two)) = refl
finishes (Reading.Variable (VariableReading.Length Room.One)) = refl
finishes (Reading.Variable (VariableReading.Length Room.Full)) = refl
finishes (Reading.Variable VariableReading.Closing) = refl
finishes (Reading.Variable VariableReading.Done) = refl
finishes (Reading.Go GoReading.Slash) = refl
finishes (Reading.Go GoReading.S) = refl
finishes (Reading.Go GoReading.F) = refl
finishes (Reading.Go GoReading.AlsoS) = refl
finishes (Reading.Go GoReading.AlsoF) = refl
finishes (Reading.Go (GoReading.Into Way.Both)) = refl
finishes (Reading.Go (GoReading.Into Way.FirstS)) = refl
finishes (Reading.Go (GoReading.Into Way.FirstF)) = refl
finishes (Reading.Go (GoReading.Into Way.SecondS)) = refl
finishes (Reading.Go (GoReading.Into Way.SecondF)) = refl
finishes (Reading.Go GoReading.AfterS) = refl
finishes (Reading.Go GoReading.AfterF) = refl
finishes (Reading.Go GoReading.Done) = refl

pub some_follow : (q : Reading) → is_none (follow q) ≡ false
unfolding follow follows after_all after alt seq less holds_null is_none
some_follow (Reading.Label LabelReading.Begin) = refl
some_follow (Reading.Label LabelReading.E) = refl
some_follow (Reading.Label LabelReading.En) = refl
some_follow (Reading.Label LabelReading.End) = refl
some_follow (Reading.Label LabelReading.Name) = refl
some_follow (Reading.Label LabelReading.Dot) = refl
some_follow (Reading.Gap Section.Reference) = refl
some_follow (Reading.Gap Section.Start) = refl
some_follow (Reading.Gap Section.Pattern) = refl
some_follow (Reading.Gap Section.Right) = refl
some_follow (Reading.Gap Section.Tail) = refl
some_follow Reading.Start = refl
some_follow Reading.StartDot = refl
some_follow (Reading.Dollar Place.Reference) = refl
some_follow (Reading.Dollar Place.Element) = refl
some_follow (Reading.Dollar Place.Operand) = refl
some_follow (Reading.Dollar (Place.Target Way.Both)) = refl
some_follow (Reading.Dollar (Place.Target Way.FirstS)) = refl
some_follow (Reading.Dollar (Place.Target Way.FirstF)) = refl
some_follow (Reading.Dollar (Place.Target Way.SecondS)) = refl
some_follow (Reading.Dollar (Place.Target Way.SecondF)) = refl
some_follow (Reading.Named Place.Reference) = refl
some_follow (Reading.Named Place.Element) = refl
some_follow (Reading.Named Place.Operand) = refl
some_follow (Reading.Named (Place.Target Way.Both)) = refl
some_follow (Reading.Named (Place.Target Way.FirstS)) = refl
some_follow (Reading.Named (Place.Target Way.FirstF)) = refl
some_follow (Reading.Named (Place.Target Way.SecondS)) = refl
some_follow (Reading.Named (Place.Target Way.SecondF)) = refl
some_follow (Reading.Dotted Place.Reference) = refl
some_follow (Reading.Dotted Place.Element) = refl
some_follow (Reading.Dotted Place.Operand) = refl
some_follow (Reading.Dotted (Place.Target Way.Both)) = refl
some_follow (Reading.Dotted (Place.Target Way.FirstS)) = refl
some_follow (Reading.Dotted (Place.Target Way.FirstF)) = refl
some_follow (Reading.Dotted (Place.Target Way.SecondS)) = refl
some_follow (Reading.Dotted (Place.Target Way.SecondF)) = refl
some_follow (Reading.Literal Side.Pattern) = refl
some_follow (Reading.Literal Side.Right) = refl
some_follow (Reading.Closed Side.Pattern) = refl
some_follow (Reading.Closed Side.Right) = refl
some_follow Reading.Equal = refl
some_follow (Reading.Variable VariableReading.Star) = refl
some_follow (Reading.Variable VariableReading.Name) = refl
some_follow (Reading.Variable VariableReading.Dot) = refl
some_follow (Reading.Variable VariableReading.Open) = refl
some_follow (Reading.Variable VariableReading.Group) = refl
some_follow (Reading.Variable VariableReading.GroupDot) = refl
some_follow (Reading.Variable VariableReading.Slash) = refl
some_follow (Reading.Variable VariableReading.Quote) = refl
some_follow (Reading.Variable (VariableReading.Length Room.Three)) = refl
some_follow (Reading.Variable (VariableReading.Length Room.Four)) = refl
some_follow (Reading.Variable (VariableReading.Length Room.FourZero)) = refl
some_follow (Reading.Variable (VariableReading.Length Room.FourZeroNine)) = refl
some_follow (Reading.Variable (VariableReading.Length Room.Two)) = refl
some_follow (Reading.Variable (VariableReading.Length Room.One)) = refl
some_follow (Reading.Variable (VariableReading.Length Room.Full)) = refl
some_follow (Reading.Variable VariableReading.Closing) = refl
some_follow (Reading.Variable VariableReading.Done) = refl
some_follow (Reading.Go GoReading.Slash) = refl
some_follow (Reading.Go GoReading.S) = refl
some_follow (Reading.Go GoReading.F) = refl
some_follow (Reading.Go GoReading.AlsoS) = refl
some_follow (Reading.Go GoReading.AlsoF) = refl
some_follow (Reading.Go (GoReading.Into Way.Both)) = refl
some_follow (Reading.Go (GoReading.Into Way.FirstS)) = refl
some_follow (Reading.Go (GoReading.Into Way.FirstF)) = refl
some_follow (Reading.Go (GoReading.Into Way.SecondS)) = refl
some_follow (Reading.Go (GoReading.Into Way.SecondF)) = refl
some_follow (Reading.Go GoReading.AfterS) = refl
some_follow (Reading.Go GoReading.AfterF) = refl
some_follow (Reading.Go GoReading.Done) = refl

pub stands_follow : (q : Reading) → holds_null (follow q) ≡ stands q
unfolding follow follows after_all after alt seq less holds_null is_none
stands_follow (Reading.Label LabelReading.Begin) = refl
stands_follow (Reading.Label LabelReading.E) = refl
stands_follow (Reading.Label LabelReading.En) = refl
stands_follow (Reading.Label LabelReading.End) = refl
stands_follow (Reading.Label LabelReading.Name) = refl
stands_follow (Reading.Label LabelReading.Dot) = refl
stands_follow (Reading.Gap Section.Reference) = refl
stands_follow (Reading.Gap Section.Start) = refl
stands_follow (Reading.Gap Section.Pattern) = refl
stands_follow (Reading.Gap Section.Right) = refl
stands_follow (Reading.Gap Section.Tail) = refl
stands_follow Reading.Start = refl
stands_follow Reading.StartDot = refl
stands_follow (Reading.Dollar Place.Reference) = refl
stands_follow (Reading.Dollar Place.Element) = refl
stands_follow (Reading.Dollar Place.Operand) = refl
stands_follow (Reading.Dollar (Place.Target Way.Both)) = refl
stands_follow (Reading.Dollar (Place.Target Way.FirstS)) = refl
stands_follow (Reading.Dollar (Place.Target Way.FirstF)) = refl
stands_follow (Reading.Dollar (Place.Target Way.SecondS)) = refl
stands_follow (Reading.Dollar (Place.Target Way.SecondF)) = refl
stands_follow (Reading.Named Place.Reference) = refl
stands_follow (Reading.Named Place.Element) = refl
stands_follow (Reading.Named Place.Operand) = refl
stands_follow (Reading.Named (Place.Target Way.Both)) = refl
stands_follow (Reading.Named (Place.Target Way.FirstS)) = refl
stands_follow (Reading.Named (Place.Target Way.FirstF)) = refl
stands_follow (Reading.Named (Place.Target Way.SecondS)) = refl
stands_follow (Reading.Named (Place.Target Way.SecondF)) = refl
stands_follow (Reading.Dotted Place.Reference) = refl
stands_follow (Reading.Dotted Place.Element) = refl
stands_follow (Reading.Dotted Place.Operand) = refl
stands_follow (Reading.Dotted (Place.Target Way.Both)) = refl
stands_follow (Reading.Dotted (Place.Target Way.FirstS)) = refl
stands_follow (Reading.Dotted (Place.Target Way.FirstF)) = refl
stands_follow (Reading.Dotted (Place.Target Way.SecondS)) = refl
stands_follow (Reading.Dotted (Place.Target Way.SecondF)) = refl
stands_follow (Reading.Literal Side.Pattern) = refl
stands_follow (Reading.Literal Side.Right) = refl
stands_follow (Reading.Closed Side.Pattern) = refl
stands_follow (Reading.Closed Side.Right) = refl
stands_follow Reading.Equal = refl
stands_follow (Reading.Variable VariableReading.Star) = refl
stands_follow (Reading.Variable VariableReading.Name) = refl
stands_follow (Reading.Variable VariableReading.Dot) = refl
stands_follow (Reading.Variable VariableReading.Open) = refl
stands_follow (Reading.Variable VariableReading.Group) = refl
stands_follow (Reading.Variable VariableReading.GroupDot) = refl
stands_follow (Reading.Variable VariableReading.Slash) = refl
stands_follow (Reading.Variable VariableReading.Quote) = refl
stands_follow (Reading.Variable (VariableReading.Length Room.Three)) = refl
stands_follow (Reading.Variable (VariableReading.Length Room.Four)) = refl
stands_follow (Reading.Variable (VariableReading.Length Room.FourZero)) = refl
stands_follow (Reading.Variable (VariableReading.Length Room.FourZeroNine)) = refl
stands_follow (Reading.Variable (VariableReading.Length Room.Two)) = refl
stands_follow (Reading.Variable (VariableReading.Length Room.One)) = refl
stands_follow (Reading.Variable (VariableReading.Length Room.Full)) = refl
stands_follow (Reading.Variable VariableReading.Closing) = refl
stands_follow (Reading.Variable VariableReading.Done) = refl
stands_follow (Reading.Go GoReading.Slash) = refl
stands_follow (Reading.Go GoReading.S) = refl
stands_follow (Reading.Go GoReading.F) = refl
stands_follow (Reading.Go GoReading.AlsoS) = refl
stands_follow (Reading.Go GoReading.AlsoF) = refl
stands_follow (Reading.Go (GoReading.Into Way.Both)) = refl
stands_follow (Reading.Go (GoReading.Into Way.FirstS)) = refl
stands_follow (Reading.Go (GoReading.Into Way.FirstF)) = refl
stands_follow (Reading.Go (GoReading.Into Way.SecondS)) = refl
stands_follow (Reading.Go (GoReading.Into Way.SecondF)) = refl
stands_follow (Reading.Go GoReading.AfterS) = refl
stands_follow (Reading.Go GoReading.AfterF) = refl
stands_follow (Reading.Go GoReading.Done) = refl
