-- The role of each character of a line, as a reader colours it. Assumes nothing.
use Rattle.std.specs.Prelude.{ℕ, Bool, List, [], ◌∷◌, Some, None, Option, ◌==◌}
use Rattle.lines.specs.declared.reading.Way.{Way}
use Rattle.lines.specs.declared.reading.Place.{Place}
use Rattle.lines.specs.declared.reading.Side.{Side}
use Rattle.lines.specs.declared.reading.VariableReading.{VariableReading}
use Rattle.lines.specs.declared.reading.Reading.{Reading}
use Rattle.lines.specs.declared.role.Role.{Role}
use Rattle.lines.specs.Marks.{mark_of}
use Rattle.lines.specs.Next.{beginning, next}

-- the roles in a row, to compare them
abbrev pub role_number : Role → ℕ
role_number Role.Between = 0
role_number Role.Label = 1
role_number Role.Start = 2
role_number Role.Reference = 3
role_number Role.Element = 4
role_number Role.LiteralElement = 5
role_number Role.Star = 6
role_number Role.Variable = 7
role_number Role.Group = 8
role_number Role.Length = 9
role_number Role.Equal = 10
role_number Role.Operand = 11
role_number Role.LiteralOperand = 12
role_number Role.Both = 13
role_number Role.OnS = 14
role_number Role.OnF = 15

abbrev pub same_role : Role → Role → Bool
same_role a b = role_number a == role_number b

abbrev target_role : Way → Role
target_role Way.Both = Role.Both
target_role Way.FirstS = Role.OnS
target_role Way.FirstF = Role.OnF
target_role Way.SecondS = Role.OnS
target_role Way.SecondF = Role.OnF

abbrev place_role : Place → Role
place_role Place.Reference = Role.Reference
place_role Place.Element = Role.Element
place_role Place.Operand = Role.Operand
place_role (Place.Target way) = target_role way

abbrev side_role : Side → Role
side_role Side.Pattern = Role.LiteralElement
side_role Side.Right = Role.LiteralOperand

abbrev variable_role : VariableReading → Role
variable_role VariableReading.Star = Role.Star
variable_role VariableReading.Name = Role.Variable
variable_role VariableReading.Dot = Role.Variable
variable_role VariableReading.Open = Role.Star
variable_role VariableReading.Group = Role.Group
variable_role VariableReading.GroupDot = Role.Group
variable_role VariableReading.Slash = Role.Between
variable_role VariableReading.Quote = Role.Between
variable_role (VariableReading.Length left) = Role.Length
variable_role VariableReading.Closing = Role.Between
variable_role VariableReading.Done = Role.Between

-- the role of the character that led to a reading
abbrev pub role_of : Reading → Role
role_of (Reading.Label reading) = Role.Label
role_of (Reading.Gap section) = Role.Between
role_of Reading.Start = Role.Start
role_of Reading.StartDot = Role.Start
role_of (Reading.Dollar place) = place_role place
role_of (Reading.Named place) = place_role place
role_of (Reading.Dotted place) = place_role place
role_of (Reading.Literal side) = side_role side
role_of (Reading.Closed side) = side_role side
role_of Reading.Equal = Role.Equal
role_of (Reading.Variable reading) = variable_role reading
role_of (Reading.Go reading) = Role.Between

abbrev pub on_roles : Option Reading → (Reading → List Role) → List Role
on_roles None f = []
on_roles (Some r) f = f r

-- the role of each character, as far as some statement line begins so
unfoldable pub roles_from : Reading → List ℕ → List Role
roles_from q [] = []
roles_from q (c ∷ s) = on_roles (next q (mark_of c)) (λ r. role_of r ∷ roles_from r s)

abbrev pub roles : List ℕ → List Role
roles s = roles_from beginning s
