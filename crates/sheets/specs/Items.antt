-- What a token of a line is to its statement. Assumes nothing.
use Rattle.std.specs.Prelude.{ℕ, ◌+◌, ◌-◌, ◌<◌, ◌≤◌, Bool, true, false, cond, ◌&&◌, List, length, Some, None, Option, ◌==◌, nat_lt, slice_index}
use Rattle.lines.specs.declared.role.Role.{Role}
use Rattle.lines.specs.declared.token.Token.{Token}
use Rattle.sheets.specs.declared.item.Opened.{Opened}
use Rattle.sheets.specs.declared.item.Sort.{Sort}
use Rattle.sheets.specs.declared.part.Part.{Part}
use Rattle.sheets.specs.Parts.{part_of}

-- what a token spells
abbrev pub sort_of : Role → Sort
sort_of Role.Between = Sort.Other
sort_of Role.Label = Sort.Label
sort_of Role.Start = Sort.Label
sort_of Role.Reference = Sort.Name
sort_of Role.Element = Sort.Name
sort_of Role.LiteralElement = Sort.Literal
sort_of Role.Star = Sort.Other
sort_of Role.Variable = Sort.Name
sort_of Role.Group = Sort.Name
sort_of Role.Length = Sort.Other
sort_of Role.Equal = Sort.Other
sort_of Role.Operand = Sort.Name
sort_of Role.LiteralOperand = Sort.Literal
sort_of Role.Both = Sort.Target
sort_of Role.OnS = Sort.Target
sort_of Role.OnF = Sort.Target

-- what a token begins, if anything
abbrev pub opened_by : Role → Option Opened
opened_by Role.Between = None
opened_by Role.Label = None
opened_by Role.Start = None
opened_by Role.Reference = None
opened_by Role.Element = Some Opened.Element
opened_by Role.LiteralElement = Some Opened.Element
opened_by Role.Star = Some Opened.Element
opened_by Role.Variable = None
opened_by Role.Group = None
opened_by Role.Length = None
opened_by Role.Equal = None
opened_by Role.Operand = Some Opened.Operand
opened_by Role.LiteralOperand = Some Opened.Operand
opened_by Role.Both = None
opened_by Role.OnS = None
opened_by Role.OnF = None

-- a token that lies in the line
pub record Inside (s : List ℕ) (t : Token) : Type 0 where
  pub some : 0 < t.size
  pub within : t.start + t.size ≤ length s

-- the token begins with `$`
abbrev pub indirect : List ℕ → Token → Bool
indirect s t = slice_index s t.start == 36

abbrev part : ℕ → ℕ → Part
part k n = record { start = k; size = n }

-- the name or label of a token, without `$`
abbrev pub word : List ℕ → Token → Part
word s t = cond (indirect s t) (part (t.start + 1) (t.size - 1)) (part t.start t.size)

-- its characters
abbrev pub spelling : List ℕ → Token → List ℕ
spelling s t = part_of s (word s t)

-- whether what is spelled is a name; after `$` a go-to spells one
abbrev pub sort_brings : Sort → Bool → Bool
sort_brings Sort.Other dollar = false
sort_brings Sort.Label dollar = false
sort_brings Sort.Name dollar = true
sort_brings Sort.Target dollar = dollar
sort_brings Sort.Literal dollar = false

-- the token has a name, of which there is at least a character: the label of a go-to is one only after `$`
abbrev pub brings_name : List ℕ → Token → Bool
brings_name s t = sort_brings (sort_of t.role) (indirect s t) && nat_lt 0 (word s t).size

-- a literal that has both its quotes
abbrev pub closed : List ℕ → Token → Bool
closed s t = nat_lt 1 t.size && slice_index s ((t.start + t.size) - 1) == 34

-- what stands between the quotes of a literal
abbrev pub contents : Token → Part
contents t = part (t.start + 1) (t.size - 2)
