-- What a line's tokens count, and the faults of each, left to right. Assumes nothing.
pub use Rattle.lines.specs.Texts.{Lies}
use Rattle.std.specs.Prelude.{◌≡◌, ℕ, ◌+◌, ◌≤◌, Bool, true, false, cond, ◌&&◌, List, [], ◌∷◌, ◌++◌, map, length, take, Some, None, Ok, Err, Option, Result, nat_le, nat_lt}
use Rattle.lines.specs.declared.token.Token.{Token}
use Rattle.symbols.specs.declared.fault.TextFault.{TextFault}
use Rattle.symbols.specs.Texts.{text_read, counted}
use Rattle.sheets.specs.declared.fault.Cause.{Cause}
use Rattle.sheets.specs.declared.fault.Fault.{Fault}
use Rattle.sheets.specs.declared.fault.SymbolAt.{SymbolAt}
use Rattle.sheets.specs.declared.item.Opened.{Opened}
use Rattle.sheets.specs.declared.item.Sort.{Sort}
use Rattle.sheets.specs.declared.part.Part.{Part}
use Rattle.sheets.specs.declared.tally.Tally.{Tally}
use Rattle.sheets.specs.Faults.{fault, before, first}
use Rattle.sheets.specs.Items.{sort_of, opened_by, word, spelling, brings_name, closed, contents}
use Rattle.sheets.specs.Parts.{part_of, position, with_word}

-- how many symbols of a kind characters mean, or their fault
abbrev pub counts : {X : Type 0} → (List ℕ → Option X) → ℕ → List ℕ → Result ℕ TextFault
counts meant wide c = counted (text_read meant wide c)

-- what is counted: a statement's elements and right side operands, the sheet's constant symbols and its names
pub record Count : Type 0 where
  pub elements : ℕ
  pub operands : ℕ
  pub symbols : ℕ
  pub names : List (List ℕ)

-- what a tally counts, beside names
abbrev pub counting : List (List ℕ) → Tally → Count
counting names t = record { elements = t.elements; operands = t.operands; symbols = t.symbols; names = names }

-- what a tally means, its names being parts of the text
abbrev pub told : List ℕ → List Part → Tally → Count
told text names t = counting (map (part_of text) (take t.names names)) t

-- a tally that goes over no limit
pub record Within (t : Tally) : Type 0 where
  pub elements : t.elements ≤ 8
  pub operands : t.operands ≤ 8
  pub symbols : t.symbols ≤ 4096
  pub names : t.names ≤ 64

-- a fault where the test holds
abbrev pub when : Bool → Fault → List Fault
when b f = cond b (f ∷ []) []

-- labels and names may be too long
abbrev pub sort_limited : Sort → Bool
sort_limited Sort.Other = false
sort_limited Sort.Label = true
sort_limited Sort.Name = true
sort_limited Sort.Target = true
sort_limited Sort.Literal = false

-- a name or label over 16, at its start
abbrev pub long_name : List ℕ → Token → List Fault
long_name s t = when (sort_limited (sort_of t.role) && nat_lt 16 (word s t).size) (fault ((word s t).start + 1) Cause.LongName)

-- how many there are of what a token begins
abbrev pub opened_before : Option Opened → ℕ → ℕ → ℕ
opened_before None elements operands = 0
opened_before (Some Opened.Element) elements operands = elements
opened_before (Some Opened.Operand) elements operands = operands

-- the ninth element or right side operand, at its first character
abbrev pub ninth : ℕ → ℕ → Token → List Fault
ninth elements operands t = when (nat_le 8 (opened_before (opened_by t.role) elements operands)) (fault (t.start + 1) Cause.TooMany)

-- nothing was found
abbrev pub absent : Option ℕ → Bool
absent None = true
absent (Some k) = false

-- a name that is new after 64 others, at its first character
abbrev pub extra_name : List ℕ → List (List ℕ) → Token → List Fault
extra_name s names t =
    when (brings_name s t && (nat_le 64 (length names) && absent (position (spelling s t) names))) (fault ((word s t).start + 1) Cause.TooMany)

-- how many elements a token begins: one or none
abbrev pub elements_opened : Option Opened → ℕ
elements_opened None = 0
elements_opened (Some Opened.Element) = 1
elements_opened (Some Opened.Operand) = 0

-- how many right side operands a token begins: one or none
abbrev pub operands_opened : Option Opened → ℕ
operands_opened None = 0
operands_opened (Some Opened.Element) = 0
operands_opened (Some Opened.Operand) = 1

-- what a token spells is a literal
abbrev pub sort_literal : Sort → Bool
sort_literal Sort.Other = false
sort_literal Sort.Label = false
sort_literal Sort.Name = false
sort_literal Sort.Target = false
sort_literal Sort.Literal = true

-- a token is a literal that has both its quotes
abbrev pub is_literal : List ℕ → Token → Bool
is_literal s t = sort_literal (sort_of t.role) && closed s t

-- how many symbols a literal adds; none under a symbol fault
abbrev pub symbols_added : Result ℕ TextFault → ℕ
symbols_added (Ok n) = n
symbols_added (Err f) = 0

-- a symbol fault at its symbol, or a symbol after 4,096 others at its literal's quote
abbrev pub literal_faults : Result ℕ TextFault → ℕ → Token → List Fault
literal_faults (Ok k) before t = when (nat_lt 4096 (before + k)) (fault (t.start + 1) Cause.TooMany)
literal_faults (Err f) before t = fault ((t.start + 2) + f.at) (Cause.Symbol f.fault) ∷ []

-- a literal's count or symbol fault, with its column
abbrev pub placed : Token → Result ℕ TextFault → Result ℕ SymbolAt
placed t (Ok k) = Ok k
placed t (Err f) = Err (record { column = (t.start + 2) + f.at; fault = f.fault })

-- the symbols that a token adds, or its fault
abbrev pub literal_answer : Result ℕ TextFault → ℕ → Token → Result ℕ Fault
literal_answer (Ok k) before t = cond (nat_lt 4096 (before + k)) (Err (fault (t.start + 1) Cause.TooMany)) (Ok k)
literal_answer (Err f) before t = Err (fault ((t.start + 2) + f.at) (Cause.Symbol f.fault))

-- the symbols that a token adds, or of two faults the one that counts
abbrev pub joined : Option Fault → Result ℕ Fault → Result ℕ Fault
joined None r = r
joined (Some f) (Ok k) = Err f
joined (Some f) (Err g) = cond (before g f) (Err g) (Err f)

-- what taking tokens answers: the fault that counts; or a tally that means what is counted with them, within all limits
abbrev pub Took : Option Fault → Count → List ℕ → List Part → Result Tally Fault → Type 0
Took fault count text names (Ok t) = (fault ≡ None) × (told text names t ≡ count) × Within t
Took fault count text names (Err f) = fault ≡ Some f

-- the fault of the first of two things that has one
abbrev pub or_else : Option Fault → Option Fault → Option Fault
or_else None b = b
or_else (Some f) b = Some f

module _ (reads : List ℕ → Result ℕ TextFault) where
  -- how many symbols a token adds to the constants, or the symbol fault of its literal
  abbrev pub literal : List ℕ → Token → Result ℕ TextFault
  literal s t = cond (is_literal s t) (reads (part_of s (contents t))) (Ok 0)

  -- the faults of a token where n is counted before it
  unfoldable pub token_faults : List ℕ → Count → Token → List Fault
  token_faults s n t =
      ((long_name s t ++ ninth n.elements n.operands t) ++ extra_name s n.names t) ++ literal_faults (literal s t) n.symbols t

  -- what is counted with a token
  unfoldable pub with_token : List ℕ → Count → Token → Count
  with_token s n t =
      record {
        elements = n.elements + elements_opened (opened_by t.role);
        operands = n.operands + operands_opened (opened_by t.role);
        symbols = n.symbols + symbols_added (literal s t);
        names = cond (brings_name s t) (with_word (spelling s t) n.names) n.names;
      }

  -- the faults of tokens, each with what is counted before it
  unfoldable pub faults_from : List ℕ → Count → List Token → List Fault
  faults_from s n [] = []
  faults_from s n (t ∷ ts) = token_faults s n t ++ faults_from s (with_token s n t) ts

  -- the fault of the first token that has one
  unfoldable pub first_from : List ℕ → Count → List Token → Option Fault
  first_from s n [] = None
  first_from s n (t ∷ ts) = or_else (first (token_faults s n t)) (first_from s (with_token s n t) ts)

  -- what is counted with all tokens
  unfoldable pub count_from : List ℕ → Count → List Token → Count
  count_from s n [] = n
  count_from s n (t ∷ ts) = count_from s (with_token s n t) ts
