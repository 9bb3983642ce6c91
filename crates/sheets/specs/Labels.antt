-- The labels that a sheet goes to, and the earliest that no statement has. Assumes nothing.
pub use Rattle.sheets.specs.Faults.{nowhere}
use Rattle.std.specs.Prelude.{◌≡◌, ℕ, ◌+◌, Bool, true, false, cond, not, ◌&&◌, ◌||◌, List, [], ◌∷◌, length, Some, None, Ok, Err, codes, Option, Result, nat_lt}
use Rattle.std.specs.Str.{bytes_eq}
use Rattle.lines.specs.declared.role.Role.{Role}
use Rattle.lines.specs.declared.token.Token.{Token}
use Rattle.lines.specs.Tokens.{tokens}
use Rattle.symbols.specs.declared.fault.TextFault.{TextFault}
use Rattle.sheets.specs.declared.fault.Cause.{Cause}
use Rattle.sheets.specs.declared.fault.Fault.{Fault}
use Rattle.sheets.specs.declared.fault.Refusal.{Refusal}
use Rattle.sheets.specs.declared.outline.Outline.{Outline}
use Rattle.sheets.specs.Faults.{fault}
use Rattle.sheets.specs.Items.{indirect}
use Rattle.sheets.specs.LineFaults.{Brought, carried, Limited}
use Rattle.sheets.specs.Parts.{part_of, position}
use Rattle.sheets.specs.Sheets.{lines_of, refused_first, nothing, lines_refusal, brought_by}
use Rattle.sheets.specs.Tallies.{absent, or_else}

abbrev pub role_goes : Role → Bool → Bool
role_goes Role.Between dollar = false
role_goes Role.Label dollar = false
role_goes Role.Start dollar = true
role_goes Role.Reference dollar = false
role_goes Role.Element dollar = false
role_goes Role.LiteralElement dollar = false
role_goes Role.Star dollar = false
role_goes Role.Variable dollar = false
role_goes Role.Group dollar = false
role_goes Role.Length dollar = false
role_goes Role.Equal dollar = false
role_goes Role.Operand dollar = false
role_goes Role.LiteralOperand dollar = false
role_goes Role.Both dollar = not dollar
role_goes Role.OnS dollar = not dollar
role_goes Role.OnF dollar = not dollar

-- the token is the label to start at, or a go-to's without `$`
abbrev pub goes_to : List ℕ → Token → Bool
goes_to s t = role_goes t.role (indirect s t)

-- END, or the label of a statement
abbrev pub known : List (List ℕ) → List ℕ → Bool
known labels w = bytes_eq w (codes "END") || not (absent (position w labels))

-- the characters of a token
abbrev pub token_text : List ℕ → Token → List ℕ
token_text s t = part_of s (record { start = t.start; size = t.size })

-- a label that no statement has, at its start
abbrev pub token_unknown : List (List ℕ) → List ℕ → Token → Option Fault
token_unknown labels s t = cond (goes_to s t && not (known labels (token_text s t))) (Some (fault (t.start + 1) Cause.UnknownLabel)) None

-- the first such label among tokens
unfoldable pub unknown_from : List (List ℕ) → List ℕ → List Token → Option Fault
unknown_from labels s [] = None
unknown_from labels s (t ∷ ts) = or_else (token_unknown labels s t) (unknown_from labels s ts)

-- the first such label among lines; the first line is k
unfoldable pub lines_unknown : List (List ℕ) → ℕ → List (List ℕ) → Option Refusal
lines_unknown labels k [] = None
lines_unknown labels k (l ∷ ls) = refused_first (unknown_from labels l (tokens l)) k (lines_unknown labels (k + 1) ls)

-- the refusal of the first of two checks that refuses
abbrev pub or_refused : Option Refusal → Option Refusal → Option Refusal
or_refused None b = b
or_refused (Some f) b = Some f

-- no END's line
abbrev pub no_end : Brought → Option Refusal
no_end n = cond n.ended None (Some (nowhere Cause.End))

module _ (reads : List ℕ → Result ℕ TextFault) where
  -- what the lines of a text bring
  abbrev pub brought : List ℕ → Brought
  brought text = brought_by reads nothing (lines_of text)

  -- why a text is refused: too long; the earliest line with a fault; no END; the earliest label that no statement has
  unfoldable pub text_refusal : List ℕ → Option Refusal
  text_refusal text =
      cond (nat_lt 16384 (length text)) (Some (nowhere Cause.TextLong))
      (or_refused (lines_refusal reads 1 nothing (lines_of text))
      (or_refused (no_end (brought text)) (lines_unknown (brought text).labels 1 (lines_of text))))

-- what the check of a text answers: why it is refused; or what its lines brought, within all limits
abbrev pub Surveyed : Option Refusal → Brought → List ℕ → Result Outline Refusal → Type 0
Surveyed refusal n text (Ok o) = (refusal ≡ None) × (carried text o.names o.labels o.carried ≡ n) × Limited o.carried
Surveyed refusal n text (Err f) = refusal ≡ Some f
