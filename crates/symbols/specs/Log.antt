-- What log characters mean: one character each, where the round brackets open and close. Assumes nothing.
use Rattle.std.specs.Prelude.{◌≡◌, ℕ, Bool, true, false, cond, List, [], ◌∷◌, Some, None, Option, ◌==◌, refl}
use Rattle.symbols.specs.LogCodes.{log_code}
use Rattle.symbols.specs.declared.log_char.LogChar.{LogChar}
use Rattle.symbols.specs.declared.role.Role.{Role}
use Rattle.symbols.specs.declared.role.Role.TheVariants.{Opening, Closing, Plain}

-- the log character of a code, if the code has one
abbrev pub log_char : (c : ℕ) (b : Bool) → log_code c ≡ b → Option LogChar
log_char c true e = Some (record { code = c; printed = e })
log_char c false e = None

-- what characters mean: a single one its log character, none or several nothing
abbrev pub log_meant : List ℕ → Option LogChar
log_meant [] = None
log_meant (c ∷ []) = log_char c (log_code c) refl
log_meant (c ∷ (d ∷ cs)) = None

-- the character of a symbol
abbrev pub log_chars : LogChar → List ℕ
log_chars x = x.code ∷ []

-- whether two log characters are equal
abbrev pub log_equal : LogChar → LogChar → Bool
log_equal x y = x.code == y.code

-- `(` opens, `)` closes, all else is plain
abbrev pub log_role : LogChar → Role
log_role x = cond (x.code == 40) Opening (cond (x.code == 41) Closing Plain)
