-- Log characters: equal codes make equal characters, and reading gives back what was written.
use Rattle.std.specs.Prelude.{◌≡◌, ℕ, Bool, true, false, List, [], ◌∷◌, length, Some, Ok, Decides, slice_index, refl}
use Rattle.std.proofs.Math.Bool.{Bool-set}
use mathlib.Core.HLevel.{is_prop→PathP}
use Rattle.std.proofs.Common.{sym, ap, ◌∙◌, arith}
use Rattle.std.proofs.lemmas.Bool.{eqb-true, eq-eqb, both_ways}
use Rattle.symbols.specs.Kinds.{read_as}
use Rattle.symbols.specs.LogCodes.{log_code}
use Rattle.symbols.specs.Log.{log_char, log_meant, log_chars, log_equal}
use Rattle.symbols.specs.declared.log_char.LogChar.{LogChar}

pub same_code : (x y : LogChar) → x.code ≡ y.code → x ≡ y
same_code x y p = λ i. record { code = p i; printed = is_prop→PathP (λ j. log_code (p j) ≡ true) (λ j. Bool-set (log_code (p j)) true) x.printed y.printed i }

pub log_decides : (x y : LogChar) → Decides (log_equal x y) (x ≡ y)
log_decides x y = (λ e. same_code x y (eqb-true _ _ e), λ e. eq-eqb _ _ (ap (λ (z : LogChar). z.code) e))

-- a code that some character has is read as that character
pub char_of : (c : ℕ) (b : Bool) (e : log_code c ≡ b) (x : LogChar) → c ≡ x.code → log_char c b e ≡ Some x
char_of c true e x p = ap Some (same_code (record { code = c; printed = e }) x p)
char_of c false e x p = absurd (both_ways _ e (ap log_code p ∙ x.printed))

pub log_back : (x : LogChar) → log_meant (log_chars x) ≡ Some x
log_back x = char_of x.code (log_code x.code) refl x refl

-- what is read has the code that it was read from
code_of : (c : ℕ) (b : Bool) (e : log_code c ≡ b) (x : LogChar) → log_char c b e ≡ Some x → x.code ≡ c
code_of c true e x p = let q : ◌≡◌ {A = LogChar} (record { code = c; printed = e }) x = cc in sym (ap (λ (z : LogChar). z.code) q)
code_of c false e x p = let z : ◌≡◌ {A = ℕ} 0 1 = cc in absurd (omega arith)

pub log_means : (s : List ℕ) (x : LogChar) → log_meant s ≡ Some x → log_chars x ≡ s
log_means [] x p = let z : ◌≡◌ {A = ℕ} 0 1 = cc in absurd (omega arith)
log_means (c ∷ []) x p = ap (λ k. k ∷ []) (code_of c (log_code c) refl x p)
log_means (c ∷ (d ∷ cs)) x p = let z : ◌≡◌ {A = ℕ} 0 1 = cc in absurd (omega arith)

-- one character that a log character has is read as it
pub read_one : (s : List ℕ) (x : LogChar) → length s ≡ 1 → x.code ≡ slice_index s 0 → Ok x ≡ read_as (log_meant s)
read_one [] x n p = absurd (omega arith)
read_one (c ∷ []) x n p = ap read_as (sym (char_of c (log_code c) refl x (sym p)))
read_one (c ∷ (d ∷ cs)) x n p = absurd (omega arith)
