-- The tokens of a line: its longest parts of one role. Assumes nothing.
use Rattle.std.specs.Prelude.{◌≡◌, ℕ, ◌+◌, ◌<◌, ◌≤◌, cond, List, [], ◌∷◌, ◌++◌, length, drop, replicate, Some, None, Option}
use Rattle.lines.specs.declared.reading.Reading.{Reading}
use Rattle.lines.specs.declared.role.Role.{Role}
use Rattle.lines.specs.declared.token.Token.{Token}
use Rattle.lines.specs.declared.token.Taken.{Taken}
use Rattle.lines.specs.Next.{beginning}
use Rattle.lines.specs.Roles.{same_role, roles_from}

abbrev pub token : Role → ℕ → ℕ → Token
token r k n = record { role = r; start = k; size = n }

-- n characters of role r at k, joined to what follows
abbrev pub extend : ℕ → Role → ℕ → List Token → List Token
extend k r n [] = token r k n ∷ []
extend k r n (t ∷ ts) = cond (same_role r t.role) (token r k (n + t.size) ∷ ts) (token r k n ∷ t ∷ ts)

-- the longest parts of one role; the first character is at k
unfoldable pub runs : ℕ → List Role → List Token
runs k [] = []
runs k (r ∷ rs) = extend k r 1 (runs (k + 1) rs)

-- the tokens from k on, where the line is read as q
unfoldable pub tokens_from : Reading → ℕ → List ℕ → List Token
tokens_from q k s = runs k (roles_from q s)

-- the tokens of a line
abbrev pub tokens : List ℕ → List Token
tokens s = tokens_from beginning 0 s

-- what one token leaves of a line that is read up to k as q
pub record Took (s : List ℕ) (k : ℕ) (q : Reading) (t : Taken) : Type 0 where
  pub start : t.token.start ≡ k
  pub some : 0 < t.token.size
  pub within : k + t.token.size ≤ length s
  pub rest : tokens_from q k (drop k s) ≡ t.token ∷ tokens_from t.reading (k + t.token.size) (drop (k + t.token.size) s)

-- the next token, absent just if there is none
abbrev pub Next : List ℕ → ℕ → Reading → Option Taken → Type 0
Next s k q None = tokens_from q k (drop k s) ≡ []
Next s k q (Some t) = Took s k q t

-- the roles that tokens give back, character by character
abbrev pub spread : List Token → List Role
spread [] = []
spread (t ∷ ts) = replicate t.size t.role ++ spread ts

-- tokens from k to e, each beginning where the one before ended
abbrev pub Abut : ℕ → List Token → ℕ → Type 0
Abut k [] e = k ≡ e
Abut k (t ∷ ts) e = (t.start ≡ k) × (0 < t.size) × Abut (k + t.size) ts e
