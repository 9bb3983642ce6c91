-- The law of tokens. Assumes nothing.
use Rattle.std.proofs.Common.{◌≡◌, ℕ, suc, ◌+◌, ◌<◌, Bool, true, false, cond, List, [], ◌∷◌, ◌++◌, length, replicate, Some, None, Option, sym, refl, ap, ◌∙◌, subst, add_assoc, one-add, arith}
use Rattle.lines.specs.declared.reading.Reading.{Reading}
use Rattle.lines.specs.declared.role.Role.{Role}
use Rattle.lines.specs.declared.token.Token.{Token}
use Rattle.lines.specs.Marks.{mark_of}
use Rattle.lines.specs.Languages.{Lang, In}
use Rattle.lines.specs.After.{holds_null, after_all}
use Rattle.lines.specs.Grammar.{Character, tinted, line}
use Rattle.lines.specs.Next.{beginning, next}
use Rattle.lines.specs.Roles.{same_role, role_of, roles, roles_from, on_roles}
use Rattle.lines.specs.Tokens.{token, extend, runs, tokens, tokens_from, spread, Abut}
use Rattle.lines.specs.Lines.{characters, longest, StatementLine, Tokenized}
use Rattle.lines.proofs.Samples.{tinted_follow}
use Rattle.lines.proofs.Tints.{tinted_step, tinted_stands}
use Rattle.lines.proofs.Walk.{walk, onward, onto, lands, whole_in, statement_in, statement_lands, longest_walk}
use Rattle.lines.proofs.Runs.{same_roles}

-- each character has the role that its item gives it
tint_on : (q : Reading) (c : ℕ) (s : List ℕ)
    → ((r : Reading) → lands r s ≡ true → holds_null (after_all (characters s (roles_from r s)) (tinted_follow r)) ≡ true)
    → (o : Option Reading) → next q (mark_of c) ≡ o → onto o (λ r. lands r s) ≡ true
    → holds_null (after_all (characters (c ∷ s) (on_roles o (λ r. role_of r ∷ roles_from r s))) (tinted_follow q)) ≡ true
unfolding after_all
tint_on q c s ih None e h = absurd (let z : ◌≡◌ {A = ℕ} 0 1 = cc in omega arith)
tint_on q c s ih (Some r) e h =
    ap (λ (a : Lang Character). holds_null (after_all (characters s (roles_from r s)) a)) (tinted_step q r (mark_of c) e) ∙ ih r h

tint_lands : (q : Reading) (s : List ℕ) → lands q s ≡ true → holds_null (after_all (characters s (roles_from q s)) (tinted_follow q)) ≡ true
unfolding lands roles_from after_all
tint_lands q [] h = tinted_stands q ∙ h
tint_lands q (c ∷ s) h = tint_on q c s (λ r. tint_lands r s) (next q (mark_of c)) refl h

items : (s : List ℕ) → StatementLine s → In (line tinted) (characters s (roles s))
unfolding tinted_follow after_all
items s h =
    (whole_in (characters s (roles s)) (line tinted)).1 (tint_lands beginning s (sym (statement_lands s) ∙ (statement_in s).0 h))

-- tokens lie one after the other
extend_abut : (k : ℕ) (r : Role) (n e : ℕ) (ts : List Token) → 0 < n → Abut (k + n) ts e → Abut k (extend k r n ts) e
extend_abut k r n e [] p h = (refl, p, h)
extend_abut k r n e (t ∷ ts) p h = go (same_role r t.role)
  where
    go : (b : Bool) → Abut k (cond b (token r k (n + t.size) ∷ ts) (token r k n ∷ t ∷ ts)) e
    go true = (refl, omega arith, subst (λ (j : ℕ). Abut j ts e) (add_assoc k n t.size) h.2)
    go false = (refl, p, h)

runs_abut : (k : ℕ) (rs : List Role) → Abut k (runs k rs) (k + length rs)
unfolding runs
runs_abut k [] = omega arith
runs_abut k (r ∷ rs) =
    extend_abut k r 1 (k + length (r ∷ rs)) (runs (k + 1) rs) (omega arith)
    (subst (λ (j : ℕ). Abut (k + 1) (runs (k + 1) rs) j) (omega arith) (runs_abut (k + 1) rs))

length_on : (o : Option Reading) (s : List ℕ) → ((r : Reading) → length (roles_from r s) ≡ walk r s)
    → length (on_roles o (λ r. role_of r ∷ roles_from r s)) ≡ onward o (λ r. suc (walk r s))
length_on None s ih = refl
length_on (Some r) s ih = ap suc (ih r)

length_roles : (q : Reading) (s : List ℕ) → length (roles_from q s) ≡ walk q s
unfolding roles_from walk
length_roles q [] = refl
length_roles q (c ∷ s) = length_on (next q (mark_of c)) s (λ r. length_roles r s)

abut : (s : List ℕ) → Abut 0 (tokens s) (longest s)
unfolding tokens_from
abut s =
    subst (λ (n : ℕ). Abut 0 (tokens s) n) (omega (arith, length_roles beginning s, longest_walk s)) (runs_abut 0 (roles s))

-- tokens are the parts of one role
spread_extend : (k : ℕ) (r : Role) (ts : List Token) → spread (extend k r 1 ts) ≡ r ∷ spread ts
spread_extend k r [] = refl
spread_extend k r (t ∷ ts) = go (same_role r t.role) refl
  where
    go : (b : Bool) → same_role r t.role ≡ b
        → spread (cond b (token r k (1 + t.size) ∷ ts) (token r k 1 ∷ t ∷ ts)) ≡ r ∷ spread (t ∷ ts)
    go true e =
        ap (λ (n : ℕ). replicate n r ++ spread ts) (one-add t.size)
        ∙ ap (λ (x : Role). r ∷ (replicate t.size x ++ spread ts)) (same_roles r t.role e)
    go false e = refl

parts_from : (k : ℕ) (rs : List Role) → spread (runs k rs) ≡ rs
unfolding runs
parts_from k [] = refl
parts_from k (r ∷ rs) = spread_extend k r (runs (k + 1) rs) ∙ ap (λ (x : List Role). r ∷ x) (parts_from (k + 1) rs)

parts : (s : List ℕ) → spread (tokens s) ≡ roles s
unfolding tokens_from
parts s = parts_from 0 (roles s)

pub tokenized : (s : List ℕ) → Tokenized s
tokenized s = record { abut = abut s; parts = parts s; items = items s }
