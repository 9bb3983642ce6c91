-- Tokens taken one by one. Assumes nothing.
use Rattle.std.proofs.Common.{◌≡◌, ℕ, zero, suc, ◌+◌, ◌-◌, ◌<◌, ◌≤◌, Bool, true, false, cond, List, [], ◌∷◌, length, get_or, drop, Some, None, Option, sym, refl, ap, ◌∙◌, not-suc-le-zero, add-one, arith, drop-cons}
use lib.Seq.{drop-length}
use Rattle.std.proofs.lemmas.Bool.Decides.{nat_tests}
use Rattle.lines.specs.declared.reading.Reading.{Reading}
use Rattle.lines.specs.declared.role.Role.{Role}
use Rattle.lines.specs.declared.token.Token.{Token}
use Rattle.lines.specs.Marks.{mark_of}
use Rattle.lines.specs.Next.{next}
use Rattle.lines.specs.Roles.{same_role, role_number, role_of, roles_from, on_roles}
use Rattle.lines.specs.Tokens.{token, extend, runs, tokens_from}

same_self : (r : Role) → same_role r r ≡ true
same_self r = grind (arith, nat_tests)

-- one more character of the role
module _ (k : ℕ) (r : Role) (n : ℕ) where
  more_at : (t : Token) (ts : List Token) (b : Bool) → same_role r t.role ≡ b
      → extend k r n (cond b (token r (k + n) (1 + t.size) ∷ ts) (token r (k + n) 1 ∷ t ∷ ts))
      ≡ cond b (token r k ((n + 1) + t.size) ∷ ts) (token r k (n + 1) ∷ t ∷ ts)
  more_at t ts true e =
      ap (λ (b : Bool). cond b (token r k (n + (1 + t.size)) ∷ ts) (token r k n ∷ token r (k + n) (1 + t.size) ∷ ts)) (same_self r)
      ∙ ap (λ (z : ℕ). token r k z ∷ ts) (omega arith)
  more_at t ts false e =
      ap (λ (b : Bool). cond b (token r k (n + 1) ∷ t ∷ ts) (token r k n ∷ token r (k + n) 1 ∷ t ∷ ts)) (same_self r)

  extend_more : (ts : List Token) → extend k r n (extend (k + n) r 1 ts) ≡ extend k r (n + 1) ts
  extend_more [] = ap (λ (b : Bool). cond b (token r k (n + 1) ∷ []) (token r k n ∷ token r (k + n) 1 ∷ [])) (same_self r)
  extend_more (t ∷ ts) = more_at t ts (same_role r t.role) refl

  -- a character of another role
  other_at : (j : ℕ) (x : Role) → same_role r x ≡ false → (t : Token) (ts : List Token) (b : Bool)
      → extend k r n (cond b (token x j (1 + t.size) ∷ ts) (token x j 1 ∷ t ∷ ts)) ≡ token r k n ∷ cond b (token x j (1 + t.size) ∷ ts) (token x j 1 ∷ t ∷ ts)
  other_at j x e t ts true = ap (λ (b : Bool). cond b (token r k (n + (1 + t.size)) ∷ ts) (token r k n ∷ token x j (1 + t.size) ∷ ts)) e
  other_at j x e t ts false = ap (λ (b : Bool). cond b (token r k (n + 1) ∷ t ∷ ts) (token r k n ∷ token x j 1 ∷ t ∷ ts)) e

  extend_other : (j : ℕ) (x : Role) → same_role r x ≡ false → (ts : List Token) → extend k r n (extend j x 1 ts) ≡ token r k n ∷ extend j x 1 ts
  extend_other j x e [] = ap (λ (b : Bool). cond b (token r k (n + 1) ∷ []) (token r k n ∷ token x j 1 ∷ [])) e
  extend_other j x e (t ∷ ts) = other_at j x e t ts (same_role x t.role)

module _ (q : Reading) (s : List ℕ) (i : ℕ) (h : i < length s) where
  roles_at : roles_from q (drop i s) ≡ on_roles (next q (mark_of (get_or s i 0))) (λ r. role_of r ∷ roles_from r (drop (suc i) s))
  unfolding roles_from
  roles_at = ap (roles_from q) (drop-cons s i 0 h)

  pub tokens_on : (x : Reading) → next q (mark_of (get_or s i 0)) ≡ Some x
      → tokens_from q i (drop i s) ≡ extend i (role_of x) 1 (tokens_from x (i + 1) (drop (i + 1) s))
  unfolding tokens_from runs
  tokens_on x e =
      ap (runs i) (roles_at ∙ ap (λ (o : Option Reading). on_roles o (λ r. role_of r ∷ roles_from r (drop (suc i) s))) e)
      ∙ ap (λ (j : ℕ). extend i (role_of x) 1 (runs (i + 1) (roles_from x (drop j s)))) (sym (add-one i))

  pub tokens_stop : next q (mark_of (get_or s i 0)) ≡ None → tokens_from q i (drop i s) ≡ []
  unfolding tokens_from runs
  tokens_stop e = ap (runs i) (roles_at ∙ ap (λ (o : Option Reading). on_roles o (λ r. role_of r ∷ roles_from r (drop (suc i) s))) e)

pub tokens_end : (q : Reading) (s : List ℕ) (i : ℕ) → i ≡ length s → tokens_from q i (drop i s) ≡ []
unfolding tokens_from runs roles_from
tokens_end q s i e = ap (λ (j : ℕ). runs i (roles_from q (drop j s))) e ∙ ap (λ (t : List ℕ). runs i (roles_from q t)) (drop-length s)

drop_beyond : (s : List ℕ) (i : ℕ) → length s ≤ i → drop i s ≡ []
drop_beyond [] zero h = refl
drop_beyond [] (suc i) h = refl
drop_beyond (c ∷ s) zero h = absurd (not-suc-le-zero h)
drop_beyond (c ∷ s) (suc i) h = drop_beyond s i (omega arith)

pub tokens_past : (q : Reading) (s : List ℕ) (i : ℕ) → length s ≤ i → tokens_from q i (drop i s) ≡ []
unfolding tokens_from runs roles_from
tokens_past q s i h = ap (tokens_from q i) (drop_beyond s i h)

role_at : ℕ → Role
role_at n =
    get_or (Role.Between ∷ Role.Label ∷ Role.Start ∷ Role.Reference ∷ Role.Element ∷ Role.LiteralElement ∷ Role.Star ∷ Role.Variable ∷ Role.Group ∷ Role.Length ∷ Role.Equal ∷ Role.Operand ∷ Role.LiteralOperand ∷ Role.Both ∷ Role.OnS ∷ Role.OnF ∷ []) n Role.Between

role_back : (r : Role) → role_at (role_number r) ≡ r
unfolding role_at
role_back Role.Between = refl
role_back Role.Label = refl
role_back Role.Start = refl
role_back Role.Reference = refl
role_back Role.Element = refl
role_back Role.LiteralElement = refl
role_back Role.Star = refl
role_back Role.Variable = refl
role_back Role.Group = refl
role_back Role.Length = refl
role_back Role.Equal = refl
role_back Role.Operand = refl
role_back Role.LiteralOperand = refl
role_back Role.Both = refl
role_back Role.OnS = refl
role_back Role.OnF = refl

pub same_roles : (a b : Role) → same_role a b ≡ true → a ≡ b
same_roles a b e =
    let n : role_number a ≡ role_number b = grind (arith, nat_tests) in
    sym (role_back a) ∙ ap role_at n ∙ role_back b

same_swap : (a b : Role) → same_role a b ≡ false → same_role b a ≡ false
same_swap a b e = grind (arith, nat_tests)

-- the loop that takes a token from k, of role r, and has come to e
module _ (s : List ℕ) (k e : ℕ) (r : Role) (q : Reading) (ts : List Token) (up : k < e)
    (inv : ts ≡ extend k r (e - k) (tokens_from q e (drop e s))) where
  pub take_more : e < length s → (x : Reading) → next q (mark_of (get_or s e 0)) ≡ Some x → same_role (role_of x) r ≡ true
      → ts ≡ extend k r ((e + 1) - k) (tokens_from x (e + 1) (drop (e + 1) s))
  take_more h x p same =
      let rest : List Token = tokens_from x (e + 1) (drop (e + 1) s) in
      inv
      ∙ ap (extend k r (e - k)) (tokens_on q s e h x p ∙ ap (λ (y : Role). extend e y 1 rest) (same_roles (role_of x) r same))
      ∙ ap (λ (j : ℕ). extend k r (e - k) (extend j r 1 rest)) (omega arith)
      ∙ extend_more k r (e - k) rest
      ∙ ap (λ (n : ℕ). extend k r n rest) (omega arith)

  pub take_other : e < length s → (x : Reading) → next q (mark_of (get_or s e 0)) ≡ Some x → same_role (role_of x) r ≡ false
      → ts ≡ token r k (e - k) ∷ tokens_from q e (drop e s)
  take_other h x p other =
      let rest : List Token = tokens_from x (e + 1) (drop (e + 1) s) in
      let here = tokens_on q s e h x p in
      inv ∙ ap (extend k r (e - k)) here ∙ extend_other k r (e - k) e (role_of x) (same_swap (role_of x) r other) rest
      ∙ ap (λ (us : List Token). token r k (e - k) ∷ us) (sym here)

  pub take_last : tokens_from q e (drop e s) ≡ [] → ts ≡ token r k (e - k) ∷ tokens_from q e (drop e s)
  take_last none = inv ∙ ap (extend k r (e - k)) none ∙ ap (λ (us : List Token). token r k (e - k) ∷ us) (sym none)
