-- What `map_err` says of the result that it was given. Assumes nothing.
use Rattle.std.proofs.Common.{◌≡◌, ℕ, Ok, Err, Result, subst, refl, ap, arith}
use Rattle.std.specs.Result.{MatchResult, IsErrAnd}

module _ {T E D : Type 0} where
  pub mapped_ok : (r : Result T E) (m : Result T D) (P : E → D → Type 0) → MatchResult r (λ x. m ≡ Ok x) (λ e. IsErrAnd m (P e)) → (x : T) → m ≡ Ok x → r ≡ Ok x
  mapped_ok (Ok y) m P h x e = ap (λ (z : T). Ok z) (let q : y ≡ x = cc in q)
  mapped_ok (Err y) (Ok z) P h x e = absurd h
  mapped_ok (Err y) (Err z) P h x e = absurd (let q : ◌≡◌ {A = ℕ} 0 1 = cc in omega arith)

  pub mapped_err : (r : Result T E) (m : Result T D) (P : E → D → Type 0) → MatchResult r (λ x. m ≡ Ok x) (λ e. IsErrAnd m (P e)) → (f : D) → m ≡ Err f
      → (e : E) × (r ≡ Err e) × P e f
  mapped_err (Ok y) m P h f e = absurd (let q : ◌≡◌ {A = ℕ} 0 1 = cc in omega arith)
  mapped_err (Err y) (Ok z) P h f e = absurd h
  mapped_err (Err y) (Err z) P h f e = (y, refl, subst (P y) (let q : z ≡ f = cc in q) h)
