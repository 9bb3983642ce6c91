-- The fault that counts among several lists of faults. Assumes nothing.
use Rattle.std.proofs.Common.{◌≡◌, ℕ, Bool, true, false, cond, List, [], ◌∷◌, ◌++◌, Some, None, Option, sym, refl, ap, ◌∙◌, subst, inl, inr, arith}
use mathlib.Core.List.Memᴰ
use mathlib.Core.List.{Memᴰ}
use Rattle.std.proofs.lemmas.Bool.Decides.{nat_tests}
use Rattle.sheets.specs.declared.fault.Fault.{Fault}
use Rattle.sheets.specs.Faults.{before, least, first, Counts}

before_trans : (f g h : Fault) → before h g ≡ true → before g f ≡ true → before h f ≡ true
before_trans f g h p q = grind (arith, nat_tests)

before_not : (f g h : Fault) → before h g ≡ false → before g f ≡ false → before h f ≡ false
before_not f g h p q = grind (arith, nat_tests)

before_self : (f : Fault) → before f f ≡ false
before_self f = grind (arith, nat_tests)

module _ (f g h : Fault) where
  regroup_at : (x y : Bool) → before g f ≡ x → before h g ≡ y
      → least (cond x (Some g) (Some f)) (Some h) ≡ least (Some f) (cond y (Some h) (Some g))
  regroup_at true true p q = rw (before_trans f g h q p, q)
  regroup_at true false p q = rw (p, q)
  regroup_at false true p q = refl
  regroup_at false false p q = rw (before_not f g h q p, p)

pub regroup : (a b c : Option Fault) → least (least a b) c ≡ least a (least b c)
regroup None b c = refl
regroup (Some f) None c = refl
regroup (Some f) (Some g) None = elim (before g f) as (λ x. least (cond x (Some g) (Some f)) None ≡ cond x (Some g) (Some f)) [ true ↦ refl | false ↦ refl ]
regroup (Some f) (Some g) (Some h) = regroup_at f g h (before g f) (before h g) refl refl

pub least_none : (a : Option Fault) → least a None ≡ a
least_none None = refl
least_none (Some f) = refl

-- the first of two lists together
pub first_append : (a b : List Fault) → first (a ++ b) ≡ least (first a) (first b)
first_append [] b = refl
first_append (f ∷ a) b = ap (least (Some f)) (first_append a b) ∙ sym (regroup (Some f) (first a) (first b))

-- no fault of the list is before f
abbrev pub Ahead : Fault → List Fault → Type 0
Ahead f [] = Unit {0}
Ahead f (g ∷ gs) = (before g f ≡ false) × Ahead f gs

ahead_least : (f : Fault) (gs : List Fault) → Ahead f gs → least (Some f) (first gs) ≡ Some f
ahead_least f [] a = refl
ahead_least f (g ∷ gs) a =
    sym (regroup (Some f) (Some g) (first gs))
    ∙ ap (λ (b : Bool). least (cond b (Some g) (Some f)) (first gs)) a.0 ∙ ahead_least f gs a.1

-- a reader that goes left to right may stop at its first fault
pub first_ahead : (f : Fault) (gs : List Fault) → Ahead f gs → first (f ∷ gs) ≡ Some f
first_ahead f gs a = ahead_least f gs a

-- what `first` gives is one of the faults, and none is before it
true_not_false : (b : Bool) → b ≡ true → b ≡ false → ⊥
true_not_false b e f = let z : ◌≡◌ {A = ℕ} 0 1 = cc in omega arith

module _ (f : Fault) (fs : List Fault) where
  counts_at : (o : Option Fault) → Counts fs o → Counts (f ∷ fs) (least (Some f) o)
  counts_at None e = (
    Memᴰ.head refl,
    λ g m p. elim (Memᴰ.cases_cons m) [
      | inl x ↦ true_not_false (before f f) (ap (λ (k : Fault). before k f) (sym x) ∙ p) (before_self f)
      | inr x ↦ nothing (subst (Memᴰ g) e x)
    ],
  )
    where
      nothing : {g : Fault} → Memᴰ g [] → ⊥
      nothing x = elim x [ ]
  counts_at (Some g) k = go (before g f) refl
    where
      go : (x : Bool) → before g f ≡ x → Counts (f ∷ fs) (cond x (Some g) (Some f))
      go true e = (
        Memᴰ.tail k.0,
        λ h m p. elim (Memᴰ.cases_cons m) [
          | inl y ↦ true_not_false (before g g) (before_trans g f g e (ap (λ (z : Fault). before z g) (sym y) ∙ p)) (before_self g)
          | inr y ↦ k.1 h y p
        ],
      )
      go false e = (
        Memᴰ.head refl,
        λ h m p. elim (Memᴰ.cases_cons m) [
          | inl y ↦ true_not_false (before f f) (ap (λ (z : Fault). before z f) (sym y) ∙ p) (before_self f)
          | inr y ↦ true_not_false (before h f) p (before_not f g h (no_before h y) e)
        ],
      )
        where
          to_false : (b : Bool) → (b ≡ true → ⊥) → b ≡ false
          to_false true n = absurd (n refl)
          to_false false n = refl

          no_before : (h : Fault) → Memᴰ h fs → before h g ≡ false
          no_before h y = to_false (before h g) (λ p. k.1 h y p)

pub counts : (fs : List Fault) → Counts fs (first fs)
counts [] = refl
counts (f ∷ fs) = counts_at f fs (first fs) (counts fs)
