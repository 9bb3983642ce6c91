-- What a move tells of the scan's state and of the end that was found. Assumes nothing.
use Rattle.std.proofs.Common.{◌≡◌, ℕ, ◌<◌, Bool, true, false, cond, eqb, Some, None, Option, refl, ap, arith}
use Rattle.std.proofs.lemmas.Bool.{eqb-true, eqb-false}
use Rattle.scan.specs.declared.step.Move.{Move}
use Rattle.scan.specs.declared.step.Move.TheVariants.{Forward, Back, Done, Spent}
use Rattle.scan.specs.Steps.{course}

-- the cases of a move, where z says whether no trial is left
abbrev chosen : Bool → Bool → ℕ → Move
chosen z last k = cond z Spent (cond last Done (Forward k))

some_left : (left : ℕ) → eqb left 0 ≡ false → 0 < left
some_left left f = let ne = eqb-false left 0 f in omega arith

forward_by : (z last : Bool) (k e : ℕ) → Forward e ≡ chosen z last k → (k ≡ e) × (z ≡ false) × (last ≡ false)
forward_by true last k e q = let x : ◌≡◌ {A = ℕ} 0 1 = cc in absurd (omega arith)
forward_by false true k e q = let x : ◌≡◌ {A = ℕ} 0 1 = cc in absurd (omega arith)
forward_by false false k e q = (cc, refl, refl)

back_by : (z last : Bool) (k : ℕ) → Back ≡ chosen z last k → ⊥
back_by true last k q = let x : ◌≡◌ {A = ℕ} 0 1 = cc in omega arith
back_by false true k q = let x : ◌≡◌ {A = ℕ} 0 1 = cc in omega arith
back_by false false k q = let x : ◌≡◌ {A = ℕ} 0 1 = cc in omega arith

done_by : (z last : Bool) (k : ℕ) → Done ≡ chosen z last k → (z ≡ false) × (last ≡ true)
done_by true last k q = let x : ◌≡◌ {A = ℕ} 0 1 = cc in absurd (omega arith)
done_by false true k q = (refl, refl)
done_by false false k q = let x : ◌≡◌ {A = ℕ} 0 1 = cc in absurd (omega arith)

spent_by : (z last : Bool) (k : ℕ) → Spent ≡ chosen z last k → z ≡ true
spent_by true last k q = refl
spent_by false true k q = let x : ◌≡◌ {A = ℕ} 0 1 = cc in absurd (omega arith)
spent_by false false k q = let x : ◌≡◌ {A = ℕ} 0 1 = cc in absurd (omega arith)

pub forward_is : (last : Bool) (left : ℕ) (r : Option ℕ) (e : ℕ) → Forward e ≡ course last left r → (r ≡ Some e) × (0 < left) × (last ≡ false)
forward_is last left None e q = let x : ◌≡◌ {A = ℕ} 0 1 = cc in absurd (omega arith)
forward_is last left (Some k) e q = let h = forward_by (eqb left 0) last k e q in (ap Some h.0, some_left left h.1, h.2)

pub back_is : (last : Bool) (left : ℕ) (r : Option ℕ) → Back ≡ course last left r → r ≡ None
back_is last left None q = refl
back_is last left (Some k) q = absurd (back_by (eqb left 0) last k q)

pub done_is : (last : Bool) (left : ℕ) (r : Option ℕ) → Done ≡ course last left r → (e : ℕ) × (r ≡ Some e) × (0 < left) × (last ≡ true)
done_is last left None q = let x : ◌≡◌ {A = ℕ} 0 1 = cc in absurd (omega arith)
done_is last left (Some k) q = let h = done_by (eqb left 0) last k q in (k, refl, some_left left h.0, h.1)

pub spent_is : (last : Bool) (left : ℕ) (r : Option ℕ) → Spent ≡ course last left r → (e : ℕ) × (r ≡ Some e) × (left ≡ 0)
spent_is last left None q = let x : ◌≡◌ {A = ℕ} 0 1 = cc in absurd (omega arith)
spent_is last left (Some k) q = (k, refl, eqb-true left 0 (spent_by (eqb left 0) last k q))
