-- What the ranges say, and names within their limits. Assumes nothing.
use Rattle.std.proofs.Common.{◌≡◌, ℕ, zero, suc, ◌*◌, ◌≤◌, Bool, true, false, cond, ◌&&◌, leb, List, [], ◌∷◌, length, get_or, refl, ◌∙◌, suc-mul, arith}
use Rattle.std.proofs.lemmas.Bool.{and_parts, leb-true}
use Rattle.stores.specs.Names.{Names, Bounded, nothing, size, under}
use Rattle.stores.specs.Ranges.{in_range}
use Rattle.stores.specs.Parts.{lengths, parts, laid}
use Rattle.stores.proofs.Parts.{length_lengths, lengths_le, length_parts, parts_short}

pub record InRange (n l t room : ℕ) : Type 0 where
  pub some : 1 ≤ n
  pub few : n ≤ 64
  pub wide : 1 ≤ l
  pub short : l ≤ 4096
  pub large : 1 ≤ t
  pub small : t ≤ 65536
  pub lies : t ≤ room

pub range_parts : (n l t room : ℕ) → in_range n l t room ≡ true → InRange n l t room
unfolding in_range
range_parts n l t room e =
    let a = and_parts (leb 1 n && leb n 64) ((leb 1 l && leb l 4096) && ((leb 1 t && leb t 65536) && leb t room)) e in
    let b = and_parts (leb 1 l && leb l 4096) ((leb 1 t && leb t 65536) && leb t room) a.1 in
    let c = and_parts (leb 1 t && leb t 65536) (leb t room) b.1 in
    let d = and_parts (leb 1 n) (leb n 64) a.0 in
    let f = and_parts (leb 1 l) (leb l 4096) b.0 in
    let h = and_parts (leb 1 t) (leb t 65536) c.0 in
    record { some = leb-true 1 n d.0; few = leb-true n 64 d.1; wide = leb-true 1 l f.0; short = leb-true l 4096 f.1; large = leb-true 1 t h.0; small = leb-true t 65536 h.1; lies = leb-true t room c.1 }

pub size_le : {X : Type 0} (w : ℕ) (xs : List (List X)) → ((k : ℕ) → length (get_or xs k []) ≤ w) → size xs ≤ length xs * w
size_le w [] h = omega arith
size_le w (x ∷ xs) h = let a = h 0 in omega (arith, size_le w xs (λ k. h (suc k)), suc-mul (length xs) w)

under_short : {X : Type 0} (names : Names X) (l : ℕ) → ((k : ℕ) → length (get_or names.strings k []) ≤ l) → (k : ℕ) → length (under names k) ≤ l
unfolding under
under_short names l h zero = omega arith
under_short names l h (suc k) = h k

nothing_bounded : {X : Type 0} → Bounded (nothing {X = X})
nothing_bounded = record { few = omega arith; short = omega arith; small = omega arith; each = under_short nothing 0 (λ k. omega arith); total = omega arith; made = λ h. absurd (omega arith); unmade = λ h. (refl, refl) }

-- names that lie in an area are within limits in range where all together are within the most
pub laid_bounded : {X : Type 0} (width : ℕ → ℕ) (area : List X) (table : List ℕ) (n l t room : ℕ) → InRange n l t room → size (parts width (lengths n l table) area) ≤ t → Bounded (laid width area table n l t)
laid_bounded width area table n l t room r total =
    let some = r.some in
    let many = length_parts width (lengths n l table) area ∙ length_lengths n l table in
    record { few = omega (arith, r.few, many); short = r.short; small = r.small; each = under_short (laid width area table n l t) l (parts_short width l (lengths n l table) area (lengths_le n l table)); total = total; made = λ h. (r.wide, r.large); unmade = λ h. absurd (omega (arith, many)) }

-- names that are shown only under a test
pub shown_bounded : {X : Type 0} (b : Bool) (names : Names X) → (b ≡ true → Bounded names) → Bounded (cond b names nothing)
shown_bounded true names h = h refl
shown_bounded false names h = nothing_bounded
