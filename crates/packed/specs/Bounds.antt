-- Every packed store is within its limits. Assumes nothing.
use Rattle.std.specs.Prelude.{◌≡◌, ℕ, ◌≤◌, true, List, [], ◌∷◌, length, drop, sum, nat_le}
use Rattle.std.proofs.Common.{arith}
use Rattle.std.proofs.lemmas.List.{length-take}
use Rattle.std.proofs.lemmas.List.Sums.{sum_by-cons}
use Rattle.std.proofs.lemmas.Bool.{and_parts, leb-true}
use Rattle.stores.specs.Names.{Bounded, size}
use Rattle.stores.specs.Ranges.{in_range}
use Rattle.stores.specs.Parts.{lengths, parts, laid}
use Rattle.stores.proofs.Bounds.{InRange, range_parts, laid_bounded, shown_bounded}
use Rattle.packed.specs.declared.PackedStore.{PackedStore}
use Rattle.packed.specs.Packs.{packs, in_pack, packed_names}

size_le : {X : Type 0} (ns : List ℕ) (area : List X) → size (parts (λ m. m) ns area) ≤ sum ns
size_le [] area = omega arith
size_le (n ∷ ns) area = omega (arith, length-take n area, size_le ns (drop n area), sum_by-cons (λ m. m) n ns)

pub packs_parts : (table : List ℕ) (n l t room : ℕ) → packs table n l t room ≡ true → InRange n l t room × (sum (lengths n l table) ≤ t)
unfolding packs
packs_parts table n l t room e =
    let a = and_parts (in_range n l t room) (nat_le (sum (lengths n l table)) t) e in
    (range_parts n l t room a.0, leb-true (sum (lengths n l table)) t a.1)

pack_bounded : {X : Type 0} (area : List X) (table : List ℕ) (n l t : ℕ) → Bounded (in_pack area table n l t)
unfolding in_pack
pack_bounded area table n l t = shown_bounded (packs table n l t (length area)) (laid (λ m. m) area table n l t) (λ e.
    let p = packs_parts table n l t (length area) e in
    let full = p.1 in
    laid_bounded (λ m. m) area table n l t (length area) p.0 (omega (arith, size_le (lengths n l table) area)))

pub packed_bounds : {X : Type 0} (s : PackedStore X) → Bounded (packed_names s)
packed_bounds s = pack_bounded s.area.now s.lengths s.limits.names s.limits.longest s.limits.most
