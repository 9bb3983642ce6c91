-- What a packed store means. Assumes nothing.
use Rattle.std.specs.Prelude.{◌≡◌, ℕ, ◌+◌, ◌-◌, ◌≤◌, min, Bool, cond, ◌&&◌, List, length, Some, Ok, Err, sum, Result, nat_le, slice_index}
use Rattle.stores.specs.declared.part.Part.{Part}
use Rattle.stores.specs.declared.refusal.StoreRefusal.{StoreRefusal}
use Rattle.stores.specs.Names.{Names, nothing}
use Rattle.stores.specs.Ranges.{in_range}
use Rattle.stores.specs.Calls.{number_refusal}
use Rattle.stores.specs.Parts.{lengths, laid, Lies}
use Rattle.packed.specs.declared.PackedStore.{PackedStore}

-- the limits are in range, and all strings together within the most
unfoldable pub packs : List ℕ → ℕ → ℕ → ℕ → ℕ → Bool
packs table n l t room = in_range n l t room && nat_le (sum (lengths n l table)) t

-- n strings back to back, of at most l symbols, t in all; nothing where they do not fit
unfoldable pub in_pack : {X : Type 0} → List X → List ℕ → ℕ → ℕ → ℕ → Names X
in_pack area table n l t = cond (packs table n l t (length area)) (laid (λ m. m) area table n l t) nothing

-- what a packed store means, whatever its fields hold
abbrev pub packed_names : {X : Type 0} → PackedStore X → Names X
packed_names s = in_pack s.area.now s.lengths s.limits.names s.limits.longest s.limits.most

-- the part is the string of number k, behind the strings before it, and all lie within the most
pub record Packed {X : Type 0} (s : PackedStore X) (k : ℕ) (part : Part) : Type 0 where
  pub lies : Lies (packed_names s) s.area.now k part
  pub starts : part.start ≡ sum (lengths (k - 1) s.limits.longest s.lengths)
  pub lasts : part.length ≡ min (slice_index s.lengths (k - 1)) s.limits.longest
  pub within : part.start + part.length ≤ sum (lengths s.limits.names s.limits.longest s.lengths)
  pub full : sum (lengths s.limits.names s.limits.longest s.lengths) ≤ s.limits.most
  pub fits : s.limits.most ≤ length s.area.now
  pub some : 1 ≤ k
  pub high : k ≤ s.limits.names
  pub few : s.limits.names ≤ 64
  pub short : s.limits.longest ≤ 4096

-- where the string of number k lies, or why it has none
abbrev pub Found : {X : Type 0} → PackedStore X → ℕ → Result Part StoreRefusal → Type 0
Found s k (Ok part) = Packed s k part
Found s k (Err e) = number_refusal (packed_names s) k ≡ Some e
