-- What it is for a pattern to be placed in a subject, which placing is the first, and what a scan tries. Assumes nothing.
use Rattle.std.specs.Prelude.{◌≡◌, ℕ, suc, ◌<◌, ◌≤◌, ◌⊎◌, List, length, slice_index, slice_index_or}
use Rattle.symbols.specs.declared.role.Role.{Role}
use Rattle.placings.specs.declared.mode.Mode.{Mode}
use Rattle.placings.specs.declared.mode.Mode.TheVariants.{Anchored}
use Rattle.placings.specs.Pattern.{Element, arbitrary, Suits}
use Rattle.placings.specs.Order.{Before}

-- a partial placing: a start and the ends of the first so many elements, never falling, all within the subject, and each part suits its element; an anchored one starts at 0
pub record Partial {A : Type 0} (role : A → Role) (mode : Mode) (s : List A) (pattern : List (Element A)) (places : List ℕ) : Type 0 where
  pub some : 0 < length places
  pub few : length places ≤ suc (length pattern)
  pub within : (i : ℕ) → i < length places → slice_index places i ≤ length s
  pub start : mode ≡ Anchored → slice_index places 0 ≡ 0
  pub rising : (i : ℕ) → suc i < length places → slice_index places i ≤ slice_index places (suc i)
  pub suits : (i : ℕ) → suc i < length places → Suits role s (length pattern) places i (slice_index places (suc i)) (slice_index_or pattern i arbitrary)

-- a placing: a partial placing of all elements
pub record Placing {A : Type 0} (role : A → Role) (mode : Mode) (s : List A) (pattern : List (Element A)) (places : List ℕ) : Type 0 where
  pub partially : Partial role mode s pattern places
  pub whole : length places ≡ suc (length pattern)

-- there is no placing
abbrev pub Unplaced : {A : Type 0} → (A → Role) → Mode → List A → List (Element A) → Type 0
Unplaced role mode s pattern = (places : List ℕ) → Placing role mode s pattern places → ⊥

-- the first placing: every other placing comes after it
pub record Earliest {A : Type 0} (role : A → Role) (mode : Mode) (s : List A) (pattern : List (Element A)) (places : List ℕ) : Type 0 where
  pub placed : Placing role mode s pattern places
  pub others : (q : List ℕ) → Placing role mode s pattern q → (q ≡ places) ⊎ Before places q

-- a partial placing up to and with p
pub record UpTo {A : Type 0} (role : A → Role) (mode : Mode) (s : List A) (pattern : List (Element A)) (p places : List ℕ) : Type 0 where
  pub partially : Partial role mode s pattern places
  pub reached : (places ≡ p) ⊎ Before places p

-- a trial of the scan: a partial placing that comes after no placing
pub record Trial {A : Type 0} (role : A → Role) (mode : Mode) (s : List A) (pattern : List (Element A)) (places : List ℕ) : Type 0 where
  pub partially : Partial role mode s pattern places
  pub ahead : (p : List ℕ) → Placing role mode s pattern p → Before p places → ⊥
