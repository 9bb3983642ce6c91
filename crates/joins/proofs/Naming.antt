-- The names once the variables took their parts: what is fetched of them fits. Assumes nothing.
use Rattle.std.proofs.Common.{◌≡◌, ℕ, ◌-◌, ◌≤◌, Bool, true, false, cond, eqb, List, [], ◌∷◌, length, drop, Some, None, refl, ap, ◌∙◌, arith}
use Rattle.std.proofs.lemmas.List.{length-take, length-drop}
use Rattle.std.specs.List.{AllByRecursion}
use Rattle.placings.specs.Pattern.{part}
use Rattle.stores.specs.Names.{Names, Bounded, under}
use Rattle.stores.specs.Puts.{put_or}
use Rattle.stores.proofs.Puts.{under_with}
use Rattle.tables.specs.declared.row.Item.{Item}
use Rattle.tables.specs.declared.row.Item.TheVariants.{Operand, Variable}
use Rattle.changes.specs.Success.{Success, Numbered, Sound}
use Rattle.changes.specs.Written.{takes, named, renewed, written}
use Rattle.changes.proofs.Written.{named_length}

module _ {X : Type 0} where
  takes_short : (i : Item) (s : List X) (names : Names X) (room j : ℕ) → Numbered (length names.strings) i → length s ≤ room → length (under names j) ≤ room → length (under (takes i s names) j) ≤ room
  takes_short (Operand o) s names room j inn p h = h
  takes_short (Variable v) s names room j inn p h = rw (under_with names v.name j s inn.low inn.high) (go (eqb v.name j))
    where
      go : (b : Bool) → length (put_or (cond b (Some s) None) (under names j)) ≤ room
      go true = p
      go false = h

  part_short : (s : List X) (a b room : ℕ) → length s ≤ room → length (part s a b) ≤ room
  part_short s a b room h = omega (arith, length-take (b - a) (drop a s), length-drop a s)

  named_short : (subject : List X) (start : ℕ) (is : List Item) (es : List ℕ) (names : Names X) (n room k : ℕ) → length names.strings ≡ n → AllByRecursion (Numbered n) is → length subject ≤ room → ((j : ℕ) → length (under names j) ≤ room)
      → length (under (named subject start is es names) k) ≤ room
  unfolding named
  named_short subject start [] es names n room k len all h each = each k
  named_short subject start (i ∷ is) [] names n room k len all h each = each k
  named_short subject start (i ∷ is) (e ∷ es) names n room k len all h each =
      named_short subject e is es (takes i (part subject start e) names) n room k (named_length subject start (i ∷ []) (e ∷ []) names ∙ len) all.1 h (λ j. takes_short i (part subject start e) names room j (rw len all.0) (part_short subject start e room h) (each j))

module _ {X : Type 0} (success : Success X) (names : Names X) where
  -- where the string reference is left as it is, the names after the success are those after the naming
  pub after_named : success.reference ≡ None → written success names ≡ named success.subject success.start success.items success.ends names
  after_named e = ap (λ r. renewed r success.contents (named success.subject success.start success.items success.ends names)) e

  -- every string then has room
  pub after_short : (room : ℕ) → Sound names success → success.reference ≡ None → names.longest ≤ room → length success.subject ≤ room → Bounded names → (k : ℕ) → length (under (written success names) k) ≤ room
  after_short room sound unwritten longest short bounded k =
      rw (after_named unwritten)
      (named_short success.subject success.start success.items success.ends names (length names.strings) room k refl sound.variables short
      (λ j. let each = bounded.each j in omega (arith, longest)))
