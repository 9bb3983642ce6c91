-- Both passes together: none of their puts is refused, and they leave what a success writes. Assumes nothing.
use Rattle.std.proofs.Common.{◌≡◌, ℕ, suc, ◌<◌, ◌≤◌, false, List, [], map, length, get_or, take, Some, None, Option, sym, refl, ap, ◌∙◌, subst, arith}
use Rattle.std.proofs.lemmas.List.{ext_get_or}
use Rattle.std.specs.Option.{option_map}
use Rattle.stores.specs.Names.{Names, size, under}
use Rattle.stores.specs.Puts.{put_or}
use Rattle.changes.specs.Success.{Success, Sound}
use Rattle.changes.specs.Sources.{new_string}
use Rattle.changes.specs.Limits.{over_limits}
use Rattle.changes.specs.Passes.{listed, new_strings, replaced, with_strings, after_pass, Short, Passable}
use Rattle.changes.specs.Written.{written}
use Rattle.changes.proofs.Limits.{limit_each, limit_all}
use Rattle.changes.proofs.Passes.{listed_one, length_listed, listed_map, null, length_replaced, replaced_at, size_cleared, size_filled, replaced_twice}
use Rattle.changes.proofs.Written.{written_length, written_limits, one_source}

short_or : {X : Type 0} (l : ℕ) (o : Option (List X)) (old new : List X) → new ≡ put_or o old → length new ≤ l → Short l o
unfolding Short
short_or l None old new e h = tt
short_or l (Some s) old new e h = omega (arith, ap length e)

-- the null string in place of each new one, and each new one itself
abbrev pub clear : {X : Type 0} → List X → List X
clear s = []

abbrev pub fill : {X : Type 0} → List X → List X
fill s = s

module _ {X : Type 0} where
  cleared : (o : Option (List X)) → option_map clear o ≡ null o
  unfolding null
  cleared None = refl
  cleared (Some s) = refl

  filled : (o : Option (List X)) → option_map fill o ≡ o
  filled None = refl
  filled (Some s) = refl

  short_null : (l : ℕ) (o : Option (List X)) → Short l (option_map clear o)
  unfolding Short
  short_null l None = tt
  short_null l (Some s) = omega arith

module _ {X : Type 0} (success : Success X) (names : Names X) where
  -- the new strings of n names
  all_new : ℕ → List (Option (List X))
  all_new n = listed (new_string success) 1 n

  news_null : (n : ℕ) → new_strings clear success n ≡ map null (all_new n)
  unfolding all_new
  news_null n = (λ i. listed (λ k. cleared (new_string success k) i) 1 n) ∙ listed_map null (new_string success) 1 n

  news_fill : (n : ℕ) → new_strings fill success n ≡ all_new n
  unfolding all_new
  news_fill n = λ i. listed (λ k. filled (new_string success k) i) 1 n

  -- the null strings can be put
  pub passable_clear : size names.strings ≤ names.most → Passable names (new_strings clear success (length names.strings))
  passable_clear h =
      record {
        short = λ i lt. subst (Short names.longest) (sym (listed_one (λ k. option_map clear (new_string success k)) (length names.strings) i None lt)) (short_null names.longest (new_string success (suc i)));
        fits = λ i. rw (news_null (length names.strings)) (let k = size_cleared (all_new (length names.strings)) names.strings i in omega arith);
      }

  module _ (sound : Sound names success) where
    -- what a success writes, string by string
    written_strings : (written success names).strings ≡ replaced (all_new (length names.strings)) names.strings
    unfolding under all_new
    written_strings =
        let n = length names.strings in
        let f = new_string success in
        ext_get_or [] (written success names).strings (replaced (listed f 1 n) names.strings) (written_length success names ∙ sym (length_replaced (listed f 1 n) names.strings))
        (λ i lt. let lt' : i < n = omega (arith, written_length success names) in
        one_source success names sound (suc i)
        ∙ sym (replaced_at (listed f 1 n) names.strings i lt' (omega (arith, length_listed f 1 n)) ∙ ap (λ o. put_or o (get_or names.strings i [])) (listed_one f n i None lt')))

    module _ (middle : Names X) (first : middle ≡ after_pass clear success names) where
      middle_length : length middle.strings ≡ length names.strings
      middle_length = ap (λ m. length m.strings) first ∙ length_replaced (new_strings clear success (length names.strings)) names.strings

      middle_strings : middle.strings ≡ replaced (map null (all_new (length names.strings))) names.strings
      middle_strings = ap (λ m. m.strings) first ∙ ap (λ os. replaced os names.strings) (news_null (length names.strings))

      fill_short : over_limits (written success names) ≡ false → (i : ℕ) → i < length middle.strings → Short middle.longest (get_or (all_new (length middle.strings)) i None)
      unfolding under all_new
      fill_short within i lt =
          let limit = limit_each (written success names) within i in
          let same = ap (λ m. m.longest) first in
          let kept = ap (λ m. m.longest) (written_limits success names) in
          subst (Short middle.longest) (sym (listed_one (new_string success) (length middle.strings) i None lt))
          (short_or middle.longest (new_string success (suc i)) (get_or names.strings i []) (get_or (written success names).strings i []) (one_source success names sound (suc i)) (omega arith))

      -- then the new ones can be put
      pub passable_fill : over_limits (written success names) ≡ false → Passable middle (new_strings fill success (length middle.strings))
      passable_fill within =
          let os = all_new (length names.strings) in
          let most = ap (λ m. m.most) first in
          let kept = ap (λ m. m.most) (written_limits success names) in
          let all = limit_all (written success names) within in
          let e = ap size written_strings in
          record {
            short = λ i lt. rw (news_fill (length middle.strings)) (fill_short within i lt);
            fits = λ i.
                let a : size (replaced (take i (new_strings fill success (length middle.strings))) middle.strings) ≡ size (replaced (take i os) (replaced (map null os) names.strings)) = ap (λ os'. size (replaced (take i os') middle.strings)) (news_fill (length middle.strings)) ∙ (λ j. size (replaced (take i (all_new (middle_length j))) (middle_strings j))) in
                let b = size_filled os names.strings i in
                omega arith;
          }

      -- and leave what the success writes
      pub both_passes : (last : Names X) → last ≡ after_pass fill success middle → last ≡ written success names
      both_passes last second =
          let os = all_new (length names.strings) in
          second
          ∙ ap (λ os'. with_strings middle (replaced os' middle.strings)) (news_fill (length middle.strings))
          ∙ (λ j. with_strings (first j) (replaced (all_new (middle_length j)) (middle_strings j)))
          ∙ ap (with_strings names) (replaced_twice os names.strings ∙ sym written_strings)
          ∙ sym (written_limits success names)
