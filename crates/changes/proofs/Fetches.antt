-- A string that is fetched, from the store or after the writes. Assumes nothing.
use Rattle.std.proofs.Common.{◌≡◌, ℕ, Bool, true, false, cond, ◌||◌, eqb, ltb, List, length, Some, None, Err, sym, refl, ap, ◌∙◌}
use Rattle.std.specs.Result.{result_unwrap_or}
use Rattle.std.proofs.lemmas.Bool.{cond-false}
use Rattle.symbols.specs.Answers.{answered, unless, over}
use Rattle.stores.specs.declared.limits.Limits.{Limits}
use Rattle.stores.specs.declared.refusal.StoreRefusal.TheVariants.{OutOfRange}
use Rattle.stores.specs.Names.{Names, limits, under}
use Rattle.stores.specs.Calls.{outside, number_refusal, fetch_refusal, fetch_answer, after_fetch, length_answer}
use Rattle.stores.proofs.Calls.{number_outside, fetch_refused}
use Rattle.patterns.proofs.Fetched.{outside_null}
use Rattle.changes.specs.Success.{Success, Sound}
use Rattle.changes.specs.Sources.{new_string}
use Rattle.changes.specs.Limits.{room_refusal}
use Rattle.changes.specs.Written.{written}
use Rattle.changes.proofs.Written.{written_length, string_under}

-- the length that a store tells, 0 for a number that no string has
pub length_told : {X : Type 0} (names : Names X) (k : ℕ) → result_unwrap_or (length_answer names k) 0 ≡ length (under names k)
unfolding number_refusal
length_told names k = by_number (outside names k) refl
  where
    by_number : (b : Bool) → outside names k ≡ b → result_unwrap_or (answered (cond b (Some OutOfRange) None) (length (under names k))) 0 ≡ length (under names k)
    by_number true e = sym (ap length (outside_null names k e))
    by_number false e = refl

-- a number that is one of the names': only the area decides
module _ {X : Type 0} (names : Names X) (k m : ℕ) (many : m ≡ length names.strings) (ok : false ≡ (eqb k 0 || ltb m k)) (s area : List X) (is : under names k ≡ s) where
  by_room : fetch_refusal names k (length area) ≡ room_refusal (length area) s
  unfolding fetch_refusal outside room_refusal
  by_room = cond-false _ _ _ (ap (λ j. eqb k 0 || ltb j k) (sym many) ∙ sym ok) ∙ ap (room_refusal (length area)) is

  pub fetch_copies : (fetch_answer names k area ≡ answered (room_refusal (length area) s) (length s)) × (after_fetch names k area ≡ unless (room_refusal (length area) s) area (over s area))
  fetch_copies = (
    ap (λ o. answered o (length (under names k))) by_room ∙ ap (λ t. answered (room_refusal (length area) s) (length t)) is,
    ap (λ o. unless o area (over (under names k) area)) by_room ∙ ap (λ t. unless (room_refusal (length area) s) area (over t area)) is,
  )

-- what is fetched after the writes, by the source that was found
module _ {X : Type 0} (success : Success X) (names : Names X) (sound : Sound names success) (l : Limits) (limit : l ≡ limits names) (k : ℕ) (area : List X) where
  many : l.names ≡ length (written success names).strings
  many = ap (λ (j : Limits). j.names) limit ∙ sym (written_length success names)

  pub fetch_outside : true ≡ (eqb k 0 || ltb l.names k) → (Err OutOfRange ≡ fetch_answer (written success names) k area) × (area ≡ after_fetch (written success names) k area)
  fetch_outside no' =
      let is = fetch_refused (written success names) k (length area) _ (number_outside (written success names) k l.names many no') in
      (ap (λ o. answered o (length (under (written success names) k))) (sym is), ap (λ o. unless o area (over (under (written success names) k) area)) (sym is))

  pub fetch_new : false ≡ (eqb k 0 || ltb l.names k) → (s : List X) → Some s ≡ new_string success k
      → (answered (room_refusal (length area) s) (length s) ≡ fetch_answer (written success names) k area) × (unless (room_refusal (length area) s) area (over s area) ≡ after_fetch (written success names) k area)
  fetch_new ok s e =
      let f = fetch_copies (written success names) k l.names many ok s area (string_under success names sound k (Some s) e) in
      (sym f.0, sym f.1)

  -- a name that keeps its string is fetched from the store
  pub fetch_kept : false ≡ (eqb k 0 || ltb l.names k) → None ≡ new_string success k → (fetch_answer names k area ≡ fetch_answer (written success names) k area) × (after_fetch names k area ≡ after_fetch (written success names) k area)
  fetch_kept ok e =
      let f = fetch_copies names k l.names (ap (λ (j : Limits). j.names) limit) ok (under names k) area refl in
      let h = fetch_copies (written success names) k l.names many ok (under names k) area (string_under success names sound k None e) in
      (f.0 ∙ sym h.0, f.1 ∙ sym h.1)
