-- What each name has after a success: the string of its one source. Assumes nothing.
use Rattle.std.proofs.Common.{◌≡◌, ℕ, ◌-◌, Bool, true, false, cond, eqb, List, [], ◌∷◌, length, Some, None, Option, sym, refl, ap, ◌∙◌, arith}
use Rattle.std.proofs.lemmas.List.{length-set}
use Rattle.std.specs.Bool.{then_some}
use Rattle.std.specs.List.{AllByRecursion}
use Rattle.std.specs.Option.{option_or}
use Rattle.placings.specs.Pattern.{part}
use Rattle.stores.specs.Names.{Names, under, with_string}
use Rattle.stores.specs.Puts.{put_or}
use Rattle.stores.proofs.Puts.{under_with}
use Rattle.tables.specs.declared.row.Item.{Item}
use Rattle.tables.specs.declared.row.Item.TheVariants.{Operand, Variable}
use Rattle.changes.specs.Success.{Success, Numbered, Referred, Sound}
use Rattle.tables.specs.Rows.{is_variable}
use Rattle.changes.specs.Sources.{last_part, is_reference, new_string, OneSource}
use Rattle.changes.specs.Passes.{with_strings}
use Rattle.changes.specs.Written.{takes, named, renewed, written}

module _ {X : Type 0} where
  takes_length : (item : Item) (s : List X) (names : Names X) → length (takes item s names).strings ≡ length names.strings
  unfolding with_string
  takes_length (Operand o) s names = refl
  takes_length (Variable v) s names = length-set names.strings (v.name - 1) s

  takes_limits : (item : Item) (s : List X) (names : Names X) (ss : List (List X)) → with_strings (takes item s names) ss ≡ with_strings names ss
  unfolding with_string
  takes_limits (Operand o) s names ss = refl
  takes_limits (Variable v) s names ss = refl

  pub named_length : (subject : List X) (start : ℕ) (is : List Item) (es : List ℕ) (names : Names X) → length (named subject start is es names).strings ≡ length names.strings
  unfolding named
  named_length subject start [] es names = refl
  named_length subject start (i ∷ is) [] names = refl
  named_length subject start (i ∷ is) (e ∷ es) names = named_length subject e is es _ ∙ takes_length i (part subject start e) names

  named_limits : (subject : List X) (start : ℕ) (is : List Item) (es : List ℕ) (names : Names X) → named subject start is es names ≡ with_strings names (named subject start is es names).strings
  unfolding named
  named_limits subject start [] es names = refl
  named_limits subject start (i ∷ is) [] names = refl
  named_limits subject start (i ∷ is) (e ∷ es) names = named_limits subject e is es _ ∙ takes_limits i (part subject start e) names (named subject e is es (takes i (part subject start e) names)).strings

module _ {X : Type 0} (subject : List X) where
  put_some : (b : Bool) (s old : List X) → put_or (cond b (Some s) None) old ≡ put_or (then_some b s) old
  put_some true s old = refl
  put_some false s old = refl

  takes_under : (item : Item) (s : List X) (k : ℕ) (names : Names X) → Numbered (length names.strings) item → under (takes item s names) k ≡ put_or (then_some (is_variable k item) s) (under names k)
  takes_under (Operand o) s k names inn = refl
  takes_under (Variable v) s k names inn = under_with names v.name k s inn.low inn.high ∙ put_some (eqb v.name k) s (under names k)

  put_last : (o p : Option (List X)) (old : List X) → put_or o (put_or p old) ≡ put_or (option_or o p) old
  put_last None p old = refl
  put_last (Some s) p old = refl

  -- a name has the part of the last variable of that name, or what it had
  named_under : (start : ℕ) (is : List Item) (es : List ℕ) (names : Names X) (n k : ℕ) → length names.strings ≡ n → AllByRecursion (Numbered n) is → under (named subject start is es names) k ≡ put_or (last_part subject k start is es) (under names k)
  unfolding named last_part
  named_under start [] es names n k len all = refl
  named_under start (i ∷ is) [] names n k len all = refl
  named_under start (i ∷ is) (e ∷ es) names n k len all =
      let s = part subject start e in
      named_under e is es (takes i s names) n k (takes_length i s names ∙ len) all.1
      ∙ ap (put_or (last_part subject k e is es)) (takes_under i s k names (rw len all.0))
      ∙ put_last (last_part subject k e is es) (then_some (is_variable k i) s) (under names k)

module _ {X : Type 0} (success : Success X) (names : Names X) where
  all_named : Names X
  all_named = named success.subject success.start success.items success.ends names

  pub written_length : length (written success names).strings ≡ length names.strings
  unfolding with_string all_named
  written_length = go success.reference
    where
      go : (o : Option ℕ) → length (renewed o success.contents all_named).strings ≡ length names.strings
      go None = named_length success.subject success.start success.items success.ends names
      go (Some t) = length-set all_named.strings (t - 1) success.contents ∙ named_length success.subject success.start success.items success.ends names

  pub written_limits : written success names ≡ with_strings names (written success names).strings
  unfolding with_string all_named
  written_limits = go success.reference
    where
      go : (o : Option ℕ) → renewed o success.contents all_named ≡ with_strings names (renewed o success.contents all_named).strings
      go None = named_limits success.subject success.start success.items success.ends names
      go (Some t) = ap (λ m. with_string m t success.contents) (named_limits success.subject success.start success.items success.ends names)

  -- each name has the string that it gets
  pub one_source : Sound names success → OneSource success names (written success names)
  unfolding new_string all_named
  one_source sound k = go success.reference sound.referred
    where
      last : Option (List X)
      last = last_part success.subject k success.start success.items success.ends

      rest : under all_named k ≡ put_or last (under names k)
      rest = named_under success.subject success.start success.items success.ends names (length names.strings) k refl sound.variables

      new : (b : Bool) → put_or (cond b (Some success.contents) None) (under all_named k) ≡ put_or (cond b (Some success.contents) last) (under names k)
      new true = refl
      new false = rest

      go : (o : Option ℕ) → Referred (length names.strings) o → under (renewed o success.contents all_named) k ≡ put_or (cond (is_reference o k) (Some success.contents) last) (under names k)
      go None inn = rest
      go (Some t) inn =
          let many = named_length success.subject success.start success.items success.ends names in
          let low = inn.low in
          let high = inn.high in
          under_with all_named t k success.contents inn.low (omega arith) ∙ new (eqb t k)

  -- the string of a name by the one that was found for it
  pub string_under : Sound names success → (k : ℕ) (o : Option (List X)) → o ≡ new_string success k → under (written success names) k ≡ put_or o (under names k)
  string_under sound k o e = one_source sound k ∙ ap (λ q. put_or q (under names k)) (sym e)
