-- Words that stand among words have a number, and stand among more. Assumes nothing.
use Rattle.std.proofs.Common.{◌≡◌, ℕ, zero, suc, ◌<◌, Bool, true, false, cond, not, ◌||◌, List, [], ◌∷◌, ◌++◌, length, get_or, Some, None, codes, Option, Result, sym, refl, arith}
use Rattle.std.specs.List.{AllByRecursion}
use Rattle.std.specs.Str.{bytes_eq}
use Rattle.std.proofs.lemmas.Bool.{false≢true}
use Rattle.symbols.specs.declared.fault.TextFault.{TextFault}
use Rattle.lines.specs.declared.token.Token.{Token}
use Rattle.sheets.specs.Items.{spelling, brings_name}
use Rattle.sheets.specs.Labels.{known}
use Rattle.sheets.specs.Parts.{position, First, or_added, with_word}
use Rattle.sheets.specs.Tallies.{Count, absent, with_token, count_from}
use Rattle.sheets.proofs.Searches.{first_place}
use Rattle.changes.specs.Success.{In}
use Rattle.tables.specs.declared.row.Next.{Next}
use Rattle.rows.specs.Entries.{numbered, destination}
use Rattle.checks.specs.Sound.{Sound-next}

-- a word is one of some words
pub record Among (x : List ℕ) (ys : List (List ℕ)) : Type 0 where
  pub place : ℕ
  pub inside : place < length ys
  pub is : get_or ys place [] ≡ x

among_tail : (x y : List ℕ) (ys : List (List ℕ)) → Among x ys → Among x (y ∷ ys)
among_tail x y ys h = record { place = suc h.place; inside = (let i = h.inside in omega arith); is = h.is }

left_at : (x : List ℕ) (ys zs : List (List ℕ)) (k : ℕ) → k < length ys → get_or ys k [] ≡ x → Among x (ys ++ zs)
left_at x [] zs k i e = absurd (omega arith)
left_at x (y ∷ ys) zs zero i e = record { place = 0; inside = omega arith; is = e }
left_at x (y ∷ ys) zs (suc k) i e = among_tail x y (ys ++ zs) (left_at x ys zs k (omega arith) e)

among_left : (x : List ℕ) (ys zs : List (List ℕ)) → Among x ys → Among x (ys ++ zs)
among_left x ys zs h = left_at x ys zs h.place h.inside h.is

among_last : (x : List ℕ) (ys : List (List ℕ)) → Among x (ys ++ (x ∷ []))
among_last x [] = record { place = 0; inside = omega arith; is = refl }
among_last x (y ∷ ys) = among_tail x y (ys ++ (x ∷ [])) (among_last x ys)

-- where a word is found it stands
found : (x : List ℕ) (ys : List (List ℕ)) (o : Option ℕ) → First x ys o → absent o ≡ false → In (length ys) (numbered o)
found x ys None f e = absurd (false≢true (sym e))
found x ys (Some n) f e = record { low = omega arith; high = (let i = f.0 in omega arith) }

-- a word that is among the words has a number
pub among_numbered : (x : List ℕ) (ys : List (List ℕ)) → Among x ys → In (length ys) (numbered (position x ys))
among_numbered x ys h = go (position x ys) (first_place x ys)
  where
    go : (o : Option ℕ) → First x ys o → In (length ys) (numbered o)
    go None f = absurd (f h.place h.inside h.is)
    go (Some n) f = found x ys (Some n) f refl

with_itself : (x : List ℕ) (ys : List (List ℕ)) → Among x (with_word x ys)
with_itself x ys = go (position x ys) (first_place x ys)
  where
    go : (o : Option ℕ) → First x ys o → Among x (or_added o x ys)
    go None f = among_last x ys
    go (Some n) f = record { place = n; inside = f.0; is = f.1 }

with_others : (x y : List ℕ) (ys : List (List ℕ)) → Among x ys → Among x (with_word y ys)
with_others x y ys h = go (position y ys)
  where
    go : (o : Option ℕ) → Among x (or_added o y ys)
    go None = among_left x ys (y ∷ []) h
    go (Some n) = h

-- END or a label of the sheet leads to a statement or to the end
pub known_next : (labels : List (List ℕ)) (w : List ℕ) → known labels w ≡ true → Sound-next (length labels) (destination labels w)
known_next labels w k = go (bytes_eq w (codes "END")) k
  where
    go : (b : Bool) → (b || not (absent (position w labels))) ≡ true
        → Sound-next (length labels) (cond b Next.End (Next.Statement (numbered (position w labels))))
    go true e = tt
    go false e = found w labels (position w labels) (first_place w labels) (back (absent (position w labels)) e)
      where
        back : (b : Bool) → not b ≡ true → b ≡ false
        back true e = sym e
        back false e = refl

module _ (reads : List ℕ → Result ℕ TextFault) (s : List ℕ) where
  -- a token keeps the names, and adds its own
  token_keeps : (n : Count) (t : Token) (x : List ℕ) → Among x n.names → Among x (with_token reads s n t).names
  unfolding with_token
  token_keeps n t x h = go (brings_name s t)
    where
      go : (b : Bool) → Among x (cond b (with_word (spelling s t) n.names) n.names)
      go true = with_others x (spelling s t) n.names h
      go false = h

  token_brings : (n : Count) (t : Token) → brings_name s t ≡ true → Among (spelling s t) (with_token reads s n t).names
  unfolding with_token
  token_brings n t b = go (brings_name s t) b
    where
      go : (b : Bool) → b ≡ true → Among (spelling s t) (cond b (with_word (spelling s t) n.names) n.names)
      go true e = with_itself (spelling s t) n.names
      go false e = absurd (false≢true e)

  pub tokens_keep : (n : Count) (ts : List Token) (x : List ℕ) → Among x n.names → Among x (count_from reads s n ts).names
  unfolding count_from
  tokens_keep n [] x h = h
  tokens_keep n (t ∷ ts) x h = tokens_keep (with_token reads s n t) ts x (token_keeps n t x h)

  -- every name of a line's tokens is there with them
  pub tokens_bring : (n : Count) (ts : List Token) → AllByRecursion (λ t. brings_name s t ≡ true → Among (spelling s t) (count_from reads s n ts).names) ts
  unfolding count_from
  tokens_bring n [] = tt
  tokens_bring n (t ∷ ts) =
      ((λ b. tokens_keep (with_token reads s n t) ts (spelling s t) (token_brings n t b)), tokens_bring (with_token reads s n t) ts)
