-- What a refused call leaves, and an accepted one. Assumes nothing.
use Rattle.std.proofs.Common.{◌≡◌, ℕ, ◌+◌, ◌<◌, ◌≤◌, List, [], ◌∷◌, ◌++◌, length, take, set, Some, None, Ok, Err, Option, Result, sym, ap, ◌∙◌, ⊎_elim, add-one, arith}
use Rattle.std.proofs.lemmas.List.{append-nil, append_assoc, length-take-le, length-set, length_push, take_all, drop_all, take-append-drop, take_more_set, set_split}
use Rattle.std.proofs.lemmas.Bool.{cases_lt, le-leb, lt-leb, cond-true, cond-false}
use Rattle.symbols.specs.Answers.{answered, over}
use Rattle.stores.specs.Names.{Names}
use Rattle.session.specs.declared.entry.Entry.{Entry}
use Rattle.session.specs.declared.refusal.Refusal.{Refusal}
use Rattle.session.specs.declared.refusal.Refusal.TheVariants.{RecordFull}
use Rattle.session.specs.declared.session.Session.{Session}
use Rattle.session.specs.State.{state}
use Rattle.session.specs.Calls.{full}
use Rattle.session.specs.Effects.{Effect, after, Leaves}

-- the front of a list, written over it
pub over_take : {X : Type 0} (k : ℕ) (xs : List X) → over (take k xs) xs ≡ xs
over_take k xs =
    ⊎_elim
    (λ lt. let le : k ≤ length xs = omega arith in rw (length-take-le k xs le) (take-append-drop k xs))
    (λ ge. rw (take_all k xs ge, drop_all (length xs) xs (omega arith)) (append-nil xs))
    (cases_lt k (length xs))

-- one more element, written over
pub over_push : {X : Type 0} (k : ℕ) (xs : List X) (x : X) → k < length xs → set xs k x ≡ over (take k xs ++ x ∷ []) xs
over_push k xs x lt =
    let le : k ≤ length xs = omega arith in
    let n : length (take k xs ++ x ∷ []) ≡ k + 1 = length_push (take k xs) x ∙ ap (λ m. m + 1) (length-take-le k xs le) in
    rw (n, add-one) (set_split xs k x lt ∙ sym (append_assoc (take k xs) (x ∷ []) _))

module _ {K S X : Type 0} (held : S → Names X) (s : Session K S) (area : List Entry) where
  pub full_yes : length area ≤ s.recorded → full (state held s area) ≡ Some RecordFull
  unfolding full
  full_yes h = cond-true _ _ _ (le-leb (length area) s.recorded h)

  pub full_no : s.recorded < length area → full (state held s area) ≡ None
  unfolding full
  full_no h = cond-false _ _ _ (lt-leb (length area) s.recorded h)

  -- an area that is not full has room for one more
  pub room_left : full (state held s area) ≡ None → s.recorded < length area
  room_left e = ⊎_elim (λ lt. lt) (λ ge. let no' = full_yes ge in let z : ◌≡◌ {A = ℕ} 0 1 = cc in absurd (omega arith)) (cases_lt s.recorded (length area))

  -- a refused call changed nothing, but for how the store holds the same names
  pub refused_leaves : (store' : S) (effect : Result (Effect X) Refusal) (e : Refusal) → effect ≡ Err e → held store' ≡ held s.store → Leaves (state held s area) (state held (record { kind = s.kind; store = store'; counts = s.counts; start = s.start; admitted = s.admitted; mode = s.mode; next = s.next; recorded = s.recorded }) area) area area effect
  refused_leaves store' effect e is same = record {
    state = (λ i. record { names = same i; counts = s.counts; start = s.start; admitted = s.admitted; mode = s.mode; next = s.next; recorded = s.recorded; entries = take s.recorded area; room = length area }) ∙ ap (after (state held s area)) (sym is);
    area = sym (ap (λ x. over (after (state held s area) x).entries area) is ∙ over_take s.recorded area);
  }

  pub kept : (store' : S) (o : Option Refusal) (f : Effect X) (e : Refusal) → o ≡ Some e → held store' ≡ held s.store → Leaves (state held s area) (state held (record { kind = s.kind; store = store'; counts = s.counts; start = s.start; admitted = s.admitted; mode = s.mode; next = s.next; recorded = s.recorded }) area) area area (answered o f)
  kept store' o f e no' same = refused_leaves store' (answered o f) e (ap (λ p. answered p f) no') same

  -- the state with one entry more, and what the call made of the rest
  grown : (store' : S) (n : ℕ) (f : Effect X) (new : List Entry) → s.recorded < length area → n ≡ s.recorded + 1 → new ≡ set area s.recorded f.entry → held store' ≡ f.names → state held (record { kind = s.kind; store = store'; counts = s.counts; start = s.start; admitted = s.admitted; mode = f.mode; next = f.next; recorded = n }) new ≡ after (state held s area) (Ok f)
  grown store' n f new lt count is names =
      let longer : take n new ≡ take s.recorded area ++ f.entry ∷ [] = rw (count, is) (take_more_set area s.recorded f.entry lt) in
      let long : length new ≡ length area = ap length is ∙ length-set area s.recorded f.entry in
      λ i. record { names = names i; counts = s.counts; start = s.start; admitted = s.admitted; mode = f.mode; next = f.next; recorded = count i; entries = longer i; room = long i }

  -- an accepted call left what it made, and one entry more
  pub accepted_leaves : (store' : S) (n : ℕ) (f : Effect X) (new : List Entry) (effect : Result (Effect X) Refusal) → effect ≡ Ok f → s.recorded < length area → n ≡ s.recorded + 1 → new ≡ set area s.recorded f.entry → held store' ≡ f.names → Leaves (state held s area) (state held (record { kind = s.kind; store = store'; counts = s.counts; start = s.start; admitted = s.admitted; mode = f.mode; next = f.next; recorded = n }) new) area new effect
  accepted_leaves store' n f new effect ok lt count is names = record {
    state = grown store' n f new lt count is names ∙ ap (after (state held s area)) (sym ok);
    area = is ∙ over_push s.recorded area f.entry lt ∙ sym (ap (λ x. over (after (state held s area) x).entries area) ok);
  }

  pub done : (store' : S) (n : ℕ) (f : Effect X) (new : List Entry) (o : Option Refusal) → o ≡ None → s.recorded < length area → n ≡ s.recorded + 1 → new ≡ set area s.recorded f.entry → held store' ≡ f.names → Leaves (state held s area) (state held (record { kind = s.kind; store = store'; counts = s.counts; start = s.start; admitted = s.admitted; mode = f.mode; next = f.next; recorded = n }) new) area new (answered o f)
  done store' n f new o ok lt count is names = accepted_leaves store' n f new (answered o f) (ap (λ p. answered p f) ok) lt count is names
