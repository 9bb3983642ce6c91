-- How far the sheet reaches, line by line. Assumes nothing.
use Rattle.std.proofs.Common.{◌≡◌, ℕ, ◌+◌, ◌≤◌, min, Bool, true, false, cond, eqb, List, [], ◌∷◌, length, drop, ap, ◌∙◌, arith}
use Rattle.std.proofs.lemmas.List.{length-take, length-drop}
use Rattle.lines.specs.declared.placed.Line.{Line}
use Rattle.lines.specs.declared.text.Lines.{Lines}
use Rattle.lines.specs.Texts.{lines_of, on_first}
use Rattle.lines.specs.Walks.{lines_left, Cut}
use Rattle.sheets.specs.LineFaults.{labelled_end}
use Rattle.bench_session.specs.Input.{sheet_length, sheet_end}

-- only an empty text has no lines
on_first_some : (c : ℕ) (ls : List (List ℕ)) → length (on_first c ls) ≡ 0 → ⊥
on_first_some c [] e = omega arith
on_first_some c (l ∷ ls) e = omega arith

lines_none : (s : List ℕ) → length (lines_of s) ≡ 0 → length s ≡ 0
unfolding lines_of
lines_none [] e = e
lines_none (c ∷ s) e = absurd (go (eqb c 10) e)
  where
    go : (b : Bool) → length (cond b ([] ∷ lines_of s) (on_first c (lines_of s))) ≡ 0 → ⊥
    go true h = omega arith
    go false h = on_first_some c (lines_of s) h

-- a line lies within its text
pub line_within : (x : Line) → x.from + length x.characters.now ≤ length x.text.now
line_within x =
    let place = x.place in
    let long = ap length x.lies in
    omega (arith, long, length-take (length x.characters.now) (drop x.from x.text.now), length-drop x.from x.text.now)

module _ (text : List ℕ) (q : Lines) (same : q.text.now ≡ text) (inv : sheet_end text ≡ min (q.from + sheet_length (lines_left q)) (length text)) where
  module _ (x : Line) (t : Lines) (cut : Cut q x t) where
    at : (b : Bool) → labelled_end x.characters.now ≡ b → sheet_length (lines_left q) ≡ cond b (length x.characters.now + 1) ((length x.characters.now + 1) + sheet_length (lines_left t))
    unfolding sheet_length
    at b e = ap sheet_length cut.line ∙ ap (λ z. cond z (length x.characters.now + 1) ((length x.characters.now + 1) + sheet_length (lines_left t))) e

    pub reach_within : x.from + length x.characters.now ≤ length text
    reach_within = let w = line_within x in omega (arith, w, ap length cut.text, ap length same)

    -- the sheet ends with the line that is labelled END
    pub reach_here : labelled_end x.characters.now ≡ true → (r : ℕ) → r ≡ min ((x.from + length x.characters.now) + 1) (length text) → r ≡ sheet_end text
    reach_here e r is = let a = at true e in omega (arith, a, inv, is, cut.from)

    -- or goes on behind it
    pub reach_on : labelled_end x.characters.now ≡ false → sheet_end text ≡ min (t.from + sheet_length (lines_left t)) (length text)
    reach_on e = let a = at false e in omega (arith, a, inv, cut.from, cut.on)

  -- or with the text
  pub reach_end : lines_left q ≡ [] → length text ≡ sheet_end text
  unfolding sheet_length
  reach_end e =
      let none = lines_none (drop q.from q.text.now) (ap length e) in
      let zero = ap sheet_length e in
      omega (arith, none, zero, inv, length-drop q.from q.text.now, ap length same)
