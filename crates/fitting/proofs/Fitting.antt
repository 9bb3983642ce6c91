-- What a load wrote may be worked with. Assumes nothing.
use Rattle.std.proofs.Common.{◌≡◌, ℕ, ◌≤◌, min, Bool, true, false, cond, ◌||◌, eqb, ltb, leb, List, [], ◌∷◌, map, length, take, drop, Some, None, Option, Result, sym, refl, subst, arith}
use Rattle.std.specs.List.{AllByRecursion, list_all}
use Rattle.std.proofs.ByRecursion.{All-take, All-map}
use Rattle.std.proofs.lemmas.List.{length-append, take-append-le}
use Rattle.std.proofs.lemmas.Bool.{le-leb, eq-eqb, ltb-false, and_from}
use Rattle.symbols.specs.Answers.{over}
use Rattle.symbols.specs.declared.fault.TextFault.{TextFault}
use Rattle.sheets.specs.Sheets.{lines_of}
use Rattle.constants.proofs.Accepted.{accepted_symbols}
use Rattle.sheets.specs.declared.fault.Cause.{Cause}
use Rattle.sheets.specs.declared.fault.Refusal.{Refusal}
use Rattle.sheets.specs.Labels.{nowhere, or_refused, no_end, brought, lines_unknown, text_refusal}
use Rattle.sheets.specs.LineFaults.{Brought}
use Rattle.sheets.specs.Sheets.{nothing, lines_refusal}
use Rattle.sheets.specs.Tallies.{counts}
use Rattle.sheets.proofs.Accepted.{accepted_lines}
use Rattle.tables.specs.Lookups.{names_in}
use Rattle.tables.specs.Tables.{counts as Counts-of}
use Rattle.tables.specs.Rows.{Row}
use Rattle.tables.specs.declared.sheet.Counts.{Counts}
use Rattle.tables.specs.declared.sheet.Sheet.{Sheet}
use Rattle.rows.specs.Fills.{filled}
use Rattle.rows.specs.Labels.{name_label}
use Rattle.rows.specs.Names.{name_of}
use Rattle.load.specs.Names.{name_table}
use Rattle.load.specs.Tables.{sheet_rows, sheet_of}
use Rattle.rows.proofs.RowCounts.{accepted_rows}
use Rattle.checks.specs.Fits.{name_fits, next_fits, row_fits, within_limits, same_counts, sheet_fits, admits}
use Rattle.checks.specs.Sound.{Short, Sound-next, Sound-row}
use Rattle.checks.proofs.Sound.{decides_every, decides_short, decides_next, decides_row}
use Rattle.fitting.specs.Fitting.{Loaded-fits, Loaded-admitted}
use Rattle.fitting.proofs.Lines.{Held, lines_held}
use Rattle.fitting.proofs.Rows.{filled_sound, rows_sound, start_sound}

-- an accepted text goes to no label that it lacks
told : (reads : List ℕ → Result ℕ TextFault) (text : List ℕ) → text_refusal reads text ≡ None → lines_unknown (brought reads text).labels 1 (lines_of text) ≡ None
unfolding text_refusal
told reads text p =
    go (ltb 16384 (length text)) (lines_refusal reads 1 nothing (lines_of text)) (no_end (brought reads text)) (lines_unknown (brought reads text).labels 1 (lines_of text)) p
  where
    go : (b : Bool) (x y z : Option Refusal) → cond b (Some (nowhere Cause.TextLong)) (or_refused x (or_refused y z)) ≡ None → z ≡ None
    go true x y z e = absurd (let z : ◌≡◌ {A = ℕ} 0 1 = cc in omega arith)
    go false (Some f) y z e = absurd (let z : ◌≡◌ {A = ℕ} 0 1 = cc in omega arith)
    go false None (Some f) z e = absurd (let z : ◌≡◌ {A = ℕ} 0 1 = cc in omega arith)
    go false None None z e = e

-- an accepted load had its areas
areas : (a b : Bool) (o : Option Refusal) → cond (a || b) (Some (nowhere Cause.ShortArea)) o ≡ None → (a ≡ false) × (b ≡ false) × (o ≡ None)
areas true b o e = absurd (let z : ◌≡◌ {A = ℕ} 0 1 = cc in omega arith)
areas false true o e = absurd (let z : ◌≡◌ {A = ℕ} 0 1 = cc in omega arith)
areas false false o e = (refl, refl, e)

all_short : (ws : List (List ℕ)) → AllByRecursion (λ w. Short (name_of w)) ws
all_short [] = tt
all_short (w ∷ ws) = (omega arith, all_short ws)

names_short : (ws : List (List ℕ)) → AllByRecursion Short (names_in (name_table ws))
names_short ws =
    All-take Short (min (length ws) 64) (filled 64 (name_of []) (map name_of ws))
    (filled_sound Short 64 (name_of []) (map name_of ws) (omega arith) (All-map Short name_of ws (all_short ws)))

module _ {X : Type 0} (meant : List ℕ → Option X) (wide : ℕ) (text : List ℕ) (rows : List Row) (room : ℕ) (many : 128 ≤ length rows) (wide_room : 4096 ≤ room)
    (accepted : text_refusal (counts meant wide) text ≡ None) where
  abbrev reads : List ℕ → Result ℕ TextFault
  reads = counts meant wide

  abbrev n : Brought
  n = brought reads text

  abbrev sheet : Sheet
  sheet = sheet_of meant wide text

  abbrev written : List Row
  written = sheet_rows meant wide text

  held : Held reads n
  held = lines_held reads 1 nothing (lines_of text) (accepted_lines reads text accepted) (record { statements = omega arith; labels = refl; names = omega arith; symbols = omega arith })

  few_symbols : sheet.constants ≤ 4096
  few_symbols = let a = accepted_symbols meant wide text accepted in let b = held.symbols in omega (arith, a, b)

  rows_counted : length written ≡ n.statements
  rows_counted = accepted_rows name_label meant wide text accepted n.names n.labels

  names_counted : length n.names ≡ min (length n.names) 64
  names_counted = let h = held.names in omega arith

  rows_fit : AllByRecursion (Sound-row sheet.names.count sheet.statements sheet.constants) written
  rows_fit =
      subst (λ (k : ℕ). AllByRecursion (Sound-row k sheet.statements sheet.constants) written) names_counted
      (subst (λ (k : ℕ). AllByRecursion (Sound-row (length n.names) k sheet.constants) written) held.labels
      (rows_sound meant wide n.names n.labels sheet.constants 1 1 0 0 nothing (lines_of text) (accepted_lines reads text accepted) (told reads text accepted) (λ x h. h) (omega arith)))

  taken_fit : AllByRecursion (Sound-row sheet.names.count sheet.statements sheet.constants) (take sheet.statements (over written rows))
  taken_fit =
      let P = Sound-row sheet.names.count sheet.statements sheet.constants in
      let l : sheet.statements ≤ length written = (let e = rows_counted in omega (arith, e)) in
      subst (λ (xs : List Row). AllByRecursion P xs) (sym (take-append-le sheet.statements written (drop (length written) rows) l)) (All-take P sheet.statements written rows_fit)

  start_fits : Sound-next sheet.statements sheet.start
  start_fits = subst (λ (k : ℕ). Sound-next k sheet.start) held.labels (start_sound n.labels text (told reads text accepted))

  limited : within_limits (Counts-of sheet) (length (over written rows)) room ≡ true
  limited =
      let h = held in
      let e = rows_counted in
      let a = length-append written (drop (length written) rows) in
      let f = few_symbols in
      let few_rows : sheet.statements ≤ length (over written rows) = omega (arith, a, e) in
      let few-room : sheet.constants ≤ room = omega (arith, f) in
      and_from (leb sheet.statements 128) _ (le-leb sheet.statements 128 h.statements)
      (and_from (leb sheet.names.count 64) _ (le-leb sheet.names.count 64 (omega arith))
      (and_from (leb sheet.constants 4096) _ (le-leb sheet.constants 4096 f)
      (and_from (leb sheet.statements (length (over written rows))) (leb sheet.constants room)
      (le-leb sheet.statements (length (over written rows)) few_rows) (le-leb sheet.constants room few-room))))

  fits : sheet_fits sheet (over written rows) room ≡ true
  fits =
      and_from (within_limits (Counts-of sheet) (length (over written rows)) room) _ limited
      (and_from (list_all name_fits (names_in sheet.names)) _ ((decides_every name_fits Short decides_short (names_in sheet.names)).1 (names_short n.names))
      (and_from (next_fits (Counts-of sheet) sheet.start) (list_all (row_fits (Counts-of sheet)) (take sheet.statements (over written rows)))
      ((decides_next (Counts-of sheet) sheet.start).1 start_fits)
      ((decides_every (row_fits (Counts-of sheet)) (Sound-row sheet.names.count sheet.statements sheet.constants) (decides_row (Counts-of sheet)) (take sheet.statements (over written rows))).1 taken_fit)))

pub every_load_fits : {X : Type 0} (meant : List ℕ → Option X) (wide : ℕ) → Loaded-fits meant wide
every_load_fits meant wide text rows constants e =
    let p = areas (ltb (length rows) 128) (ltb (length constants) 4096) (text_refusal (counts meant wide) text) e in
    fits meant wide text rows (length constants) (ltb-false (length rows) 128 p.0) (ltb-false (length constants) 4096 p.1) p.2

pub every_load_admitted : {X : Type 0} (meant : List ℕ → Option X) (wide : ℕ) → Loaded-admitted meant wide
unfolding admits
every_load_admitted meant wide text rows constants e names stored =
    let c : Counts = Counts-of (sheet_of meant wide text) in
    and_from (leb c.names names) _ (le-leb c.names names stored)
    (and_from (same_counts c c) _
    (and_from (eqb c.statements c.statements) _ (eq-eqb c.statements c.statements refl)
    (and_from (eqb c.constants c.constants) (eqb c.names c.names) (eq-eqb c.constants c.constants refl) (eq-eqb c.names c.names refl)))
    (every_load_fits meant wide text rows constants e))
