-- What may be worked with is what the tests admit. Assumes nothing.
use Rattle.std.proofs.Common.{◌≡◌, ℕ, ◌<◌, ◌≤◌, Bool, true, eqb, leb, List, length, get_or, take, Decides, sym, ap, ◌∙◌, subst, arith}
use Rattle.std.proofs.ByRecursion.{All-get_or}
use Rattle.std.proofs.lemmas.List.{get_or-take, length-take-le}
use Rattle.std.proofs.lemmas.Bool.Decides.{Decides-and, Decides-at, Decides-like, Decides-eqb}
use Rattle.std.specs.List.{AllByRecursion, list_all}
use Rattle.tables.specs.Lookups.{names_in}
use Rattle.tables.specs.Tables.{counts}
use Rattle.tables.specs.Rows.{Row}
use Rattle.tables.specs.declared.sheet.Counts.{Counts}
use Rattle.tables.specs.declared.sheet.Sheet.{Sheet}
use Rattle.tables.specs.Limits.{most_statements, most_names, most_constants}
use Rattle.checks.specs.Fits.{next_fits, name_fits, row_fits, within_limits, same_counts, admits}
use Rattle.checks.specs.Sound.{Sound-next, Short, Sound-row, Admitted}
use Rattle.checks.proofs.Sound.{decides_leb, decides_every, decides_short, decides_next, decides_row, sound_row_more}

abbrev counted : ℕ → ℕ → ℕ → Counts
counted s k n = record { statements = s; constants = k; names = n }

-- equal numbers make equal counts
same_numbers : (c d : Counts) → c.statements ≡ d.statements → c.constants ≡ d.constants → c.names ≡ d.names → d ≡ c
same_numbers c d s k n = ap (λ x. counted x d.constants d.names) (sym s) ∙ ap (λ x. counted c.statements x d.names) (sym k) ∙ ap (λ x. counted c.statements c.constants x) (sym n)

decides_same : (c d : Counts) → Decides (same_counts c d) (d ≡ c)
decides_same c d =
    Decides-like (same_counts c d)
    (λ h. same_numbers c d h.0 h.1.0 h.1.1)
    (λ e. (ap (λ (x : Counts). x.statements) (sym e), (ap (λ (x : Counts). x.constants) (sym e), ap (λ (x : Counts). x.names) (sym e))))
    (Decides-and (eqb c.statements d.statements) _ (Decides-eqb c.statements d.statements)
    (Decides-and (eqb c.constants d.constants) (eqb c.names d.names) (Decides-eqb c.constants d.constants) (Decides-eqb c.names d.names)))

module _ (names : ℕ) (opened : Counts) (sheet : Sheet) (rows : List Row) (room : ℕ) where
  -- the facts in the order of the tests
  abbrev Limited : Type 0
  Limited = (sheet.statements ≤ most_statements) × ((sheet.names.count ≤ most_names) × ((sheet.constants ≤ most_constants) × ((sheet.statements ≤ length rows) × (sheet.constants ≤ room))))

  abbrev Sound-rows : Type 0
  Sound-rows = AllByRecursion (Sound-row sheet.names.count sheet.statements sheet.constants) (take sheet.statements rows)

  abbrev Tested : Type 0
  Tested = (sheet.names.count ≤ names) × ((counts sheet ≡ opened) × (Limited × (AllByRecursion Short (names_in sheet.names) × (Sound-next sheet.statements sheet.start × Sound-rows))))

  decides_limited : Decides (within_limits (counts sheet) (length rows) room) Limited
  decides_limited =
      Decides-and (leb sheet.statements most_statements) _ (decides_leb sheet.statements most_statements)
      (Decides-and (leb sheet.names.count most_names) _ (decides_leb sheet.names.count most_names)
      (Decides-and (leb sheet.constants most_constants) _ (decides_leb sheet.constants most_constants)
      (Decides-and (leb sheet.statements (length rows)) (leb sheet.constants room) (decides_leb sheet.statements (length rows)) (decides_leb sheet.constants room))))

  decides_tested : Decides (admits names opened sheet rows room) Tested
  unfolding admits
  decides_tested =
      Decides-and (leb sheet.names.count names) _ (decides_leb sheet.names.count names)
      (Decides-and (same_counts opened (counts sheet)) _ (decides_same opened (counts sheet))
      (Decides-and (within_limits (counts sheet) (length rows) room) _ decides_limited
      (Decides-and (list_all name_fits (names_in sheet.names)) _ (decides_every name_fits Short decides_short (names_in sheet.names))
      (Decides-and (next_fits (counts sheet) sheet.start) (list_all (row_fits (counts sheet)) (take sheet.statements rows)) (decides_next (counts sheet) sheet.start)
      (decides_every (row_fits (counts sheet)) (Sound-row sheet.names.count sheet.statements sheet.constants) (decides_row (counts sheet)) (take sheet.statements rows))))))

  row_sound : sheet.names.count ≤ names → sheet.statements ≤ length rows → Sound-rows → (k : ℕ) (d : Row) → k < sheet.statements → Sound-row names sheet.statements sheet.constants (get_or rows k d)
  row_sound stored lent all k d l =
      let long = length-take-le sheet.statements rows lent in
      let P = Sound-row sheet.names.count sheet.statements sheet.constants in
      sound_row_more sheet.names.count names stored sheet.statements sheet.constants (get_or rows k d)
      (subst P (get_or-take sheet.statements rows k d l) (All-get_or P (take sheet.statements rows) k d (omega arith) all))

  pub decides_admitted : Decides (admits names opened sheet rows room) (Admitted names opened sheet rows room)
  decides_admitted =
      Decides-like (admits names opened sheet rows room)
      (λ h. record {
        same = h.1.0;
        few_statements = h.1.1.0.0;
        few_names = h.1.1.0.1.0;
        few_constants = h.1.1.0.1.1.0;
        stored = h.0;
        lent_rows = h.1.1.0.1.1.1.0;
        lent_constants = h.1.1.0.1.1.1.1;
        short = h.1.1.1.0;
        start = h.1.1.1.1.0;
        all_rows = h.1.1.1.1.1;
        row = row_sound h.0 h.1.1.0.1.1.1.0 h.1.1.1.1.1;
      })
      (λ h. (h.stored, (h.same, ((h.few_statements, (h.few_names, (h.few_constants, (h.lent_rows, h.lent_constants)))), (h.short, (h.start, h.all_rows))))))
      decides_tested

  -- of an answer that is the tests'
  pub decides_answer : (r : Bool) → r ≡ admits names opened sheet rows room → Decides r (Admitted names opened sheet rows room)
  decides_answer r is = Decides-at r (admits names opened sheet rows room) is decides_admitted

  pub admitted : admits names opened sheet rows room ≡ true → Admitted names opened sheet rows room
  admitted = decides_admitted.0

  pub admitted_row : admits names opened sheet rows room ≡ true → (k : ℕ) (d : Row) → k < sheet.statements → Sound-row names sheet.statements sheet.constants (get_or rows k d)
  admitted_row t = (admitted t).row
