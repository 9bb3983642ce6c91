-- What a scan from one start has left to try, where its rows hold the ends so far. Assumes nothing.
use Rattle.std.specs.Prelude.{◌≡◌, ℕ, zero, suc, ◌-◌, ◌<◌, ◌≤◌, Bool, true, cond, List, [], ◌∷◌, ◌++◌, map, length, get_or, take, Some, None, Option, Ok, Err, Result, slice_index, slice_index_or, slice_set}
use Rattle.placings.specs.Tree.{push, run, below}
use Rattle.symbols.specs.declared.role.Role.{Role}
use Rattle.placings.specs.declared.mode.Mode.TheVariants.{Unanchored}
use Rattle.placings.specs.Enumeration.{may, count, answer}
use Rattle.scan.specs.declared.element.Element.{Element}
use Rattle.scan.specs.declared.row.Row.{Row}
use Rattle.scan.specs.declared.answer.Scanned.{Scanned}
use Rattle.scan.specs.declared.answer.ScanRefusal.{ScanRefusal}
use Rattle.scan.specs.declared.answer.ScanRefusal.TheVariants.{Spent, OutOfRange}
use Rattle.scan.specs.Answers.{returned}
use Rattle.scan.specs.Elements.{pattern}
use Rattle.scan.specs.Rows.{unused, advanced}

-- the ends that rows hold
abbrev pub ends : List Row → List ℕ
ends rows = map (λ (row : Row). row.end) rows

-- where the part of row k begins: at the start, or where the row before it ends
abbrev pub beginning : ℕ → List Row → ℕ → ℕ
beginning start rows k = slice_index (start ∷ ends rows) k

-- the start and the ends of the first i rows
abbrev pub places : ℕ → List Row → ℕ → List ℕ
places start rows i = start ∷ take i (ends rows)

-- the paths that go on from p by one number, c or larger, and by at most d after that
unfoldable pub across : (List ℕ → ℕ → Bool) → ℕ → ℕ → List ℕ → ℕ → List (List ℕ)
across ok n d p c = run (λ k. cond (ok p k) (push p k ∷ below ok n d (push p k)) []) (suc n - c) c

module _ (ok : List ℕ → ℕ → Bool) (n m start : ℕ) where
  -- what row i has left from the end c on
  abbrev pub here : List Row → ℕ → ℕ → List (List ℕ)
  here rows i c = across ok n (m - suc i) (places start rows i) c

  -- what the rows before row i have left behind their ends
  unfoldable pub behind : List Row → ℕ → List (List ℕ)
  behind rows zero = []
  behind rows (suc j) = here rows j (suc (slice_index (ends rows) j)) ++ behind rows j

  -- what is left where row i is to try the ends from c on
  abbrev pub left : List Row → ℕ → ℕ → List (List ℕ)
  left rows i c = here rows i c ++ behind rows i

  -- the first i rows hold a partial placing: each begins where the one before it ends, and each end is within n and may follow
  pub record Standing (rows : List Row) (i : ℕ) : Type 0 where
    pub eight : length rows ≡ 8
    pub begins : (k : ℕ) → k < i → (get_or rows k unused).begin ≡ beginning start rows k
    pub within : (k : ℕ) → k < i → (get_or rows k unused).end ≤ n
    pub suits : (k : ℕ) → k < i → ok (places start rows k) (get_or rows k unused).end ≡ true

  -- what a walk back from row i finds: a row that moved on to an end, and what is left then; or that nothing is left; or something to try, and no trial
  abbrev pub Retreats : List Row → ℕ → ℕ → List Row → Result (Option (ℕ × ℕ)) ScanRefusal → Type 0
  Retreats rows i trials after (Ok (Some at)) =
      (at.0 < i) × (0 < trials) × (after ≡ slice_set rows at.0 (advanced (slice_index_or rows at.0 unused) (Some at.1))) × Standing after (suc at.0) × (behind rows i ≡ places start after (suc at.0) ∷ left after (suc at.0) 0)
  Retreats rows i trials after (Ok None) = behind rows i ≡ []
  Retreats rows i trials after (Err Spent) = (trials ≡ 0) × (0 < count m (behind rows i))
  Retreats rows i trials after (Err OutOfRange) = ⊥

-- whether an end may follow the places so far, a start at least: the mode has no say in it
abbrev pub follows : {A : Type 0} → (A → A → Bool) → (A → Role) → List A → List A → List Element → List ℕ → ℕ → Bool
follows eq role s constants elements = may eq role Unanchored s (pattern constants elements)

-- what a walk back from row i finds, whatever the constants and the start are that the rows stand on
abbrev pub WalksBack : {A : Type 0} → (A → A → Bool) → (A → Role) → List A → List Element → List Row → ℕ → ℕ → List Row → Result (Option (ℕ × ℕ)) ScanRefusal → Type 0
WalksBack {A} eq role s elements rows i trials after r =
    (constants : List A) (start : ℕ) → Standing (follows eq role s constants elements) (length s) (length elements) start rows i → Retreats (follows eq role s constants elements) (length s) (length elements) start rows i trials after r

-- the answer of a scan from one start alone: what the enumeration of the partial placings that go on from it tells
abbrev pub scan_from : {A : Type 0} → (A → A → Bool) → (A → Role) → List A → List A → List Element → ℕ → ℕ → Result Scanned ScanRefusal
scan_from eq role s constants elements start trials = returned (answer (length elements) trials (below (follows eq role s constants elements) (length s) (length elements) (start ∷ [])))
