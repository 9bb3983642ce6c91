-- The lines of a text, one by one. Assumes nothing.
use Rattle.std.proofs.Common.{◌≡◌, ℕ, ◌+◌, List, [], Some, None, Option, Result, sym, ap, ◌∙◌}
use Rattle.lines.specs.declared.placed.Line.{Line}
use Rattle.lines.specs.declared.text.Lines.{Lines}
use Rattle.lines.specs.Walks.{lines_left, Cut}
use Rattle.symbols.specs.declared.fault.TextFault.{TextFault}
use Rattle.sheets.specs.declared.fault.Fault.{Fault}
use Rattle.sheets.specs.declared.fault.LineFault.{LineFault}
use Rattle.sheets.specs.declared.fault.Refusal.{Refusal}
use Rattle.sheets.specs.Faults.{first, refused_at}
use Rattle.sheets.specs.LineFaults.{Brought, line_faults, with_line}
use Rattle.sheets.specs.Sheets.{refused_first, lines_refusal, brought_by}

module _ (reads : List ℕ → Result ℕ TextFault) (k : ℕ) (n : Brought) (q : Lines) where
  abbrev rest : List (List ℕ)
  rest = lines_left q

  -- one more line
  module _ (x : Line) (t : Lines) (cut : Cut q x t) where
    abbrev line : List ℕ
    line = x.characters.now

    refusal_at : (all : Option Refusal) → all ≡ lines_refusal reads k n rest
        → all ≡ refused_first (first (line_faults reads n line)) k (lines_refusal reads (k + 1) (with_line reads n line) (lines_left t))
    unfolding lines_refusal
    refusal_at all inv = inv ∙ ap (lines_refusal reads k n) cut.line

    pub refusal_on : (all : Option Refusal) (m : Brought) → all ≡ lines_refusal reads k n rest → first (line_faults reads n line) ≡ None
        → m ≡ with_line reads n line → all ≡ lines_refusal reads (k + 1) m (lines_left t)
    refusal_on all m inv none same =
        refusal_at all inv
        ∙ ap (λ (o : Option Fault). refused_first o k (lines_refusal reads (k + 1) (with_line reads n line) (lines_left t))) none
        ∙ ap (λ (y : Brought). lines_refusal reads (k + 1) y (lines_left t)) (sym same)

    pub refusal_here : (all : Option Refusal) (f : LineFault) → all ≡ lines_refusal reads k n rest → first (line_faults reads n line) ≡ Some f.fault
        → f.line ≡ k → all ≡ Some (refused_at f)
    refusal_here all f inv some same =
        refusal_at all inv
        ∙ ap (λ (o : Option Fault). refused_first o k (lines_refusal reads (k + 1) (with_line reads n line) (lines_left t))) some
        ∙ ap (λ (j : ℕ). Some (refused_at (record { line = j; fault = f.fault }))) (sym same)

    pub brought_on : (all m : Brought) → all ≡ brought_by reads n rest → m ≡ with_line reads n line → all ≡ brought_by reads m (lines_left t)
    unfolding brought_by
    brought_on all m inv same =
        inv ∙ ap (brought_by reads n) cut.line ∙ ap (λ (y : Brought). brought_by reads y (lines_left t)) (sym same)

  pub refusal_end : (all : Option Refusal) → all ≡ lines_refusal reads k n rest → rest ≡ [] → all ≡ None
  unfolding lines_refusal
  refusal_end all inv e = inv ∙ ap (lines_refusal reads k n) e

  pub brought_end : (all : Brought) → all ≡ brought_by reads n rest → rest ≡ [] → n ≡ all
  unfolding brought_by
  brought_end all inv e = sym (inv ∙ ap (brought_by reads n) e)
