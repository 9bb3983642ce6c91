-- Why a text is refused, check by check. Assumes nothing.
use Rattle.std.proofs.Common.{◌≡◌, ℕ, ◌<◌, ◌≤◌, Bool, true, false, cond, ltb, List, length, Some, None, Option, Result, sym, ap, ◌∙◌, arith}
use Rattle.std.proofs.lemmas.Bool.Decides.{nat_tests}
use Rattle.symbols.specs.declared.fault.TextFault.{TextFault}
use Rattle.sheets.specs.declared.fault.Cause.{Cause}
use Rattle.sheets.specs.declared.fault.Refusal.{Refusal}
use Rattle.sheets.specs.Labels.{nowhere, or_refused, no_end, brought, lines_unknown, text_refusal}
use Rattle.sheets.specs.LineFaults.{Brought}
use Rattle.sheets.specs.Sheets.{lines_of, nothing, lines_refusal}

module _ (reads : List ℕ → Result ℕ TextFault) (text : List ℕ) where
  abbrev by_lines : Option Refusal
  by_lines = lines_refusal reads 1 nothing (lines_of text)

  abbrev after_lines : Brought → Option Refusal
  after_lines n = or_refused (no_end n) (lines_unknown n.labels 1 (lines_of text))

  pub refused_long : 16384 < length text → text_refusal reads text ≡ Some (nowhere Cause.TextLong)
  unfolding text_refusal
  refused_long h =
      let b : ltb 16384 (length text) ≡ true = grind (arith, nat_tests) in
      ap (λ (x : Bool). cond x (Some (nowhere Cause.TextLong)) (or_refused by_lines (after_lines (brought reads text)))) b

  module _ (h : length text ≤ 16384) where
    not_long : text_refusal reads text ≡ or_refused by_lines (after_lines (brought reads text))
    unfolding text_refusal
    not_long =
        let b : ltb 16384 (length text) ≡ false = grind (arith, nat_tests) in
        ap (λ (x : Bool). cond x (Some (nowhere Cause.TextLong)) (or_refused by_lines (after_lines (brought reads text)))) b

    pub refused_line : (f : Refusal) → by_lines ≡ Some f → text_refusal reads text ≡ Some f
    refused_line f e = not_long ∙ ap (λ (o : Option Refusal). or_refused o (after_lines (brought reads text))) e

    module _ (n : Brought) (e : by_lines ≡ None) (same : n ≡ brought reads text) where
      lines_pass : text_refusal reads text ≡ after_lines n
      lines_pass =
          not_long ∙ ap (λ (o : Option Refusal). or_refused o (after_lines (brought reads text))) e ∙ ap after_lines (sym same)

      pub refused_end : n.ended ≡ false → text_refusal reads text ≡ Some (nowhere Cause.End)
      refused_end f =
          lines_pass ∙ ap (λ (b : Bool). or_refused (cond b None (Some (nowhere Cause.End))) (lines_unknown n.labels 1 (lines_of text))) f

      pub refused_label : (o : Option Refusal) → n.ended ≡ true → o ≡ lines_unknown n.labels 1 (lines_of text) → text_refusal reads text ≡ o
      refused_label o f u =
          lines_pass ∙ ap (λ (b : Bool). or_refused (cond b None (Some (nowhere Cause.End))) (lines_unknown n.labels 1 (lines_of text))) f ∙ sym u
