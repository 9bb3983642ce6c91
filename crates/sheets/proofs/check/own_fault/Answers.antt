use Rattle.std.proofs.Common.{Option, sym, ap, ◌∙◌}
use Rattle.sheets.specs.declared.fault.Fault.{Fault}
use Rattle.sheets.specs.Faults.{least, first}
use Rattle.sheets.specs.LineFaults.{code_faults, form_faults}
use Rattle.sheets.specs.Parts.{words}
use Rattle.sheets.proofs.Firsts.{first_append}
use Rattle.sheets.proofs.check.own_fault.Goals as goal

pub returns : goal.returns
returns c =
    let s = c.args.line.now in
    c.least.ensures
    ∙ ap (λ (o : Option Fault). least o c.form_fault.result) c.code_fault.ensures
    ∙ ap (least (first (code_faults s))) c.form_fault.ensures
    ∙ sym (first_append (code_faults s) (form_faults c.args.before.statements (words c.args.labels) c.args.before.ended s))
