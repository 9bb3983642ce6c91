use Rattle.std.proofs.Common.{Bool, sym, ap, ◌∙◌}
use Rattle.sheets.specs.Faults.{first}
use Rattle.sheets.specs.LineFaults.{form_faults}
use Rattle.sheets.specs.Parts.{words}
use Rattle.sheets.proofs.LineLaws.{form_first}
use Rattle.sheets.proofs.check.form_fault.Goals as goal

pub returns : goal.returns
returns c =
    let labels = words c.args.labels in
    form_first c.args.before.statements labels c.args.line.now c.no_statement.result c.extra_statement.result c.second_label.result
    c.least.result c.least-2.result c.if-is_idle.ensures c.least.ensures c.least-2.ensures c.no_statement.ensures
    c.extra_statement.ensures c.second_label.ensures
    ∙ ap (λ (b : Bool). first (form_faults c.args.before.statements labels b c.args.line.now)) (sym c.if-before.false)
