use Rattle.std.proofs.Common.{true, false, sym, ◌∙◌}
use Rattle.lines.proofs.Forms.{form_by, form_idle, form_broken}
use Rattle.lines.proofs.line.line_form.Goals as goal

pub returns-then-is_idle : goal.returns-then-is_idle
returns-then-is_idle c = sym (form_idle c.args.line.now c.if-is_idle.ensures)

pub returns-then-not-whole : goal.returns-then-not-whole
returns-then-not-whole c =
    sym (form_broken c.args.line.now c.if-is_idle.ensures (sym c.if-not-whole.true ∙ c.requires))

pub returns-then-begins_end : goal.returns-then-begins_end
returns-then-begins_end c =
    sym (form_by c.args.line.now false true true c.if-is_idle.ensures c.if-begins_end.ensures
    (sym c.if-not-whole.false ∙ c.requires))

pub returns-else-begins_end : goal.returns-else-begins_end
returns-else-begins_end c =
    sym (form_by c.args.line.now false false true c.if-is_idle.ensures c.if-begins_end.ensures
    (sym c.if-not-whole.false ∙ c.requires))
