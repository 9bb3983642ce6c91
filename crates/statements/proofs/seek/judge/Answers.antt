use Rattle.std.proofs.Common.{length, sym, ap, ◌∙◌, arith}
use Rattle.joins.proofs.Renewals.{not_empty}
use Rattle.statements.specs.Sought.{judged}
use Rattle.statements.proofs.Seeking.{verdict_some}
use Rattle.statements.proofs.seek.judge.Goals as goal

pub returns : goal.returns
returns g c =
    let some = not_empty (length c.args.elements.now) (sym c.is_empty.ensures ∙ c.if-is_empty.false) in
    ap judged c.in_ok-scan.ensures.value
    ∙ verdict_some g.K.Kind.equal (g.K.Kind.acts c.args.kind.now) c.args.mode c.args.allowance c.args.subject.now c.args.constants.now c.args.elements.now (omega (arith, some))
