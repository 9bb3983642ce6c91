use Rattle.std.proofs.Common.{length, Err, sym, ◌∙◌, subst}
use Rattle.std.proofs.lemmas.Bool.{cond-true}
use Rattle.placings.specs.Enumeration.{scanned}
use Rattle.scan.specs.declared.answer.ScanRefusal.TheVariants.{OutOfRange}
use Rattle.scan.specs.Answers.{in_range, returned, AnswerSays}
use Rattle.scan.specs.Elements.{pattern}
use Rattle.scan.proofs.Saying.{answer_says}
use Rattle.scan.proofs.scan.Goals as goal

pub returns : goal.returns
returns g c =
    let eq = g.K.Kind.equal in
    let role = g.K.Kind.acts c.args.kind.now in
    let s = c.args.subject.now in
    let constants = c.args.constants.now in
    let es = c.args.elements.now in
    record {
      value = c.starts.ensures ∙ sym (cond-true (in_range (length constants) es c.args.allowance) (returned (scanned eq role c.args.mode s (pattern constants es) c.args.allowance)) (Err OutOfRange) (sym c.if-not-in_range.ensures));
      says = subst (AnswerSays role c.args.mode s (pattern constants es) c.args.allowance) (sym c.starts.ensures) (answer_says eq g.met.K.Kind.decides role c.args.mode s (pattern constants es) c.args.allowance);
    }
