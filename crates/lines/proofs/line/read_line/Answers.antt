use Rattle.std.proofs.Common.{ℕ, ◌≤◌, length, sym, subst}
use Rattle.lines.specs.Lines.{Says, Longest}
use Rattle.lines.proofs.Colours.{tokenized}
use Rattle.lines.proofs.Forms.{says}
use Rattle.lines.proofs.NameForms.{name_form}
use Rattle.lines.proofs.Walk.{longest_stands, longest_within}
use Rattle.lines.proofs.line.read_line.Goals as goal

pub returns : goal.returns
returns c =
    let reach = c.walk-walked.ensures.reach in
    let form = c.line_form.ensures in
    record {
      reach = reach;
      within = subst (λ (n : ℕ). n ≤ length c.args.line.now) (sym reach) (longest_within c.args.line.now);
      longest = subst (Longest c.args.line.now) (sym reach) (longest_stands c.args.line.now);
      form = form;
      says = subst (Says c.args.line.now) (sym form) (says c.args.line.now);
      tokens = tokenized c.args.line.now;
      names = name_form;
    }
