use Rattle.std.proofs.Common.{ap, ◌∙◌}
use Rattle.std.specs.Result.{result_unwrap_or}
use Rattle.patterns.proofs.Fetched.{fetched}
use Rattle.patterns.proofs.strings.contents.Goals as goal

pub returns : goal.returns
returns g c =
    let f = fetched (g.R.Strings.names c.args.strings.now) c.args.number c.args.area.now c.requires in
    record {
      value = c.unwrap_or.ensures ∙ ap (λ r. result_unwrap_or r 0) c.read.ensures.answer ∙ f.0;
      area = c.read.ensures.area ∙ f.1;
    }
