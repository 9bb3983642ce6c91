use Rattle.std.proofs.Common.{◌∙◌}
use Rattle.lines.proofs.Endings.{starts_end}
use Rattle.lines.proofs.line.begins_end.Goals as goal

pub returns : goal.returns
returns c = c.starts_with.ensures.value ∙ starts_end c.args.line.now
