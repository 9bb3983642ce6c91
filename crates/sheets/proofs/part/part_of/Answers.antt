use Rattle.sheets.proofs.Searches.{part_clipped}
use Rattle.sheets.proofs.part.part_of.Goals as goal

pub returns : goal.returns
returns c = part_clipped c.args.text.now c.args.part c.min-start.result c.min.result c.min-start.ensures c.min.ensures
