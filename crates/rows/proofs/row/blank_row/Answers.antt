use Rattle.rows.proofs.Filling.{row_blank}
use Rattle.rows.proofs.row.blank_row.Goals as goal

pub returns : goal.returns
returns g c = row_blank
