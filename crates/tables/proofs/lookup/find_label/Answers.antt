use Rattle.tables.specs.Lookups.{label_spelled}
use Rattle.tables.specs.Rows.{Row}
use Rattle.tables.proofs.Lookups.{found}
use Rattle.tables.proofs.lookup.find_label.Goals as goal

pub returns-in-END-clause-first : goal.returns-in-END-clause-first
returns-in-END-clause-first c = found (λ (row : Row). label_spelled c.args.chars.now row.label) c.args.rows.now

pub returns-in_default-clause-first : goal.returns-in_default-clause-first
returns-in_default-clause-first c = found (λ (row : Row). label_spelled c.args.chars.now row.label) c.args.rows.now
