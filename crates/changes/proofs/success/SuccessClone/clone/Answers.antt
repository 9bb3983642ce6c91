use Rattle.changes.proofs.Copies.{copied}
use Rattle.changes.proofs.success.SuccessClone.clone.Goals as goal

pub returns : goal.returns
returns g c = record { cases = copied c.args.self.now _ }
