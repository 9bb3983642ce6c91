use Rattle.std.proofs.Common.{length}
use Rattle.checks.proofs.Admitted.{decides_answer}
use Rattle.checks.proofs.admit.admits.Goals as goal

pub returns : goal.returns
returns g c =
    let lent = c.args.tables in
    let exact = decides_answer c.args.names c.args.counts lent.sheet.now lent.rows.now (length lent.constants.now) c.is_admitted.result c.is_admitted.ensures in
    record { value = c.is_admitted.ensures; sound = exact.0; only = exact.1 }
