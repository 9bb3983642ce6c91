use Rattle.std.proofs.Common.{take, ap, ◌∙◌}
use Rattle.tables.specs.Tables.{listed}
use Rattle.statements.specs.Settled.{next_of, names_of}
use Rattle.statements.proofs.Replacing.{succeeds_with}
use Rattle.statements.proofs.carry.succeed.Goals as goal

pub returns-in-Some : goal.returns-in-Some
returns-in-Some g c =
    let names = g.S.Store.held c.args.store.now in
    let placed = c.args.placed.now in
    let statement = c.args.statement in
    let is = succeeds_with g.K.Kind.chars (listed statement.listing) statement.number statement.row.now names c.args.reference placed.start c.in-Some.side
    c.args.subject.now c.items.result.now c.ends.result.now (take placed.count placed.ends) c.in-Some.is c.requires.subject c.items.ensures c.ends.ensures in
    record { answer = c.replace.ensures.answer ∙ ap next_of is; after = c.replace.ensures.after ∙ ap (names_of names) is }
