use Rattle.std.proofs.Common.{ap, ◌∙◌}
use Rattle.tables.specs.Tables.{Tabled}
use Rattle.statements.specs.Carried.{done_by, left_by}
use Rattle.statements.specs.Settled.{names_of}
use Rattle.statements.specs.Sought.{sought}
use Rattle.session.proofs.step.carry.Goals as goal

pub returns-clause-answer : goal.returns-clause-answer
returns-clause-answer g c =
    let names = g.S.Store.held c.args.store.now in
    let row = c.args.row.now in
    let told = rw c.new-listing.ensures.kind at c.carry_out.ensures.answer in
    told ∙ ap (λ (x : Tabled _). done_by g.K.Kind.chars x c.args.number row names (sought g.K.Kind.equal (g.K.Kind.acts c.args.kind.now) c.args.mode c.args.allowance g.K.Kind.chars x.names x.constants names row)) c.new-listing.ensures.tables

pub returns-clause-after : goal.returns-clause-after
returns-clause-after g c =
    let names = g.S.Store.held c.args.store.now in
    let row = c.args.row.now in
    let told = rw c.new-listing.ensures.kind at c.carry_out.ensures.after in
    told ∙ ap (λ (x : Tabled _). names_of names (left_by g.K.Kind.chars x c.args.number row names (sought g.K.Kind.equal (g.K.Kind.acts c.args.kind.now) c.args.mode c.args.allowance g.K.Kind.chars x.names x.constants names row))) c.new-listing.ensures.tables
