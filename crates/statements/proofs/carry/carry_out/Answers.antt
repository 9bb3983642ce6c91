use Rattle.std.proofs.Common.{sym, arith}
use Rattle.statements.proofs.Cutting.{sought_ready}
use Rattle.statements.proofs.carry.carry_out.Goals as goal

pub conclude-next-requires : goal.conclude-next-requires
conclude-next-requires g c =
    let names = g.S.Store.held c.args.store.now in
    let ready = sought_ready g.K.Kind.equal g.met.K.Kind.decides (g.K.Kind.acts c.args.statement.listing.kind.now) c.args.mode c.args.allowance g.K.Kind.chars c.args.statement.listing.names.now c.args.statement.listing.constants.now names c.args.statement.row.now c.requires.carriable c.in_ok-sought.sought (sym c.in_ok-sought.ensures.value) in
    record {
      cuts = ready.0;
      reference = ready.1;
      within = c.in_ok-sought.ensures.fetched.0;
      string = c.in_ok-sought.ensures.fetched.1;
      contents = c.requires.contents;
      scratch = omega (arith, c.requires.area, c.seek.auto.area);
    }
