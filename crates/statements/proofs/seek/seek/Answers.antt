use Rattle.std.proofs.Common.{◌≡◌, ◌-◌, length, take, sym, ap, ◌∙◌, subst, arith}
use Rattle.stores.specs.Names.{under}
use Rattle.tables.specs.Rows.{items_in}
use Rattle.patterns.specs.Meant.{meant}
use Rattle.patterns.specs.Resolved.{resolved}
use Rattle.patterns.proofs.Fetched.{front}
use Rattle.statements.specs.Sought.{element_verdict, found, Fetched}
use Rattle.statements.proofs.Seeking.{fetched_found, sought_is}
use Rattle.statements.proofs.seek.seek.Goals as goal

pub returns : goal.returns
returns g c =
    let names = g.S.Store.held c.args.store.now in
    let eq = g.K.Kind.equal in
    let role = g.K.Kind.acts c.args.statement.listing.kind.now in
    let t = c.in-Some.reference in
    let n = c.contents-length.result in
    let string = c.contents-length.new.area in
    let area = c.gather.new.area in
    let gathered = c.in_ok-gathered.gathered in
    let many = c.contents-length.ensures.value in
    let each = (g.S.Store.bounds c.args.store.now).each t in
    let room = c.requires.string in
    let whole : n - 0 ≡ n = omega arith in
    let s : take n string ≡ under names t = ap (λ k. take k string) (sym whole) ∙ ap (take (n - 0)) c.contents-length.ensures.area ∙ front (under names t) _ n many in
    let shows = c.judge-judged.ensures ∙ ap (element_verdict eq role c.args.mode c.args.allowance (take (n - 0) string) area) c.elements-elements.ensures in
    record {
      value =
          c.found.ensures ∙ ap (found t n) shows
          ∙ sought_is eq role c.args.mode c.args.allowance c.requires.low c.requires.high names.longest names t (meant g.K.Kind.chars c.args.statement.listing.names.now names c.args.statement.row.now.reference)
          (resolved g.K.Kind.chars c.args.statement.listing.names.now c.args.statement.listing.constants.now names (items_in c.args.statement.row.now.pattern)) area (length c.args.area.now) gathered (take (n - 0) string) n
          c.requires.area c.in-Some.ensures c.in_ok-gathered.ensures.value c.in_ok-gathered.ensures.serves
          (ap (λ k. take k string) whole ∙ s) (omega (arith, ap length (ap (λ k. take k string) whole ∙ s), each)) many;
      fetched =
          subst (Fetched names string) (sym c.found.ensures)
          (fetched_found names string t n c.judge-judged.result (omega (arith, many, each, room, c.contents-length.auto.area)) s);
    }
