use Rattle.std.proofs.Common.{◌+◌, ◌-◌, ◌<◌, get_or, sym, refl, ap, subst, arith}
use Rattle.symbols.specs.declared.role.Role.TheVariants.{Opening, Closing, Plain}
use Rattle.scan.proofs.Blocks.{walk_far}
use Rattle.scan.proofs.Walks.{Walk, moves_by, walk_more, walk_found}
use Rattle.scan.proofs.search.Search.group_end.Goals as goal

pub returns-then-open-eq0 : goal.returns-then-open-eq0
returns-then-open-eq0 g c =
    let some : 0 < c.loop-e.open = omega arith in
    walk_found _ _ _ _ _ (c.loop-e.open - 1) _ c.loop-e-test.true (ap (get_or c.args.self.now.subject.now c.loop-e.e) c.index-self-e.is) (moves_by Closing _ _ _ (sym c.in-Closing.ensures) (some, refl)) c.loop-e.invariant c.if-open-eq0.true

pub loop-e-preserved-else-open-eq0 : goal.loop-e-preserved-else-open-eq0
loop-e-preserved-else-open-eq0 g c =
    let some : 0 < c.loop-e.open = omega arith in
    walk_more _ _ _ _ _ _ _ c.loop-e-test.true (ap (get_or c.args.self.now.subject.now c.loop-e.e) c.index-self-e.is) (moves_by Closing _ _ _ (sym c.in-Closing.ensures) (some, refl)) c.loop-e.invariant (omega arith)

pub loop-e-preserved-in-Opening : goal.loop-e-preserved-in-Opening
loop-e-preserved-in-Opening g c =
    walk_more _ _ _ _ _ _ _ c.loop-e-test.true (ap (get_or c.args.self.now.subject.now c.loop-e.e) c.index-self-e.is) (moves_by Opening _ _ _ (sym c.in-Opening.ensures) refl) c.loop-e.invariant (omega arith)

pub loop-e-preserved : goal.loop-e-preserved
loop-e-preserved g c =
    walk_more _ _ _ _ _ _ _ c.loop-e-test.true (ap (get_or c.args.self.now.subject.now c.loop-e.e) c.index-self-e.is) (moves_by Plain _ _ _ (sym c.in-Plain.ensures) refl) c.loop-e.invariant (omega arith)

pub loop-e-preserved-then-n-e-ge-BLOCK : goal.loop-e-preserved-then-n-e-ge-BLOCK
loop-e-preserved-then-n-e-ge-BLOCK g c =
    let role = g.K.Kind.acts c.args.self.now.kind.now in
    let s = c.args.self.now.subject.now in
    subst (Walk role s c.args.from (c.loop-e.e + 64)) (sym c.pass_block-open.ensures) (walk_far role s c.args.from c.loop-e.e c.loop-e.open 64 c.if-open-gt-BLOCK.true (omega arith) c.loop-e.invariant)
