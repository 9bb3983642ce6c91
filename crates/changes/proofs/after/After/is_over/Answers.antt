use Rattle.std.proofs.Common.{◌+◌, ◌<◌, ◌≤◌, length, refl, ap, arith, rules}
use Rattle.stores.specs.declared.limits.Limits.{Limits}
use Rattle.changes.specs.Told.{told}
use Rattle.changes.specs.Written.{written}
use Rattle.changes.proofs.Limits.{limited, size_more, over_one, over_all, over_more, over_none}
use Rattle.changes.proofs.after.After.is_over.Goals as goal

pub loop-i-init : goal.loop-i-init
loop-i-init g c = (omega arith, omega arith, refl)

pub returns-then-n-limits : goal.returns-then-n-limits
returns-then-n-limits g c =
    let after = written (told c.args.self.now.success) (g.S.Store.held c.args.self.now.store.now) in
    let l = limited (told c.args.self.now.success) (g.S.Store.held c.args.self.now.store.now) c.tell-limits.result c.tell-limits.ensures in
    over_one after c.loop-i.i c.length_of-n.result (omega (arith, l.count, c.loop-i-test.true)) c.length_of-n.ensures c.loop-i.invariant.2 (omega (arith, l.longest, c.if-n-limits.true))

pub overflow_sub-limits : goal.overflow_sub-limits
overflow_sub-limits g c =
    let l = limited (told c.args.self.now.success) (g.S.Store.held c.args.self.now.store.now) c.tell-limits.result c.tell-limits.ensures in
    omega (arith, l.most, c.loop-i.invariant.0)

pub returns-then-n-limits-2 : goal.returns-then-n-limits-2
returns-then-n-limits-2 g c =
    let after = written (told c.args.self.now.success) (g.S.Store.held c.args.self.now.store.now) in
    let l = limited (told c.args.self.now.success) (g.S.Store.held c.args.self.now.store.now) c.tell-limits.result c.tell-limits.ensures in
    over_all after c.loop-i.i c.length_of-n.result (omega (arith, l.count, c.loop-i-test.true)) c.length_of-n.ensures c.loop-i.sum c.loop-i.invariant.1 (omega (arith, l.most, c.if-n-limits-2.true, c.loop-i.invariant.0))

pub overflow_add-sum : goal.overflow_add-sum
overflow_add-sum g c =
    let small = (g.S.Store.bounds c.args.self.now.store.now).small in
    let most = ap (λ (l : Limits). l.most) c.tell-limits.ensures in
    let l = limited (told c.args.self.now.success) (g.S.Store.held c.args.self.now.store.now) c.tell-limits.result c.tell-limits.ensures in
    let all : c.loop-i.sum + c.length_of-n.result ≤ 65536 = omega (arith, l.most, c.if-n-limits-2.false, c.loop-i.invariant.0) in
    search rules

pub loop-i-preserved : goal.loop-i-preserved
loop-i-preserved g c =
    let after = written (told c.args.self.now.success) (g.S.Store.held c.args.self.now.store.now) in
    let l = limited (told c.args.self.now.success) (g.S.Store.held c.args.self.now.store.now) c.tell-limits.result c.tell-limits.ensures in
    let lt : c.loop-i.i < length after.strings = omega (arith, l.count, c.loop-i-test.true) in (
      omega (arith, l.most, c.if-n-limits-2.false, c.loop-i.invariant.0),
      omega (arith, c.loop-i.invariant.1, size_more after c.loop-i.i c.length_of-n.result lt c.length_of-n.ensures),
      over_more after c.loop-i.i c.length_of-n.result lt c.length_of-n.ensures c.loop-i.invariant.2 (omega (arith, l.longest, c.if-n-limits.false)),
    )

pub returns : goal.returns
returns g c =
    let after = written (told c.args.self.now.success) (g.S.Store.held c.args.self.now.store.now) in
    let l = limited (told c.args.self.now.success) (g.S.Store.held c.args.self.now.store.now) c.tell-limits.result c.tell-limits.ensures in
    over_none after c.loop-i.i c.loop-i.sum (omega (arith, l.count, c.loop-i-test.false)) c.loop-i.invariant.0 c.loop-i.invariant.1 c.loop-i.invariant.2
