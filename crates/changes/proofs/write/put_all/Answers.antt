use Rattle.std.proofs.Common.{◌<◌, length, refl, ap, arith}
use Rattle.stores.specs.declared.limits.Limits.{Limits}
use Rattle.changes.specs.Told.{told}
use Rattle.changes.proofs.Passes.{passed_more, passed_all}
use Rattle.changes.proofs.write.put_all.Given as given
use Rattle.changes.proofs.write.put_all.Goals as goal

pub loop-i-init : goal.loop-i-init
loop-i-init g c = λ change law ok. refl

pub loop-i-preserved : goal.loop-i-preserved
loop-i-preserved g c =
    let names = g.S.Store.held c.args.store.now in
    let lt : c.loop-i.i < length names.strings = omega (arith, ap (λ (l : Limits). l.names) c.tell-limits.ensures, c.loop-i-test.true) in
    passed_more (given.F-post g c.args.change) (λ s. s.now) (told c.args.success) names c.loop-i.i (g.S.Store.held c.loop-i.store) (g.S.Store.held c.put_one.new.store) lt c.loop-i.invariant _ _ c.map.ensures.cases c.new_string.ensures.value c.put_one.ensures

pub returns : goal.returns
returns g c =
    let many = ap (λ (l : Limits). l.names) c.tell-limits.ensures in
    passed_all (given.F-post g c.args.change) (λ s. s.now) (told c.args.success) (g.S.Store.held c.args.store.now) c.loop-i.i (g.S.Store.held c.loop-i.store) (omega (arith, many, c.loop-i-test.false)) c.loop-i.invariant
