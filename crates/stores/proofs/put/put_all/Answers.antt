use Rattle.std.proofs.Common.{◌≡◌, sym, refl, ap, ◌∙◌, arith}
use Rattle.stores.specs.Puts.{after_puts}
use Rattle.stores.specs.Names.{limits, under}
use Rattle.stores.proofs.Puts.{puts_more, puts_none, last_stands, puts_limits}
use Rattle.stores.proofs.put.put_all.Goals as goal
use Rattle.stores.proofs.put.put_all.Goals.{then-is_ok, else-is_ok}

pub loop-put-init : goal.loop-put-init
loop-put-init g c = (omega arith, refl, omega arith)

pub loop-put-preserved : goal.loop-put-preserved
loop-put-preserved g c =
    let held = g.S.Store.held in
    let t = puts_more (held c.loop-put.store) (held c.put.new.self) c.args.puts.now c.loop-put.put-index c.put-item.result c.put.result c.is_ok.result c.loop-put-test.true c.put-item.is c.put.ensures.answer c.is_ok.ensures.value c.put.ensures.after in
    let all = c.loop-put.invariant.1 in
    elim c.if-is_ok.branch [
      | then-is_ok w ↦ (omega (arith, w.count-is), sym t.leaves ∙ all, let one = rw w.if-is_ok.true at t.counts in omega (arith, one, w.count-is, c.loop-put.invariant.2))
      | else-is_ok w ↦ (omega (arith, w.count-is), sym t.leaves ∙ all, let none = rw w.if-is_ok.false at t.counts in omega (arith, none, w.count-is, c.loop-put.invariant.2))
    ]

pub returns : goal.returns
returns g c =
    let names = g.S.Store.held c.args.store.now in
    let puts = c.args.puts.now in
    let end = puts_none (g.S.Store.held c.loop-put.store) puts c.loop-put.put-index c.loop-put-test.false in
    let e0 = end.0 in
    let e1 = end.1 in
    let after : g.S.Store.held c.loop-put.store ≡ after_puts names puts = sym e0 ∙ c.loop-put.invariant.1 in
    record {
      answer = omega arith;
      after = after;
      last = λ k. ap (λ n. under n k) after ∙ last_stands names puts k;
      same = ap limits after ∙ puts_limits names puts;
    }
