use Rattle.scan.proofs.Resuming.{returning_all, returning_forward, returning_spent, returning_more}
use Rattle.scan.proofs.search.Search.retreat.Goals as goal

pub returns-in-Forward : goal.returns-in-Forward
returns-in-Forward g c = returning_forward c.loop-i.invariant c.loop-i-test.true c.args.left c.advance.result c.advance.new.row c.advance.ensures.end c.advance.ensures.after c.in-Forward.end c.in-Forward.ensures

pub loop-i-preserved : goal.loop-i-preserved
loop-i-preserved g c = returning_more c.loop-i.invariant c.loop-i-test.true c.args.left c.advance.result c.advance.new.row c.advance.ensures.end c.advance.ensures.after c.in-Back.ensures

pub returns-in-Spent : goal.returns-in-Spent
returns-in-Spent g c = returning_spent c.loop-i.invariant c.loop-i-test.true c.args.left c.advance.result c.advance.new.row c.advance.ensures.end c.advance.ensures.after c.args.rows.now c.in-Spent.ensures

pub returns : goal.returns
returns g c = returning_all c.loop-i.invariant c.args.left c.args.rows.now c.loop-i-test.false
