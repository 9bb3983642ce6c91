use Rattle.std.proofs.Common.{◌+◌, ◌≤◌, arith}
use Rattle.std.proofs.lemmas.Result.{err_from_is_err_and}
use mir.Facts.{Fits-below}
use Rattle.scan.proofs.Walking.{walking_none, walking_reads, walking_forward, walking_placed, walking_spent, walking_back, walking_found, walking_before, walking_resumed, walking_missed, walking_refused}
use Rattle.scan.proofs.search.Search.from_start.Goals as goal

pub loop-end-init : goal.loop-end-init
loop-end-init g c = walking_none g.K.Kind.equal (g.K.Kind.acts c.args.self.now.kind.now) c.args.self.now.subject.now c.args.self.now.constants.now c.args.self.now.elements.now c.args.start c.args.trials c.args.rows.now c.told-rows c.requires c.args.self.now.some c.args.self.now.few c.args.self.now.fit

pub compared-other-requires : goal.compared-other-requires
compared-other-requires g c = walking_reads c.loop-end.invariant

pub loop-end-preserved-in-Forward : goal.loop-end-preserved-in-Forward
loop-end-preserved-in-Forward g c = walking_forward c.loop-end.invariant c.enter.result c.enter.new.row c.compared-other.ensures c.enter.ensures.end c.enter.ensures.after c.in-Forward.end c.in-Forward.ensures

pub retreat-requires : goal.retreat-requires
retreat-requires g c = walking_back c.loop-end.invariant c.enter.result c.enter.new.row c.compared-other.ensures c.enter.ensures.end c.enter.ensures.after

pub returns-in_err-j-in-Back : goal.returns-in_err-j-in-Back
returns-in_err-j-in-Back g c =
    let p = err_from_is_err_and c.from_residual.result c.from_residual.ensures.1 in
    rw (p.1, p.2) (walking_refused c.loop-end.invariant c.enter.result c.enter.new.row c.compared-other.ensures c.enter.ensures.end c.enter.ensures.after c.retreat.new.rows c.in-Back.ensures c.in_err-j-in-Back.field-0.0 c.in_err-j-in-Back.ensures)

pub returns-in_default : goal.returns-in_default
returns-in_default g c =
    walking_missed c.loop-end.invariant c.enter.result c.enter.new.row c.compared-other.ensures c.enter.ensures.end c.enter.ensures.after c.retreat.new.rows c.in-Back.ensures (walking_found c.loop-end.invariant c.enter.result c.enter.new.row c.compared-other.ensures c.enter.ensures.end c.enter.ensures.after c.retreat.new.rows _ _ c.in_default.is c.in_ok-j-in-Back.ensures)

-- a walk back ends at a row before, with a trial left
pub overflow_add-i-in-Back : goal.overflow_add-i-in-Back
overflow_add-i-in-Back g c =
    let h = walking_before c.loop-end.invariant c.enter.result c.enter.new.row c.compared-other.ensures c.enter.ensures.end c.enter.ensures.after c.retreat.new.rows c.in-Some.j c.in-Some.end (walking_found c.loop-end.invariant c.enter.result c.enter.new.row c.compared-other.ensures c.enter.ensures.end c.enter.ensures.after c.retreat.new.rows _ _ c.in-Some.is c.in_ok-j-in-Back.ensures) in
    let short = c.loop-end.invariant.onward.short in
    let few = c.loop-end.invariant.few in
    let l : c.in-Some.j + 1 ≤ 8 = omega arith in
    Fits-below {n = 8} tt l

pub overflow_sub-left-in-Back : goal.overflow_sub-left-in-Back
overflow_sub-left-in-Back g c = let h = walking_before c.loop-end.invariant c.enter.result c.enter.new.row c.compared-other.ensures c.enter.ensures.end c.enter.ensures.after c.retreat.new.rows c.in-Some.j c.in-Some.end (walking_found c.loop-end.invariant c.enter.result c.enter.new.row c.compared-other.ensures c.enter.ensures.end c.enter.ensures.after c.retreat.new.rows _ _ c.in-Some.is c.in_ok-j-in-Back.ensures) in omega arith

pub loop-end-smaller : goal.loop-end-smaller
loop-end-smaller g c = let h = walking_before c.loop-end.invariant c.enter.result c.enter.new.row c.compared-other.ensures c.enter.ensures.end c.enter.ensures.after c.retreat.new.rows c.in-Some.j c.in-Some.end (walking_found c.loop-end.invariant c.enter.result c.enter.new.row c.compared-other.ensures c.enter.ensures.end c.enter.ensures.after c.retreat.new.rows _ _ c.in-Some.is c.in_ok-j-in-Back.ensures) in omega arith

pub loop-end-preserved : goal.loop-end-preserved
loop-end-preserved g c = walking_resumed c.loop-end.invariant c.enter.result c.enter.new.row c.compared-other.ensures c.enter.ensures.end c.enter.ensures.after c.retreat.new.rows c.in-Back.ensures c.in-Some.j c.in-Some.end (walking_found c.loop-end.invariant c.enter.result c.enter.new.row c.compared-other.ensures c.enter.ensures.end c.enter.ensures.after c.retreat.new.rows _ _ c.in-Some.is c.in_ok-j-in-Back.ensures)

pub returns-in-Done : goal.returns-in-Done
returns-in-Done g c = walking_placed c.loop-end.invariant c.enter.result c.enter.new.row c.compared-other.ensures c.enter.ensures.end c.enter.ensures.after c.in-Done.ensures c.placing.result c.placing.ensures

pub returns-in-Spent : goal.returns-in-Spent
returns-in-Spent g c = walking_spent c.loop-end.invariant c.enter.result c.enter.new.row c.compared-other.ensures c.enter.ensures.end c.enter.ensures.after c.in-Spent.ensures
