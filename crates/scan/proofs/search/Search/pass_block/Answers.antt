use Rattle.std.proofs.Common.{◌+◌, ◌≤◌, length, arith, rules}
use Rattle.placings.specs.Pattern.{part}
use Rattle.scan.proofs.Parts.{length_part}
use Rattle.scan.proofs.Blocks.{openings_few, closings_few}
use Rattle.scan.proofs.search.Search.pass_block.Goals as goal

pub overflow_add-result : goal.overflow_add-result
overflow_add-result g c =
    let few = openings_few (g.K.Kind.acts c.args.self.now.kind.now) (part c.args.self.now.subject.now c.args.from (c.args.from + 64)) in
    let long = length_part c.args.self.now.subject.now c.args.from (c.args.from + 64) (omega arith) (omega arith) in
    let is = c.tally-opened.ensures.opened in
    let h : c.args.before + c.tally-opened.result.0 ≤ length c.args.self.now.subject.now = omega arith in
    search rules

pub overflow_sub-result : goal.overflow_sub-result
overflow_sub-result g c =
    let few = closings_few (g.K.Kind.acts c.args.self.now.kind.now) (part c.args.self.now.subject.now c.args.from (c.args.from + 64)) in
    let long = length_part c.args.self.now.subject.now c.args.from (c.args.from + 64) (omega arith) (omega arith) in
    let is = c.tally-opened.ensures.closed in
    omega arith
