use Rattle.std.proofs.Common.{◌≡◌, ◌+◌, ◌-◌, ◌∙◌, ap, unwrap_or, arith}
use Rattle.std.proofs.lemmas.Result.{err_from_is_err_and}
use Rattle.scan.proofs.Searching.{searching_none, searching_reach, searching_spent, searching_passed, searching_refused, searching_done, searching_more}
use Rattle.scan.proofs.search.Search.starts.Goals as goal
use Rattle.scan.proofs.search.Search.starts.Goals.{in_default-verdict-via-in-Failure+else-at-last, in_default-verdict-via-in_default-verdict}

pub loop-left-init : goal.loop-left-init
loop-left-init g c = searching_none g.K.Kind.equal (g.K.Kind.acts c.args.self.now.kind.now) c.args.self.now.subject.now c.args.self.now.constants.now c.args.self.now.elements.now c.final_start-last.result c.head-head.result c.args.allowance c.args.self.now.some

pub returns-then-left-passed : goal.returns-then-left-passed
returns-then-left-passed g c =
    let at = c.unwrap_or.ensures in
    searching_spent c.loop-left.invariant c.args.mode c.final_start-last.ensures c.head-head.ensures c.next_start-stop.result c.next_start-stop.ensures (omega arith)

pub returns-in_default : goal.returns-in_default
returns-in_default g c =
    let at : c.unwrap_or.result ≡ c.final_start-last.result = c.unwrap_or.ensures ∙ ap (λ o. unwrap_or o c.final_start-last.result) c.in_default.is in
    let reach = searching_reach c.loop-left.invariant c.args.mode c.final_start-last.ensures c.head-head.ensures in
    searching_passed c.loop-left.invariant c.args.mode c.final_start-last.ensures c.head-head.ensures c.in_default.ensures (c.loop-left.left - (c.unwrap_or.result - c.loop-left.start + 1)) (omega arith)

pub returns-in_err-verdict : goal.returns-in_err-verdict
returns-in_err-verdict g c =
    let p = err_from_is_err_and c.from_residual.result c.from_residual.ensures.1 in
    let stop : c.unwrap_or.result ≡ c.in-Some.at = c.unwrap_or.ensures ∙ ap (λ o. unwrap_or o c.final_start-last.result) c.in-Some.is in
    let reach = c.in-Some.ensures.0 in
    rw (p.1, p.2) (searching_refused c.loop-left.invariant c.args.mode c.final_start-last.ensures c.head-head.ensures c.in-Some.at c.in-Some.ensures (c.loop-left.left - (c.unwrap_or.result - c.loop-left.start + 1)) (omega arith) c.in_err-verdict.field-0.0 c.in_err-verdict.ensures)

pub loop-left-preserved : goal.loop-left-preserved
loop-left-preserved g c =
    let stop : c.unwrap_or.result ≡ c.in-Some.at = c.unwrap_or.ensures ∙ ap (λ o. unwrap_or o c.final_start-last.result) c.in-Some.is in
    let reach = c.in-Some.ensures.0 in
    searching_more c.loop-left.invariant c.in-Some.at c.in-Some.ensures (c.loop-left.left - (c.unwrap_or.result - c.loop-left.start + 1)) (omega arith) c.in_ok-verdict.field-0 c.in_ok-verdict.ensures c.in-Failure.is c.if-at-last.true

pub returns-in_default-verdict : goal.returns-in_default-verdict
returns-in_default-verdict g c =
    let stop : c.unwrap_or.result ≡ c.in-Some.at = c.unwrap_or.ensures ∙ ap (λ o. unwrap_or o c.final_start-last.result) c.in-Some.is in
    let reach = c.in-Some.ensures.0 in
    let to = c.in-Some.ensures.1 in
    searching_done c.loop-left.invariant c.args.mode c.final_start-last.ensures c.head-head.ensures c.in-Some.at c.in-Some.ensures (c.loop-left.left - (c.unwrap_or.result - c.loop-left.start + 1)) (omega arith) c.in_ok-verdict.field-0 c.in_ok-verdict.ensures
    (λ failure.
    elim c.in_default-verdict.branch [
      | in_default-verdict-via-in-Failure+else-at-last w ↦ let l = w.if-at-last.false in omega arith
      | in_default-verdict-via-in_default-verdict w ↦ absurd (w.in_default-verdict.not-Failure failure)
    ])
