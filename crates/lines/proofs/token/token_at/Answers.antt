use Rattle.std.proofs.Common.{◌≡◌, ℕ, ◌+◌, ◌-◌, ◌<◌, true, false, ◌∷◌, length, get_or, drop, Some, None, sym, refl, ap, ◌∙◌, arith}
use Rattle.lines.specs.declared.role.Role.{Role}
use Rattle.lines.specs.Marks.{mark_of}
use Rattle.lines.specs.Next.{next}
use Rattle.lines.specs.Roles.{same_role, role_of}
use Rattle.lines.specs.Tokens.{tokens_from, extend, token}
use Rattle.std.proofs.lemmas.Bool.{not-true, not-false}
use Rattle.lines.proofs.Same.{roles_same}
use Rattle.lines.proofs.Runs.{take_more, take_other, take_last, tokens_on, tokens_stop, tokens_end, tokens_past}
use Rattle.lines.proofs.token.token_at.Goals as goal
use Rattle.lines.proofs.token.token_at.Goals.{else-loop-end-test, then-loop-end-test+in_default, then-loop-end-test+in-Some+then-ne}

pub returns-then-from-line : goal.returns-then-from-line
returns-then-from-line c = tokens_past c.args.reading c.args.line.now c.args.from (omega arith)

pub returns-in_err-begun : goal.returns-in_err-begun
returns-in_err-begun c =
    let h : c.args.from < length c.args.line.now = omega arith in
    let e₀ = c.in_err-begun.ensures in
    let e : next c.args.reading (mark_of (get_or c.args.line.now c.args.from 0)) ≡ None = cc in
    rw c.from_residual.ensures (tokens_stop c.args.reading c.args.line.now c.args.from h e)

pub loop-end-init : goal.loop-end-init
loop-end-init c = (
  omega arith,
  omega arith,
  ap (λ (n : ℕ). extend c.args.from c.from-role.result n (tokens_from c.in_ok-begun.begun (c.args.from + 1) (drop (c.args.from + 1) c.args.line.now))) (omega arith),
)

pub loop-end-preserved : goal.loop-end-preserved
loop-end-preserved c =
    let h : c.loop-end.end < length c.args.line.now = omega arith in
    let e₀ = c.in-Some.ensures in
    let e : next c.loop-end.reading (mark_of (get_or c.args.line.now c.loop-end.end 0)) ≡ Some c.in-Some.then = cc in
    let q = c.ne.ensures in
    let m = roles_same c.from-in-loop-end-2.result c.from-role.result in
    let r : same_role (role_of c.in-Some.then) c.from-role.result ≡ true = rw (← c.from-in-loop-end-2.ensures, ← m) (not-false _ (sym q ∙ c.if-ne.false)) in (
      omega arith,
      omega arith,
      take_more c.args.line.now c.args.from c.loop-end.end c.from-role.result c.loop-end.reading _ c.loop-end.invariant.0 c.loop-end.invariant.2
          h c.in-Some.then e r,
    )

-- what the line gives from the token on, as the loop left it
all_from : (c : goal.Left-loop-end) → tokens_from c.args.reading c.args.from (drop c.args.from c.args.line.now)
    ≡ extend c.args.from c.from-role.result (c.loop-end.end - c.args.from) (tokens_from c.loop-end.reading c.loop-end.end (drop c.loop-end.end c.args.line.now))
all_from c =
    let h : c.args.from < length c.args.line.now = omega arith in
    let e₀ = c.in_ok-begun.ensures in
    let e : next c.args.reading (mark_of (get_or c.args.line.now c.args.from 0)) ≡ Some c.in_ok-begun.begun = cc in
    tokens_on c.args.reading c.args.line.now c.args.from h c.in_ok-begun.begun e
    ∙ ap (λ (r : Role). extend c.args.from r 1 (tokens_from c.in_ok-begun.begun (c.args.from + 1) (drop (c.args.from + 1) c.args.line.now))) (sym c.from-role.ensures)
    ∙ c.loop-end.invariant.2

abbrev Rest : goal.Left-loop-end → Type 0
Rest c =
    tokens_from c.args.reading c.args.from (drop c.args.from c.args.line.now)
    ≡ token c.from-role.result c.args.from (c.loop-end.end - c.args.from) ∷ tokens_from c.loop-end.reading c.loop-end.end (drop c.loop-end.end c.args.line.now)

rest_from : (c : goal.Left-loop-end) → Rest c
rest_from c =
    elim c.loop-end-test.branch [
      | else-loop-end-test w ↦
          take_last c.args.line.now c.args.from c.loop-end.end c.from-role.result c.loop-end.reading _ c.loop-end.invariant.0 (all_from c)
          (tokens_end c.loop-end.reading c.args.line.now c.loop-end.end (omega arith))
      | then-loop-end-test+in_default w ↦
          (let h : c.loop-end.end < length c.args.line.now = omega arith in
          let e₀ = w.in_default.ensures in
          let e : next c.loop-end.reading (mark_of (get_or c.args.line.now c.loop-end.end 0)) ≡ None = cc in
          take_last c.args.line.now c.args.from c.loop-end.end c.from-role.result c.loop-end.reading _ c.loop-end.invariant.0 (all_from c)
          (tokens_stop c.loop-end.reading c.args.line.now c.loop-end.end h e))
      | then-loop-end-test+in-Some+then-ne w ↦
          (let h : c.loop-end.end < length c.args.line.now = omega arith in
          let e₀ = w.in-Some.ensures in
          let e : next c.loop-end.reading (mark_of (get_or c.args.line.now c.loop-end.end 0)) ≡ Some w.in-Some.then = cc in
          let q = w.ne.ensures in
          let m = roles_same w.from-in-loop-end-2.result c.from-role.result in
          let r : same_role (role_of w.in-Some.then) c.from-role.result ≡ false = rw (← w.from-in-loop-end-2.ensures, ← m) (not-true _ (sym q ∙ w.if-ne.true)) in
          take_other c.args.line.now c.args.from c.loop-end.end c.from-role.result c.loop-end.reading _ c.loop-end.invariant.0 (all_from c)
          h w.in-Some.then e r)
    ]

pub returns : goal.returns
returns c =
    record {
      start = refl;
      some = omega arith;
      within = omega arith;
      rest = rest_from c
          ∙ ap (λ (j : ℕ). token c.from-role.result c.args.from (c.loop-end.end - c.args.from) ∷ tokens_from c.loop-end.reading j (drop j c.args.line.now)) (omega arith);
    }
