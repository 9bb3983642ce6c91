use Rattle.std.proofs.Common.{◌≡◌, ◌+◌, ◌-◌, ◌<◌, ◌≤◌, length, drop}
use Rattle.lines.specs.Tokens.{extend, tokens_from}
use Rattle.lines.proofs.token.token_at.Given as goal

abbrev pub invariant-loop-end : goal.invariant-loop-end
invariant-loop-end l =
    (l.from < l.end) × (l.end ≤ length l.line)
    × (extend l.from l.role 1 (tokens_from l.initial.reading (l.from + 1) (drop (l.from + 1) l.line))
    ≡ extend l.from l.role (l.end - l.from) (tokens_from l.reading l.end (drop l.end l.line)))

abbrev pub decreases-loop-end : goal.decreases-loop-end
decreases-loop-end l = length l.line - l.end
