use Rattle.std.proofs.Common.{◌≡◌, ◌∷◌, get_or, drop}
use Rattle.std.specs.Option.{option_copied, option_or}
use Rattle.changes.specs.Sources.{last_part}
use Rattle.changes.proofs.success.Success.last_part.Given as goal

-- the elements still to come, or else what was found so far, give what all of them do
abbrev pub invariant-loop-i : goal.invariant-loop-i
invariant-loop-i g l =
    (l.from ≡ get_or (l.self.start ∷ l.self.ends.now) l.i 0)
    × (option_or (last_part l.self.subject.now l.name l.from (drop l.i l.self.items.now) (drop l.i l.self.ends.now)) (option_copied l.found) ≡ last_part l.self.subject.now l.name l.self.start l.self.items.now l.self.ends.now)
