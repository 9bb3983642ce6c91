-- Names within their limits find room in an area of the longest string. Assumes nothing.
use Rattle.std.proofs.Common.{◌≡◌, ℕ, zero, suc, ◌≤◌, false, length, Some, None, Option, refl, ap, arith}
use Rattle.stores.specs.Names.{Names, under}
use Rattle.std.specs.Option.{ok_or}
use Rattle.tables.specs.declared.row.Next.{Next}
use Rattle.statements.specs.declared.refusal.StatementRefusal.TheVariants.{NoName}
use Rattle.statements.specs.Settled.{left, next_of}
use Rattle.changes.specs.Limits.{over_limits}
use Rattle.changes.specs.Success.{Success}
use Rattle.changes.specs.Written.{written}
use Rattle.changes.proofs.Limits.{limit_each}
use Rattle.changes.proofs.Written.{written_limits}

pub within_each : {X : Type 0} (names : Names X) → over_limits names ≡ false → (k : ℕ) → length (under names k) ≤ names.longest
unfolding under
within_each names e zero = omega arith
within_each names e (suc k) = limit_each names e k

-- after the writes each string has room where the longest had room before
pub room_after : {X : Type 0} (success : Success X) (names : Names X) (room : ℕ) → names.longest ≤ room → over_limits (written success names) ≡ false → (k : ℕ) → length (under (written success names) k) ≤ room
room_after success names room h e k =
    let same = ap (λ (m : Names _). m.longest) (written_limits success names) in
    let each = within_each (written success names) e k in
    omega arith

-- where nothing is refused, the next statement is where the go-to leads
pub next_left : {X : Type 0} (names : Names X) (o : Option Next) → ok_or o NoName ≡ next_of (left names o)
next_left names None = refl
next_left names (Some n) = refl
