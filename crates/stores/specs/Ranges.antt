-- The limits that a store may be made with, and what it then means. Assumes nothing.
use Rattle.std.specs.Prelude.{ℕ, Bool, cond, ◌&&◌, [], replicate, Some, None, Option, nat_le}
use Rattle.stores.specs.declared.refusal.StoreRefusal.{StoreRefusal}
use Rattle.stores.specs.declared.refusal.StoreRefusal.TheVariants.{OutOfRange}
use Rattle.stores.specs.Names.{Names, nothing}

-- 1 to 64 strings, each of at most 1 to 4,096 symbols, 1 to 65,536 in all, for which the area has room
unfoldable pub in_range : ℕ → ℕ → ℕ → ℕ → Bool
in_range count longest most room = (nat_le 1 count && nat_le count 64) && ((nat_le 1 longest && nat_le longest 4096) && ((nat_le 1 most && nat_le most 65536) && nat_le most room))

-- the check before a store is made
unfoldable pub check_refusal : ℕ → ℕ → ℕ → ℕ → Option StoreRefusal
check_refusal count longest most room = cond (in_range count longest most room) None (Some OutOfRange)

-- what a new store means: null strings, or nothing where the check refuses
unfoldable pub new_names : {X : Type 0} → ℕ → ℕ → ℕ → ℕ → Names X
new_names count longest most room = cond (in_range count longest most room) (record { strings = replicate count []; longest = longest; most = most }) nothing
