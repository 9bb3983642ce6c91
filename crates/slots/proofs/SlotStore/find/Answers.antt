use Rattle.std.proofs.Common.{ap, arith}
use Rattle.stores.specs.declared.limits.Limits.{Limits}
use Rattle.stores.proofs.Calls.{number_outside, number_inside}
use Rattle.slots.proofs.Slots.{Inside, slot_inside, slot_found}
use Rattle.slots.proofs.SlotStore.find.Given as given
use Rattle.slots.proofs.SlotStore.find.Goals as goal

inside : (g : given.Over) (c : goal.Else-is_outside g) → Inside c.args.self.now.area.now c.args.self.now.lengths c.args.self.now.names c.args.self.now.longest c.args.number
inside g c = slot_inside _ _ _ _ c.args.number (number_inside _ c.args.number _ (ap (λ (l : Limits). l.names) c.tell.ensures) c.if-is_outside.ensures)

pub returns-then-is_outside : goal.returns-then-is_outside
returns-then-is_outside g c = number_outside _ c.args.number _ (ap (λ (l : Limits). l.names) c.tell.ensures) c.if-is_outside.ensures

pub overflow_mul-result : goal.overflow_mul-result
overflow_mul-result g c = let starts = (inside g c).starts in omega arith

pub offset_bounds-self-k : goal.offset_bounds-self-k
offset_bounds-self-k g c = let i = inside g c in let high = i.high in let few = i.ranges.few in omega arith

pub bounds-self-k : goal.bounds-self-k
bounds-self-k g c = let i = inside g c in let low = i.low in let high = i.high in let few = i.ranges.few in omega arith

pub returns : goal.returns
returns g c =
    let ok = number_inside _ c.args.number _ (ap (λ (l : Limits). l.names) c.tell.ensures) c.if-is_outside.ensures in
    slot_found _ _ _ _ c.args.number _ ok (omega arith) (omega arith)
