use Rattle.std.proofs.Common.{ap, arith}
use Rattle.stores.specs.declared.limits.Limits.{Limits}
use Rattle.stores.proofs.Calls.{number_outside, number_inside}
use Rattle.packed.proofs.Packs.{Inside, pack_inside, pack_found}
use Rattle.packed.proofs.PackedStore.find.Given as given
use Rattle.packed.proofs.PackedStore.find.Goals as goal
use Rattle.packed.proofs.PackedStore.find.Goals.{Else-is_outside, at-total-requires, at-offset_bounds-self-k, at-bounds-self-k}

inside : (g : given.Over) (c : Else-is_outside g) → Inside c.args.self.now c.args.number
inside g c = pack_inside c.args.self.now c.args.number (number_inside _ c.args.number _ (ap (λ (l : Limits). l.names) c.tell.ensures) c.if-is_outside.ensures)

pub returns-then-is_outside : goal.returns-then-is_outside
returns-then-is_outside g c = number_outside _ c.args.number _ (ap (λ (l : Limits). l.names) c.tell.ensures) c.if-is_outside.ensures

pub total-requires : goal.total-requires
total-requires g c = let i = inside g (at-total-requires g c).Else-is_outside in let high = i.high in let few = i.ranges.few in omega arith

pub offset_bounds-self-k : goal.offset_bounds-self-k
offset_bounds-self-k g c = let i = inside g (at-offset_bounds-self-k g c).Else-is_outside in let high = i.high in let few = i.ranges.few in omega arith

pub bounds-self-k : goal.bounds-self-k
bounds-self-k g c = let i = inside g (at-bounds-self-k g c).Else-is_outside in let low = i.low in let high = i.high in let few = i.ranges.few in omega arith

pub returns : goal.returns
returns g c =
    let ok = number_inside _ c.args.number _ (ap (λ (l : Limits). l.names) c.tell.ensures) c.if-is_outside.ensures in
    pack_found c.args.self.now c.args.number ok _ c.total.ensures c.min.ensures
