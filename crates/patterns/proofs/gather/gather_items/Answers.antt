use Rattle.std.proofs.Common.{◌≡◌, ◌+◌, ◌-◌, ◌*◌, ◌<◌, ◌≤◌, true, [], ◌∷◌, ◌++◌, length, get_or, take, set, Some, sym, refl, ap, ◌∙◌, mul-le-mul_right, suc-mul, add-one, arith, length-set}
use native.Mathlib.Nat.{sub-zero}
use Rattle.std.specs.Option.{option_map}
use Rattle.std.proofs.lemmas.List.{take_more_set, map_push, length-take-le}
use Rattle.scan.specs.Elements.{stands, pattern, fits, all_fit}
use Rattle.tables.specs.declared.row.Item.TheVariants.{Operand}
use Rattle.tables.specs.declared.row.Operand.TheVariants.{Literal}
use Rattle.patterns.specs.Fitted.{fit}
use Rattle.patterns.specs.Resolved.{item_element}
use Rattle.patterns.proofs.Gathers.{prepended, prepended_nil, to_come, comes_first, comes_some, comes_none, comes_last, all_fit_more, all_fit_push, pattern_before, room_for_one}
use Rattle.patterns.proofs.gather.gather_items.Goals as goal

pub loop-i-init : goal.loop-i-init
unfolding all_fit
loop-i-init g c =
    let names = g.S.Store.held c.args.store.now in
    (omega arith, refl, refl, comes_first g.K.Kind.chars c.args.listing.names.now c.args.listing.constants.now names names.longest c.args.items.now ∙ prepended_nil _)

pub gather_item-requires : goal.gather_item-requires
gather_item-requires g c =
    let l = (g.S.Store.held c.args.store.now).longest in
    let lt8 : c.loop-i.i < 8 = omega (arith, c.requires.few, c.loop-i-test.true) in
    room_for_one l c.loop-i.i c.loop-i.used (length c.loop-i.area) lt8 c.loop-i.invariant.0 (omega (arith, c.requires.room, c.loop-i.auto.area))

pub returns-in_err-element : goal.returns-in_err-element
returns-in_err-element g c =
    let names = g.S.Store.held c.args.store.now in
    let items = c.args.items.now in
    let i = c.loop-i.i in
    let chars = g.K.Kind.chars in
    let found = c.in_err-element.ensures.value ∙ ap (λ n. option_map (fit names.longest) (item_element chars c.args.listing.names.now c.args.listing.constants.now names (take n items) (get_or items i (Operand (Literal 0 0))))) (sub-zero i) in
    rw c.from_residual.ensures record {
      value = sym (c.loop-i.invariant.3 ∙ comes_none chars c.args.listing.names.now c.args.listing.constants.now names names.longest items i (Operand (Literal 0 0)) (pattern c.loop-i.area (take i c.loop-i.elements)) c.loop-i-test.true found);
      fitting = tt;
    }

pub loop-i-preserved : goal.loop-i-preserved
loop-i-preserved g c =
    let names = g.S.Store.held c.args.store.now in
    let items = c.args.items.now in
    let i = c.loop-i.i in
    let e = c.in_ok-element.element in
    let elements = c.loop-i.elements in
    let area = c.gather_item.new.area in
    let used = c.end_with-used.result in
    let chars = g.K.Kind.chars in
    let inv = c.loop-i.invariant in
    let gathers = c.in_ok-element.ensures in
    let ends = c.end_with-used.ensures in
    let more : c.loop-i.used ≤ used = omega (arith, gathers.adds.more) in
    let few : used ≤ c.loop-i.used + names.longest = omega (arith, gathers.adds.few) in
    let lt : i < length elements = omega (arith, inv.1, c.requires.few, c.loop-i-test.true) in
    let many : length (take (i - 0) items) ≡ 0 + length (take i elements) = ap (λ n. length (take n items)) (sub-zero i) ∙ length-take-le i items (omega (arith, c.loop-i-test.true)) ∙ sym (omega (arith, length-take-le i elements (omega arith))) in
    let fitting : fits used (0 + length (take i elements)) e ≡ true = ap (λ n. fits used n e) (sym many) ∙ ap (λ n. fits n (length (take (i - 0) items)) e) ends ∙ gathers.adds.fitting in
    let are : take (i + 1) (set elements i e) ≡ take i elements ++ e ∷ [] = take_more_set elements i e lt in
    let found = gathers.value ∙ ap (λ n. option_map (fit names.longest) (item_element chars c.args.listing.names.now c.args.listing.constants.now names (take n items) (get_or items i (Operand (Literal 0 0))))) (sub-zero i) in (
      omega (arith, inv.0, suc-mul i names.longest, ap (λ n. n * names.longest) (add-one i)),
      length-set elements i e ∙ inv.1,
      ap (all_fit used 0) are ∙ all_fit_push used 0 (take i elements) e (all_fit_more c.loop-i.used used 0 more (take i elements) inv.2) fitting,
      inv.3
          ∙ ap (λ t. prepended t (to_come chars c.args.listing.names.now c.args.listing.constants.now names names.longest items i)) (pattern_before c.loop-i.area area c.loop-i.used 0 (sym gathers.kept) (take i elements) inv.2)
          ∙ comes_some chars c.args.listing.names.now c.args.listing.constants.now names names.longest items i (Operand (Literal 0 0)) (pattern area (take i elements)) (stands area e) c.loop-i-test.true found
          ∙ ap (λ t. prepended t (to_come chars c.args.listing.names.now c.args.listing.constants.now names names.longest items (i + 1))) (sym (ap (pattern area) are ∙ map_push (stands area) (take i elements) e)),
    )

pub returns : goal.returns
returns g c =
    let names = g.S.Store.held c.args.store.now in
    let items = c.args.items.now in
    let i = c.loop-i.i in
    let elements = c.loop-i.elements in
    let area = c.loop-i.area in
    let inv = c.loop-i.invariant in
    let same : i ≡ length items = omega (arith, c.loop-i.auto.i-end, c.loop-i-test.false) in
    let room : c.loop-i.used ≤ length area = omega (arith, inv.0, mul-le-mul_right {m = i} {n = 8} names.longest (omega (arith, c.requires.few)), c.requires.room, c.loop-i.auto.area) in
    record {
      value = sym (inv.3 ∙ comes_last g.K.Kind.chars c.args.listing.names.now c.args.listing.constants.now names names.longest items i (pattern area (take i elements)) c.loop-i-test.false ∙ ap (λ n. Some (pattern area (take n elements))) same);
      fitting = (omega (arith, length-take-le (length items) elements (omega (arith, inv.1, c.requires.few)), c.requires.few), ap (λ n. all_fit (length area) 0 (take n elements)) (sym same) ∙ all_fit_more c.loop-i.used (length area) 0 room (take i elements) inv.2);
    }
