use Rattle.std.proofs.Common.{◌+◌, ◌-◌, ◌≤◌, leb, length, Some, sym, ap, ◌∙◌, arith, rules}
use borrow.Rule.Slice.PartMut.{put_mid}
use Rattle.std.proofs.lemmas.Bool.{and_from, le-leb, lt-ltb}
use Rattle.std.specs.Option.{option_map}
use Rattle.placings.specs.Pattern.{constant}
use Rattle.stores.specs.Names.{under}
use Rattle.patterns.specs.Fitted.{fit}
use Rattle.patterns.specs.Resolved.{back_or, name_element}
use Rattle.patterns.proofs.Areas.{kept_before, part_after, front_room}
use Rattle.patterns.proofs.Fits.{fit_short}
use Rattle.patterns.proofs.Nearest.{nearest_lies}
use Rattle.patterns.proofs.element.gather_name.Goals as goal

pub returns-in_err-number : goal.returns-in_err-number
returns-in_err-number g c =
    let names = g.S.Store.held c.args.store.now in
    let used = c.args.used in
    let h : used ≤ length c.args.area.now = omega (arith, c.requires) in
    rw c.from_residual.ensures record {
      value = ap (λ o. option_map (fit names.longest) (name_element names c.args.left.now o)) c.in_err-number.ensures;
      kept = kept_before used (length c.args.area.now - used) c.args.area.now c.meant_by.new.area h;
      adds = tt;
    }

pub returns-in-Some : goal.returns-in-Some
returns-in-Some g c =
    let names = g.S.Store.held c.args.store.now in
    let used = c.args.used in
    let h : used ≤ length c.args.area.now = omega (arith, c.requires) in
    record {
      value = ap (λ o. option_map (fit names.longest) (Some (back_or o (under names c.in_ok-number.number)))) c.in-Some.ensures
          ∙ ap (λ o. option_map (fit names.longest) (name_element names c.args.left.now o)) c.in_ok-number.ensures;
      kept = kept_before used (length c.args.area.now - used) c.args.area.now c.meant_by.new.area h;
      adds = record { fitting = lt-ltb _ _ (nearest_lies c.in_ok-number.number c.in-Some.place c.args.left.now (sym c.in-Some.ensures)); more = omega arith; few = omega arith };
    }

pub overflow_add-result : goal.overflow_add-result
overflow_add-result g c =
    let len = c.contents-length.ensures.value in
    let small = (g.S.Store.bounds c.args.store.now).each c.in_ok-number.number in
    let room : c.args.used + c.contents-length.result ≤ length c.args.area.now = omega (arith, c.requires) in
    search rules

pub returns : goal.returns
returns g c =
    let names = g.S.Store.held c.args.store.now in
    let number = c.in_ok-number.number in
    let used = c.args.used in
    let k = length c.args.area.now - used in
    let area' = put_mid used k c.args.area.now c.meant_by.new.area in
    let h : used ≤ length c.args.area.now = omega (arith, c.requires) in
    let len = c.contents-length.ensures.value in
    let small = (g.S.Store.bounds c.args.store.now).each number in
    let h' : used ≤ length area' = front_room used k c.args.area.now c.meant_by.new.area h in
    let holds = part_after used k area' c.contents-length.new.area (under names number) _ (used + c.contents-length.result) h' c.contents-length.ensures.area (ap (λ n. used + n) len) in
    record {
      value = ap (λ w. Some (constant w)) holds
          ∙ ap Some (sym (fit_short names.longest (under names number) small))
          ∙ ap (λ o. option_map (fit names.longest) (Some (back_or o (under names number)))) c.in_default.ensures
          ∙ ap (λ o. option_map (fit names.longest) (name_element names c.args.left.now o)) c.in_ok-number.ensures;
      kept = kept_before used k area' c.contents-length.new.area h' ∙ kept_before used k c.args.area.now c.meant_by.new.area h;
      adds = record { fitting = and_from (leb used (used + c.contents-length.result)) (leb (used + c.contents-length.result) (used + c.contents-length.result)) (le-leb _ _ (omega arith)) (le-leb _ _ (omega arith)); more = omega arith; few = omega arith };
    }
