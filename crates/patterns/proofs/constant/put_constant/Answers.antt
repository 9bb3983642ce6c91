use Rattle.std.proofs.Common.{◌+◌, ◌-◌, ◌≤◌, leb, [], length, Some, sym, refl, ap, ◌∙◌, arith}
use Rattle.std.proofs.lemmas.List.{append-nil}
use Rattle.std.proofs.lemmas.Bool.{and_from, le-leb}
use Rattle.placings.specs.Pattern.{constant}
use Rattle.patterns.proofs.Areas.{kept_before, part_after}
use Rattle.patterns.proofs.Fits.{fit_short}
use Rattle.patterns.proofs.constant.put_constant.Goals as goal

pub returns : goal.returns
returns g c =
    let s = c.args.symbols.now in
    let used = c.args.used in
    let h : used ≤ length c.args.area.now = omega (arith, c.requires) in
    let k = used + length s - used in
    λ i. record {
      value = ap (λ w. Some (constant w)) (part_after used k c.args.area.now c.copy_from_slice.new.self s [] (used + length s) h (c.copy_from_slice.ensures.after ∙ sym (append-nil s)) refl)
          ∙ ap Some (sym (fit_short (length s) s (omega arith)));
      kept = kept_before used k c.args.area.now c.copy_from_slice.new.self h;
      adds = record { fitting = and_from (leb used (used + length s)) (leb (used + length s) (used + length s)) (le-leb _ _ (omega arith)) (le-leb _ _ (omega arith)); more = omega arith; few = omega arith };
    }
