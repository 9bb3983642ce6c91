use Rattle.std.proofs.Common.{◌≡◌, ◌*◌, ◌≤◌, ltb, List, length, Err, Result, sym, ap, ◌∙◌, subst, arith, rules, length-take}
use Rattle.std.proofs.lemmas.Bool.{cond-false, le-ltb}
use Rattle.stores.specs.declared.limits.Limits.{Limits}
use Rattle.tables.specs.declared.row.Item.{Item}
use Rattle.patterns.specs.declared.gathered.Gathered.{Gathered}
use Rattle.patterns.specs.declared.gathered.PatternRefusal.{PatternRefusal}
use Rattle.patterns.specs.declared.gathered.PatternRefusal.TheVariants.{ShortArea}
use Rattle.patterns.specs.Resolved.{resolved}
use Rattle.tables.specs.Rows.{items_in}
use Rattle.patterns.specs.Gathered.{gathered, fitted_or, Served}
use Rattle.patterns.specs.Gathering.{GathersAll}
use Rattle.patterns.proofs.Serving.{gathers_answer, gathers_serve}
use Rattle.patterns.proofs.gather.gather.Goals as goal

pub gather_items-requires-clause-few : goal.gather_items-requires-clause-few
gather_items-requires-clause-few g c =
    let row = c.args.pattern.now in
    let places : length row.items ≡ 8 = search rules in
    omega (arith, ap length c.first_places-items.ensures, length-take row.count row.items)

pub returns : goal.returns
returns g c =
    let names = g.S.Store.held c.args.store.now in
    let row = c.args.pattern.now in
    let area = c.gather_items.new.area in
    let wanted = resolved g.K.Kind.chars c.args.listing.names.now c.args.listing.constants.now names (items_in row) in
    let limit = ap (λ (t : Limits). t.longest) c.tell-longest.ensures in
    let ByItems : List Item → Type 0 = λ items. GathersAll names.longest area (resolved g.K.Kind.chars c.args.listing.names.now c.args.listing.constants.now names items) c.gather_items.result in
    let all : ByItems (items_in row) = subst ByItems c.first_places-items.ensures c.gather_items.ensures in
    let ByAnswer : Result Gathered PatternRefusal → Type 0 = Served names.longest area wanted in
    let room : 8 * names.longest ≤ length c.args.area.now = omega arith in
    record {
      value = ap (gathered area) c.ok_or.ensures.value ∙ gathers_answer names.longest area wanted c.gather_items.result all
          ∙ sym (cond-false (ltb (length c.args.area.now) (8 * names.longest)) (Err ShortArea) (fitted_or names.longest wanted) (le-ltb _ _ room));
      serves = subst ByAnswer (sym c.ok_or.ensures.value) (gathers_serve names.longest area wanted c.gather_items.result all);
    }
