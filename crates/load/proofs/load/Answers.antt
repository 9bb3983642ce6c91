use Rattle.std.proofs.Common.{◌≡◌, false, ltb, List, length, Ok, Option, sym, ap, ◌∙◌, arith}
use Rattle.std.proofs.lemmas.Bool.Decides.{nat_tests}
use Rattle.symbols.specs.Answers.{answered, unless, over}
use Rattle.constants.specs.Constants.{sheet_symbols}
use Rattle.sheets.specs.declared.fault.Refusal.{Refusal}
use Rattle.sheets.specs.Labels.{text_refusal}
use Rattle.sheets.specs.Tallies.{counts}
use Rattle.tables.specs.Rows.{Row}
use Rattle.rows.specs.Labels.{name_label}
use Rattle.rows.proofs.Loads.{short_text, rows_are, few_rows}
use Rattle.load.specs.Tables.{sheet_of, sheet_rows}
use Rattle.load.proofs.Loads.{few_symbols, accepted_load, sheet_is}
use Rattle.load.proofs.load.Goals as goal

pub write_rows-requires : goal.write_rows-requires
write_rows-requires g c =
    let k = c.in_ok-outline.ensures in
    let m = c.new-naming.ensures in
    let few = few_rows g.K.Kind.meant g.K.Kind.WIDTH c.args.text.now c.in_ok-outline.outline k.0 k.1 k.2 c.new-naming.result m.text m.names m.labels name_label in
    record {
      small = short_text g.K.Kind.meant g.K.Kind.WIDTH c.args.text.now c.in_ok-outline.outline k.0 k.1 k.2 c.new-naming.result m.text m.names m.labels;
      room = omega (arith, few);
    }

pub write_constants-requires : goal.write_constants-requires
write_constants-requires g c =
    let k = c.in_ok-outline.ensures in
    let m = c.new-naming.ensures in
    let o = c.in_ok-outline.outline in
    let few = few_symbols g.K.Kind.meant g.K.Kind.WIDTH c.args.text.now o k.0 k.1 k.2 in
    let short = short_text g.K.Kind.meant g.K.Kind.WIDTH c.args.text.now o k.0 k.1 k.2 c.new-naming.result m.text m.names m.labels in
    let same = ap length m.text in
    record { small = omega (arith, short, same); room = omega (arith, few) }

pub returns : goal.returns
returns g c =
    let text = c.args.text.now in
    let k = c.in_ok-outline.ensures in
    let m = c.new-naming.ensures in
    let o = c.in_ok-outline.outline in
    let rows : ltb (length c.args.rows.now) 128 ≡ false = grind (arith, nat_tests) in
    let room : ltb (length c.args.constants.now) 4096 ≡ false = grind (arith, nat_tests) in
    let none = sym (accepted_load (ltb (length c.args.rows.now) 128) (ltb (length c.args.constants.now) 4096) (text_refusal (counts g.K.Kind.meant g.K.Kind.WIDTH) text) rows room k.0) in
    record {
      answer = ap Ok (sheet_is g.K.Kind.meant g.K.Kind.WIDTH text o k.1 c.new-naming.result m.text m.names m.labels
          c.write_constants.result c.name_table.result c.find_start.result c.write_constants.ensures.value c.name_table.ensures c.find_start.ensures)
          ∙ ap (λ (f : Option Refusal). answered f (sheet_of g.K.Kind.meant g.K.Kind.WIDTH text)) none;
      rows = c.write_rows.ensures.rows
          ∙ ap (λ (xs : List Row). over xs c.args.rows.now) (rows_are g.K.Kind.meant g.K.Kind.WIDTH text o k.0 k.1 k.2 c.new-naming.result m.text m.names m.labels name_label)
          ∙ ap (λ (f : Option Refusal). unless f c.args.rows.now (over (sheet_rows g.K.Kind.meant g.K.Kind.WIDTH text) c.args.rows.now)) none;
      constants = c.write_constants.ensures.area
          ∙ ap (λ (f : Option Refusal). unless f c.args.constants.now (over (sheet_symbols g.K.Kind.meant g.K.Kind.WIDTH text) c.args.constants.now)) none;
    }
