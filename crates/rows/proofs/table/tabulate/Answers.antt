use Rattle.std.proofs.Common.{◌≡◌, Bool, false, cond, ltb, List, length, Some, None, Option, sym, ap, ◌∙◌, arith}
use Rattle.std.proofs.lemmas.Bool.Decides.{nat_tests}
use Rattle.symbols.specs.Answers.{unless, over}
use Rattle.sheets.specs.declared.fault.Cause.{Cause}
use Rattle.sheets.specs.declared.fault.Refusal.{Refusal}
use Rattle.sheets.specs.declared.part.Part.{Part}
use Rattle.sheets.specs.Labels.{nowhere, text_refusal}
use Rattle.sheets.specs.Tallies.{counts}
use Rattle.tables.specs.declared.row.RowOf.{RowOf}
use Rattle.rows.specs.Labels.{part_label}
use Rattle.rows.specs.Table.{table_refusal, table_rows}
use Rattle.rows.proofs.Loads.{short_text, rows_are, few_rows}
use Rattle.rows.proofs.table.tabulate.Goals as goal

pub write_rows-requires : goal.write_rows-requires
write_rows-requires g c =
    let k = c.in_ok-outline.ensures in
    let m = c.new.ensures in
    let r = few_rows g.K.Kind.meant g.K.Kind.WIDTH c.args.text.now c.in_ok-outline.outline k.0 k.1 k.2 c.new.result m.text m.names m.labels part_label in
    record {
      small = short_text g.K.Kind.meant g.K.Kind.WIDTH c.args.text.now c.in_ok-outline.outline k.0 k.1 k.2 c.new.result m.text m.names m.labels;
      room = omega (arith, r);
    }

pub returns : goal.returns
returns g c =
    let reads = counts g.K.Kind.meant g.K.Kind.WIDTH in
    let text = c.args.text.now in
    let k = c.in_ok-outline.ensures in
    let m = c.new.ensures in
    let room : ltb (length c.args.rows.now) 128 ≡ false = grind (arith, nat_tests) in
    let none : table_refusal reads (length c.args.rows.now) text ≡ None =
    ap (λ (b : Bool). cond b (Some (nowhere Cause.ShortArea)) (text_refusal reads text)) room ∙ k.0 in
    record {
      answer = (none, k.1, k.2);
      rows = c.write_rows.ensures.rows
          ∙ ap (λ (xs : List (RowOf Part)). over xs c.args.rows.now) (rows_are g.K.Kind.meant g.K.Kind.WIDTH text c.in_ok-outline.outline k.0 k.1 k.2 c.new.result m.text m.names m.labels part_label)
          ∙ ap (λ (f : Option Refusal). unless f c.args.rows.now (over (table_rows g.K.Kind.meant g.K.Kind.WIDTH text) c.args.rows.now)) (sym none);
    }
