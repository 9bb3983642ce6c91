use Rattle.std.proofs.Common.{List, length, sym, ap, ◌∙◌, arith}
use Rattle.tables.specs.declared.row.RowOf.{RowOf}
use Rattle.rows.specs.Namings.{names_of, labels_of}
use Rattle.rows.specs.Rows.{has_row}
use Rattle.constants.proofs.Loops.{within}
use Rattle.rows.proofs.RowPuts.{at_most_one, row_room, count_on, put_on, put, put_front_over, put_none, rows_end}
use Rattle.rows.proofs.writer.write_rows.Goals as goal

pub read_row-filled-requires : goal.read_row-filled-requires
read_row-filled-requires g c =
    let cut = c.in-Some.ensures.steps in
    let w = within c.in-Some.line in
    let t = ap length (cut.text ∙ c.loop-line.invariant.0) in
    let f = cut.from in
    let i = c.loop-line.invariant.1 in
    record {
      small = omega (arith, w, t, c.requires.small);
      place = omega (arith, w, t, c.requires.small);
      symbols = omega (arith, w, t, f, i, c.requires.small);
    }

pub put_row-count-requires : goal.put_row-count-requires
put_row-count-requires g c =
    let cut = c.in-Some.ensures.steps in
    let w = within c.in-Some.line in
    let t = ap length (cut.text ∙ c.loop-line.invariant.0) in
    let f = cut.from in
    let i = c.loop-line.invariant.2 in
    record {
      room = row_room g.L.Label.labelled g.K.Kind.meant g.K.Kind.WIDTH (names_of c.args.naming.now) (labels_of c.args.naming.now) c.loop-line.line-iterator c.loop-line.stored c.in-Some.line c.next.new.self c.in-Some.ensures.steps c.read_row-filled.result.row c.read_row-filled.result.symbols c.read_row-filled.ensures.row c.read_row-filled.ensures.symbols
          c.loop-line.count _ c.loop-line.rows c.loop-line.invariant.3 (omega (arith, c.loop-line.auto.rows, c.requires.room));
      few = omega (arith, w, t, f, i, c.requires.small);
    }

pub loop-line-preserved : goal.loop-line-preserved
loop-line-preserved g c =
    let cut = c.in-Some.ensures.steps in
    let f = cut.from in
    let on = cut.on in
    let few = c.read_row-filled.ensures.few in
    let i = c.loop-line.invariant.1 in
    let j = c.loop-line.invariant.2 in
    let one = at_most_one (has_row c.in-Some.line.characters.now) c.loop-line.count in
    let value = c.put_row-count.ensures.value in (
      cut.same ∙ c.loop-line.invariant.0,
      omega (arith, f, on, few, i),
      omega (arith, f, on, one, value, j),
      count_on g.L.Label.labelled g.K.Kind.meant g.K.Kind.WIDTH (names_of c.args.naming.now) (labels_of c.args.naming.now) c.loop-line.line-iterator c.loop-line.stored c.in-Some.line c.next.new.self c.in-Some.ensures.steps
          c.read_row-filled.result.row c.read_row-filled.result.symbols c.read_row-filled.ensures.row c.read_row-filled.ensures.symbols
          c.loop-line.count c.put_row-count.result c.loop-line.rows c.put_row-count.new.rows c.put_row-count.ensures.value c.put_row-count.ensures.rows
          _ c.loop-line.invariant.3,
      put_on g.L.Label.labelled g.K.Kind.meant g.K.Kind.WIDTH (names_of c.args.naming.now) (labels_of c.args.naming.now) c.loop-line.line-iterator c.loop-line.stored c.in-Some.line c.next.new.self c.in-Some.ensures.steps
          c.read_row-filled.result.row c.read_row-filled.result.symbols c.read_row-filled.ensures.row c.read_row-filled.ensures.symbols
          c.loop-line.count c.put_row-count.result c.loop-line.rows c.put_row-count.new.rows c.put_row-count.ensures.value c.put_row-count.ensures.rows
          _ c.loop-line.invariant.4
          (row_room g.L.Label.labelled g.K.Kind.meant g.K.Kind.WIDTH (names_of c.args.naming.now) (labels_of c.args.naming.now) c.loop-line.line-iterator c.loop-line.stored c.in-Some.line c.next.new.self c.in-Some.ensures.steps c.read_row-filled.result.row c.read_row-filled.result.symbols c.read_row-filled.ensures.row c.read_row-filled.ensures.symbols
          c.loop-line.count _ c.loop-line.rows c.loop-line.invariant.3 (omega (arith, c.loop-line.auto.rows, c.requires.room))),
    )

pub returns : goal.returns
returns g c =
    let z = rows_end g.L.Label.labelled g.K.Kind.meant g.K.Kind.WIDTH (names_of c.args.naming.now) (labels_of c.args.naming.now) c.loop-line.line-iterator c.loop-line.stored c.in-None.ensures.steps.0 in
    record {
      value = let l = ap length z in let i = c.loop-line.invariant.3 in omega (arith, l, i);
      rows = sym (sym (put_front_over _ _) ∙ c.loop-line.invariant.4 ∙ ap (λ (x : List (RowOf g.row.L.Denot)). put c.loop-line.count x c.loop-line.rows) z ∙ put_none c.loop-line.count c.loop-line.rows);
    }
