use Rattle.std.proofs.Common.{ap, ◌∙◌, arith}
use Rattle.rows.specs.Filling.{with_given}
use Rattle.rows.specs.Namings.{names_of, labels_of}
use Rattle.rows.proofs.RowLoops.{row_on, symbols_on, row_end, symbols_end}
use Rattle.rows.proofs.Symbols.{line_few}
use Rattle.rows.proofs.line.read_row.Goals as goal

pub overflow_add-end : goal.overflow_add-end
overflow_add-end g c =
    let e = symbols_on g.L.Label.labelled g.K.Kind.meant g.K.Kind.WIDTH (names_of c.args.naming.now) (labels_of c.args.naming.now) c.args.line.from c.args.line.characters.now c.loop-lexeme.lexeme-iterator c.loop-lexeme.invariant.0 c.loop-lexeme.row c.loop-lexeme.stored c.in-Some.lexeme c.next.new.self c.in-Some.ensures.steps c.symbols_of.result c.symbols_of.ensures _ c.loop-lexeme.invariant.2 in
    let f = line_few g.K.Kind.meant g.K.Kind.WIDTH c.args.line.characters.now in
    omega (arith, e, f, c.requires.symbols, c.requires.small)

pub loop-lexeme-preserved : goal.loop-lexeme-preserved
loop-lexeme-preserved g c =
    let read = c.in-Some.ensures.steps in (
      read.same ∙ c.loop-lexeme.invariant.0,
      row_on g.L.Label.labelled g.K.Kind.meant g.K.Kind.WIDTH (names_of c.args.naming.now) (labels_of c.args.naming.now) c.args.line.from c.args.line.characters.now c.loop-lexeme.lexeme-iterator c.loop-lexeme.invariant.0 c.loop-lexeme.row c.loop-lexeme.stored c.in-Some.lexeme c.next.new.self c.in-Some.ensures.steps c.symbols_of.result c.symbols_of.ensures _ c.enter_given-row.result c.loop-lexeme.invariant.1
          (c.enter_given-row.ensures ∙ ap (with_given c.loop-lexeme.row) c.entry_of.ensures),
      symbols_on g.L.Label.labelled g.K.Kind.meant g.K.Kind.WIDTH (names_of c.args.naming.now) (labels_of c.args.naming.now) c.args.line.from c.args.line.characters.now c.loop-lexeme.lexeme-iterator c.loop-lexeme.invariant.0 c.loop-lexeme.row c.loop-lexeme.stored c.in-Some.lexeme c.next.new.self c.in-Some.ensures.steps c.symbols_of.result c.symbols_of.ensures _ c.loop-lexeme.invariant.2,
    )

pub returns : goal.returns
returns g c =
    let e = c.in-None.ensures.steps.0 in
    let s = symbols_end g.L.Label.labelled g.K.Kind.meant g.K.Kind.WIDTH (names_of c.args.naming.now) (labels_of c.args.naming.now) c.args.line.from c.args.line.characters.now c.loop-lexeme.lexeme-iterator c.loop-lexeme.invariant.0 c.loop-lexeme.row c.loop-lexeme.stored _ c.loop-lexeme.invariant.2 e in
    let f = line_few g.K.Kind.meant g.K.Kind.WIDTH c.args.line.characters.now in
    record {
      row = row_end g.L.Label.labelled g.K.Kind.meant g.K.Kind.WIDTH (names_of c.args.naming.now) (labels_of c.args.naming.now) c.args.line.from c.args.line.characters.now c.loop-lexeme.lexeme-iterator c.loop-lexeme.invariant.0 c.loop-lexeme.row c.loop-lexeme.stored c.args.symbols c.loop-lexeme.invariant.1 e;
      symbols = s;
      few = omega (arith, s, f);
    }
