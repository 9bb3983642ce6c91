use Rattle.std.proofs.Common.{ℕ, List, length, is_ok, sym, refl, ap, arith}
use Rattle.std.proofs.lemmas.Result.{err_from_is_err_and}
use Rattle.symbols.specs.Texts.{text_read, Tells}
use Rattle.symbols.proofs.ReadLaws.{tells_all}
use Rattle.symbols.proofs.TextLaws.{refused_fault, refused_area, not_refused, counted_ok, fill_count}
use Rattle.symbols.proofs.text.read_text.Given.{Over}
use Rattle.symbols.proofs.text.read_text.Goals as goal

told : (g : Over) (s : List ℕ) → Tells g.K.Kind.chars g.K.Kind.WIDTH s (text_read g.K.Kind.meant g.K.Kind.WIDTH s)
told g s = tells_all g.K.Kind.chars g.K.Kind.meant g.K.Kind.WIDTH g.met.K.Kind.wide_some g.met.K.Kind.all_wide g.met.K.Kind.read_back g.met.K.Kind.means_them s

pub fill-requires : goal.fill-requires
fill-requires g c =
    let m = counted_ok (text_read g.K.Kind.meant g.K.Kind.WIDTH c.args.text.now) c.in_ok-count.count (sym c.in_ok-count.ensures) in
    let k = fill_count g.K.Kind.meant g.K.Kind.WIDTH c.args.text.now (ap is_ok m.0) in
    record { read = ap is_ok m.0; room = omega (arith, m.1) }

pub returns-in_err-count : goal.returns-in_err-count
returns-in_err-count g c =
    let p = err_from_is_err_and c.from_residual.result c.from_residual.ensures.1 in
    let f = refused_fault (text_read g.K.Kind.meant g.K.Kind.WIDTH c.args.text.now) c.in_err-count.field-0.0 (length c.args.area.now) (sym c.in_err-count.ensures) in
    record { answer = rw (p.1, p.2, f) refl; area = rw f refl; tells = told g c.args.text.now }

pub returns-then-area-count : goal.returns-then-area-count
returns-then-area-count g c =
    let f = refused_area (text_read g.K.Kind.meant g.K.Kind.WIDTH c.args.text.now) c.in_ok-count.count (length c.args.area.now) (sym c.in_ok-count.ensures) (omega arith) in
    record { answer = rw f refl; area = rw f refl; tells = told g c.args.text.now }

pub returns : goal.returns
returns g c =
    let n = sym c.in_ok-count.ensures in
    let f = not_refused (text_read g.K.Kind.meant g.K.Kind.WIDTH c.args.text.now) c.in_ok-count.count (length c.args.area.now) n (omega arith) in
    let m = (counted_ok (text_read g.K.Kind.meant g.K.Kind.WIDTH c.args.text.now) c.in_ok-count.count n).1 in
    record { answer = rw (f, m) refl; area = rw f c.fill.ensures; tells = told g c.args.text.now }
