use Rattle.std.proofs.Common.{length, refl, ap, ◌*◌, arith}
use Rattle.std.specs.List.{flat_map}
use Rattle.symbols.proofs.ReadLaws.{many}
use Rattle.symbols.proofs.WriteLaws.{too_short, do_not_go_in}
use Rattle.symbols.proofs.text.write_text.Goals as goal

pub returns-then-symbols-area : goal.returns-then-symbols-area
returns-then-symbols-area g c =
    let w = c.WIDTH.ensures in
    let some = g.met.K.Kind.wide_some in
    let n = many g.K.Kind.chars g.K.Kind.meant g.K.Kind.WIDTH some g.met.K.Kind.all_wide g.met.K.Kind.read_back g.met.K.Kind.means_them c.args.symbols.now in
    let m = do_not_go_in (length c.args.symbols.now) c.WIDTH.result (length c.args.area.now) (omega arith) (omega arith) in
    let k = ap (λ v. length c.args.symbols.now * v) w in
    let s = too_short (length c.args.area.now) (length (flat_map g.K.Kind.chars c.args.symbols.now)) (omega arith) in
    record { answer = rw s refl; area = rw s refl }
