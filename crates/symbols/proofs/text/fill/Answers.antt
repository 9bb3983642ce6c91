use Rattle.std.proofs.Common.{◌≡◌, ◌/◌, ◌<◌, length, set, is_ok, sym, ap, ◌∙◌, suc-mul, arith, rules}
use Rattle.std.proofs.lemmas.List.{length-append}
use Rattle.std.proofs.lemmas.Nat.{div-mul-add}
use Rattle.std.specs.Iterator.Adapters.{enumerate_count, enumerate_source}
use Rattle.std.specs.Slice.Iter.{chunks_exact_rest, chunks_exact_size}
use Rattle.symbols.specs.Texts.{text_read, symbols_in}
use Rattle.symbols.proofs.TextLaws.{fill_count, fill_starts, fill_reads, fill_goes, one_inside, put_next, all_filled}
use Rattle.symbols.proofs.text.fill.Goals as goal

pub loop-i-init : goal.loop-i-init
loop-i-init g c =
    let n : enumerate_count c.into_iter-i-iterator.result ≡ 0 = cc in
    let s : chunks_exact_rest (enumerate_source c.into_iter-i-iterator.result) ≡ c.args.text.now = cc in
    let w : chunks_exact_size (enumerate_source c.into_iter-i-iterator.result) ≡ g.K.Kind.WIDTH = cc in
    record {
      can_next = search rules;
      is_finite = tt;
      size = w;
      place = rw (n, s) (omega arith);
      told = rw (n, s) (fill_starts g.K.Kind.meant g.K.Kind.WIDTH c.args.text.now c.requires.read);
      filled = rw n;
    }

pub unwrap-requires : goal.unwrap-requires
unwrap-requires g c =
    let steps = c.in-Some.ensures.steps in
    ap is_ok c.read.ensures ∙ fill_reads _ _ g.met.K.Kind.wide_some _ _ _ _ _ steps.0.1.0 (steps.0.1.1 ∙ c.loop-i.invariant.size) c.loop-i.invariant.told

pub bounds-area-i : goal.bounds-area-i
bounds-area-i g c =
    let steps = c.in-Some.ensures.steps in
    let i = one_inside _ _ _ _ _ _ g.met.K.Kind.wide_some c.loop-i.invariant.place steps.0.1.0 (steps.0.1.1 ∙ c.loop-i.invariant.size) in
    let room = c.requires.room in
    omega (arith, steps.1)

pub offset_bounds-area-i : goal.offset_bounds-area-i
offset_bounds-area-i g c =
    let steps = c.in-Some.ensures.steps in
    let i = one_inside _ _ _ _ _ _ g.met.K.Kind.wide_some c.loop-i.invariant.place steps.0.1.0 (steps.0.1.1 ∙ c.loop-i.invariant.size) in
    let room = c.requires.room in
    let l : c.in-Some.i < length c.loop-i.area = omega (arith, steps.1) in
    search rules

pub loop-i-preserved : goal.loop-i-preserved
loop-i-preserved g c =
    let steps = c.in-Some.ensures.steps in
    let i = enumerate_count c.loop-i.i-iterator in
    let w = g.K.Kind.WIDTH in
    let xs = symbols_in (text_read g.K.Kind.meant w c.args.text.now) in
    let n = fill_goes _ _ g.met.K.Kind.wide_some _ _ _ _ _ steps.0.1.0 (steps.0.1.1 ∙ c.loop-i.invariant.size) c.loop-i.invariant.told _ (sym c.unwrap.ensures ∙ c.read.ensures) in
    let l = one_inside _ _ _ _ _ _ g.met.K.Kind.wide_some c.loop-i.invariant.place steps.0.1.0 (steps.0.1.1 ∙ c.loop-i.invariant.size) in
    let room = c.requires.room in
    record {
      can_next = c.in-Some.ensures.goes.keeps;
      is_finite = tt;
      size = steps.0.0 ∙ c.loop-i.invariant.size;
      place = rw steps.2 (omega (arith, suc-mul i w, ap length steps.0.1.0, length-append c.in-Some.chars.now (chunks_exact_rest (enumerate_source c.next.new.self))));
      told = rw steps.2 n.0;
      filled = rw (steps.1, steps.2) (ap (λ a. set a i c.unwrap.result) c.loop-i.invariant.filled ∙ put_next xs c.args.area.now i c.unwrap.result n.1 (omega arith));
    }

pub returns : goal.returns
returns g c =
    let steps = c.in-None.ensures.steps in
    let i = enumerate_count c.loop-i.i-iterator in
    let w = g.K.Kind.WIDTH in
    let h = rw c.loop-i.invariant.size at steps.0.1.0 in
    let k : length c.args.text.now / w ≡ i = ap (λ n. n / w) (sym c.loop-i.invariant.place) ∙ div-mul-add i w (length (chunks_exact_rest (enumerate_source c.loop-i.i-iterator))) h in
    c.loop-i.invariant.filled ∙ all_filled (symbols_in (text_read g.K.Kind.meant w c.args.text.now)) c.args.area.now i (fill_count g.K.Kind.meant w c.args.text.now c.requires.read ∙ k)
