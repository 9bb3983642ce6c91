use Rattle.std.proofs.Common.{◌≡◌, ◌*◌, ◌/◌, ◌%◌, length, Ok, Err, sym, ap, ◌∙◌, suc-mul, arith, rules}
use Rattle.std.proofs.lemmas.List.{length-append}
use Rattle.std.proofs.lemmas.Result.{err_from_is_err_and}
use Rattle.std.proofs.lemmas.Nat.{div-mul-add}
use Rattle.std.specs.Iterator.Adapters.{enumerate_count, enumerate_source}
use Rattle.std.specs.Slice.Iter.{chunks_exact_rest, chunks_exact_size}
use Rattle.symbols.specs.Kinds.{read_as}
use Rattle.symbols.specs.declared.fault.SymbolFault.{SymbolFault}
use Rattle.symbols.specs.declared.fault.TextFault.{TextFault}
use Rattle.symbols.specs.Texts.{text_read, counted}
use Rattle.symbols.proofs.TextLaws.{read_not_whole, count_starts, count_stops, count_goes, count_ends}
use Rattle.symbols.proofs.text.check_text.Goals as goal

pub returns-then-text-WIDTH-ne0 : goal.returns-then-text-WIDTH-ne0
returns-then-text-WIDTH-ne0 g c =
    sym (ap (λ w. counted (text_read g.K.Kind.meant w c.args.text.now)) (sym c.WIDTH.ensures)
    ∙ ap counted (read_not_whole g.K.Kind.meant c.WIDTH.result c.args.text.now c.if-text-WIDTH-ne0.true))

pub loop-i-init : goal.loop-i-init
loop-i-init g c =
    let n : enumerate_count c.into_iter-i-iterator.result ≡ 0 = cc in
    let s : chunks_exact_rest (enumerate_source c.into_iter-i-iterator.result) ≡ c.args.text.now = cc in
    let w : chunks_exact_size (enumerate_source c.into_iter-i-iterator.result) ≡ g.K.Kind.WIDTH = cc in
    record {
      can_next = search rules;
      is_finite = tt;
      size = w;
      place = rw (n, s) (omega arith);
      told = rw (n, s) (count_starts g.K.Kind.meant g.K.Kind.WIDTH c.args.text.now (ap (λ w. length c.args.text.now % w) (sym c.WIDTH.ensures) ∙ c.if-text-WIDTH-ne0.false));
    }

pub loop-i-preserved : goal.loop-i-preserved
loop-i-preserved g c =
    let steps = c.in-Some.ensures.steps in
    let n = steps.2 in
    let e = steps.0.1.0 in
    let l = steps.0.1.1 ∙ c.loop-i.invariant.size in
    let w = g.K.Kind.WIDTH in
    let i = enumerate_count c.loop-i.i-iterator in
    record {
      can_next = c.in-Some.ensures.goes.keeps;
      is_finite = tt;
      size = steps.0.0 ∙ c.loop-i.invariant.size;
      place = rw n (omega (arith, suc-mul i w, ap length e, length-append c.in-Some.chars.now (chunks_exact_rest (enumerate_source c.next.new.self))));
      told = rw n (c.loop-i.invariant.told ∙ count_goes g.K.Kind.meant w g.met.K.Kind.wide_some i (chunks_exact_rest (enumerate_source c.loop-i.i-iterator)) c.in-Some.chars.now (chunks_exact_rest (enumerate_source c.next.new.self)) e l c.in_ok-map_err.field-0 (search rules));
    }

pub returns : goal.returns
returns g c =
    let steps = c.in-None.ensures.steps in
    let w = g.K.Kind.WIDTH in
    let s = chunks_exact_rest (enumerate_source c.loop-i.i-iterator) in
    let i = enumerate_count c.loop-i.i-iterator in
    let h = rw c.loop-i.invariant.size at steps.0.1.0 in
    let k : length c.args.text.now / w ≡ i = ap (λ n. n / w) (sym c.loop-i.invariant.place) ∙ div-mul-add i w (length s) h in
    ap (λ w. Ok (length c.args.text.now / w)) c.WIDTH-3.ensures ∙ ap Ok k ∙ sym (c.loop-i.invariant.told ∙ count_ends g.K.Kind.meant w g.met.K.Kind.wide_some i (i * w) s h)

pub returns-in_err-map_err : goal.returns-in_err-map_err
returns-in_err-map_err g c =
    let steps = c.in-Some.ensures.steps in
    let i = enumerate_count c.loop-i.i-iterator in
    let w = g.K.Kind.WIDTH in
    let q : (f : SymbolFault) × (Err f ≡ read_as (g.K.Kind.meant c.in-Some.chars.now)) × (c.in_err-map_err.field-0.0 ≡ record { fault = f; at = c.in-Some.i * w }) = search rules in
    let p = err_from_is_err_and c.from_residual.result c.from_residual.ensures.1 in
    p.1 ∙ ap Err (p.2 ∙ q.2 ∙ ap (λ j. let f : TextFault = record { fault = q.0; at = j * w } in f) steps.1)
    ∙ sym (c.loop-i.invariant.told ∙ count_stops g.K.Kind.meant w g.met.K.Kind.wide_some i (chunks_exact_rest (enumerate_source c.loop-i.i-iterator)) c.in-Some.chars.now (chunks_exact_rest (enumerate_source c.next.new.self)) steps.0.1.0 (steps.0.1.1 ∙ c.loop-i.invariant.size) q.0 q.1)
