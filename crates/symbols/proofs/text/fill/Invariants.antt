use Rattle.std.proofs.Common.{◌≡◌, ◌+◌, ◌*◌, ◌/◌, ◌++◌, length, take, drop, Ok}
use Rattle.std.specs.Iterator.Adapters.{enumerate_count, enumerate_source}
use Rattle.std.specs.Slice.Iter.{chunks_exact_rest, chunks_exact_size}
use Rattle.symbols.specs.Texts.{text_read, symbols_in, symbols_from}
use Rattle.symbols.proofs.text.fill.Given as goal

abbrev pub invariant-loop-i : goal.invariant-loop-i
invariant-loop-i g l =
    record {
      can_next : (goal.iterator-loop-i g).can_next l.i-iterator;
      is_finite : (goal.iterator-loop-i g).is_finite l.i-iterator;
      size : chunks_exact_size (enumerate_source l.i-iterator) ≡ g.K.Kind.WIDTH;
      place : enumerate_count l.i-iterator * g.K.Kind.WIDTH + length (chunks_exact_rest (enumerate_source l.i-iterator)) ≡ length l.text;
      told : symbols_from g.K.Kind.meant g.K.Kind.WIDTH (length (chunks_exact_rest (enumerate_source l.i-iterator)) / g.K.Kind.WIDTH) (enumerate_count l.i-iterator * g.K.Kind.WIDTH) (chunks_exact_rest (enumerate_source l.i-iterator))
          ≡ Ok (drop (enumerate_count l.i-iterator) (symbols_in (text_read g.K.Kind.meant g.K.Kind.WIDTH l.text)));
      filled : l.area ≡ take (enumerate_count l.i-iterator) (symbols_in (text_read g.K.Kind.meant g.K.Kind.WIDTH l.text)) ++ drop (enumerate_count l.i-iterator) l.initial.area;
    }
