use Rattle.std.proofs.Common.{◌≡◌, ◌+◌, ◌*◌, ◌/◌, length}
use Rattle.std.specs.Iterator.Adapters.{enumerate_count, enumerate_source}
use Rattle.std.specs.Slice.Iter.{chunks_exact_rest, chunks_exact_size}
use Rattle.symbols.specs.Texts.{text_read, counted, symbols_from}
use Rattle.symbols.proofs.TextLaws.{ahead}
use Rattle.symbols.proofs.text.check_text.Given as goal

abbrev pub invariant-loop-i : goal.invariant-loop-i
invariant-loop-i g l =
    record {
      can_next : (goal.iterator-loop-i g).can_next l.i-iterator;
      is_finite : (goal.iterator-loop-i g).is_finite l.i-iterator;
      size : chunks_exact_size (enumerate_source l.i-iterator) ≡ g.K.Kind.WIDTH;
      place : enumerate_count l.i-iterator * g.K.Kind.WIDTH + length (chunks_exact_rest (enumerate_source l.i-iterator)) ≡ length l.text;
      told : counted (text_read g.K.Kind.meant g.K.Kind.WIDTH l.text)
          ≡ ahead (enumerate_count l.i-iterator) (counted (symbols_from g.K.Kind.meant g.K.Kind.WIDTH (length (chunks_exact_rest (enumerate_source l.i-iterator)) / g.K.Kind.WIDTH) (enumerate_count l.i-iterator * g.K.Kind.WIDTH) (chunks_exact_rest (enumerate_source l.i-iterator))));
    }
