use Rattle.std.proofs.Common.{◌≡◌, drop}
use Rattle.std.specs.Iterator.Adapters.{zip_first, zip_second}
use Rattle.std.specs.Slice.Iter.{chunks_rest, chunks_size}
use Rattle.texts.proofs.Comparing.{Comparing, Pair}
use Rattle.texts.proofs.moves.same_text.Given as goal

-- What is left of the two parts is the same where they are.
abbrev pub invariant-bytes : goal.invariant-bytes
invariant-bytes l =
    Pair l.cells l.fn.first l.n l.key (drop l.j l.part) (drop l.j l.wanted) (zip_first l.part-iterator) (chunks_rest (zip_second l.part-iterator))

abbrev pub invariant-parts : goal.invariant-parts
invariant-parts l = record {
  can_next : (goal.iterator-parts).can_next l.part-iterator;
  size : chunks_size (zip_second l.part-iterator) ≡ 24;
  comparing : Comparing l.cells l.fn.first l.n l.key (zip_first l.part-iterator) (chunks_rest (zip_second l.part-iterator));
}
