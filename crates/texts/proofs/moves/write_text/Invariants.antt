use Rattle.std.proofs.Common.{◌≡◌}
use Rattle.std.specs.Iterator.Adapters.{rev_source}
use Rattle.std.specs.Slice.Iter.{chunks_rest, chunks_size}
use Rattle.texts.proofs.Writing.{Writing}
use Rattle.texts.proofs.moves.write_text.Given as goal

abbrev pub invariant-parts : goal.invariant-parts
invariant-parts l = record {
  size : chunks_size (rev_source l.part-iterator) ≡ 24;
  writing : Writing l.initial.cells l.initial.list l.text l.cells l.list l.first (chunks_rest (rev_source l.part-iterator));
}
