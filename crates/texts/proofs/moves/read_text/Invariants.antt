use Rattle.std.proofs.Common.{◌≡◌, ◌-◌, ◌*◌, take, drop}
use Rattle.std.specs.Iterator.Adapters.{enumerate_source, enumerate_count}
use Rattle.texts.proofs.Reading.{Reading}
use Rattle.texts.proofs.moves.read_text.Given as goal

abbrev pub invariant-loop-i : goal.invariant-loop-i
invariant-loop-i l =
    let p = enumerate_source l.i-iterator in
    record {
      can_next : (goal.iterator-loop-i).can_next l.i-iterator;
      cells : p.cells.now ≡ l.cells;
      count : p.left ≡ l.n - enumerate_count l.i-iterator * 24;
      read : Reading l.cells l.fn.first l.n (take (l.n - p.left) l.out) p.todo p.left;
      beyond : drop l.n l.out ≡ drop l.n l.initial.out;
    }
