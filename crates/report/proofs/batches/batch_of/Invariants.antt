use Rattle.std.proofs.Common.{◌≡◌, ◌+◌, Some, vec_items}
use Rattle.std.specs.Iterator.Adapters.{enumerate_source, enumerate_count}
use Rattle.std.specs.Slice.Iter.{split_inclusive_rest}
use Rattle.report.specs.Batches.{answered, batch, lines}
use Rattle.report.proofs.batches.batch_of.Given as goal

-- the answers that are made, before those to the lines that are left
abbrev pub invariant-loop-i : goal.invariant-loop-i
invariant-loop-i l =
    answered 0 (Some (vec_items l.out)) (batch (enumerate_count l.i-iterator + 1) (lines (split_inclusive_rest (enumerate_source l.i-iterator)))) ≡ batch 1 (lines l.file)
