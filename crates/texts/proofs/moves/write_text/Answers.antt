use Rattle.std.proofs.Common.{ℕ, ◌-◌, ◌*◌, ◌/◌, ◌≤◌, length, sym, refl, ap, ◌∙◌, arith}
use Rattle.std.specs.Iterator.Adapters.{rev_source}
use Rattle.std.specs.Slice.Iter.{chunks_rest}
use Rattle.texts.specs.Texts.{cells_for}
use Rattle.texts.proofs.Writing.{front_append, some_first, some_none, writing_start, writing_more}
use Rattle.texts.proofs.moves.write_text.Goals as goal

pub parts-init : goal.parts-init
parts-init c =
    let room : cells_for (length c.args.text.now) ≤ c.args.list.now.count = omega (arith, c.div_ceil.ensures, c.if-div_ceil-list.false) in
    rw (c.into_iter-part-iterator.ensures.into_iter_gives, c.rev-part-items.ensures.source)
    record { size = c.chunks.ensures.size; writing = rw c.chunks.ensures.rest (writing_start c.args.cells.now c.args.list.now c.args.text.now room c.requires.spare) }

pub take-requires : goal.take-requires
take-requires c = record { within = λ i e. some_first c.parts.cells c.parts.list i e c.parts.invariant.writing.some }

pub unreachable-requires : goal.unreachable-requires
unreachable-requires c =
    let none : c.parts.list.count ≤ 0 = some_none c.parts.cells c.parts.list (sym c.in_default.ensures.result) c.parts.invariant.writing.some in
    omega (arith, c.parts.invariant.writing.room, c.in-Some.ensures.steps.1.2)

pub bounds-cells-at : goal.bounds-cells-at
bounds-cells-at c = (some_first c.parts.cells c.parts.list c.in-Some-take.at (sym c.in-Some-take.ensures.result) c.parts.invariant.writing.some).0

pub parts-preserved : goal.parts-preserved
parts-preserved c =
    let l = c.parts in
    let part = c.in-Some.part.now in
    let took = c.in-Some-take.ensures.some c.in-Some-take.at refl in
    let cut = c.in-Some.ensures.steps.1 in
    let copied = c.copy_from_slice.ensures.after in
    record {
      size = c.in-Some.ensures.steps.0 ∙ l.invariant.size;
      writing =
          writing_more c.args.cells.now c.args.list.now c.args.text.now l.cells l.list c.take.new.self l.first _ part _ c.in-Some-take.at _
          (sym c.in-Some-take.ensures.result) took.0 took.1 cut.0 (cut.1 ∙ ap (λ (k : ℕ). (length (chunks_rest (rev_source l.part-iterator)) - 1) / k * k) l.invariant.size) cut.2 refl (front_append (length part) c.copy_from_slice.new.self _ (ap length copied) ∙ copied) l.invariant.writing;
    }
