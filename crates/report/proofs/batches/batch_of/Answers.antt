use Rattle.std.proofs.Common.{◌≡◌, ℕ, ◌+◌, eqb, List, ◌∷◌, vec_items, Bor, refl, sym, ap, ◌∙◌, rules, arith}
use Rattle.std.proofs.lemmas.List.Sorted.{answers_always}
use Rattle.std.specs.Option.{option_map}
use Rattle.std.specs.Iterator.Adapters.{enumerate_source, enumerate_count}
use Rattle.std.specs.Slice.Iter.{split_inclusive_rest}
use Rattle.report.specs.Batches.{lines}
use Rattle.report.proofs.Cuts.{cut, stopped, went_on}
use Rattle.report.proofs.batches.batch_of.Goals as goal
use Rattle.report.proofs.batches.batch_of.Goals.{In_ok-text}

-- the line is the first of those that were left
cuts : (c : In_ok-text) → lines (split_inclusive_rest (enumerate_source c.loop-i.i-iterator)) ≡ c.unwrap_or-line.result.now ∷ lines (split_inclusive_rest (enumerate_source c.next.new.self))
cuts c =
    let part = c.in-Some.ensures.steps.0 in
    let left = split_inclusive_rest (enumerate_source c.next.new.self) in
    let first = part.1.2 (λ b. eqb b 10) (answers_always _ _ _ (λ f a r f' called. search rules)) in
    cut (split_inclusive_rest (enumerate_source c.loop-i.i-iterator)) c.in-Some.line.now left part.1.0 part.0 part.1.1 first.1 part.2 c.strip_suffix.result c.in-Some.line refl c.strip_suffix.ensures.cases
    ∙ ap (λ (l : Bor (List ℕ)). l.now ∷ lines left) (sym c.unwrap_or-line.ensures)

pub loop-i-preserved : goal.loop-i-preserved
loop-i-preserved c =
    let count = c.in-Some.ensures.steps.2 in
    went_on (vec_items c.loop-i.out) (split_inclusive_rest (enumerate_source c.loop-i.i-iterator)) c.unwrap_or-line.result.now (split_inclusive_rest (enumerate_source c.next.new.self))
    (enumerate_count c.loop-i.i-iterator + 1) (cuts (goal.at.loop-i-preserved c).In_ok-text) c.loop-i.invariant
    (vec_items c.in-Some-2.text) (vec_items c.extend_from_slice.new.self) (enumerate_count c.next.new.self + 1)
    (sym (ap (option_map vec_items) c.in-Some-2.is) ∙ c.in_ok-text.ensures) (search rules) (omega (arith, count))

pub returns-in_default-clause-line : goal.returns-in_default-clause-line
returns-in_default-clause-line c = λ n is.
    let here = stopped (vec_items c.loop-i.out) (split_inclusive_rest (enumerate_source c.loop-i.i-iterator)) c.unwrap_or-line.result.now (split_inclusive_rest (enumerate_source c.next.new.self))
    (enumerate_count c.loop-i.i-iterator + 1) (cuts (goal.at.returns-in_default-clause-line c).In_ok-text) c.loop-i.invariant
    (sym (ap (option_map vec_items) c.in_default.is) ∙ c.in_ok-text.ensures) in
    let number : c.in-Some.i ≡ enumerate_count c.loop-i.i-iterator = c.in-Some.ensures.steps.1 in
    cc
