use Rattle.std.proofs.Common.{◌≡◌, ℕ, ◌+◌, ◌-◌, ◌*◌, ◌<◌, ◌≤◌, ◌^◌, min, List, ◌++◌, length, take, drop, refl, sym, ap, ◌∙◌, subst, inl, arith, rules}
use Rattle.std.proofs.lemmas.List.{take-append-drop}
use Rattle.std.proofs.lemmas.Slice.{take-put_mid, drop-put_mid}
use Rattle.std.specs.Iterator.Adapters.{enumerate_source}
use Rattle.texts.specs.Texts.{text_of, Spans}
use Rattle.texts.proofs.Reading.{Reading, begun, turn, turn_more, reading_none, reading_done}
use Rattle.texts.proofs.moves.read_text.Goals as goal

pub loop-i-init : goal.loop-i-init
loop-i-init c =
    let p = c.new.ensures in
    let b = begun c.args.cells.now c.args.first c.args.n c.new.result p.cells p.todo p.left c.requires.held in
    let fits : 0 + c.new.result.left < 2 ^ 64 = omega (arith, p.left, c.ranges.n) in
    let none : c.args.n - c.new.result.left ≡ 0 = omega (arith, p.left) in
    rw (c.into_iter-i-iterator.ensures.into_iter_gives, c.enumerate-i-items.ensures.source, c.enumerate-i-items.ensures.count)
    record {
      can_next = (b.0, tt, inl fits);
      cells = p.cells;
      count = omega (arith, p.left);
      read = rw none b.1;
      beyond = refl;
    }

pub slice_bounds-copy_from_slice-end : goal.slice_bounds-copy_from_slice-end
slice_bounds-copy_from_slice-end c =
    let l = c.loop-i in
    let p = enumerate_source l.i-iterator in
    let s = c.in-Some.ensures.steps in
    let t = turn c.args.cells.now c.args.first c.args.n (take (c.args.n - p.left) l.out) p c.in-Some.part (enumerate_source c.next.new.self) l.invariant.cells s.0 l.invariant.read in
    let more : 0 < p.left = turn_more p (enumerate_source c.next.new.self) c.in-Some.part s.0 l.invariant.can_next.0 in
    let within : c.in-Some.i * 24 + length c.in-Some.part.now ≤ length l.out = omega (arith, t.long, s.1, l.invariant.count) in
    search rules

pub loop-i-preserved : goal.loop-i-preserved
loop-i-preserved c =
    let l = c.loop-i in
    let p = enumerate_source l.i-iterator in
    let s = c.in-Some.ensures.steps in
    let part = c.in-Some.part.now in
    let n = c.args.n in
    let start = c.in-Some.i * 24 in
    let t = turn c.args.cells.now c.args.first n (take (n - p.left) l.out) p c.in-Some.part (enumerate_source c.next.new.self) l.invariant.cells s.0 l.invariant.read in
    let more : 0 < p.left = turn_more p (enumerate_source c.next.new.self) c.in-Some.part s.0 l.invariant.can_next.0 in
    let count : p.left ≡ n - start = l.invariant.count ∙ ap (λ (i : ℕ). n - i * 24) (sym s.1) in
    let long : length part ≡ min p.left 24 = t.long in
    let left : (enumerate_source c.next.new.self).left ≡ p.left - 24 = t.left in
    let end : n - (enumerate_source c.next.new.self).left ≡ start + length part = omega arith in
    let begin : start ≡ n - p.left = omega arith in
    let front = take-put_mid start (start + length part - start) l.out c.copy_from_slice.new.self (start + length part) (omega arith) (omega arith) in
    record {
      can_next = c.in-Some.ensures.goes.keeps;
      cells = t.cells;
      count = omega (arith, s.1, s.2);
      read =
          rw end
          (subst (λ (b : List ℕ). Reading c.args.cells.now c.args.first n b (enumerate_source c.next.new.self).todo (enumerate_source c.next.new.self).left)
          (sym (front ∙ ap (λ (b : List ℕ). take start l.out ++ b) c.copy_from_slice.ensures.after ∙ ap (λ (k : ℕ). take k l.out ++ part) begin)) t.read);
      beyond = drop-put_mid start (start + length part - start) l.out c.copy_from_slice.new.self n (omega arith) (omega arith) (omega arith) ∙ l.invariant.beyond;
    }

pub returns : goal.returns
returns c = record {
  text = λ is bs h n.
      let cs = c.args.cells.now in
      let l = c.loop-i in
      let p = enumerate_source l.i-iterator in
      let read = take (c.args.n - p.left) l.out in
      let spans = subst (λ (k : ℕ). Spans cs c.args.first is k) n h.spans in
      let none : p.left ≡ 0 = reading_none cs c.args.first c.args.n read p.todo p.left is c.in-None.ensures.steps.0.0 spans l.invariant.read in
      let all : c.args.n - p.left ≡ c.args.n = omega arith in
      let text : bs ≡ take c.args.n l.out =
      sym h.says ∙ ap (λ (k : ℕ). text_of cs is k) n ∙ reading_done cs c.args.first c.args.n read p.todo p.left is none spans l.invariant.read ∙ ap (λ (k : ℕ). take k l.out) all in
      sym (take-append-drop c.args.n l.out) ∙ ap (λ (t : List ℕ). t ++ drop c.args.n l.out) (sym text) ∙ ap (λ (t : List ℕ). bs ++ t) l.invariant.beyond;
}
