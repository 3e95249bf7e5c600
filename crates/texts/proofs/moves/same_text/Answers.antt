use Rattle.std.proofs.Common.{◌≡◌, ℕ, suc, ◌<◌, ◌⊎◌, [], length, get_or, drop, None, refl, sym, ap, ◌∙◌, subst, inl, inr, add-one, drop-cons, length-drop, arith}
use Rattle.std.specs.Iterator.Adapters.{zip_first, zip_second}
use Rattle.std.specs.Slice.Iter.{chunks_rest}
use Rattle.texts.specs.Texts.{text_of, Spans}
use Rattle.texts.proofs.Reading.{begun}
use Rattle.texts.proofs.Comparing.{pair, pair_more, comparing_done}
use Rattle.texts.proofs.moves.same_text.Goals as goal

pub parts-init : goal.parts-init
parts-init c =
    let p = c.new-parts.ensures in
    let b = begun c.args.cells.now c.args.first c.args.n c.new-parts.result p.cells p.todo p.left c.requires.held in
    rw (c.into_iter-part-iterator.ensures.into_iter_gives, c.zip-part-items.ensures.first, c.zip-part-items.ensures.second)
    record {
      can_next = (b.0, omega (arith, c.chunks.ensures.size));
      size = c.chunks.ensures.size;
      comparing = record { cells = p.cells; seen = []; split = sym c.chunks.ensures.rest; long = ap length c.chunks.ensures.rest ∙ sym c.if-n-key.false ∙ sym p.left; reading = b.1 };
    }

pub bytes-init : goal.bytes-init
bytes-init c = pair c.args.cells.now c.args.first c.args.n c.args.key.now c.parts.part-iterator c.next.new.self c.in-Some.part c.in-Some.wanted c.parts.invariant.size c.parts.invariant.comparing c.in-Some.ensures.steps

pub bytes-preserved : goal.bytes-preserved
bytes-preserved c =
    let part = c.in-Some.part.now in
    let wanted = c.in-Some.wanted.now in
    let j = c.bytes.j in
    let here : j < length part = c.bytes-test.true in
    let there : j < length wanted = omega (arith, c.bytes.invariant.long, length-drop j part, length-drop j wanted) in
    rw add-one (pair_more c.args.cells.now c.args.first c.args.n c.args.key.now (drop j part) (drop j wanted) (drop (suc j) part) (drop (suc j) wanted) (get_or part j 0) (get_or wanted j 0)
    (zip_first c.next.new.self) (chunks_rest (zip_second c.next.new.self)) (drop-cons part j 0 here) (drop-cons wanted j 0 there) c.if-part-j.false c.bytes.invariant)

pub returns : goal.returns
returns c = record {
  same = λ is bs h n.
      let cs = c.args.cells.now in
      let over : ((zip_first c.parts.part-iterator).todo ≡ None) ⊎ (length (chunks_rest (zip_second c.parts.part-iterator)) ≡ 0) =
      elim c.in-None.ensures.steps [ inl x ↦ inl x.1.0 | inr x ↦ inr x.1.1.0 ] in
      let text = comparing_done cs c.args.first c.args.n c.args.key.now (zip_first c.parts.part-iterator) (chunks_rest (zip_second c.parts.part-iterator)) over c.parts.invariant.comparing is (subst (λ (k : ℕ). Spans cs c.args.first is k) n h.spans) in
      (λ e. sym h.says ∙ ap (λ (k : ℕ). text_of cs is k) n ∙ text, λ e. refl);
}
