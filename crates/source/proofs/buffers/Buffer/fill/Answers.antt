use Rattle.std.proofs.Common.{◌≡◌, [], refl, sym, ◌∙◌, inl, inr, arith}
use Rattle.std.proofs.lemmas.Grind.{common_steps}
use Rattle.std.proofs.lemmas.List.{take-set}
use Rattle.source.specs.Endings.{at_end}
use Rattle.source.proofs.Blocks.{filled}
use Rattle.source.proofs.buffers.Buffer.fill.Goals as goal

pub returns-in-Ok-None-clause-filled : goal.returns-in-Ok-None-clause-filled
returns-in-Ok-None-clause-filled g c =
    let s = g.S.ByteSource in
    let b = c.loop-n in
    let none : s.bytes b.below ≡ [] = grind (arith, common_steps) in
    let end : s.ending b.below ≡ at_end = grind (arith, common_steps) in
    filled b.n b.block _ (s.bytes b.below) b.invariant.moved (take-set b.block b.n _) b.invariant.full (omega arith) (inr none) (grind (arith, common_steps)) (c.next.ensures.keeps ∙ b.invariant.same) (λ zero. sym b.invariant.same ∙ end)

pub returns-in-Ok-None-2-clause-filled : goal.returns-in-Ok-None-2-clause-filled
returns-in-Ok-None-2-clause-filled g c =
    let s = g.S.ByteSource in
    let b = c.loop-n in
    let none : s.bytes b.below ≡ [] = grind (arith, common_steps) in
    filled b.n b.block _ (s.bytes b.below) b.invariant.moved (take-set b.block b.n _) b.invariant.full (omega arith) (inr none) (grind (arith, common_steps)) (c.next.ensures.keeps ∙ b.invariant.same) (λ zero. absurd (c.if-n-eq0.false zero))

pub returns-clause-filled : goal.returns-clause-filled
returns-clause-filled g c =
    let s = g.S.ByteSource in
    let b = c.loop-n in
    let full : b.n ≡ 64 = omega arith in
    filled 64 b.block b.block (s.bytes b.below) (rw full at b.invariant.moved) refl b.invariant.full (omega arith) (inl refl) refl b.invariant.same (λ zero. absurd (omega arith))
