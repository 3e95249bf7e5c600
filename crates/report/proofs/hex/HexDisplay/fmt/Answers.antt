use Rattle.std.proofs.Common.{rules, ◌≡◌, ◌++◌, List, ℕ, sym, ap, ◌∙◌, append_assoc}
use Rattle.std.proofs.Output.{has_written_append, has_written_of_eq}
use Rattle.std.specs.Slice.Iter.{chunks_rest}
use Rattle.report.proofs.Digits.{hex-append}
use Rattle.report.proofs.hex.HexDisplay.fmt.Goals as goal

pub loop-part-preserved : goal.loop-part-preserved
loop-part-preserved g c =
    let size = c.loop-part.invariant.0 in (
      search rules,
      λ plain.
          let now = c.loop-part.invariant.1 plain in
          let part = c.in-Some.part.now in
          let split : chunks_rest c.loop-part.part-iterator ≡ part ++ chunks_rest c.next.new.self = search rules in (
            now.0 ++ part,
            append_assoc now.0 part _ ∙ (ap (λ (xs : List ℕ). now.0 ++ xs) (sym split) ∙ now.1),
            has_written_of_eq _ _ _ _ _ (sym (hex-append now.0 part)) (has_written_append _ _ _ _ _ _ now.2 (search rules)),
          ),
    )
