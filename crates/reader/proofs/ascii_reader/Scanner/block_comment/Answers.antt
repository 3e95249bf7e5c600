use Rattle.std.proofs.Common.{Ok, rules}
use Rattle.reader.specs.Comments.{in_comment}
use Rattle.reader.specs.States.{Ran, seen}
use Rattle.reader.specs.Steps.{step}
use Rattle.reader.specs.declared.states.Comment.TheVariants.{Plain}
use Rattle.reader.proofs.Chains.{ran_step, ran_then}
use Rattle.reader.proofs.ascii_reader.Scanner.block_comment.Goals as goal

pub returns-in-Star-eq47 : goal.returns-in-Star-eq47
returns-in-Star-eq47 g c =
    let u = seen g.S.ByteSource c.args.self.now in
    let v = seen g.S.ByteSource c.advance.new.self in
    let w = seen g.S.ByteSource c.advance-in-loop-c.new.self in
    let first : Ran step u (Ok c.in_ok-advance.field-0) v = ran_step u v c.in_ok-advance.field-0 c.in_ok-advance.ensures in
    let later : Ran (in_comment Plain) v (Ok tt) w = search rules in
    ran_then step (λ _. in_comment Plain) u v w c.in_ok-advance.field-0 (Ok tt) first later
