use Rattle.std.proofs.Common.{take, rules}
use Rattle.std.proofs.lemmas.Result.{err_from_is_err_and}
use Rattle.reader.specs.States.{seen}
use Rattle.reader.proofs.Chains.{moved_trans}
use Rattle.reader.proofs.Quoted.{quoted_fails, quoted_closes, quoted_goes_on, quoted_refuses}
use Rattle.reader.proofs.ascii_reader.Scanner.quoted_bytes.Goals as goal

pub returns-in_err-c-clause-ran : goal.returns-in_err-c-clause-ran
returns-in_err-c-clause-ran g c =
    let w = seen g.S.ByteSource c.args.self.now in
    let u = seen g.S.ByteSource c.loop-c.self in
    let v = seen g.S.ByteSource c.advance_quoted_string.new.self in
    let out = err_from_is_err_and c.from_residual.result c.from_residual.ensures.1 in
    rw (out.1, out.2) (quoted_fails c.args.quote (take c.loop-c.n c.loop-c.text) w u v c.loop-c.invariant.goes_on c.in_err-c.field-0.0 c.in_err-c.ensures)

pub returns-then-c-quote-clause-ran : goal.returns-then-c-quote-clause-ran
returns-then-c-quote-clause-ran g c =
    let w = seen g.S.ByteSource c.args.self.now in
    let u = seen g.S.ByteSource c.loop-c.self in
    let v = seen g.S.ByteSource c.advance_quoted_string.new.self in
    quoted_closes c.args.quote (take c.loop-c.n c.loop-c.text) w u v c.loop-c.invariant.goes_on c.in_ok-c.c c.in_ok-c.ensures (search rules) c.loop-c.invariant.moved

pub returns-in_err-n-clause-ran : goal.returns-in_err-n-clause-ran
returns-in_err-n-clause-ran g c =
    let w = seen g.S.ByteSource c.args.self.now in
    let u = seen g.S.ByteSource c.loop-c.self in
    let v = seen g.S.ByteSource c.advance_quoted_string.new.self in
    let v' = seen g.S.ByteSource c.extend.new.self in
    let out = err_from_is_err_and c.from_residual-in_err-n.result c.from_residual-in_err-n.ensures.1 in
    rw (out.1, out.2)
    (quoted_refuses c.args.quote (take c.loop-c.n c.loop-c.text) w u v c.loop-c.invariant.goes_on c.in_ok-c.c c.in_ok-c.ensures c.in_err-n.field-0.0 v' (search rules) c.in_err-n.ensures.ran)

pub loop-c-preserved : goal.loop-c-preserved
loop-c-preserved g c =
    let w = seen g.S.ByteSource c.args.self.now in
    let u = seen g.S.ByteSource c.loop-c.self in
    let v = seen g.S.ByteSource c.advance_quoted_string.new.self in
    let v' = seen g.S.ByteSource c.extend.new.self in
    record {
      moved = moved_trans w v v' (moved_trans w u v c.loop-c.invariant.moved c.in_ok-c.ensures.1) c.in_ok-n.ensures.ran.1;
      fits = c.in_ok-n.ensures.fits;
      goes_on = quoted_goes_on c.args.quote (take c.loop-c.n c.loop-c.text) w u v c.loop-c.invariant.goes_on c.in_ok-c.c c.in_ok-c.ensures (take c.in_ok-n.n c.extend.new.text) v' (search rules) c.in_ok-n.ensures.ran;
    }
