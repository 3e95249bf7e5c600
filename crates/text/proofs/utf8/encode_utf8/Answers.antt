use Rattle.std.proofs.Common.{refl, arith}
use Rattle.text.proofs.Encodings.{encode_same, scalar_same}
use Rattle.text.proofs.Writes.{written, ascii_full, ascii_written}
use Rattle.text.proofs.utf8.encode_utf8.Goals as goal

pub returns-then-start-out : goal.returns-then-start-out
returns-then-start-out c = (λ valid. ascii_full c.args.code c.args.start c.args.out.now c.if-code-lt128.true c.if-start-out.true, refl)

pub returns-then-code-lt128 : goal.returns-then-code-lt128
returns-then-code-lt128 c = ascii_written c.args.code c.args.start c.args.out.now c.if-code-lt128.true c.if-start-out.false

pub returns-then-out-end : goal.returns-then-out-end
returns-then-out-end c = grind (arith, encode_same c.args.code)

pub returns : goal.returns
returns c =
    let code = c.args.code in
    written code c.args.start c.in_ok-end.end c.args.out.now c.copy_from_slice.new.self
    (grind (arith, scalar_same code)) (grind (arith, encode_same code)) (omega arith) (omega arith)
