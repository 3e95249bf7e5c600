use Rattle.std.proofs.Common.{◌≡◌, arith, rules, tests}
use Rattle.reader.specs.States.{seen}
use Rattle.reader.proofs.Added.{ran_encoded}
use Rattle.reader.proofs.ascii_reader.Scanner.extend.Goals as goal

pub returns-then-c-eq-BACKSLASH-clause-ran : goal.returns-then-c-eq-BACKSLASH-clause-ran
returns-then-c-eq-BACKSLASH-clause-ran g c =
    let u = seen g.S.ByteSource c.args.self.now in
    let v = seen g.S.ByteSource c.escape.new.self in
    let backslash : c.args.c ≡ 92 = search rules in
    rw (c.ok_or.ensures.value, c.error.ensures, backslash)
    (ran_encoded c.args.n c.in_ok-character.character u v c.args.text.now c.encode_utf8.new.out c.encode_utf8.result (omega arith) (search (rules, tests)) c.in_ok-character.ensures (rw c.from-code.ensures at c.encode_utf8.ensures))
