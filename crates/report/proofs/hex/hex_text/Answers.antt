use Rattle.std.proofs.Common.{rules, arith, length, ◌*◌, take, sym, subst}
use Rattle.std.proofs.lemmas.Str.{IsUtf8-from_ascii}
use Rattle.std.specs.Str.{IsUtf8}
use Rattle.report.specs.Hex.{hex}
use Rattle.report.proofs.Digits.{two_more, all_written, hex_ascii}
use Rattle.report.proofs.hex.hex_text.Goals as goal

pub loop-i-preserved : goal.loop-i-preserved
loop-i-preserved c = two_more c.loop-i.block c.args.bytes.now c.loop-i.i c.hex_digit.result c.hex_digit-in-loop-i.result (omega arith) (omega arith) c.loop-i.invariant c.hex_digit.ensures c.hex_digit-in-loop-i.ensures

pub unwrap-requires : goal.unwrap-requires
unwrap-requires c =
    let all = all_written c.loop-i.block c.args.bytes.now c.loop-i.i c.loop-i-test.false c.loop-i.auto.i-end c.loop-i.invariant in
    let utf8 : IsUtf8 (take (2 * length c.args.bytes.now) c.loop-i.block) = subst IsUtf8 (sym all) (IsUtf8-from_ascii (hex c.args.bytes.now) (hex_ascii c.args.bytes.now (λ k. omega (arith, c.type_inv.bytes k)))) in
    search (rules, utf8)
