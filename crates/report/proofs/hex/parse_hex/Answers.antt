use Rattle.std.proofs.Common.{◌≤◌, length, vec_items, rules}
use Rattle.report.proofs.Digits.{one_read}
use Rattle.report.proofs.hex.parse_hex.Goals as goal

pub loop-rest-preserved : goal.loop-rest-preserved
loop-rest-preserved c =
    let two : 2 ≤ length c.loop-rest.rest.now = search rules in
    one_read (vec_items c.loop-rest.bytes) (vec_items c.push.new.self) c.loop-rest.rest.now c.in-Some.b
    two c.in-Some.ensures c.in_ok-push.ensures.items c.loop-rest.invariant
