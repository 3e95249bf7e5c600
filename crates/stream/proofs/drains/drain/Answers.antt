use Rattle.std.proofs.Common.{arith, rules}
use Rattle.stream.proofs.Draining.{on, done}
use Rattle.stream.proofs.drains.drain.Goals as goal

pub loop-event-preserved : goal.loop-event-preserved
loop-event-preserved g c = on _ _ _ _ _ _ _ c.next.result c.loop-event.invariant (omega arith) c.next.ensures c.in-Ok-Some._event c.saturating_add-count.result (search rules) (omega arith) c.saturating_add-count.ensures

pub returns-in-Ok-None : goal.returns-in-Ok-None
returns-in-Ok-None g c = search (done, rules)

pub returns-in-Err : goal.returns-in-Err
returns-in-Err g c = search (done, rules)
