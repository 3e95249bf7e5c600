use Rattle.std.proofs.Common.{length}
use Rattle.stream.proofs.Draining.{Underway}
use Rattle.stream.proofs.drains.drain.Given as goal

abbrev pub invariant-loop-event : goal.invariant-loop-event
invariant-loop-event g l = Underway (g.E.EventSource.means l.initial.source) (g.E.EventSource.means l.source) l.count l.initial.scratch l.scratch

abbrev pub decreases-loop-event : goal.decreases-loop-event
decreases-loop-event g l = length (g.E.EventSource.means l.source).events
