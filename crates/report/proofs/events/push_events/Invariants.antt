use Rattle.std.proofs.Common.{length, vec_items}
use Rattle.report.proofs.Printing.{Underway}
use Rattle.report.proofs.events.push_events.Given as goal

abbrev pub invariant-loop-event : goal.invariant-loop-event
invariant-loop-event g l =
    Underway l.between (vec_items l.initial.out) (g.E.EventSource.means l.initial.source) (vec_items l.out) (g.E.EventSource.means l.source)

abbrev pub decreases-loop-event : goal.decreases-loop-event
decreases-loop-event g l = length (g.E.EventSource.means l.source).events
