use Rattle.tree.proofs.Releasing.{releasing_start, releasing_held, releasing_less, releasing_done}
use Rattle.tree.proofs.arrays.Arrays.release.Goals as goal

pub loop-todo-init : goal.loop-todo-init
loop-todo-init c = releasing_start c.args.self.now c.args.n

pub free_first-todo-requires : goal.free_first-todo-requires
free_first-todo-requires c = record { held = releasing_held _ _ _ _ c.loop-todo.invariant _ c.in-Some.is c.requires.held }

pub loop-todo-smaller : goal.loop-todo-smaller
loop-todo-smaller c = releasing_less _ _ _ _ c.loop-todo.invariant _ c.in-Some.is _ _ c.free_first-todo.ensures.freed c.requires.held

pub returns : goal.returns
returns c = record { released = releasing_done _ _ _ _ c.loop-todo.invariant c.in_default.is }
