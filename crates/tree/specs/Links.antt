-- What is written into nodes when trees are linked.
use Rattle.std.specs.Prelude.{ℕ, ◌+◌, List, Some, None, Option, slice_set}
use Rattle.std.specs.Option.{option_or}
use Rattle.tree.specs.declared.nodes.Node.{Node}
use Rattle.tree.specs.Trees.{at}

-- a node with another link
abbrev pub ending : Node → Option ℕ → Node
ending x e = record x { next = e }

-- a node with another one above
abbrev pub with_up : Node → Option ℕ → Node
with_up x u = record x { up = u }

-- the nodes when the last one of a row, if there is one, leads to `to`
abbrev pub linked : List Node → Option ℕ → Option ℕ → List Node
linked ns None to = ns
linked ns (Some k) to = slice_set ns k (ending (at ns k) to)

-- a node when one more stands below it, and when none does
abbrev pub one_more : Node → Option ℕ → ℕ → Node
one_more x f new = record x { first = f; last = Some new; count = x.count + 1 }

abbrev pub none_below : Node → Node
none_below x = record x { first = None; last = None; count = 0 }

-- the nodes with the one at `at` under another
abbrev pub set_up_at : List Node → ℕ → Option ℕ → List Node
set_up_at ns n u = slice_set ns n (with_up (at ns n) u)

-- what is written when `new` is put last below `to`, and when the one node below `top` is taken off
abbrev pub linked_below : List Node → ℕ → ℕ → List Node
linked_below ns to new = set_up_at (slice_set (linked ns (at ns to).last (Some new)) to (one_more (at ns to) (option_or (at ns to).first (Some new)) new)) new (Some to)

abbrev pub unlinked_below : List Node → ℕ → ℕ → List Node
unlinked_below ns top n = set_up_at (slice_set ns top (none_below (at ns top))) n None
