-- What trees cost.
use Rattle.std.specs.Prelude.{ℕ, ◌+◌, length}
use Rattle.texts.specs.Texts.{cells_for}
use Rattle.tree.specs.Trees.{Trees, nil, node}

-- a value takes one node, and a dictionary one more for each pair: one for each node of a tree
abbrev pub node_cost : Trees → ℕ
node_cost nil = 0
node_cost (node n l ks ts) = 1 + (node_cost ks + node_cost ts)

-- a text of n bytes takes n / 24 text cells, rounded up
abbrev pub text_cost : Trees → ℕ
text_cost nil = 0
text_cost (node n l ks ts) = cells_for (length l.bytes) + (text_cost ks + text_cost ts)
