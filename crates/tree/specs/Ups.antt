-- What stands above each node of some trees.
use Rattle.std.specs.Prelude.{◌≡◌, ℕ, Some, Option}
use Rattle.tree.specs.Trees.{Trees, nil, node}

-- Each root of the row has u above it, and each node below has its parent.
abbrev pub Under : Option ℕ → Trees → Type 0
Under u nil = Unit {0}
Under u (node n l ks ts) = (l.up ≡ u) × Under (Some n) ks × Under u ts
