-- What the moves answer and leave.
use Rattle.std.specs.Prelude.{◌≡◌, ℕ, ◌<◌, true, ◌⊎◌, List, length, Some, None, Ok, Err, Option, Result}
use Rattle.stream.specs.declared.errors.Error.{Error}
use Rattle.texts.specs.Texts.{cells_for}
use Rattle.tree.specs.declared.arrays.Arrays.{Arrays}
use Rattle.tree.specs.declared.nodes.Content.{Content}
use Rattle.tree.specs.Trees.{Trees, Label, Lies, nil, node, rooted, tree, without, below, put, join, label_up, roots_up}
use Rattle.tree.specs.Models.{Represents}

-- why a node with a text of n bytes cannot be had
abbrev pub Lacking : Arrays → ℕ → Error → Type 0
Lacking a n e =
    ((e ≡ Error.NoNodes) × (a.free_nodes.count ≡ 0)) ⊎ ((e ≡ Error.NoTextCells) × (0 < a.free_nodes.count) × (a.free_texts.count < cells_for n))

-- A new tree of one node, in some of the cells that were free; or nothing changed, for want of a node, or else of text cells.
abbrev pub Added : Arrays → Content → Option ℕ → List ℕ → Trees → Arrays → Result ℕ Error → Type 0
Added a content up bytes ts a' (Ok n) = (is : List ℕ) × Represents a' (node n (record { up = up; content = content; cells = is; bytes = bytes }) nil ts)
Added a content up bytes ts a' (Err e) = (a' ≡ a) × Lacking a (length bytes) e

-- `new` is a tree of its own, and `to` a node of another one.
abbrev pub Separate : ℕ → ℕ → Trees → Type 0
Separate to new ts = (rooted new ts ≡ true) × Lies to (without new ts)

-- the trees when `new` stands last below `to`
abbrev pub appended : ℕ → ℕ → Trees → Trees
appended to new ts = put to (join (below to (without new ts)) (roots_up (Some to) (tree new ts))) (without new ts)

-- The one value below a pair is a tree of its own now; where there is none, nothing changed.
pub record Detached (a : Arrays) (pair : ℕ) (ts : Trees) (a' : Arrays) (r : Option ℕ) : Type 0 where
  pub none : below pair ts ≡ nil → (r ≡ None) × (a' ≡ a)
  pub some : (v : ℕ) (l : Label) (ks : Trees) → below pair ts ≡ node v l ks nil → (r ≡ Some v) × Represents a' (node v (label_up None l) ks (put pair nil ts))
