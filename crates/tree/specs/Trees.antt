-- Labelled trees: which node and which text cells each value, key and pair uses, and what the cells then hold.
use Rattle.std.specs.Prelude.{◌≡◌, ℕ, ◌+◌, ◌<◌, Bool, false, cond, ◌||◌, List, [], ◌∷◌, ◌++◌, map, length, Some, None, Option, ◌==◌, slice_index_or}
use Rattle.cells.specs.Chains.{occ, first}
use Rattle.texts.specs.declared.cell.TextCell.{TextCell}
use Rattle.texts.specs.Texts.{Holds}
use Rattle.tree.specs.declared.nodes.Node.{Node}
use Rattle.tree.specs.declared.nodes.Content.{Content}
use Rattle.tree.specs.declared.nodes.Content.TheVariants.{Free}

-- What a node holds beside its links to others of its row and below it: the node above, its content, and its text with the text cells where that stands.
pub record Label : Type 0 where
  pub up : Option ℕ
  pub content : Content
  pub cells : List ℕ
  pub bytes : List ℕ

-- A row of trees, each with its node, its label, and the row below it: one type, so that a recursion is over one type.
pub data Trees : Type 0 where
  nil : Trees
  node : ℕ → Label → Trees → Trees → Trees

-- the nodes of a row of trees, and the text cells
abbrev pub nodes_of : Trees → List ℕ
nodes_of nil = []
nodes_of (node n l ks ts) = n ∷ (nodes_of ks ++ nodes_of ts)

abbrev pub texts_of : Trees → List ℕ
texts_of nil = []
texts_of (node n l ks ts) = l.cells ++ (texts_of ks ++ texts_of ts)

-- the node n lies in the trees, however deep
abbrev pub Lies : ℕ → Trees → Type 0
Lies n ts = 0 < occ n (nodes_of ts)

-- the first root of a row, its last one, and how many it has
abbrev pub first_of : Trees → Option ℕ
first_of nil = None
first_of (node n l ks ts) = Some n

abbrev pub last_or : Option ℕ → Trees → Option ℕ
last_or d nil = d
last_or d (node n l ks ts) = last_or (Some n) ts

abbrev pub count_of : Trees → ℕ
count_of nil = 0
count_of (node n l ks ts) = 1 + count_of ts

-- one row after another
abbrev pub join : Trees → Trees → Trees
join nil us = us
join (node n l ks ts) us = node n l ks (join ts us)

-- a row without its first root: the trees below that come first
abbrev pub opened : Trees → Trees
opened nil = nil
opened (node n l ks ts) = join ks ts

-- whether a root of the row is i; its tree alone; the row without it
abbrev pub rooted : ℕ → Trees → Bool
rooted i nil = false
rooted i (node n l ks ts) = i == n || rooted i ts

abbrev pub tree : ℕ → Trees → Trees
tree i nil = nil
tree i (node n l ks ts) = cond (i == n) (node n l ks nil) (tree i ts)

abbrev pub without : ℕ → Trees → Trees
without i nil = nil
without i (node n l ks ts) = cond (i == n) ts (node n l ks (without i ts))

-- the row below the node i, wherever it lies; the trees with another row there
abbrev pub below : ℕ → Trees → Trees
below i nil = nil
below i (node n l ks ts) = cond (i == n) ks (join (below i ks) (below i ts))

abbrev pub put : ℕ → Trees → Trees → Trees
put i us nil = nil
put i us (node n l ks ts) = cond (i == n) (node n l us ts) (node n l (put i us ks) (put i us ts))

-- a label with another node above, and a row whose roots have it
abbrev pub label_up : Option ℕ → Label → Label
label_up u l = record l { up = u }

abbrev pub roots_up : Option ℕ → Trees → Trees
roots_up u nil = nil
roots_up u (node n l ks ts) = node n (label_up u l) ks (roots_up u ts)

abbrev pub blank : Node
blank = record { next = None; up = None; first = None; last = None; count = 0; text = None; length = 0; content = Free }

abbrev pub at : List Node → ℕ → Node
at ns i = slice_index_or ns i blank

abbrev pub links : List Node → List (Option ℕ)
links ns = map (λ x. x.next) ns

-- the node that a label and the row below it make, with its link to the next
abbrev pub shown : Option ℕ → Label → Trees → Node
shown next l ks = record { next = next; up = l.up; first = first_of ks; last = last_or None ks; count = count_of ks; text = first l.cells; length = length l.bytes; content = l.content }

-- The links from `head` visit the roots of the row in order and come to `end`, and each node and its text cells hold what its tree says.
abbrev pub Row : List Node → List TextCell → Option ℕ → Trees → Option ℕ → Type 0
Row ns cs head nil end = head ≡ end
Row ns cs head (node n l ks ts) end =
    (head ≡ Some n) × (n < length ns) × (at ns n ≡ shown (at ns n).next l ks) × Holds cs (first l.cells) l.cells l.bytes × Row ns cs (first_of ks) ks None × Row ns cs (at ns n).next ts end

-- Trees that stand alone: the link of each root leads nowhere.
abbrev pub Roots : List Node → List TextCell → Trees → Type 0
Roots ns cs nil = Unit {0}
Roots ns cs (node n l ks ts) = Row ns cs (Some n) (node n l ks nil) None × Roots ns cs ts
