-- The model: trees in cells, each cell free or used once.
use Rattle.std.specs.Prelude.{◌≡◌, ℕ, ◌+◌, ◌<◌, List, length, None, Option}
use Rattle.cells.specs.declared.frees.FreeList.{FreeList}
use Rattle.cells.specs.Chains.{occ}
use Rattle.cells.specs.Frees.{Free}
use Rattle.texts.specs.declared.cell.TextCell.{TextCell}
use Rattle.texts.specs.Texts.{links as text_links}
use Rattle.tree.specs.declared.arrays.Arrays.{Arrays}
use Rattle.tree.specs.declared.nodes.Node.{Node}
use Rattle.tree.specs.declared.nodes.Content.TheVariants.{Free as Unused}
use Rattle.tree.specs.Trees.{Trees, nil, nodes_of, texts_of, at, links, Row, Roots}

-- The arrays hold the trees ts, which stand alone, and the row w from `todo`; fs and gs are the free nodes and the free text cells.
-- `once` and `text_once`: every cell is free or used, and that once.
pub record Model (ns : List Node) (nl : FreeList) (cs : List TextCell) (tl : FreeList) (todo : Option ℕ) (w ts : Trees) (fs gs : List ℕ) : Type 0 where
  pub long : length ns ≡ 512
  pub wide : length cs ≡ 1024
  pub nodes : Free (links ns) nl fs
  pub texts : Free (text_links cs) tl gs
  pub empty : (i : ℕ) → 0 < occ i fs → (at ns i).content ≡ Unused
  pub row : Row ns cs todo w None
  pub roots : Roots ns cs ts
  pub once : (i : ℕ) → i < 512 → occ i fs + (occ i (nodes_of w) + occ i (nodes_of ts)) ≡ 1
  pub text_once : (i : ℕ) → i < 1024 → occ i gs + (occ i (texts_of w) + occ i (texts_of ts)) ≡ 1

abbrev pub Holding : Arrays → Option ℕ → Trees → Trees → List ℕ → List ℕ → Type 0
Holding a todo w ts fs gs = Model a.nodes a.free_nodes a.texts a.free_texts todo w ts fs gs

-- the arrays hold the trees, and nothing else is under way
abbrev pub Represents : Arrays → Trees → Type 0
Represents a ts = (fs : List ℕ) × (gs : List ℕ) × Holding a None nil ts fs gs

-- they hold some trees, and a row from `todo` is under way
abbrev pub SomeWork : Arrays → Option ℕ → Type 0
SomeWork a todo = ∥ ((w ts : Trees) × (fs gs : List ℕ) × Holding a todo w ts fs gs) ∥₁

-- they hold some trees
abbrev pub Sound : Arrays → Type 0
Sound a = ∥ ((ts : Trees) × Represents a ts) ∥₁

-- they hold some trees of which P is true, and P is true of whichever trees they hold
abbrev pub SomeTrees : Arrays → (Trees → Type 0) → Type 0
SomeTrees a P = ∥ ((ts : Trees) × Represents a ts × P ts) ∥₁

abbrev pub EachTrees : Arrays → (Trees → Type 0) → Type 0
EachTrees a P = (ts : Trees) → Represents a ts → P ts
