-- Roots: the tree of one, and the trees without it.
use Rattle.std.proofs.Common.{◌≡◌, ℕ, ◌+◌, true, false, cond, ◌||◌, eqb, List, Some, None, sym, refl, ap, subst, arith, eqb-true}
use Rattle.std.proofs.lemmas.Bool.Decides.{nat_tests}
use Rattle.cells.specs.Chains.{occ}
use Rattle.texts.specs.declared.cell.TextCell.{TextCell}
use Rattle.tree.specs.declared.nodes.Node.{Node}
use Rattle.tree.specs.Trees.{Trees, Label, nil, node, nodes_of, texts_of, rooted, tree, without, Row, Roots}
use Rattle.tree.proofs.RowFacts.{Counts, node_counts, text_counts}

tree_counts : (f : Trees → ℕ) (c : Counts f) (k : ℕ) (ts : Trees) → f ts ≡ f (tree k ts) + f (without k ts)
tree_counts f c k nil = omega (arith, c.none)
tree_counts f c k (node n l ks ts) = grind (arith, nat_tests, tree_counts f c k ts, c.none, c.more n l ks ts, c.more n l ks nil, c.more n l ks (without k ts))

pub occ_tree : (k i : ℕ) (ts : Trees) → occ i (nodes_of ts) ≡ occ i (nodes_of (tree k ts)) + occ i (nodes_of (without k ts))
occ_tree k i ts = tree_counts (λ t. occ i (nodes_of t)) (node_counts i) k ts

pub text_occ_tree : (k i : ℕ) (ts : Trees) → occ i (texts_of ts) ≡ occ i (texts_of (tree k ts)) + occ i (texts_of (without k ts))
text_occ_tree k i ts = tree_counts (λ t. occ i (texts_of t)) (text_counts i) k ts

pub roots_without : (k : ℕ) (ns : List Node) (cs : List TextCell) (ts : Trees) → Roots ns cs ts → Roots ns cs (without k ts)
roots_without k ns cs nil r = r
roots_without k ns cs (node n l ks ts) r =
    elim (eqb k n) as (λ b. Roots ns cs (cond b ts (node n l ks (without k ts)))) [ true ↦ r.1 | false ↦ (r.0, roots_without k ns cs ts r.1) ]

-- A root is one node, with what is below it, alone.
pub root_is : (k : ℕ) (ns : List Node) (cs : List TextCell) (ts : Trees) → Roots ns cs ts → rooted k ts ≡ true → (l : Label) × (ks : Trees) × (tree k ts ≡ node k l ks nil) × Row ns cs (Some k) (node k l ks nil) None
root_is k ns cs nil r h = absurd cc
root_is k ns cs (node n l ks ts) r h =
    (elim (eqb k n) as (λ b. eqb k n ≡ b → (b || rooted k ts) ≡ true → (l' : Label) × (ks' : Trees) × (cond b (node n l ks nil) (tree k ts) ≡ node k l' ks' nil) × Row ns cs (Some k) (node k l' ks' nil) None) [
      | true ↦ λ e h. let same = sym (eqb-true k n e) in (l, ks, ap (λ j. node j l ks nil) same, subst (λ j. Row ns cs (Some j) (node j l ks nil) None) same r.0)
      | false ↦ λ e h. root_is k ns cs ts r.1 h
    ]) refl h
