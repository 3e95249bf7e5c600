-- What is free, and what the trees cost.
use Rattle.std.proofs.Common.{◌≡◌, ◌+◌, List, ◌++◌, length, refl, arith, length-append}
use Rattle.std.proofs.lemmas.List.{length-map}
use Rattle.cells.proofs.Tallies.{shared_out}
use Rattle.cells.proofs.Giving.{free_below}
use Rattle.texts.specs.declared.cell.TextCell.{TextCell}
use Rattle.texts.specs.Texts.{cells_for, links as text_links}
use Rattle.tree.specs.declared.arrays.Arrays.{Arrays}
use Rattle.tree.specs.declared.nodes.Node.{Node}
use Rattle.tree.specs.Trees.{Trees, nil, node, nodes_of, texts_of, links}
use Rattle.tree.specs.Costs.{node_cost, text_cost}
use Rattle.tree.specs.Models.{EachTrees}
use Rattle.tree.proofs.RowFacts.{Stood, roots_stood, below_stood, nodes_in, texts_in}

nodes_cost : (ts : Trees) → length (nodes_of ts) ≡ node_cost ts
nodes_cost nil = refl
nodes_cost (node n l ks ts) = omega (arith, nodes_cost ks, nodes_cost ts, length-append (nodes_of ks) (nodes_of ts))

texts_cost : (ns : List Node) (cs : List TextCell) (ts : Trees) → Stood ns cs ts → length (texts_of ts) ≡ text_cost ts
texts_cost ns cs nil s = refl
texts_cost ns cs (node n l ks ts) s =
    let here : length l.cells ≡ cells_for (length l.bytes) = s.0.text.spans.enough in
    omega (arith, here, texts_cost ns cs ks (below_stood ns cs ks s.0.row), texts_cost ns cs ts s.1, length-append l.cells (texts_of ks ++ texts_of ts), length-append (texts_of ks) (texts_of ts))

pub free_nodes : (a : Arrays) → EachTrees a (λ ts. a.free_nodes.count + node_cost ts ≡ 512)
free_nodes a ts rep =
    let m = rep.2 in
    omega (
      arith,
      m.nodes.counted,
      nodes_cost ts,
      shared_out 512 rep.0 (nodes_of ts)
          (λ i p. omega (arith, free_below (links a.nodes) a.free_nodes rep.0 m.nodes i p, length-map a.nodes (λ (x : Node). x.next), m.long))
          (λ i p. omega (arith, nodes_in a.nodes a.texts ts (roots_stood a.nodes a.texts ts m.roots) i p, m.long))
          (λ i lt. omega (arith, m.once i lt)),
    )

pub free_texts : (a : Arrays) → EachTrees a (λ ts. a.free_texts.count + text_cost ts ≡ 1024)
free_texts a ts rep =
    let m = rep.2 in
    omega (
      arith,
      m.texts.counted,
      texts_cost a.nodes a.texts ts (roots_stood a.nodes a.texts ts m.roots),
      shared_out 1024 rep.1 (texts_of ts)
          (λ i p. omega (arith, free_below (text_links a.texts) a.free_texts rep.1 m.texts i p, length-map a.texts (λ (x : TextCell). x.next), m.wide))
          (λ i p. omega (arith, texts_in a.nodes a.texts ts (roots_stood a.nodes a.texts ts m.roots) i p, m.wide))
          (λ i lt. omega (arith, m.text_once i lt)),
    )
