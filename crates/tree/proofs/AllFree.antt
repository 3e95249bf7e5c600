-- Arrays whose cells are all free.
use Rattle.std.proofs.Common.{◌≡◌, ℕ, List, map, length, get_or, replicate, None, sym, refl, ap, ◌∙◌, arith}
use Rattle.std.proofs.Math.ListN.{get_or-map}
use Rattle.std.proofs.lemmas.Grind.{common_steps}
use Rattle.std.proofs.lemmas.List.{length-map}
use Rattle.cells.specs.declared.frees.FreeList.{FreeList}
use Rattle.cells.specs.Chains.{down}
use Rattle.cells.specs.Frees.{Free}
use Rattle.cells.proofs.Downs.{occ_down}
use Rattle.texts.specs.declared.cell.TextCell.{TextCell}
use Rattle.texts.specs.Texts.{links as text_links}
use Rattle.tree.specs.declared.nodes.Node.{Node}
use Rattle.tree.specs.declared.nodes.Content.TheVariants.{Free as Unused}
use Rattle.tree.specs.Trees.{nil, at, links, blank}
use Rattle.tree.specs.Links.{ending}
use Rattle.tree.specs.Models.{Model}

-- all of a node but its link
abbrev pub unlinked : Node → Node
unlinked x = ending x None

pub unlinked_at : (ns : List Node) (i : ℕ) → get_or (map unlinked ns) i blank ≡ unlinked (at ns i)
unlinked_at ns i = get_or-map unlinked ns i blank

pub blank_at : (n i : ℕ) → (at (replicate n blank) i).content ≡ Unused
blank_at n i =
    let same : at (replicate n blank) i ≡ blank = grind (arith, common_steps) in
    ap (λ (x : Node). x.content) same

pub model_new : (was ns : List Node) (nl : FreeList) (were cs : List TextCell) (tl : FreeList) → length was ≡ 512 → length were ≡ 1024 → ((i : ℕ) → (at was i).content ≡ Unused)
    → Free (links ns) nl (down (length was)) → map unlinked ns ≡ map unlinked was → Free (text_links cs) tl (down (length were)) → map (λ (c : TextCell). c.bytes) cs ≡ map (λ (c : TextCell). c.bytes) were
    → Model ns nl cs tl None nil nil (down (length was)) (down (length were))
model_new was ns nl were cs tl e f unused free loads texts bytes =
    let block : TextCell → List ℕ = λ c. c.bytes in
    record {
      long = omega (arith, ap length loads, length-map ns unlinked, length-map was unlinked);
      wide = omega (arith, ap length bytes, length-map cs block, length-map were block);
      nodes = free;
      texts = texts;
      empty = λ i p.
          let same : unlinked (at ns i) ≡ unlinked (at was i) = sym (unlinked_at ns i) ∙ ap (λ (xs : List Node). get_or xs i blank) loads ∙ unlinked_at was i in
          ap (λ (x : Node). x.content) same ∙ unused i;
      row = refl;
      roots = tt;
      once = λ i lt. omega (arith, occ_down i (length was) (omega arith));
      text_once = λ i lt. omega (arith, occ_down i (length were) (omega arith));
    }
