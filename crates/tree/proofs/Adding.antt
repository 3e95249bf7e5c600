-- A new tree of one node, and what every model says of its cells.
use Rattle.std.proofs.Common.{◌≡◌, ℕ, ◌+◌, ◌-◌, ◌<◌, ◌≤◌, List, [], ◌∷◌, length, get_or, set, Some, None, Option, IsSome, Ok, Err, Result, MatchResult, is_ok, sym, refl, ap, ◌∙◌, subst, arith, rules, length-set, get_or-set_same}
use mathlib.Core.Logic.{∥∥₁_elim, ∥∥₁_map}
use native.Mathlib.Bridge.{le_prop}
use Rattle.std.proofs.lemmas.List.{length-map}
use Rattle.cells.specs.declared.frees.FreeList.{FreeList}
use Rattle.cells.specs.Chains.{Chain, occ, first, rest}
use Rattle.cells.specs.Frees.{Free}
use Rattle.cells.proofs.Occs.{occ_here, occ_append}
use Rattle.cells.proofs.Giving.{free_rest, free_agree, free_some, free_none, free_below}
use Rattle.texts.specs.declared.cell.TextCell.{TextCell}
use Rattle.texts.specs.Texts.{Holds, Wrote, links as text_links}
use Rattle.tree.specs.declared.arrays.Arrays.{Arrays}
use Rattle.tree.specs.declared.nodes.Node.{Node}
use Rattle.tree.specs.declared.nodes.Content.{Content}
use Rattle.tree.specs.Trees.{Trees, Label, nil, node, nodes_of, texts_of, at, links, blank, shown}
use Rattle.tree.specs.Models.{Holding, Represents, Sound, SomeTrees}
use Rattle.tree.proofs.Frames.{Agree, agree_set, roots_kept, link_at}
use Rattle.tree.proofs.RowFacts.{row_stood, roots_stood, nodes_in, texts_in}

-- Links of nodes that agree on some cells.
pub links_agree : (ns ms : List Node) (nl : FreeList) (fs : List ℕ) → Agree ns ms fs → Free (links ns) nl fs → Free (links ms) nl fs
links_agree ns ms nl fs a f =
    let next : Node → Option ℕ = λ x. x.next in
    free_agree (links ns) (links ms) nl fs (omega (arith, length-map ns next, length-map ms next, a.0)) (λ i p. link_at ms i ∙ ap next (a.1 i p) ∙ sym (link_at ns i)) f

-- Each cell is in one place of a model at most.
pub record Apart (fs is js : List ℕ) : Type 0 where
  pub one : (i : ℕ) → occ i fs + (occ i is + occ i js) ≤ 1

apart : (n : ℕ) (fs is js : List ℕ) → ((i : ℕ) → 0 < occ i fs → i < n) → ((i : ℕ) → 0 < occ i is → i < n) → ((i : ℕ) → 0 < occ i js → i < n)
    → ((i : ℕ) → i < n → occ i fs + (occ i is + occ i js) ≡ 1) → Apart fs is js
apart n fs is js f g h once = record { one = λ i. grind (arith, f i, g i, h i, once i) }

module _ (a : Arrays) (todo : Option ℕ) (w ts : Trees) (fs gs : List ℕ) (m : Holding a todo w ts fs gs) where
  pub free_in : (i : ℕ) → 0 < occ i fs → i < 512
  free_in i p = omega (arith, free_below (links a.nodes) a.free_nodes fs m.nodes i p, length-map a.nodes (λ (x : Node). x.next), m.long)

  pub free_texts_in : (i : ℕ) → 0 < occ i gs → i < 1024
  free_texts_in i p = omega (arith, free_below (text_links a.texts) a.free_texts gs m.texts i p, length-map a.texts (λ (x : TextCell). x.next), m.wide)

  pub model_apart : Apart fs (nodes_of w) (nodes_of ts)
  model_apart =
      apart 512 fs (nodes_of w) (nodes_of ts) free_in
      (λ i p. omega (arith, nodes_in a.nodes a.texts w (row_stood a.nodes a.texts todo w None m.row) i p, m.long))
      (λ i p. omega (arith, nodes_in a.nodes a.texts ts (roots_stood a.nodes a.texts ts m.roots) i p, m.long)) m.once

  pub model_texts_apart : Apart gs (texts_of w) (texts_of ts)
  model_texts_apart =
      apart 1024 gs (texts_of w) (texts_of ts) free_texts_in
      (λ i p. omega (arith, texts_in a.nodes a.texts w (row_stood a.nodes a.texts todo w None m.row) i p, m.wide))
      (λ i p. omega (arith, texts_in a.nodes a.texts ts (roots_stood a.nodes a.texts ts m.roots) i p, m.wide)) m.text_once

-- The same where nothing is under way.
pub one_tree : (a : Arrays) (ts : Trees) (rep : Represents a ts) (i : ℕ) → occ i rep.0 + occ i (nodes_of ts) ≤ 1
one_tree a ts rep i = omega (arith, (model_apart a None nil ts rep.0 rep.1 rep.2).one i)

chain_head : (ls : List (Option ℕ)) (head : Option ℕ) (is : List ℕ) → Chain ls head is → head ≡ first is
chain_head ls head [] c = c
chain_head ls head (i ∷ is) c = c.0

pub model_added : (a : Arrays) (nl' : FreeList) (ds : List TextCell) (tl' : FreeList) (ts : Trees) (fs gs is left : List ℕ) (n : ℕ) (up : Option ℕ) (content : Content) (bytes : List ℕ) (head : Option ℕ)
    → a.free_nodes.first ≡ Some n → nl'.first ≡ get_or (links a.nodes) n None → nl'.count ≡ a.free_nodes.count - 1 → length ds ≡ length a.texts
    → Wrote a.texts gs bytes ds tl' head is left → Holding a None nil ts fs gs
    → Holding (record { nodes = set a.nodes n (record { next = None; up = up; first = None; last = None; count = 0; text = head; length = length bytes; content = content }); free_nodes = nl'; texts = ds; free_texts = tl' }) None nil
    (node n (record { up = up; content = content; cells = is; bytes = bytes }) nil ts) (rest fs) left
model_added a nl' ds tl' ts fs gs is left n up content bytes head e f k same w m =
    let ns = a.nodes in
    let shape : Option ℕ → Node = λ h. record { next = None; up = up; first = None; last = None; count = 0; text = h; length = length bytes; content = content } in
    let l : Label = record { up = up; content = content; cells = is; bytes = bytes } in
    let some = free_some (links ns) a.free_nodes n fs e m.nodes in
    let s = free_rest (links ns) a.free_nodes nl' n fs e f (omega (arith, some.1)) m.nodes in
    let ms = set ns n (shape head) in
    let lt : n < length ns = omega (arith, some.0, length-map ns (λ (z : Node). z.next)) in
    let occs : (i : ℕ) → occ i fs ≡ occ i (n ∷ rest fs) = λ i. ap (occ i) s.1 in
    let one = (model_apart a None nil ts fs gs m).one in
    let no-free : occ n (rest fs) ≡ 0 = omega (arith, one n, occs n, occ_here n (rest fs)) in
    let no-tree : occ n (nodes_of ts) ≡ 0 = omega (arith, one n, occs n, occ_here n (rest fs)) in
    let b = model_texts_apart a None nil ts fs gs m in
    let top : head ≡ first is = chain_head (text_links ds) head is w.holds.spans.chain in
    let here : at ms n ≡ shown None l nil = get_or-set_same ns n (shape head) blank lt ∙ ap shape top in
    let next : (at ms n).next ≡ None = ap (λ (z : Node). z.next) here in
    record {
      long = length-set ns n (shape head) ∙ m.long;
      wide = same ∙ m.wide;
      nodes = links_agree ns ms nl' (rest fs) (agree_set ns n (shape head) (rest fs) no-free) s.0;
      texts = w.spare;
      empty = λ i p. ap (λ (z : Node). z.content) ((agree_set ns n (shape head) (rest fs) no-free).1 i p) ∙ m.empty i (omega (arith, occs i));
      row = refl;
      roots = (
        (refl, simp length-set lt, here ∙ ap (λ (h : Option ℕ). shown h l nil) (sym next), subst (λ (h : Option ℕ). Holds ds h is bytes) top w.holds, refl, next),
        roots_kept ns ms a.texts ds ts (agree_set ns n (shape head) (nodes_of ts) no-tree) (sym same, λ i p. w.kept i (omega (arith, b.one i, w.shared i))) m.roots,
      );
      once = λ i lt'. omega (arith, m.once i lt', occs i);
      text_once = λ i lt'. omega (arith, m.text_once i lt', w.shared i, occ_append);
    }

-- What is known where the arrays hold some trees.
pub some_long : (a : Arrays) (P : Trees → Type 0) → SomeTrees a P → length a.nodes ≤ 512
some_long a P s = ∥∥₁_elim s le_prop (λ x. omega (arith, x.1.2.long))

module _ (a : Arrays) (s : Sound a) where
  pub sound_texts : ∥ ((gs : List ℕ) × Free (text_links a.texts) a.free_texts gs) ∥₁
  sound_texts = ∥∥₁_map s (λ x. (x.1.1, x.1.2.texts))

  pub sound_long : length a.nodes ≤ 512
  sound_long = ∥∥₁_elim s le_prop (λ x. omega (arith, x.1.2.long))

  pub sound_first : (i : ℕ) → a.free_nodes.first ≡ Some i → (i < length a.nodes) × (0 < a.free_nodes.count)
  sound_first i e = (
    ∥∥₁_elim s le_prop (λ x. omega (arith, length-map a.nodes (λ (z : Node). z.next), (free_some (links a.nodes) a.free_nodes i x.1.0 e x.1.2.nodes).0)),
    ∥∥₁_elim s le_prop (λ x. (free_some (links a.nodes) a.free_nodes i x.1.0 e x.1.2.nodes).1),
  )

  pub sound_some : (head : Option ℕ) → head ≡ a.free_nodes.first → 0 < a.free_nodes.count → IsSome head
  sound_some (Some i) e p = search rules
  sound_some None e p =
      let none : a.free_nodes.count ≤ 0 = ∥∥₁_elim s le_prop (λ x. omega (arith, (free_none (links a.nodes) a.free_nodes x.1.0 (sym e) x.1.2.nodes).1)) in
      absurd (omega arith)

pub ruleset sound_facts = (sound_texts, sound_long, sound_first, sound_some)

-- What `map_err` leaves of an Ok.
pub mapped_ok : {X E D : Type 0} (r : Result X E) (q : Result X D) (Q : E → Type 0) (x : X) → MatchResult r (λ y. q ≡ Ok y) Q → is_ok q ≡ is_ok r → q ≡ Ok x → r ≡ Ok x
mapped_ok (Ok y) q Q x m v e = ap Ok (cc (m, e))
mapped_ok (Err y) q Q x m v e = absurd (cc (v, ap is_ok e))
