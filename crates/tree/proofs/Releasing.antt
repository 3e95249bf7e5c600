-- Trees given back node by node.
use Rattle.std.proofs.Common.{◌≡◌, ℕ, ◌+◌, ◌-◌, ◌<◌, ◌≤◌, true, ◌≢◌, List, [], ◌∷◌, ◌++◌, map, length, get_or, set, Some, None, Option, sym, refl, ap, ◌∙◌, subst, inl, inr, arith, length-set, get_or-set_other, get_or-set_same}
use mathlib.Core.Logic.{∥∥₁_elim, ∥∥₁_map}
use native.Mathlib.Bridge.{le_prop}
use Rattle.std.specs.Option.{option_or}
use Rattle.std.proofs.Math.ListN.{get_or-map}
use Rattle.std.proofs.lemmas.List.{get_or_default, length-map}
use Rattle.cells.specs.declared.frees.FreeList.{FreeList}
use Rattle.cells.specs.Chains.{Chain, occ, Once}
use Rattle.cells.specs.Frees.{Parted, Freed}
use Rattle.cells.proofs.Occs.{occ_here, occ_append, occ_cases}
use Rattle.cells.proofs.Tallies.{most}
use Rattle.cells.proofs.Giving.{free_give}
use Rattle.texts.specs.declared.cell.TextCell.{TextCell}
use Rattle.texts.specs.Texts.{blank as no_text, at as text_at, links as text_links}
use Rattle.texts.proofs.Writing.{link_at as text_link_at}
use Rattle.tree.specs.declared.arrays.Arrays.{Arrays}
use Rattle.tree.specs.declared.nodes.Node.{Node}
use Rattle.tree.specs.Trees.{Trees, Label, nil, node, nodes_of, texts_of, first_of, last_or, rooted, tree, without, opened, join, at, links, blank, Row}
use Rattle.tree.specs.Links.{ending, linked}
use Rattle.tree.specs.Models.{Holding, Represents, SomeWork, SomeTrees, EachTrees}
use Rattle.tree.proofs.Frames.{Agree, agree_set, agree_then, row_agree, row_kept, roots_kept, link_at}
use Rattle.tree.proofs.RowFacts.{row_join, row_linked, linked_at, linked_long, linked_in, occ_join, text_occ_join}
use Rattle.tree.proofs.RootFacts.{occ_tree, text_occ_tree, roots_without, root_is}
use Rattle.tree.proofs.AllFree.{unlinked, unlinked_at}
use Rattle.tree.proofs.Adding.{links_agree, free_in, model_apart, model_texts_apart}

node_is : (x y : Node) → unlinked x ≡ unlinked y → x.next ≡ y.next → x ≡ y
node_is x y u n = ap (λ (z : Node). ending z x.next) u ∙ ap (λ (h : Option ℕ). ending (unlinked y) h) n

bytes_at : (cs : List TextCell) (i : ℕ) → get_or (map (λ (c : TextCell). c.bytes) cs) i [] ≡ (text_at cs i).bytes
bytes_at cs i = get_or-map (λ (c : TextCell). c.bytes) cs i no_text

cell_is : (c d : TextCell) → c.next ≡ d.next → c.bytes ≡ d.bytes → c ≡ d
cell_is c d n b = ap (λ (h : Option ℕ). record { next = h; bytes = c.bytes }) n ∙ ap (λ (xs : List ℕ). record { next = d.next; bytes = xs }) b

-- The first node of a row under way, with all that is known of its cells.
module _ (a : Arrays) (k : ℕ) (l : Label) (ks ws ts : Trees) (fs gs : List ℕ) (m : Holding a (Some k) (node k l ks ws) ts fs gs) where
  abbrev ns : List Node
  ns = a.nodes

  abbrev cs : List TextCell
  cs = a.texts

  place : (i : ℕ) → occ i fs + (occ i (k ∷ (nodes_of ks ++ nodes_of ws)) + occ i (nodes_of ts)) ≤ 1
  place i = (model_apart a (Some k) (node k l ks ws) ts fs gs m).one i

  text_place : (i : ℕ) → occ i gs + ((occ i l.cells + (occ i (texts_of ks) + occ i (texts_of ws))) + occ i (texts_of ts)) ≤ 1
  text_place i = omega (arith, (model_texts_apart a (Some k) (node k l ks ws) ts fs gs m).one i, occ_append)

  once : Once (nodes_of ks)
  once i = omega (arith, place i, occ_append i (nodes_of ks) (nodes_of ws))

  abbrev nx : Option ℕ
  nx = (at ns k).next

  abbrev n₁ : List Node
  n₁ = linked ns (last_or None ks) nx

  abbrev n₂ : List Node
  n₂ = set n₁ k blank

  room : a.free_nodes.count < 512
  room =
      omega (
        arith,
        m.nodes.counted,
        most 512 (k ∷ fs)
            (λ i p. elim (occ_cases i k fs p) [ inl e ↦ omega (arith, e, m.row.1, m.long) | inr q ↦ free_in a (Some k) (node k l ks ws) ts fs gs m i q ])
            (λ i. omega (arith, place i)),
      )

  parted : Parted (text_links cs) (at ns k).text l.cells a.free_texts gs
  parted = record {
    chain = subst (λ (h : Option ℕ). Chain (text_links cs) h l.cells) (sym (ap (λ (x : Node). x.text) m.row.2)) m.row.3.spans.chain;
    spare = m.texts;
    apart = λ i. omega (arith, text_place i);
  }

  last_in : (j : ℕ) → (at ns k).last ≡ Some j → j < length ns
  last_in j e = linked_in ns cs nx ks m.row.4 once j (sym (ap (λ (x : Node). x.last) m.row.2) ∙ e)

  long₁ : length n₁ ≡ length ns
  long₁ = linked_long ns cs nx ks m.row.4 once

  same_at : (i : ℕ) → i ≢ k → occ i (nodes_of ks) ≡ 0 → at n₂ i ≡ at ns i
  same_at i ne z = get_or-set_other n₁ k i blank blank ne ∙ linked_at ns cs nx ks m.row.4 once i z

  -- The node given back, and its text.
  turn : (os : List Node) (nl' : FreeList) (ds : List TextCell) (tl' : FreeList) (hs : List ℕ)
      → links os ≡ set (links n₂) k a.free_nodes.first → map unlinked os ≡ map unlinked n₂ → nl'.first ≡ Some k → nl'.count ≡ a.free_nodes.count + 1
      → Freed (text_links cs) l.cells gs (text_links ds) tl' hs → map (λ (c : TextCell). c.bytes) ds ≡ map (λ (c : TextCell). c.bytes) cs
      → Holding (record { nodes = os; free_nodes = nl'; texts = ds; free_texts = tl' }) (option_or (first_of ks) nx) (join ks ws) ts (k ∷ fs) hs
  turn os nl' ds tl' hs ls loads head count freed bytes =
      let next : Node → Option ℕ = λ x. x.next in
      let block : TextCell → List ℕ = λ c. c.bytes in
      let long-os : length os ≡ length n₂ = omega (arith, ap length loads, length-map os unlinked, length-map n₂ unlinked) in
      let long₂ : length n₂ ≡ length ns = length-set n₁ k blank ∙ long₁ in
      let wide : length ds ≡ length cs = omega (arith, ap length bytes, length-map ds block, length-map cs block) in
      let load : (i : ℕ) → unlinked (at os i) ≡ unlinked (at n₂ i) = λ i. sym (unlinked_at os i) ∙ ap (λ (xs : List Node). get_or xs i blank) loads ∙ unlinked_at n₂ i in
      let after : (i : ℕ) → i ≢ k → at os i ≡ at n₂ i =
      λ i ne. node_is (at os i) (at n₂ i) (load i) (sym (link_at os i) ∙ ap (λ (xs : List (Option ℕ)). get_or xs i None) ls ∙ get_or-set_other (links n₂) k i a.free_nodes.first None ne ∙ link_at n₂ i) in
      let text : (i : ℕ) → occ i l.cells ≡ 0 → text_at ds i ≡ text_at cs i =
      λ i z. cell_is (text_at ds i) (text_at cs i) (sym (text_link_at ds i) ∙ freed.kept i z ∙ text_link_at cs i) (sym (bytes_at ds i) ∙ ap (λ (xs : List (List ℕ)). get_or xs i []) bytes ∙ bytes_at cs i) in
      let all : (i : ℕ) → i ≢ k → occ i (nodes_of ks) ≡ 0 → at os i ≡ at ns i = λ i ne z. after i ne ∙ same_at i ne z in
      let lt : k < length ns = m.row.1 in
      let here : at n₂ k ≡ blank = get_or-set_same n₁ k blank blank (omega (arith, lt, long₁)) in
      let no-free : occ k fs ≡ 0 = omega (arith, place k, occ_here k (nodes_of ks ++ nodes_of ws)) in
      let no-both : occ k (nodes_of (join ks ws)) ≡ 0 = omega (arith, place k, occ_here k (nodes_of ks ++ nodes_of ws), occ_append k (nodes_of ks) (nodes_of ws), occ_join k ks ws) in
      let no-ts : occ k (nodes_of ts) ≡ 0 = omega (arith, place k, occ_here k (nodes_of ks ++ nodes_of ws)) in
      let apart : (is : List ℕ) → occ k is ≡ 0 → (i : ℕ) → 0 < occ i is → i ≢ k = λ is z i p e. omega (arith, p, z, ap (λ (j : ℕ). occ j is) e) in
      let on-free : Agree ns os fs = (omega (arith, long-os, long₂), λ i p. all i (apart fs no-free i p) (omega (arith, place i, occ_append i (nodes_of ks) (nodes_of ws)))) in
      let on-free₂ : Agree ns n₂ fs = (sym long₂, λ i p. same_at i (apart fs no-free i p) (omega (arith, place i, occ_append i (nodes_of ks) (nodes_of ws)))) in
      let on-ts : Agree ns os (nodes_of ts) = (omega (arith, long-os, long₂), λ i p. all i (apart (nodes_of ts) no-ts i p) (omega (arith, place i, occ_append i (nodes_of ks) (nodes_of ws)))) in
      let on-ws : Agree ns n₁ (nodes_of ws) = (sym long₁, λ i p. linked_at ns cs nx ks m.row.4 once i (omega (arith, place i, occ_append i (nodes_of ks) (nodes_of ws)))) in
      let both : Row n₁ cs (option_or (first_of ks) nx) (join ks ws) None =
      row_join n₁ cs (option_or (first_of ks) nx) ks ws nx None (row_linked ns cs nx ks m.row.4 once) (row_agree ns n₁ cs nx ws None on-ws m.row.5) in
      let on_both : Agree n₁ os (nodes_of (join ks ws)) =
      agree_then n₁ n₂ os (nodes_of (join ks ws)) (agree_set n₁ k blank (nodes_of (join ks ws)) no-both) (sym long-os, λ i p. after i (apart (nodes_of (join ks ws)) no-both i p)) in
      record {
        long = long-os ∙ long₂ ∙ m.long;
        wide = wide ∙ m.wide;
        nodes = free_give (links n₂) (links os) a.free_nodes nl' k fs (omega (arith, lt, long₂, length-map n₂ next)) no-free ls head count (links_agree ns n₂ a.free_nodes fs on-free₂ m.nodes);
        texts = freed.spare;
        empty = λ i p. elim (occ_cases i k fs p) [
          | inl e ↦ ap (λ (j : ℕ). (at os j).content) e ∙ ap (λ (x : Node). x.content) (load k) ∙ ap (λ (x : Node). x.content) here
          | inr q ↦ ap (λ (x : Node). x.content) (on-free.1 i q) ∙ m.empty i q
        ];
        row = row_kept n₁ os cs ds (option_or (first_of ks) nx) (join ks ws) None on_both (sym wide, λ i p. text i (omega (arith, p, text_place i, text_occ_join i ks ws))) both;
        roots = roots_kept ns os cs ds ts on-ts (sym wide, λ i p. text i (omega (arith, text_place i))) m.roots;
        once = λ i l'. omega (arith, m.once i l', occ_join i ks ws, occ_append i (nodes_of ks) (nodes_of ws));
        text_once = λ i l'. omega (arith, m.text_once i l', freed.shared i, text_occ_join i ks ws, occ_append);
      }

-- The same of any row that begins at k.
record First (a : Arrays) (k : ℕ) (w ts : Trees) (fs gs : List ℕ) : Type 0 where
  l : Label
  ks : Trees
  ws : Trees
  is : w ≡ node k l ks ws
  model : Holding a (Some k) (node k l ks ws) ts fs gs

first_in : (a : Arrays) (k : ℕ) (w ts : Trees) (fs gs : List ℕ) → Holding a (Some k) w ts fs gs → First a k w ts fs gs
first_in a k nil ts fs gs m = absurd (cc m.row)
first_in a k (node n l ks ws) ts fs gs m =
    let is : node n l ks ws ≡ node k l ks ws = ap (λ (j : ℕ). node j l ks ws) (cc m.row.0) in
    record { l = l; ks = ks; ws = ws; is = is; model = subst (λ (w : Trees). Holding a (Some k) w ts fs gs) is m }

-- What freeing it meets.
module _ (a : Arrays) (k : ℕ) (s : SomeWork a (Some k)) where
  pub first_within : k < length a.nodes
  first_within = ∥∥₁_elim s le_prop (λ x. (first_in a k x.0 x.1 x.2 x.3 x.4).model.row.1)

  pub first_below : k < 512
  first_below = ∥∥₁_elim s le_prop (λ x. omega (arith, first_within, x.4.long))

  pub first_wide : length a.texts ≤ 1024
  first_wide = ∥∥₁_elim s le_prop (λ x. omega (arith, x.4.wide))

  pub first_few : a.free_nodes.count < 512
  first_few = ∥∥₁_elim s le_prop (λ x. let t = first_in a k x.0 x.1 x.2 x.3 x.4 in room a k t.l t.ks t.ws x.1 x.2 x.3 t.model)

-- The same of what the node says, as it is read with any default.
module _ (a : Arrays) (k : ℕ) (d : Node) where
  read : (w ts : Trees) (fs gs : List ℕ) → Holding a (Some k) w ts fs gs → get_or a.nodes k d ≡ at a.nodes k
  read w ts fs gs m = get_or_default a.nodes k d blank (first_in a k w ts fs gs m).model.row.1

  pub first_last : SomeWork a (Some k) → (j : ℕ) → (get_or a.nodes k d).last ≡ Some j → j < length a.nodes
  first_last s j e = ∥∥₁_elim s le_prop (λ x.
      let t = first_in a k x.0 x.1 x.2 x.3 x.4 in
      last_in a k t.l t.ks t.ws x.1 x.2 x.3 t.model j (sym (ap (λ (y : Node). y.last) (read x.0 x.1 x.2 x.3 x.4)) ∙ e))

  text_parted : (w ts : Trees) (fs gs : List ℕ) (m : Holding a (Some k) w ts fs gs) → Parted (text_links a.texts) (get_or a.nodes k d).text (first_in a k w ts fs gs m).l.cells a.free_texts gs
  text_parted w ts fs gs m =
      let t = first_in a k w ts fs gs m in
      subst (λ (x : Node). Parted (text_links a.texts) x.text t.l.cells a.free_texts gs) (sym (read w ts fs gs m)) (parted a k t.l t.ks t.ws ts fs gs t.model)

  pub first_text : SomeWork a (Some k) → ∥ ((is : List ℕ) × (free : List ℕ) × Parted (text_links a.texts) (get_or a.nodes k d).text is a.free_texts free) ∥₁
  first_text s = ∥∥₁_map s (λ x. ((first_in a k x.0 x.1 x.2 x.3 x.4).l.cells, x.3, text_parted x.0 x.1 x.2 x.3 x.4))

  pub first_freed : (ms os : List Node) (nl' : FreeList) (ds : List TextCell) (tl' : FreeList) (r : Option ℕ)
      → ms ≡ linked a.nodes (get_or a.nodes k d).last (get_or a.nodes k d).next → r ≡ option_or (get_or a.nodes k d).first (get_or a.nodes k d).next
      → nl'.first ≡ Some k → nl'.count ≡ a.free_nodes.count + 1 → links os ≡ set (links (set ms k blank)) k a.free_nodes.first → map unlinked os ≡ map unlinked (set ms k blank)
      → ((is free : List ℕ) → Parted (text_links a.texts) (get_or a.nodes k d).text is a.free_texts free → (left : List ℕ) × Freed (text_links a.texts) is free (text_links ds) tl' left)
      → map (λ (c : TextCell). c.bytes) ds ≡ map (λ (c : TextCell). c.bytes) a.texts
      → (w ts : Trees) (fs gs : List ℕ) → Holding a (Some k) w ts fs gs → (hs : List ℕ) × Holding (record { nodes = os; free_nodes = nl'; texts = ds; free_texts = tl' }) r (opened w) ts (k ∷ fs) hs
  first_freed ms os nl' ds tl' r made goes head count ls loads gave bytes w ts fs gs m =
      let t = first_in a k w ts fs gs m in
      let e = read w ts fs gs m in
      let row = t.model.row.2 in
      let nx = (at a.nodes k).next in
      let m-is : ms ≡ linked a.nodes (last_or None t.ks) nx = made ∙ ap (λ (x : Node). linked a.nodes x.last x.next) e ∙ ap (λ (x : Node). linked a.nodes x.last nx) row in
      let r-is : r ≡ option_or (first_of t.ks) nx = goes ∙ ap (λ (x : Node). option_or x.first x.next) e ∙ ap (λ (x : Node). option_or x.first nx) row in
      let y = gave t.l.cells gs (text_parted w ts fs gs m) in
      let turned = turn a k t.l t.ks t.ws ts fs gs t.model os nl' ds tl' y.0
      (ls ∙ ap (λ (xs : List Node). set (links (set xs k blank)) k a.free_nodes.first) m-is) (loads ∙ ap (λ (xs : List Node). map unlinked (set xs k blank)) m-is) head count y.1 bytes in
      let b : Arrays = record { nodes = os; free_nodes = nl'; texts = ds; free_texts = tl' } in (
        y.0,
        subst (λ (v : Trees). Holding b r (opened v) ts (k ∷ fs) y.0) (sym t.is) (subst (λ (u : Option ℕ). Holding b u (join t.ks t.ws) ts (k ∷ fs) y.0) (sym r-is) turned),
      )

pub ruleset first_facts = (first_within, first_below, first_wide, first_few, first_last, first_text, length-set)

-- A tree of the model, taken for release.
to_row : (a : Arrays) (ts : Trees) (rep : Represents a ts) (n : ℕ) → rooted n ts ≡ true → Holding a (Some n) (tree n ts) (without n ts) rep.0 rep.1
to_row a ts rep n h =
    let m = rep.2 in
    let t = root_is n a.nodes a.texts ts m.roots h in
    record {
      long = m.long;
      wide = m.wide;
      nodes = m.nodes;
      texts = m.texts;
      empty = m.empty;
      row = subst (λ (u : Trees). Row a.nodes a.texts (Some n) u None) (sym t.2) t.3;
      roots = roots_without n a.nodes a.texts ts m.roots;
      once = λ i lt. omega (arith, m.once i lt, occ_tree n i ts);
      text_once = λ i lt. omega (arith, m.text_once i lt, text_occ_tree n i ts);
    }

row_none : (ns : List Node) (cs : List TextCell) (w : Trees) → Row ns cs None w None → w ≡ nil
row_none ns cs nil r = refl
row_none ns cs (node n l ks ts) r = cc r.0

-- What is known at each turn, whichever trees the arrays held.
pub record Releasing (a : Arrays) (n : ℕ) (b : Arrays) (todo : Option ℕ) : Type 0 where
  pub each : EachTrees a (λ ts. rooted n ts ≡ true → (w : Trees) × (fs : List ℕ) × (gs : List ℕ) × Holding b todo w (without n ts) fs gs)

pub releasing_start : (a : Arrays) (n : ℕ) → Releasing a n a (Some n)
releasing_start a n = record { each = λ ts rep h. (tree n ts, rep.0, rep.1, to_row a ts rep n h) }

module _ (a : Arrays) (n : ℕ) (b : Arrays) (todo : Option ℕ) (g : Releasing a n b todo) where
  at_todo : (h : Option ℕ) → todo ≡ h → EachTrees a (λ ts. rooted n ts ≡ true → (w : Trees) × (fs : List ℕ) × (gs : List ℕ) × Holding b h w (without n ts) fs gs)
  at_todo h e ts rep r = let x = g.each ts rep r in (x.0, x.1, x.2, subst (λ (u : Option ℕ). Holding b u x.0 (without n ts) x.1 x.2) e x.3)

  pub releasing_done : todo ≡ None → EachTrees a (λ ts. rooted n ts ≡ true → Represents b (without n ts))
  releasing_done e ts rep h =
      let x = at_todo None e ts rep h in
      (x.1, x.2, subst (λ (w : Trees). Holding b None w (without n ts) x.1 x.2) (row_none b.nodes b.texts x.0 x.3.row) x.3)

  module _ (k : ℕ) (e : todo ≡ Some k) where
    pub releasing_held : SomeTrees a (λ ts. rooted n ts ≡ true) → SomeWork b (Some k)
    releasing_held s = ∥∥₁_map s (λ x. let y = at_todo (Some k) e x.0 x.1 x.2 in (y.0, without n x.0, y.1, y.2, y.3))

    module _ (d : Arrays) (r : Option ℕ) (step : (w ts : Trees) (fs gs : List ℕ) → Holding b (Some k) w ts fs gs → (hs : List ℕ) × Holding d r (opened w) ts (k ∷ fs) hs) where
      pub releasing_more : Releasing a n d r
      releasing_more = record {
        each = λ ts rep h.
            let x = at_todo (Some k) e ts rep h in
            let y = step x.0 (without n ts) x.1 x.2 x.3 in
            (opened x.0, k ∷ x.1, y.0, y.1);
      }

      pub releasing_less : SomeTrees a (λ ts. rooted n ts ≡ true) → 512 - d.free_nodes.count < 512 - b.free_nodes.count
      releasing_less s = ∥∥₁_elim (releasing_held s) le_prop (λ x.
          omega (arith, first_few b k (releasing_held s), x.4.nodes.counted, (step x.0 x.1 x.2 x.3 x.4).1.nodes.counted))
