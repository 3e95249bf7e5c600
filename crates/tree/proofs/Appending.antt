-- A tree put below a node, and the value of a pair taken off.
use Rattle.std.proofs.Common.{◌≡◌, ℕ, ◌+◌, ◌<◌, ◌≤◌, ◌≢◌, List, [], ◌++◌, length, get_or, set, Some, None, Option, sym, refl, ap, ◌∙◌, subst, arith, length-set, get_or-set_other, get_or-set_same}
use mathlib.Core.Logic.{∥∥₁_elim}
use native.Mathlib.Bridge.{le_prop}
use Rattle.std.specs.Option.{option_or}
use Rattle.std.proofs.lemmas.List.{get_or_default}
use Rattle.cells.specs.Chains.{occ, Once}
use Rattle.cells.proofs.Occs.{occ_here, occ_append}
use Rattle.texts.specs.declared.cell.TextCell.{TextCell}
use Rattle.tree.specs.declared.arrays.Arrays.{Arrays}
use Rattle.tree.specs.declared.nodes.Node.{Node}
use Rattle.tree.specs.Trees.{Trees, Label, Lies, nil, node, nodes_of, texts_of, first_of, last_or, count_of, tree, without, below, put, join, label_up, roots_up, at, blank, shown, Row, Roots}
use Rattle.tree.specs.Links.{with_up, linked, one_more, set_up_at, linked_below, unlinked_below, none_below}
use Rattle.tree.specs.Models.{Holding, Represents, SomeTrees, EachTrees}
use Rattle.tree.specs.Moves.{Separate, appended, Detached}
use Rattle.tree.specs.Walks.{subtree}
use Rattle.tree.proofs.Frames.{Agree, row_agree}
use Rattle.tree.proofs.RowFacts.{Stands, roots_stood, row_join, count_room, row_linked, linked_at, linked_long, linked_in, first_join, join_last, join_count, occ_join, text_occ_join, text_occ_node}
use Rattle.tree.proofs.Puts.{holding, roots_put, Place, place, below_within, below_strict, put_occ, put_text_occ}
use Rattle.tree.proofs.RootFacts.{occ_tree, text_occ_tree, roots_without, root_is}
use Rattle.tree.proofs.Adding.{links_agree, one_tree, some_long}

one_more_holds : (x : Node) (new : ℕ) (l : Label) (ks : Trees) (y : Label) (ms : Trees) → x ≡ shown x.next l ks → one_more x (option_or x.first (Some new)) new ≡ holding x (join ks (node new y ms nil))
one_more_holds x new l ks y ms is =
    let us = join ks (node new y ms nil) in
    let f : option_or x.first (Some new) ≡ first_of us = ap (λ (z : Node). option_or z.first (Some new)) is ∙ sym (first_join ks new y ms) in
    let e : Some new ≡ last_or None us = sym (join_last None ks new y ms) in
    let c : x.count + 1 ≡ count_of us = ap (λ (z : Node). z.count + 1) is ∙ sym (join_count ks new y ms) in
    ap (λ (h : Option ℕ). record x { first = h; last = Some new; count = x.count + 1 }) f
    ∙ ap (λ (h : Option ℕ). record x { first = first_of us; last = h; count = x.count + 1 }) e
    ∙ ap (λ (k : ℕ). record x { first = first_of us; last = last_or None us; count = k }) c

-- A node that stands among others, where k does not.
other : (is : List ℕ) (i k : ℕ) → 0 < occ i is → occ k is ≡ 0 → i ≢ k
other is i k p z e = omega (arith, p, z, ap (λ (j : ℕ). occ j is) e)

-- A tree alone, under another node.
row_up : (ns ms : List Node) (cs : List TextCell) (u : Option ℕ) (v : ℕ) (l : Label) (ks : Trees) → Agree ns ms (nodes_of ks) → at ms v ≡ with_up (at ns v) u → Row ns cs (Some v) (node v l ks nil) None
    → Row ms cs (Some v) (node v (label_up u l) ks nil) None
row_up ns ms cs u v l ks agree here r =
    let next : (at ms v).next ≡ (at ns v).next = ap (λ (x : Node). x.next) here in (
      refl,
      omega (arith, r.1, agree.0),
      here ∙ ap (λ (x : Node). with_up x u) r.2 ∙ ap (λ (h : Option ℕ). shown h (label_up u l) ks) (sym next),
      r.3,
      row_agree ns ms cs (first_of ks) ks None agree r.4,
      next ∙ r.5,
    )

-- A node written at `top`, and then v put under another.
module _ (ns : List Node) (top v : ℕ) (x : Node) (u : Option ℕ) where
  abbrev written : List Node
  written = set_up_at (set ns top x) v u

  written_at : (i : ℕ) → i ≢ top → i ≢ v → at written i ≡ at ns i
  written_at i p q = get_or-set_other (set ns top x) v i (with_up (at (set ns top x) v) u) blank q ∙ get_or-set_other ns top i x blank p

  written_long : length written ≡ length ns
  written_long = length-set (set ns top x) v (with_up (at (set ns top x) v) u) ∙ length-set ns top x

  written_top : top < length ns → top ≢ v → at written top ≡ x
  written_top lt ne = get_or-set_other (set ns top x) v top (with_up (at (set ns top x) v) u) blank ne ∙ get_or-set_same ns top x blank lt

  written_up : v < length ns → top ≢ v → at written v ≡ with_up (at ns v) u
  written_up lt ne =
      get_or-set_same (set ns top x) v (with_up (at (set ns top x) v) u) blank (omega (arith, lt, length-set ns top x))
      ∙ ap (λ (y : Node). with_up y u) (get_or-set_other ns top v x blank (λ e. ne (sym e)))

pub stands_in : (a : Arrays) (n : ℕ) (ts : Trees) → Represents a ts → Lies n ts → Place a.nodes a.texts n ts (below n ts) (subtree n ts)
stands_in a n ts rep p = place a.nodes a.texts n ts (roots_stood a.nodes a.texts ts rep.2.roots) (omega (arith, p, one_tree a ts rep n))

module _ (a : Arrays) (ts : Trees) (rep : Represents a ts) (to new : ℕ) (h : Separate to new ts) where
  abbrev ns : List Node
  ns = a.nodes

  abbrev cs : List TextCell
  cs = a.texts

  abbrev fs : List ℕ
  fs = rep.0

  -- the other trees, and the row below `to`
  abbrev vs : Trees
  vs = without new ts

  abbrev k₀ : Trees
  k₀ = below to vs

  -- each node is free, or in one of the trees, and that once
  one_spot : (i : ℕ) → occ i fs + (occ i (nodes_of (tree new ts)) + occ i (nodes_of vs)) ≤ 1
  one_spot i = omega (arith, one_tree a ts rep i, occ_tree new i ts)

  -- what stands at `to`, and at `new`
  pub above_stands : Place ns cs to vs k₀ (subtree to vs)
  above_stands = place ns cs to vs (roots_stood ns cs vs (roots_without new ns cs ts rep.2.roots)) (omega (arith, h.1, one_spot to))

  pub new_stands : (l : Label) × (ks : Trees) × (tree new ts ≡ node new l ks nil) × Row ns cs (Some new) (node new l ks nil) None
  new_stands = root_is new ns cs ts rep.2.roots h.0

  alone : (i : ℕ) → occ i (nodes_of k₀) ≤ occ i (nodes_of vs)
  alone i = below_within i to vs

  pub once₀ : Once (nodes_of k₀)
  once₀ i = omega (arith, one_spot i, alone i)

  -- with ks below `new`
  module _ (l₁ l : Label) (ks : Trees) (st : Stands ns cs to l₁ k₀) (t-is : tree new ts ≡ node new l ks nil) (rn : Row ns cs (Some new) (node new l ks nil) None) where
    parts : (i : ℕ) → occ i (nodes_of (tree new ts)) ≡ occ i (nodes_of (node new l ks nil))
    parts i = ap (λ (u : Trees). occ i (nodes_of u)) t-is

    one_place : (i : ℕ) → occ i fs + (occ i (nodes_of (node new l ks nil)) + occ i (nodes_of vs)) ≤ 1
    one_place i = omega (arith, one_spot i, parts i)

    -- how often `new` and `to` stand elsewhere
    new_here : Lies new (node new l ks nil)
    new_here = omega (arith, occ_here new (nodes_of ks ++ []))

    new_vs : occ new (nodes_of vs) ≡ 0
    new_vs = omega (arith, one_place new, new_here)

    new_k₀ : occ new (nodes_of k₀) ≡ 0
    new_k₀ = omega (arith, new_vs, alone new)

    ne : to ≢ new
    ne = other (nodes_of vs) to new h.1 new_vs

    unfoldable n₁ : List Node
    n₁ = linked ns (last_or None k₀) (Some new)

    unfoldable x₁ : Node
    x₁ = one_more (at ns to) (option_or (at ns to).first (Some new)) new

    unfoldable n₃ : List Node
    n₃ = written n₁ to new x₁ (Some to)

    same_at : (i : ℕ) → i ≢ to → i ≢ new → occ i (nodes_of k₀) ≡ 0 → at n₃ i ≡ at ns i
    unfolding n₁ n₃
    same_at i p q z = written_at n₁ to new x₁ (Some to) i p q ∙ linked_at ns cs (Some new) k₀ st.row once₀ i z

    long₁ : length n₁ ≡ length ns
    unfolding n₁
    long₁ = linked_long ns cs (Some new) k₀ st.row once₀

    long : length n₃ ≡ length ns
    unfolding n₃
    long = written_long n₁ to new x₁ (Some to) ∙ long₁

    here_to : at n₃ to ≡ x₁
    unfolding n₃
    here_to = written_top n₁ to new x₁ (Some to) (omega (arith, st.lt, long₁)) ne

    here_new : at n₃ new ≡ with_up (at ns new) (Some to)
    unfolding n₁ n₃
    here_new = written_up n₁ to new x₁ (Some to) (omega (arith, rn.1, long₁)) ne ∙ ap (λ (x : Node). with_up x (Some to)) (linked_at ns cs (Some new) k₀ st.row once₀ new new_k₀)

    -- nodes that are none of those
    kept : (is : List ℕ) → occ to is ≡ 0 → occ new is ≡ 0 → ((i : ℕ) → 0 < occ i is → occ i (nodes_of k₀) ≡ 0) → Agree ns n₃ is
    kept is p q z = (sym long, λ i r. same_at i (other is i to r p) (other is i new r q) (z i r))

    front : Row n₃ cs (option_or (first_of k₀) (Some new)) k₀ (Some new)
    unfolding n₁ n₃
    front =
        row_agree n₁ n₃ cs (option_or (first_of k₀) (Some new)) k₀ (Some new) (
          sym (written_long n₁ to new x₁ (Some to)),
          λ i p. written_at n₁ to new x₁ (Some to) i (other (nodes_of k₀) i to p (below_strict to vs (omega (arith, h.1, one_spot to)))) (other (nodes_of k₀) i new p new_k₀),
        )
        (row_linked ns cs (Some new) k₀ st.row once₀)

    back : Row n₃ cs (Some new) (node new (label_up (Some to) l) ks nil) None
    back =
        let both = λ (i : ℕ). occ_append i (nodes_of ks) [] in
        row_up ns n₃ cs (Some to) new l ks
        (kept (nodes_of ks) (omega (arith, h.1, one_place to, both to)) (omega (arith, one_place new, occ_here new (nodes_of ks ++ []), both new)) (λ i p. omega (arith, p, one_place i, alone i, both i)))
        here_new rn

    unfoldable us : Trees
    us = join k₀ (node new (label_up (Some to) l) ks nil)

    whole : Row n₃ cs (first_of us) us None
    unfolding us
    whole = subst (λ (f : Option ℕ). Row n₃ cs f us None) (sym (first_join k₀ new (label_up (Some to) l) ks)) (row_join n₃ cs (option_or (first_of k₀) (Some new)) k₀ (node new (label_up (Some to) l) ks nil) (Some new) None front back)

    put_roots : Roots n₃ cs (put to us vs)
    unfolding us x₁
    put_roots =
        roots_put ns n₃ cs to us (here_to ∙ one_more_holds (at ns to) new l₁ k₀ (label_up (Some to) l) ks st.is) whole vs (λ i. omega (arith, one_spot i))
        (sym long, λ i p d z. same_at i d (other (nodes_of vs) i new p new_vs) z) (roots_without new ns cs ts rep.2.roots)

    model_linked : Holding (record a { nodes = n₃ }) None nil (put to us vs) fs rep.1
    unfolding us
    model_linked =
        let m = rep.2 in
        let keep = kept fs (omega (arith, h.1, one_place to)) (omega (arith, one_place new, new_here)) (λ i p. omega (arith, p, one_spot i, alone i)) in
        let one : occ to (nodes_of vs) ≡ 1 = omega (arith, h.1, one_spot to) in
        let l' = label_up (Some to) l in
        record {
          long = long ∙ m.long;
          wide = m.wide;
          nodes = links_agree ns n₃ a.free_nodes fs keep m.nodes;
          texts = m.texts;
          empty = λ i p. ap (λ (x : Node). x.content) (keep.1 i p) ∙ m.empty i p;
          row = refl;
          roots = put_roots;
          once = λ i lt. omega (arith, m.once i lt, parts i, occ_tree new i ts, put_occ i to us vs one, occ_join i k₀ (node new l' ks nil));
          text_once = λ i lt. omega (arith, m.text_once i lt, ap (λ (u : Trees). occ i (texts_of u)) t-is, text_occ_tree new i ts, put_text_occ i to us vs one, text_occ_join i k₀ (node new l' ks nil), text_occ_node i new l' ks nil, text_occ_node i new l ks nil);
        }

    linked_is : linked_below ns to new ≡ n₃
    unfolding n₁ n₃ x₁
    linked_is = ap (λ (e : Option ℕ). set_up_at (set (linked ns e (Some new)) to (one_more (at ns to) (option_or (at ns to).first (Some new)) new)) new (Some to)) (ap (λ (x : Node). x.last) st.is)

    linked_holds : (xs : List Node) → xs ≡ linked_below ns to new → Holding (record a { nodes = xs }) None nil (appended to new ts) fs rep.1
    unfolding us
    linked_holds xs e =
        subst (λ (u : Trees). Holding (record a { nodes = xs }) None nil (put to (join k₀ (roots_up (Some to) u)) vs) fs rep.1) (sym t-is)
        (subst (λ (zs : List Node). Holding (record a { nodes = zs }) None nil (put to (join k₀ (node new (label_up (Some to) l) ks nil)) vs) fs rep.1) (sym (e ∙ linked_is)) model_linked)

pub model_appended : (a : Arrays) (ts : Trees) (rep : Represents a ts) (to new : ℕ) → Separate to new ts → (xs : List Node) → xs ≡ linked_below a.nodes to new → Represents (record a { nodes = xs }) (appended to new ts)
model_appended a ts rep to new h xs e =
    let s = above_stands a ts rep to new h in
    let t = new_stands a ts rep to new h in
    (rep.0, rep.1, linked_holds a ts rep to new h s.l t.0 t.1 s.stands t.2 t.3 xs e)

-- What `link_below` needs.
module _ (a : Arrays) (to new : ℕ) (s : SomeTrees a (Separate to new)) where
  pub to_in : to < length a.nodes
  to_in = ∥∥₁_elim s le_prop (λ x. (above_stands a x.0 x.1 to new x.2).stands.lt)

  pub new_in : new < length a.nodes
  new_in = ∥∥₁_elim s le_prop (λ x. (new_stands a x.0 x.1 to new x.2).3.1)

  pub to_room : (at a.nodes to).count ≤ 512
  to_room = ∥∥₁_elim s le_prop (λ x.
      let t = (above_stands a x.0 x.1 to new x.2).stands in
      omega (arith, x.1.2.long, count_room a.nodes a.texts (first_of (below to (without new x.0))) (below to (without new x.0)) None t.row (once₀ a x.0 x.1 to new x.2), ap (λ (y : Node). y.count) t.is))

  pub to_last : (k : ℕ) → (at a.nodes to).last ≡ Some k → k < length a.nodes
  to_last k e = ∥∥₁_elim s le_prop (λ x.
      let t = (above_stands a x.0 x.1 to new x.2).stands in
      linked_in a.nodes a.texts None (below to (without new x.0)) t.row (once₀ a x.0 x.1 to new x.2) k (sym (ap (λ (y : Node). y.last) t.is) ∙ e))

pub ruleset append_facts = (to_in, new_in, to_room, to_last)

-- The one node below `top` taken off.
module _ (a : Arrays) (ts : Trees) (rep : Represents a ts) (top v : ℕ) (l₁ l : Label) (ks : Trees) (p : Lies top ts) (is : below top ts ≡ node v l ks nil) (st : Stands a.nodes a.texts top l₁ (node v l ks nil)) where
  inside : (i : ℕ) → occ i (nodes_of (node v l ks nil)) ≤ occ i (nodes_of ts)
  inside i = subst (λ (t : Trees). occ i (nodes_of t) ≤ occ i (nodes_of ts)) is (below_within i top ts)

  not_top : occ top (nodes_of (node v l ks nil)) ≡ 0
  not_top = subst (λ (t : Trees). occ top (nodes_of t) ≡ 0) is (below_strict top ts (omega (arith, p, one_tree a ts rep top)))

  v_in : Lies v (node v l ks nil)
  v_in = omega (arith, occ_here v (nodes_of ks ++ []))

  ne₂ : top ≢ v
  ne₂ e = other (nodes_of (node v l ks nil)) v top v_in not_top (sym e)

  abbrev x₂ : Node
  x₂ = none_below (at a.nodes top)

  abbrev o₃ : List Node
  o₃ = unlinked_below a.nodes top v

  kept₂ : (is : List ℕ) → occ top is ≡ 0 → occ v is ≡ 0 → Agree a.nodes o₃ is
  kept₂ is q r = (sym (written_long a.nodes top v x₂ None), λ i s. written_at a.nodes top v x₂ None i (other is i top s q) (other is i v s r))

  value_row : Row o₃ a.texts (Some v) (node v (label_up None l) ks nil) None
  value_row =
      let both = λ (i : ℕ). occ_append i (nodes_of ks) [] in
      row_up a.nodes o₃ a.texts None v l ks
      (kept₂ (nodes_of ks) (omega (arith, not_top, both top)) (omega (arith, inside v, one_tree a ts rep v, occ_here v (nodes_of ks ++ []), both v)))
      (written_up a.nodes top v x₂ None st.row.1 ne₂) st.row

  model_detached : Holding (record a { nodes = o₃ }) None nil (node v (label_up None l) ks (put top nil ts)) rep.0 rep.1
  model_detached =
      let m = rep.2 in
      let keep = kept₂ rep.0 (omega (arith, p, one_tree a ts rep top)) (omega (arith, v_in, inside v, one_tree a ts rep v)) in
      let one : occ top (nodes_of ts) ≡ 1 = omega (arith, p, one_tree a ts rep top) in
      record {
        long = written_long a.nodes top v x₂ None ∙ m.long;
        wide = m.wide;
        nodes = links_agree a.nodes o₃ a.free_nodes rep.0 keep m.nodes;
        texts = m.texts;
        empty = λ i q. ap (λ (x : Node). x.content) (keep.1 i q) ∙ m.empty i q;
        row = refl;
        roots = (
          value_row,
          roots_put a.nodes o₃ a.texts top nil (written_top a.nodes top v x₂ None st.lt ne₂) refl ts (λ i. omega (arith, one_tree a ts rep i)) (
            sym (written_long a.nodes top v x₂ None),
            λ i q d z. written_at a.nodes top v x₂ None i d (λ e. omega (arith, subst (λ (t : Trees). occ i (nodes_of t) ≡ 0) is z, v_in, ap (λ (j : ℕ). occ j (nodes_of (node v l ks nil))) e)),
          )
              m.roots,
        );
        once = λ i lt. omega (arith, m.once i lt, put_occ i top nil ts one, ap (λ (t : Trees). occ i (nodes_of t)) is, occ_append i (nodes_of ks) (nodes_of (put top nil ts)), occ_append i (nodes_of ks) []);
        text_once = λ i lt. omega (arith, m.text_once i lt, put_text_occ i top nil ts one, ap (λ (t : Trees). occ i (texts_of t)) is, text_occ_node i v l ks nil, text_occ_node i v (label_up None l) ks (put top nil ts));
      }

-- A node that lies in some tree.
abbrev pub Placed : Arrays → ℕ → Type 0
Placed a n = SomeTrees a (Lies n)

pub placed_in : (a : Arrays) (n : ℕ) → Placed a n → n < length a.nodes
placed_in a n s = ∥∥₁_elim s le_prop (λ x. (stands_in a n x.0 x.1 x.2).stands.lt)

-- What it says of the row below it, read with any default.
module _ (a : Arrays) (n : ℕ) (d : Node) where
  first_is : EachTrees a (λ ts. Lies n ts → (get_or a.nodes n d).first ≡ first_of (below n ts))
  first_is ts rep p =
      let s = (stands_in a n ts rep p).stands in
      ap (λ (x : Node). x.first) (get_or_default a.nodes n d blank s.lt ∙ s.is)

  pub below_row : EachTrees a (λ ts. Lies n ts → Row a.nodes a.texts (get_or a.nodes n d).first (below n ts) None × Once (nodes_of (below n ts)))
  below_row ts rep p = (
    subst (λ (f : Option ℕ). Row a.nodes a.texts f (below n ts) None) (sym (first_is ts rep p)) (stands_in a n ts rep p).stands.row,
    λ i. omega (arith, below_within i n ts, one_tree a ts rep i),
  )

  pub below_in : (v : ℕ) → (get_or a.nodes n d).first ≡ Some v → Placed a n → v < length a.nodes
  below_in v e s = ∥∥₁_elim s le_prop (λ x. go (below n x.0) (subst (λ (f : Option ℕ). Row a.nodes a.texts f (below n x.0) None) e (below_row x.0 x.1 x.2).0))
    where
      go : (ks : Trees) → Row a.nodes a.texts (Some v) ks None → v < length a.nodes
      go nil r = absurd cc
      go (node m l ks ts) r = let same : v ≡ m = cc r.0 in omega (arith, r.1)

  pub detached_none : (r : Option ℕ) → (get_or a.nodes n d).first ≡ None → r ≡ None → EachTrees a (λ ts. Lies n ts → Detached a n ts a r)
  detached_none r e is-none ts rep p = record {
    none = λ _. (is-none, refl);
    some = λ v l ks is. let f : None ≡ Some v = sym e ∙ first_is ts rep p ∙ ap first_of is in absurd cc;
  }

  pub detached_some : (v : ℕ) (xs : List Node) → (get_or a.nodes n d).first ≡ Some v → xs ≡ unlinked_below a.nodes n v → EachTrees a (λ ts. Lies n ts → Detached a n ts (record a { nodes = xs }) (Some v))
  detached_some v xs e made ts rep p = record {
    none = λ is. let f : Some v ≡ None = sym e ∙ first_is ts rep p ∙ ap first_of is in absurd cc;
    some = λ w l ks is.
        let f : Some v ≡ Some w = sym e ∙ first_is ts rep p ∙ ap first_of is in
        let same : v ≡ w = cc in
        let s = stands_in a n ts rep p in
        let m = model_detached a ts rep n w s.l l ks p is (subst (λ (t : Trees). Stands a.nodes a.texts n s.l t) is s.stands) in
        (f, (rep.0, rep.1, subst (λ (zs : List Node). Holding (record a { nodes = zs }) None nil (node w (label_up None l) ks (put n nil ts)) rep.0 rep.1) (sym (made ∙ ap (λ (j : ℕ). unlinked_below a.nodes n j) same)) m));
  }

pub ruleset placed_facts = (placed_in, some_long, below_in)
