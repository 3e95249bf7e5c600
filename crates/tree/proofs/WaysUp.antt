-- The way up from a node to its tree.
use Rattle.std.proofs.Common.{◌≡◌, ℕ, zero, suc, ◌+◌, ◌<◌, ◌≤◌, ◌≢◌, true, List, [], ◌∷◌, ◌++◌, map, length, get_or, Some, None, Option, sym, refl, ap, ◌∙◌, subst, inl, inr, arith, length-append}
use mathlib.Core.Logic.{∥∥₁_elim}
use native.Mathlib.Bridge.{le_prop}
use Rattle.std.proofs.Math.ListN.{get_or-map}
use Rattle.std.proofs.lemmas.Bool.Decides.{nat_tests}
use Rattle.std.proofs.lemmas.List.{get_or_default, length-map}
use Rattle.cells.specs.Chains.{Chain, occ, Once, rest}
use Rattle.cells.proofs.Occs.{occ_here, occ_append, occ_cases, occ_split}
use Rattle.cells.proofs.Links.{chain_some, chain_none}
use Rattle.cells.proofs.Tallies.{most}
use Rattle.texts.specs.declared.cell.TextCell.{TextCell}
use Rattle.tree.specs.declared.arrays.Arrays.{Arrays}
use Rattle.tree.specs.declared.nodes.Node.{Node}
use Rattle.tree.specs.Trees.{Trees, Label, Lies, nil, node, nodes_of, rooted, tree, at, blank}
use Rattle.tree.specs.Models.{Represents, SomeTrees, EachTrees}
use Rattle.tree.specs.Ups.{Under}
use Rattle.tree.proofs.RowFacts.{Stands, Stood, roots_stood, below_stood, nodes_in}
use Rattle.tree.proofs.Adding.{one_tree, some_long}

-- the links upwards
abbrev pub ups : List Node → List (Option ℕ)
ups ns = map (λ x. x.up) ns

-- the last of a list, or d where it is empty
abbrev pub last_of : ℕ → List ℕ → ℕ
last_of d [] = d
last_of d (i ∷ is) = last_of i is

up_at : (ns : List Node) (i : ℕ) → get_or (ups ns) i None ≡ (at ns i).up
up_at ns i = get_or-map (λ (x : Node). x.up) ns i blank

-- how many links can be followed from `head`, at most f
abbrev pub links_from : ℕ → List (Option ℕ) → Option ℕ → ℕ
links_from zero ls h = 0
links_from (suc f) ls None = 0
links_from (suc f) ls (Some i) = suc (links_from f ls (get_or ls i None))

links_from_is : (f : ℕ) (ls : List (Option ℕ)) (head : Option ℕ) (is : List ℕ) → Chain ls head is → length is ≤ f → links_from f ls head ≡ length is
links_from_is zero ls head [] c h = refl
links_from_is zero ls head (i ∷ is) c h = absurd (omega arith)
links_from_is (suc f) ls head [] c h = ap (links_from (suc f) ls) c
links_from_is (suc f) ls head (i ∷ is) c h = ap (links_from (suc f) ls) c.0 ∙ ap suc (links_from_is f ls (get_or ls i None) is c.2 (omega arith))

-- From any node of a row below `top` the way up leads on as from above the row.
module _ (ns : List Node) (cs : List TextCell) (top : ℕ) where
  here : (u : Option ℕ) (us : List ℕ) (n : ℕ) (l : Label) (ks : Trees) → Stands ns cs n l ks → l.up ≡ u → Chain (ups ns) u us → Chain (ups ns) (Some n) (n ∷ us)
  here u us n l ks s e c = (
    refl,
    omega (arith, s.lt, length-map ns (λ (x : Node). x.up)),
    subst (λ (h : Option ℕ). Chain (ups ns) h us) (sym (up_at ns n ∙ ap (λ (x : Node). x.up) s.is ∙ e)) c,
  )

  ways : (u : Option ℕ) (us : List ℕ) → Chain (ups ns) u us → ((d : ℕ) → last_of d us ≡ top) → (ts : Trees) → Stood ns cs ts → Under u ts → (i : ℕ) → 0 < occ i (nodes_of ts)
      → (is : List ℕ) × Chain (ups ns) (Some i) is × (length is ≤ length us + length (nodes_of ts)) × (last_of i is ≡ top)
  ways u us c t nil s up i p = absurd (omega arith)
  ways u us c t (node n l ks ts) s up i p =
      let mine = here u us n l ks s.0 up.0 c in
      let long = length-append (nodes_of ks) (nodes_of ts) in
      elim (occ_cases i n (nodes_of ks ++ nodes_of ts) p) [
        | inl e ↦ (n ∷ us, subst (λ (j : ℕ). Chain (ups ns) (Some j) (n ∷ us)) (sym e) mine, omega (arith, long), t n)
        | inr q ↦ elim (occ_split i (nodes_of ks) (nodes_of ts) q) [
          | inl a ↦ let x = ways (Some n) (n ∷ us) mine (λ d. t n) ks (below_stood ns cs ks s.0.row) up.1 i a in (x.0, x.1, omega (arith, x.2, long), x.3)
          | inr b ↦ let x = ways u us c t ts s.1 up.2 i b in (x.0, x.1, omega (arith, x.2, long), x.3)
        ]
      ]

nodes_room : (a : Arrays) (ts : Trees) → Represents a ts → length (nodes_of ts) ≤ length a.nodes
nodes_room a ts rep = most (length a.nodes) (nodes_of ts) (nodes_in a.nodes a.texts ts (roots_stood a.nodes a.texts ts rep.2.roots)) (λ i. omega (arith, one_tree a ts rep i))

-- The node i lies in the tree of the root where the way up from `now` ends.
pub record Way (ns : List Node) (ts : Trees) (i now : ℕ) : Type 0 where
  pub root : ℕ
  pub is : List ℕ
  pub chain : Chain (ups ns) (Some now) is
  pub short : length is ≤ length (nodes_of ts)
  pub last : last_of now is ≡ root
  pub found : rooted root ts ≡ true
  pub inside : Lies i (tree root ts)

rooted_in : (k : ℕ) (ts : Trees) → rooted k ts ≡ true → 0 < occ k (nodes_of ts)
rooted_in k nil h = absurd cc
rooted_in k (node n l ks ts) h = grind (arith, nat_tests, rooted_in k ts, occ_append k (nodes_of ks) (nodes_of ts))

first_way : (ns : List Node) (n : ℕ) (l : Label) (ks ts : Trees) (i : ℕ) (is : List ℕ) → Chain (ups ns) (Some i) is → length is ≤ length (nodes_of (node n l ks ts)) → last_of i is ≡ n → Lies i (node n l ks nil) → Way ns (node n l ks ts) i i
first_way ns n l ks ts i is c short last inside = record { root = n; is = is; chain = c; short = short; last = last; found = grind (arith, nat_tests); inside = grind (arith, nat_tests, inside) }

later_way : (ns : List Node) (n : ℕ) (l : Label) (ks ts : Trees) (i : ℕ) → Once (nodes_of (node n l ks ts)) → Way ns ts i i → Way ns (node n l ks ts) i i
later_way ns n l ks ts i once w =
    let r = w.root in
    let ne : r ≢ n = λ e. omega (arith, once n, occ_here n (nodes_of ks ++ nodes_of ts), occ_append n (nodes_of ks) (nodes_of ts), rooted_in r ts w.found, ap (λ (j : ℕ). occ j (nodes_of ts)) e) in
    record {
      root = r;
      is = w.is;
      chain = w.chain;
      short = omega (arith, w.short, length-append (nodes_of ks) (nodes_of ts));
      last = w.last;
      found = grind (arith, nat_tests, ne, w.found);
      inside = grind (arith, nat_tests, ne, w.inside);
    }

roots_way : (ns : List Node) (cs : List TextCell) (ts : Trees) → Stood ns cs ts → Under None ts → Once (nodes_of ts) → (i : ℕ) → 0 < occ i (nodes_of ts) → Way ns ts i i
roots_way ns cs nil s u once i p = absurd (omega arith)
roots_way ns cs (node n l ks ts) s u once i p =
    let mine = here ns cs n None [] n l ks s.0 u.0 refl in
    let long = length-append (nodes_of ks) (nodes_of ts) in
    elim (occ_cases i n (nodes_of ks ++ nodes_of ts) p) [
      | inl e ↦ first_way ns n l ks ts i (n ∷ []) (subst (λ (j : ℕ). Chain (ups ns) (Some j) (n ∷ [])) (sym e) mine) (omega arith) refl
          (subst (λ (j : ℕ). 0 < occ j (n ∷ (nodes_of ks ++ []))) (sym e) (omega (arith, occ_here n (nodes_of ks ++ []))))
      | inr q ↦ elim (occ_split i (nodes_of ks) (nodes_of ts) q) [
        | inl a ↦
            let x = ways ns cs n (Some n) (n ∷ []) mine (λ d. refl) ks (below_stood ns cs ks s.0.row) u.1 i a in
            first_way ns n l ks ts i x.0 x.1 (omega (arith, x.2, long)) x.3 (omega (arith, a, occ_append i (nodes_of ks) []))
        | inr b ↦ later_way ns n l ks ts i once (roots_way ns cs ts s.1 u.2 (λ j. omega (arith, once j, occ_append j (nodes_of ks) (nodes_of ts))) i b)
      ]
    ]

-- The way from `now` leads by the link of `now`.
module _ (a : Arrays) (ts : Trees) (n now : ℕ) (w : Way a.nodes ts n now) where
  way_in : now < length a.nodes
  way_in = omega (arith, (chain_some (ups a.nodes) now w.is w.chain).0, length-map a.nodes (λ (x : Node). x.up))

  way_is : w.is ≡ now ∷ rest w.is
  way_is = (chain_some (ups a.nodes) now w.is w.chain).3

  way_to : (d : Node) (h : Option ℕ) → (get_or a.nodes now d).up ≡ h → Chain (ups a.nodes) h (rest w.is)
  way_to d h e =
      subst (λ (u : Option ℕ). Chain (ups a.nodes) u (rest w.is)) (up_at a.nodes now ∙ ap (λ (x : Node). x.up) (get_or_default a.nodes now blank d way_in) ∙ e)
      (chain_some (ups a.nodes) now w.is w.chain).2

-- What is known at each turn, whichever trees the arrays hold.
pub record WayUp (a : Arrays) (n now : ℕ) : Type 0 where
  pub each : EachTrees a (λ ts. Under None ts → Lies n ts → Way a.nodes ts n now)
  pub within : now < length a.nodes
  pub below : now < 512

module _ (a : Arrays) (n : ℕ) (placed : SomeTrees a (λ ts. Under None ts × Lies n ts)) where
  way_up : (now : ℕ) → EachTrees a (λ ts. Under None ts → Lies n ts → Way a.nodes ts n now) → WayUp a n now
  way_up now each =
      let lt : now < length a.nodes = ∥∥₁_elim placed le_prop (λ x. way_in a x.0 n now (each x.0 x.1 x.2.0 x.2.1)) in
      record { each = each; within = lt; below = omega (arith, lt, some_long a _ placed) }

  pub way_start : WayUp a n n
  way_start = way_up n (λ ts rep u p. roots_way a.nodes a.texts ts (roots_stood a.nodes a.texts ts rep.2.roots) u (λ i. omega (arith, one_tree a ts rep i)) n p)

  module _ (now : ℕ) (g : WayUp a n now) (d : Node) where
    pub way_done : (get_or a.nodes now d).up ≡ None → EachTrees a (λ ts. Under None ts → Lies n ts → (rooted now ts ≡ true) × Lies n (tree now ts))
    way_done e ts rep u p =
        let w = g.each ts rep u p in
        let none = chain_none (ups a.nodes) (rest w.is) (way_to a ts n now w d None e) in
        let same : w.root ≡ now = sym w.last ∙ ap (last_of now) (way_is a ts n now w) ∙ ap (last_of now) none in
        (subst (λ (k : ℕ). rooted k ts ≡ true) same w.found, subst (λ (k : ℕ). Lies n (tree k ts)) same w.inside)

    module _ (up : ℕ) (e : (get_or a.nodes now d).up ≡ Some up) where
      pub way_more : WayUp a n up
      way_more = way_up up (λ ts rep u p.
          let w = g.each ts rep u p in
          let is = way_is a ts n now w in
          let c = way_to a ts n now w d (Some up) e in
          let t = (chain_some (ups a.nodes) up (rest w.is) c).3 in
          record {
            root = w.root;
            is = rest w.is;
            chain = c;
            short = omega (arith, w.short, ap length is);
            last = ap (last_of up) t ∙ sym (ap (last_of now) t) ∙ sym (ap (last_of now) is) ∙ w.last;
            found = w.found;
            inside = w.inside;
          })

      pub way_less : links_from (length a.nodes) (ups a.nodes) (Some up) < links_from (length a.nodes) (ups a.nodes) (Some now)
      way_less = ∥∥₁_elim placed le_prop (λ x.
          let w = g.each x.0 x.1 x.2.0 x.2.1 in
          let c = way_to a x.0 n now w d (Some up) e in
          let room = nodes_room a x.0 x.1 in
          let count = ap length (way_is a x.0 n now w) in
          let from = links_from_is (length a.nodes) (ups a.nodes) in
          omega (arith, w.short, room, count, from (Some now) w.is w.chain (omega (arith, w.short, room)), from (Some up) (rest w.is) c (omega (arith, w.short, room, count))))
