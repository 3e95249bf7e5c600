-- A walk over trees in cells says how they are spelled.
use Rattle.std.proofs.Common.{◌≡◌, ℕ, zero, suc, ◌+◌, ◌-◌, ◌*◌, ◌/◌, ◌≤◌, min, List, [], ◌∷◌, ◌++◌, length, Some, None, Option, sym, refl, ap, ◌∙◌, subst, inl, inr, append_assoc, append-nil, arith, length-append}
use Rattle.std.proofs.lemmas.Bool.Decides.{nat_tests}
use Rattle.cells.specs.Chains.{Chain, occ, Once, first}
use Rattle.cells.proofs.Occs.{occ_append, occ_cases}
use Rattle.cells.proofs.Tallies.{most}
use Rattle.stream.specs.Streams.{Ev}
use Rattle.texts.specs.declared.cell.TextCell.{TextCell}
use Rattle.texts.specs.Texts.{links, front, text_of, cells_for, Spans, Holds, at as text_at}
use Rattle.texts.proofs.Reading.{text_nil, text_cons}
use Rattle.texts.proofs.Writing.{link_at as text_link_at}
use Rattle.tree.specs.declared.arrays.Arrays.{Arrays}
use Rattle.tree.specs.declared.cursor.Cursor.{Cursor}
use Rattle.tree.specs.declared.cursor.Cursor.TheVariants.{Over, Enter, Leave}
use Rattle.tree.specs.declared.nodes.Node.{Node}
use Rattle.tree.specs.Trees.{Trees, Label, Lies, nil, node, nodes_of, first_of, count_of, at, shown, Row}
use Rattle.tree.specs.Models.{EachTrees}
use Rattle.tree.specs.Ups.{Under}
use Rattle.tree.specs.Trees.{below}
use Rattle.tree.specs.Walks.{opening, closing, spelled, subtree, gathered, said, within, along, past, run}
use Rattle.tree.proofs.RowFacts.{Stood, roots_stood, below_stood, nodes_in}
use Rattle.tree.proofs.Puts.{place, below_once, below_strict}
use Rattle.tree.proofs.Adding.{one_tree}

-- The bytes gathered along a chain are its text.
gathered_is : (f : ℕ) (cs : List TextCell) (head : Option ℕ) (is : List ℕ) (n : ℕ) → Spans cs head is n → length is ≤ f → gathered f cs head n ≡ text_of cs is n
unfolding gathered
gathered_is zero cs head [] n s h = sym (text_nil cs n)
gathered_is (suc f) cs head [] n s h = ap (λ (k : Option ℕ). gathered (suc f) cs k n) s.chain ∙ sym (text_nil cs n)
gathered_is zero cs head (i ∷ is) n s h = absurd (omega arith)
gathered_is (suc f) cs head (i ∷ is) n s h =
    let enough : suc (length is) ≡ (n + 23) / 24 = s.enough in
    let fewer : length is ≡ (n - 24 + 23) / 24 = omega arith in
    let more : Spans cs (text_at cs i).next is (n - 24) = record { chain = subst (λ (k : Option ℕ). Chain (links cs) k is) (text_link_at cs i) s.chain.2; enough = fewer } in
    ap (λ (k : Option ℕ). gathered (suc f) cs k n) s.chain.0
    ∙ ap (λ (t : List ℕ). front (min n 24) (text_at cs i).bytes ++ t) (gathered_is f cs (text_at cs i).next is (n - 24) more (omega arith))
    ∙ sym (text_cons cs i is n)

said_is : (cs : List TextCell) (x : Node) (next : Option ℕ) (l : Label) (ks : Trees) → x ≡ shown next l ks → Holds cs (first l.cells) l.cells l.bytes → said cs x ≡ opening l.content (count_of ks) l.bytes
said_is cs x next l ks is h =
    let enough : length l.cells ≡ cells_for (length l.bytes) = h.spans.enough in
    ap (said cs) is
    ∙ ap (opening l.content (count_of ks)) (gathered_is (cells_for (length l.bytes)) cs (first l.cells) l.cells (length l.bytes) h.spans (omega (arith, enough)) ∙ h.says)

-- how long a row is walked, with f steps to go after it
abbrev pub steps : Trees → ℕ → ℕ
steps nil f = f
steps (node n l ks ts) f = suc (steps ks (suc (steps ts f)))

steps_add : (ts : Trees) (f g : ℕ) → steps ts (f + g) ≡ steps ts f + g
steps_add nil f g = refl
steps_add (node n l ks ts) f g =
    let a : suc (steps ts (f + g)) ≡ suc (steps ts f) + g = omega (arith, steps_add ts f g) in
    omega (arith, ap (steps ks) a, steps_add ks (suc (steps ts f)) g)

steps_most : (ts : Trees) (f : ℕ) → steps ts f ≤ 2 * length (nodes_of ts) + f
steps_most nil f = omega arith
steps_most (node n l ks ts) f = omega (arith, steps_most ks (suc (steps ts f)), steps_most ts f, length-append (nodes_of ks) (nodes_of ts))

steps_room : (ts : Trees) (r : ℕ) → 2 * length (nodes_of ts) ≤ r → (f : ℕ) × (steps ts f ≡ r)
steps_room ts r h = (r - steps ts 0, omega (arith, steps_add ts 0 (r - steps ts 0), ap (steps ts) same, steps_most ts 0))
  where
    same : 0 + (r - steps ts 0) ≡ r - steps ts 0
    same = omega arith

module _ (ns : List Node) (cs : List TextCell) (top : ℕ) where
  -- From c with F steps to go, a walk says es, and then stands at d with G to go.
  record Says (F : ℕ) (c : Cursor) (es : List Ev) (G : ℕ) (d : Cursor) : Type 0 where
    runs : run F ns cs top c ≡ es ++ run G ns cs top d

  says_then : (F G K : ℕ) (c d e : Cursor) (es fs : List Ev) → Says F c es G d → Says G d fs K e → Says F c (es ++ fs) K e
  says_then F G K c d e es fs a b = record { runs = a.runs ∙ ap (λ xs. es ++ xs) b.runs ∙ sym (append_assoc es fs (run K ns cs top e)) }

  says_enter : (F n : ℕ) (e : Ev) (d : Cursor) → said cs (at ns n) ≡ e → within (at ns n).first n ≡ d → Says (suc F) (Enter n) (e ∷ []) F d
  says_enter F n e d ev to = record { runs = ap (λ x. x ∷ run F ns cs top (within (at ns n).first n)) ev ∙ ap (λ k. e ∷ run F ns cs top k) to }

  says_leave : (F n : ℕ) (es : List Ev) (d : Cursor) → closing (at ns n).content ≡ es → past (at ns n) top n ≡ d → Says (suc F) (Leave n) es F d
  says_leave F n es d ev to = record { runs = ap (λ xs. xs ++ run F ns cs top (past (at ns n) top n)) ev ∙ ap (λ k. es ++ run F ns cs top k) to }

  along_up : (h : Option ℕ) (u : ℕ) → along h (Some u) ≡ within h u
  along_up None u = refl
  along_up (Some j) u = refl

  past_other : (n u : ℕ) (is : List ℕ) → occ top (n ∷ is) ≡ 0 → (at ns n).up ≡ Some u → past (at ns n) top n ≡ within (at ns n).next u
  past_other n u is z up = grind (arith, nat_tests, up, along_up (at ns n).next u)

  row_says : (head : Option ℕ) (u : ℕ) (ts : Trees) (f : ℕ) → Row ns cs head ts None → Under (Some u) ts → occ top (nodes_of ts) ≡ 0 → Says (steps ts f) (within head u) (spelled ts) f (Leave u)
  row_says head u nil f r ups z = record { runs = ap (λ h. run f ns cs top (within h u)) r }
  row_says head u (node n l ks ts) f r ups z =
      let on = past_other n u (nodes_of ks ++ nodes_of ts) z (ap (λ (x : Node). x.up) r.2 ∙ ups.0) in
      let F = steps ts f in
      let G = steps ks (suc F) in
      let e = opening l.content (count_of ks) l.bytes in
      let es = closing l.content in
      let enter = says_enter G n e (within (first_of ks) n) (said_is cs (at ns n) (at ns n).next l ks r.2 r.3) (ap (λ (x : Node). within x.first n) r.2) in
      let down = row_says (first_of ks) n ks (suc F) r.4 ups.1 (omega (arith, z, occ_append top (nodes_of ks) (nodes_of ts))) in
      let out = says_leave F n es (within (at ns n).next u) (ap (λ (x : Node). closing x.content) r.2) on in
      let more = row_says (at ns n).next u ts f r.5 ups.2 (omega (arith, z, occ_append top (nodes_of ks) (nodes_of ts))) in
      let back = says_then (suc F) F f (Leave n) (within (at ns n).next u) (Leave u) es (spelled ts) out more in
      let below = says_then G (suc F) f (within (first_of ks) n) (Leave n) (Leave u) (spelled ks) (es ++ spelled ts) down back in
      subst (λ h. Says (suc G) (within h u) (spelled (node n l ks ts)) f (Leave u)) (sym r.0)
      (says_then (suc G) G f (Enter n) (within (first_of ks) n) (Leave u) (e ∷ []) (spelled ks ++ (es ++ spelled ts)) enter below)

-- The walk of a node that stands there.
module _ (ns : List Node) (cs : List TextCell) (i : ℕ) where
  -- After the node walked, the walk is over.
  past_top : past (at ns i) i i ≡ Over
  past_top = grind (arith, nat_tests)

  over : (f : ℕ) → run f ns cs i Over ≡ []
  over zero = refl
  over (suc f) = refl

  place_runs : (ts : Trees) (r : ℕ) → 2 * length ns ≤ r → Stood ns cs ts → Under None ts → Once (nodes_of ts) → occ i (nodes_of ts) ≡ 1 → run r ns cs i (Enter i) ≡ spelled (subtree i ts)
  place_runs ts r big s up once p =
      let x = place ns cs i ts s p in
      let ks = below i ts in
      let l = x.l in
      let is = x.stands.is in
      let t₁ = node i l ks nil in
      let few : length (nodes_of t₁) ≤ length ns =
      rw (append-nil (nodes_of ks)) (most (length ns) (i ∷ nodes_of ks)
      (λ j q. elim (occ_cases j i (nodes_of ks) q) [ inl e ↦ omega (arith, e, x.stands.lt) | inr q ↦ nodes_in ns cs ks (below_stood ns cs ks x.stands.row) j q ])
      (below_once i ts p once)) in
      let room = steps_room t₁ r (omega (arith, few, big)) in
      let f = room.0 in
      let G = steps ks (suc f) in
      let e = opening l.content (count_of ks) l.bytes in
      let es = closing l.content in
      let enter = says_enter ns cs i G i e (within (first_of ks) i) (said_is cs (at ns i) (at ns i).next l ks is x.stands.text) (ap (λ (y : Node). within y.first i) is) in
      let down = row_says ns cs i (first_of ks) i ks (suc f) x.stands.row (x.under None up) (below_strict i ts p) in
      let out = says_leave ns cs i f i es Over (ap (λ (y : Node). closing y.content) is) past_top in
      let back = says_then ns cs i G (suc f) f (within (first_of ks) i) (Leave i) Over (spelled ks) es down out in
      let all = says_then ns cs i (suc G) G f (Enter i) (within (first_of ks) i) Over (e ∷ []) (spelled ks ++ es) enter back in
      ap (λ (k : ℕ). run k ns cs i (Enter i)) (sym room.1) ∙ all.runs ∙ ap (λ xs. (e ∷ (spelled ks ++ es)) ++ xs) (over f) ∙ append-nil (e ∷ (spelled ks ++ es))
      ∙ ap (λ xs. e ∷ (spelled ks ++ xs)) (sym (append-nil es)) ∙ sym (ap spelled x.is)

pub walk_says : (a : Arrays) (n r : ℕ) → r ≡ 1024 → EachTrees a (λ ts. Under None ts → Lies n ts → run r a.nodes a.texts n (Enter n) ≡ spelled (subtree n ts))
walk_says a n r e ts rep u p =
    place_runs a.nodes a.texts n ts r (omega (arith, rep.2.long)) (roots_stood a.nodes a.texts ts rep.2.roots) u (λ i. omega (arith, one_tree a ts rep i)) (omega (arith, p, one_tree a ts rep n))
