-- A pair found along a row.
use Rattle.std.proofs.Common.{◌≡◌, ℕ, zero, suc, ◌+◌, ◌<◌, ◌≤◌, Bool, true, false, cond, List, length, get_or, Some, None, Decides, Option, sym, refl, ap, ◌∙◌, subst, arith}
use mathlib.Core.Logic.{∥∥₁_elim, ∥∥₁_map}
use native.Mathlib.Bridge.{le_prop}
use Rattle.std.specs.Str.{bytes_eq}
use Rattle.std.proofs.lemmas.Bool.Decides.{same_from_decides}
use Rattle.std.proofs.lemmas.List.{get_or_default}
use Rattle.std.proofs.lemmas.Slice.Eq.{bytes_eq-Decides}
use Rattle.cells.specs.Chains.{Once}
use Rattle.cells.proofs.Occs.{occ_append}
use Rattle.texts.specs.declared.cell.TextCell.{TextCell}
use Rattle.texts.specs.Texts.{Holds}
use Rattle.tree.specs.declared.arrays.Arrays.{Arrays}
use Rattle.tree.specs.declared.nodes.Node.{Node}
use Rattle.tree.specs.Trees.{Trees, Label, Lies, nil, node, nodes_of, count_of, below, at, blank, Row}
use Rattle.tree.specs.Keys.{under}
use Rattle.tree.specs.Models.{EachTrees}
use Rattle.tree.proofs.RowFacts.{count_room}
use Rattle.tree.proofs.Adding.{some_long}
use Rattle.tree.proofs.Appending.{Placed, below_row}

-- how many links can be followed from `head`, at most f
abbrev pub reach : ℕ → List Node → Option ℕ → ℕ
reach zero ns h = 0
reach (suc f) ns None = 0
reach (suc f) ns (Some i) = 1 + reach f ns (at ns i).next

reach_is : (f : ℕ) (ns : List Node) (cs : List TextCell) (head : Option ℕ) (w : Trees) → Row ns cs head w None → count_of w ≤ f → reach f ns head ≡ count_of w
reach_is zero ns cs head nil r h = refl
reach_is zero ns cs head (node n l ks ts) r h = absurd (omega arith)
reach_is (suc f) ns cs head nil r h = ap (reach (suc f) ns) r
reach_is (suc f) ns cs head (node n l ks ts) r h = ap (reach (suc f) ns) r.0 ∙ ap (λ k. 1 + k) (reach_is f ns cs (at ns n).next ts r.5 (omega arith))

-- The pairs from `todo` on, of which the first with the key is `found`.
pub record Left (a : Arrays) (key : List ℕ) (todo found : Option ℕ) : Type 0 where
  pub pairs : Trees
  pub row : Row a.nodes a.texts todo pairs None
  pub once : Once (nodes_of pairs)
  pub finds : under key pairs ≡ found

-- The first of them, and those behind it.
pub record Next (a : Arrays) (key : List ℕ) (i : ℕ) (found : Option ℕ) : Type 0 where
  pub l : Label
  pub ks : Trees
  pub ws : Trees
  pub row : Row a.nodes a.texts (Some i) (node i l ks ws) None
  pub once : Once (nodes_of (node i l ks ws))
  pub finds : under key (node i l ks ws) ≡ found

module _ (a : Arrays) (key : List ℕ) (todo : Option ℕ) where
  next_of : (i : ℕ) (found : Option ℕ) → todo ≡ Some i → Left a key todo found → Next a key i found
  next_of i found e x = go x.pairs x.row x.once x.finds
    where
      go : (w : Trees) → Row a.nodes a.texts todo w None → Once (nodes_of w) → under key w ≡ found → Next a key i found
      go nil r o u = absurd cc
      go (node n l ks ws) r o u =
          let same : n ≡ i = cc in
          subst (λ (j : ℕ). Next a key j found) same record { l = l; ks = ks; ws = ws; row = (refl, r.1, r.2, r.3, r.4, r.5); once = o; finds = u }

  none_left : (found : Option ℕ) → todo ≡ None → Left a key todo found → None ≡ found
  none_left found e x = go x.pairs x.row x.finds
    where
      go : (w : Trees) → Row a.nodes a.texts todo w None → under key w ≡ found → None ≡ found
      go nil r u = u
      go (node n l ks ws) r u = absurd cc

-- What is known at each turn, whichever trees the arrays hold.
pub record Finding (a : Arrays) (dictionary : ℕ) (key : List ℕ) (todo : Option ℕ) : Type 0 where
  pub each : EachTrees a (λ ts. Lies dictionary ts → Left a key todo (under key (below dictionary ts)))
  pub within : (i : ℕ) → todo ≡ Some i → i < length a.nodes
  pub below : (i : ℕ) → todo ≡ Some i → i < 512

module _ (a : Arrays) (dictionary : ℕ) (key : List ℕ) (placed : Placed a dictionary) where
  finding : (todo : Option ℕ) → EachTrees a (λ ts. Lies dictionary ts → Left a key todo (under key (below dictionary ts))) → Finding a dictionary key todo
  finding todo each =
      let lt : (i : ℕ) → todo ≡ Some i → i < length a.nodes = λ i e. ∥∥₁_elim placed le_prop (λ x. (next_of a key todo i (under key (below dictionary x.0)) e (each x.0 x.1 x.2)).row.1) in
      record { each = each; within = lt; below = λ i e. omega (arith, lt i e, some_long a _ placed) }

  pub finding_start : (d : Node) → Finding a dictionary key (get_or a.nodes dictionary d).first
  finding_start d = finding (get_or a.nodes dictionary d).first
      (λ ts rep p. let b = below_row a dictionary d ts rep p in record { pairs = below dictionary ts; row = b.0; once = b.1; finds = refl })

  module _ (todo : Option ℕ) (g : Finding a dictionary key todo) where
    pub finding_none : todo ≡ None → EachTrees a (λ ts. Lies dictionary ts → None ≡ under key (below dictionary ts))
    finding_none e ts rep p = none_left a key todo (under key (below dictionary ts)) e (g.each ts rep p)

    module _ (i : ℕ) (e : todo ≡ Some i) (d : Node) where
      next : EachTrees a (λ ts. Lies dictionary ts → Next a key i (under key (below dictionary ts)))
      next ts rep p = next_of a key todo i (under key (below dictionary ts)) e (g.each ts rep p)

      read : get_or a.nodes i d ≡ at a.nodes i
      read = get_or_default a.nodes i d blank (g.within i e)

      holds : (found : Option ℕ) (s : Next a key i found) → Holds a.texts (get_or a.nodes i d).text s.l.cells s.l.bytes × (length s.l.bytes ≡ (get_or a.nodes i d).length)
      holds found s =
          let is = read ∙ s.row.2 in
          (subst (λ (y : Node). Holds a.texts y.text s.l.cells s.l.bytes) (sym is) s.row.3, sym (ap (λ (y : Node). y.length) is))

      pub finding_text : ∥ ((is bs : List ℕ) × Holds a.texts (get_or a.nodes i d).text is bs × (length bs ≡ (get_or a.nodes i d).length)) ∥₁
      finding_text = ∥∥₁_map placed (λ x. let s = next x.0 x.1 x.2 in let h = holds _ s in (s.l.cells, s.l.bytes, h.0, h.1))

      pub finding_less : reach (length a.nodes) a.nodes (get_or a.nodes i d).next < reach (length a.nodes) a.nodes todo
      finding_less = ∥∥₁_elim placed le_prop (λ x.
          let s = next x.0 x.1 x.2 in
          let n = length a.nodes in
          let room = count_room a.nodes a.texts (Some i) (node i s.l s.ks s.ws) None s.row s.once in
          omega (
            arith,
            room,
            ap (reach n a.nodes) e,
            ap (λ (y : Node). reach n a.nodes y.next) read,
            reach_is n a.nodes a.texts (Some i) (node i s.l s.ks s.ws) s.row room,
            reach_is n a.nodes a.texts (at a.nodes i).next s.ws s.row.5 (omega (arith, room)),
          ))

      -- what the comparison of the pair's key says
      module _ (r : Bool) (tells : (is bs : List ℕ) → Holds a.texts (get_or a.nodes i d).text is bs → length bs ≡ (get_or a.nodes i d).length → Decides r (bs ≡ key)) where
        finds : (found : Option ℕ) (s : Next a key i found) (b : Bool) → r ≡ b → cond b (Some i) (under key s.ws) ≡ found
        finds found s b is =
            let h = holds found s in
            ap (λ (q : Bool). cond q (Some i) (under key s.ws)) (sym is ∙ same_from_decides r (bytes_eq s.l.bytes key) (tells s.l.cells s.l.bytes h.0 h.1) (bytes_eq-Decides s.l.bytes key)) ∙ s.finds

        pub finding_found : r ≡ true → EachTrees a (λ ts. Lies dictionary ts → Some i ≡ under key (below dictionary ts))
        finding_found is ts rep p = finds _ (next ts rep p) true is

        pub finding_more : r ≡ false → Finding a dictionary key (get_or a.nodes i d).next
        finding_more is = finding (get_or a.nodes i d).next (λ ts rep p.
            let s = next ts rep p in
            record {
              pairs = s.ws;
              row = subst (λ (y : Node). Row a.nodes a.texts y.next s.ws None) (sym read) s.row.5;
              once = λ j. omega (arith, s.once j, occ_append j (nodes_of s.ks) (nodes_of s.ws));
              finds = finds _ s false is;
            })
