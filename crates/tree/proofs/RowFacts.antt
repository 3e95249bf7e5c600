-- Rows of trees: where their cells are, one row after another, and a new end.
use Rattle.std.proofs.Common.{◌≡◌, ℕ, ◌+◌, ◌<◌, ◌≤◌, ◌≢◌, ◌⊎◌, cond, eqb, List, ◌∷◌, ◌++◌, length, set, Some, None, Option, sym, refl, ap, ◌∙◌, subst, inl, inr, arith, length-append, length-set, get_or-set_other, get_or-set_same}
use Rattle.std.specs.Option.{option_or}
use Rattle.std.proofs.lemmas.Bool.Decides.{nat_tests}
use Rattle.cells.specs.Chains.{occ, Once, first}
use Rattle.cells.proofs.Occs.{occ_here, occ_append, occ_cases, occ_split}
use Rattle.cells.proofs.Tallies.{most}
use Rattle.texts.specs.declared.cell.TextCell.{TextCell}
use Rattle.texts.specs.Texts.{Holds}
use Rattle.texts.proofs.Kept.{holds_below}
use Rattle.tree.specs.declared.nodes.Node.{Node}
use Rattle.tree.specs.Trees.{Trees, Label, nil, node, nodes_of, texts_of, first_of, last_or, count_of, join, at, blank, shown, Row, Roots}
use Rattle.tree.specs.Links.{ending, linked}
use Rattle.tree.proofs.Frames.{agree_set, row_agree}

-- What stands at a node, with the row below it.
pub record Stands (ns : List Node) (cs : List TextCell) (n : ℕ) (l : Label) (ks : Trees) : Type 0 where
  pub lt : n < length ns
  pub is : at ns n ≡ shown (at ns n).next l ks
  pub text : Holds cs (first l.cells) l.cells l.bytes
  pub row : Row ns cs (first_of ks) ks None

-- What rows and trees that stand alone have in common: what stands at each of their roots.
abbrev pub Stood : List Node → List TextCell → Trees → Type 0
Stood ns cs nil = Unit {0}
Stood ns cs (node n l ks ts) = Stands ns cs n l ks × Stood ns cs ts

module _ (ns : List Node) (cs : List TextCell) where
  pub row_stood : (head : Option ℕ) (ts : Trees) (end : Option ℕ) → Row ns cs head ts end → Stood ns cs ts
  row_stood head nil end r = tt
  row_stood head (node n l ks ts) end r = (record { lt = r.1; is = r.2; text = r.3; row = r.4 }, row_stood (at ns n).next ts end r.5)

  pub roots_stood : (ts : Trees) → Roots ns cs ts → Stood ns cs ts
  roots_stood nil r = tt
  roots_stood (node n l ks ts) r = ((row_stood (Some n) (node n l ks nil) None r.0).0, roots_stood ts r.1)

  pub below_stood : (ks : Trees) → Row ns cs (first_of ks) ks None → Stood ns cs ks
  below_stood ks r = row_stood (first_of ks) ks None r

  pub nodes_in : (ts : Trees) → Stood ns cs ts → (i : ℕ) → 0 < occ i (nodes_of ts) → i < length ns
  nodes_in nil s i p = absurd (omega arith)
  nodes_in (node n l ks ts) s i p =
      elim (occ_cases i n (nodes_of ks ++ nodes_of ts) p) [
        | inl e ↦ omega (arith, s.0.lt)
        | inr q ↦ elim (occ_split i (nodes_of ks) (nodes_of ts) q) [ inl a ↦ nodes_in ks (below_stood ks s.0.row) i a | inr b ↦ nodes_in ts s.1 i b ]
      ]

  pub texts_in : (ts : Trees) → Stood ns cs ts → (i : ℕ) → 0 < occ i (texts_of ts) → i < length cs
  texts_in nil s i p = absurd (omega arith)
  texts_in (node n l ks ts) s i p =
      elim (occ_split i l.cells (texts_of ks ++ texts_of ts) p) [
        | inl a ↦ holds_below cs (first l.cells) l.cells l.bytes s.0.text i a
        | inr q ↦ elim (occ_split i (texts_of ks) (texts_of ts) q) [ inl a ↦ texts_in ks (below_stood ks s.0.row) i a | inr b ↦ texts_in ts s.1 i b ]
      ]

  pub row_join : (head : Option ℕ) (ts us : Trees) (mid end : Option ℕ) → Row ns cs head ts mid → Row ns cs mid us end → Row ns cs head (join ts us) end
  row_join head nil us mid end r s = subst (λ (h : Option ℕ). Row ns cs h us end) (sym r) s
  row_join head (node n l ks ts) us mid end r s = (r.0, r.1, r.2, r.3, r.4, row_join (at ns n).next ts us mid end r.5 s)

  pub count_room : (head : Option ℕ) (ts : Trees) (end : Option ℕ) → Row ns cs head ts end → Once (nodes_of ts) → count_of ts ≤ length ns
  count_room head ts end r o = omega (arith, count_most ts, most (length ns) (nodes_of ts) (nodes_in ts (row_stood head ts end r)) o)
    where
      count_most : (ts : Trees) → count_of ts ≤ length (nodes_of ts)
      count_most nil = omega arith
      count_most (node n l ks ts) = omega (arith, count_most ts, length-append (nodes_of ks) (nodes_of ts))

pub join_nil : (ts : Trees) → join ts nil ≡ ts
join_nil nil = refl
join_nil (node n l ks ts) = ap (node n l ks) (join_nil ts)

-- A count over the nodes of trees: how often a node stands there, or a text cell.
pub record Counts (f : Trees → ℕ) : Type 0 where
  pub each : ℕ → Label → ℕ
  pub none : f nil ≡ 0
  pub more : (n : ℕ) (l : Label) (ks ts : Trees) → f (node n l ks ts) ≡ each n l + (f ks + f ts)

pub node_counts : (i : ℕ) → Counts (λ ts. occ i (nodes_of ts))
node_counts i = record { each = λ n l. cond (eqb i n) 1 0; none = refl; more = λ n l ks ts. omega (arith, occ_append i (nodes_of ks) (nodes_of ts)) }

pub text_counts : (i : ℕ) → Counts (λ ts. occ i (texts_of ts))
text_counts i = record { each = λ n l. occ i l.cells; none = refl; more = λ n l ks ts. omega (arith, occ_append) }

pub join_counts : (f : Trees → ℕ) (c : Counts f) (ts us : Trees) → f (join ts us) ≡ f ts + f us
join_counts f c nil us = omega (arith, c.none)
join_counts f c (node n l ks ts) us = omega (arith, c.more n l ks (join ts us), c.more n l ks ts, join_counts f c ts us)

pub occ_join : (i : ℕ) (ts us : Trees) → occ i (nodes_of (join ts us)) ≡ occ i (nodes_of ts) + occ i (nodes_of us)
occ_join i ts us = join_counts (λ t. occ i (nodes_of t)) (node_counts i) ts us

pub text_occ_join : (i : ℕ) (ts us : Trees) → occ i (texts_of (join ts us)) ≡ occ i (texts_of ts) + occ i (texts_of us)
text_occ_join i ts us = join_counts (λ t. occ i (texts_of t)) (text_counts i) ts us

pub text_occ_node : (i n : ℕ) (l : Label) (ks ts : Trees) → occ i (texts_of (node n l ks ts)) ≡ occ i l.cells + (occ i (texts_of ks) + occ i (texts_of ts))
text_occ_node i n l ks ts = omega (arith, occ_append)

-- The last root is the one just passed, or one of what is left.
pub last_cases : (n k : ℕ) (ts : Trees) → last_or (Some n) ts ≡ Some k → ((ts ≡ nil) × (n ≡ k)) ⊎ ((0 < occ k (nodes_of ts)) × (last_or None ts ≡ Some k))
last_cases n k nil e = inl (refl, cc)
last_cases n k (node m l ks ts) e =
    elim (last_cases m k ts e) [
      | inl a ↦ inr (omega (arith, occ_here m (nodes_of ks ++ nodes_of ts), ap (λ j. occ j (m ∷ (nodes_of ks ++ nodes_of ts))) a.1), e)
      | inr b ↦ inr (omega (arith, b.0, occ_append k (nodes_of ks) (nodes_of ts)), e)
    ]

pub last_in : (ts : Trees) (k : ℕ) → last_or None ts ≡ Some k → 0 < occ k (nodes_of ts)
last_in nil k e = absurd cc
last_in (node n l ks ts) k e = grind (arith, nat_tests, last_cases n k ts e, occ_append k (nodes_of ks) (nodes_of ts))

last_some : (n : ℕ) (ts : Trees) → last_or (Some n) ts ≡ None → ⊥
last_some n nil e = absurd cc
last_some n (node m l ks ts) e = last_some m ts e

pub last_none : (ts : Trees) → last_or None ts ≡ None → ts ≡ nil
last_none nil e = refl
last_none (node n l ks ts) e = absurd (last_some n ts e)

pub join_last : (d : Option ℕ) (ts : Trees) (n : ℕ) (l : Label) (ks : Trees) → last_or d (join ts (node n l ks nil)) ≡ Some n
join_last d nil n l ks = refl
join_last d (node m x ms ts) n l ks = join_last (Some m) ts n l ks

pub join_count : (ts : Trees) (n : ℕ) (l : Label) (ks : Trees) → count_of (join ts (node n l ks nil)) ≡ count_of ts + 1
join_count nil n l ks = refl
join_count (node m x ms ts) n l ks = omega (arith, join_count ts n l ks)

pub shown_ending : (x : Node) (e : Option ℕ) (l : Label) (ks : Trees) → x ≡ shown x.next l ks → ending x e ≡ shown e l ks
shown_ending x e l ks is = ap (λ (y : Node). ending y e) is

twice : (n k : ℕ) (is : List ℕ) → 0 < occ k is → occ k (n ∷ is) ≤ 1 → n ≢ k
twice n k is p once e = omega (arith, occ_here n is, ap (λ j. occ j (n ∷ is)) e, ap (λ j. occ j is) e)

module _ (ns : List Node) (cs : List TextCell) (to : Option ℕ) (k : ℕ) where
  -- A row that is made to end elsewhere, by a write of its last root's link.
  pub row_relink : (head : Option ℕ) (ts : Trees) (end : Option ℕ) → Row ns cs head ts end → last_or None ts ≡ Some k → Once (nodes_of ts) → Row (set ns k (ending (at ns k) to)) cs head ts to
  row_relink head nil end r e once = cc
  row_relink head (node n l ks ts) end r e once =
      let ms = set ns k (ending (at ns k) to) in
      let lt : n < length ms = simp length-set r.1 in
      elim (last_cases n k ts e) [
        | inl a ↦
            let nk : n ≡ k = a.1 in
            let here : at ms n ≡ ending (at ns n) to = ap (λ j. at ms j) nk ∙ get_or-set_same ns k (ending (at ns k) to) blank (omega (arith, r.1)) ∙ ap (λ j. ending (at ns j) to) (sym nk) in
            let apart : occ k (nodes_of ks) ≡ 0 = omega (arith, once k, occ_here n (nodes_of ks ++ nodes_of ts), ap (λ j. occ j (n ∷ (nodes_of ks ++ nodes_of ts))) nk, ap (λ j. occ j (nodes_of ks ++ nodes_of ts)) nk, occ_append k (nodes_of ks) (nodes_of ts)) in
            let down = row_agree ns ms cs (first_of ks) ks None (agree_set ns k (ending (at ns k) to) (nodes_of ks) apart) r.4 in
            let next : (at ms n).next ≡ to = ap (λ (x : Node). x.next) here in (
              r.0,
              lt,
              here ∙ shown_ending (at ns n) to l ks r.2 ∙ ap (λ (h : Option ℕ). shown h l ks) (sym next),
              r.3,
              down,
              subst (λ t. Row ms cs (at ms n).next t to) (sym a.0) next,
            )
        | inr b ↦
            let apart : occ k (nodes_of ks) ≡ 0 = omega (arith, once k, b.0, occ_append k (nodes_of ks) (nodes_of ts)) in
            let down = row_agree ns ms cs (first_of ks) ks None (agree_set ns k (ending (at ns k) to) (nodes_of ks) apart) r.4 in
            let in_all : 0 < occ k (nodes_of ks ++ nodes_of ts) = omega (arith, b.0, occ_append k (nodes_of ks) (nodes_of ts)) in
            let same : at ms n ≡ at ns n = get_or-set_other ns k n (ending (at ns k) to) blank (twice n k (nodes_of ks ++ nodes_of ts) in_all (once k)) in
            let more = row_relink (at ns n).next ts end r.5 b.1 (λ i. omega (arith, once i, occ_append i (nodes_of ks) (nodes_of ts))) in
            (r.0, lt, same ∙ r.2 ∙ ap (λ (x : Node). shown x.next l ks) (sym same), r.3, down, subst (λ (x : Node). Row ms cs x.next ts to) (sym same) more)
      ]

pub first_join : (ts : Trees) (n : ℕ) (l : Label) (ks : Trees) → first_of (join ts (node n l ks nil)) ≡ option_or (first_of ts) (Some n)
first_join nil n l ks = refl
first_join (node m x ms ts) n l ks = refl

first_some : (ts : Trees) (k : ℕ) (to : Option ℕ) → last_or None ts ≡ Some k → first_of ts ≡ option_or (first_of ts) to
first_some nil k to e = cc
first_some (node n l ks ts) k to e = refl

module _ (ns : List Node) (cs : List TextCell) (to : Option ℕ) (ks : Trees) (row : Row ns cs (first_of ks) ks None) (once : Once (nodes_of ks)) where
  -- A row whose last root leads on.
  pub row_linked : Row (linked ns (last_or None ks) to) cs (option_or (first_of ks) to) ks to
  row_linked = go (last_or None ks) refl
    where
      go : (h : Option ℕ) → last_or None ks ≡ h → Row (linked ns h to) cs (option_or (first_of ks) to) ks to
      go None e = subst (λ (t : Trees). Row ns cs (option_or (first_of t) to) t to) (sym (last_none ks e)) refl
      go (Some k) e = subst (λ (h : Option ℕ). Row (set ns k (ending (at ns k) to)) cs h ks to) (first_some ks k to e) (row_relink ns cs to k (first_of ks) ks None row e once)

  -- Elsewhere nothing changes.
  pub linked_at : (i : ℕ) → occ i (nodes_of ks) ≡ 0 → at (linked ns (last_or None ks) to) i ≡ at ns i
  linked_at i apart = go (last_or None ks) refl
    where
      go : (h : Option ℕ) → last_or None ks ≡ h → at (linked ns h to) i ≡ at ns i
      go None e = refl
      go (Some k) e = get_or-set_other ns k i (ending (at ns k) to) blank (λ s. omega (arith, last_in ks k e, apart, ap (λ j. occ j (nodes_of ks)) s))

  pub linked_long : length (linked ns (last_or None ks) to) ≡ length ns
  linked_long = go (last_or None ks)
    where
      go : (h : Option ℕ) → length (linked ns h to) ≡ length ns
      go None = refl
      go (Some k) = length-set ns k (ending (at ns k) to)

  pub linked_in : (k : ℕ) → last_or None ks ≡ Some k → k < length ns
  linked_in k e = nodes_in ns cs ks (below_stood ns cs ks row) k (last_in ks k e)
