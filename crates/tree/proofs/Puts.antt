-- A change below one node of some trees, however deep.
use Rattle.std.proofs.Common.{◌≡◌, ℕ, ◌+◌, ◌<◌, ◌≤◌, true, false, cond, eqb, ◌≢◌, ◌⊎◌, List, [], ◌∷◌, ◌++◌, length, Some, None, Option, sym, refl, ap, ◌∙◌, subst, inl, inr, arith, eq-eqb, eqb-true}
use Rattle.std.proofs.lemmas.Bool.Decides.{nat_tests}
use Rattle.cells.specs.Chains.{occ, Once}
use Rattle.cells.proofs.Occs.{occ_here, occ_append}
use Rattle.texts.specs.declared.cell.TextCell.{TextCell}
use Rattle.tree.specs.declared.nodes.Node.{Node}
use Rattle.tree.specs.Trees.{Trees, Label, nil, node, nodes_of, texts_of, first_of, last_or, count_of, join, below, put, at, shown, Row, Roots}
use Rattle.tree.specs.Ups.{Under}
use Rattle.tree.specs.Walks.{subtree}
use Rattle.tree.proofs.RowFacts.{Counts, node_counts, text_counts, join_counts, Stands, Stood, below_stood, occ_join, join_nil}

put_first : (n : ℕ) (us ts : Trees) → first_of (put n us ts) ≡ first_of ts
put_first n us nil = refl
put_first n us (node m l ks ts) = grind (arith, nat_tests)

put_last : (n : ℕ) (us : Trees) (d : Option ℕ) (ts : Trees) → last_or d (put n us ts) ≡ last_or d ts
put_last n us d nil = refl
put_last n us d (node m l ks ts) = grind (arith, nat_tests, put_last n us (Some m) ts)

put_count : (n : ℕ) (us ts : Trees) → count_of (put n us ts) ≡ count_of ts
put_count n us nil = refl
put_count n us (node m l ks ts) = grind (arith, nat_tests, put_count n us ts)

put_shown : (n : ℕ) (us : Trees) (next : Option ℕ) (l : Label) (ks : Trees) → shown next l ks ≡ shown next l (put n us ks)
put_shown n us next l ks = cc (put_first n us ks, put_last n us None ks, put_count n us ks)

pub below_within : (i n : ℕ) (ts : Trees) → occ i (nodes_of (below n ts)) ≤ occ i (nodes_of ts)
below_within i n nil = omega arith
below_within i n (node m l ks ts) = grind (arith, nat_tests, below_within i n ks, below_within i n ts, occ_join i (below n ks) (below n ts), occ_append i (nodes_of ks) (nodes_of ts))

below_cut : (i n m : ℕ) (l : Label) (ks ts : Trees) → occ i (nodes_of (below n (node m l ks ts))) ≤ occ i (nodes_of (below n (node m l ks nil))) + occ i (nodes_of ts)
below_cut i n m l ks ts = grind (arith, nat_tests, below_within i n ts, occ_join i (below n ks) (below n ts), occ_join i (below n ks) nil)

-- Where n is no node, nothing is below it, it has no tree, and a put changes nothing.
pub below_none : (n : ℕ) (ts : Trees) → occ n (nodes_of ts) ≡ 0 → below n ts ≡ nil
below_none n nil z = refl
below_none n (node m l ks ts) z = grind (arith, nat_tests, below_none n ks, below_none n ts, occ_append n (nodes_of ks) (nodes_of ts))

subtree_none : (n : ℕ) (ts : Trees) → occ n (nodes_of ts) ≡ 0 → subtree n ts ≡ nil
subtree_none n nil z = refl
subtree_none n (node m l ks ts) z = grind (arith, nat_tests, subtree_none n ks, subtree_none n ts, occ_append n (nodes_of ks) (nodes_of ts))

pub put_none : (n : ℕ) (us ts : Trees) → occ n (nodes_of ts) ≡ 0 → put n us ts ≡ ts
put_none n us nil z = refl
put_none n us (node m l ks ts) z = grind (arith, nat_tests, put_none n us ks, put_none n us ts, occ_append n (nodes_of ks) (nodes_of ts))

-- What a put adds and takes away.
put_counts : (f : Trees → ℕ) (c : Counts f) (n : ℕ) (us ts : Trees) → occ n (nodes_of ts) ≡ 1 → f (put n us ts) + f (below n ts) ≡ f ts + f us
put_counts f c n us nil e = absurd (omega arith)
put_counts f c n us (node m l ks ts) e =
    let more = c.more m l in
    grind (
      arith,
      nat_tests,
      put_counts f c n us ks,
      put_counts f c n us ts,
      put_none n us ks,
      put_none n us ts,
      below_none n ks,
      below_none n ts,
      occ_append n (nodes_of ks) (nodes_of ts),
      join_counts f c (below n ks) (below n ts),
      c.none,
      more us ts,
      more ks ts,
      more (put n us ks) (put n us ts),
    )

pub put_occ : (i n : ℕ) (us ts : Trees) → occ n (nodes_of ts) ≡ 1 → occ i (nodes_of (put n us ts)) + occ i (nodes_of (below n ts)) ≡ occ i (nodes_of ts) + occ i (nodes_of us)
put_occ i n us ts e = put_counts (λ t. occ i (nodes_of t)) (node_counts i) n us ts e

pub put_text_occ : (i n : ℕ) (us ts : Trees) → occ n (nodes_of ts) ≡ 1 → occ i (texts_of (put n us ts)) + occ i (texts_of (below n ts)) ≡ occ i (texts_of ts) + occ i (texts_of us)
put_text_occ i n us ts e = put_counts (λ t. occ i (texts_of t)) (text_counts i) n us ts e

-- a node with another row below it
abbrev pub holding : Node → Trees → Node
holding x us = record x { first = first_of us; last = last_or None us; count = count_of us }

-- The two arrays agree at each of the nodes but n and those below it.
abbrev pub Outside : List Node → List Node → ℕ → Trees → List ℕ → Type 0
Outside ns ms n ks is = (length ns ≡ length ms) × ((i : ℕ) → 0 < occ i is → i ≢ n → occ i (nodes_of ks) ≡ 0 → at ms i ≡ at ns i)

module _ (ns ms : List Node) (cs : List TextCell) (n : ℕ) (us : Trees)
    (here : at ms n ≡ holding (at ns n) us)
    (under : Row ms cs (first_of us) us None) where
  -- what is known of the roots behind the first
  behind : (m : ℕ) (l : Label) (ks ts : Trees) → Once (nodes_of (node m l ks ts)) → Outside ns ms n (below n (node m l ks ts)) (nodes_of (node m l ks ts)) → Once (nodes_of ts) × Outside ns ms n (below n ts) (nodes_of ts)
  behind m l ks ts once o =
      let both = λ (i : ℕ). occ_append i (nodes_of ks) (nodes_of ts) in (
        λ i. omega (arith, once i, both i),
        (o.0, λ i p d z. o.1 i (omega (arith, both i)) d (grind (arith, nat_tests, p, z, once i, both i, below_within i n ks, occ_join i (below n ks) (below n ts)))),
      )

  -- n is the first of them, and so no later one
  rest_put : (m : ℕ) (l : Label) (ks ts : Trees) → Once (nodes_of (node m l ks ts)) → n ≡ m → put n us ts ≡ ts
  rest_put m l ks ts once e = put_none n us ts (omega (arith, once m, occ_here m (nodes_of ks ++ nodes_of ts), occ_append m (nodes_of ks) (nodes_of ts), ap (λ j. occ j (nodes_of ts)) e))

  pub row_put : (head : Option ℕ) (ts : Trees) (end : Option ℕ) → Once (nodes_of ts) → Outside ns ms n (below n ts) (nodes_of ts) → Row ns cs head ts end → Row ms cs head (put n us ts) end
  row_put head nil end once o r = r
  row_put head (node m l ks ts) end once o r =
      let b = behind m l ks ts once o in
      let more : Row ms cs (at ns m).next (put n us ts) end = row_put (at ns m).next ts end b.0 b.1 r.5 in
      (elim (eqb n m) as (λ b. eqb n m ≡ b → Outside ns ms n (cond b ks (join (below n ks) (below n ts))) (m ∷ (nodes_of ks ++ nodes_of ts)) → Row ms cs head (cond b (node m l us ts) (node m l (put n us ks) (put n us ts))) end) [
        | true ↦ λ q o.
            let s : n ≡ m = eqb-true n m q in
            let at-m : at ms m ≡ holding (at ns m) us = subst (λ j. at ms j ≡ holding (at ns j) us) s here in
            let next : (at ms m).next ≡ (at ns m).next = ap (λ (x : Node). x.next) at-m in (
              r.0,
              omega (arith, r.1, o.0),
              at-m ∙ ap (λ (x : Node). holding x us) r.2 ∙ ap (λ (h : Option ℕ). shown h l us) (sym next),
              r.3,
              under,
              subst (λ h. Row ms cs h ts end) (sym next) (subst (λ t. Row ms cs (at ns m).next t end) (rest_put m l ks ts once s) more),
            )
        | false ↦ λ q o.
            let ne : m ≢ n = λ s. (let t = eq-eqb n m (sym s) in absurd cc) in
            let both : (i : ℕ) → occ i (nodes_of (join (below n ks) (below n ts))) ≡ occ i (nodes_of (below n ks)) + occ i (nodes_of (below n ts)) = λ i. occ_join i (below n ks) (below n ts) in
            let same : at ms m ≡ at ns m = o.1 m (omega (arith, occ_here m (nodes_of ks ++ nodes_of ts))) ne
            (omega (arith, both m, once m, occ_here m (nodes_of ks ++ nodes_of ts), occ_append m (nodes_of ks) (nodes_of ts), below_within m n ks, below_within m n ts)) in
            let first = row_put (first_of ks) ks None (λ i. omega (arith, once i, occ_append i (nodes_of ks) (nodes_of ts)))
            (o.0, λ i p d z. o.1 i (omega (arith, occ_append i (nodes_of ks) (nodes_of ts))) d (omega (arith, both i, once i, occ_append i (nodes_of ks) (nodes_of ts), below_within i n ts))) r.4 in (
              r.0,
              omega (arith, r.1, o.0),
              same ∙ r.2 ∙ ap (λ (x : Node). shown x.next l ks) (sym same) ∙ put_shown n us (at ms m).next l ks,
              r.3,
              subst (λ h. Row ms cs h (put n us ks) None) (sym (put_first n us ks)) first,
              subst (λ (x : Node). Row ms cs x.next (put n us ts) end) (sym same) more,
            )
      ]) refl o

  pub roots_put : (ts : Trees) → Once (nodes_of ts) → Outside ns ms n (below n ts) (nodes_of ts) → Roots ns cs ts → Roots ms cs (put n us ts)
  roots_put nil once o r = tt
  roots_put (node m l ks ts) once o r =
      let one = row_put (Some m) (node m l ks nil) None (λ i. omega (arith, once i, occ_append i (nodes_of ks) (nodes_of ts), occ_append i (nodes_of ks) [])) (
        o.0,
        λ i p d z. o.1 i (omega (arith, p, occ_append i (nodes_of ks) (nodes_of ts), occ_append i (nodes_of ks) [])) d
            (omega (arith, p, z, below_cut i n m l ks ts, once i, occ_append i (nodes_of ks) (nodes_of ts), occ_append i (nodes_of ks) [])),
      ) r.0 in
      let b = behind m l ks ts once o in
      let more = roots_put ts b.0 b.1 r.1 in
      (elim (eqb n m) as (λ b. eqb n m ≡ b → Row ms cs (Some m) (cond b (node m l us nil) (node m l (put n us ks) nil)) None → Roots ms cs (cond b (node m l us ts) (node m l (put n us ks) (put n us ts)))) [
        | true ↦ λ q one. (one, subst (λ t. Roots ms cs t) (rest_put m l ks ts once (eqb-true n m q)) more)
        | false ↦ λ q one. (one, more)
      ]) refl one

-- Where the node n lies in some trees, the row us below it, and its tree t.
pub record Place (ns : List Node) (cs : List TextCell) (n : ℕ) (ts us t : Trees) : Type 0 where
  pub l : Label
  pub stands : Stands ns cs n l us
  pub is : t ≡ node n l us nil
  pub under : (u : Option ℕ) → Under u ts → Under (Some n) us

one_of : (a b : ℕ) → a + b ≡ 1 → ((a ≡ 1) × (b ≡ 0)) ⊎ ((a ≡ 0) × (b ≡ 1))
one_of a b e = grind (arith, nat_tests)

module _ (ns : List Node) (cs : List TextCell) (n : ℕ) where
  pub place : (ts : Trees) → Stood ns cs ts → occ n (nodes_of ts) ≡ 1 → Place ns cs n ts (below n ts) (subtree n ts)
  place nil s e = absurd (omega arith)
  place (node m l ks ts) s e =
      (elim (eqb n m) as (λ b. eqb n m ≡ b → cond b 1 0 + occ n (nodes_of ks ++ nodes_of ts) ≡ 1 → Place ns cs n (node m l ks ts) (cond b ks (join (below n ks) (below n ts))) (cond b (node m l ks nil) (join (subtree n ks) (subtree n ts)))) [
        | true ↦ λ q e. subst (λ j. Place ns cs j (node m l ks ts) ks (node m l ks nil)) (sym (eqb-true n m q)) record { l = l; stands = s.0; is = refl; under = λ u p. p.1 }
        | false ↦ λ q e. elim (one_of (occ n (nodes_of ks)) (occ n (nodes_of ts)) (omega (arith, occ_append n (nodes_of ks) (nodes_of ts)))) [
          | inl a ↦
              let x = place ks (below_stood ns cs ks s.0.row) a.0 in
              there (below n ks) (subtree n ks) _ _ (ap (join (below n ks)) (below_none n ts a.1) ∙ join_nil (below n ks)) (ap (join (subtree n ks)) (subtree_none n ts a.1) ∙ join_nil (subtree n ks))
              record { l = x.l; stands = x.stands; is = x.is; under = λ u p. x.under (Some m) p.1 }
          | inr b ↦
              let x = place ts s.1 b.1 in
              there (below n ts) (subtree n ts) _ _ (ap (λ t. join t (below n ts)) (below_none n ks b.0)) (ap (λ t. join t (subtree n ts)) (subtree_none n ks b.0))
              record { l = x.l; stands = x.stands; is = x.is; under = λ u p. x.under u p.2 }
        ]
      ]) refl e
    where
      there : (us t vs v : Trees) → vs ≡ us → v ≡ t → Place ns cs n (node m l ks ts) us t → Place ns cs n (node m l ks ts) vs v
      there us t vs v d f x = subst (λ (w : Trees). Place ns cs n (node m l ks ts) vs w) (sym f) (subst (λ (w : Trees). Place ns cs n (node m l ks ts) w t) (sym d) x)

-- A node is not below itself.
pub below_strict : (n : ℕ) (ts : Trees) → occ n (nodes_of ts) ≡ 1 → occ n (nodes_of (below n ts)) ≡ 0
below_strict n nil e = absurd (omega arith)
below_strict n (node m l ks ts) e = grind (arith, nat_tests, below_strict n ks, below_strict n ts, below_none n ks, below_none n ts, occ_join n (below n ks) (below n ts), occ_append n (nodes_of ks) (nodes_of ts))

pub below_once : (n : ℕ) (ts : Trees) → occ n (nodes_of ts) ≡ 1 → Once (nodes_of ts) → Once (n ∷ nodes_of (below n ts))
below_once n ts e once j = grind (arith, nat_tests, below_strict n ts, below_within j n ts, once j)
