-- Two arrays that agree on the cells of some trees hold the same trees.
use Rattle.std.proofs.Common.{◌≡◌, ℕ, ◌<◌, List, [], ◌++◌, length, get_or, set, Some, None, Option, sym, refl, ap, ◌∙◌, subst, arith, length-set, get_or-set_other}
use Rattle.std.proofs.Math.ListN.{get_or-map}
use Rattle.cells.specs.Chains.{occ, first}
use Rattle.cells.proofs.Occs.{occ_here, occ_append}
use Rattle.texts.specs.declared.cell.TextCell.{TextCell}
use Rattle.texts.specs.Texts.{at as text_at}
use Rattle.texts.proofs.Kept.{holds_agree}
use Rattle.tree.specs.declared.nodes.Node.{Node}
use Rattle.tree.specs.Trees.{Trees, nil, node, nodes_of, texts_of, first_of, at, links, blank, shown, Row, Roots}

-- the nodes agree on the given ones
abbrev pub Agree : List Node → List Node → List ℕ → Type 0
Agree ns ms is = (length ns ≡ length ms) × ((i : ℕ) → 0 < occ i is → at ms i ≡ at ns i)

pub agree_set : (ns : List Node) (k : ℕ) (x : Node) (is : List ℕ) → occ k is ≡ 0 → Agree ns (set ns k x) is
agree_set ns k x is apart = (sym (length-set ns k x), λ i p. get_or-set_other ns k i x blank (λ e. omega (arith, ap (λ j. occ j is) e)))

pub agree_then : (ns ms os : List Node) (is : List ℕ) → Agree ns ms is → Agree ms os is → Agree ns os is
agree_then ns ms os is a b = (a.0 ∙ b.0, λ i p. b.1 i p ∙ a.1 i p)

-- the text cells agree on the given ones
abbrev pub TextsAgree : List TextCell → List TextCell → List ℕ → Type 0
TextsAgree cs ds is = (length cs ≡ length ds) × ((i : ℕ) → 0 < occ i is → text_at ds i ≡ text_at cs i)

module _ (ns ms : List Node) (cs ds : List TextCell) where
  pub row_kept : (head : Option ℕ) (ts : Trees) (end : Option ℕ) → Agree ns ms (nodes_of ts) → TextsAgree cs ds (texts_of ts) → Row ns cs head ts end → Row ms ds head ts end
  row_kept head nil end a b r = r
  row_kept head (node n l ks ts) end a b r =
      let o = λ (i : ℕ). occ_append i (nodes_of ks) (nodes_of ts) in
      let here : at ms n ≡ at ns n = a.1 n (omega (arith, occ_here n (nodes_of ks ++ nodes_of ts))) in
      let more = row_kept (at ns n).next ts end (a.0, λ i p. a.1 i (omega (arith, o i))) (b.0, λ i p. b.1 i (omega (arith, occ_append))) r.5 in (
        r.0,
        omega (arith, r.1, a.0),
        here ∙ r.2 ∙ ap (λ (x : Node). shown x.next l ks) (sym here),
        holds_agree cs ds (first l.cells) l.cells l.bytes (omega (arith, b.0)) (λ i p. b.1 i (omega (arith, occ_append))) r.3,
        row_kept (first_of ks) ks None (a.0, λ i p. a.1 i (omega (arith, o i))) (b.0, λ i p. b.1 i (omega (arith, occ_append))) r.4,
        subst (λ (x : Node). Row ms ds x.next ts end) (sym here) more,
      )

  pub roots_kept : (ts : Trees) → Agree ns ms (nodes_of ts) → TextsAgree cs ds (texts_of ts) → Roots ns cs ts → Roots ms ds ts
  roots_kept nil a b r = tt
  roots_kept (node n l ks ts) a b r =
      let o = λ (i : ℕ). occ_append i (nodes_of ks) (nodes_of ts) in (
        row_kept (Some n) (node n l ks nil) None (a.0, λ i p. a.1 i (omega (arith, p, o i, occ_append i (nodes_of ks) []))) (b.0, λ i p. b.1 i (omega (arith, p, occ_append))) r.0,
        roots_kept ts (a.0, λ i p. a.1 i (omega (arith, o i))) (b.0, λ i p. b.1 i (omega (arith, occ_append))) r.1,
      )

-- The same where no text cell is written.
module _ (ns ms : List Node) (cs : List TextCell) where
  pub row_agree : (head : Option ℕ) (ts : Trees) (end : Option ℕ) → Agree ns ms (nodes_of ts) → Row ns cs head ts end → Row ms cs head ts end
  row_agree head ts end a r = row_kept ns ms cs cs head ts end a (refl, λ i p. refl) r

  pub roots_agree : (ts : Trees) → Agree ns ms (nodes_of ts) → Roots ns cs ts → Roots ms cs ts
  roots_agree ts a r = roots_kept ns ms cs cs ts a (refl, λ i p. refl) r

pub link_at : (ns : List Node) (i : ℕ) → get_or (links ns) i None ≡ (at ns i).next
link_at ns i = get_or-map (λ (x : Node). x.next) ns i blank
