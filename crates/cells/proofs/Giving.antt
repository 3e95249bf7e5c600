-- A chain given back cell by cell.
use Rattle.std.proofs.Common.{◌≡◌, ℕ, suc, ◌+◌, ◌<◌, ◌≤◌, ◌≢◌, List, [], ◌∷◌, ◌++◌, length, get_or, set, Some, None, Option, sym, refl, ap, ◌∙◌, subst, inl, inr, arith, length-append, get_or-set_other}
use mathlib.Core.Logic.{∥∥₁_elim, ∥∥₁_map}
use native.Mathlib.Bridge.{le_prop}
use Rattle.std.proofs.lemmas.Bool.Decides.{nat_tests}
use Rattle.cells.specs.declared.frees.FreeList.{FreeList}
use Rattle.cells.specs.Chains.{Chain, rest, occ}
use Rattle.cells.specs.Frees.{Free, Parted, Freed}
use Rattle.cells.proofs.Occs.{occ_here, occ_append, occ_split}
use Rattle.cells.proofs.Tallies.{most}
use Rattle.cells.proofs.Links.{chain_some, chain_none, chain_give, chain_agree, chain_set_other, chain_below}

-- The list after its first cell is taken.
pub free_rest : (links : List (Option ℕ)) (list less : FreeList) (i : ℕ) (free : List ℕ) → list.first ≡ Some i → less.first ≡ get_or links i None → less.count + 1 ≡ list.count → Free links list free → Free links less (rest free) × (free ≡ i ∷ rest free) × (i < length links)
free_rest links list less i free e f k g =
    let s = chain_some links i free (subst (λ (h : Option ℕ). Chain links h free) e g.chain) in
    let long : length free ≡ suc (length (rest free)) = ap length s.3 in (
      record {
        chain = subst (λ (h : Option ℕ). Chain links h (rest free)) (sym f) s.2;
        counted = omega (arith, g.counted);
        once = λ j. omega (arith, g.once j, ap (occ j) s.3);
      },
      s.3,
      s.0,
    )

-- A list whose first cell is known has one, and that lies in the array.
pub free_some : (links : List (Option ℕ)) (list : FreeList) (i : ℕ) (free : List ℕ) → list.first ≡ Some i → Free links list free → (i < length links) × (0 < list.count)
free_some links list i free e g =
    let s = chain_some links i free (subst (λ (h : Option ℕ). Chain links h free) e g.chain) in
    (s.0, omega (arith, ap length s.3, g.counted))

pub free_none : (links : List (Option ℕ)) (list : FreeList) (free : List ℕ) → list.first ≡ None → Free links list free → (free ≡ []) × (list.count ≡ 0)
free_none links list free e g =
    let nil = chain_none links free (subst (λ (h : Option ℕ). Chain links h free) e g.chain) in
    (nil, omega (arith, ap length nil, g.counted))

pub free_below : (links : List (Option ℕ)) (list : FreeList) (free : List ℕ) → Free links list free → (i : ℕ) → 0 < occ i free → i < length links
free_below links list free g = chain_below links list.first free g.chain

-- A list over other links that agree on its cells.
pub free_agree : (ls ms : List (Option ℕ)) (list : FreeList) (free : List ℕ) → length ls ≤ length ms → ((i : ℕ) → 0 < occ i free → get_or ms i None ≡ get_or ls i None) → Free ls list free → Free ms list free
free_agree ls ms list free long agree g = record { chain = chain_agree ls ms list.first free long agree g.chain; counted = g.counted; once = g.once }

-- One cell more in front.
pub free_give : (ls ms : List (Option ℕ)) (list more : FreeList) (i : ℕ) (free : List ℕ) → i < length ls → occ i free ≡ 0 → ms ≡ set ls i list.first → more.first ≡ Some i → more.count ≡ list.count + 1 → Free ls list free → Free ms more (i ∷ free)
free_give ls ms list more i free lt apart e f k g = record {
  chain = subst (λ (h : Option ℕ). Chain ms h (i ∷ free)) (sym f) (subst (λ (xs : List (Option ℕ)). Chain xs (Some i) (i ∷ free)) (sym e) (chain_give ls list.first free i lt apart g.chain));
  counted = omega (arith, g.counted);
  once = λ j. once_more j (g.once j);
}
  where
    once_more : (j : ℕ) → occ j free ≤ 1 → occ j (i ∷ free) ≤ 1
    once_more j o = grind (arith, nat_tests, occ_here j free, ap (λ k. occ k free))

parted_more : (links : List (Option ℕ)) (todo : Option ℕ) (i : ℕ) (is : List ℕ) (list more : FreeList) (free : List ℕ) (ms : List (Option ℕ))
    → todo ≡ Some i → ms ≡ set links i list.first → more.first ≡ Some i → more.count ≡ list.count + 1
    → Parted links todo is list free → Parted ms (get_or links i None) (rest is) more (i ∷ free) × (is ≡ i ∷ rest is) × (i < length links)
parted_more links todo i is list more free ms e m f k p =
    let s = chain_some links i is (subst (λ (h : Option ℕ). Chain links h is) e p.chain) in
    let occs : (k : ℕ) → occ k is ≡ occ k (i ∷ rest is) = λ k. ap (occ k) s.3 in
    let away : occ i (rest is) ≡ 0 = omega (arith, p.apart i, occs i, occ_here i (rest is)) in
    let apart : occ i free ≡ 0 = omega (arith, p.apart i, occs i, occ_here i (rest is)) in (
      record {
        chain = subst (λ (xs : List (Option ℕ)). Chain xs (get_or links i None) (rest is)) (sym m) (chain_set_other links (get_or links i None) (rest is) i list.first away s.2);
        spare = free_give links ms list more i free s.0 apart m f k p.spare;
        apart = λ j. omega (arith, p.apart j, occs j);
      },
      s.3,
      s.0,
    )

parted_room : (links : List (Option ℕ)) (todo : Option ℕ) (is : List ℕ) (list : FreeList) (free : List ℕ) → Parted links todo is list free → length is + list.count ≤ length links
parted_room links todo is list free p =
    omega (
      arith,
      length-append is free,
      p.spare.counted,
      most (length links) (is ++ free)
          (λ i h. elim (occ_split i is free h) [ inl a ↦ chain_below links todo is p.chain i a | inr b ↦ chain_below links list.first free p.spare.chain i b ])
          (λ i. omega (arith, occ_append i is free, p.apart i)),
    )

-- What is known at each turn: `some` for safety and the end, `each` for the answer.
pub record Giving (was : List (Option ℕ)) (head : Option ℕ) (list₀ : FreeList) (links : List (Option ℕ)) (todo : Option ℕ) (list : FreeList) : Type 0 where
  pub some : ∥ ((is : List ℕ) × (free : List ℕ) × Parted links todo is list free) ∥₁
  pub each : (is free : List ℕ) → Parted was head is list₀ free → (js : List ℕ) × (left : List ℕ) × Parted links todo js list left
      × ((i : ℕ) → occ i js + occ i left ≡ occ i is + occ i free) × ((i : ℕ) → occ i js ≤ occ i is) × ((i : ℕ) → occ i is ≡ 0 → get_or links i None ≡ get_or was i None)

pub giving_start : (links : List (Option ℕ)) (head : Option ℕ) (list : FreeList) → ∥ ((is : List ℕ) × (free : List ℕ) × Parted links head is list free) ∥₁ → Giving links head list links head list
giving_start links head list s = record { some = s; each = λ is free p. (is, free, p, λ i. refl, λ i. omega arith, λ i z. refl) }

module _ (was : List (Option ℕ)) (head : Option ℕ) (list₀ : FreeList) (links : List (Option ℕ)) (todo : Option ℕ) (list : FreeList) where
  pub giving_within : (i : ℕ) → todo ≡ Some i → Giving was head list₀ links todo list → (i < length links) × (list.count < length links)
  giving_within i e g =
      let known : (x : (is : List ℕ) × (free : List ℕ) × Parted links todo is list free) → (i < length links) × (length x.0 ≡ suc (length (rest x.0))) = λ x.
      let s = chain_some links i x.0 (subst (λ (h : Option ℕ). Chain links h x.0) e x.2.chain) in
      (s.0, ap length s.3) in
      (∥∥₁_elim g.some le_prop (λ x. (known x).0), ∥∥₁_elim g.some le_prop (λ x. omega (arith, (known x).1, parted_room links todo x.0 list x.1 x.2)))

  pub giving_more : (i : ℕ) (ms : List (Option ℕ)) (more : FreeList) → todo ≡ Some i → ms ≡ set links i list.first → more.first ≡ Some i → more.count ≡ list.count + 1
      → Giving was head list₀ links todo list → Giving was head list₀ ms (get_or links i None) more
  giving_more i ms more e m f k g = record {
    some = ∥∥₁_map g.some (λ y. (rest y.0, i ∷ y.1, (parted_more links todo i y.0 list more y.1 ms e m f k y.2).0));
    each = λ is free p.
        let y = g.each is free p in
        let s = parted_more links todo i y.0 list more y.1 ms e m f k y.2 in
        let occs : (k : ℕ) → occ k y.0 ≡ occ k (i ∷ rest y.0) = λ k. ap (occ k) s.1 in (
          rest y.0,
          i ∷ y.1,
          s.0,
          λ k. omega (arith, y.3 k, occs k),
          λ k. omega (arith, y.4 k, occs k),
          λ k z.
              let ne : k ≢ i = λ q. omega (arith, ap (λ (j : ℕ). occ j is) q, y.4 i, occs i, occ_here i (rest y.0)) in
              ap (λ (ls : List (Option ℕ)). get_or ls k None) m ∙ get_or-set_other links i k list.first None ne ∙ y.5 k z,
        );
  }

  pub giving_done : todo ≡ None → Giving was head list₀ links todo list → (is free : List ℕ) → Parted was head is list₀ free → (left : List ℕ) × Freed was is free links list left
  giving_done e g is free p =
      let y = g.each is free p in
      let nil = chain_none links y.0 (subst (λ (h : Option ℕ). Chain links h y.0) e y.2.chain) in
      (y.1, record { spare = y.2.spare; shared = λ i. omega (arith, y.3 i, ap (occ i) nil); kept = y.5 })
