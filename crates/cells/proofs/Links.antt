-- Chains: what a write of a link does to one, and what its first cell shows.
use Rattle.std.proofs.Common.{◌≡◌, ℕ, ◌<◌, ◌≤◌, List, [], ◌∷◌, length, get_or, set, Some, None, Option, sym, refl, ap, inl, inr, arith, length-set, get_or-set_other, get_or-set_same}
use Rattle.cells.specs.Chains.{Chain, occ, first, rest, Once}
use Rattle.cells.proofs.Occs.{occ_here, occ_cases}

-- Two lists of links that agree where the chain goes.
pub chain_agree : (ls ms : List (Option ℕ)) (head : Option ℕ) (is : List ℕ) → length ls ≤ length ms → ((i : ℕ) → 0 < occ i is → get_or ms i None ≡ get_or ls i None) → Chain ls head is → Chain ms head is
chain_agree ls ms head [] long agree c = c
chain_agree ls ms head (i ∷ is) long agree c =
    let here : get_or ms i None ≡ get_or ls i None = agree i (omega (arith, occ_here i is)) in
    let rest : Chain ms (get_or ls i None) is = chain_agree ls ms (get_or ls i None) is long (λ k p. agree k (omega arith)) c.2 in
    (c.0, omega arith, rw here rest)

pub chain_set_other : (links : List (Option ℕ)) (head : Option ℕ) (is : List ℕ) (at : ℕ) (to : Option ℕ) → occ at is ≡ 0 → Chain links head is → Chain (set links at to) head is
chain_set_other links head is at to apart c =
    chain_agree links (set links at to) head is (simp length-set (omega arith))
    (λ k p. get_or-set_other links at k to None (λ e. omega (arith, ap (λ x. occ x is) e))) c

pub chain_give : (links : List (Option ℕ)) (head : Option ℕ) (is : List ℕ) (at : ℕ) → at < length links → occ at is ≡ 0 → Chain links head is → Chain (set links at head) (Some at) (at ∷ is)
chain_give links head is at lt apart c =
    (refl, simp length-set lt, rw (get_or-set_same links at head None lt) (chain_set_other links head is at head apart c))

pub chain_below : (links : List (Option ℕ)) (head : Option ℕ) (is : List ℕ) → Chain links head is → (i : ℕ) → 0 < occ i is → i < length links
chain_below links head [] c i p = omega arith
chain_below links head (x ∷ is) c i p =
    elim (occ_cases i x is p) [ inl e ↦ omega (arith, e) | inr q ↦ chain_below links (get_or links x None) is c.2 i q ]

-- What is known of a chain once its head is.
pub chain_none : (links : List (Option ℕ)) (is : List ℕ) → Chain links None is → is ≡ []
chain_none links [] c = refl
chain_none links (i ∷ is) c = cc c.0

pub chain_some : (links : List (Option ℕ)) (at : ℕ) (is : List ℕ) → Chain links (Some at) is → (at < length links) × (Some at ≡ first is) × Chain links (get_or links at None) (rest is) × (is ≡ at ∷ rest is)
chain_some links at [] c = let z : ◌≡◌ {A = ℕ} 0 1 = cc in let no : ⊥ = omega arith in absurd no
chain_some links at (i ∷ is) c =
    let e : at ≡ i = cc c.0 in
    (omega (arith, c.1), c.0, rw e c.2, ap (λ k. k ∷ is) (sym e))

pub once_apart : (at : ℕ) (is : List ℕ) → Once (at ∷ is) → occ at is ≡ 0
once_apart at is once = omega (arith, occ_here at is, once at)
