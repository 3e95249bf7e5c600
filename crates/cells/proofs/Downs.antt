-- The indices below n, each once; and the free list of a whole array, one cell after another.
use Rattle.std.proofs.Common.{◌≡◌, ℕ, zero, suc, ◌+◌, ◌<◌, ◌≤◌, List, ◌∷◌, length, set, Some, Option, sym, refl, ap, ◌∙◌, subst, add-one, arith}
use Rattle.std.proofs.lemmas.Bool.Decides.{nat_tests}
use Rattle.cells.specs.declared.frees.FreeList.{FreeList}
use Rattle.cells.specs.Chains.{Chain, occ, down}
use Rattle.cells.specs.Frees.{Free}
use Rattle.cells.proofs.Occs.{occ_other}
use Rattle.cells.proofs.Links.{chain_give}

pub occ_past : (i n : ℕ) → n ≤ i → occ i (down n) ≡ 0
occ_past i zero h = refl
occ_past i (suc n) h = occ_other i n (down n) (omega arith) ∙ occ_past i n (omega arith)

pub occ_down : (i n : ℕ) → i < n → occ i (down n) ≡ 1
occ_down i zero h = omega arith
occ_down i (suc n) h = grind (arith, nat_tests, occ_past i n, occ_down i n)

pub once_down : (n i : ℕ) → occ i (down n) ≤ 1
once_down n i = grind (arith, nat_tests, occ_down i n, occ_past i n)

pub length_down : (n : ℕ) → length (down n) ≡ n
length_down zero = refl
length_down (suc n) = ap suc (length_down n)

moved : (ls ms : List (Option ℕ)) (head to : Option ℕ) (n : ℕ) → ms ≡ set ls n head → to ≡ Some n → Chain (set ls n head) (Some n) (n ∷ down n) → Chain ms to (down (suc n))
moved ls ms head to n e t c =
    subst (λ h. Chain ms h (n ∷ down n)) (sym t) (subst (λ xs. Chain xs (Some n) (n ∷ down n)) (sym e) c)

pub down_more : (ls ms : List (Option ℕ)) (list more : FreeList) (n : ℕ) → n < length ls → more.first ≡ Some n → more.count ≡ list.count + 1 → ms ≡ set ls n list.first → Free ls list (down n) → Free ms more (down (n + 1))
down_more ls ms list more n lt t k e f =
    record {
      chain = rw add-one (moved ls ms list.first more.first n e t (chain_give ls list.first (down n) n lt (occ_past n n (omega arith)) f.chain));
      counted = omega (arith, length_down (n + 1), length_down n, f.counted);
      once = once_down (n + 1);
    }
