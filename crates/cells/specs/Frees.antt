-- Free lists over the links of an array.
use Rattle.std.specs.Prelude.{◌≡◌, ℕ, ◌+◌, ◌≤◌, List, length, None, Option, slice_index_or}
use Rattle.cells.specs.declared.frees.FreeList.{FreeList}
use Rattle.cells.specs.Chains.{Chain, Once, occ}

-- The list visits the cells `free`, each once, and counts them.
pub record Free (links : List (Option ℕ)) (list : FreeList) (free : List ℕ) : Type 0 where
  pub chain : Chain links list.first free
  pub counted : length free ≡ list.count
  pub once : Once free

-- The chain from `head` visits `is`, the list visits `free`, and no cell is in both.
pub record Parted (links : List (Option ℕ)) (head : Option ℕ) (is : List ℕ) (list : FreeList) (free : List ℕ) : Type 0 where
  pub chain : Chain links head is
  pub spare : Free links list free
  pub apart : (i : ℕ) → occ i is + occ i free ≤ 1

-- The list visits what `is` and `free` were, and all other links are as they were.
pub record Freed (was : List (Option ℕ)) (is free : List ℕ) (links : List (Option ℕ)) (list : FreeList) (left : List ℕ) : Type 0 where
  pub spare : Free links list left
  pub shared : (i : ℕ) → occ i left ≡ occ i is + occ i free
  pub kept : (i : ℕ) → occ i is ≡ 0 → slice_index_or links i None ≡ slice_index_or was i None
