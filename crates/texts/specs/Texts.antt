-- Texts in cells: the bytes of a chain of cells.
use Rattle.std.specs.Prelude.{◌≡◌, ℕ, zero, suc, ◌+◌, ◌-◌, ◌/◌, ◌<◌, ◌≤◌, min, List, [], ◌∷◌, ◌++◌, map, length, take, None, Option, Ok, Err, Result, slice_index_or}
use Rattle.std.specs.List.{flat_map}
use Rattle.cells.specs.declared.frees.FreeList.{FreeList}
use Rattle.cells.specs.Chains.{Chain, occ}
use Rattle.cells.specs.Frees.{Free}
use Rattle.texts.specs.declared.cell.TextCell.{TextCell}
use Rattle.texts.specs.declared.errors.TooFewCells.{TooFewCells}

abbrev pub blank : TextCell
blank = record { next = None; bytes = [] }

abbrev pub at : List TextCell → ℕ → TextCell
at cs i = slice_index_or cs i blank

abbrev pub links : List TextCell → List (Option ℕ)
links cs = map (λ c. c.next) cs

-- how many text cells n bytes take: n / 24, rounded up
abbrev pub cells_for : ℕ → ℕ
cells_for n = (n + 23) / 24

-- the first n bytes of a block; zeros stand for what a block lacks, and none lacks any below 24
unfoldable pub front : ℕ → List ℕ → List ℕ
front zero xs = []
front (suc n) [] = 0 ∷ front n []
front (suc n) (x ∷ xs) = x ∷ front n xs

-- the first n bytes of the 24-byte blocks of the cells `is`
unfoldable pub text_of : List TextCell → List ℕ → ℕ → List ℕ
text_of cs [] n = []
text_of cs (i ∷ is) n = front (min n 24) (at cs i).bytes ++ text_of cs is (n - 24)

-- what text_of says where every block is 24 bytes wide
abbrev pub TextIs : Type 0
TextIs = (cs : List TextCell) (is : List ℕ) (n : ℕ) → length is ≡ cells_for n → ((i : ℕ) → 0 < occ i is → length (at cs i).bytes ≡ 24) → text_of cs is n ≡ take n (flat_map (λ (i : ℕ). (at cs i).bytes) is)

-- The chain from `head` visits `is`, as many cells as n bytes take.
pub record Spans (cs : List TextCell) (head : Option ℕ) (is : List ℕ) (n : ℕ) : Type 0 where
  pub chain : Chain (links cs) head is
  pub enough : length is ≡ cells_for n

-- The text bs stands in the cells `is`, a chain from `head`, and takes no more than it needs.
pub record Holds (cs : List TextCell) (head : Option ℕ) (is bs : List ℕ) : Type 0 where
  pub spans : Spans cs head is (length bs)
  pub says : text_of cs is (length bs) ≡ bs

-- Of the free cells `free` of `was`, the chain from `head` took `is`, which hold the text, and `left` are still free. All other cells are as they were.
pub record Wrote (was : List TextCell) (free text : List ℕ) (cs : List TextCell) (list : FreeList) (head : Option ℕ) (is left : List ℕ) : Type 0 where
  pub holds : Holds cs head is text
  pub spare : Free (links cs) list left
  pub shared : (i : ℕ) → occ i is + occ i left ≡ occ i free
  pub kept : (i : ℕ) → occ i is ≡ 0 → at cs i ≡ at was i

-- What a write answers: an error exactly where the text takes more cells than are free, and then all is as it was; else where the text begins.
abbrev pub Answered : List TextCell → FreeList → List ℕ → List TextCell → FreeList → Result (Option ℕ) TooFewCells → Type 0
Answered was list text cs list' (Err e) = (list.count < cells_for (length text)) × (cs ≡ was) × (list' ≡ list)
Answered was list text cs list' (Ok head) =
    (cells_for (length text) ≤ list.count) × ((free : List ℕ) → Free (links was) list free → (is : List ℕ) × (left : List ℕ) × Wrote was free text cs list' head is left)
