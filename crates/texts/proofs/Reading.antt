-- A text read block by block.
use Rattle.std.proofs.Common.{◌≡◌, ℕ, zero, suc, ◌+◌, ◌-◌, ◌/◌, ◌<◌, min, List, [], ◌∷◌, ◌++◌, length, get_or, take, Some, None, Option, sym, refl, ap, ◌∙◌, subst, arith}
use mathlib.Core.Logic.{∥∥₁_elim, ∥∥₁_map}
use native.Mathlib.Bridge.{le_prop}
use Rattle.std.proofs.lemmas.List.{length-map}
use Rattle.std.proofs.lemmas.List.{ext_get_or, get_or-take, length-append, append_assoc, append-nil, get_or-map, nil_from_length}
use Rattle.cells.specs.Chains.{Chain, rest}
use Rattle.cells.proofs.Links.{chain_some, chain_none}
use Rattle.texts.specs.declared.cell.TextCell.{TextCell}
use Rattle.std.specs.Borrow.{Bor}
use Rattle.texts.specs.declared.parts.Parts.{Parts}
use Rattle.texts.specs.Parts.{parts_steps}
use Rattle.texts.specs.Texts.{at, blank, links, front, text_of, Spans, Holds}

pub length_front : (n : ℕ) (xs : List ℕ) → length (front n xs) ≡ n
unfolding front
length_front zero xs = refl
length_front (suc n) [] = ap suc (length_front n [])
length_front (suc n) (x ∷ xs) = ap suc (length_front n xs)

pub get_d_front : (n : ℕ) (xs : List ℕ) (i : ℕ) → i < n → get_or (front n xs) i 0 ≡ get_or xs i 0
unfolding front
get_d_front zero xs i h = let never : ⊥ = omega arith in absurd never
get_d_front (suc n) [] zero h = refl
get_d_front (suc n) [] (suc i) h = get_d_front n [] i (omega arith)
get_d_front (suc n) (x ∷ xs) zero h = refl
get_d_front (suc n) (x ∷ xs) (suc i) h = get_d_front n xs i (omega arith)

-- A list of n bytes that stand in the block is its front.
pub front_is : (n : ℕ) (xs ys : List ℕ) → length ys ≡ n → ((k : ℕ) → k < n → get_or xs k 0 ≡ get_or ys k 0) → front n xs ≡ ys
front_is n xs ys long h =
    ext_get_or 0 (front n xs) ys (length_front n xs ∙ sym long)
    (λ k lt. let l : k < n = omega (arith, length_front n xs) in get_d_front n xs k l ∙ h k l)

pub front_take : (n : ℕ) (xs : List ℕ) → length (take n xs) ≡ n → front n xs ≡ take n xs
front_take n xs long = front_is n xs (take n xs) long (λ k l. sym (get_or-take n xs k 0 l))

pub text_nil : (cs : List TextCell) (n : ℕ) → text_of cs [] n ≡ []
unfolding text_of
text_nil cs n = refl

pub text_cons : (cs : List TextCell) (i : ℕ) (is : List ℕ) (n : ℕ) → text_of cs (i ∷ is) n ≡ front (min n 24) (at cs i).bytes ++ text_of cs is (n - 24)
unfolding text_of
text_cons cs i is n = refl

pub record Step (cs : List TextCell) (i : ℕ) (is : List ℕ) (n : ℕ) : Type 0 where
  pub below : i < length cs
  pub more : 0 < n
  pub left : Spans cs (at cs i).next (rest is) (n - 24)
  pub text : text_of cs is n ≡ front (min n 24) (at cs i).bytes ++ text_of cs (rest is) (n - 24)

pub spans_step : (cs : List TextCell) (i : ℕ) (is : List ℕ) (n : ℕ) → Spans cs (Some i) is n → Step cs i is n
spans_step cs i is n h =
    let s = chain_some (links cs) i is h.chain in
    let lt : i < length cs = omega (arith, s.0, length-map cs (λ (c : TextCell). c.next)) in
    let long : length is ≡ suc (length (rest is)) = ap length s.3 in
    let enough : length is ≡ (n + 23) / 24 = h.enough in
    let link : get_or (links cs) i None ≡ (at cs i).next = get_or-map (λ (c : TextCell). c.next) cs i blank None lt in
    record {
      below = lt;
      more = omega arith;
      left = record { chain = subst (λ (h : Option ℕ). Chain (links cs) h (rest is)) link s.2; enough = omega arith };
      text = ap (λ (xs : List ℕ). text_of cs xs n) s.3 ∙ text_cons cs i (rest is) n;
    }

pub some_below : (cs : List TextCell) (todo : Option ℕ) (i n : ℕ) → todo ≡ Some i → ∥ ((is : List ℕ) × Spans cs todo is n) ∥₁ → i < length cs
some_below cs todo i n e s = ∥∥₁_elim s le_prop (λ x. (spans_step cs i x.0 n (subst (λ (t : Option ℕ). Spans cs t x.0 n) e x.1)).below)

pub some_more : (cs : List TextCell) (todo : Option ℕ) (i n : ℕ) → todo ≡ Some i → ∥ ((is : List ℕ) × Spans cs todo is n) ∥₁ → 0 < n
some_more cs todo i n e s = ∥∥₁_elim s le_prop (λ x. (spans_step cs i x.0 n (subst (λ (t : Option ℕ). Spans cs t x.0 n) e x.1)).more)

pub some_left : (cs : List TextCell) (todo : Option ℕ) (i n m : ℕ) → todo ≡ Some i → m ≡ n - 24 → ∥ ((is : List ℕ) × Spans cs todo is n) ∥₁ → ∥ ((is : List ℕ) × Spans cs (at cs i).next is m) ∥₁
some_left cs todo i n m e f s = ∥∥₁_map s (λ x. (rest x.0, subst (λ (k : ℕ). Spans cs (at cs i).next (rest x.0) k) (sym f) (spans_step cs i x.0 n (subst (λ (t : Option ℕ). Spans cs t x.0 n) e x.1)).left))

pub spans_none : (cs : List TextCell) (todo : Option ℕ) (is : List ℕ) (n : ℕ) → todo ≡ None → Spans cs todo is n → (is ≡ []) × (n ≡ 0)
spans_none cs todo is n e h =
    let nil : is ≡ [] = chain_none (links cs) is (subst (λ (t : Option ℕ). Chain (links cs) t is) e h.chain) in
    let zero-long : length is ≡ 0 = ap length nil in
    let enough : length is ≡ (n + 23) / 24 = h.enough in
    (nil, omega arith)

pub length_text : (cs : List TextCell) (is : List ℕ) (n : ℕ) → length is ≡ (n + 23) / 24 → length (text_of cs is n) ≡ n
length_text cs [] n e = let none : n ≡ 0 = omega arith in ap length (text_nil cs n) ∙ sym none
length_text cs (i ∷ is) n e =
    let fewer : length is ≡ (n - 24 + 23) / 24 = omega arith in
    ap length (text_cons cs i is n) ∙ length-append (front (min n 24) (at cs i).bytes) (text_of cs is (n - 24))
    ∙ omega (arith, length_front (min n 24) (at cs i).bytes, length_text cs is (n - 24) fewer)

-- A text under way: the bytes `read` are the front of it, and `left` more stand in the cells from `todo` on.
pub record Reading (cs : List TextCell) (head : Option ℕ) (n : ℕ) (read : List ℕ) (todo : Option ℕ) (left : ℕ) : Type 0 where
  pub each : (is : List ℕ) → Spans cs head is n → (js : List ℕ) × Spans cs todo js left × (text_of cs is n ≡ read ++ text_of cs js left)

module _ (cs : List TextCell) (head : Option ℕ) (n : ℕ) where
  pub reading_start : Reading cs head n [] head n
  reading_start = record { each = λ is h. (is, h, refl) }

  pub reading_more : (read part : List ℕ) (todo : Option ℕ) (left i : ℕ) → todo ≡ Some i → part ≡ front (min left 24) (at cs i).bytes
      → Reading cs head n read todo left → Reading cs head n (read ++ part) (at cs i).next (left - 24)
  reading_more read part todo left i e p g = record {
    each = λ is h.
        let x = g.each is h in
        let s = spans_step cs i x.0 left (subst (λ (t : Option ℕ). Spans cs t x.0 left) e x.1) in (
          rest x.0,
          s.left,
          x.2
              ∙ ap (λ (t : List ℕ). read ++ t) (s.text ∙ ap (λ (b : List ℕ). b ++ text_of cs (rest x.0) (left - 24)) (sym p))
              ∙ sym (append_assoc read part (text_of cs (rest x.0) (left - 24))),
        );
  }

  -- At the end of the chain no byte is left, and then the whole text is read.
  pub reading_none : (read : List ℕ) (todo : Option ℕ) (left : ℕ) (is : List ℕ) → todo ≡ None → Spans cs head is n → Reading cs head n read todo left → left ≡ 0
  reading_none read todo left is e h g =
      let x = g.each is h in
      (spans_none cs todo x.0 left e x.1).1

  pub reading_done : (read : List ℕ) (todo : Option ℕ) (left : ℕ) (is : List ℕ) → left ≡ 0 → Spans cs head is n → Reading cs head n read todo left → text_of cs is n ≡ read
  reading_done read todo left is z h g =
      let x = g.each is h in
      let enough : length x.0 ≡ (left + 23) / 24 = x.1.enough in
      x.2 ∙ ap (λ (js : List ℕ). read ++ text_of cs js left) (nil_from_length x.0 (omega arith)) ∙ ap (λ (t : List ℕ). read ++ t) (text_nil cs left) ∙ append-nil read

-- The iterator over the parts of a whole text.
pub begun : (cs : List TextCell) (head : Option ℕ) (n : ℕ) (p : Parts) → p.cells.now ≡ cs → p.todo ≡ head → p.left ≡ n → ∥ ((is bs : List ℕ) × Holds cs head is bs × (length bs ≡ n)) ∥₁
    → ∥ ((is : List ℕ) × Spans p.cells.now p.todo is p.left) ∥₁ × Reading cs head n [] p.todo p.left
begun cs head n p cells todo left h =
    (rw (cells, todo, left) (∥∥₁_map h (λ x. (x.0, subst (λ (k : ℕ). Spans cs head x.0 k) x.3 x.2.spans))), rw (todo, left) (reading_start cs head n))

-- One part more.
pub record Turn (cs : List TextCell) (head : Option ℕ) (n : ℕ) (was : List ℕ) (s : Parts) (part : List ℕ) (t : Parts) : Type 0 where
  pub cells : t.cells.now ≡ cs
  pub long : length part ≡ min s.left 24
  pub left : t.left ≡ s.left - 24
  pub read : Reading cs head n (was ++ part) t.todo t.left

pub turn : (cs : List TextCell) (head : Option ℕ) (n : ℕ) (was : List ℕ) (s : Parts) (part : Bor (List ℕ)) (t : Parts) → s.cells.now ≡ cs → parts_steps s (Some part) t
    → Reading cs head n was s.todo s.left → Turn cs head n was s part.now t
turn cs head n was s part t same (i, here, is, cells, todo, left) g =
    let block : part.now ≡ front (min s.left 24) (at cs i).bytes = is ∙ ap (λ (ds : List TextCell). front (min s.left 24) (at ds i).bytes) same in
    let next : t.todo ≡ (at cs i).next = todo ∙ ap (λ (ds : List TextCell). (at ds i).next) same in
    record {
      cells = ap (λ (b : Bor (List TextCell)). b.now) cells ∙ same;
      long = ap length block ∙ length_front (min s.left 24) (at cs i).bytes;
      left = left;
      read = rw (next, left) (reading_more cs head n was part.now s.todo s.left i here block g);
    }

-- Where a part comes, some bytes are left.
pub turn_more : (s t : Parts) (part : Bor (List ℕ)) → parts_steps s (Some part) t → ∥ ((is : List ℕ) × Spans s.cells.now s.todo is s.left) ∥₁ → 0 < s.left
turn_more s t part (i, here, is, cells, todo, left) some = some_more s.cells.now s.todo i s.left here some
