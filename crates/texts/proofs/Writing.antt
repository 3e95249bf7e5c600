-- A text written from its last block to its first.
use Rattle.std.proofs.Common.{◌≡◌, ℕ, zero, suc, ◌+◌, ◌-◌, ◌*◌, ◌/◌, ◌%◌, ◌<◌, ◌≤◌, min, ◌≢◌, List, [], ◌∷◌, ◌++◌, length, get_or, set, Some, None, Option, sym, refl, ap, ◌∙◌, subst, inl, inr, arith, length-set, get_or-set_other, get_or-set_same}
use mathlib.Core.Logic.{∥∥₁_elim, ∥∥₁_map}
use native.Mathlib.Bridge.{le_prop}
use Rattle.std.proofs.lemmas.List.{length-map}
use Rattle.std.proofs.lemmas.List.{map-set, get_or_append_left, length-append, append-nil, append_assoc}
use Rattle.cells.specs.declared.frees.FreeList.{FreeList}
use Rattle.cells.specs.Chains.{Chain, rest as rest_of, occ, Once}
use Rattle.cells.specs.Frees.{Free}
use Rattle.std.proofs.Math.Nat.{eq-zero-or-pos}
use Rattle.cells.proofs.Occs.{occ_here}
use Rattle.cells.proofs.Links.{chain_give, once_apart}
use Rattle.cells.proofs.Giving.{free_rest, free_agree, free_some, free_none}
use Rattle.texts.specs.declared.cell.TextCell.{TextCell}
use Rattle.texts.specs.Texts.{at, blank, links, front, text_of, cells_for, Wrote}
use Rattle.texts.proofs.Reading.{front_is, text_nil, text_cons}

-- Cells that agree where the chain goes hold the same text.
pub text_agree : (cs ds : List TextCell) (is : List ℕ) (n : ℕ) → ((i : ℕ) → 0 < occ i is → at ds i ≡ at cs i) → text_of ds is n ≡ text_of cs is n
text_agree cs ds [] n agree = text_nil ds n ∙ sym (text_nil cs n)
text_agree cs ds (i ∷ is) n agree =
    text_cons ds i is n
    ∙ ap (λ (c : TextCell). front (min n 24) c.bytes ++ text_of ds is (n - 24)) (agree i (omega (arith, occ_here i is)))
    ∙ ap (λ (t : List ℕ). front (min n 24) (at cs i).bytes ++ t) (text_agree cs ds is (n - 24) (λ k p. agree k (omega arith)))
    ∙ sym (text_cons cs i is n)

pub front_append : (n : ℕ) (xs ys : List ℕ) → length xs ≡ n → front n (xs ++ ys) ≡ xs
front_append n xs ys long = front_is n (xs ++ ys) xs long (λ k l. get_or_append_left xs ys 0 k (omega arith))

pub link_at : (cs : List TextCell) (i : ℕ) → get_or (links cs) i None ≡ (at cs i).next
link_at [] i = refl
link_at (c ∷ cs) zero = refl
link_at (c ∷ cs) (suc i) = link_at cs i

-- The list after its first cell is taken and written.
pub free_wrote : (cs : List TextCell) (list less : FreeList) (i : ℕ) (y : TextCell) (free : List ℕ) → list.first ≡ Some i → less.first ≡ get_or (links cs) i None → less.count + 1 ≡ list.count
    → Free (links cs) list free → Free (links (set cs i y)) less (rest_of free) × (free ≡ i ∷ rest_of free) × (i < length cs)
free_wrote cs list less i y free e f k g =
    let s = free_rest (links cs) list less i free e f k g in
    let away : occ i (rest_of free) ≡ 0 = once_apart i (rest_of free) (subst Once s.1 g.once) in
    let ls : links (set cs i y) ≡ set (links cs) i y.next = map-set (λ (c : TextCell). c.next) cs i y in (
      free_agree (links cs) (links (set cs i y)) less (rest_of free) (omega (arith, ap length ls, length-set (links cs) i y.next))
          (λ j p. ap (λ (xs : List (Option ℕ)). get_or xs j None) ls ∙ get_or-set_other (links cs) i j y.next None (λ q. omega (arith, ap (λ (m : ℕ). occ m (rest_of free)) q)))
          s.0,
      s.1,
      omega (arith, s.2, length-map cs (λ (c : TextCell). c.next)),
    )

-- One more block in front.
pub wrote_more : (was : List TextCell) (free b t : List ℕ) (cs : List TextCell) (list less : FreeList) (head : Option ℕ) (is left : List ℕ) (i : ℕ) (x : TextCell)
    → Once free → list.first ≡ Some i → less.first ≡ get_or (links cs) i None → less.count + 1 ≡ list.count
    → 0 < length b → length b ≡ min (length b + length t) 24 → x.next ≡ head → front (length b) x.bytes ≡ b
    → Wrote was free t cs list head is left → Wrote was free (b ++ t) (set cs i x) less (Some i) (i ∷ is) (rest_of left)
wrote_more was free b t cs list less head is left i x once e f k some full next block w =
    let s = free_wrote cs list less i x left e f k w.spare in
    let more = rest_of left in
    let lt : i < length cs = s.2 in
    let occs : (k : ℕ) → occ k left ≡ occ k (i ∷ more) = λ k. ap (occ k) s.1 in
    let apart : occ i is ≡ 0 = omega (arith, w.shared i, once i, occs i, occ_here i more) in
    let new-links : links (set cs i x) ≡ set (links cs) i head = map-set (λ (c : TextCell). c.next) cs i x ∙ ap (set (links cs) i) next in
    let long : length (b ++ t) ≡ length b + length t = length-append b t in
    let enough : length is ≡ (length t + 23) / 24 = w.holds.spans.enough in
    let here : at (set cs i x) i ≡ x = get_or-set_same cs i x blank lt in
    let head-long : min (length (b ++ t)) 24 ≡ length b = omega arith in
    let tail-long : length (b ++ t) - 24 ≡ length t = omega arith in
    record {
      holds = record {
        spans = record {
          chain = subst (λ (ls : List (Option ℕ)). Chain ls (Some i) (i ∷ is)) (sym new-links) (chain_give (links cs) head is i (omega (arith, lt, length-map cs (λ (c : TextCell). c.next))) apart w.holds.spans.chain);
          enough = omega arith;
        };
        says =
            text_cons (set cs i x) i is (length (b ++ t))
            ∙ ap (λ (c : TextCell). front (min (length (b ++ t)) 24) c.bytes ++ text_of (set cs i x) is (length (b ++ t) - 24)) here
            ∙ ap (λ (k : ℕ). front k x.bytes ++ text_of (set cs i x) is (length (b ++ t) - 24)) head-long
            ∙ ap (λ (u : List ℕ). u ++ text_of (set cs i x) is (length (b ++ t) - 24)) block
            ∙ ap (λ (k : ℕ). b ++ text_of (set cs i x) is k) tail-long
            ∙ ap (λ (u : List ℕ). b ++ u) (text_agree cs (set cs i x) is (length t) (λ k p. get_or-set_other cs i k x blank (λ q. omega (arith, ap (λ (j : ℕ). occ j is) q))) ∙ w.holds.says);
      };
      spare = s.0;
      shared = λ k. omega (arith, w.shared k, occs k);
      kept = λ k z.
          let ne : k ≢ i = λ q. omega (arith, ap (λ (j : ℕ). occ j (i ∷ is)) q, occ_here i is) in
          get_or-set_other cs i k x blank ne ∙ w.kept k (omega arith);
    }

-- A write under way: `done`, the end of the text, stands, and `todo` is still to come, in whole blocks.
pub record Writing (was : List TextCell) (list₀ : FreeList) (text : List ℕ) (cs : List TextCell) (list : FreeList) (head : Option ℕ) (todo : List ℕ) : Type 0 where
  pub some : ∥ ((free : List ℕ) × Free (links cs) list free) ∥₁
  pub room : cells_for (length todo) ≤ list.count
  pub done : List ℕ
  pub split : text ≡ todo ++ done
  pub whole : 0 < length done → length todo % 24 ≡ 0
  pub each : (free : List ℕ) → Free (links was) list₀ free → (is : List ℕ) × (left : List ℕ) × Wrote was free done cs list head is left

-- The first free cell lies in the array, and the list counts it.
pub some_first : (cs : List TextCell) (list : FreeList) (i : ℕ) → list.first ≡ Some i → ∥ ((free : List ℕ) × Free (links cs) list free) ∥₁ → (i < length cs) × (0 < list.count)
some_first cs list i e s =
    (∥∥₁_elim s le_prop (λ x. omega (arith, (free_some (links cs) list i x.0 e x.1).0, length-map cs (λ (c : TextCell). c.next))), ∥∥₁_elim s le_prop (λ x. (free_some (links cs) list i x.0 e x.1).1))

pub some_none : (cs : List TextCell) (list : FreeList) → list.first ≡ None → ∥ ((free : List ℕ) × Free (links cs) list free) ∥₁ → list.count ≤ 0
some_none cs list e s = ∥∥₁_elim s le_prop (λ x. omega (arith, (free_none (links cs) list x.0 e x.1).1))

pub writing_start : (cs : List TextCell) (list : FreeList) (text : List ℕ) → cells_for (length text) ≤ list.count → ∥ ((free : List ℕ) × Free (links cs) list free) ∥₁ → Writing cs list text cs list None text
writing_start cs list text room s = record {
  some = s;
  room = room;
  done = [];
  split = sym (append-nil text);
  whole = λ p. omega arith;
  each = λ free f. ([], free, record { holds = record { spans = record { chain = refl; enough = refl }; says = text_nil cs 0 }; spare = f; shared = λ i. omega arith; kept = λ i z. refl });
}

block_full : (todo rest part done : ℕ) → todo ≡ rest + part → rest ≡ (todo - 1) / 24 * 24 → 0 < todo → (0 < done → todo % 24 ≡ 0) → part ≡ min (part + done) 24
block_full todo rest part done cut size some whole =
    elim (eq-zero-or-pos done) [ inl z ↦ omega arith | inr p ↦ let z : todo % 24 ≡ 0 = whole p in omega arith ]

-- The last of the blocks to come is written.
pub writing_more : (was : List TextCell) (list₀ : FreeList) (text : List ℕ) (cs : List TextCell) (list less : FreeList) (head : Option ℕ) (todo part rest : List ℕ) (i : ℕ) (y : TextCell)
    → list.first ≡ Some i → less.first ≡ get_or (links cs) i None → less.count ≡ list.count - 1
    → todo ≡ rest ++ part → length rest ≡ (length todo - 1) / 24 * 24 → 0 < length todo → y.next ≡ head → front (length part) y.bytes ≡ part
    → Writing was list₀ text cs list head todo → Writing was list₀ text (set cs i y) less (Some i) rest
writing_more was list₀ text cs list less head todo part rest i y e l k cut size some next block g =
    let room : cells_for (length todo) ≤ list.count = g.room in
    let lens : length todo ≡ length rest + length part = ap length cut ∙ length-append rest part in
    let fewer : less.count + 1 ≡ list.count = omega arith in
    let full : length part ≡ min (length part + length g.done) 24 = block_full (length todo) (length rest) (length part) (length g.done) lens size some g.whole in
    record {
      some = ∥∥₁_map g.some (λ x. (rest_of x.0, (free_wrote cs list less i y x.0 e l fewer x.1).0));
      room = omega arith;
      done = part ++ g.done;
      split = g.split ∙ ap (λ (t : List ℕ). t ++ g.done) cut ∙ append_assoc rest part g.done;
      whole = λ p. omega arith;
      each = λ free fr.
          let x = g.each free fr in
          (i ∷ x.0, rest_of x.1, wrote_more was free part g.done cs list less head x.0 x.1 i y fr.once e l fewer (omega arith) full next block x.2);
    }
