-- Bytes held in a part of a block, and a block filled from below.
use Rattle.std.proofs.Common.{◌≡◌, ℕ, suc, ◌+◌, ◌-◌, ◌<◌, ◌≤◌, ◌⊎◌, List, [], ◌∷◌, ◌++◌, length, get_or, take, drop, slice_range, Ok, Err, sym, refl, ap, ◌∙◌, inl, inr, arith, take-append-drop, drop_of_length-le, length-append, length-take, take_all, take_at, drop_at}
use Rattle.std.proofs.lemmas.List.{drop_more, append-nil}
use Rattle.source.specs.Asking.{Asked, answer, ended, first, rest}
use Rattle.source.specs.Buffers.{Ahead, Filled}
use Rattle.source.specs.declared.sources.Fault.{Fault}
use Rattle.source.specs.Endings.{Ending, at_end}

-- the first byte of a part, and the others
pub part_some : (block : List ℕ) (start stop : ℕ) → start < stop → start < length block → slice_range block start stop ≡ get_or block start 0 ∷ slice_range block (start + 1) stop
part_some block start stop h room =
    let z : stop - start ≡ suc (stop - (start + 1)) = omega arith in
    ap (λ xs. take (stop - start) xs) (drop_more block start 0 room) ∙ ap (λ n. take n (get_or block start 0 ∷ drop (start + 1) block)) z

-- bytes that begin with all that a block of n takes of them
pub cut : (n : ℕ) (held below bs : List ℕ) → held ++ below ≡ bs → length held ≤ n → (length held ≡ n) ⊎ (below ≡ []) → (held ≡ take n bs) × (below ≡ drop n bs)
cut n held below bs is fits (inl full) =
    (sym (ap (λ xs. take n xs) (sym is) ∙ take_at held below n full), sym (ap (λ xs. drop n xs) (sym is) ∙ drop_at held below n full))
cut n held below bs is fits (inr none) =
    let all : held ≡ bs = sym (append-nil held) ∙ (ap (λ xs. held ++ xs) (sym none) ∙ is) in
    let fits' : length bs ≤ n = rw (sym all) fits in
    (all ∙ sym (take_all n bs fits'), none ∙ sym (drop_of_length-le bs fits'))

-- a block of which n bytes are filled, and low stays below, once it is full or nothing is left
pub filled : {bs bs' : List ℕ} {e e' : Ending} (n : ℕ) (block block' low : List ℕ) → take n block ++ low ≡ bs → take n block' ≡ take n block → length block ≡ 64 → n ≤ 64 → (n ≡ 64) ⊎ (low ≡ []) → bs' ≡ low → e' ≡ e → (n ≡ 0 → e ≡ at_end) → Filled bs e (Ok n) block' bs' e'
filled {bs} n block block' low is put long fits over leaves same last =
    let size : length (take n block) ≡ n = simp length-take (omega arith) in
    let ends = cut 64 (take n block) low bs is (omega arith) (elim over [ inl full ↦ inl (size ∙ full) | inr none ↦ inr none ]) in
    record {
      holds = put ∙ ends.0;
      leaves = leaves ∙ ends.1;
      keeps = same;
      reports = λ none. last (let few : length (take n block) + length low ≡ 0 = simp (← length-append) (ap length (is ∙ none)) in omega arith);
    }

-- the first of the bytes that a block is filled with answers for them all
answer_filled : (bs : List ℕ) (e : Ending) → (bs ≡ [] → e ≡ at_end) → Ok (first (take 64 bs)) ≡ answer bs e
answer_filled [] e over = ap ended (sym (over refl))
answer_filled (x ∷ xs) e over = refl

-- and the others are the rest of them
rest_filled : (bs : List ℕ) → rest (take 64 bs) ++ drop 64 bs ≡ rest bs
rest_filled [] = refl
rest_filled (x ∷ xs) = take-append-drop 63 xs

-- asked while none are held, once a block is filled
pub asked_filled : {n : ℕ} {bs block low held' : List ℕ} {e e' : Ending} (held : List ℕ) → held ≡ [] → Filled bs e (Ok n) block low e' → held' ≡ rest (slice_range block 0 n)
    → Asked (held ++ bs) e (Ok (first (slice_range block 0 n))) (held' ++ low) e' × Ahead held bs held' low
asked_filled {n} {bs} {block} {low} {held'} {e} {e'} held none f leaves =
    let z : n - 0 ≡ n = omega arith in
    let front : slice_range block 0 n ≡ take 64 bs = rw z f.holds in
    rw (none, front) (record { gives = answer_filled bs e f.reports; leaves = rw (leaves, front, f.leaves) (rest_filled bs); keeps = f.keeps }, (rw (leaves, front) refl, f.leaves))

-- asked while none are held, and nothing but a fault came
pub asked_faulted : {bs block low held' : List ℕ} {e e' : Ending} (held : List ℕ) (fault : Fault) → held ≡ [] → Filled bs e (Err fault) block low e' → held' ≡ [] → Asked (held ++ bs) e (Err fault) (held' ++ low) e' × Ahead held bs held' low
asked_faulted {bs} {block} {low} {held'} {e} {e'} held fault none f leaves =
    let gone = f.reports.0 in
    let over : low ≡ [] = rw gone at f.leaves in
    rw (none, leaves, gone, over, f.reports.1) (record { gives = refl; leaves = refl; keeps = f.keeps ∙ f.reports.1 }, (refl, refl))
