-- Zeros behind a text.
use Rattle.std.proofs.Common.{◌≡◌, ℕ, ◌+◌, ◌-◌, ◌<◌, ◌≤◌, min, max, ◌⊎◌, List, [], ◌++◌, length, take, drop, replicate, sym, refl, ap, ◌∙◌, inl, inr, append_assoc, append-nil, arith, length-append}
use lib.ListN.{length-replicate}
use borrow.Rule.Slice.PartMut.{put_mid}
use Rattle.std.proofs.lemmas.List.{length-take-le, take_at, take_all, take-append-drop, drop_all, drop_at, drop-drop}
use Rattle.std.proofs.lemmas.Slice.{drop-append-drop}
use Rattle.std.proofs.lemmas.Bool.{cases_lt}
use Rattle.stream.specs.Scratch.{beyond, behind, zeroed, Cleared}

-- 1,024 as a variable, since tactics would count down from it
abbrev zeroed_to : ℕ → ℕ → List ℕ → List ℕ
zeroed_to k n s = take n s ++ (replicate (min (length s) k - n) 0 ++ drop (max n k) s)

-- past the end of a list, or past k, the same is left
drop_to : (k n : ℕ) (s : List ℕ) → n ≤ min (length s) k → drop (min (length s) k) s ≡ drop (max n k) s
drop_to k n s h = go (cases_lt (length s) k)
  where
    go : (length s < k) ⊎ (k ≤ length s) → drop (min (length s) k) s ≡ drop (max n k) s
    go (inl l) = drop_all (min (length s) k) s (omega arith) ∙ sym (drop_all (max n k) s (omega arith))
    go (inr l) = ap (λ (i : ℕ). drop i s) (omega arith)

joined : (a b b' c c' : List ℕ) → b ≡ b' → c ≡ c' → a ++ (b ++ c) ≡ a ++ (b' ++ c')
joined a b b' c c' p q = ap (λ (xs : List ℕ). a ++ (xs ++ c)) p ∙ ap (λ (xs : List ℕ). a ++ (b' ++ xs)) q

part_to : (k n e : ℕ) (s ys : List ℕ) → e ≡ min (length s) k → n < e → ys ≡ replicate (e - n) 0 → put_mid n (e - n) s ys ≡ zeroed_to k n s
part_to k n e s ys is less zeros =
    let whole : n + (e - n) ≡ e = omega arith in
    joined (take n s) ys (replicate (min (length s) k - n) 0) (drop (e - n) (drop n s)) (drop (max n k) s)
    (zeros ∙ ap (λ (i : ℕ). replicate (i - n) 0) is)
    (drop-drop (e - n) n s ∙ (ap (λ (i : ℕ). drop i s) (whole ∙ is) ∙ drop_to k n s (omega arith)))

none_to : (k n : ℕ) (s : List ℕ) → min (length s) k ≤ n → s ≡ zeroed_to k n s
none_to k n s h =
    let no : min (length s) k - n ≡ 0 = omega arith in
    go (cases_lt n (length s)) ∙ ap (λ (i : ℕ). take n s ++ (replicate i 0 ++ drop (max n k) s)) (sym no)
  where
    go : (n < length s) ⊎ (length s ≤ n) → s ≡ take n s ++ drop (max n k) s
    go (inl l) = sym (take-append-drop n s) ∙ ap (λ (i : ℕ). take n s ++ drop i s) (omega arith)
    go (inr l) = sym (append-nil s) ∙ (ap (λ (xs : List ℕ). xs ++ []) (sym (take_all n s l)) ∙ ap (λ (xs : List ℕ). take n s ++ xs) (sym (drop_all (max n k) s (omega arith))))

-- what a part that was filled with zeros leaves
pub zeroed_part : (n e : ℕ) (s ys : List ℕ) → e ≡ min (length s) 1024 → n < e → ys ≡ replicate (e - n) 0 → put_mid n (e - n) s ys ≡ zeroed n s
unfolding zeroed
zeroed_part n e s ys is less zeros = part_to 1024 n e s ys is less zeros

-- where there is nothing to fill
pub zeroed_none : (n : ℕ) (s : List ℕ) → min (length s) 1024 ≤ n → s ≡ zeroed n s
unfolding zeroed
zeroed_none n s h = none_to 1024 n s h

-- with room for a text
pub zeroed_behind : (n : ℕ) (s : List ℕ) → 1024 ≤ length s → n ≤ 1024 → zeroed n s ≡ take n s ++ behind n s
unfolding zeroed behind
zeroed_behind n s room small =
    let all : min (length s) 1024 ≡ 1024 = omega arith in
    let most : max n 1024 ≡ 1024 = omega arith in
    ap (λ (i : ℕ). take n s ++ (replicate (i - n) 0 ++ drop (max n 1024) s)) all ∙ ap (λ (i : ℕ). take n s ++ (replicate (1024 - n) 0 ++ drop i s)) most

-- a scratch whose text was kept and that was then cleared behind it
pub cleared : (n : ℕ) (s s₁ s₂ : List ℕ) → n ≤ 1024 → 1024 ≤ length s₁ → beyond s₁ ≡ beyond s → s₂ ≡ take n s₁ ++ behind n s₁ → (take n s₂ ≡ take n s₁) × Cleared n s s₂
unfolding beyond behind
cleared n s s₁ s₂ small room kept is =
    let same : take n s₂ ≡ take n s₁ = ap (λ xs. take n xs) is ∙ take_at (take n s₁) (replicate (1024 - n) 0 ++ drop 1024 s₁) n (length-take-le n s₁ (omega arith)) in
    (same, is ∙ (ap (λ xs. xs ++ (replicate (1024 - n) 0 ++ drop 1024 s₁)) (sym same) ∙ ap (λ xs. take n s₂ ++ (replicate (1024 - n) 0 ++ xs)) kept))

-- a text that was copied to the front, with zeros behind it
pub put_cleared : (s s₁ s₂ ts : List ℕ) → length ts ≤ 1024 → s₁ ≡ ts ++ drop (length ts) s → s₂ ≡ take (length ts) s₁ ++ behind (length ts) s₁ → s₂ ≡ ts ++ behind (length ts) s
unfolding behind
put_cleared s s₁ s₂ ts small is then =
    let n = length ts in
    let front : take n s₁ ≡ ts = ap (λ (xs : List ℕ). take n xs) is ∙ take_at ts (drop n s) n refl in
    let back : drop 1024 s₁ ≡ drop 1024 s = ap (λ (xs : List ℕ). drop 1024 xs) is ∙ drop-append-drop n s ts 1024 small refl in
    then ∙ (ap (λ (xs : List ℕ). xs ++ (replicate (1024 - n) 0 ++ drop 1024 s₁)) front ∙ ap (λ (xs : List ℕ). ts ++ (replicate (1024 - n) 0 ++ xs)) back)

-- a scratch that was cleared behind a text is the same past byte 1,024
pub beyond_cleared : (n : ℕ) (s s' : List ℕ) → n ≤ 1024 → 1024 ≤ length s' → Cleared n s s' → beyond s' ≡ beyond s
unfolding beyond behind
beyond_cleared n s s' small room is =
    let zeros : List ℕ = replicate (1024 - n) 0 in
    let long : length (take n s' ++ zeros) ≡ 1024 = length-append (take n s') zeros ∙ omega (arith, length-take-le n s' (omega arith), length-replicate {A = ℕ} (1024 - n) 0) in
    ap (λ (xs : List ℕ). drop 1024 xs) (is ∙ sym (append_assoc (take n s') zeros (drop 1024 s))) ∙ drop_at (take n s' ++ zeros) (drop 1024 s) 1024 long

pub behind_same : (n : ℕ) (s s₁ : List ℕ) → beyond s ≡ beyond s₁ → behind n s ≡ behind n s₁
unfolding beyond behind
behind_same n s s₁ same = ap (λ (xs : List ℕ). replicate (1024 - n) 0 ++ xs) same
