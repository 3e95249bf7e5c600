-- Cutting a file into lines, and answering them one after another.
use Rattle.std.proofs.Common.{◌≡◌, ℕ, zero, suc, ◌+◌, ◌-◌, ◌<◌, ◌≤◌, min, Bool, true, false, ◌&&◌, cond, eqb, List, [], ◌∷◌, ◌++◌, length, get_or, take, drop, Some, None, Ok, Err, Option, Result, Bor, sym, refl, ap, ◌∙◌, append_assoc, arith, drop_of_length-le, take_all}
use native.Mathlib.Decide.{dec_le}
use lib.Pointwise.{pointwise}
use Rattle.std.proofs.Math.ListN.{get_or-append}
use Rattle.std.proofs.Math.Seq.{take-append_seam, drop-append_seam, take-nil}
use Rattle.std.proofs.lemmas.List.{append-nil, drop_more, take-append-le}
use Rattle.std.specs.List.{IsFirstMatchOrLen}
use Rattle.std.specs.Option.{MatchOption, unwrap_or}
use Rattle.report.specs.Batches.{at_first, lines, answered, answer_line_lem, batch}

-- the bytes before the first line feed are the first line
first_line : (xs : List ℕ) (k : ℕ) → IsFirstMatchOrLen (λ b. eqb b 10) xs k → 0 < length xs → lines xs ≡ take k xs ∷ lines (drop (suc k) xs)
first_line [] k first some = absurd (omega arith)
first_line (b ∷ bs) zero first some = ap (λ (t : Bool). cond t ([] ∷ lines bs) (at_first b (lines bs))) (first.1 (omega arith) 0)
first_line (b ∷ []) (suc k) first some =
    ap (λ (t : Bool). cond t ([] ∷ []) ((b ∷ []) ∷ [])) (first.0 0 0 (omega arith) (omega arith)) ∙ ap (λ (ys : List ℕ). (b ∷ ys) ∷ []) (sym (take-nil k))
first_line (b ∷ (c ∷ bs)) (suc k) first some =
    let later : IsFirstMatchOrLen (λ x. eqb x 10) (c ∷ bs) k = (λ j d low high. first.0 (suc j) d (omega arith) (omega arith), λ room d. first.1 (omega arith) d) in
    ap (λ (t : Bool). cond t ([] ∷ lines (c ∷ bs)) (at_first b (lines (c ∷ bs)))) (first.0 0 0 (omega arith) (omega arith))
    ∙ ap (at_first b) (first_line (c ∷ bs) k later (omega arith))

and_true : (t : Bool) → (t && true) ≡ t
and_true true = refl
and_true false = refl

-- the part of a file up to its first line feed, or all of it: the first line once that line feed is cut off, if it is there
module _ (xs part left : List ℕ) (k : ℕ) (whole : xs ≡ part ++ left) (long : length part ≡ min (k + 1) (length xs)) (first : IsFirstMatchOrLen (λ b. eqb b 10) xs k) (some : 0 < length xs) where
  front : take (length part) xs ≡ part
  front = ap (take (length part)) whole ∙ take-append_seam part left

  behind : drop (suc k) xs ≡ left
  behind = go (dec_le (k + 1) (length xs)) ∙ (ap (drop (length part)) whole ∙ drop-append_seam part left)
    where
      go : Dec (k + 1 ≤ length xs) → drop (suc k) xs ≡ drop (length part) xs
      go (yes h) = let e : suc k ≡ length part = omega arith in ap (λ (j : ℕ). drop j xs) e
      go (no h) = drop_of_length-le xs {i = suc k} (omega arith) ∙ sym (drop_of_length-le xs {i = length part} (omega arith))

  last : (n : ℕ) → length part ≡ suc n → pointwise eqb (drop n part) (10 ∷ []) ≡ eqb (get_or xs n 0) 10
  last n is =
      let room : n < length part = omega arith in
      ap (λ (ys : List ℕ). pointwise eqb ys (10 ∷ [])) (drop_more part n 0 room ∙ ap (λ (ys : List ℕ). get_or part n 0 ∷ ys) (drop_of_length-le part {i = n + 1} (omega arith)))
      ∙ (and_true (eqb (get_or part n 0) 10) ∙ sym (ap (λ (ys : List ℕ). eqb (get_or ys n 0) 10) whole ∙ ap (λ (b : ℕ). eqb b 10) (get_or-append part left 0 n room)))

  -- what is left of the part without the line feed
  line : (r : Option (Bor (List ℕ))) (p : Bor (List ℕ)) → p.now ≡ part →
      MatchOption r (pointwise eqb (drop (length part - 1) part) (10 ∷ []) ≡ false) (λ x. (pointwise eqb (drop (length part - 1) part) (10 ∷ []) ≡ true) × (x.now ≡ take (length part - 1) part) × (length x.now + 1 ≡ length part)) →
      (unwrap_or r p).now ≡ take k xs
  line None p is none = is ∙ go (dec_le (k + 1) (length xs))
    where
      go : Dec (k + 1 ≤ length xs) → part ≡ take k xs
      go (yes h) = let n : length part - 1 ≡ k = omega arith in let feed : eqb (get_or xs k 0) 10 ≡ true = first.1 (omega arith) 0 in let test = last k (omega arith) in absurd (let z : ◌≡◌ {A = Bool} true false = cc in cc)
      go (no h) = sym front ∙ (take_all (length part) xs (omega arith) ∙ sym (take_all k xs (omega arith)))
  line (Some x) p is found = found.1 ∙ go (dec_le (k + 1) (length xs))
    where
      go : Dec (k + 1 ≤ length xs) → take (length part - 1) part ≡ take k xs
      go (yes h) = let n : length part - 1 ≡ k = omega arith in ap (λ (j : ℕ). take j part) n ∙ sym (ap (take k) whole ∙ take-append-le k part left (omega arith))
      go (no h) = let other : eqb (get_or xs (length part - 1) 0) 10 ≡ false = first.0 (length part - 1) 0 (omega arith) (omega arith) in let test = last (length part - 1) (omega arith) in let yes : pointwise eqb (drop (length part - 1) part) (10 ∷ []) ≡ true = found.0 in absurd (let z : ◌≡◌ {A = Bool} true false = cc in cc)

  pub cut : (r : Option (Bor (List ℕ))) (p : Bor (List ℕ)) → p.now ≡ part →
      MatchOption r (pointwise eqb (drop (length part - 1) part) (10 ∷ []) ≡ false) (λ x. (pointwise eqb (drop (length part - 1) part) (10 ∷ []) ≡ true) × (x.now ≡ take (length part - 1) part) × (length x.now + 1 ≡ length part)) →
      lines xs ≡ (unwrap_or r p).now ∷ lines left
  cut r p is stripped =
      first_line xs k first some ∙ (ap (λ (ys : List ℕ). take k xs ∷ lines ys) behind ∙ ap (λ (l : List ℕ). l ∷ lines left) (sym (line r p is stripped)))

-- an answer more before the later ones
one_more : (out text : List ℕ) (n : ℕ) (later : Result (List ℕ) ℕ) → answered 0 (Some (out ++ text)) later ≡ answered 0 (Some out) (answered n (Some text) later)
one_more out text n (Ok rest) = ap (λ (xs : List ℕ). Ok xs) (append_assoc out text rest)
one_more out text n (Err m) = refl

-- with `out` answered before, `l` is the line with the number n, the first of `rest`
module _ (out rest l left : List ℕ) (n : ℕ) {all : Result (List ℕ) ℕ} (cuts : lines rest ≡ l ∷ lines left) (inv : answered 0 (Some out) (batch n (lines rest)) ≡ all) where
  first : answered 0 (Some out) (answered n (answer_line_lem l) (batch (suc n) (lines left))) ≡ all
  first = sym (ap (λ (ls : List (List ℕ)). answered 0 (Some out) (batch n ls)) cuts) ∙ inv

  pub stopped : None ≡ answer_line_lem l → all ≡ Err n
  stopped is = sym (ap (λ (o : Option (List ℕ)). answered 0 (Some out) (answered n o (batch (suc n) (lines left)))) is ∙ first)

  pub went_on : (text more : List ℕ) (m : ℕ) → Some text ≡ answer_line_lem l → more ≡ out ++ text → m ≡ suc n → answered 0 (Some more) (batch m (lines left)) ≡ all
  went_on text more m is added next =
      ap (λ (xs : List ℕ). answered 0 (Some xs) (batch m (lines left))) added
      ∙ (ap (λ (j : ℕ). answered 0 (Some (out ++ text)) (batch j (lines left))) next
      ∙ (one_more out text n (batch (suc n) (lines left)) ∙ (ap (λ (o : Option (List ℕ)). answered 0 (Some out) (answered n o (batch (suc n) (lines left)))) is ∙ first)))

-- all lines are answered
pub all_answered : (out rest : List ℕ) (n : ℕ) {all : Result (List ℕ) ℕ} → length rest ≡ 0 → answered 0 (Some out) (batch n (lines rest)) ≡ all → all ≡ Ok out
all_answered out [] n h inv = sym inv ∙ ap (λ (xs : List ℕ). Ok xs) (append-nil out)
all_answered out (b ∷ bs) n h inv = absurd (omega arith)
