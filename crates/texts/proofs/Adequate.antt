-- What text_of says where every block is 24 bytes wide.
use Rattle.std.proofs.Common.{◌≡◌, ℕ, zero, suc, ◌-◌, min, List, [], ◌∷◌, ◌++◌, length, take, sym, refl, ap, ◌∙◌, arith}
use Rattle.std.proofs.lemmas.List.{length-take-le, take_min}
use Rattle.std.specs.List.{flat_map}
use Rattle.cells.proofs.Occs.{occ_here}
use Rattle.texts.specs.Texts.{at, front, text_of, TextIs}
use Rattle.texts.proofs.Reading.{front_take, text_nil, text_cons}

take_past : (n : ℕ) (b more : List ℕ) → take n (b ++ more) ≡ take n b ++ take (n - length b) more
take_past zero [] more = refl
take_past (suc n) [] more = let same : suc n ≡ suc n - 0 = omega arith in ap (λ (k : ℕ). take k more) same
take_past zero (x ∷ b) more = let none : ◌≡◌ {A = ℕ} 0 (0 - suc (length b)) = omega arith in ap (λ (k : ℕ). take k more) none
take_past (suc n) (x ∷ b) more =
    let less : n - length b ≡ suc n - suc (length b) = omega arith in
    ap (λ (t : List ℕ). x ∷ t) (take_past n b more ∙ ap (λ (k : ℕ). take n b ++ take k more) less)

take_block : (n : ℕ) (b : List ℕ) → length b ≡ 24 → take n b ≡ take (min n 24) b
take_block n b long = sym (take_min n b) ∙ ap (λ (k : ℕ). take (min n k) b) long

-- The text is the first n bytes of the blocks, one after another.
pub text_is : TextIs
text_is cs [] n e wide = let none : n ≡ 0 = omega arith in text_nil cs n ∙ ap (λ (k : ℕ). take k []) (sym none)
text_is cs (i ∷ is) n e wide =
    let b = (at cs i).bytes in
    let more = flat_map (λ (j : ℕ). (at cs j).bytes) is in
    let long : length b ≡ 24 = wide i (omega (arith, occ_here i is)) in
    let rec : text_of cs is (n - 24) ≡ take (n - 24) more = text_is cs is (n - 24) (omega arith) (λ k p. wide k (omega arith)) in
    let here : front (min n 24) b ≡ take (min n 24) b = front_take (min n 24) b (length-take-le (min n 24) b (omega arith)) in
    text_cons cs i is n ∙ ap (λ (t : List ℕ). t ++ text_of cs is (n - 24)) here ∙ ap (λ (t : List ℕ). take (min n 24) b ++ t) rec ∙ sym (take_past n b more ∙ ap (λ (t : List ℕ). t ++ take (n - length b) more) (take_block n b long) ∙ ap (λ (k : ℕ). take (min n 24) b ++ take (n - k) more) long)
