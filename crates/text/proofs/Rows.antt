-- A character and what follows it, by the rows of the table.
use Rattle.std.proofs.Common.{◌≡◌, ℕ, suc, ◌+◌, ◌-◌, ◌<◌, ◌≤◌, Bool, true, false, ◌⊎◌, inl, inr, List, [], ◌∷◌, length, get_or, take, drop, sym, refl, add-one, drop-cons, length-drop, arith}
use Rattle.std.proofs.lemmas.Bool.Decides.{nat_tests}
use Rattle.std.proofs.lemmas.List.{take_rest}
use Rattle.text.proofs.Texts.{utf8_append, utf8_ascii}
use Rattle.text.specs.Utf8.{utf8}

-- the rows of each length, for a byte a and the bytes behind it: what the second byte may be goes by the first
abbrev pub At : List ℕ → ℕ → ℕ → ℕ → Type 0
At bs i low high = (i < length bs) × (low ≤ get_or bs i 0) × (get_or bs i 0 ≤ high)

abbrev pub Two : ℕ → List ℕ → Type 0
Two a bs = (0xC2 ≤ a) × (a ≤ 0xDF) × At bs 0 0x80 0xBF

abbrev pub Three : ℕ → List ℕ → Type 0
Three a bs = (0xE0 ≤ a) × (a ≤ 0xEF) × At bs 0 0x80 0xBF × At bs 1 0x80 0xBF × (a ≡ 0xE0 → 0xA0 ≤ get_or bs 0 0) × (a ≡ 0xED → get_or bs 0 0 ≤ 0x9F)

abbrev pub Four : ℕ → List ℕ → Type 0
Four a bs = (0xF0 ≤ a) × (a ≤ 0xF4) × At bs 0 0x80 0xBF × At bs 1 0x80 0xBF × At bs 2 0x80 0xBF × (a ≡ 0xF0 → 0x90 ≤ get_or bs 0 0) × (a ≡ 0xF4 → get_or bs 0 0 ≤ 0x8F)

-- behind such a character the text is UTF-8 exactly where what follows is
pub rest_2 : (a : ℕ) (bs : List ℕ) → Two a bs → utf8 (take (length bs - 1) (drop 1 bs)) ≡ utf8 (a ∷ bs)
unfolding utf8
rest_2 a [] h = absurd (omega arith)
rest_2 a (b ∷ bs) h = rw take_rest (sym (utf8_append (a ∷ b ∷ []) bs (grind (arith, nat_tests))))

pub rest_3 : (a : ℕ) (bs : List ℕ) → Three a bs → utf8 (take (length bs - 2) (drop 2 bs)) ≡ utf8 (a ∷ bs)
unfolding utf8
rest_3 a [] h = absurd (omega arith)
rest_3 a (b ∷ []) h = absurd (omega arith)
rest_3 a (b ∷ c ∷ bs) h = rw take_rest (sym (utf8_append (a ∷ b ∷ c ∷ []) bs (grind (arith, nat_tests))))

pub rest_4 : (a : ℕ) (bs : List ℕ) → Four a bs → utf8 (take (length bs - 3) (drop 3 bs)) ≡ utf8 (a ∷ bs)
unfolding utf8
rest_4 a [] h = absurd (omega arith)
rest_4 a (b ∷ []) h = absurd (omega arith)
rest_4 a (b ∷ c ∷ []) h = absurd (omega arith)
rest_4 a (b ∷ c ∷ d ∷ bs) h = rw take_rest (sym (utf8_append (a ∷ b ∷ c ∷ d ∷ []) bs (grind (arith, nat_tests))))

-- behind a byte of ASCII as well, and at the end there is nothing
pub ascii_at : (bs : List ℕ) (i : ℕ) → i < length bs → get_or bs i 0 ≤ 0x7F → utf8 (drop (i + 1) bs) ≡ utf8 (drop i bs)
ascii_at bs i l h = rw (add-one, drop-cons bs i 0 l) (sym (utf8_ascii (get_or bs i 0) (drop (suc i) bs) h))

pub rest_0 : (bs : List ℕ) → length bs < 1 → utf8 bs ≡ true
unfolding utf8
rest_0 [] l = refl
rest_0 (a ∷ bs) l = absurd (omega arith)

pub ends_at : (bs : List ℕ) (i : ℕ) → length bs ≤ i → utf8 (drop i bs) ≡ true
ends_at bs i l = rest_0 (drop i bs) (omega (arith, length-drop i bs))

begins : (a : ℕ) (bs : List ℕ) → utf8 (a ∷ bs) ≡ true → (a ≤ 0x7F) ⊎ Two a bs ⊎ Three a bs ⊎ Four a bs
unfolding utf8
begins a [] h = grind (arith, nat_tests)
begins a (b ∷ []) h = grind (arith, nat_tests)
begins a (b ∷ c ∷ []) h = grind (arith, nat_tests)
begins a (b ∷ c ∷ d ∷ bs) h = grind (arith, nat_tests)

-- bytes that begin with none of the rows
pub no_row : (a : ℕ) (bs : List ℕ) → (a ≤ 0x7F → ⊥) → (Two a bs → ⊥) → (Three a bs → ⊥) → (Four a bs → ⊥) → utf8 (a ∷ bs) ≡ false
no_row a bs p q r s = by (utf8 (a ∷ bs)) refl
  where
    by : (t : Bool) → utf8 (a ∷ bs) ≡ t → utf8 (a ∷ bs) ≡ false
    by true h = elim (begins a bs h) [ inl w ↦ absurd (p w) | inr (inl w) ↦ absurd (q w) | inr (inr (inl w)) ↦ absurd (r w) | inr (inr (inr w)) ↦ absurd (s w) ]
    by false h = h
