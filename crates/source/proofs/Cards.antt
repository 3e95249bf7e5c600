-- A deck whose next card is turned up, and what it answers from a card.
use Rattle.std.proofs.Common.{◌≡◌, ℕ, suc, ◌+◌, ◌-◌, ◌/◌, ◌%◌, ◌<◌, ◌≤◌, cond, eqb, List, [], ◌∷◌, ◌++◌, length, get_or, take, drop, slice_range, Some, Ok, refl, ap, ◌∙◌, arith, length-drop, drop-drop}
use Rattle.std.proofs.lemmas.List.{take_rest}
use Rattle.source.specs.Asking.{Asked}
use Rattle.source.specs.Endings.{Ending, at_end, faulty}
use Rattle.source.specs.Decks.{card_texts, texts_of, cards_end}

-- the cards from a place on, where a whole one starts
module _ (xs : List ℕ) (at : ℕ) (whole : 80 ≤ length xs - at) where
  -- behind a text that is over
  pub texts_turn : (text : List ℕ) → text ≡ [] → text ++ card_texts (drop at xs) ≡ slice_range xs at (at + 72) ++ card_texts (drop (at + 80) xs)
  texts_turn text none =
      let wide : at + 72 - at ≡ 72 = omega arith in
      let cards : length (drop at xs) / 80 ≡ suc (length (drop (at + 80) xs) / 80) = simp length-drop (omega arith) in
      rw (none, wide) (ap (λ n. texts_of n (drop at xs)) cards ∙ ap (λ ys. take 72 (drop at xs) ++ texts_of (length (drop (at + 80) xs) / 80) ys) (drop-drop 80 at xs))

  pub end_turn : cards_end (drop (at + 80) xs) ≡ cards_end (drop at xs)
  end_turn =
      let e : length (drop (at + 80) xs) % 80 ≡ length (drop at xs) % 80 = simp length-drop (omega arith) in
      ap (λ n. cond (eqb n 0) at_end (faulty 1)) e

-- the first byte of a text is given, and the others stay
pub asked_from : {bs : List ℕ} {e e' : Ending} (text more : List ℕ) → bs ≡ text ++ more → e' ≡ e → 0 < length text → Asked bs e (Ok (Some (get_or text 0 0))) (take (length text - 1) (drop 1 text) ++ more) e'
asked_from [] more is same some = absurd (omega arith)
asked_from (x ∷ xs) more is same some = rw is (record { gives = refl; leaves = ap (λ ys. ys ++ more) (take_rest (x ∷ xs) 1); keeps = same })
