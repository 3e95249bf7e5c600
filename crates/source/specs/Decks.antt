-- What a deck of 80-byte cards means.
use Rattle.std.specs.Prelude.{ℕ, zero, suc, ◌/◌, ◌%◌, cond, List, [], ◌++◌, length, take, drop, ◌==◌}
use Rattle.source.specs.Endings.{Ending, at_end, faulty}
use Rattle.source.specs.declared.decks.Deck.{Deck}

-- the first 72 bytes of each of n cards
abbrev pub texts_of : ℕ → List ℕ → List ℕ
texts_of zero xs = []
texts_of (suc n) xs = take 72 xs ++ texts_of n (drop 80 xs)

-- the text of every whole card
abbrev pub card_texts : List ℕ → List ℕ
card_texts xs = texts_of (length xs / 80) xs

-- a part of a card behind the last whole one is fault 1
abbrev pub cards_end : List ℕ → Ending
cards_end xs = cond (length xs % 80 == 0) at_end (faulty 1)

abbrev pub deck_bytes : Deck → List ℕ
deck_bytes d = d.text.now ++ card_texts (drop d.at d.cards.now)

abbrev pub deck_ending : Deck → Ending
deck_ending d = cards_end (drop d.at d.cards.now)
