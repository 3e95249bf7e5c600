use Rattle.std.proofs.Common.{◌-◌, ◌≤◌, length, refl, arith, rules}
use Rattle.std.proofs.lemmas.List.{nil_from_length}
use Rattle.source.proofs.Cards.{texts_turn, end_turn, asked_from}
use Rattle.source.proofs.decks.DeckByteSource.next.Goals as goal
use Rattle.source.proofs.decks.DeckByteSource.next.Goals.{then-is_empty+else-left-eq0+else-left-lt-CARD, else-is_empty}

pub returns : goal.returns
returns c =
    let was = c.args.self.now in
    let some = c.in-len1-up.len_at_least in
    elim c.if-is_empty.branch [
      | then-is_empty+else-left-eq0+else-left-lt-CARD w ↦
          let whole : 80 ≤ length was.cards.now - was.at = omega arith in
          rw w.self-is (asked_from _ _ (texts_turn was.cards.now was.at whole was.text.now (search (rules, nil_from_length))) (end_turn was.cards.now was.at whole) (rw w.self-is at some))
      | else-is_empty w ↦ rw w.self-is (asked_from _ _ refl refl (rw w.self-is at some))
    ]
