-- The laws of the reading, from what its runs take and what the format says.
use Rattle.std.proofs.Common.{◌≡◌, ℕ, ◌≤◌, List, ◌∷◌, ◌++◌, length, Decides, sym, ap, ◌∙◌, zero-add, arith, Ok}
use Rattle.text.specs.Notation.{Notation}
use Rattle.text.specs.Utf8.{Utf8, utf8}
use Rattle.source.specs.Endings.{Ending, at_end}
use Rattle.stream.specs.Streams.{Ev, Stream, stream}
use Rattle.laws.specs.Format.{Lists}
use Rattle.laws.specs.Laws.{ReadingIsTheFormat, followed, TokenByToken}
use Rattle.reader.specs.Readings.{reading}
use Rattle.laws.proofs.Listed.{lists_on, between_on, lists_line_feed_on}
use Rattle.laws.proofs.Read.{Has-read, read_lists, read_starts}
use Rattle.laws.proofs.Sets.{separator_ends}

module _ (decides : (bs : List ℕ) → Decides (utf8 bs) (Utf8 bs)) (notation : Notation) where
  pub reads : (bytes : List ℕ) (events : List Ev) → Lists bytes events → length bytes ≤ 16777215 → reading 0 bytes at_end ≡ stream events (Ok tt)
  reads bytes events h l = lists_on decides notation bytes events h 0 (omega arith)

  within : (bytes : List ℕ) (events : List Ev) → reading 0 bytes at_end ≡ stream events (Ok tt) → Lists bytes events × (length bytes ≤ 16777215)
  within bytes events w =
      let h : Has-read decides notation 0 bytes events = read_lists decides notation 0 bytes events w in
      let l = h.ends in
      (h.lists, omega arith)

  pub reading_is_the_format_lem : ReadingIsTheFormat
  reading_is_the_format_lem =
      record {
        reads = reads;
        lists = within;
        one = λ bytes events events' l h k. ap (λ (s : Stream). s.events) (sym (reads bytes events h l) ∙ reads bytes events' k l);
        starts = read_starts decides notation;
      }

  lines : (bytes : List ℕ) (events : List Ev) → reading 0 bytes at_end ≡ stream events (Ok tt) → (more : List ℕ) (ending : Ending)
      → reading 0 (bytes ++ 10 ∷ more) ending ≡ followed events (reading (length bytes) (10 ∷ more) ending)
  lines bytes events w more ending =
      let h = within bytes events w in
      let l : length bytes ≤ 16777215 = h.1 in
      lists_line_feed_on decides notation bytes events h.0 more ending 0 (omega arith)
      ∙ ap (λ p. followed events (reading p (10 ∷ more) ending)) (zero-add (length bytes))

  pub token_by_token_lem : TokenByToken
  token_by_token_lem =
      record {
        between = λ bytes events h b o more ending p l. between_on decides notation bytes events h b more ending o p l;
        separated = separator_ends;
        line = λ bytes events h more ending p l. lists_line_feed_on decides notation bytes events h more ending p l;
        readings = lines;
      }
