-- What the reading has to do with the format.
use Rattle.std.specs.Prelude.{◌≡◌, ℕ, ◌+◌, ◌≤◌, List, [], ◌∷◌, ◌++◌, length, pos, None, codes, Ok}
use Prim.Native.Char.{code}
use Rattle.source.specs.Endings.{Ending, at_end}
use Rattle.stream.specs.Streams.{Ev, Stream, stream}
use Rattle.laws.specs.Format.{OneOf, separators, plain_ends, Between, Lists, StartsWith}
use Rattle.reader.specs.Readings.{reading}

-- Bytes are read as events, and then the end, exactly where they are a list of these events, of at most 16,777,215 bytes;
-- so bytes are a list of one row of events at most. And whatever a reading comes to, a refusal too, its events are those of tokens that the bytes start with.
pub record ReadingIsTheFormat : Type 0 where
  pub reads : (bytes : List ℕ) (events : List Ev) → Lists bytes events → length bytes ≤ 16777215 → reading 0 bytes at_end ≡ stream events (Ok tt)
  pub lists : (bytes : List ℕ) (events : List Ev) → reading 0 bytes at_end ≡ stream events (Ok tt) → Lists bytes events × (length bytes ≤ 16777215)
  pub one : (bytes : List ℕ) (events events' : List Ev) → length bytes ≤ 16777215 → Lists bytes events → Lists bytes events' → events ≡ events'
  pub starts : (bytes : List ℕ) (ending : Ending) (p : ℕ) → StartsWith bytes (reading p bytes ending).events

-- events, and then a stream
abbrev pub followed : List Ev → Stream → Stream
followed events later = stream (events ++ later.events) later.ending

-- The reading goes token by token: what bytes stand for depends neither on where they stand nor on what comes behind them, and how that ends.
pub record TokenByToken : Type 0 where
  -- bytes that end between tokens, and a byte that ends a plain token
  pub between : (bytes : List ℕ) (events : List Ev) → Between bytes events → (b : ℕ) → OneOf plain_ends b → (more : List ℕ) (ending : Ending)
      (p : ℕ) → p + length bytes ≤ 16777215 → reading p (bytes ++ b ∷ more) ending ≡ followed events (reading (p + length bytes) (b ∷ more) ending)
  -- each separator is such a byte
  pub separated : (b : ℕ) → OneOf separators b → OneOf plain_ends b
  -- a list, and a line feed, which ends a line comment too
  pub line : (bytes : List ℕ) (events : List Ev) → Lists bytes events → (more : List ℕ) (ending : Ending)
      (p : ℕ) → p + length bytes ≤ 16777215 → reading p (bytes ++ code "\n" ∷ more) ending ≡ followed events (reading (p + length bytes) (code "\n" ∷ more) ending)
  -- the same said of readings alone
  pub readings : (bytes : List ℕ) (events : List Ev) → reading 0 bytes at_end ≡ stream events (Ok tt) → (more : List ℕ) (ending : Ending)
      → reading 0 (bytes ++ code "\n" ∷ more) ending ≡ followed events (reading (length bytes) (code "\n" ∷ more) ending)

-- Some lists by the format alone, put together from its rules, and bytes that are no list.
pub record FormatSamples : Type 0 where
  pub dictionary : Between (codes "{a=1}") (Ev.StartDictionary None ∷ Ev.String (codes "a") ∷ Ev.Integer (pos 1) ∷ Ev.EndCollection ∷ [])
  pub comments : Lists (codes "/***/5 //") (Ev.Integer (pos 5) ∷ [])
  pub escapes : Between (codes "'\\256\\UD83D\\uDCA9\\n\"'") (Ev.String (0xEF ∷ 0xAC ∷ 0x81 ∷ 0xF0 ∷ 0x9F ∷ 0x92 ∷ 0xA9 ∷ 0x0A ∷ codes "\"") ∷ [])
  pub half_comment : (events : List Ev) → Lists (codes "/*/ 5") events → ⊥
  pub slash : (events : List Ev) → Lists (codes "/") events → ⊥
