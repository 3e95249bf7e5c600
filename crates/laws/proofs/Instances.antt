-- Sample lists, put together from the format's rules.
use Rattle.std.proofs.Common.{◌≡◌, ℕ, ◌≤◌, true, false, eqb, List, [], ◌∷◌, length, ℤ, pos, Some, None, codes, Decides, sym, refl, ap, ◌∙◌, inl, inr, arith, lit≤, Ok, Err}
use Rattle.std.proofs.lemmas.Bool.{eqb-false}
use Rattle.text.specs.Nextstep.{nextstep}
use Rattle.text.specs.Notation.{Notation}
use Rattle.text.specs.Numbers.{number}
use Rattle.text.specs.Utf8.{Utf8, utf8, encode}
use Rattle.source.specs.Endings.{at_end}
use Rattle.stream.specs.Streams.{Ev, Stream, stream}
use Rattle.stream.specs.declared.errors.Error.{Error}
use Rattle.laws.specs.Format.{no_plain_begins, plain_ends, separators, Text, Named, Escape, Quoted, PlainEvent, EndsPlain, Token, Skipped, Items, Between, Lists}
use Rattle.laws.specs.Laws.{FormatSamples}
use Rattle.reader.specs.Readings.{reading_within, reading}
use Rattle.laws.proofs.Read.{no_number}
use Rattle.laws.proofs.Sets.{one_of, one_of_true, none_of_false}
use Rattle.laws.proofs.Soundness.{without_nil, without_cons}
use Rattle.laws.proofs.Theorems.{reads}

module _ (decides : (bs : List ℕ) → Decides (utf8 bs) (Utf8 bs)) (notation : Notation) where
  text : (bs : List ℕ) → length bs ≤ 1024 → utf8 bs ≡ true → Text bs
  text bs l u = record { short = l; encoded = (decides bs).0 u }

  -- a plain token of one byte
  one_byte : (x : ℕ) (rest : List ℕ) (ev : Ev) → one_of no_plain_begins x ≡ false → eqb x 47 ≡ false → utf8 (x ∷ []) ≡ true → PlainEvent (x ∷ []) ev → EndsPlain rest → Token (x ∷ []) ev rest
  one_byte x rest ev f g u k ends =
      Token.plain (record { first = x; others = []; parts = refl; begins = none_of_false no_plain_begins x f; goes_on = tt; text = text (x ∷ []) (omega arith) u }) k ends
      (λ e. absurd (eqb-false x 47 g e))

  digit : (x : ℕ) (z : ℤ) → number (x ∷ []) ≡ Some z → PlainEvent (x ∷ []) (Ev.Integer z)
  digit x z w = PlainEvent.integer (notation.writes (x ∷ []) z w)

  dictionary : Between (codes "{a=1}") (Ev.StartDictionary None ∷ Ev.String (codes "a") ∷ Ev.Integer (pos 1) ∷ Ev.EndCollection ∷ [])
  unfolding utf8 number
  dictionary =
      Items.token {bytes = codes "{"} {rest = codes "a=1}"} Token.dictionary
      (Items.token {bytes = codes "a"} {rest = codes "=1}"} (one_byte 97 (codes "=1}") (Ev.String (codes "a")) refl refl refl (PlainEvent.string (no_number decides notation (codes "a") refl)) (one_of_true plain_ends 61 refl))
      (Items.skip {bytes = codes "="} {rest = codes "1}"} (Skipped.separator (one_of_true separators 61 refl))
      (Items.token {bytes = codes "1"} {rest = codes "}"} (one_byte 49 (codes "}") (Ev.Integer (pos 1)) refl refl refl (digit 49 (pos 1) refl) (one_of_true plain_ends 125 refl))
      (Items.token {bytes = codes "}"} {rest = []} Token.dictionary_end
      (Items.last refl)))))

  comments : Lists (codes "/***/5 //") (Ev.Integer (pos 5) ∷ [])
  unfolding utf8 number
  comments =
      Items.skip {bytes = codes "/***/"} {rest = codes "5 //"} (Skipped.block_comment (record { body = codes "*"; parts = refl; first = without_cons 42 [] without_nil (λ zs e w. star-alone zs w) }))
      (Items.token {bytes = codes "5"} {rest = codes " //"} (one_byte 53 (codes " //") (Ev.Integer (pos 5)) refl refl refl (digit 53 (pos 5) refl) (one_of_true plain_ends 32 refl))
      (Items.skip {bytes = codes " "} {rest = codes "//"} (Skipped.separator (one_of_true separators 32 refl))
      (Items.last (inr (record { body = []; parts = refl; one_line = tt })))))
    where
      star-alone : (zs : List ℕ) → ◌≡◌ {A = List ℕ} [] (47 ∷ zs) → ⊥
      star-alone zs w = let z : ◌≡◌ {A = ℕ} 0 1 = cc in omega arith

  escapes : Between (codes "'\\256\\UD83D\\uDCA9\\n\"'") (Ev.String (0xEF ∷ 0xAC ∷ 0x81 ∷ 0xF0 ∷ 0x9F ∷ 0x92 ∷ 0xA9 ∷ 0x0A ∷ codes "\"") ∷ [])
  unfolding utf8 nextstep encode
  escapes =
      let body = codes "\\256\\UD83D\\uDCA9\\n\"" in
      let bytes = 0xEF ∷ 0xAC ∷ 0x81 ∷ 0xF0 ∷ 0x9F ∷ 0x92 ∷ 0xA9 ∷ 0x0A ∷ codes "\"" in
      Items.token {bytes = codes "'\\256\\UD83D\\uDCA9\\n\"'"} {rest = []}
      (Token.quoted {quote = 39} {body = body} {text = bytes} (inl refl)
      (Quoted.escape {bytes = codes "256"} {body = codes "\\UD83D\\uDCA9\\n\""} {text = 0xF0 ∷ 0x9F ∷ 0x92 ∷ 0xA9 ∷ 0x0A ∷ codes "\""} {character = 0xFB01} (Escape.octal {a = 50} {b = 53} {c = 54} {number = 174} refl)
      (Quoted.escape {bytes = codes "UD83D\\uDCA9"} {body = codes "\\n\""} {text = 0x0A ∷ codes "\""} {character = 0x1F4A9}
      (Escape.pair {digits = codes "D83D"} {digits' = codes "DCA9"} {letter = 117} {first = 0xD83D} {second = 0xDCA9} (record { four = refl; written = refl }) (inl refl) (record { four = refl; written = refl }) refl)
      (Quoted.escape {bytes = codes "n"} {body = codes "\""} {text = codes "\""} {character = 10} (Escape.named Named.new_line)
      (Quoted.byte (λ e. quote-apart e) (λ e. backslash-apart e) Quoted.nothing))))
      (text bytes (lit≤ tt) refl))
      (Items.last refl)
    where
      quote-apart : ◌≡◌ {A = ℕ} 34 39 → ⊥
      quote-apart e = omega arith

      backslash-apart : ◌≡◌ {A = ℕ} 34 92 → ⊥
      backslash-apart e = omega arith

  -- what is refused is no list
  refused : (bytes : List ℕ) (error : Error) → length bytes ≤ 16777215 → reading 0 bytes at_end ≡ stream [] (Err error) → (events : List Ev) → Lists bytes events → ⊥
  refused bytes error l w events h =
      let a : Err error ≡ (Ok tt) = ap (λ (s : Stream). s.ending) (sym w ∙ reads decides notation bytes events h l) in
      let i : ◌≡◌ {A = ℕ} 0 1 = cc in
      omega arith

  pub format_samples : FormatSamples
  unfolding reading_within reading
  format_samples =
      record {
        dictionary = dictionary;
        comments = comments;
        escapes = escapes;
        half_comment = refused (codes "/*/ 5") (Error.IncompleteComment 5) (lit≤ tt) refl;
        slash = refused (codes "/") (Error.IncompleteComment 1) (lit≤ tt) refl;
      }
