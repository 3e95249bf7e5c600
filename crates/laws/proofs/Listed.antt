-- Completeness for items and whole lists: bytes that the format lists are read as their events, whatever follows them.
use Rattle.std.proofs.Common.{◌≡◌, ℕ, ◌+◌, ◌<◌, ◌≤◌, cond, ◌||◌, eqb, ◌≢◌, ◌⊎◌, List, [], ◌∷◌, ◌++◌, length, ℤ, Some, None, codes, Decides, Option, sym, refl, ap, ◌∙◌, subst, inl, inr, arith, Ok}
use Rattle.std.proofs.lemmas.List.{append_assoc, append-nil, length-append}
use Rattle.std.proofs.lemmas.Bool.{eq-eqb, ne_eqb, or_from, cases_eq}
use Rattle.text.specs.Notation.{Notation}
use Rattle.text.specs.Numbers.{number}
use Rattle.text.specs.Utf8.{Utf8, utf8}
use Rattle.source.specs.Endings.{Ending, at_end}
use Rattle.stream.specs.Streams.{Ev, stream, over}
use Rattle.stream.specs.declared.errors.Error.TheVariants.{InvalidUtf8AsciiStream}
use Rattle.reader.specs.Comments.{line_comment_lem, in_comment, block_comment_lem}
use Rattle.laws.specs.Format.{OneOf, Each, separators, plain_ends, no_plain_begins, Text, Quoted, Plain, PlainEvent, Number, EndsPlain, SlashGoesOn, BeginsNoComment, Token, LineComment, BlockComment, LineFeedFirst, Skipped, Items, Nothing, Lists}
use Rattle.laws.specs.Laws.{followed}
use Rattle.reader.specs.Readings.{before, item_then, reading}
use Rattle.reader.specs.Steps.{Run, pure, refuse, onward, ◌>>=◌, whether, limit, stepped}
use Rattle.reader.specs.Texts.{whole_text, integer_or_string, unquoted, quoted}
use Rattle.reader.specs.Tokens.{token, passed_over, as_token, as_nothing, potential_comment_lem, begun, begun_if, item}
use Rattle.reader.specs.declared.states.Comment.{Comment}
use Rattle.laws.proofs.Completeness.{done, Sure, sure_append, sure_cons, sure_step, at_position, EndsLine, line_on, comment_on, plain_on}
use Rattle.laws.proofs.Quotations.{quoted_text_on}
use Rattle.laws.proofs.Sets.{one_of_since, none_of, one_of_left, one_of_right, separator_is}
use Rattle.reader.proofs.Unfolding.{reading_on}

item_on : (p x : ℕ) (xs : List ℕ) (e : Ending) → p < limit → Sure e xs → item p (x ∷ xs) e ≡ begun x (p + 1) xs e
item_on p x xs e l s = ap (λ r. onward (stepped r p (x ∷ xs) e) begun_if e) (sure_step p x xs e l s)

-- a line comment, up to a line feed or the end
line_item_on : (bytes rest : List ℕ) → LineComment bytes → EndsLine rest → (p q : ℕ) (e : Ending) → Sure e rest → q ≡ p + length bytes → q ≤ limit
    → item p (bytes ++ rest) e ≡ done passed_over q rest
line_item_on bytes rest c ends p q e s w l =
    let k : length bytes ≡ length (47 ∷ 47 ∷ c.body) = ap length c.parts in
    ap (λ bs. item p (bs ++ rest) e) c.parts
    ∙ item_on p 47 (47 ∷ (c.body ++ rest)) e (omega arith) (sure_append e (47 ∷ c.body) rest s)
    ∙ ap (λ r. onward r (λ _. pure passed_over) e) (line_on (47 ∷ c.body) rest (p + 1) q e ((λ v. let z : ⊥ = omega arith in z), c.one_line) ends s (omega arith) l)

block_item_on : (bytes rest : List ℕ) → BlockComment bytes → (p q : ℕ) (e : Ending) → Sure e rest → q ≡ p + length bytes → q ≤ limit
    → item p (bytes ++ rest) e ≡ done passed_over q rest
block_item_on bytes rest c p q e s w l =
    let ys = c.body ++ (codes "*/" ++ rest) in
    let k : length bytes ≡ length (47 ∷ 42 ∷ (c.body ++ codes "*/")) = ap length c.parts in
    let j : length (c.body ++ codes "*/") ≡ length c.body + 2 = length-append c.body (codes "*/") in
    let sure : Sure e ys = sure_append e c.body (codes "*/" ++ rest) (sure_append e (codes "*/") rest s) in
    ap (λ bs. item p (bs ++ rest) e) c.parts
    ∙ ap (λ zs. item p (47 ∷ 42 ∷ zs) e) (append_assoc c.body (codes "*/") rest)
    ∙ item_on p 47 (42 ∷ ys) e (omega arith) (sure_append e (42 ∷ []) ys sure)
    ∙ ap (λ r. onward (onward (stepped r (p + 1) (42 ∷ ys) e) (λ _. in_comment Comment.Plain) e) (λ _. pure passed_over) e) (sure_step (p + 1) 42 ys e (omega arith) sure)
    ∙ ap (λ r. onward r (λ _. pure passed_over) e) (comment_on Comment.Plain c.body rest (p + 1 + 1) q e c.first s (omega arith) l)

line_feed_ends : (xs : List ℕ) → LineFeedFirst xs → EndsLine xs
line_feed_ends [] n = tt
line_feed_ends (x ∷ xs) n = n

skipped_on : {bytes rest : List ℕ} → Skipped bytes rest → (p q : ℕ) (e : Ending) → Sure e rest → q ≡ p + length bytes → q ≤ limit → item p (bytes ++ rest) e ≡ done passed_over q rest
skipped_on (Skipped.separator {x} {rest} o) p q e s w l =
    item_on p x rest e (omega arith) s
    ∙ ap (λ b. cond b (pure passed_over (p + 1) rest e) (whether (eqb x 40) (pure (token (Ev.StartArray None))) (whether (eqb x 123) (pure (token (Ev.StartDictionary None))) (whether (eqb x 41 || eqb x 125) (pure (token Ev.EndCollection)) (whether (eqb x 39 || eqb x 34) (as_token (quoted x)) (whether (eqb x 47) potential_comment_lem (as_token (unquoted x)))))) (p + 1) rest e)) (sym (separator_is x) ∙ one_of_since separators x o)
    ∙ at_position passed_over (p + 1) q rest (omega arith)
skipped_on (Skipped.line_comment {bytes} {rest} c n) p q e s w l = line_item_on bytes rest c (line_feed_ends rest n) p q e s w l
skipped_on (Skipped.block_comment {bytes} {rest} c) p q e s w l = block_item_on bytes rest c p q e s w l

-- a byte that nothing else begins with
begun_other : (x p : ℕ) (xs : List ℕ) (e : Ending) → (OneOf no_plain_begins x → ⊥) → begun x p xs e ≡ whether (eqb x 47) potential_comment_lem (as_token (unquoted x)) p xs e
begun_other x p xs e h =
    let g : OneOf (codes "({)}'\"") x → ⊥ = λ o. h (one_of_right separators (codes "({)}'\"") x o) in
    let r6 = whether (eqb x 47) potential_comment_lem (as_token (unquoted x)) p xs e in
    let r5 = cond (eqb x 39 || eqb x 34) (as_token (quoted x) p xs e) r6 in
    let r4 = cond (eqb x 41 || eqb x 125) (done (token Ev.EndCollection) p xs) r5 in
    let r3 = cond (eqb x 123) (done (token (Ev.StartDictionary None)) p xs) r4 in
    let r2 = cond (eqb x 40) (done (token (Ev.StartArray None)) p xs) r3 in
    ap (λ b. cond b (done passed_over p xs) r2) (sym (separator_is x) ∙ none_of separators x (λ o. h (one_of_left separators (codes "({)}'\"") x o)))
    ∙ ap (λ b. cond b (done (token (Ev.StartArray None)) p xs) r3) (ne_eqb x 40 (λ w. g (inl w)))
    ∙ ap (λ b. cond b (done (token (Ev.StartDictionary None)) p xs) r4) (ne_eqb x 123 (λ w. g (inr (inl w))))
    ∙ ap (λ b. cond b (done (token Ev.EndCollection) p xs) r5) (or_from (eqb x 41) (eqb x 125) (ne_eqb x 41 (λ w. g (inr (inr (inl w))))) (ne_eqb x 125 (λ w. g (inr (inr (inr (inl w)))))))
    ∙ ap (λ b. cond b (as_token (quoted x) p xs e) r6) (or_from (eqb x 39) (eqb x 34) (ne_eqb x 39 (λ w. g (inr (inr (inr (inr (inl w))))))) (ne_eqb x 34 (λ w. g (inr (inr (inr (inr (inr (inl w)))))))))

slash_on : (xs : List ℕ) → SlashGoesOn xs → (p : ℕ) (e : Ending) → potential_comment_lem p xs e ≡ as_token (unquoted 47) p xs e
slash_on [] h p e = absurd h
slash_on (y ∷ ys) h p e =
    ap (λ b. cond b (as_nothing line_comment_lem p (y ∷ ys) e) (cond (eqb y 42) (as_nothing block_comment_lem p (y ∷ ys) e) (as_token (unquoted 47) p (y ∷ ys) e))) (ne_eqb y 47 h.0)
    ∙ ap (λ b. cond b (as_nothing block_comment_lem p (y ∷ ys) e) (as_token (unquoted 47) p (y ∷ ys) e)) (ne_eqb y 42 h.1)

begun_plain : (x p : ℕ) (xs : List ℕ) (e : Ending) → (OneOf no_plain_begins x → ⊥) → (x ≡ 47 → SlashGoesOn xs) → begun x p xs e ≡ as_token (unquoted x) p xs e
begun_plain x p xs e h g =
    begun_other x p xs e h
    ∙ elim (cases_eq x 47) [
      | inl w ↦ ap (λ b. cond b (potential_comment_lem p xs e) (as_token (unquoted x) p xs e)) (eq-eqb x 47 w) ∙ slash_on xs (g w) p e ∙ ap (λ y. as_token (unquoted y) p xs e) (sym w)
      | inr n ↦ ap (λ b. cond b (potential_comment_lem p xs e) (as_token (unquoted x) p xs e)) (ne_eqb x 47 n)
    ]

begun_quote : (x p : ℕ) (xs : List ℕ) (e : Ending) → OneOf (codes "'\"") x → begun x p xs e ≡ as_token (quoted x) p xs e
begun_quote x p xs e (inl w) = subst (λ y. begun y p xs e ≡ as_token (quoted y) p xs e) (sym w) refl
begun_quote x p xs e (inr (inl w)) = subst (λ y. begun y p xs e ≡ as_token (quoted y) p xs e) (sym w) refl
begun_quote x p xs e (inr (inr o)) = absurd o

no_backslash : (x : ℕ) → OneOf (codes "'\"") x → 92 ≢ x
no_backslash x (inl w) v = omega arith
no_backslash x (inr (inl w)) v = omega arith
no_backslash x (inr (inr o)) v = absurd o

-- What follows a list does not change it, if it may follow a plain token.
ends_more : (rest more : List ℕ) → EndsPlain rest → EndsPlain more → EndsPlain (rest ++ more)
ends_more [] more h k = k
ends_more (x ∷ rest) more h k = h

slash_more : (xs more : List ℕ) → SlashGoesOn xs → SlashGoesOn (xs ++ more)
slash_more [] more h = absurd h
slash_more (x ∷ xs) more h = h

no_comment_more : (bytes rest more : List ℕ) → Plain bytes → BeginsNoComment (bytes ++ rest) → BeginsNoComment (bytes ++ (rest ++ more))
no_comment_more bytes rest more k =
    subst (λ bs. BeginsNoComment (bs ++ rest) → BeginsNoComment (bs ++ (rest ++ more))) (sym k.parts)
    (λ h w. subst SlashGoesOn (append_assoc k.others rest more) (slash_more (k.others ++ rest) more (h w)))

token_more : {bytes rest : List ℕ} {ev : Ev} → Token bytes ev rest → (more : List ℕ) → EndsPlain more → Token bytes ev (rest ++ more)
token_more Token.array more h = Token.array
token_more Token.dictionary more h = Token.dictionary
token_more Token.array_end more h = Token.array_end
token_more Token.dictionary_end more h = Token.dictionary_end
token_more (Token.quoted o k t) more h = Token.quoted o k t
token_more (Token.plain {bytes} {rest} {ev} k ev-is ends n) more h = Token.plain k ev-is (ends_more rest more ends h) (no_comment_more bytes rest more k n)

line_feed_more : (rest more : List ℕ) → LineFeedFirst rest → LineFeedFirst (rest ++ more)
line_feed_more [] more h = absurd h
line_feed_more (x ∷ rest) more h = h

skipped_more : {bytes rest : List ℕ} → Skipped bytes rest → (more : List ℕ) → Skipped bytes (rest ++ more)
skipped_more (Skipped.separator o) more = Skipped.separator o
skipped_more (Skipped.line_comment {bytes} {rest} c n) more = Skipped.line_comment c (line_feed_more rest more n)
skipped_more (Skipped.block_comment c) more = Skipped.block_comment c

module _ (decides : (bs : List ℕ) → Decides (utf8 bs) (Utf8 bs)) (notation : Notation) where
  whole_on : (bs : List ℕ) (p : ℕ) (xs : List ℕ) (e : Ending) → Utf8 bs → whole_text bs p xs e ≡ done bs p xs
  whole_on bs p xs e u = ap (λ b. cond b (pure bs p xs e) (refuse InvalidUtf8AsciiStream p xs e)) ((decides bs).1 u)

  string_on : (bs : List ℕ) → ((z : ℤ) → Number bs z → ⊥) → (o : Option ℤ) → number bs ≡ o → integer_or_string bs o ≡ Ev.String bs
  string_on bs h None w = refl
  string_on bs h (Some z) w = absurd (h z (notation.writes bs z w))

  event_on : {bs : List ℕ} {ev : Ev} → PlainEvent bs ev → integer_or_string bs (number bs) ≡ ev
  event_on {bs} (PlainEvent.integer {z} n) = ap (integer_or_string bs) (notation.reads bs z n.0 n.1)
  event_on {bs} (PlainEvent.string h) = string_on bs h (number bs) refl

  unquoted_on : (x : ℕ) (others rest : List ℕ) (ev : Ev) → Each (λ y. OneOf plain_ends y → ⊥) others → EndsPlain rest → Text (x ∷ others) → PlainEvent (x ∷ others) ev
      → (p q : ℕ) (e : Ending) → Sure e rest → q ≡ p + length others → q ≤ limit → unquoted x p (others ++ rest) e ≡ done ev q rest
  unquoted_on x others rest ev each ends t k p q e s w l =
      let m : length (x ∷ others) ≤ 1024 = t.short in
      let last : List ℕ → Run Ev = λ text. pure (integer_or_string text (number text)) in
      ap (λ r. onward r (λ bs. whole_text bs >>= last) e) (plain_on (x ∷ []) others rest p q e each ends s w l (omega arith))
      ∙ ap (λ r. onward r last e) (whole_on (x ∷ others) q rest e t.encoded)
      ∙ ap (λ v. done v q rest) (event_on k)

  plain_item_on : (x : ℕ) (others rest : List ℕ) (ev : Ev) → (OneOf no_plain_begins x → ⊥) → Each (λ y. OneOf plain_ends y → ⊥) others → EndsPlain rest
      → Text (x ∷ others) → PlainEvent (x ∷ others) ev → BeginsNoComment (x ∷ (others ++ rest))
      → (p q : ℕ) (e : Ending) → Sure e rest → q ≡ p + length (x ∷ others) → q ≤ limit → item p (x ∷ (others ++ rest)) e ≡ done (token ev) q rest
  plain_item_on x others rest ev begins each ends t k n p q e s w l =
      item_on p x (others ++ rest) e (omega arith) (sure_append e others rest s)
      ∙ begun_plain x (p + 1) (others ++ rest) e begins n
      ∙ ap (λ r. onward r (λ ev. pure (token ev)) e) (unquoted_on x others rest ev each ends t k (p + 1) q e s (omega arith) l)

  quoted_item_on : (x : ℕ) (body text rest : List ℕ) → OneOf (codes "'\"") x → Quoted x body text → Text text
      → (p q : ℕ) (e : Ending) → Sure e rest → q ≡ p + (length body + 2) → q ≤ limit → item p (x ∷ (body ++ x ∷ rest)) e ≡ done (token (Ev.String text)) q rest
  quoted_item_on x body text rest o k t p q e s w l =
      let ys = body ++ x ∷ rest in
      item_on p x ys e (omega arith) (sure_append e body (x ∷ rest) (sure_append e (x ∷ []) rest s))
      ∙ begun_quote x (p + 1) ys e o
      ∙ ap (λ r. onward (onward r (λ bs. whole_text bs >>= λ text. pure (Ev.String text)) e) (λ ev. pure (token ev)) e) (quoted_text_on k (no_backslash x o) [] rest (p + 1) q e s (omega arith) l (let m : length text ≤ 1024 = t.short in omega arith))
      ∙ ap (λ r. onward (onward r (λ text. pure (Ev.String text)) e) (λ ev. pure (token ev)) e) (whole_on text q rest e t.encoded)

  token_on : {bytes rest : List ℕ} {ev : Ev} → Token bytes ev rest → (p q : ℕ) (e : Ending) → Sure e rest → q ≡ p + length bytes → q ≤ limit
      → item p (bytes ++ rest) e ≡ done (token ev) q rest
  token_on (Token.array {rest}) p q e s w l = item_on p 40 rest e (omega arith) s ∙ at_position (token (Ev.StartArray None)) (p + 1) q rest (omega arith)
  token_on (Token.dictionary {rest}) p q e s w l = item_on p 123 rest e (omega arith) s ∙ at_position (token (Ev.StartDictionary None)) (p + 1) q rest (omega arith)
  token_on (Token.array_end {rest}) p q e s w l = item_on p 41 rest e (omega arith) s ∙ at_position (token Ev.EndCollection) (p + 1) q rest (omega arith)
  token_on (Token.dictionary_end {rest}) p q e s w l = item_on p 125 rest e (omega arith) s ∙ at_position (token Ev.EndCollection) (p + 1) q rest (omega arith)
  token_on (Token.quoted {quote = x} {body} {text} {rest} o k t) p q e s w l =
      let j : length (body ++ x ∷ []) ≡ length body + 1 = length-append body (x ∷ []) in
      ap (λ ys. item p (x ∷ ys) e) (append_assoc body (x ∷ []) rest)
      ∙ quoted_item_on x body text rest o k t p q e s (omega arith) l
  token_on (Token.plain {bytes} {rest} {ev} k ev-is ends n) p q e s w l =
      subst (λ bs. Text bs → PlainEvent bs ev → BeginsNoComment (bs ++ rest) → q ≡ p + length bs → item p (bs ++ rest) e ≡ done (token ev) q rest) (sym k.parts)
      (λ t v m u. plain_item_on k.first k.others rest ev k.begins k.goes_on ends t v m p q e s u l)
      k.text ev-is n w

  -- Items and then anything that may follow them.
  module _ (Last : List ℕ → Type 0) (rest : List ℕ) (e : Ending) (s : Sure e rest) (ends : EndsPlain rest)
      (last_on : (bytes : List ℕ) (p q : ℕ) → Last bytes → q ≡ p + length bytes → q ≤ limit → reading p (bytes ++ rest) e ≡ reading q rest e) where
    items_on : {bytes : List ℕ} {events : List Ev} → Items Last bytes events → (p q : ℕ) → q ≡ p + length bytes → q ≤ limit
        → reading p (bytes ++ rest) e ≡ followed events (reading q rest e)
    items_on (Items.last {bytes} h) p q w l = last_on bytes p q h w l
    items_on (Items.skip {bytes} {rest = ys} {events} k is) p q w l =
        let m : length (bytes ++ ys) ≡ length bytes + length ys = length-append bytes ys in
        ap (λ zs. reading p zs e) (append_assoc bytes ys rest)
        ∙ reading_on p (bytes ++ (ys ++ rest)) e
        ∙ ap (λ r. item_then r (λ i zs. reading i zs e)) (skipped_on (skipped_more k rest) p (p + length bytes) e (sure_append e ys rest s) refl (omega arith))
        ∙ items_on is (p + length bytes) q (omega arith) l
    items_on (Items.token {bytes} {rest = ys} {ev} {events} k is) p q w l =
        let m : length (bytes ++ ys) ≡ length bytes + length ys = length-append bytes ys in
        ap (λ zs. reading p zs e) (append_assoc bytes ys rest)
        ∙ reading_on p (bytes ++ (ys ++ rest)) e
        ∙ ap (λ r. item_then r (λ i zs. reading i zs e)) (token_on (token_more k rest ends) p (p + length bytes) e (sure_append e ys rest s) refl (omega arith))
        ∙ ap (λ t. before (token ev) t) (items_on is (p + length bytes) q (omega arith) l)

  nothing_on : (rest : List ℕ) (e : Ending) (bytes : List ℕ) (p q : ℕ) → Nothing bytes → q ≡ p + length bytes → reading p (bytes ++ rest) e ≡ reading q rest e
  nothing_on rest e bytes p q n w =
      let k : length bytes ≡ 0 = ap length n in
      let v : p ≡ q = omega arith in
      ap (λ bs. reading p (bs ++ rest) e) n ∙ ap (λ i. reading i rest e) v

  open_line_on : (rest : List ℕ) (e : Ending) → Sure e rest → EndsLine rest → (bytes : List ℕ) (p q : ℕ) → Nothing bytes ⊎ LineComment bytes → q ≡ p + length bytes → q ≤ limit
      → reading p (bytes ++ rest) e ≡ reading q rest e
  open_line_on rest e s ends bytes p q (inl n) w l = nothing_on rest e bytes p q n w
  open_line_on rest e s ends bytes p q (inr c) w l =
      reading_on p (bytes ++ rest) e ∙ ap (λ r. item_then r (λ i zs. reading i zs e)) (line_item_on bytes rest c ends p q e s w l)

  nothing_left : (p : ℕ) → reading p [] at_end ≡ over (Ok tt)
  nothing_left p = reading_on p [] at_end

  -- a whole list
  pub lists_on : (bytes : List ℕ) (events : List Ev) → Lists bytes events → (p : ℕ) → p + length bytes ≤ limit → reading p bytes at_end ≡ stream events (Ok tt)
  lists_on bytes events h p l =
      ap (λ bs. reading p bs at_end) (sym (append-nil bytes))
      ∙ items_on (λ bs. Nothing bs ⊎ LineComment bs) [] at_end tt tt (open_line_on [] at_end tt tt) h p (p + length bytes) refl l
      ∙ ap (followed events) (nothing_left (p + length bytes))
      ∙ ap (λ evs. stream evs (Ok tt)) (append-nil events)

  -- what ends between tokens, and something that may follow a plain token
  pub between_on : (bytes : List ℕ) (events : List Ev) → Items Nothing bytes events → (b : ℕ) (more : List ℕ) (e : Ending) → OneOf plain_ends b → (p : ℕ) → p + length bytes ≤ limit
      → reading p (bytes ++ b ∷ more) e ≡ followed events (reading (p + length bytes) (b ∷ more) e)
  between_on bytes events h b more e o p l =
      items_on Nothing (b ∷ more) e (sure_cons e b more) o (λ bs i j n w k. nothing_on (b ∷ more) e bs i j n w) h p (p + length bytes) refl l

  -- a list, and a line feed
  pub lists_line_feed_on : (bytes : List ℕ) (events : List Ev) → Lists bytes events → (more : List ℕ) (e : Ending) (p : ℕ) → p + length bytes ≤ limit
      → reading p (bytes ++ 10 ∷ more) e ≡ followed events (reading (p + length bytes) (10 ∷ more) e)
  lists_line_feed_on bytes events h more e p l =
      items_on (λ bs. Nothing bs ⊎ LineComment bs) (10 ∷ more) e (sure_cons e 10 more) (inr (inr (inr (inr (inr (inr (inl refl))))))) (open_line_on (10 ∷ more) e (sure_cons e 10 more) refl) h p (p + length bytes) refl l
