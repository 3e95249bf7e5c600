-- Soundness for items and whole readings: bytes that are read to the end are a list of their events.
use Rattle.std.proofs.Common.{◌≡◌, ℕ, zero, suc, ◌+◌, ◌<◌, ◌≤◌, max, true, false, cond, ◌||◌, eqb, ◌≢◌, ◌⊎◌, List, [], ◌∷◌, ◌++◌, length, ℤ, Some, None, Ok, Err, codes, Decides, Option, Result, sym, refl, ap, ◌∙◌, subst, subst₂, inl, inr, arith}
use Rattle.std.proofs.lemmas.List.{append_assoc, append-nil}
use Rattle.std.proofs.lemmas.Bool.{eqb-true, eqb-false, or_cases, or_parts}
use Rattle.text.specs.Notation.{Notation}
use Rattle.text.specs.Numbers.{number}
use Rattle.text.specs.Utf8.{Utf8, utf8}
use Rattle.source.specs.Asking.{answer}
use Rattle.source.specs.Endings.{Ending, at_end}
use Rattle.stream.specs.Streams.{Ev, Stream, stream, over}
use Rattle.stream.specs.declared.errors.Error.{Error}
use Rattle.stream.specs.declared.errors.Error.TheVariants.{InvalidUtf8AsciiStream}
use Rattle.reader.specs.Comments.{line_comment_lem, in_comment, block_comment_lem}
use Rattle.laws.specs.Format.{OneOf, Each, separators, plain_ends, no_plain_begins, Text, Quoted, PlainEvent, Number, EndsPlain, SlashGoesOn, Token, LineComment, Skipped, Items, Lists, StartsWith}
use Rattle.reader.specs.Readings.{before, item_then, reading}
use Rattle.reader.specs.Steps.{Done, Run, pure, refuse, onward, ◌>>=◌, whether, limit, step_gives, stepped}
use Rattle.reader.specs.Texts.{whole_text, plain, integer_or_string, unquoted, quoted_from, quoted}
use Rattle.reader.specs.Tokens.{Item, token, passed_over, the_end, separator, as_token, as_nothing, potential_comment_lem, begun, begun_if, item}
use Rattle.reader.specs.declared.states.Comment.{Comment}
use Rattle.laws.proofs.Completeness.{EndsLine}
use Rattle.laws.proofs.Sets.{one_of_true, none_of_false, one_of_either, separator_is}
use Rattle.laws.proofs.Soundness.{ok_onward, ok_cond, Line, line_sound, Block, block_sound, RestOfPlain, plain_sound, Closed, quoted_from_sound}
use Rattle.reader.proofs.Unfolding.{WhereOk, Forward, Goes, current_is, none_some, LessBy, Less, less_from, adv_item, reading_on}

-- what an item is in the format: its bytes, and those that it left
pub record TokenRead (ev : Ev) (xs left : List ℕ) : Type 0 where
  pub bytes : List ℕ
  pub splits : xs ≡ bytes ++ left
  pub token : Token bytes ev left

-- at the end a line comment needs no line feed
pub record SkippedRead (xs left : List ℕ) : Type 0 where
  pub bytes : List ℕ
  pub splits : xs ≡ bytes ++ left
  pub skipped : Skipped bytes left ⊎ (LineComment bytes × (left ≡ []))

abbrev pub ItemRead : Item → List ℕ → List ℕ → Type 0
ItemRead (token ev) xs left = TokenRead ev xs left
ItemRead passed_over xs left = SkippedRead xs left
ItemRead the_end xs left = xs ≡ []

abbrev AsItem : List ℕ → Done Item → Type 0
AsItem xs d = ItemRead d.value xs d.left

-- comments
line_ends : (bytes left : List ℕ) → LineComment bytes → EndsLine left → Skipped bytes left ⊎ (LineComment bytes × (left ≡ []))
line_ends bytes [] c h = inr (c, refl)
line_ends bytes (x ∷ left) c h = inl (Skipped.line_comment c h)

line_read : (y : ℕ) (ys left body : List ℕ) → y ≡ 47 → y ∷ ys ≡ body ++ left → Each (λ x. x ≢ 10) body → EndsLine left → SkippedRead (47 ∷ y ∷ ys) left
line_read y ys left [] e w each ends =
    let v : y ≡ 10 = subst EndsLine (sym w) ends in
    let never : ⊥ = omega arith in
    absurd never
line_read y ys left (z ∷ body) e w each ends =
    let v : z ≡ 47 = cc in
    record {
      bytes = 47 ∷ z ∷ body;
      splits = ap (λ zs. 47 ∷ zs) w;
      skipped = line_ends (47 ∷ z ∷ body) left (record { body = body; parts = ap (λ i. 47 ∷ i ∷ body) v; one_line = each.1 }) ends;
    }

block_read : (y : ℕ) (ys left : List ℕ) → y ≡ 42 → Block Comment.Plain ys left → SkippedRead (47 ∷ y ∷ ys) left
block_read y ys left e h =
    record {
      bytes = 47 ∷ y ∷ (h.body ++ codes "*/");
      splits = ap (λ zs. 47 ∷ y ∷ zs) (h.splits ∙ sym (append_assoc h.body (codes "*/") left));
      skipped = inl (Skipped.block_comment (record { body = h.body; parts = ap (λ i. 47 ∷ i ∷ (h.body ++ codes "*/")) e; first = h.without }));
    }

behind_star : (p y : ℕ) (ys : List ℕ) (e : Ending) (s : Result (Option ℕ) Error) → WhereOk (λ d. Block Comment.Plain ys d.left) (onward (stepped s p (y ∷ ys) e) (λ _. in_comment Comment.Plain) e)
behind_star p y ys e (Ok None) = block_sound Comment.Plain p ys e
behind_star p y ys e (Ok (Some x)) = block_sound Comment.Plain (p + 1) ys e
behind_star p y ys e (Err f) = tt

-- tokens of one byte
bracket : (x y : ℕ) (xs : List ℕ) (ev : Ev) → x ≡ y → Token (y ∷ []) ev xs → TokenRead ev (x ∷ xs) xs
bracket x y xs ev e t = record { bytes = y ∷ []; splits = ap (λ z. z ∷ xs) e; token = t }

no_opening : (x : ℕ) → separator x ≡ false → eqb x 40 ≡ false → eqb x 123 ≡ false → (eqb x 41 || eqb x 125) ≡ false → (eqb x 39 || eqb x 34) ≡ false → OneOf no_plain_begins x → ⊥
no_opening x f0 f1 f2 f3 f4 o =
    elim (one_of_either separators (codes "({)}'\"") x o) [ inl s ↦ none_of_false separators x (separator_is x ∙ f0) s | inr b ↦ others b ]
  where
    others : OneOf (codes "({)}'\"") x → ⊥
    others (inl e) = eqb-false x 40 f1 e
    others (inr (inl e)) = eqb-false x 123 f2 e
    others (inr (inr (inl e))) = eqb-false x 41 (or_parts (eqb x 41) (eqb x 125) f3).0 e
    others (inr (inr (inr (inl e)))) = eqb-false x 125 (or_parts (eqb x 41) (eqb x 125) f3).1 e
    others (inr (inr (inr (inr (inl e))))) = eqb-false x 39 (or_parts (eqb x 39) (eqb x 34) f4).0 e
    others (inr (inr (inr (inr (inr (inl e)))))) = eqb-false x 34 (or_parts (eqb x 39) (eqb x 34) f4).1 e
    others (inr (inr (inr (inr (inr (inr o)))))) = o

module _ (decides : (bs : List ℕ) → Decides (utf8 bs) (Utf8 bs)) (notation : Notation) where
  pub no_number : (bs : List ℕ) → number bs ≡ None → (z : ℤ) → Number bs z → ⊥
  no_number bs w z n =
      let v : number bs ≡ Some z = notation.reads bs z n.0 n.1 in
      let i : ◌≡◌ {A = ℕ} 0 1 = cc in
      omega arith

  event_of : (bs : List ℕ) (o : Option ℤ) → number bs ≡ o → PlainEvent bs (integer_or_string bs o)
  event_of bs None w = PlainEvent.string (no_number bs w)
  event_of bs (Some z) w = PlainEvent.integer (notation.writes bs z w)

  -- a plain token whose first byte x was taken
  record Plain-read (x : ℕ) (xs left : List ℕ) (ev : Ev) : Type 0 where
    pub others : List ℕ
    pub splits : xs ≡ others ++ left
    pub each : Each (λ y. OneOf plain_ends y → ⊥) others
    pub ends : EndsPlain left
    pub text : Text (x ∷ others)
    pub event : PlainEvent (x ∷ others) ev

  plain_made : (x : ℕ) (xs value left : List ℕ) → RestOfPlain (x ∷ []) xs value left → utf8 value ≡ true → Plain-read x xs left (integer_or_string value (number value))
  plain_made x xs value left h t =
      let bs = x ∷ h.others in
      let w : bs ≡ value = sym h.makes in
      let m : length (x ∷ []) + length h.others ≤ 1024 = h.fits in
      record {
        others = h.others;
        splits = h.splits;
        each = h.each;
        ends = h.ends;
        text = record { short = omega arith; encoded = (decides bs).0 (ap utf8 w ∙ t) };
        event = subst (λ v. PlainEvent bs (integer_or_string v (number v))) w (event_of bs (number bs) refl);
      }

  unquoted_sound : (x p : ℕ) (xs : List ℕ) (e : Ending) → WhereOk (λ d. Plain-read x xs d.left d.value) (unquoted x p xs e)
  unquoted_sound x p xs e =
      let P : Done Ev → Type 0 = λ d. Plain-read x xs d.left d.value in
      let last : List ℕ → Run Ev = λ text. pure (integer_or_string text (number text)) in
      ok_onward (plain (x ∷ []) p xs e) (λ bs. whole_text bs >>= last) e (λ d. RestOfPlain (x ∷ []) xs d.value d.left) P (plain_sound (x ∷ []) p xs e (omega arith))
      (λ d h. ok_onward (whole_text d.value d.position d.left e) last e (λ z. Plain-read x xs z.left (integer_or_string z.value (number z.value))) P
      (ok_cond (utf8 d.value) (pure d.value d.position d.left e) (refuse InvalidUtf8AsciiStream d.position d.left e) (λ z. Plain-read x xs z.left (integer_or_string z.value (number z.value)))
      (λ t. plain_made x xs d.value d.left h t) (λ f. tt))
      (λ z k. k))

  plain_token : (x : ℕ) (xs left : List ℕ) (ev : Ev) → (OneOf no_plain_begins x → ⊥) → (x ≡ 47 → SlashGoesOn xs) → Plain-read x xs left ev → TokenRead ev (x ∷ xs) left
  plain_token x xs left ev begins n h =
      record {
        bytes = x ∷ h.others;
        splits = ap (λ ys. x ∷ ys) h.splits;
        token =
            Token.plain (record { first = x; others = h.others; parts = refl; begins = begins; goes_on = h.each; text = h.text }) h.event h.ends
            (λ e. subst SlashGoesOn h.splits (n e));
      }

  plain_item_sound : (x p : ℕ) (xs : List ℕ) (e : Ending) → (OneOf no_plain_begins x → ⊥) → (x ≡ 47 → SlashGoesOn xs) → WhereOk (AsItem (x ∷ xs)) (as_token (unquoted x) p xs e)
  plain_item_sound x p xs e begins n =
      ok_onward (unquoted x p xs e) (λ ev. pure (token ev)) e (λ d. Plain-read x xs d.left d.value) (AsItem (x ∷ xs)) (unquoted_sound x p xs e)
      (λ d h. plain_token x xs d.left d.value begins n h)

  -- a quoted text whose quote x was taken
  record Quoted-read (x : ℕ) (xs left : List ℕ) (ev : Ev) : Type 0 where
    pub body : List ℕ
    pub text : List ℕ
    pub splits : xs ≡ body ++ x ∷ left
    pub quoted : Quoted x body text
    pub fit : Text text
    pub event : ev ≡ Ev.String text

  quoted_made : (x : ℕ) (xs value left : List ℕ) → Closed x [] xs value left → utf8 value ≡ true → Quoted-read x xs left (Ev.String value)
  quoted_made x xs value left h t =
      let w : value ≡ h.text = h.makes in
      let m : length {A = ℕ} [] + length h.text ≤ 1024 = h.fits in
      record {
        body = h.body;
        text = h.text;
        splits = h.splits;
        quoted = h.quoted;
        fit = record { short = omega arith; encoded = (decides h.text).0 (ap utf8 (sym w) ∙ t) };
        event = ap (λ v. Ev.String v) w;
      }

  quoted_sound : (x p : ℕ) (xs : List ℕ) (e : Ending) → WhereOk (λ d. Quoted-read x xs d.left d.value) (quoted x p xs e)
  quoted_sound x p xs e =
      let P : Done Ev → Type 0 = λ d. Quoted-read x xs d.left d.value in
      let last : List ℕ → Run Ev = λ text. pure (Ev.String text) in
      ok_onward (quoted_from x [] p xs e) (λ bs. whole_text bs >>= last) e (λ d. Closed x [] xs d.value d.left) P (quoted_from_sound x p xs e)
      (λ d h. ok_onward (whole_text d.value d.position d.left e) last e (λ z. Quoted-read x xs z.left (Ev.String z.value)) P
      (ok_cond (utf8 d.value) (pure d.value d.position d.left e) (refuse InvalidUtf8AsciiStream d.position d.left e) (λ z. Quoted-read x xs z.left (Ev.String z.value))
      (λ t. quoted_made x xs d.value d.left h t) (λ f. tt))
      (λ z k. k))

  quoted_token : (x : ℕ) (xs left : List ℕ) (ev : Ev) → OneOf (codes "'\"") x → Quoted-read x xs left ev → TokenRead ev (x ∷ xs) left
  quoted_token x xs left ev o h =
      record {
        bytes = x ∷ (h.body ++ x ∷ []);
        splits = ap (λ ys. x ∷ ys) (h.splits ∙ sym (append_assoc h.body (x ∷ []) left));
        token = subst (λ v. Token (x ∷ (h.body ++ x ∷ [])) v left) (sym h.event) (Token.quoted o h.quoted h.fit);
      }

  quote_from : (x : ℕ) → (eqb x 39 || eqb x 34) ≡ true → OneOf (codes "'\"") x
  quote_from x t = elim (or_cases (eqb x 39) (eqb x 34) t) [ inl a ↦ inl (eqb-true x 39 a) | inr b ↦ inr (inl (eqb-true x 34 b)) ]

  quoted_item_sound : (x p : ℕ) (xs : List ℕ) (e : Ending) → OneOf (codes "'\"") x → WhereOk (AsItem (x ∷ xs)) (as_token (quoted x) p xs e)
  quoted_item_sound x p xs e o =
      ok_onward (quoted x p xs e) (λ ev. pure (token ev)) e (λ d. Quoted-read x xs d.left d.value) (AsItem (x ∷ xs)) (quoted_sound x p xs e)
      (λ d h. quoted_token x xs d.left d.value o h)

  -- behind a `/`
  slash_sound : (p : ℕ) (xs : List ℕ) (e : Ending) → (OneOf no_plain_begins 47 → ⊥) → WhereOk (AsItem (47 ∷ xs)) (potential_comment_lem p xs e)
  slash_sound p [] e begins = tt
  slash_sound p (y ∷ ys) e begins =
      let P : Done Item → Type 0 = AsItem (47 ∷ y ∷ ys) in
      ok_cond (eqb y 47) (as_nothing line_comment_lem p (y ∷ ys) e) (whether (eqb y 42) (as_nothing block_comment_lem) (as_token (unquoted 47)) p (y ∷ ys) e) P
      (λ t. ok_onward (line_comment_lem p (y ∷ ys) e) (λ _. pure passed_over) e (λ d. Line (y ∷ ys) d.left) P (line_sound p (y ∷ ys) e)
      (λ d h. line_read y ys d.left h.body (eqb-true y 47 t) h.splits h.each h.ends))
      (λ f. ok_cond (eqb y 42) (as_nothing block_comment_lem p (y ∷ ys) e) (as_token (unquoted 47) p (y ∷ ys) e) P
      (λ t. ok_onward (block_comment_lem p (y ∷ ys) e) (λ _. pure passed_over) e (λ d. Block Comment.Plain ys d.left) P (behind_star p y ys e (step_gives p (y ∷ ys) e))
      (λ d h. block_read y ys d.left (eqb-true y 42 t) h))
      (λ g. plain_item_sound 47 p (y ∷ ys) e begins (λ _. (eqb-false y 47 f, eqb-false y 42 g))))

  slash_item_sound : (x p : ℕ) (xs : List ℕ) (e : Ending) → x ≡ 47 → (OneOf no_plain_begins x → ⊥) → WhereOk (AsItem (x ∷ xs)) (potential_comment_lem p xs e)
  slash_item_sound x p xs e w begins =
      subst (λ y. (OneOf no_plain_begins y → ⊥) → WhereOk (AsItem (y ∷ xs)) (potential_comment_lem p xs e)) (sym w) (slash_sound p xs e) begins

  begun_sound : (x p : ℕ) (xs : List ℕ) (e : Ending) → WhereOk (AsItem (x ∷ xs)) (begun x p xs e)
  begun_sound x p xs e =
      let P : Done Item → Type 0 = AsItem (x ∷ xs) in
      let r6 = cond (eqb x 47) (potential_comment_lem p xs e) (as_token (unquoted x) p xs e) in
      let r5 = cond (eqb x 39 || eqb x 34) (as_token (quoted x) p xs e) r6 in
      let r4 = cond (eqb x 41 || eqb x 125) (pure (token Ev.EndCollection) p xs e) r5 in
      let r3 = cond (eqb x 123) (pure (token (Ev.StartDictionary None)) p xs e) r4 in
      let r2 = cond (eqb x 40) (pure (token (Ev.StartArray None)) p xs e) r3 in
      ok_cond (separator x) (pure passed_over p xs e) r2 P
      (λ t. record { bytes = x ∷ []; splits = refl; skipped = inl (Skipped.separator (one_of_true separators x (separator_is x ∙ t))) })
      (λ f0. ok_cond (eqb x 40) (pure (token (Ev.StartArray None)) p xs e) r3 P (λ t. bracket x 40 xs (Ev.StartArray None) (eqb-true x 40 t) Token.array)
      (λ f1. ok_cond (eqb x 123) (pure (token (Ev.StartDictionary None)) p xs e) r4 P (λ t. bracket x 123 xs (Ev.StartDictionary None) (eqb-true x 123 t) Token.dictionary)
      (λ f2. ok_cond (eqb x 41 || eqb x 125) (pure (token Ev.EndCollection) p xs e) r5 P
      (λ t. elim (or_cases (eqb x 41) (eqb x 125) t) [ inl a ↦ bracket x 41 xs Ev.EndCollection (eqb-true x 41 a) Token.array_end | inr b ↦ bracket x 125 xs Ev.EndCollection (eqb-true x 125 b) Token.dictionary_end ])
      (λ f3. ok_cond (eqb x 39 || eqb x 34) (as_token (quoted x) p xs e) r6 P (λ t. quoted_item_sound x p xs e (quote_from x t))
      (λ f4. ok_cond (eqb x 47) (potential_comment_lem p xs e) (as_token (unquoted x) p xs e) P
      (λ t. slash_item_sound x p xs e (eqb-true x 47 t) (no_opening x f0 f1 f2 f3 f4))
      (λ f5. plain_item_sound x p xs e (no_opening x f0 f1 f2 f3 f4) (λ w. absurd (eqb-false x 47 f5 w))))))))

  stepped_sound : (p x : ℕ) (xs : List ℕ) (e : Ending) (s : Result (Option ℕ) Error) → step_gives p (x ∷ xs) e ≡ s → WhereOk (AsItem (x ∷ xs)) (onward (stepped s p (x ∷ xs) e) begun_if e)
  stepped_sound p x xs e (Ok None) w =
      let v : ◌≡◌ {A = Option ℕ} None (Some x) = (current_is p x (answer xs e) None w).0 in
      absurd (none_some x v)
  stepped_sound p x xs e (Ok (Some y)) w =
      let v : ◌≡◌ {A = Option ℕ} (Some y) (Some x) = (current_is p x (answer xs e) (Some y) w).0 in
      let i : y ≡ x = cc in
      subst (λ z. WhereOk (AsItem (x ∷ xs)) (begun z (p + 1) xs e)) (sym i) (begun_sound x (p + 1) xs e)
  stepped_sound p x xs e (Err f) w = tt

  pub item_sound : (p : ℕ) (xs : List ℕ) (e : Ending) → WhereOk (AsItem xs) (item p xs e)
  item_sound p [] (Ok u) = refl
  item_sound p [] (Err f) = tt
  item_sound p (x ∷ xs) e = stepped_sound p x xs e (step_gives p (x ∷ xs) e) refl

  -- what a reading up to the end has read, from p on
  pub record Has-read (p : ℕ) (xs : List ℕ) (events : List Ev) : Type 0 where
    pub lists : Lists xs events
    pub ends : p + length xs ≤ max p limit

  none_left : (xs : List ℕ) (events : List Ev) → xs ≡ [] → [] ≡ events → Lists xs events
  none_left xs events w v = subst₂ (λ bs evs. Lists bs evs) (sym w) v (Items.last (inl refl))

  skipped_list : (xs left : List ℕ) (events : List Ev) → SkippedRead xs left → Lists left events → (left ≡ [] → [] ≡ events) → Lists xs events
  skipped_list xs left events h is none =
      elim h.skipped [
        | inl k ↦ subst (λ bs. Lists bs events) (sym h.splits) (Items.skip k is)
        | inr c ↦ subst₂ (λ bs evs. Lists bs evs) (sym (h.splits ∙ ap (λ ys. h.bytes ++ ys) c.1 ∙ append-nil h.bytes)) (none c.1) (Items.last (inr c.0))
      ]

  token_list : (ev : Ev) (xs left : List ℕ) (events : List Ev) → TokenRead ev xs left → Lists left events → Lists xs (ev ∷ events)
  token_list ev xs left events h is = subst (λ bs. Lists bs (ev ∷ events)) (sym h.splits) (Items.token h.token is)

  -- from an item on, with the reading of what it left
  module _ (p : ℕ) (xs : List ℕ) (events : List Ev) (later : ℕ → List ℕ → Stream)
      (nothing : (q : ℕ) → later q [] ≡ over (Ok tt))
      (on : (q : ℕ) (ys : List ℕ) (evs : List Ev) → length ys < length xs → later q ys ≡ stream evs (Ok tt) → Has-read q ys evs) where
    from_item : (i : Item) (q : ℕ) (ys : List ℕ) → ItemRead i xs ys → LessBy (length xs) ys i → Forward {A = Item} p (length xs) (record { value = i; position = q; left = ys })
        → before i (later q ys) ≡ stream events (Ok tt) → Has-read p xs events
    from_item (token ev) q ys h less f w =
        let evs = (later q ys).events in
        let a : ev ∷ evs ≡ events = ap (λ (s : Stream). s.events) w in
        let b : (later q ys).ending ≡ (Ok tt) = ap (λ (s : Stream). s.ending) w in
        let k : Has-read q ys evs = on q ys evs less (λ i. stream evs (b i)) in
        record { lists = subst (λ vs. Lists xs vs) a (token_list ev xs ys evs h k.lists); ends = (let l : q + length ys ≤ max q limit = k.ends in omega arith) }
    from_item passed_over q ys h less f w =
        let k : Has-read q ys events = on q ys events less w in
        record { lists = skipped_list xs ys events h k.lists (λ v. ap (λ (s : Stream). s.events) (sym (nothing q) ∙ ap (later q) (sym v) ∙ w)); ends = (let l : q + length ys ≤ max q limit = k.ends in omega arith) }
    from_item the_end q ys h less f w =
        let a : [] ≡ events = ap (λ (s : Stream). s.events) w in
        let m : length xs ≡ 0 = ap length h in
        record { lists = none_left xs events h a; ends = omega arith }

    from_result : (r : Result (Done Item) Error) → WhereOk (AsItem xs) r → WhereOk (Less (length xs)) r → Goes p (length xs) r → item_then r later ≡ stream events (Ok tt) → Has-read p xs events
    from_result (Ok d) h less g w = from_item d.value d.position d.left h less g w
    from_result (Err f) h less g w =
        let a : Err f ≡ (Ok tt) = ap (λ (s : Stream). s.ending) w in
        let i : ◌≡◌ {A = ℕ} 0 1 = cc in
        let never : ⊥ = omega arith in
        absurd never

  read_within : (n p : ℕ) (xs : List ℕ) (events : List Ev) → length xs < n → reading p xs at_end ≡ stream events (Ok tt) → Has-read p xs events
  read_within zero p xs events l w = let never : ⊥ = omega arith in absurd never
  read_within (suc n) p xs events l w =
      from_result p xs events (λ q ys. reading q ys at_end) (λ q. reading_on q [] at_end) (λ q ys evs k v. read_within n q ys evs (omega arith) v)
      (item p xs at_end) (item_sound p xs at_end) (less_from p xs at_end) (adv_item p xs at_end) (sym (reading_on p xs at_end) ∙ w)

  pub read_lists : (p : ℕ) (xs : List ℕ) (events : List Ev) → reading p xs at_end ≡ stream events (Ok tt) → Has-read p xs events
  read_lists p xs events w = read_within (suc (length xs)) p xs events (omega arith) w

  -- the events of any reading
  module _ (xs : List ℕ) (later : ℕ → List ℕ → Stream) (nothing : (q : ℕ) → (later q []).events ≡ [])
      (on : (q : ℕ) (ys : List ℕ) → length ys < length xs → StartsWith ys (later q ys).events) where
    starts_item : (i : Item) (q : ℕ) (ys : List ℕ) → ItemRead i xs ys → LessBy (length xs) ys i → StartsWith xs (before i (later q ys)).events
    starts_item (token ev) q ys h less = subst (λ bs. StartsWith bs (ev ∷ (later q ys).events)) (sym h.splits) (Items.token h.token (on q ys less))
    starts_item passed_over q ys h less =
        elim h.skipped [
          | inl k ↦ subst (λ bs. StartsWith bs (later q ys).events) (sym h.splits) (Items.skip k (on q ys less))
          | inr c ↦ subst (λ evs. StartsWith xs evs) (sym (ap (λ zs. (later q zs).events) c.1 ∙ nothing q)) (Items.last tt)
        ]
    starts_item the_end q ys h less = Items.last tt

    starts_result : (r : Result (Done Item) Error) → WhereOk (AsItem xs) r → WhereOk (Less (length xs)) r → StartsWith xs (item_then r later).events
    starts_result (Ok d) h less = starts_item d.value d.position d.left h less
    starts_result (Err f) h less = Items.last tt

  no_events : (e : Ending) (p : ℕ) → (reading p [] e).events ≡ []
  no_events (Ok u) p = ap (λ (s : Stream). s.events) (reading_on p [] (Ok u))
  no_events (Err f) p = ap (λ (s : Stream). s.events) (reading_on p [] (Err f))

  starts_within : (n p : ℕ) (xs : List ℕ) (e : Ending) → length xs < n → StartsWith xs (reading p xs e).events
  starts_within zero p xs e l = let never : ⊥ = omega arith in absurd never
  starts_within (suc n) p xs e l =
      subst (λ (s : Stream). StartsWith xs s.events) (sym (reading_on p xs e))
      (starts_result xs (λ q ys. reading q ys e) (no_events e) (λ q ys k. starts_within n q ys e (omega arith)) (item p xs e) (item_sound p xs e) (less_from p xs e))

  pub read_starts : (xs : List ℕ) (e : Ending) (p : ℕ) → StartsWith xs (reading p xs e).events
  read_starts xs e p = starts_within (suc (length xs)) p xs e (omega arith)
