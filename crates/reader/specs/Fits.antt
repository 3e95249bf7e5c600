-- Every event of a reading fits: texts of at most 1,024 bytes, and Strings in UTF-8.
use Rattle.std.specs.Prelude.{◌≡◌, ℕ, zero, suc, ◌+◌, ◌≤◌, Bool, true, false, cond, ◌||◌, List, [], ◌∷◌, ◌++◌, length, ℤ, Some, None, Ok, Err, Option, Result, ◌==◌, nat_le, refl}
use Rattle.std.proofs.Common.{sym, subst, ◌∙◌, add-one, lit≤, length-append}
use Rattle.std.proofs.lemmas.Bool.{leb-true, leb-false}
use Rattle.source.specs.Endings.{Ending}
use Rattle.text.specs.Numbers.{number}
use Rattle.text.specs.Utf8.{utf8}
use Rattle.stream.specs.Streams.{Ev, Fit, EachFit, Stream}
use Rattle.stream.specs.declared.errors.Error.{Error}
use Rattle.stream.specs.declared.errors.Error.TheVariants.{TextTooLong, InvalidUtf8AsciiStream}
use Rattle.reader.specs.Comments.{line_comment_lem, block_comment_lem}
use Rattle.reader.specs.Meanings.{in_state}
use Rattle.reader.specs.Readings.{item_then, reading_within, reading}
use Rattle.reader.specs.Steps.{Done, Run, pure, refuse, onward, ◌>>=◌, whether, step_gives, step, peek, then}
use Rattle.reader.specs.Texts.{added, whole_text, ends_plain_lem, plain, integer_or_string, unquoted, quoted_byte, piece, extended, quoted_within, quoted_from, quoted}
use Rattle.reader.specs.Tokens.{Item, token, passed_over, the_end, as_token, as_nothing, separator, behind_slash, potential_comment_lem, begun, begun_if, item}
use Rattle.reader.specs.declared.states.State.{State}
use Rattle.reader.specs.declared.states.State.TheVariants.{Unfilled, Filled, Refused}

-- what a run made, if it was not refused
abbrev Made : {A : Type 0} → (A → Type 0) → Result (Done A) Error → Type 0
Made P (Ok d) = P d.value
Made P (Err f) = Unit {0}

abbrev Makes : {A : Type 0} → (A → Type 0) → Run A → Type 0
Makes P run = (p : ℕ) (xs : List ℕ) (e : Ending) → Made P (run p xs e)

made_cond : {A : Type 0} (P : A → Type 0) (b : Bool) (r s : Result (Done A) Error) → (b ≡ true → Made P r) → (b ≡ false → Made P s) → Made P (cond b r s)
made_cond P true r s h i = h refl
made_cond P false r s h i = i refl

made_then : {A : Type 0} (P : A → Type 0) (s : Result (Option ℕ) Error) (r : Result (Done A) Error) → Made P r → Made P (then s r)
made_then P (Ok b) r h = h
made_then P (Err f) r h = tt

made_on : {A B : Type 0} (P : A → Type 0) (Q : B → Type 0) (r : Result (Done A) Error) (next : A → Run B) (e : Ending) → Made P r → ((a : A) → P a → Makes Q (next a)) → Made Q (onward r next e)
made_on P Q (Ok d) next e h i = i d.value h d.position d.left e
made_on P Q (Err f) next e h i = tt

made_any : {A : Type 0} (r : Result (Done A) Error) → Made (λ _. Unit {0}) r
made_any (Ok d) = tt
made_any (Err f) = tt

module _ {A B : Type 0} (P : A → Type 0) (Q : B → Type 0) (run : Run A) (next : A → Run B) where
  makes_on : Makes P run → ((a : A) → P a → Makes Q (next a)) → Makes Q (run >>= next)
  makes_on h i p xs e = made_on P Q (run p xs e) next e (h p xs e) i

  -- whatever the first run makes
  makes_after : ((a : A) → Makes Q (next a)) → Makes Q (run >>= next)
  makes_after i p xs e = made_on (λ _. Unit {0}) Q (run p xs e) next e (made_any (run p xs e)) (λ a _. i a)

makes_whether : {A : Type 0} (P : A → Type 0) (b : Bool) (run other : Run A) → (b ≡ true → Makes P run) → (b ≡ false → Makes P other) → Makes P (whether b run other)
makes_whether P b run other h i p xs e = made_cond P b (run p xs e) (other p xs e) (λ t. h t p xs e) (λ f. i f p xs e)

-- a text that is not too long
abbrev Short : List ℕ → Type 0
Short bs = length bs ≤ 1024

short_added : (bs cs : List ℕ) → Makes Short (added bs cs)
short_added bs cs = makes_whether Short (nat_le (length bs + length cs) 1024) (pure (bs ++ cs)) (refuse TextTooLong) (λ t p xs e. subst (λ n. n ≤ 1024) (sym (length-append bs cs)) (leb-true (length bs + length cs) 1024 t)) (λ f p xs e. tt)

short_plain : (bs : List ℕ) → Short bs → Makes Short (plain bs)
short_plain bs h p [] e = h
short_plain bs h p (x ∷ xs) e =
    made_cond Short (ends_plain_lem x) (pure bs p (x ∷ xs) e) _ (λ _. h)
    (λ _. made_then Short (step_gives p (x ∷ xs) e) _
    (made_cond Short (nat_le 1024 (length bs)) (Err (TextTooLong (p + 1))) (plain (bs ++ x ∷ []) (p + 1) xs e) (λ _. tt)
    (λ f. short_plain (bs ++ x ∷ []) (subst (λ n. n ≤ 1024) (sym (length-append bs (x ∷ []) ∙ add-one (length bs))) (leb-false 1024 (length bs) f)) (p + 1) xs e)))

short_extended : (bs : List ℕ) (x : ℕ) → Makes Short (extended bs x)
short_extended bs x = makes_after (λ _. Unit {0}) Short (piece x) (added bs) (short_added bs)

short_within : (n q : ℕ) (bs : List ℕ) → Short bs → Makes Short (quoted_within n q bs)
unfolding quoted_within
short_within zero q bs h p xs e = tt
short_within (suc n) q bs h p xs e =
    makes_after (λ _. Unit {0}) Short quoted_byte (λ x. whether (x == q) (pure bs) (extended bs x >>= quoted_within n q))
    (λ x. makes_whether Short (x == q) (pure bs) (extended bs x >>= quoted_within n q) (λ _ r ys f. h)
    (λ _. makes_on Short Short (extended bs x) (quoted_within n q) (short_extended bs x) (λ cs l. short_within n q cs l)))
    p xs e

short_from : (q : ℕ) → Makes Short (quoted_from q [])
unfolding quoted_from
short_from q p xs e = short_within (suc (length xs)) q [] (lit≤ tt) p xs e

abbrev Text : List ℕ → Type 0
Text bs = (length bs ≤ 1024) × (utf8 bs ≡ true)

whole : (bs : List ℕ) → Short bs → Makes Text (whole_text bs)
whole bs h = makes_whether Text (utf8 bs) (pure bs) (refuse InvalidUtf8AsciiStream) (λ t p xs e. (h, t)) (λ f p xs e. tt)

either : (bs : List ℕ) (o : Option ℤ) → Text bs → Fit (integer_or_string bs o)
either bs (Some z) h = tt
either bs None h = h

fit_unquoted : (x : ℕ) → Makes Fit (unquoted x)
fit_unquoted x =
    makes_on Short Fit (plain (x ∷ [])) _ (short_plain (x ∷ []) (lit≤ tt))
    (λ bs h. makes_on Text Fit (whole_text bs) (λ text. pure (integer_or_string text (number text))) (whole bs h) (λ text t p xs e. either text (number text) t))

fit_quoted : (q : ℕ) → Makes Fit (quoted q)
fit_quoted q =
    makes_on Short Fit (quoted_from q []) _ (short_from q)
    (λ bs h. makes_on Text Fit (whole_text bs) (λ text. pure (Ev.String text)) (whole bs h) (λ text t p xs e. t))

abbrev FitItem : Item → Type 0
FitItem (token ev) = Fit ev
FitItem passed_over = Unit {0}
FitItem the_end = Unit {0}

fit_token : (run : Run Ev) → Makes Fit run → Makes FitItem (as_token run)
fit_token run h = makes_on Fit FitItem run (λ ev. pure (token ev)) h (λ ev f p xs e. f)

fit_nothing : (run : Run (Unit {0})) → Makes FitItem (as_nothing run)
fit_nothing run = makes_after (λ _. Unit {0}) FitItem run (λ _. pure passed_over) (λ _ p xs e. tt)

fit_slash : (o : Option ℕ) → Makes FitItem (behind_slash o)
fit_slash None = λ p xs e. tt
fit_slash (Some x) =
    makes_whether FitItem (x == 47) (as_nothing line_comment_lem) _ (λ _. fit_nothing line_comment_lem)
    (λ _. makes_whether FitItem (x == 42) (as_nothing block_comment_lem) (as_token (unquoted 47)) (λ _. fit_nothing block_comment_lem) (λ _. fit_token (unquoted 47) (fit_unquoted 47)))

fit_begun : (x : ℕ) → Makes FitItem (begun x)
fit_begun x =
    let plain-or : Run Item = as_token (unquoted x) in
    let slash-or : Run Item = whether (x == 47) potential_comment_lem plain-or in
    let quote-or : Run Item = whether (x == 39 || x == 34) (as_token (quoted x)) slash-or in
    let end-or : Run Item = whether (x == 41 || x == 125) (pure (token Ev.EndCollection)) quote-or in
    let dictionary-or : Run Item = whether (x == 123) (pure (token (Ev.StartDictionary None))) end-or in
    let array-or : Run Item = whether (x == 40) (pure (token (Ev.StartArray None))) dictionary-or in
    makes_whether FitItem (separator x) (pure passed_over) array-or (λ _ p xs e. tt)
    (λ _. makes_whether FitItem (x == 40) (pure (token (Ev.StartArray None))) dictionary-or (λ _ p xs e. tt)
    (λ _. makes_whether FitItem (x == 123) (pure (token (Ev.StartDictionary None))) end-or (λ _ p xs e. tt)
    (λ _. makes_whether FitItem (x == 41 || x == 125) (pure (token Ev.EndCollection)) quote-or (λ _ p xs e. tt)
    (λ _. makes_whether FitItem (x == 39 || x == 34) (as_token (quoted x)) slash-or (λ _. fit_token (quoted x) (fit_quoted x))
    (λ _. makes_whether FitItem (x == 47) potential_comment_lem plain-or (λ _. makes_after (λ _. Unit {0}) FitItem peek behind_slash fit_slash)
    (λ _. fit_token (unquoted x) (fit_unquoted x)))))))

fit_begun_if : (o : Option ℕ) → Makes FitItem (begun_if o)
fit_begun_if None = λ p xs e. tt
fit_begun_if (Some x) = fit_begun x

fit_item : Makes FitItem item
fit_item = makes_after (λ _. Unit {0}) FitItem step begun_if fit_begun_if

fit_then : (r : Result (Done Item) Error) (later : ℕ → List ℕ → Stream) → Made FitItem r → ((q : ℕ) (ys : List ℕ) → EachFit (later q ys).events) → EachFit (item_then r later).events
fit_then (Err f) later h i = tt
fit_then (Ok d) later h i = go d.value h
  where
    go : (i : Item) → FitItem i → EachFit (item_then (Ok (record { value = i; position = d.position; left = d.left })) later).events
    go (token ev) f = (f, i d.position d.left)
    go passed_over f = i d.position d.left
    go the_end f = tt

fit_within : (n p : ℕ) (xs : List ℕ) (e : Ending) → EachFit (reading_within n p xs e).events
unfolding reading_within
fit_within zero p xs e = tt
fit_within (suc n) p xs e = fit_then (item p xs e) (λ q ys. reading_within n q ys e) (fit_item p xs e) (λ q ys. fit_within n q ys e)

pub fit_reading : (p : ℕ) (xs : List ℕ) (e : Ending) → EachFit (reading p xs e).events
unfolding reading
fit_reading p xs e = fit_within (suc (length xs)) p xs e

pub fit_in_state : (state : State) (all later : Stream) → EachFit all.events → EachFit later.events → EachFit (in_state state all later).events
fit_in_state Unfilled all later h i = h
fit_in_state Filled all later h i = i
fit_in_state (Refused f) all later h i = tt
