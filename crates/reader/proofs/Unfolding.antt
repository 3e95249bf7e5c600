-- How far runs go: none leaves more bytes than it found, or passes the limit. So the reading goes item by item, and a quoted text piece by piece, with no count.
use Rattle.std.proofs.Common.{◌≡◌, ℕ, zero, suc, ◌+◌, ◌<◌, ◌≤◌, max, Bool, true, false, cond, ◌&&◌, ◌||◌, eqb, leb, List, [], ◌∷◌, ◌++◌, length, Some, None, Ok, Err, Option, Result, refl, ap, arith}
use Rattle.std.proofs.lemmas.Bool.{leb-false}
use Rattle.text.specs.Digits.{numeral}
use Rattle.text.specs.Nextstep.{nextstep}
use Rattle.text.specs.Numbers.{number}
use Rattle.text.specs.Utf16.{surrogate, decode}
use Rattle.text.specs.Utf8.{utf8, encode}
use Rattle.source.specs.Asking.{answer}
use Rattle.source.specs.Endings.{Ending}
use Rattle.source.specs.declared.sources.Fault.{Fault}
use Rattle.stream.specs.Streams.{Ev, Stream, first}
use Rattle.stream.specs.declared.errors.Error.{Error}
use Rattle.stream.specs.declared.errors.Error.TheVariants.{TooLong, TextTooLong, InvalidUtf8AsciiStream, InvalidOctalString, InvalidUtf16String}
use Rattle.reader.specs.Comments.{line_comment_lem, closes, state_after, in_comment, block_comment_lem}
use Rattle.reader.specs.Readings.{before, item_then, reading_within, reading}
use Rattle.reader.specs.Steps.{Done, Run, pure, refuse, onward, ◌>>=◌, whether, or_refuse, limit, current, step_gives, stepped, step, peek, then}
use Rattle.reader.specs.Texts.{text_bytes, added, whole_text, ends_plain_lem, plain, integer_or_string, unquoted, present, quoted_byte, named, octal_escape_lem, utf16_code_unit_lem, letter_u, second_opened, second_code_unit_lem, second_if, utf16_escape_lem, escaped, escape, piece, extended, quoted_within, quoted_from, quoted}
use Rattle.reader.specs.Tokens.{Item, token, passed_over, the_end, separator, as_token, as_nothing, behind_slash, potential_comment_lem, begun, begun_if, item}
use Rattle.reader.specs.declared.states.Comment.{Comment}

pub none_some : (x : ℕ) → ◌≡◌ {A = Option ℕ} None (Some x) → ⊥
none_some x w = cc

-- what holds of a result that is no refusal
abbrev pub WhereOk : {A : Type 0} → (Done A → Type 0) → Result (Done A) Error → Type 0
WhereOk P (Ok d) = P d
WhereOk P (Err f) = Unit {0}

-- A run that began at p with n bytes goes forward, by the bytes that it takes, and not past the limit.
abbrev pub Forward : {A : Type 0} → ℕ → ℕ → Done A → Type 0
Forward p n d = (p ≤ d.position) × (d.position + length d.left ≡ p + n) × (d.position ≤ max p limit)

abbrev pub Goes : {A : Type 0} → ℕ → ℕ → Result (Done A) Error → Type 0
Goes p n r = WhereOk (Forward p n) r

abbrev pub Advances : {A : Type 0} → Run A → Type 0
Advances run = (p : ℕ) (xs : List ℕ) (e : Ending) → Goes p (length xs) (run p xs e)

-- further on than where another run came
goes_on : {A : Type 0} (r : Result (Done A) Error) (p n q m : ℕ) → p ≤ q → q + m ≡ p + n → q ≤ max p limit → Goes q m r → Goes p n r
goes_on (Ok d) p n q m h e l g = omega arith
goes_on (Err f) p n q m h e l g = tt

-- one step further on
goes_step : {A : Type 0} (r : Result (Done A) Error) (p n : ℕ) → p < limit → Goes (p + 1) n r → Goes p (suc n) r
goes_step r p n l g = goes_on r p (suc n) (p + 1) n (omega arith) (omega arith) (omega arith) g

adv_pure : {A : Type 0} (a : A) → Advances (pure a)
adv_pure a p xs e = omega arith

goes_onward : {A B : Type 0} (r : Result (Done A) Error) (next : A → Run B) (e : Ending) (p n : ℕ)
    → Goes p n r → ((a : A) → Advances (next a)) → Goes p n (onward r next e)
goes_onward (Ok d) next e p n g k =
    goes_on (next d.value d.position d.left e) p n d.position (length d.left) g.0 g.1 g.2 (k d.value d.position d.left e)
goes_onward (Err f) next e p n g k = tt

adv_bind : {A B : Type 0} (run : Run A) (next : A → Run B) → Advances run → ((a : A) → Advances (next a)) → Advances (run >>= next)
adv_bind run next h k p xs e = goes_onward (run p xs e) next e p (length xs) (h p xs e) k

adv_whether : {A : Type 0} (b : Bool) (run other : Run A) → Advances run → Advances other → Advances (whether b run other)
adv_whether true run other h k p xs e = h p xs e
adv_whether false run other h k p xs e = k p xs e

adv_or_refuse : {A : Type 0} (error : ℕ → Error) (o : Option A) → Advances (or_refuse error o)
adv_or_refuse error (Some a) = adv_pure a
adv_or_refuse error None = λ p xs e. tt

-- a step over a byte makes it the current one, below the limit
pub current_is : (p x : ℕ) (a : Result (Option ℕ) Fault) (b : Option ℕ) → current p x a ≡ Ok b → (b ≡ Some x) × (p < limit)
current_is p x (Ok c) b e = below (leb limit p) refl e
  where
    below : (t : Bool) → leb limit p ≡ t → cond t (Err (TooLong p)) (Ok (Some x)) ≡ Ok b → (b ≡ Some x) × (p < limit)
    below true t w = cc
    below false t w = (cc, leb-false limit p t)
current_is p x (Err fault) b e = cc

adv_stepped : (p x : ℕ) (xs : List ℕ) (e : Ending) (s : Result (Option ℕ) Error) → step_gives p (x ∷ xs) e ≡ s → Goes p (length (x ∷ xs)) (stepped s p (x ∷ xs) e)
adv_stepped p x xs e (Ok None) w = let z = (current_is p x (answer xs e) None w).0 in absurd cc
adv_stepped p x xs e (Ok (Some y)) w = let l : p < limit = (current_is p x (answer xs e) (Some y) w).1 in omega arith
adv_stepped p x xs e (Err f) w = tt

adv_step : Advances step
adv_step p [] (Ok u) = omega arith
adv_step p [] (Err f) = tt
adv_step p (x ∷ xs) e = adv_stepped p x xs e (step_gives p (x ∷ xs) e) refl

adv_peek : Advances peek
adv_peek p xs e = omega arith

-- on after a step over x
goes_then : {A : Type 0} (p x : ℕ) (xs : List ℕ) (e : Ending) (s : Result (Option ℕ) Error) → step_gives p (x ∷ xs) e ≡ s
    → (r : Result (Done A) Error) → Goes (p + 1) (length xs) r → Goes p (length (x ∷ xs)) (then s r)
goes_then p x xs e (Ok b) w r g = goes_step r p (length xs) (current_is p x (answer xs e) b w).1 g
goes_then p x xs e (Err f) w r g = tt

goes_cond : {A : Type 0} (b : Bool) (r s : Result (Done A) Error) (p n : ℕ) → Goes p n r → Goes p n s → Goes p n (cond b r s)
goes_cond true r s p n h k = h
goes_cond false r s p n h k = k

adv_line_comment : Advances line_comment_lem
adv_line_comment p [] e = omega arith
adv_line_comment p (x ∷ xs) e =
    goes_cond (eqb x 10) (pure tt p (x ∷ xs) e) (then (step_gives p (x ∷ xs) e) (line_comment_lem (p + 1) xs e)) p (length (x ∷ xs)) (adv_pure (tt {0}) p (x ∷ xs) e)
    (goes_then p x xs e (step_gives p (x ∷ xs) e) refl (line_comment_lem (p + 1) xs e) (adv_line_comment (p + 1) xs e))

adv_in_comment : (s : Comment) → Advances (in_comment s)
adv_in_comment s p [] (Ok u) = tt
adv_in_comment s p [] (Err f) = tt
adv_in_comment s p (x ∷ xs) e =
    goes_then p x xs e (step_gives p (x ∷ xs) e) refl (cond (closes s x) (pure tt (p + 1) xs e) (in_comment (state_after x) (p + 1) xs e))
    (goes_cond (closes s x) (pure tt (p + 1) xs e) (in_comment (state_after x) (p + 1) xs e) (p + 1) (length xs) (adv_pure (tt {0}) (p + 1) xs e) (adv_in_comment (state_after x) (p + 1) xs e))

adv_plain : (bs : List ℕ) → Advances (plain bs)
adv_plain bs p [] e = omega arith
adv_plain bs p (x ∷ xs) e =
    let on = plain (bs ++ x ∷ []) (p + 1) xs e in
    let more = cond (leb text_bytes (length bs)) (Err (TextTooLong (p + 1))) on in
    goes_cond (ends_plain_lem x) (pure bs p (x ∷ xs) e) (then (step_gives p (x ∷ xs) e) more) p (length (x ∷ xs)) (adv_pure bs p (x ∷ xs) e)
    (goes_then p x xs e (step_gives p (x ∷ xs) e) refl more
    (goes_cond (leb text_bytes (length bs)) (Err (TextTooLong (p + 1))) on (p + 1) (length xs) tt (adv_plain (bs ++ x ∷ []) (p + 1) xs e)))

adv_whole_text : (bs : List ℕ) → Advances (whole_text bs)
adv_whole_text bs = adv_whether (utf8 bs) (pure bs) (refuse InvalidUtf8AsciiStream) (adv_pure bs) (λ p xs e. tt)

adv_unquoted : (x : ℕ) → Advances (unquoted x)
adv_unquoted x =
    adv_bind (plain (x ∷ [])) (λ bs. whole_text bs >>= λ text. pure (integer_or_string text (number text))) (adv_plain (x ∷ []))
    (λ bs. adv_bind (whole_text bs) (λ text. pure (integer_or_string text (number text))) (adv_whole_text bs) (λ text. adv_pure (integer_or_string text (number text))))

adv_present : (c : Option ℕ) → Advances (present c)
adv_present None = λ p xs e. tt
adv_present (Some x) = adv_pure x

pub adv_quoted_byte : Advances quoted_byte
adv_quoted_byte = adv_bind step present adv_step adv_present

adv_octal : (a : ℕ) → Advances (octal_escape_lem a)
adv_octal a =
    adv_bind quoted_byte (λ b. quoted_byte >>= λ c. or_refuse InvalidOctalString (numeral 8 (a ∷ b ∷ c ∷ [])) >>= λ code. pure (nextstep code)) adv_quoted_byte
    (λ b. adv_bind quoted_byte (λ c. or_refuse InvalidOctalString (numeral 8 (a ∷ b ∷ c ∷ [])) >>= λ code. pure (nextstep code)) adv_quoted_byte
    (λ c. adv_bind (or_refuse InvalidOctalString (numeral 8 (a ∷ b ∷ c ∷ []))) (λ code. pure (nextstep code)) (adv_or_refuse InvalidOctalString (numeral 8 (a ∷ b ∷ c ∷ []))) (λ code. adv_pure (nextstep code))))

adv_unit : Advances utf16_code_unit_lem
adv_unit =
    adv_bind quoted_byte (λ a. quoted_byte >>= λ b. quoted_byte >>= λ c. quoted_byte >>= λ d. or_refuse InvalidUtf16String (numeral 16 (a ∷ b ∷ c ∷ d ∷ []))) adv_quoted_byte
    (λ a. adv_bind quoted_byte (λ b. quoted_byte >>= λ c. quoted_byte >>= λ d. or_refuse InvalidUtf16String (numeral 16 (a ∷ b ∷ c ∷ d ∷ []))) adv_quoted_byte
    (λ b. adv_bind quoted_byte (λ c. quoted_byte >>= λ d. or_refuse InvalidUtf16String (numeral 16 (a ∷ b ∷ c ∷ d ∷ []))) adv_quoted_byte
    (λ c. adv_bind quoted_byte (λ d. or_refuse InvalidUtf16String (numeral 16 (a ∷ b ∷ c ∷ d ∷ []))) adv_quoted_byte
    (λ d. adv_or_refuse InvalidUtf16String (numeral 16 (a ∷ b ∷ c ∷ d ∷ []))))))

adv_second_opened : (x : ℕ) (y : Option ℕ) → Advances (second_opened x y)
adv_second_opened x y =
    adv_whether (eqb x 92 && letter_u y) (quoted_byte >>= λ letter. utf16_code_unit_lem) (refuse InvalidUtf16String)
    (adv_bind quoted_byte (λ letter. utf16_code_unit_lem) adv_quoted_byte (λ letter. adv_unit)) (λ p xs e. tt)

adv_second : Advances second_code_unit_lem
adv_second =
    adv_bind quoted_byte (λ x. peek >>= λ y. second_opened x y) adv_quoted_byte
    (λ x. adv_bind peek (λ y. second_opened x y) adv_peek (λ y. adv_second_opened x y))

adv_second_if : (b : Bool) → Advances (second_if b)
adv_second_if b =
    adv_whether b (second_code_unit_lem >>= λ unit. pure (Some unit)) (pure None)
    (adv_bind second_code_unit_lem (λ unit. pure (Some unit)) adv_second (λ unit. adv_pure (Some unit))) (adv_pure {A = Option ℕ} None)

adv_utf16_escape : Advances utf16_escape_lem
adv_utf16_escape =
    adv_bind utf16_code_unit_lem (λ unit. second_if (surrogate unit) >>= λ second. or_refuse InvalidUtf16String (decode unit second)) adv_unit
    (λ unit. adv_bind (second_if (surrogate unit)) (λ second. or_refuse InvalidUtf16String (decode unit second)) (adv_second_if (surrogate unit))
    (λ second. adv_or_refuse InvalidUtf16String (decode unit second)))

adv_escaped : (x : ℕ) → Advances (escaped x)
adv_escaped x =
    adv_whether (leb 48 x && leb x 55) (octal_escape_lem x) (whether (eqb x 85) utf16_escape_lem (or_refuse InvalidUtf8AsciiStream (named x))) (adv_octal x)
    (adv_whether (eqb x 85) utf16_escape_lem (or_refuse InvalidUtf8AsciiStream (named x)) adv_utf16_escape (adv_or_refuse InvalidUtf8AsciiStream (named x)))

pub adv_piece : (x : ℕ) → Advances (piece x)
adv_piece x =
    adv_whether (eqb x 92) (escape >>= λ c. pure (encode c)) (pure (x ∷ []))
    (adv_bind escape (λ c. pure (encode c)) (adv_bind quoted_byte escaped adv_quoted_byte adv_escaped) (λ c. adv_pure (encode c)))
    (adv_pure (x ∷ []))

adv_added : (bs cs : List ℕ) → Advances (added bs cs)
adv_added bs cs = adv_whether (leb (length bs + length cs) text_bytes) (pure (bs ++ cs)) (refuse TextTooLong) (adv_pure (bs ++ cs)) (λ p xs e. tt)

pub adv_extended : (bs : List ℕ) (x : ℕ) → Advances (extended bs x)
adv_extended bs x = adv_bind (piece x) (added bs) (adv_piece x) (adv_added bs)

-- behind the byte x of a quoted text
abbrev pub quoted_behind : (List ℕ → Run (List ℕ)) → ℕ → List ℕ → ℕ → Run (List ℕ)
quoted_behind on q bs x = whether (eqb x q) (pure bs) (extended bs x >>= on)

adv_quoted_behind : (on : List ℕ → Run (List ℕ)) → ((more : List ℕ) → Advances (on more)) → (q : ℕ) (bs : List ℕ) (x : ℕ) → Advances (quoted_behind on q bs x)
adv_quoted_behind on k q bs x =
    adv_whether (eqb x q) (pure bs) (extended bs x >>= on) (adv_pure bs) (adv_bind (extended bs x) on (adv_extended bs x) k)

adv_quoted_within : (n q : ℕ) (bs : List ℕ) → Advances (quoted_within n q bs)
unfolding quoted_within
adv_quoted_within zero q bs = λ p xs e. tt
adv_quoted_within (suc n) q bs = adv_bind quoted_byte (quoted_behind (quoted_within n q) q bs) adv_quoted_byte (adv_quoted_behind (quoted_within n q) (adv_quoted_within n q) q bs)

pub adv_quoted_from : (q : ℕ) (bs : List ℕ) → Advances (quoted_from q bs)
unfolding quoted_from
adv_quoted_from q bs p xs e = adv_quoted_within (suc (length xs)) q bs p xs e

adv_quoted : (q : ℕ) → Advances (quoted q)
adv_quoted q =
    adv_bind (quoted_from q []) (λ bs. whole_text bs >>= λ text. pure (Ev.String text)) (adv_quoted_from q [])
    (λ bs. adv_bind (whole_text bs) (λ text. pure (Ev.String text)) (adv_whole_text bs) (λ text. adv_pure (Ev.String text)))

adv_as_token : (run : Run Ev) → Advances run → Advances (as_token run)
adv_as_token run k = adv_bind run (λ ev. pure (token ev)) k (λ ev. adv_pure (token ev))

adv_as_nothing : (run : Run (Unit {0})) → Advances run → Advances (as_nothing run)
adv_as_nothing run k = adv_bind run (λ _. pure passed_over) k (λ _. adv_pure passed_over)

adv_behind_slash : (c : Option ℕ) → Advances (behind_slash c)
adv_behind_slash None = λ p xs e. tt
adv_behind_slash (Some x) =
    adv_whether (eqb x 47) (as_nothing line_comment_lem) (whether (eqb x 42) (as_nothing block_comment_lem) (as_token (unquoted 47))) (adv_as_nothing line_comment_lem adv_line_comment)
    (adv_whether (eqb x 42) (as_nothing block_comment_lem) (as_token (unquoted 47))
    (adv_as_nothing block_comment_lem (adv_bind step (λ _. in_comment Comment.Plain) adv_step (λ _. adv_in_comment Comment.Plain)))
    (adv_as_token (unquoted 47) (adv_unquoted 47)))

pub adv_begun : (x : ℕ) → Advances (begun x)
adv_begun x =
    let plain-or : Run Item = as_token (unquoted x) in
    let slash-or : Run Item = whether (eqb x 47) potential_comment_lem plain-or in
    let quote-or : Run Item = whether (eqb x 39 || eqb x 34) (as_token (quoted x)) slash-or in
    let end-or : Run Item = whether (eqb x 41 || eqb x 125) (pure (token Ev.EndCollection)) quote-or in
    let dictionary-or : Run Item = whether (eqb x 123) (pure (token (Ev.StartDictionary None))) end-or in
    let array-or : Run Item = whether (eqb x 40) (pure (token (Ev.StartArray None))) dictionary-or in
    adv_whether (separator x) (pure passed_over) array-or (adv_pure passed_over)
    (adv_whether (eqb x 40) (pure (token (Ev.StartArray None))) dictionary-or (adv_pure (token (Ev.StartArray None)))
    (adv_whether (eqb x 123) (pure (token (Ev.StartDictionary None))) end-or (adv_pure (token (Ev.StartDictionary None)))
    (adv_whether (eqb x 41 || eqb x 125) (pure (token Ev.EndCollection)) quote-or (adv_pure (token Ev.EndCollection))
    (adv_whether (eqb x 39 || eqb x 34) (as_token (quoted x)) slash-or (adv_as_token (quoted x) (adv_quoted x))
    (adv_whether (eqb x 47) potential_comment_lem plain-or (adv_bind peek behind_slash adv_peek adv_behind_slash)
    (adv_as_token (unquoted x) (adv_unquoted x)))))))

-- an item goes forward
adv_begun_if : (c : Option ℕ) → Advances (begun_if c)
adv_begun_if None = adv_pure the_end
adv_begun_if (Some x) = adv_begun x

pub adv_item : Advances item
adv_item = adv_bind step begun_if adv_step adv_begun_if

-- at most n bytes are left
abbrev Leaves : {A : Type 0} → ℕ → Result (Done A) Error → Type 0
Leaves n r = WhereOk (λ d. length d.left ≤ n) r

leaves : {A : Type 0} (r : Result (Done A) Error) (p m n : ℕ) → m ≤ n → Goes p m r → Leaves n r
leaves (Ok d) p m n h g = omega arith
leaves (Err f) p m n h g = tt

-- Of two ways to go on that agree where at most n bytes are left, either may follow a run that leaves no more.
pub same_onward : {A B : Type 0} (r : Result (Done A) Error) (f g : A → Run B) (e : Ending) (n : ℕ) → Leaves n r
    → ((a : A) (p : ℕ) (ys : List ℕ) → length ys ≤ n → f a p ys e ≡ g a p ys e) → onward r f e ≡ onward r g e
same_onward (Ok d) f g e n l h = h d.value d.position d.left l
same_onward (Err error) f g e n l h = refl

module _ (f g : List ℕ → Run (List ℕ)) (e : Ending) (n : ℕ) (h : (more : List ℕ) (p : ℕ) (ys : List ℕ) → length ys ≤ n → f more p ys e ≡ g more p ys e) where
  same_behind : (q : ℕ) (bs : List ℕ) (x p : ℕ) (ys : List ℕ) → length ys ≤ n → quoted_behind f q bs x p ys e ≡ quoted_behind g q bs x p ys e
  same_behind q bs x p ys l =
      ap (cond (eqb x q) (pure bs p ys e)) (same_onward (extended bs x p ys e) f g e n (leaves (extended bs x p ys e) p (length ys) n l (adv_extended bs x p ys e)) h)

-- a byte of a quoted text is taken
pub taken_byte : (s : Result (Option ℕ) Error) (p y : ℕ) (ys : List ℕ) (e : Ending) → Leaves (length ys) (onward (stepped s p (y ∷ ys) e) present e)
taken_byte (Ok None) p y ys e = tt
taken_byte (Ok (Some x)) p y ys e = omega arith
taken_byte (Err error) p y ys e = tt

-- any count above the number of bytes will do
quoted_enough : (n m q : ℕ) (bs : List ℕ) (p : ℕ) (xs : List ℕ) (e : Ending) → length xs < n → length xs < m → quoted_within n q bs p xs e ≡ quoted_within m q bs p xs e
unfolding quoted_within
quoted_enough zero m q bs p xs e h k = absurd (omega arith)
quoted_enough (suc n) zero q bs p xs e h k = absurd (omega arith)
quoted_enough (suc n) (suc m) q bs p [] (Ok u) h k = refl
quoted_enough (suc n) (suc m) q bs p [] (Err f) h k = refl
quoted_enough (suc n) (suc m) q bs p (x ∷ xs) e h k =
    let l : length xs < n = omega arith in
    let j : length xs < m = omega arith in
    same_onward (quoted_byte p (x ∷ xs) e) (quoted_behind (quoted_within n q) q bs) (quoted_behind (quoted_within m q) q bs) e (length xs) (taken_byte (step_gives p (x ∷ xs) e) p x xs e)
    (same_behind (quoted_within n q) (quoted_within m q) e (length xs) (λ more p' ys i. quoted_enough n m q more p' ys e (omega arith) (omega arith)) q bs)

-- A quoted text is one byte, or one escape, and the rest of the text.
pub quoted_on : (q : ℕ) (bs : List ℕ) (p : ℕ) (xs : List ℕ) (e : Ending) → quoted_from q bs p xs e ≡ (quoted_byte >>= quoted_behind (quoted_from q) q bs) p xs e
unfolding quoted_within quoted_from
quoted_on q bs p [] (Ok u) = refl
quoted_on q bs p [] (Err f) = refl
quoted_on q bs p (x ∷ xs) e =
    same_onward (quoted_byte p (x ∷ xs) e) (quoted_behind (quoted_within (length (x ∷ xs)) q) q bs) (quoted_behind (quoted_from q) q bs) e (length xs) (taken_byte (step_gives p (x ∷ xs) e) p x xs e)
    (same_behind (quoted_within (length (x ∷ xs)) q) (quoted_from q) e (length xs) (λ more p' ys i. quoted_enough (length (x ∷ xs)) (suc (length ys)) q more p' ys e (omega arith) (omega arith)) q bs)

-- an item but the end leaves less than n
abbrev pub LessBy : ℕ → List ℕ → Item → Type 0
LessBy n ys (token ev) = length ys < n
LessBy n ys passed_over = length ys < n
LessBy n ys the_end = Unit {0}

abbrev pub Less : ℕ → Done Item → Type 0
Less n d = LessBy n d.left d.value

less_item : (i : Item) (ys : List ℕ) (n : ℕ) → length ys < n → LessBy n ys i
less_item (token ev) ys n h = h
less_item passed_over ys n h = h
less_item the_end ys n h = tt

less_begun : (r : Result (Done Item) Error) (n : ℕ) → Leaves n r → WhereOk (Less (suc n)) r
less_begun (Ok d) n l = less_item d.value d.left (suc n) (omega arith)
less_begun (Err f) n l = tt

less_stepped : (s : Result (Option ℕ) Error) (p y : ℕ) (ys : List ℕ) (e : Ending) → WhereOk (Less (length (y ∷ ys))) (onward (stepped s p (y ∷ ys) e) begun_if e)
less_stepped (Ok None) p y ys e = tt
less_stepped (Ok (Some x)) p y ys e = less_begun (begun x (p + 1) ys e) (length ys) (leaves (begun x (p + 1) ys e) (p + 1) (length ys) (length ys) (omega arith) (adv_begun x (p + 1) ys e))
less_stepped (Err f) p y ys e = tt

pub less_from : (p : ℕ) (xs : List ℕ) (e : Ending) → WhereOk (Less (length xs)) (item p xs e)
less_from p [] (Ok u) = tt
less_from p [] (Err f) = tt
less_from p (x ∷ xs) e = less_stepped (step_gives p (x ∷ xs) e) p x xs e

-- what is read behind an item matters only where it left less
module _ (n : ℕ) (f g : ℕ → List ℕ → Stream) (h : (q : ℕ) (ys : List ℕ) → length ys < n → f q ys ≡ g q ys) where
  same_before : (i : Item) (q : ℕ) (ys : List ℕ) → LessBy n ys i → before i (f q ys) ≡ before i (g q ys)
  same_before (token ev) q ys l = ap (first ev) (h q ys l)
  same_before passed_over q ys l = h q ys l
  same_before the_end q ys l = refl

  same_then : (r : Result (Done Item) Error) → WhereOk (Less n) r → item_then r f ≡ item_then r g
  same_then (Ok d) l = same_before d.value d.position d.left l
  same_then (Err error) l = refl

-- any count above the number of bytes will do
reading_enough : (n m p : ℕ) (xs : List ℕ) (e : Ending) → length xs < n → length xs < m → reading_within n p xs e ≡ reading_within m p xs e
unfolding reading_within
reading_enough zero m p xs e h k = absurd (omega arith)
reading_enough (suc n) zero p xs e h k = absurd (omega arith)
reading_enough (suc n) (suc m) p xs e h k =
    same_then (length xs) (λ q ys. reading_within n q ys e) (λ q ys. reading_within m q ys e)
    (λ q ys l. reading_enough n m q ys e (omega arith) (omega arith)) (item p xs e) (less_from p xs e)

-- A reading is one item, and the reading of what it left.
pub reading_on : (p : ℕ) (xs : List ℕ) (e : Ending) → reading p xs e ≡ item_then (item p xs e) (λ q ys. reading q ys e)
unfolding reading_within reading
reading_on p xs e =
    same_then (length xs) (λ q ys. reading_within (length xs) q ys e) (λ q ys. reading_within (suc (length ys)) q ys e)
    (λ q ys l. reading_enough (length xs) (suc (length ys)) q ys e (omega arith) (omega arith)) (item p xs e) (less_from p xs e)
