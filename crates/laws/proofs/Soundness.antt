-- Where a run of the reading is no refusal, the bytes that it took are what the format says.
use Rattle.std.proofs.Common.{◌≡◌, ℕ, zero, suc, ◌+◌, ◌<◌, ◌≤◌, Bool, true, false, cond, ◌&&◌, ◌||◌, eqb, leb, ◌≢◌, ◌⊎◌, List, [], ◌∷◌, ◌++◌, length, Some, None, Ok, Err, codes, Option, Result, sym, refl, ap, ◌∙◌, subst, subst₂, inl, inr, arith}
use Rattle.std.proofs.lemmas.List.{append_assoc, append-nil, length-append}
use Rattle.std.proofs.lemmas.Bool.{false≢true, eqb-true, eqb-false, leb-true, leb-false, and_parts, or_cases}
use Rattle.text.specs.Digits.{numeral}
use Rattle.text.specs.Nextstep.{nextstep}
use Rattle.text.specs.Utf16.{surrogate, decode}
use Rattle.text.specs.Utf8.{encode}
use Rattle.source.specs.Asking.{answer, first}
use Rattle.source.specs.Endings.{Ending}
use Rattle.stream.specs.declared.errors.Error.{Error}
use Rattle.stream.specs.declared.errors.Error.TheVariants.{TextTooLong, IncompleteComment, InvalidOctalString, InvalidUtf16String, InvalidUtf8AsciiStream}
use Rattle.reader.specs.Comments.{line_comment_lem, closes, state_after, in_comment}
use Rattle.laws.specs.Format.{OneOf, Each, Without, plain_ends, EndsPlain, Named, CodeUnit, Escape, Quoted}
use Rattle.laws.specs.Format.Named.{backslash, double_quote, single_quote, alert, backspace, form_feed, new_line, carriage_return, horizontal_tab, vertical_tab}
use Rattle.reader.specs.Steps.{Done, Run, pure, refuse, onward, ◌>>=◌, whether, or_refuse, step_gives, stepped, peek, then}
use Rattle.reader.specs.Texts.{text_bytes, added, ends_plain_lem, plain, present, quoted_byte, named, octal_escape_lem, utf16_code_unit_lem, letter_u, second_opened, second_code_unit_lem, second_if, utf16_escape_lem, escaped, escape, piece, extended, quoted_within, quoted_from}
use Rattle.reader.specs.declared.states.Comment.{Comment}
use Rattle.reader.specs.declared.states.Comment.TheVariants.{Plain, Star}
use Rattle.laws.proofs.Completeness.{EndsLine, star}
use Rattle.laws.proofs.Sets.{one_of_true, none_of_false, ends_plain_is}
use Rattle.reader.proofs.Unfolding.{WhereOk, none_some, current_is, quoted_behind}

pub ok_map : {A : Type 0} (r : Result (Done A) Error) (P Q : Done A → Type 0) → WhereOk P r → ((d : Done A) → P d → Q d) → WhereOk Q r
ok_map (Ok d) P Q w h = h d w
ok_map (Err f) P Q w h = tt

pub ok_onward : {A B : Type 0} (r : Result (Done A) Error) (next : A → Run B) (e : Ending) (Q : Done A → Type 0) (P : Done B → Type 0) → WhereOk Q r
    → ((d : Done A) → Q d → WhereOk P (next d.value d.position d.left e)) → WhereOk P (onward r next e)
ok_onward (Ok d) next e Q P w h = h d w
ok_onward (Err f) next e Q P w h = tt

ok_then : {A : Type 0} (s : Result (Option ℕ) Error) (r : Result (Done A) Error) (P : Done A → Type 0) → WhereOk P r → WhereOk P (then s r)
ok_then (Ok b) r P w = w
ok_then (Err f) r P w = tt

pub ok_cond : {A : Type 0} (b : Bool) (r s : Result (Done A) Error) (P : Done A → Type 0) → (b ≡ true → WhereOk P r) → (b ≡ false → WhereOk P s) → WhereOk P (cond b r s)
ok_cond true r s P h k = h refl
ok_cond false r s P h k = k refl

ok_or_refuse : {A : Type 0} (error : ℕ → Error) (o : Option A) (p : ℕ) (xs : List ℕ) (e : Ending) (P : Done A → Type 0)
    → ((a : A) → o ≡ Some a → P (record { value = a; position = p; left = xs })) → WhereOk P (or_refuse error o p xs e)
ok_or_refuse error (Some a) p xs e P h = h a refl
ok_or_refuse error None p xs e P h = tt

some_same : (x y : ℕ) → ◌≡◌ {A = Option ℕ} (Some x) (Some y) → x ≡ y
some_same x y w = cc

-- the byte that was taken is the first
byte_stepped : (p x : ℕ) (xs : List ℕ) (e : Ending) (s : Result (Option ℕ) Error) → step_gives p (x ∷ xs) e ≡ s
    → WhereOk (λ d. x ∷ xs ≡ d.value ∷ d.left) (onward (stepped s p (x ∷ xs) e) present e)
byte_stepped p x xs e (Ok None) w = tt
byte_stepped p x xs e (Ok (Some y)) w = ap (λ z. z ∷ xs) (sym (some_same y x (current_is p x (answer xs e) (Some y) w).0))
byte_stepped p x xs e (Err f) w = tt

byte_sound : (p : ℕ) (xs : List ℕ) (e : Ending) → WhereOk (λ d. xs ≡ d.value ∷ d.left) (quoted_byte p xs e)
byte_sound p [] (Ok u) = tt
byte_sound p [] (Err f) = tt
byte_sound p (x ∷ xs) e = byte_stepped p x xs e (step_gives p (x ∷ xs) e) refl

byte_then : {B : Type 0} (p : ℕ) (xs : List ℕ) (e : Ending) (next : ℕ → Run B) (P : Done B → Type 0)
    → ((x : ℕ) (ys : List ℕ) (q : ℕ) → xs ≡ x ∷ ys → WhereOk P (next x q ys e)) → WhereOk P ((quoted_byte >>= next) p xs e)
byte_then p xs e next P h = ok_onward (quoted_byte p xs e) next e (λ d. xs ≡ d.value ∷ d.left) P (byte_sound p xs e) (λ d w. h d.value d.left d.position w)

-- a line comment
pub record Line (xs left : List ℕ) : Type 0 where
  pub body : List ℕ
  pub splits : xs ≡ body ++ left
  pub each : Each (λ x. x ≢ 10) body
  pub ends : EndsLine left

pub line_sound : (p : ℕ) (xs : List ℕ) (e : Ending) → WhereOk (λ d. Line xs d.left) (line_comment_lem p xs e)
line_sound p [] e = record { body = []; splits = refl; each = tt; ends = tt }
line_sound p (x ∷ xs) e =
    let P : Done (Unit {0}) → Type 0 = λ d. Line (x ∷ xs) d.left in
    ok_cond (eqb x 10) (pure tt p (x ∷ xs) e) (then (step_gives p (x ∷ xs) e) (line_comment_lem (p + 1) xs e)) P
    (λ t. record { body = []; splits = refl; each = tt; ends = eqb-true x 10 t })
    (λ f. ok_then (step_gives p (x ∷ xs) e) (line_comment_lem (p + 1) xs e) P
    (ok_map (line_comment_lem (p + 1) xs e) (λ d. Line xs d.left) P (line_sound (p + 1) xs e)
    (λ d h. record { body = x ∷ h.body; splits = ap (λ ys. x ∷ ys) h.splits; each = (eqb-false x 10 f, h.each); ends = h.ends })))

-- `*/` stands nowhere in nothing, nor in x and ys if not in ys, nor at the front
pub without_nil : Without (codes "*/") []
without_nil [] behind w = let z : ◌≡◌ {A = ℕ} 0 1 = cc in let never : ⊥ = omega arith in absurd never
without_nil (y ∷ before) behind w = let z : ◌≡◌ {A = ℕ} 0 1 = cc in let never : ⊥ = omega arith in absurd never

pub without_cons : (x : ℕ) (ys : List ℕ) → Without (codes "*/") ys → ((zs : List ℕ) → x ≡ 42 → ys ≡ 47 ∷ zs → ⊥) → Without (codes "*/") (x ∷ ys)
without_cons x ys n h [] behind w =
    let a : x ≡ 42 = cc in
    let b : ys ≡ 47 ∷ behind = cc in
    h behind a b
without_cons x ys n h (y ∷ before) behind w =
    let b : ys ≡ before ++ (codes "*/" ++ behind) = cc in
    n before behind b

-- a block comment in a state: with the `*` that was just taken, if one was, up to its `*/`
pub record Block (s : Comment) (xs left : List ℕ) : Type 0 where
  pub body : List ℕ
  pub splits : star s ++ xs ≡ body ++ (codes "*/" ++ left)
  pub without : Without (codes "*/") body

block_closes : (s : Comment) (x : ℕ) (xs : List ℕ) → closes s x ≡ true → Block s (x ∷ xs) xs
block_closes Plain x xs t = absurd (false≢true t)
block_closes Star x xs t = record { body = []; splits = ap (λ y. 42 ∷ y ∷ xs) (eqb-true x 47 t); without = without_nil }

-- a `*` that goes on is not followed by `/`
no_slash : (body xs left : List ℕ) → 42 ∷ xs ≡ body ++ (codes "*/" ++ left) → (zs : List ℕ) → body ≡ 47 ∷ zs → ⊥
no_slash body xs left w zs v =
    let u : 42 ∷ xs ≡ 47 ∷ (zs ++ (codes "*/" ++ left)) = w ∙ ap (λ bs. bs ++ (codes "*/" ++ left)) v in
    let z : ◌≡◌ {A = ℕ} 42 47 = cc in
    omega arith

block_on : (s : Comment) (x : ℕ) (xs left : List ℕ) → closes s x ≡ false → (t : Bool) → eqb x 42 ≡ t → Block (cond t Star Plain) xs left → Block s (x ∷ xs) left
block_on Plain x xs left f true t h = record { body = h.body; splits = ap (λ y. y ∷ xs) (eqb-true x 42 t) ∙ h.splits; without = h.without }
block_on Star x xs left f true t h =
    record {
      body = 42 ∷ h.body;
      splits = ap (λ y. 42 ∷ y ∷ xs) (eqb-true x 42 t) ∙ ap (λ ys. 42 ∷ ys) h.splits;
      without = without_cons 42 h.body h.without (λ zs a v. no_slash h.body xs left h.splits zs v);
    }
block_on Plain x xs left f false t h =
    record { body = x ∷ h.body; splits = ap (λ ys. x ∷ ys) h.splits; without = without_cons x h.body h.without (λ zs a v. eqb-false x 42 t a) }
block_on Star x xs left f false t h =
    record {
      body = 42 ∷ x ∷ h.body;
      splits = ap (λ ys. 42 ∷ x ∷ ys) h.splits;
      without =
          without_cons 42 (x ∷ h.body) (without_cons x h.body h.without (λ zs a v. eqb-false x 42 t a))
          (λ zs a v. let b : x ≡ 47 = cc in eqb-false x 47 f b);
    }

pub block_sound : (s : Comment) (p : ℕ) (xs : List ℕ) (e : Ending) → WhereOk (λ d. Block s xs d.left) (in_comment s p xs e)
block_sound s p [] e = ok_then (step_gives p [] e) (refuse IncompleteComment p [] e) (λ d. Block s [] d.left) tt
block_sound s p (x ∷ xs) e =
    let P : Done (Unit {0}) → Type 0 = λ d. Block s (x ∷ xs) d.left in
    ok_then (step_gives p (x ∷ xs) e) (cond (closes s x) (pure tt (p + 1) xs e) (in_comment (state_after x) (p + 1) xs e)) P
    (ok_cond (closes s x) (pure tt (p + 1) xs e) (in_comment (state_after x) (p + 1) xs e) P
    (λ t. block_closes s x xs t)
    (λ f. ok_map (in_comment (state_after x) (p + 1) xs e) (λ d. Block (state_after x) xs d.left) P (block_sound (state_after x) (p + 1) xs e)
    (λ d h. block_on s x xs d.left f (eqb x 42) refl h)))

-- a plain token of which bs was taken
pub record RestOfPlain (bs xs value left : List ℕ) : Type 0 where
  pub others : List ℕ
  pub splits : xs ≡ others ++ left
  pub each : Each (λ x. OneOf plain_ends x → ⊥) others
  pub ends : EndsPlain left
  pub makes : value ≡ bs ++ others
  pub fits : length bs + length others ≤ 1024

pub plain_sound : (bs : List ℕ) (p : ℕ) (xs : List ℕ) (e : Ending) → length bs ≤ 1024 → WhereOk (λ d. RestOfPlain bs xs d.value d.left) (plain bs p xs e)
plain_sound bs p [] e h = record { others = []; splits = refl; each = tt; ends = tt; makes = sym (append-nil bs); fits = omega arith }
plain_sound bs p (x ∷ xs) e h =
    let P : Done (List ℕ) → Type 0 = λ d. RestOfPlain bs (x ∷ xs) d.value d.left in
    let on = plain (bs ++ x ∷ []) (p + 1) xs e in
    let more = cond (leb text_bytes (length bs)) (Err (TextTooLong (p + 1))) on in
    ok_cond (ends_plain_lem x) (pure bs p (x ∷ xs) e) (then (step_gives p (x ∷ xs) e) more) P
    (λ t. record { others = []; splits = refl; each = tt; ends = one_of_true plain_ends x (ends_plain_is x ∙ t); makes = sym (append-nil bs); fits = omega arith })
    (λ f. ok_then (step_gives p (x ∷ xs) e) more P
    (ok_cond (leb text_bytes (length bs)) (Err (TextTooLong (p + 1))) on P (λ t. tt)
    (λ g.
    let l : length bs < 1024 = leb-false text_bytes (length bs) g in
    let m : length (bs ++ x ∷ []) ≡ length bs + 1 = length-append bs (x ∷ []) in
    ok_map on (λ d. RestOfPlain (bs ++ x ∷ []) xs d.value d.left) P (plain_sound (bs ++ x ∷ []) (p + 1) xs e (omega arith))
    (λ d k. record {
      others = x ∷ k.others;
      splits = ap (λ ys. x ∷ ys) k.splits;
      each = (none_of_false plain_ends x (ends_plain_is x ∙ f), k.each);
      ends = k.ends;
      makes = k.makes ∙ append_assoc bs (x ∷ []) k.others;
      fits = (let j : length (bs ++ x ∷ []) + length k.others ≤ 1024 = k.fits in omega arith);
    }))))

-- escapes
pub record UnitRead (xs left : List ℕ) (u : ℕ) : Type 0 where
  pub digits : List ℕ
  pub splits : xs ≡ digits ++ left
  pub unit : CodeUnit digits u

unit_sound : (p : ℕ) (xs : List ℕ) (e : Ending) → WhereOk (λ d. UnitRead xs d.left d.value) (utf16_code_unit_lem p xs e)
unit_sound p xs e =
    let P : Done ℕ → Type 0 = λ d. UnitRead xs d.left d.value in
    let end : Option ℕ → Run ℕ = or_refuse InvalidUtf16String in
    byte_then p xs e (λ a. quoted_byte >>= λ b. quoted_byte >>= λ c. quoted_byte >>= λ d. end (numeral 16 (a ∷ b ∷ c ∷ d ∷ []))) P
    (λ a ys q ea. byte_then q ys e (λ b. quoted_byte >>= λ c. quoted_byte >>= λ d. end (numeral 16 (a ∷ b ∷ c ∷ d ∷ []))) P
    (λ b zs r eb. byte_then r zs e (λ c. quoted_byte >>= λ d. end (numeral 16 (a ∷ b ∷ c ∷ d ∷ []))) P
    (λ c us s ec. byte_then s us e (λ d. end (numeral 16 (a ∷ b ∷ c ∷ d ∷ []))) P
    (λ d vs t ed. ok_or_refuse InvalidUtf16String (numeral 16 (a ∷ b ∷ c ∷ d ∷ [])) t vs e P
    (λ u w. record { digits = a ∷ b ∷ c ∷ d ∷ []; splits = cc; unit = record { four = refl; written = w } })))))

record SecondRead (xs left : List ℕ) (v : ℕ) : Type 0 where
  pub letter : ℕ
  pub digits : List ℕ
  pub splits : xs ≡ 92 ∷ letter ∷ (digits ++ left)
  pub letters : OneOf (codes "uU") letter
  pub unit : CodeUnit digits v

letters_from : (letter : ℕ) → letter_u (Some letter) ≡ true → OneOf (codes "uU") letter
letters_from letter t = elim (or_cases (eqb letter 117) (eqb letter 85) t) [ inl a ↦ inl (eqb-true letter 117 a) | inr b ↦ inr (inl (eqb-true letter 85 b)) ]

second_sound : (p : ℕ) (xs : List ℕ) (e : Ending) → WhereOk (λ d. SecondRead xs d.left d.value) (second_code_unit_lem p xs e)
second_sound p xs e =
    let P : Done ℕ → Type 0 = λ d. SecondRead xs d.left d.value in
    byte_then p xs e (λ x. peek >>= λ y. second_opened x y) P
    (λ x ys q ex. ok_cond (eqb x 92 && letter_u (first ys)) ((quoted_byte >>= λ z. utf16_code_unit_lem) q ys e) (refuse InvalidUtf16String q ys e) P
    (λ t. byte_then q ys e (λ z. utf16_code_unit_lem) P
    (λ letter zs r el.
    ok_map (utf16_code_unit_lem r zs e) (λ d. UnitRead zs d.left d.value) P (unit_sound r zs e)
    (λ d h.
    let both = and_parts (eqb x 92) (letter_u (first ys)) t in
    let x-is : x ≡ 92 = eqb-true x 92 both.0 in
    let splits : zs ≡ h.digits ++ d.left = h.splits in
    record {
      letter = letter;
      digits = h.digits;
      splits = cc;
      letters = letters_from letter (subst (λ ls. letter_u (first ls) ≡ true) el both.1);
      unit = h.unit;
    })))
    (λ f. tt))

-- an escape whose first bytes were taken
record EscapeRead (taken xs left : List ℕ) (c : ℕ) : Type 0 where
  pub bytes : List ℕ
  pub splits : xs ≡ bytes ++ left
  pub escape : Escape (taken ++ bytes) c

pair_then : (r : Result (Done ℕ) Error) (next : Option ℕ → Run ℕ) (e : Ending) (Q P : Done ℕ → Type 0) → WhereOk Q r
    → ((d : Done ℕ) → Q d → WhereOk P (next (Some d.value) d.position d.left e)) → WhereOk P (onward (onward r (λ unit. pure (Some unit)) e) next e)
pair_then (Ok d) next e Q P w h = h d w
pair_then (Err f) next e Q P w h = tt

behind_unit : (surrogates : Bool) (xs ys : List ℕ) (u : ℕ) → UnitRead xs ys u → (p : ℕ) (e : Ending)
    → WhereOk (λ d. EscapeRead (codes "U") xs d.left d.value) ((second_if surrogates >>= λ second. or_refuse InvalidUtf16String (decode u second)) p ys e)
behind_unit true xs ys u h p e =
    let P : Done ℕ → Type 0 = λ d. EscapeRead (codes "U") xs d.left d.value in
    pair_then (second_code_unit_lem p ys e) (λ second. or_refuse InvalidUtf16String (decode u second)) e (λ d. SecondRead ys d.left d.value) P (second_sound p ys e)
    (λ d k. ok_or_refuse InvalidUtf16String (decode u (Some d.value)) d.position d.left e P
    (λ c w.
    let letter = k.letter in
    let es = k.digits in
    record {
      bytes = h.digits ++ (92 ∷ letter ∷ es);
      splits = h.splits ∙ ap (λ zs. h.digits ++ zs) k.splits ∙ sym (append_assoc h.digits (92 ∷ letter ∷ es) d.left);
      escape = Escape.pair h.unit k.letters k.unit w;
    }))
behind_unit false xs ys u h p e =
    ok_or_refuse InvalidUtf16String (decode u None) p ys e (λ d. EscapeRead (codes "U") xs d.left d.value)
    (λ c w. record { bytes = h.digits; splits = h.splits; escape = Escape.unit h.unit w })

utf16_sound : (p : ℕ) (xs : List ℕ) (e : Ending) → WhereOk (λ d. EscapeRead (codes "U") xs d.left d.value) (utf16_escape_lem p xs e)
utf16_sound p xs e =
    ok_onward (utf16_code_unit_lem p xs e) (λ unit. second_if (surrogate unit) >>= λ second. or_refuse InvalidUtf16String (decode unit second)) e
    (λ d. UnitRead xs d.left d.value) (λ d. EscapeRead (codes "U") xs d.left d.value) (unit_sound p xs e)
    (λ d h. behind_unit (surrogate d.value) xs d.left d.value h d.position e)

octal_sound : (a p : ℕ) (xs : List ℕ) (e : Ending) → WhereOk (λ d. EscapeRead (a ∷ []) xs d.left d.value) (octal_escape_lem a p xs e)
octal_sound a p xs e =
    let P : Done ℕ → Type 0 = λ d. EscapeRead (a ∷ []) xs d.left d.value in
    let end : Option ℕ → Run ℕ = λ o. or_refuse InvalidOctalString o >>= λ code. pure (nextstep code) in
    byte_then p xs e (λ b. quoted_byte >>= λ c. end (numeral 8 (a ∷ b ∷ c ∷ []))) P
    (λ b ys q eb. byte_then q ys e (λ c. end (numeral 8 (a ∷ b ∷ c ∷ []))) P
    (λ c zs r ec.
    ok_onward (or_refuse InvalidOctalString (numeral 8 (a ∷ b ∷ c ∷ [])) r zs e) (λ code. pure (nextstep code)) e
    (λ d. (numeral 8 (a ∷ b ∷ c ∷ []) ≡ Some d.value) × (d.left ≡ zs)) P
    (ok_or_refuse InvalidOctalString (numeral 8 (a ∷ b ∷ c ∷ [])) r zs e (λ d. (numeral 8 (a ∷ b ∷ c ∷ []) ≡ Some d.value) × (d.left ≡ zs)) (λ n w. (w, refl)))
    (λ d h. let l : d.left ≡ zs = h.1 in record { bytes = b ∷ c ∷ []; splits = cc; escape = Escape.octal h.0 })))

-- one name after another
cond_some : (t : Bool) (y c : ℕ) (r : Option ℕ) → cond t (Some y) r ≡ Some c → ((t ≡ true) × (y ≡ c)) ⊎ (r ≡ Some c)
cond_some true y c r w = inl (refl, some_same y c w)
cond_some false y c r w = inr w

itself : (x c : ℕ) → (eqb x 92 || (eqb x 34 || eqb x 39)) ≡ true → x ≡ c → Named x c
itself x c t w =
    elim (or_cases (eqb x 92) (eqb x 34 || eqb x 39) t) [
      | inl a ↦ at 92 (eqb-true x 92 a) backslash
      | inr b ↦ elim (or_cases (eqb x 34) (eqb x 39) b) [ inl a ↦ at 34 (eqb-true x 34 a) double_quote | inr a ↦ at 39 (eqb-true x 39 a) single_quote ]
    ]
  where
    at : (y : ℕ) → x ≡ y → Named y y → Named x c
    at y v n = subst₂ Named (sym v) (sym v ∙ w) n

named_sound : (x c : ℕ) → named x ≡ Some c → Named x c
named_sound x c w =
    let n7 : Option ℕ = cond (eqb x 118) (Some 11) None in
    let n6 : Option ℕ = cond (eqb x 116) (Some 9) n7 in
    let n5 : Option ℕ = cond (eqb x 114) (Some 13) n6 in
    let n4 : Option ℕ = cond (eqb x 110) (Some 10) n5 in
    let n3 : Option ℕ = cond (eqb x 102) (Some 12) n4 in
    let n2 : Option ℕ = cond (eqb x 98) (Some 8) n3 in
    let n1 : Option ℕ = cond (eqb x 97) (Some 7) n2 in
    elim (cond_some (eqb x 92 || (eqb x 34 || eqb x 39)) x c n1 w) [
      | inl h ↦ itself x c h.0 h.1
      | inr w ↦
          elim (cond_some (eqb x 97) 7 c n2 w) [
            | inl h ↦ is 97 7 h.0 h.1 alert
            | inr w ↦
                elim (cond_some (eqb x 98) 8 c n3 w) [
                  | inl h ↦ is 98 8 h.0 h.1 backspace
                  | inr w ↦
                      elim (cond_some (eqb x 102) 12 c n4 w) [
                        | inl h ↦ is 102 12 h.0 h.1 form_feed
                        | inr w ↦
                            elim (cond_some (eqb x 110) 10 c n5 w) [
                              | inl h ↦ is 110 10 h.0 h.1 new_line
                              | inr w ↦
                                  elim (cond_some (eqb x 114) 13 c n6 w) [
                                    | inl h ↦ is 114 13 h.0 h.1 carriage_return
                                    | inr w ↦
                                        elim (cond_some (eqb x 116) 9 c n7 w) [
                                          | inl h ↦ is 116 9 h.0 h.1 horizontal_tab
                                          | inr w ↦
                                              elim (cond_some (eqb x 118) 11 c None w) [ inl h ↦ is 118 11 h.0 h.1 vertical_tab | inr w ↦ absurd (none_some c w) ]
                                        ]
                                  ]
                            ]
                      ]
                ]
          ]
    ]
  where
    is : (y z : ℕ) → eqb x y ≡ true → z ≡ c → Named y z → Named x c
    is y z t v n = subst₂ Named (sym (eqb-true x y t)) v n

escaped_sound : (x p : ℕ) (xs : List ℕ) (e : Ending) → WhereOk (λ d. EscapeRead (x ∷ []) xs d.left d.value) (escaped x p xs e)
escaped_sound x p xs e =
    let P : Done ℕ → Type 0 = λ d. EscapeRead (x ∷ []) xs d.left d.value in
    ok_cond (leb 48 x && leb x 55) (octal_escape_lem x p xs e) (whether (eqb x 85) utf16_escape_lem (or_refuse InvalidUtf8AsciiStream (named x)) p xs e) P
    (λ t. octal_sound x p xs e)
    (λ f. ok_cond (eqb x 85) (utf16_escape_lem p xs e) (or_refuse InvalidUtf8AsciiStream (named x) p xs e) P
    (λ t. ok_map (utf16_escape_lem p xs e) (λ d. EscapeRead (codes "U") xs d.left d.value) P (utf16_sound p xs e)
    (λ d h. record { bytes = h.bytes; splits = h.splits; escape = subst (λ y. Escape (y ∷ h.bytes) d.value) (sym (eqb-true x 85 t)) h.escape }))
    (λ g. ok_or_refuse InvalidUtf8AsciiStream (named x) p xs e P (λ c w. record { bytes = []; splits = refl; escape = Escape.named (named_sound x c w) })))

escape_sound : (p : ℕ) (xs : List ℕ) (e : Ending) → WhereOk (λ d. EscapeRead [] xs d.left d.value) (escape p xs e)
escape_sound p xs e =
    let P : Done ℕ → Type 0 = λ d. EscapeRead [] xs d.left d.value in
    byte_then p xs e escaped P
    (λ x ys q ex. ok_map (escaped x q ys e) (λ d. EscapeRead (x ∷ []) ys d.left d.value) P (escaped_sound x q ys e)
    (λ d h. record { bytes = x ∷ h.bytes; splits = ex ∙ ap (λ zs. x ∷ zs) h.splits; escape = h.escape }))

-- what a byte x, other than q, and the bytes behind it add to a text quoted by q
record Adds (q x : ℕ) (xs value left : List ℕ) : Type 0 where
  pub bytes : List ℕ
  pub splits : xs ≡ bytes ++ left
  pub adds : (body text : List ℕ) → Quoted q body text → Quoted q (x ∷ (bytes ++ body)) (value ++ text)

piece_sound : (q x p : ℕ) (xs : List ℕ) (e : Ending) → x ≢ q → WhereOk (λ d. Adds q x xs d.value d.left) (piece x p xs e)
piece_sound q x p xs e n =
    let P : Done (List ℕ) → Type 0 = λ d. Adds q x xs d.value d.left in
    ok_cond (eqb x 92) ((escape >>= λ c. pure (encode c)) p xs e) (pure (x ∷ []) p xs e) P
    (λ t. ok_onward (escape p xs e) (λ c. pure (encode c)) e (λ d. EscapeRead [] xs d.left d.value) P (escape_sound p xs e)
    (λ d h. record {
      bytes = h.bytes;
      splits = h.splits;
      adds = λ body text k. subst (λ y. Quoted q (y ∷ (h.bytes ++ body)) (encode d.value ++ text)) (sym (eqb-true x 92 t)) (Quoted.escape h.escape k);
    }))
    (λ f. record { bytes = []; splits = refl; adds = λ body text k. Quoted.byte n (eqb-false x 92 f) k })

record Extends (q x : ℕ) (bs xs value left : List ℕ) : Type 0 where
  pub more : List ℕ
  pub adds : Adds q x xs more left
  pub makes : value ≡ bs ++ more
  pub fits : length bs + length more ≤ 1024

extended_sound : (q x : ℕ) (bs : List ℕ) (p : ℕ) (xs : List ℕ) (e : Ending) → x ≢ q → WhereOk (λ d. Extends q x bs xs d.value d.left) (extended bs x p xs e)
extended_sound q x bs p xs e n =
    let P : Done (List ℕ) → Type 0 = λ d. Extends q x bs xs d.value d.left in
    ok_onward (piece x p xs e) (added bs) e (λ d. Adds q x xs d.value d.left) P (piece_sound q x p xs e n)
    (λ d h. ok_cond (leb (length bs + length d.value) text_bytes) (pure (bs ++ d.value) d.position d.left e) (refuse TextTooLong d.position d.left e) P
    (λ t. record { more = d.value; adds = h; makes = refl; fits = leb-true (length bs + length d.value) text_bytes t })
    (λ f. tt))

-- a text quoted by q, of which bs was made, and its closing quote
pub record Closed (q : ℕ) (bs xs value left : List ℕ) : Type 0 where
  pub body : List ℕ
  pub text : List ℕ
  pub splits : xs ≡ body ++ q ∷ left
  pub quoted : Quoted q body text
  pub makes : value ≡ bs ++ text
  pub fits : length bs + length text ≤ 1024

closed_on : (q x : ℕ) (bs xs ys value left value' left' : List ℕ) → xs ≡ x ∷ ys → Extends q x bs ys value left → Closed q value left value' left' → Closed q bs xs value' left'
closed_on q x bs xs ys value left value' left' w h k =
    let more = h.more in
    let bytes = h.adds.bytes in
    let a : length value ≡ length bs + length more = ap length h.makes ∙ length-append bs more in
    let b : length (more ++ k.text) ≡ length more + length k.text = length-append more k.text in
    let c : length value + length k.text ≤ 1024 = k.fits in
    record {
      body = x ∷ (bytes ++ k.body);
      text = more ++ k.text;
      splits = w ∙ ap (λ zs. x ∷ zs) (h.adds.splits ∙ ap (λ zs. bytes ++ zs) k.splits ∙ sym (append_assoc bytes k.body (q ∷ left')));
      quoted = h.adds.adds k.body k.text k.quoted;
      makes = k.makes ∙ ap (λ zs. zs ++ k.text) h.makes ∙ append_assoc bs more k.text;
      fits = omega arith;
    }

closed_sound : (n q : ℕ) (bs : List ℕ) (p : ℕ) (xs : List ℕ) (e : Ending) → length bs ≤ 1024 → WhereOk (λ d. Closed q bs xs d.value d.left) (quoted_within n q bs p xs e)
unfolding quoted_within
closed_sound zero q bs p xs e h = tt
closed_sound (suc n) q bs p xs e h =
    let P : Done (List ℕ) → Type 0 = λ d. Closed q bs xs d.value d.left in
    byte_then p xs e (quoted_behind (quoted_within n q) q bs) P
    (λ x ys r ex. ok_cond (eqb x q) (pure bs r ys e) ((extended bs x >>= quoted_within n q) r ys e) P
    (λ t. record { body = []; text = []; splits = ex ∙ ap (λ y. y ∷ ys) (eqb-true x q t); quoted = Quoted.nothing; makes = sym (append-nil bs); fits = omega arith })
    (λ f. ok_onward (extended bs x r ys e) (quoted_within n q) e (λ d. Extends q x bs ys d.value d.left) P (extended_sound q x bs r ys e (eqb-false x q f))
    (λ d k.
    let a : length d.value ≡ length bs + length k.more = ap length k.makes ∙ length-append bs k.more in
    let b : length bs + length k.more ≤ 1024 = k.fits in
    ok_map (quoted_within n q d.value d.position d.left e) (λ z. Closed q d.value d.left z.value z.left) P
    (closed_sound n q d.value d.position d.left e (omega arith))
    (λ z m. closed_on q x bs xs ys d.value d.left z.value z.left ex k m))))

pub quoted_from_sound : (q p : ℕ) (xs : List ℕ) (e : Ending) → WhereOk (λ d. Closed q [] xs d.value d.left) (quoted_from q [] p xs e)
unfolding quoted_from
quoted_from_sound q p xs e = closed_sound (suc (length xs)) q [] p xs e (omega arith)
