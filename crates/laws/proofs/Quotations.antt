-- Completeness for quoted texts: an escape of the format is read as its character, and a quoted text as its text.
use Rattle.std.proofs.Common.{◌≡◌, ℕ, ◌+◌, ◌-◌, ◌*◌, ◌<◌, ◌≤◌, Bool, true, false, cond, ◌&&◌, eqb, ltb, leb, ◌≢◌, List, [], ◌∷◌, ◌++◌, length, Some, None, codes, Option, sym, refl, ap, ◌∙◌, inl, inr, arith}
use Rattle.std.proofs.lemmas.List.{append_assoc, append-nil, length-append}
use Rattle.std.proofs.lemmas.Bool.{eq-eqb, ne_eqb, le-leb, or_left, or_right, and_parts, cases_Bool}
use Rattle.std.proofs.lemmas.Bool.Decides.{nat_tests}
use Rattle.text.specs.Digits.{digit_value, is_digit, all_digits, place_value, numeral}
use Rattle.text.specs.Nextstep.{nextstep}
use Rattle.text.specs.Utf16.{surrogate, high_surrogate, low_surrogate, decode}
use Rattle.text.specs.Utf8.{encode}
use Rattle.source.specs.Endings.{Ending}
use Rattle.stream.specs.declared.errors.Error.TheVariants.{TextTooLong, InvalidOctalString, InvalidUtf16String, InvalidUtf8AsciiStream}
use Rattle.laws.specs.Format.{OneOf, Named, CodeUnit, Escape, Quoted}
use Rattle.laws.specs.Format.Named.{backslash, double_quote, single_quote, alert, backspace, form_feed, new_line, carriage_return, horizontal_tab, vertical_tab}
use Rattle.reader.specs.Steps.{Run, pure, refuse, onward, ◌>>=◌, whether, or_refuse, limit, peek}
use Rattle.reader.specs.Texts.{text_bytes, added, named, octal_escape_lem, utf16_code_unit_lem, letter_u, second_opened, second_code_unit_lem, second_if, utf16_escape_lem, escaped, escape, extended, quoted_from, quoted_byte}
use Rattle.laws.proofs.Completeness.{done, Sure, sure_append, sure_byte, bind_on, at_position}
use Rattle.reader.proofs.Unfolding.{none_some, quoted_on, quoted_behind}

named_on : {x character : ℕ} → Named x character → (p : ℕ) (xs : List ℕ) (e : Ending) → escaped x p xs e ≡ done character p xs
named_on backslash p xs e = refl
named_on double_quote p xs e = refl
named_on single_quote p xs e = refl
named_on alert p xs e = refl
named_on backspace p xs e = refl
named_on form_feed p xs e = refl
named_on new_line p xs e = refl
named_on carriage_return p xs e = refl
named_on horizontal_tab p xs e = refl
named_on vertical_tab p xs e = refl

-- what a numeral with a value consists of
some_cond : (t : Bool) (n v : ℕ) → cond t (Some n) None ≡ Some v → t ≡ true
some_cond true n v e = refl
some_cond false n v e = absurd (none_some v e)

octal_first : (a b c n : ℕ) → numeral 8 (a ∷ b ∷ c ∷ []) ≡ Some n → (leb 48 a && leb a 55) ≡ true
octal_first a b c n w =
    let t : ltb (digit_value a) 8 ≡ true = (and_parts (is_digit 8 a) (all_digits 8 (b ∷ c ∷ [])) (some_cond (all_digits 8 (a ∷ b ∷ c ∷ [])) (place_value 8 (a ∷ b ∷ c ∷ [])) n w)).0 in
    grind (arith, nat_tests)

octal_on : (a b c n : ℕ) → numeral 8 (a ∷ b ∷ c ∷ []) ≡ Some n → (rest : List ℕ) (p : ℕ) (e : Ending) → Sure e rest → p + 2 ≤ limit
    → octal_escape_lem a p (b ∷ c ∷ rest) e ≡ done (nextstep n) (p + 1 + 1) rest
octal_on a b c n w rest p e s l =
    let end : Option ℕ → Run ℕ = λ o. or_refuse InvalidOctalString o >>= λ code. pure (nextstep code) in
    bind_on quoted_byte (λ y. quoted_byte >>= λ z. end (numeral 8 (a ∷ y ∷ z ∷ []))) p (b ∷ c ∷ rest) e b (p + 1) (c ∷ rest) (sure_byte p b (c ∷ rest) e (omega arith) (sure_append e (c ∷ []) rest s))
    ∙ bind_on quoted_byte (λ z. end (numeral 8 (a ∷ b ∷ z ∷ []))) (p + 1) (c ∷ rest) e c (p + 1 + 1) rest (sure_byte (p + 1) c rest e (omega arith) s)
    ∙ ap (λ o. end o (p + 1 + 1) rest e) w

-- lists of four
four : (P : List ℕ → Type 0) → ((a b c d : ℕ) → P (a ∷ b ∷ c ∷ d ∷ [])) → (ds : List ℕ) → length ds ≡ 4 → P ds
four P h [] w = let z : ⊥ = omega arith in absurd z
four P h (a ∷ []) w = let z : ⊥ = omega arith in absurd z
four P h (a ∷ b ∷ []) w = let z : ⊥ = omega arith in absurd z
four P h (a ∷ b ∷ c ∷ []) w = let z : ⊥ = omega arith in absurd z
four P h (a ∷ b ∷ c ∷ d ∷ []) w = h a b c d
four P h (a ∷ b ∷ c ∷ d ∷ x ∷ ds) w = let z : ⊥ = omega arith in absurd z

unit_on : (ds : List ℕ) (u : ℕ) → CodeUnit ds u → (rest : List ℕ) (p : ℕ) (e : Ending) → Sure e rest → p + 4 ≤ limit
    → utf16_code_unit_lem p (ds ++ rest) e ≡ done u (p + 4) rest
unit_on ds u unit rest p e s l =
    four (λ ds. numeral 16 ds ≡ Some u → utf16_code_unit_lem p (ds ++ rest) e ≡ done u (p + 4) rest)
    (λ a b c d w.
    let end : Option ℕ → Run ℕ = or_refuse InvalidUtf16String in
    bind_on quoted_byte (λ a. quoted_byte >>= λ b. quoted_byte >>= λ c. quoted_byte >>= λ d. end (numeral 16 (a ∷ b ∷ c ∷ d ∷ []))) p (a ∷ b ∷ c ∷ d ∷ rest) e a (p + 1) (b ∷ c ∷ d ∷ rest)
    (sure_byte p a (b ∷ c ∷ d ∷ rest) e (omega arith) (sure_append e (b ∷ c ∷ d ∷ []) rest s))
    ∙ bind_on quoted_byte (λ b. quoted_byte >>= λ c. quoted_byte >>= λ d. end (numeral 16 (a ∷ b ∷ c ∷ d ∷ []))) (p + 1) (b ∷ c ∷ d ∷ rest) e b (p + 1 + 1) (c ∷ d ∷ rest)
    (sure_byte (p + 1) b (c ∷ d ∷ rest) e (omega arith) (sure_append e (c ∷ d ∷ []) rest s))
    ∙ bind_on quoted_byte (λ c. quoted_byte >>= λ d. end (numeral 16 (a ∷ b ∷ c ∷ d ∷ []))) (p + 1 + 1) (c ∷ d ∷ rest) e c (p + 1 + 1 + 1) (d ∷ rest)
    (sure_byte (p + 1 + 1) c (d ∷ rest) e (omega arith) (sure_append e (d ∷ []) rest s))
    ∙ bind_on quoted_byte (λ d. end (numeral 16 (a ∷ b ∷ c ∷ d ∷ []))) (p + 1 + 1 + 1) (d ∷ rest) e d (p + 1 + 1 + 1 + 1) rest
    (sure_byte (p + 1 + 1 + 1) d rest e (omega arith) s)
    ∙ ap (λ o. end o (p + 1 + 1 + 1 + 1) rest e) w
    ∙ at_position u (p + 1 + 1 + 1 + 1) (p + 4) rest (omega arith))
    ds unit.four unit.written

-- a unit alone is no surrogate, and the first of two is one
lone_unit : (u c : ℕ) → decode u None ≡ Some c → surrogate u ≡ false
lone_unit u c w = elim (cases_Bool (surrogate u)) [ inl t ↦ absurd (none_some c (sym (ap (λ b. cond b None (Some u)) t) ∙ w)) | inr f ↦ f ]

first_unit : (u v c : ℕ) → decode u (Some v) ≡ Some c → surrogate u ≡ true
first_unit u v c w =
    let t : high_surrogate u ≡ true = (and_parts (high_surrogate u) (low_surrogate v) (some_cond (high_surrogate u && low_surrogate v) ((u - 0xD800) * 0x400 + (v - 0xDC00) + 0x10000) c w)).0 in
    grind (arith, nat_tests)

letter_is : (letter : ℕ) → OneOf (codes "uU") letter → letter_u (Some letter) ≡ true
letter_is letter (inl w) = or_left (eqb letter 117) (eqb letter 85) (eq-eqb letter 117 w)
letter_is letter (inr (inl w)) = or_right (eqb letter 117) (eqb letter 85) (eq-eqb letter 85 w)
letter_is letter (inr (inr o)) = absurd o

second_on : (letter : ℕ) (ds : List ℕ) (v : ℕ) → OneOf (codes "uU") letter → CodeUnit ds v → (rest : List ℕ) (p : ℕ) (e : Ending) → Sure e rest → p + 6 ≤ limit
    → second_code_unit_lem p (92 ∷ letter ∷ (ds ++ rest)) e ≡ done v (p + 6) rest
second_on letter ds v o unit rest p e s l =
    let ys = letter ∷ (ds ++ rest) in
    bind_on quoted_byte (λ x. peek >>= λ y. second_opened x y) p (92 ∷ ys) e 92 (p + 1) ys (sure_byte p 92 ys e (omega arith) (sure_append e (letter ∷ ds) rest s))
    ∙ ap (λ b. cond b ((quoted_byte >>= λ z. utf16_code_unit_lem) (p + 1) ys e) (refuse InvalidUtf16String (p + 1) ys e)) (letter_is letter o)
    ∙ bind_on quoted_byte (λ z. utf16_code_unit_lem) (p + 1) ys e letter (p + 1 + 1) (ds ++ rest) (sure_byte (p + 1) letter (ds ++ rest) e (omega arith) (sure_append e ds rest s))
    ∙ unit_on ds v unit rest (p + 1 + 1) e s (omega arith)
    ∙ at_position v (p + 1 + 1 + 4) (p + 6) rest (omega arith)

-- behind the first unit
abbrev behind_unit : ℕ → Run ℕ
behind_unit u = second_if (surrogate u) >>= λ second. or_refuse InvalidUtf16String (decode u second)

lone_on : (u c : ℕ) → decode u None ≡ Some c → (rest : List ℕ) (p : ℕ) (e : Ending) → behind_unit u p rest e ≡ done c p rest
lone_on u c w rest p e =
    ap (λ b. (second_if b >>= λ second. or_refuse InvalidUtf16String (decode u second)) p rest e) (lone_unit u c w)
    ∙ ap (λ o. or_refuse InvalidUtf16String o p rest e) w

pair_on : (u v c letter : ℕ) (ds : List ℕ) → decode u (Some v) ≡ Some c → OneOf (codes "uU") letter → CodeUnit ds v → (rest : List ℕ) (p : ℕ) (e : Ending) → Sure e rest → p + 6 ≤ limit
    → behind_unit u p (92 ∷ letter ∷ (ds ++ rest)) e ≡ done c (p + 6) rest
pair_on u v c letter ds w o unit rest p e s l =
    let last : Option ℕ → Run ℕ = λ second. or_refuse InvalidUtf16String (decode u second) in
    let xs = 92 ∷ letter ∷ (ds ++ rest) in
    ap (λ b. (second_if b >>= last) p xs e) (first_unit u v c w)
    ∙ ap (λ r. onward (onward r (λ unit. pure (Some unit)) e) last e) (second_on letter ds v o unit rest p e s l)
    ∙ ap (λ o. or_refuse InvalidUtf16String o (p + 6) rest e) w

-- an escape, behind its backslash
pub escape_on : {bytes : List ℕ} {c : ℕ} → Escape bytes c → (rest : List ℕ) (p q : ℕ) (e : Ending) → Sure e rest → q ≡ p + length bytes → q ≤ limit
    → escape p (bytes ++ rest) e ≡ done c q rest
escape_on (Escape.named {x} {character} n) rest p q e s w l =
    bind_on quoted_byte escaped p (x ∷ rest) e x (p + 1) rest (sure_byte p x rest e (omega arith) s)
    ∙ named_on n (p + 1) rest e
    ∙ at_position character (p + 1) q rest (omega arith)
escape_on (Escape.octal {a} {b} {c} {number} n) rest p q e s w l =
    let ys = b ∷ c ∷ rest in
    bind_on quoted_byte escaped p (a ∷ ys) e a (p + 1) ys (sure_byte p a ys e (omega arith) (sure_append e (b ∷ c ∷ []) rest s))
    ∙ ap (λ t. cond t (octal_escape_lem a (p + 1) ys e) (whether (eqb a 85) utf16_escape_lem (or_refuse InvalidUtf8AsciiStream (named a)) (p + 1) ys e)) (octal_first a b c number n)
    ∙ octal_on a b c number n rest (p + 1) e s (omega arith)
    ∙ at_position (nextstep number) (p + 1 + 1 + 1) q rest (omega arith)
escape_on (Escape.unit {digits = ds} {first = u} {character} cu d) rest p q e s w l =
    let k : length ds ≡ 4 = cu.four in
    bind_on quoted_byte escaped p (85 ∷ (ds ++ rest)) e 85 (p + 1) (ds ++ rest) (sure_byte p 85 (ds ++ rest) e (omega arith) (sure_append e ds rest s))
    ∙ bind_on utf16_code_unit_lem behind_unit (p + 1) (ds ++ rest) e u (p + 1 + 4) rest (unit_on ds u cu rest (p + 1) e s (omega arith))
    ∙ lone_on u character d rest (p + 1 + 4) e
    ∙ at_position character (p + 1 + 4) q rest (omega arith)
escape_on (Escape.pair {digits = ds} {digits' = es} {letter} {first = u} {second = v} {character} cu o cv d) rest p q e s w l =
    let k : length ds ≡ 4 = cu.four in
    let j : length es ≡ 4 = cv.four in
    let i : length (ds ++ (92 ∷ letter ∷ es)) ≡ length ds + length (92 ∷ letter ∷ es) = length-append ds (92 ∷ letter ∷ es) in
    let zs = 92 ∷ letter ∷ (es ++ rest) in
    let sure : Sure e zs = sure_append e (92 ∷ letter ∷ es) rest s in
    ap (λ ys. escape p (85 ∷ ys) e) (append_assoc ds (92 ∷ letter ∷ es) rest)
    ∙ bind_on quoted_byte escaped p (85 ∷ (ds ++ zs)) e 85 (p + 1) (ds ++ zs) (sure_byte p 85 (ds ++ zs) e (omega arith) (sure_append e ds zs sure))
    ∙ bind_on utf16_code_unit_lem behind_unit (p + 1) (ds ++ zs) e u (p + 1 + 4) zs (unit_on ds u cu zs (p + 1) e sure (omega arith))
    ∙ pair_on u v character letter es d o cv rest (p + 1 + 4) e s (omega arith)
    ∙ at_position character (p + 1 + 4 + 6) q rest (omega arith)

-- more of a text that is not too long
added_on : (bs cs : List ℕ) (p : ℕ) (xs : List ℕ) (e : Ending) → length bs + length cs ≤ 1024 → added bs cs p xs e ≡ done (bs ++ cs) p xs
added_on bs cs p xs e h = ap (λ b. cond b (pure (bs ++ cs) p xs e) (refuse TextTooLong p xs e)) (le-leb (length bs + length cs) text_bytes h)

-- a byte of a text that is not its last
other_byte : (q x : ℕ) (bs : List ℕ) (p : ℕ) (xs : List ℕ) (e : Ending) → x ≢ q → p < limit → Sure e xs
    → quoted_from q bs p (x ∷ xs) e ≡ (extended bs x >>= quoted_from q) (p + 1) xs e
other_byte q x bs p xs e n l s =
    quoted_on q bs p (x ∷ xs) e
    ∙ bind_on quoted_byte (quoted_behind (quoted_from q) q bs) p (x ∷ xs) e x (p + 1) xs (sure_byte p x xs e l s)
    ∙ ap (λ b. cond b (pure bs (p + 1) xs e) ((extended bs x >>= quoted_from q) (p + 1) xs e)) (ne_eqb x q n)

-- a quoted text, of which bs came before, up to its closing quote
pub quoted_text_on : {q : ℕ} {body text : List ℕ} → Quoted q body text → 92 ≢ q → (bs rest : List ℕ) (p r : ℕ) (e : Ending) → Sure e rest
    → r ≡ p + (length body + 1) → r ≤ limit → length bs + length text ≤ 1024 → quoted_from q bs p (body ++ q ∷ rest) e ≡ done (bs ++ text) r rest
quoted_text_on {q} Quoted.nothing n bs rest p r e s w l h =
    quoted_on q bs p (q ∷ rest) e
    ∙ bind_on quoted_byte (quoted_behind (quoted_from q) q bs) p (q ∷ rest) e q (p + 1) rest (sure_byte p q rest e (omega arith) s)
    ∙ ap (λ b. cond b (pure bs (p + 1) rest e) ((extended bs q >>= quoted_from q) (p + 1) rest e)) (eq-eqb q q refl)
    ∙ at_position bs (p + 1) r rest (omega arith)
    ∙ ap (λ cs. done cs r rest) (sym (append-nil bs))
quoted_text_on {q} (Quoted.byte {x} {body} {text} n' m k) n bs rest p r e s w l h =
    let ys = body ++ q ∷ rest in
    other_byte q x bs p ys e n' (omega arith) (sure_append e body (q ∷ rest) (sure_append e (q ∷ []) rest s))
    ∙ ap (λ b. onward (onward (cond b ((escape >>= λ c. pure (encode c)) (p + 1) ys e) (pure (x ∷ []) (p + 1) ys e)) (added bs) e) (quoted_from q) e) (ne_eqb x 92 m)
    ∙ ap (λ i. onward i (quoted_from q) e) (added_on bs (x ∷ []) (p + 1) ys e (omega arith))
    ∙ quoted_text_on k n (bs ++ x ∷ []) rest (p + 1) r e s (omega arith) l (omega (arith, length-append bs (x ∷ [])))
    ∙ ap (λ cs. done cs r rest) (append_assoc bs (x ∷ []) text)
quoted_text_on {q} (Quoted.escape {bytes} {body} {text} {character} x k) n bs rest p r e s w l h =
    let zs = body ++ q ∷ rest in
    let cs = encode character in
    let sure : Sure e zs = sure_append e body (q ∷ rest) (sure_append e (q ∷ []) rest s) in
    let j : length (bytes ++ body) ≡ length bytes + length body = length-append bytes body in
    let i : length (cs ++ text) ≡ length cs + length text = length-append cs text in
    ap (λ ys. quoted_from q bs p (92 ∷ ys) e) (append_assoc bytes body (q ∷ rest))
    ∙ other_byte q 92 bs p (bytes ++ zs) e n (omega arith) (sure_append e bytes zs sure)
    ∙ ap (λ t. onward (onward (onward t (λ c. pure (encode c)) e) (added bs) e) (quoted_from q) e) (escape_on x zs (p + 1) (p + 1 + length bytes) e sure refl (omega arith))
    ∙ ap (λ t. onward t (quoted_from q) e) (added_on bs cs (p + 1 + length bytes) zs e (omega arith))
    ∙ quoted_text_on k n (bs ++ cs) rest (p + 1 + length bytes) r e s (omega arith) l (omega (arith, length-append bs cs))
    ∙ ap (λ t. done t r rest) (append_assoc bs cs text)
