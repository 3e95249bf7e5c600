-- What the format says of bytes, the reading's runs make of them.
use Rattle.std.proofs.Common.{◌≡◌, ℕ, ◌+◌, ◌<◌, ◌≤◌, false, cond, eqb, leb, ◌≢◌, List, [], ◌∷◌, ◌++◌, length, Some, Ok, Err, codes, Result, sym, refl, ap, ◌∙◌, subst, inl, inr, arith}
use Rattle.std.proofs.lemmas.List.{append_assoc, append-nil, length-append}
use Rattle.std.proofs.lemmas.Bool.{eqb-true, eq-eqb, ne_eqb, lt-leb, cases_Bool}
use Rattle.source.specs.Endings.{Ending}
use Rattle.stream.specs.declared.errors.Error.{Error}
use Rattle.stream.specs.declared.errors.Error.TheVariants.{TooLong, TextTooLong}
use Rattle.reader.specs.Comments.{line_comment_lem, closes, state_after, in_comment}
use Rattle.laws.specs.Format.{OneOf, Each, Without, plain_ends, EndsPlain}
use Rattle.reader.specs.Steps.{Done, Run, pure, onward, ◌>>=◌, limit, step_gives, stepped, then}
use Rattle.reader.specs.Texts.{text_bytes, plain, present, quoted_byte}
use Rattle.reader.specs.declared.states.Comment.{Comment}
use Rattle.reader.specs.declared.states.Comment.TheVariants.{Plain, Star}
use Rattle.laws.proofs.Sets.{one_of_since, none_of, ends_plain_is}

-- a run that made a value
abbrev pub done : {A : Type 0} → A → ℕ → List ℕ → Result (Done A) Error
done a p xs = Ok (record { value = a; position = p; left = xs })

-- A step over the byte before these is sure to be made, but for the limit: it meets no fault.
abbrev pub Sure : Ending → List ℕ → Type 0
Sure (Ok u) xs = Unit {0}
Sure (Err f) [] = ⊥
Sure (Err f) (x ∷ xs) = Unit {0}

pub sure_append : (e : Ending) (xs ys : List ℕ) → Sure e ys → Sure e (xs ++ ys)
sure_append (Ok u) xs ys s = tt
sure_append (Err f) [] ys s = s
sure_append (Err f) (x ∷ xs) ys s = tt

pub sure_cons : (e : Ending) (x : ℕ) (xs : List ℕ) → Sure e (x ∷ xs)
sure_cons (Ok u) x xs = tt
sure_cons (Err f) x xs = tt

pub sure_step : (p x : ℕ) (xs : List ℕ) (e : Ending) → p < limit → Sure e xs → step_gives p (x ∷ xs) e ≡ Ok (Some x)
sure_step p x [] (Ok u) l s = ap (λ b. cond b (Err (TooLong p)) (Ok (Some x))) (lt-leb limit p l)
sure_step p x [] (Err f) l s = absurd s
sure_step p x (y ∷ ys) e l s = ap (λ b. cond b (Err (TooLong p)) (Ok (Some x))) (lt-leb limit p l)

pub sure_byte : (p x : ℕ) (xs : List ℕ) (e : Ending) → p < limit → Sure e xs → quoted_byte p (x ∷ xs) e ≡ done x (p + 1) xs
sure_byte p x xs e l s = ap (λ r. onward (stepped r p (x ∷ xs) e) present e) (sure_step p x xs e l s)

-- on from where a run ended
pub bind_on : {A B : Type 0} (run : Run A) (next : A → Run B) (p : ℕ) (xs : List ℕ) (e : Ending) (a : A) (q : ℕ) (ys : List ℕ)
    → run p xs e ≡ done a q ys → (run >>= next) p xs e ≡ next a q ys e
bind_on run next p xs e a q ys w = ap (λ r. onward r next e) w

pub at_position : {A : Type 0} (a : A) (p q : ℕ) (xs : List ℕ) → p ≡ q → done a p xs ≡ done a q xs
at_position a p q xs w = ap (λ i. done a i xs) w

-- what may follow a line comment
abbrev pub EndsLine : List ℕ → Type 0
EndsLine [] = Unit {0}
EndsLine (x ∷ xs) = x ≡ 10

pub line_on : (body rest : List ℕ) (p q : ℕ) (e : Ending) → Each (λ x. x ≢ 10) body → EndsLine rest → Sure e rest → q ≡ p + length body → q ≤ limit
    → line_comment_lem p (body ++ rest) e ≡ done tt q rest
line_on [] [] p q e each ends s w l = at_position tt p q [] (omega arith)
line_on [] (x ∷ xs) p q e each ends s w l =
    ap (λ b. cond b (pure tt p (x ∷ xs) e) (then (step_gives p (x ∷ xs) e) (line_comment_lem (p + 1) xs e))) (eq-eqb x 10 ends)
    ∙ at_position tt p q (x ∷ xs) (omega arith)
line_on (x ∷ body) rest p q e each ends s w l =
    let ys = body ++ rest in
    ap (λ b. cond b (pure tt p (x ∷ ys) e) (then (step_gives p (x ∷ ys) e) (line_comment_lem (p + 1) ys e))) (ne_eqb x 10 each.0)
    ∙ ap (λ r. then r (line_comment_lem (p + 1) ys e)) (sure_step p x ys e (omega arith) (sure_append e body rest s))
    ∙ line_on body rest (p + 1) q e each.1 ends s (omega arith) l

-- a `*` just taken
abbrev pub star : Comment → List ℕ
star Plain = []
star Star = 42 ∷ []

pub without_behind : (word xs ys : List ℕ) → Without word (xs ++ ys) → Without word ys
without_behind word xs ys w before behind e = w (xs ++ before) behind (ap (λ zs. xs ++ zs) e ∙ sym (append_assoc xs before (word ++ behind)))

not_closing : (s : Comment) (x : ℕ) (body : List ℕ) → Without (codes "*/") (star s ++ (x ∷ body)) → closes s x ≡ false
not_closing Plain x body w = refl
not_closing Star x body w = ne_eqb x 47 (λ e. w [] body (ap (λ y. 42 ∷ y ∷ body) e))

pub comment_on : (s : Comment) (body rest : List ℕ) (p q : ℕ) (e : Ending) → Without (codes "*/") (star s ++ body) → Sure e rest → q ≡ p + (length body + 2) → q ≤ limit
    → in_comment s p (body ++ (codes "*/" ++ rest)) e ≡ done tt q rest
comment_on Plain [] rest p q e w s v l =
    ap (λ r. then r (in_comment Star (p + 1) (47 ∷ rest) e)) (sure_step p 42 (47 ∷ rest) e (omega arith) (sure_append e (47 ∷ []) rest s))
    ∙ ap (λ r. then r (done tt (p + 1 + 1) rest)) (sure_step (p + 1) 47 rest e (omega arith) s) ∙ at_position tt (p + 1 + 1) q rest (omega arith)
comment_on Star [] rest p q e w s v l =
    ap (λ r. then r (in_comment Star (p + 1) (47 ∷ rest) e)) (sure_step p 42 (47 ∷ rest) e (omega arith) (sure_append e (47 ∷ []) rest s))
    ∙ ap (λ r. then r (done tt (p + 1 + 1) rest)) (sure_step (p + 1) 47 rest e (omega arith) s) ∙ at_position tt (p + 1 + 1) q rest (omega arith)
comment_on c (x ∷ body) rest p q e w s v l =
    let ys = body ++ (codes "*/" ++ rest) in
    let behind : Without (codes "*/") (x ∷ body) = without_behind (codes "*/") (star c) (x ∷ body) w in
    ap (λ r. then r (cond (closes c x) (pure tt (p + 1) ys e) (in_comment (state_after x) (p + 1) ys e))) (sure_step p x ys e (omega arith) (sure_append e body (codes "*/" ++ rest) (sure_append e (codes "*/") rest s)))
    ∙ ap (λ b. cond b (pure tt (p + 1) ys e) (in_comment (state_after x) (p + 1) ys e)) (not_closing c x body w)
    ∙ elim (cases_Bool (eqb x 42)) [
      | inl t ↦ ap (λ b. in_comment (cond b Star Plain) (p + 1) ys e) t ∙ comment_on Star body rest (p + 1) q e (subst (λ y. Without (codes "*/") (y ∷ body)) (eqb-true x 42 t) behind) s (omega arith) l
      | inr f ↦ ap (λ b. in_comment (cond b Star Plain) (p + 1) ys e) f ∙ comment_on Plain body rest (p + 1) q e (without_behind (codes "*/") (x ∷ []) body behind) s (omega arith) l
    ]

pub plain_on : (bs others rest : List ℕ) (p q : ℕ) (e : Ending) → Each (λ x. OneOf plain_ends x → ⊥) others → EndsPlain rest → Sure e rest
    → q ≡ p + length others → q ≤ limit → length bs + length others ≤ 1024 → plain bs p (others ++ rest) e ≡ done (bs ++ others) q rest
plain_on bs [] [] p q e each ends s w l h = at_position bs p q [] (omega arith) ∙ ap (λ cs. done cs q []) (sym (append-nil bs))
plain_on bs [] (x ∷ xs) p q e each ends s w l h =
    ap (λ b. cond b (pure bs p (x ∷ xs) e) (then (step_gives p (x ∷ xs) e) (cond (leb text_bytes (length bs)) (Err (TextTooLong (p + 1))) (plain (bs ++ x ∷ []) (p + 1) xs e)))) (sym (ends_plain_is x) ∙ one_of_since plain_ends x ends)
    ∙ at_position bs p q (x ∷ xs) (omega arith) ∙ ap (λ cs. done cs q (x ∷ xs)) (sym (append-nil bs))
plain_on bs (x ∷ others) rest p q e each ends s w l h =
    let ys = others ++ rest in
    let on = plain (bs ++ x ∷ []) (p + 1) ys e in
    ap (λ b. cond b (pure bs p (x ∷ ys) e) (then (step_gives p (x ∷ ys) e) (cond (leb text_bytes (length bs)) (Err (TextTooLong (p + 1))) on))) (sym (ends_plain_is x) ∙ none_of plain_ends x each.0)
    ∙ ap (λ r. then r (cond (leb text_bytes (length bs)) (Err (TextTooLong (p + 1))) on)) (sure_step p x ys e (omega arith) (sure_append e others rest s))
    ∙ ap (λ b. cond b (Err (TextTooLong (p + 1))) on) (lt-leb text_bytes (length bs) (omega arith))
    ∙ plain_on (bs ++ x ∷ []) others rest (p + 1) q e each.1 ends s (omega arith) l (omega (arith, length-append bs (x ∷ [])))
    ∙ ap (λ cs. done cs q rest) (append_assoc bs (x ∷ []) others)
