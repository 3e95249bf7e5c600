-- The syntax of UTF-8 describes the encodings of scalar values, and the standard library's predicate says the same.
use Rattle.std.proofs.Common.{◌≡◌, ℕ, suc, ◌+◌, ◌-◌, ◌*◌, ◌/◌, ◌<◌, ◌≤◌, true, ◌&&◌, ltb, leb, ◌⊎◌, List, [], ◌∷◌, ◌++◌, IsUtf8 as StdUtf8, sym, refl, ◌∙◌, subst, inl, inr, arith}
use lib.Utf8 as Std
use Rattle.std.proofs.lemmas.Bool.{le-leb, lt-leb, and_parts, and_from}
use Rattle.std.proofs.lemmas.Bool.Decides.{nat_tests}
use Rattle.text.proofs.Grammar.{inside_parts, append_from, syntax_from, test_from}
use Rattle.text.specs.Utf8.{utf8, tail, inside, utf8_char, none, more, OfTable, here, there, Utf8, empty, then, scalar, scalars, low_six_lem, encode, encodes, EncodesSome, BothWays}

-- scalar values by their numbers
abbrev Scalar : ℕ → Type 0
Scalar c = (c ≤ 0xD7FF) ⊎ ((0xE000 ≤ c) × (c ≤ 0x10FFFF))

scalar_from : (c : ℕ) → Scalar c → scalar c ≡ true
scalar_from c h = grind (arith, nat_tests)

-- the rows of the table of encodings
pub encode_1 : (c : ℕ) → c ≤ 0x7F → encode c ≡ c ∷ []
unfolding encode
encode_1 c h = rw (le-leb c 0x7F h)

pub encode_2 : (c : ℕ) → 0x80 ≤ c → c ≤ 0x7FF → encode c ≡ (192 + c / 64) ∷ low_six_lem c ∷ []
unfolding encode
encode_2 c l h = rw (lt-leb c 0x7F l, le-leb c 0x7FF h)

pub encode_3 : (c : ℕ) → 0x800 ≤ c → c ≤ 0xFFFF → encode c ≡ (224 + c / 4096) ∷ low_six_lem (c / 64) ∷ low_six_lem c ∷ []
unfolding encode
encode_3 c l h = rw (lt-leb c 0x7F (omega arith), lt-leb c 0x7FF l, le-leb c 0xFFFF h)

pub encode_4 : (c : ℕ) → 0x10000 ≤ c → encode c ≡ (240 + c / 262144) ∷ low_six_lem (c / 4096) ∷ low_six_lem (c / 64) ∷ low_six_lem c ∷ []
unfolding encode
encode_4 c l = rw (lt-leb c 0x7F (omega arith), lt-leb c 0x7FF (omega arith), lt-leb c 0xFFFF l)

-- From the syntax to scalar values: each row of bytes is the encoding of one.

record Encoded (bs : List ℕ) : Type 0 where
  value : ℕ
  is_scalar : scalar value ≡ true
  is : encode value ≡ bs

Tail : ℕ → Type 0
Tail b = (0x80 ≤ b) × (b ≤ 0xBF)

one : (a : ℕ) → a ≤ 0x7F → Encoded (a ∷ [])
one a h = record { value = a; is_scalar = scalar_from a (inl (omega arith)); is = encode_1 a h }

two : (a b : ℕ) → (0xC2 ≤ a) × (a ≤ 0xDF) → Tail b → Encoded (a ∷ b ∷ [])
unfolding Tail
two a b h t =
    let c = (a - 192) * 64 + (b - 128) in
    let p : 192 + c / 64 ≡ a = omega arith in
    let q : low_six_lem c ≡ b = omega arith in
    record { value = c; is_scalar = scalar_from c (inl (omega arith)); is = encode_2 c (omega arith) (omega arith) ∙ (λ k. p k ∷ q k ∷ []) }

three : (a b d : ℕ) → (0xE0 ≤ a) × (a ≤ 0xEF) → Tail b → Tail d
    → let c = (a - 224) * 4096 + (b - 128) * 64 + (d - 128) in 0x800 ≤ c → Scalar c → Encoded (a ∷ b ∷ d ∷ [])
unfolding Tail
three a b d h t u low s =
    let c = (a - 224) * 4096 + (b - 128) * 64 + (d - 128) in
    let p : 224 + c / 4096 ≡ a = omega arith in
    let q : low_six_lem (c / 64) ≡ b = omega arith in
    let r : low_six_lem c ≡ d = omega arith in
    record { value = c; is_scalar = scalar_from c s; is = encode_3 c low (omega arith) ∙ (λ k. p k ∷ q k ∷ r k ∷ []) }

four : (a b d e : ℕ) → (0xF0 ≤ a) × (a ≤ 0xF4) → Tail b → Tail d → Tail e
    → let high = (a - 240) * 64 + (b - 128) in 16 ≤ high → high < 272 → Encoded (a ∷ b ∷ d ∷ e ∷ [])
unfolding Tail
four a b d e h t u v low up =
    let c = (a - 240) * 262144 + (b - 128) * 4096 + (d - 128) * 64 + (e - 128) in
    let p : 240 + c / 262144 ≡ a = omega arith in
    let q : low_six_lem (c / 4096) ≡ b = omega arith in
    let m : c / 64 ≡ (a - 240) * 4096 + (b - 128) * 64 + (d - 128) = omega arith in
    let r : low_six_lem (c / 64) ≡ d = subst (λ (x : ℕ). low_six_lem x ≡ d) (sym m) (omega arith) in
    let s : low_six_lem c ≡ e = omega arith in
    record { value = c; is_scalar = scalar_from c (inr (omega arith, omega arith)); is = encode_4 c (omega arith) ∙ (λ k. p k ∷ q k ∷ r k ∷ s k ∷ []) }

tail_parts : (b : ℕ) → inside tail b ≡ true → Tail b
unfolding Tail
tail_parts b i = inside_parts 0x80 0xBF b i

encoded : {bs : List ℕ} → OfTable utf8_char bs → Encoded bs
unfolding Tail
encoded (here (more {b = a} i none)) =
    one a (inside_parts 0x00 0x7F a i).1
encoded (there (here (more {b = a} i (more {b = b} j none)))) =
    two a b (inside_parts 0xC2 0xDF a i) (tail_parts b j)
encoded (there (there (here (more {b = a} i (more {b = b} j (more {b = d} k none)))))) =
    let p = inside_parts 0xE0 0xE0 a i in
    let q = inside_parts 0xA0 0xBF b j in
    let r = inside_parts 0x80 0xBF d k in
    three a b d (omega arith) (omega arith) r (omega arith) (inl (omega arith))
encoded (there (there (there (here (more {b = a} i (more {b = b} j (more {b = d} k none))))))) =
    let p = inside_parts 0xE1 0xEC a i in
    let q = inside_parts 0x80 0xBF b j in
    let r = inside_parts 0x80 0xBF d k in
    three a b d (omega arith) (omega arith) r (omega arith) (inl (omega arith))
encoded (there (there (there (there (here (more {b = a} i (more {b = b} j (more {b = d} k none)))))))) =
    let p = inside_parts 0xED 0xED a i in
    let q = inside_parts 0x80 0x9F b j in
    let r = inside_parts 0x80 0xBF d k in
    three a b d (omega arith) (omega arith) r (omega arith) (inl (omega arith))
encoded (there (there (there (there (there (here (more {b = a} i (more {b = b} j (more {b = d} k none))))))))) =
    let p = inside_parts 0xEE 0xEF a i in
    let q = inside_parts 0x80 0xBF b j in
    let r = inside_parts 0x80 0xBF d k in
    three a b d (omega arith) (omega arith) r (omega arith) (inr (omega arith, omega arith))
encoded (there (there (there (there (there (there (here (more {b = a} i (more {b = b} j (more {b = d} k (more {b = e} l none))))))))))) =
    let p = inside_parts 0xF0 0xF0 a i in
    let q = inside_parts 0x90 0xBF b j in
    four a b d e (omega arith) (omega arith) (tail_parts d k) (tail_parts e l) (omega arith) (omega arith)
encoded (there (there (there (there (there (there (there (here (more {b = a} i (more {b = b} j (more {b = d} k (more {b = e} l none)))))))))))) =
    let p = inside_parts 0xF1 0xF3 a i in
    let q = inside_parts 0x80 0xBF b j in
    four a b d e (omega arith) (omega arith) (tail_parts d k) (tail_parts e l) (omega arith) (omega arith)
encoded (there (there (there (there (there (there (there (there (here (more {b = a} i (more {b = b} j (more {b = d} k (more {b = e} l none))))))))))))) =
    let p = inside_parts 0xF4 0xF4 a i in
    let q = inside_parts 0x80 0x8F b j in
    four a b d e (omega arith) (omega arith) (tail_parts d k) (tail_parts e l) (omega arith) (omega arith)
encoded (there (there (there (there (there (there (there (there (there w))))))))) = elim w [ ]

-- From scalar values to the test, and so to the syntax.

pub utf8_encode : (c : ℕ) → scalar c ≡ true → utf8 (encode c) ≡ true
unfolding utf8 encode
utf8_encode c s = grind (arith, nat_tests)

utf8_encodes : (cs : List ℕ) → scalars cs ≡ true → utf8 (encodes cs) ≡ true
utf8_encodes [] s = test_from [] empty
utf8_encodes (c ∷ cs) s =
    let p = and_parts (scalar c) (scalars cs) s in
    append_from (encode c) (encodes cs) (syntax_from (encode c) (utf8_encode c p.0)) ∙ utf8_encodes cs p.1

-- The two ways of saying it.

utf8_one : (c bs rest : List ℕ) → OfTable utf8_char c → Utf8 rest → bs ≡ c ++ rest → EncodesSome rest → EncodesSome bs
utf8_one c bs rest w u e m =
    let v = encoded w in
    (v.value ∷ m.0, and_from (scalar v.value) (scalars m.0) v.is_scalar m.1, (λ k. v.is k ++ m.2 k) ∙ sym e)

pub encodes_from : {bs : List ℕ} → Utf8 bs → EncodesSome bs
encodes_from empty = ([], refl, refl)
encodes_from {bs} (then {c} {rest} w u e) = utf8_one c bs rest w u e (encodes_from u)

pub encoding_agrees : (bs : List ℕ) → BothWays (Utf8 bs) (EncodesSome bs)
encoding_agrees bs = (encodes_from, λ m. subst Utf8 m.2 (syntax_from (encodes m.0) (utf8_encodes m.0 m.1)))

-- The standard library's definitions, which differ from these in how a bound is written.

bound : (a b : ℕ) → ltb a (suc b) ≡ leb a b
bound a b = grind (arith, nat_tests)

pub scalar_same : (c : ℕ) → Std.scalar c ≡ scalar c
scalar_same c = grind (arith, nat_tests)

pub encode_same : (c : ℕ) → Std.encode c ≡ encode c
unfolding encode Std.encode
encode_same c = rw (bound c 0x7F, bound c 0x7FF, bound c 0xFFFF)

scalars_same : (cs : List ℕ) → Std.scalars cs ≡ scalars cs
scalars_same [] = refl
scalars_same (c ∷ cs) = λ k. scalar_same c k && scalars_same cs k

encodes_same : (cs : List ℕ) → Std.encodes cs ≡ encodes cs
encodes_same [] = refl
encodes_same (c ∷ cs) = λ k. encode_same c k ++ encodes_same cs k

pub library_agrees : (bs : List ℕ) → BothWays (Utf8 bs) (StdUtf8 bs)
library_agrees bs = (
  λ u. let m = encodes_from u in (m.0, (scalars_same m.0 ∙ m.1, encodes_same m.0 ∙ m.2)),
  λ m. (encoding_agrees bs).1 (m.0, sym (scalars_same m.0) ∙ m.1.0, sym (encodes_same m.0) ∙ m.1.1),
)
