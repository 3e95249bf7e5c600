-- The encoding of a scalar value, written into a list of bytes.
use Rattle.std.proofs.Common.{◌≡◌, ℕ, ◌+◌, ◌-◌, ◌<◌, ◌≤◌, true, List, [], ◌∷◌, ◌++◌, length, set, take, drop, sym, ap, ◌∙◌, add-one, arith}
use borrow.Rule.Slice.PartMut.{put_mid}
use Rattle.std.proofs.lemmas.Bool.Decides.{nat_tests}
use Rattle.std.proofs.lemmas.List.{drop-drop, set_split}
use Rattle.text.specs.Utf8.{scalar, encode, EncodedAt}

ascii : (c : ℕ) → c < 128 → (scalar c ≡ true) × (encode c ≡ c ∷ [])
unfolding encode
ascii c h = grind (arith, nat_tests)

-- a character of ASCII has no room, or is written by one byte
pub ascii_full : (c start : ℕ) (out : List ℕ) → c < 128 → length out ≤ start → start + length (encode c) ≤ length out → ⊥
ascii_full c start out h over fits = let one = (ascii c h).1 in omega (arith, ap length one)

pub ascii_written : (c start : ℕ) (out : List ℕ) → c < 128 → start < length out → EncodedAt c start (start + 1) out (set out start c)
ascii_written c start out h room =
    let one = ascii c h in
    record {
      valid = one.0;
      ends = ap (λ (bs : List ℕ). start + length bs) (sym one.1);
      room = omega arith;
      bytes = rw (one.1, add-one) (set_split out start c room);
    }

pub written : (c start end : ℕ) (out bytes : List ℕ) → scalar c ≡ true → bytes ≡ encode c → end ≡ start + length bytes → end ≤ length out
    → EncodedAt c start end out (put_mid start (end - start) out bytes)
written c start end out bytes s e d r =
    let back : drop (end - start) (drop start out) ≡ drop end out = drop-drop (end - start) start out ∙ ap (λ (m : ℕ). drop m out) (omega (arith, d)) in
    record { valid = s; ends = d ∙ ap (λ (bs : List ℕ). start + length bs) e; room = r; bytes = λ i. take start out ++ (e i ++ back i) }
