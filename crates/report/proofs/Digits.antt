-- Hexadecimal digits, written and read.
use Rattle.std.proofs.Common.{◌≡◌, ℕ, ◌+◌, ◌-◌, ◌*◌, ◌/◌, ◌%◌, ◌<◌, ◌≤◌, zero, suc, List, [], ◌∷◌, ◌++◌, length, get_or, set, length-set, take, drop, Some, None, Option, sym, refl, ap, ◌∙◌, append_assoc, arith}
use Rattle.std.proofs.lemmas.List.{take_all, take_more, take_more_set}
use Rattle.std.proofs.lemmas.Grind.{take-set_at}
use Rattle.std.proofs.lemmas.Slice.{between_to_end}
use Rattle.std.proofs.lemmas.Bool.Decides.{nat_tests}
use Rattle.std.specs.Str.{IsAscii}
use Rattle.std.specs.Option.{option_map}
use Rattle.text.specs.Digits.{digit_of}
use Rattle.report.specs.Hex.{hex_digit, hex, byte_of, before, from_hex, ReadsBack}

-- the digits of more bytes
pub hex-append : (xs ys : List ℕ) → hex (xs ++ ys) ≡ hex xs ++ hex ys
hex-append [] ys = refl
hex-append (b ∷ bs) ys = ap (λ (zs : List ℕ). hex_digit (b / 16) ∷ hex_digit (b % 16) ∷ zs) (hex-append bs ys)

-- one byte more: its two digits are written behind those of the bytes before
pub two_more : (block bytes : List ℕ) (i high low : ℕ) → 2 * i + 1 < length block → i < length bytes → take (2 * i) block ≡ hex (take i bytes) →
    high ≡ hex_digit (get_or bytes i 0 / 16) → low ≡ hex_digit (get_or bytes i 0 % 16) → take (2 * (i + 1)) (set (set block (2 * i) high) (2 * i + 1) low) ≡ hex (take (i + 1) bytes)
two_more block bytes i high low room inside before is_high is_low =
    let more = take_more bytes i 0 inside in
    let split = hex-append (take i bytes) (get_or bytes i 0 ∷ []) in
    let one = take_more_set block (2 * i) high (omega arith) in
    let two = take-set_at (set block (2 * i) high) (2 * i + 1) (2 * (i + 1)) low (omega arith) (omega (arith, length-set block (2 * i) high)) in
    let whole = append_assoc (take (2 * i) block) (high ∷ []) (low ∷ []) in
    cc

-- all are written
pub all_written : (block bytes : List ℕ) (i : ℕ) → length bytes ≤ i → i ≤ length bytes → take (2 * i) block ≡ hex (take i bytes) → take (2 * length bytes) block ≡ hex bytes
all_written block bytes i over within before =
    let last : i ≡ length bytes = omega arith in
    let whole = take_all i bytes over in
    cc

digit_ascii : (n : ℕ) → n < 16 → hex_digit n < 128
digit_ascii n h = grind (arith, nat_tests)

-- digits are ASCII
pub hex_ascii : (bs : List ℕ) → ((k : ℕ) → get_or bs k 0 < 256) → IsAscii (hex bs)
hex_ascii [] fit i = omega arith
hex_ascii (b ∷ bs) fit zero = let byte : b < 256 = fit 0 in digit_ascii (b / 16) (omega arith)
hex_ascii (b ∷ bs) fit (suc zero) = digit_ascii (b % 16) (omega arith)
hex_ascii (b ∷ bs) fit (suc (suc i)) = hex_ascii bs (λ k. fit (suc k)) i

digit_back : (n : ℕ) → n < 16 → digit_of 16 (hex_digit n) ≡ Some n
digit_back n h = grind (arith, nat_tests)

byte_back : (b : ℕ) → b < 256 → byte_of (digit_of 16 (hex_digit (b / 16))) (digit_of 16 (hex_digit (b % 16))) ≡ Some b
byte_back b h =
    let high : b / 16 < 16 = omega arith in
    let low : b % 16 < 16 = omega arith in
    let whole : b / 16 * 16 + b % 16 ≡ b = omega arith in
    ap (λ (o : Option ℕ). byte_of o (digit_of 16 (hex_digit (b % 16)))) (digit_back (b / 16) high)
    ∙ (ap (λ (o : Option ℕ). byte_of (Some (b / 16)) o) (digit_back (b % 16) low) ∙ ap (λ (x : ℕ). Some x) whole)

pub reads_back : ReadsBack
reads_back [] fit = refl
reads_back (b ∷ bs) fit =
    ap (λ (o : Option ℕ). before o (from_hex (hex bs))) (byte_back b fit.0)
    ∙ ap (λ (o : Option (List ℕ)). before (Some b) o) (reads_back bs fit.1)

-- a byte more before what is read
one_more : (xs ys : List ℕ) (b : ℕ) (o : Option (List ℕ)) → ys ≡ xs ++ b ∷ [] → option_map (λ zs. ys ++ zs) o ≡ option_map (λ zs. xs ++ zs) (before (Some b) o)
one_more xs ys b None is = refl
one_more xs ys b (Some bs) is = ap (λ (zs : List ℕ). Some (zs ++ bs)) is ∙ ap (λ (zs : List ℕ). Some zs) (append_assoc xs (b ∷ []) bs)

-- a text with two digits at its front
two_first : (xs : List ℕ) → 2 ≤ length xs → from_hex xs ≡ before (byte_of (digit_of 16 (get_or xs 0 0)) (digit_of 16 (get_or xs 1 0))) (from_hex (drop 2 xs))
two_first [] h = absurd (omega arith)
two_first (a ∷ []) h = absurd (omega arith)
two_first (a ∷ (b ∷ text)) h = refl

-- one byte more is read of the text: `bytes` were, and `rest` is left
pub one_read : (bytes more rest : List ℕ) (b : ℕ) {all : Option (List ℕ)} → 2 ≤ length rest → Some b ≡ byte_of (digit_of 16 (get_or rest 0 0)) (digit_of 16 (get_or rest 1 0)) → more ≡ bytes ++ b ∷ [] →
    option_map (λ bs. bytes ++ bs) (from_hex rest) ≡ all → option_map (λ bs. more ++ bs) (from_hex (take (length rest - 2) (drop 2 rest))) ≡ all
one_read bytes more rest b two is pushed inv =
    let left = drop 2 rest in
    let whole : take (length rest - 2) left ≡ left = between_to_end rest 2 (length rest) (omega arith) in
    ap (λ (xs : List ℕ). option_map (λ bs. more ++ bs) (from_hex xs)) whole
    ∙ (one_more bytes more b (from_hex left) pushed
    ∙ (ap (λ (o : Option ℕ). option_map (λ bs. bytes ++ bs) (before o (from_hex left))) is
    ∙ (ap (λ (o : Option (List ℕ)). option_map (λ bs. bytes ++ bs) o) (sym (two_first rest two)) ∙ inv)))
