-- Texts that grow at the front of the array.
use Rattle.std.proofs.Common.{◌≡◌, ℕ, ◌+◌, ◌<◌, ◌≤◌, true, false, leb, List, ◌++◌, length, take, drop, Some, None, Ok, Err, Option, Result, sym, ap, ◌∙◌, subst, append_assoc, arith, length-append}
use Rattle.std.specs.Option.{ok_or}
use Rattle.std.proofs.lemmas.List.{length-take, length-take-le, take_at}
use Rattle.std.proofs.lemmas.Bool.{le-leb, lt-leb}
use Rattle.text.specs.Utf8.{scalar, encode, EncodedAt, Written}
use Rattle.text.proofs.Texts.{length_encode}
use Rattle.stream.specs.declared.errors.Error.{Error}
use Rattle.stream.specs.declared.errors.Error.TheVariants.{TextTooLong}
use Rattle.reader.specs.States.{Seen, Ran, text_at}
use Rattle.reader.specs.Texts.{added, escape, piece, extended}
use Rattle.reader.proofs.Chains.{stays, ran_then, ran_made}

-- a character that was encoded behind the text of n bytes
encoded_text : (n end c : ℕ) (s out : List ℕ) → EncodedAt c n end s out → take end out ≡ take n s ++ encode c
encoded_text n end c s out at =
    let within = at.room in
    let last = at.ends in
    let long : length (take n s ++ encode c) ≡ end = omega (arith, length-append (take n s) (encode c), length-take-le n s (omega arith)) in
    ap (λ (xs : List ℕ). take end xs) (at.bytes ∙ sym (append_assoc (take n s) (encode c) (drop end s))) ∙ take_at (take n s ++ encode c) (drop end s) end long

module _ (bs : List ℕ) (u : Seen) where
  pub ran_added : (cs : List ℕ) → length bs + length cs ≤ 1024 → Ran (added bs cs) u (Ok (bs ++ cs)) u
  ran_added cs fits = let t : leb (length bs + length cs) 1024 ≡ true = le-leb (length bs + length cs) 1024 fits in (rw t, stays u)

  pub ran_too_long : (cs : List ℕ) → 1024 < length bs + length cs → Ran (added bs cs) u (Err (TextTooLong u.position)) u
  ran_too_long cs long = let t : leb (length bs + length cs) 1024 ≡ false = lt-leb (length bs + length cs) 1024 long in rw t

-- a backslash, and the character of its escape
ran_escape : (bs : List ℕ) (c : ℕ) (u v : Seen) (r : Result (List ℕ) Error) → Ran escape u (Ok c) v → Ran (added bs (encode c)) v r v → Ran (extended bs 92) u r v
ran_escape bs c u v r first later = ran_then (piece 92) (added bs) u v v (encode c) r (ran_made escape encode u v c first) later

pub ran_encoded : (n c : ℕ) (u v : Seen) (s out : List ℕ) (o : Option ℕ) → length s ≡ 1024 → scalar c ≡ true → Ran escape u (Ok c) v → Written c n s o out
    → Ran (extended (take n s) 92) u (text_at (ok_or o (TextTooLong v.position)) out) v
ran_encoded n c u v s out (Some end) all valid first at =
    let within = at.room in
    let last = at.ends in
    subst (λ (bs : List ℕ). Ran (extended (take n s) 92) u (Ok bs) v) (sym (encoded_text n end c s out at))
    (ran_escape (take n s) c u v (Ok (take n s ++ encode c)) first (ran_added (take n s) v (encode c) (omega (arith, length-take-le n s (omega arith)))))
ran_encoded n c u v s out None all valid first none =
    let some = length_encode c in
    ran_escape (take n s) c u v (Err (TextTooLong v.position)) first (ran_too_long (take n s) v (encode c) (omega (arith, length-take n s, none.0 valid)))
