-- What a reader answers once an event, the end or a refusal was read into the first 1,024 bytes of a scratch and these are cleared.
use Rattle.std.proofs.Common.{◌≡◌, ℕ, ◌-◌, ◌≤◌, List, [], ◌++◌, length, take, drop, replicate, Some, None, Ok, Err, sym, ap, ◌∙◌, append_assoc, append-nil, arith}
use Rattle.std.proofs.lemmas.List.{length-take-le, take_at, drop_all}
use Rattle.stream.specs.Events.{ScratchEvent, text_length_lem}
use Rattle.stream.specs.Nexts.{Next}
use Rattle.stream.specs.Scratch.{behind, Cleared}
use Rattle.stream.specs.Streams.{Ev, Stream, over, first}
use Rattle.stream.specs.declared.errors.Error.{Error}
use Rattle.stream.proofs.Nexts.{same_event}
use Rattle.reader.specs.Meanings.{Reads}

module _ (s t t' : List ℕ) (room : 1024 ≤ length s) (all : length t ≡ 1024) where
  front_cleared : (n : ℕ) → n ≤ 1024 → t' ≡ take n t ++ behind n t → (take n (t' ++ drop 1024 s) ≡ take n t) × Cleared n s (t' ++ drop 1024 s)
  unfolding behind
  front_cleared n small is =
      let zeros : List ℕ = replicate (1024 - n) 0 in
      let none : drop 1024 t ≡ [] = drop_all 1024 t (omega arith) in
      let front : t' ≡ take n t ++ zeros = is ∙ (ap (λ (xs : List ℕ). take n t ++ (zeros ++ xs)) none ∙ ap (λ (xs : List ℕ). take n t ++ xs) (append-nil zeros)) in
      let whole : t' ++ drop 1024 s ≡ take n t ++ (zeros ++ drop 1024 s) = ap (λ (xs : List ℕ). xs ++ drop 1024 s) front ∙ append_assoc (take n t) zeros (drop 1024 s) in
      let same : take n (t' ++ drop 1024 s) ≡ take n t = ap (λ (xs : List ℕ). take n xs) whole ∙ take_at (take n t) (zeros ++ drop 1024 s) n (length-take-le n t (omega arith)) in
      (same, whole ∙ ap (λ (xs : List ℕ). xs ++ (zeros ++ drop 1024 s)) (sym same))

  module _ (u v : Stream) where
    pub next_event : (ev : ScratchEvent) → Reads u (Ok (Some ev)) t v → (n : ℕ) → n ≡ text_length_lem ev → (1024 ≤ length t → n ≤ 1024 → t' ≡ take n t ++ behind n t) → Next u s (Ok (Some ev)) v (t' ++ drop 1024 s)
    next_event ev read n long clear =
        let is : t' ≡ take (text_length_lem ev) t ++ behind (text_length_lem ev) t = clear (omega arith) (omega (arith, read.1)) ∙ ap (λ (k : ℕ). take k t ++ behind k t) long in
        let c = front_cleared (text_length_lem ev) read.1 is in
        record { short = λ h. absurd (omega arith); gives = λ _. (read.0 ∙ ap (λ (x : Ev). first x v) (same_event ev t (t' ++ drop 1024 s) c.0), read.1, c.1) }

    pub next_end : Reads u (Ok None) t v → t' ≡ take 0 t ++ behind 0 t → Next u s (Ok None) v (t' ++ drop 1024 s)
    next_end read is = record { short = λ h. absurd (omega arith); gives = λ _. (read.0, read.1, (front_cleared 0 (omega arith) is).1) }

  pub next_refusal : (u : Stream) (f : Error) → u ≡ over (Err f) → t' ≡ take 0 t ++ behind 0 t → Next u s (Err f) (over (Err f)) (t' ++ drop 1024 s)
  next_refusal u f is clear = record { short = λ h. absurd (omega arith); gives = λ _. (is, sym is, (front_cleared 0 (omega arith) clear).1) }
