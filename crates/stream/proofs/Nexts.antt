-- Answers of a source: what to show of one that has room in its scratch.
use Rattle.std.proofs.Common.{◌≡◌, ℕ, ◌≤◌, List, ◌++◌, length, take, Some, Ok, sym, refl, ap, ◌∙◌, arith}
use Rattle.stream.specs.declared.events.Event.TheVariants.{StartArray, StartDictionary, EndCollection, Boolean, Data, Integer, Real, String, Uid}
use Rattle.stream.specs.Events.{ScratchEvent, event, text_length_lem}
use Rattle.stream.specs.Nexts.{Next}
use Rattle.stream.specs.Scratch.{beyond, behind}
use Rattle.stream.specs.Streams.{Ev, Stream, first}
use Rattle.stream.proofs.Zeros.{cleared}

-- an event beside two scratches that begin with the same text
pub same_event : (e : ScratchEvent) (s s' : List ℕ) → take (text_length_lem e) s' ≡ take (text_length_lem e) s → event e s ≡ event e s'
same_event (StartArray n) s s' is = refl
same_event (StartDictionary n) s s' is = refl
same_event EndCollection s s' is = refl
same_event (Boolean b) s s' is = refl
same_event (Data n) s s' is = ap (λ (bs : List ℕ). Ev.Data bs) (sym is)
same_event (Integer i) s s' is = refl
same_event (Real x) s s' is = refl
same_event (String n) s s' is = ap (λ (bs : List ℕ). Ev.String bs) (sym is)
same_event (Uid u) s s' is = refl

module _ (s : List ℕ) (room : 1024 ≤ length s) where
  -- an event whose text stands in the scratch s₁, which was then cleared behind it and is s₂
  pub next_given : (u v : Stream) (e : ScratchEvent) (s₁ s₂ : List ℕ) → u ≡ first (event e s₁) v → text_length_lem e ≤ 1024 → 1024 ≤ length s₁ → beyond s₁ ≡ beyond s → s₂ ≡ take (text_length_lem e) s₁ ++ behind (text_length_lem e) s₁ → Next u s (Ok (Some e)) v s₂
  next_given u v e s₁ s₂ is small room₁ kept clears =
      let c = cleared (text_length_lem e) s s₁ s₂ small room₁ kept clears in
      record { short = λ h. absurd (omega arith); gives = λ _. (is ∙ ap (λ (x : Ev). first x v) (same_event e s₁ s₂ c.0), small, c.1) }
