-- Going through all events of a stream, one at a time.
use Rattle.std.proofs.Common.{◌≡◌, ℕ, ◌+◌, ◌-◌, ◌^◌, ◌≤◌, min, List, length, Some, None, Ok, Err, Option, Result, refl, sym, ap, ◌∙◌, subst, arith}
use Rattle.std.specs.Prelude.{⊤}
use Rattle.stream.specs.declared.errors.Error.{Error}
use Rattle.stream.specs.Drains.{Drains}
use Rattle.stream.specs.Events.{ScratchEvent, text_length_lem}
use Rattle.stream.specs.Nexts.{Next, Gives}
use Rattle.stream.specs.Scratch.{beyond, Cleared}
use Rattle.stream.specs.Streams.{Stream, over}
use Rattle.stream.proofs.Zeros.{beyond_cleared, behind_same}

-- u₀ and s₀ are u and s after k events
pub record Underway (u₀ u : Stream) (k : ℕ) (s₀ s : List ℕ) : Type 0 where
  pub ending : u.ending ≡ u₀.ending
  pub count : min (k + length u.events) (2 ^ 64 - 1) ≡ min (length u₀.events) (2 ^ 64 - 1)
  pub fits : k ≤ 2 ^ 64 - 1
  pub kept : beyond s ≡ beyond s₀

-- what a source answers that has come to its ending
abbrev pub answer_of : Result ⊤ Error → Result (Option ScratchEvent) Error
answer_of (Ok _) = Ok None
answer_of (Err e) = Err e

at_end : (u v : Stream) (s s' : List ℕ) (end : Result ⊤ Error) → Gives u s (answer_of end) v s' → (u ≡ over end) × (v ≡ u) × Cleared 0 s s'
at_end u v s s' (Ok _) g = g
at_end u v s s' (Err e) g = g

module _ (u₀ u v : Stream) (k : ℕ) (s₀ s s' : List ℕ) (r : Result (Option ScratchEvent) Error) (now : Underway u₀ u k s₀ s) (room : 1024 ≤ length s) (next : Next u s r v s') where
  pub on : (e : ScratchEvent) (m : ℕ) → r ≡ Ok (Some e) → 1024 ≤ length s' → m ≡ min (k + 1) (2 ^ 64 - 1) → Underway u₀ v m s₀ s'
  on e m is room' counts =
      let g : Gives u s (Ok (Some e)) v s' = subst (λ (x : Result (Option ScratchEvent) Error). Gives u s x v s') is (next.gives room) in
      let one : length u.events ≡ length v.events + 1 = omega (arith, ap (λ (x : Stream). length x.events) g.0) in
      record {
        ending = sym (ap (λ (x : Stream). x.ending) g.0) ∙ now.ending;
        count = omega (arith, one, now.count);
        fits = omega arith;
        kept = beyond_cleared (text_length_lem e) s s' g.1 room' g.2 ∙ now.kept;
      }

  -- the events are over
  pub done : (end : Result ⊤ Error) → r ≡ answer_of end → 1024 ≤ length s₀ → Drains u₀ s₀ (Ok (record { count = k; ending = end })) v s'
  done end is room₀ =
      let g = at_end u v s s' end (subst (λ (x : Result (Option ScratchEvent) Error). Gives u s x v s') is (next.gives room)) in
      let ends : end ≡ u₀.ending = sym (ap (λ (x : Stream). x.ending) g.0) ∙ now.ending in
      let none : length u.events ≡ 0 = ap (λ (x : Stream). length x.events) g.0 in
      let all : k ≡ min (length u₀.events) (2 ^ 64 - 1) = omega (arith, none, now.count, now.fits) in
      record {
        short = λ h. absurd (omega arith);
        drains = λ _. (
          rw (all, ends) refl,
          g.1 ∙ (g.0 ∙ ap over ends),
          g.2 ∙ behind_same 0 s s₀ now.kept,
        );
      }
