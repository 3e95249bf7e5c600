-- Printing a stream of events, one after another.
use Rattle.std.proofs.Common.{◌≡◌, ℕ, ◌≤◌, List, ◌++◌, length, Some, Ok, Option, Result, sym, ap, ◌∙◌, subst, append_assoc}
use Rattle.stream.specs.declared.errors.Error.{Error}
use Rattle.stream.specs.Events.{ScratchEvent, event}
use Rattle.stream.specs.Nexts.{Next, Gives}
use Rattle.stream.specs.Streams.{Stream}
use Rattle.report.specs.Events.{event_text, stream_text}

-- with `was` printed before, `out` is printed now, and u is left of u₀
pub record Underway (between was : List ℕ) (u₀ : Stream) (out : List ℕ) (u : Stream) : Type 0 where
  pub text : out ++ stream_text between u ≡ was ++ stream_text between u₀
  pub ending : u.ending ≡ u₀.ending

module _ (between was out : List ℕ) (u₀ u v : Stream) (s s' : List ℕ) (r : Result (Option ScratchEvent) Error) (now : Underway between was u₀ out u) (room : 1024 ≤ length s) (next : Next u s r v s') where
  -- one event more is printed
  pub on : (e : ScratchEvent) (more most : List ℕ) → r ≡ Ok (Some e) → more ≡ out ++ event_text (event e s') → most ≡ more ++ between → Underway between was u₀ most v
  on e more most is added parted =
      let g : Gives u s (Ok (Some e)) v s' = subst (λ (x : Result (Option ScratchEvent) Error). Gives u s x v s') is (next.gives room) in
      let rest = stream_text between v in
      let text = event_text (event e s') in
      record {
        text = ap (λ (xs : List ℕ). xs ++ rest) (parted ∙ ap (λ (xs : List ℕ). xs ++ between) added)
            ∙ (append_assoc (out ++ text) between rest ∙ (append_assoc out text (between ++ rest)
            ∙ (sym (ap (λ (x : Stream). out ++ stream_text between x) g.0) ∙ now.text)));
        ending = sym (ap (λ (x : Stream). x.ending) g.0) ∙ now.ending;
      }
