use Rattle.std.proofs.Common.{◌≡◌, ℕ, ◌-◌, ◌≤◌, List, ◌++◌, length, drop, sym, ap, ◌∙◌, subst, arith, length-append, length-drop}
use Rattle.stream.proofs.Zeros.{put_cleared}
use Rattle.stream.proofs.scratch.put_text.Goals as goal

pub returns : goal.returns
returns c =
    let s = c.args.scratch.now in
    let ts = c.args.text.now in
    let n = length ts in
    let s₁ : List ℕ = c.copy_from_slice.new.self ++ drop (n - 0) s in
    let copied : s₁ ≡ ts ++ drop n s = ap (λ (xs : List ℕ). xs ++ drop (n - 0) s) c.copy_from_slice.ensures.after ∙ ap (λ (k : ℕ). ts ++ drop k s) (omega arith) in
    let room : 1024 ≤ length (ts ++ drop n s) = simp (length-append, length-drop) (omega arith) in
    put_cleared s s₁ c.clear.new.scratch ts c.requires.fits copied (c.clear.ensures.room (subst (λ (xs : List ℕ). 1024 ≤ length xs) (sym copied) room) c.requires.fits)
