-- Lists of events as sources.
use Rattle.std.proofs.Common.{◌≡◌, ℕ, List, [], ◌∷◌, None, Result, refl, rules}
use Rattle.std.specs.Prelude.{⊤}
use Rattle.stream.specs.declared.errors.Error.{Error}
use Rattle.stream.specs.Lists.{unfit, one_more, fit_part}
use Rattle.stream.specs.Streams.{Ev, stream, Fit, EachFit}

-- an event that is fit is not refused
fit_passes : (n : ℕ) (ev : Ev) → Fit ev → unfit n ev ≡ None
fit_passes n (Ev.StartArray c) h = refl
fit_passes n (Ev.StartDictionary c) h = refl
fit_passes n Ev.EndCollection h = refl
fit_passes n (Ev.Boolean b) h = refl
fit_passes n (Ev.Data bs) h = search rules
fit_passes n (Ev.Integer i) h = refl
fit_passes n (Ev.Real x) h = refl
fit_passes n (Ev.String bs) h = search rules
fit_passes n (Ev.Uid u) h = refl

-- so a list of fit events is given whole
pub part_whole : (n : ℕ) (evs : List Ev) (end : Result ⊤ Error) → EachFit evs → fit_part n evs end ≡ stream evs end
part_whole n [] end h = refl
part_whole n (ev ∷ evs) end h = rw (fit_passes n ev h.0, part_whole (one_more n) evs end h.1) refl
