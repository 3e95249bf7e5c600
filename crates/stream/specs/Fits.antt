-- What a list of events means is fit, and what either of two sources means.
use Rattle.std.specs.Prelude.{◌≡◌, ℕ, ◌≤◌, Bool, true, false, cond, List, [], ◌∷◌, length, Some, None, Option, Result, nat_le, is_some, ⊤, refl}
use Rattle.std.proofs.Common.{ap, true≢false}
use Rattle.std.proofs.lemmas.Bool.{leb-true}
use Rattle.text.specs.Utf8.{utf8}
use Rattle.stream.specs.declared.errors.Error.{Error}
use Rattle.stream.specs.declared.either.Either.{Either}
use Rattle.stream.specs.declared.either.Either.TheVariants.{Left, Right}
use Rattle.stream.specs.Lists.{unfit, unless, one_more, fit_part}
use Rattle.stream.specs.Sides.{side}
use Rattle.stream.specs.Streams.{Ev, Stream, first, Fit, EachFit}

-- the tests of `unfit`, passed
passed : (n : ℕ) (bs : List ℕ) (b : Bool) (o : Option Error) → nat_le (length bs) 1024 ≡ b → cond b o (Some (Error.TextTooLong n)) ≡ None → (length bs ≤ 1024) × (o ≡ None)
passed n bs true o is none = (leb-true (length bs) 1024 is, none)
passed n bs false o is none = absurd (true≢false (ap is_some none))

text_passed : (n : ℕ) (b : Bool) → cond b None (Some (Error.InvalidUtf8AsciiStream n)) ≡ None → b ≡ true
text_passed n true none = refl
text_passed n false none = absurd (true≢false (ap is_some none))

-- an event that is not refused is fit
pub fit_event : (n : ℕ) (ev : Ev) → unfit n ev ≡ None → Fit ev
fit_event n (Ev.StartArray c) none = tt
fit_event n (Ev.StartDictionary c) none = tt
fit_event n Ev.EndCollection none = tt
fit_event n (Ev.Boolean b) none = tt
fit_event n (Ev.Data bs) none = (passed n bs (nat_le (length bs) 1024) None refl none).0
fit_event n (Ev.Integer i) none = tt
fit_event n (Ev.Real x) none = tt
fit_event n (Ev.String bs) none =
    let both = passed n bs (nat_le (length bs) 1024) (cond (utf8 bs) None (Some (Error.InvalidUtf8AsciiStream n))) refl none in
    (both.0, text_passed n (utf8 bs) both.1)
fit_event n (Ev.Uid u) none = tt

-- whatever stands in the list, what it means is fit
pub part_fit : (n : ℕ) (evs : List Ev) (end : Result ⊤ Error) → EachFit (fit_part n evs end).events
part_fit n [] end = tt
part_fit n (ev ∷ evs) end = go (unfit n ev) refl (part_fit (one_more n) evs end)
  where
    go : (o : Option Error) → unfit n ev ≡ o → EachFit (fit_part (one_more n) evs end).events → EachFit (unless o (first ev (fit_part (one_more n) evs end))).events
    go None none rest = (fit_event n ev none, rest)
    go (Some e) is rest = tt

-- a source of one of two types means what is fit, where sources of both do
pub side_fit : {X Y : Type 0} (f : X → Stream) (g : Y → Stream) → ((x : X) → EachFit (f x).events) → ((y : Y) → EachFit (g y).events) → (e : Either X Y) → EachFit (side f g e).events
side_fit f g h i (Left x) = h x
side_fit f g h i (Right y) = i y
