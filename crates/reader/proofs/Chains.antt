-- Runs one after another.
use Rattle.std.proofs.Common.{◌≡◌, ℕ, ◌≤◌, List, [], ◌∷◌, length, Ok, Err, Option, Result, sym, refl, ap, ◌∙◌, arith}
use Rattle.source.specs.Asking.{rest}
use Rattle.source.specs.Endings.{Ending}
use Rattle.stream.specs.declared.errors.Error.{Error}
use Rattle.reader.specs.States.{Seen, untaken, ends, Moved, Ran, Stepped}
use Rattle.reader.specs.Steps.{Done, Run, pure, onward, ◌>>=◌, step_gives, stepped, step}

pub stays : (u : Seen) → Moved u u
stays u = record { keeps = refl; shorter = omega arith }

pub moved_trans : (u v w : Seen) → Moved u v → Moved v w → Moved u w
moved_trans u v w a b = record { keeps = b.keeps ∙ a.keeps; shorter = omega arith }

-- on from where a run ended
pub ran_on : {A B : Type 0} (run : Run A) (next : A → Run B) (u v : Seen) (a : A) → Ran run u (Ok a) v → (run >>= next) u.position (untaken u) (ends u) ≡ next a v.position (untaken v) (ends v)
ran_on {A} run next u v a first = ap (λ (r : Result (Done A) Error). onward r next (ends u)) first.0 ∙ ap (λ (e : Ending). next a v.position (untaken v) e) (sym first.1.keeps)

module _ {A B : Type 0} (run : Run A) (next : A → Run B) (u v w : Seen) where
  -- a run, and then whatever comes of the next
  pub ran_then : (a : A) (r : Result B Error) → Ran run u (Ok a) v → Ran (next a) v r w → Ran (run >>= next) u r w
  ran_then a (Ok b) first later = (ran_on run next u v a first ∙ later.0, moved_trans u v w first.1 later.1)
  ran_then a (Err f) first later = ran_on run next u v a first ∙ later

  -- a run that is refused
  pub ran_refused : (f : Error) → Ran run u (Err f) v → Ran (run >>= next) u (Err f) w
  ran_refused f first = ap (λ (r : Result (Done A) Error). onward r next (ends u)) first

-- a run that makes one value out of another
pub ran_made : {A B : Type 0} (run : Run A) (f : A → B) (u v : Seen) (a : A) → Ran run u (Ok a) v → Ran (run >>= λ x. pure (f x)) u (Ok (f a)) v
ran_made run f u v a first = ran_then run (λ x. pure (f x)) u v v a (Ok (f a)) first (refl, stays v)

rest_length : (xs : List ℕ) → length (rest xs) ≤ length xs
rest_length [] = omega arith
rest_length (x ∷ xs) = omega arith

-- a step, as a run
module _ (u v : Seen) where
  pub ran_step : (o : Option ℕ) → Stepped u (Ok o) v → Ran step u (Ok o) v
  ran_step o st =
      let gives : step_gives u.position (untaken u) (ends u) ≡ Ok o = sym st.gives in
      let took = st.took in (
        ap (λ (r : Result (Option ℕ) Error). stepped r u.position (untaken u) (ends u)) gives
            ∙ (ap (λ (p : ℕ). Ok (record { value = o; position = p; left = rest (untaken u) })) (sym took.counts)
            ∙ ap (λ (xs : List ℕ). Ok (record { value = o; position = v.position; left = xs })) (sym took.leaves)),
        record { keeps = took.keeps; shorter = omega (arith, ap length took.leaves, rest_length (untaken u)) },
      )

  pub ran_step_refused : (f : Error) → Stepped u (Err f) v → Ran step u (Err f) v
  ran_step_refused f st = ap (λ (r : Result (Option ℕ) Error). stepped r u.position (untaken u) (ends u)) (sym st.gives)
