-- One item, from the step that took its first byte on.
use Rattle.std.proofs.Common.{◌≡◌, ℕ, ◌<◌, ◌≤◌, List, [], ◌∷◌, length, Some, None, Ok, Err, Option, Result, sym, refl, ap, ◌∙◌, subst, arith}
use Rattle.std.proofs.lemmas.Bool.Decides.{nat_tests}
use Rattle.source.specs.Asking.{answer, rest}
use Rattle.source.specs.Endings.{Ending, at_end}
use Rattle.source.specs.declared.sources.Fault.{Fault}
use Rattle.stream.specs.Events.{ScratchEvent, event, text_length_lem}
use Rattle.stream.specs.Streams.{over, first}
use Rattle.stream.specs.declared.errors.Error.{Error}
use Rattle.reader.specs.Meanings.{reading_of}
use Rattle.reader.specs.Readings.{before, item_then, reading_within, reading}
use Rattle.reader.specs.States.{Seen, untaken, ends, Ran, Stepped, item_at, Fitting}
use Rattle.reader.specs.Steps.{Done, onward, fetched, current, step_gives, stepped, step}
use Rattle.reader.specs.Tokens.{Item, token, passed_over, the_end, begun, begun_if, item}
use Rattle.reader.proofs.Chains.{stays, ran_then, ran_refused, ran_step, ran_step_refused}
use Rattle.reader.proofs.Unfolding.{reading_on}

-- a reading is one item, and the reading of what it left
module _ (u v : Seen) where
  reads_item : (i : Item) → Ran item u (Ok i) v → reading_of u ≡ before i (reading_of v)
  reads_item i ran =
      reading_on u.position (untaken u) (ends u)
      ∙ (ap (λ (r : Result (Done Item) Error). item_then r (λ q ys. reading q ys (ends u))) ran.0
      ∙ ap (λ (e : Ending). before i (reading v.position (untaken v) e)) (sym ran.1.keeps))

  reads_refusal : (f : Error) → Ran item u (Err f) v → reading_of u ≡ over (Err f)
  reads_refusal f ran = reading_on u.position (untaken u) (ends u) ∙ ap (λ (r : Result (Done Item) Error). item_then r (λ q ys. reading q ys (ends u))) ran

-- nothing is left
reads_nothing : (p : ℕ) → reading p [] at_end ≡ over (Ok tt)
unfolding reading_within reading
reads_nothing p = refl

-- a byte that was taken leaves less
gave_some : (p : ℕ) (xs : List ℕ) (e : Ending) (c : ℕ) → Ok (Some c) ≡ step_gives p xs e → length (rest xs) < length xs
gave_some p [] (Ok u) c h = grind (arith, h)
gave_some p [] (Err f) c h = grind (arith, h)
gave_some p (x ∷ xs) e c h = omega arith

-- no byte is taken only at the end
gave_none : (p : ℕ) (xs : List ℕ) (e : Ending) → Ok None ≡ step_gives p xs e → (rest xs ≡ []) × (e ≡ at_end)
gave_none p [] (Ok u) h = (refl, refl)
gave_none p [] (Err f) h = grind (arith, h)
gave_none p (x ∷ xs) e h = absurd (never (answer xs e) h)
  where
    never : (r : Result (Option ℕ) Fault) → Ok None ≡ current p x r → ⊥
    never (Ok b) h = grind (arith, nat_tests, h)
    never (Err f) h = grind (arith, h)

-- the step that took the byte c, of which `o` is what it answered
module _ (u v w : Seen) (o : Option ℕ) (c : ℕ) (is : o ≡ Some c) (answered : Stepped u (Ok o) v) where
  took : Stepped u (Ok (Some c)) v
  took = subst (λ (x : Option ℕ). Stepped u (Ok x) v) is answered

  reads_begun : (i : Item) → Ran (begun c) v (Ok i) w → reading_of u ≡ before i (reading_of w)
  reads_begun i later = reads_item u w i (ran_then step begun_if u v w (Some c) (Ok i) (ran_step u v (Some c) took) later)

  pub reads_begun_refusal : (f : Error) → Ran (begun c) v (Err f) w → reading_of u ≡ over (Err f)
  reads_begun_refusal f later = reads_refusal u w f (ran_then step begun_if u v w (Some c) (Err f) (ran_step u v (Some c) took) later)

  module _ (s : List ℕ) (o' : Option ScratchEvent) (later : Ran (begun c) v (item_at (Ok o') s) w) where
    -- an event
    pub reads_event : (ev : ScratchEvent) → o' ≡ Some ev → Fitting (Ok o') → (reading_of u ≡ first (event ev s) (reading_of w)) × (text_length_lem ev ≤ 1024)
    reads_event ev some fits =
        (reads_begun (token (event ev s)) (subst (λ (x : Option ScratchEvent). Ran (begun c) v (item_at (Ok x) s) w) some later), subst (λ (x : Option ScratchEvent). Fitting (Ok x)) some fits)

    -- what is passed over
    pub reads_on : o' ≡ None → (reading_of w ≡ reading_of u) × (length (untaken w) < length (untaken u))
    reads_on none =
        let ran : Ran (begun c) v (Ok passed_over) w = subst (λ (x : Option ScratchEvent). Ran (begun c) v (item_at (Ok x) s) w) none later in
        let less = gave_some u.position (untaken u) (ends u) c took.gives in
        (sym (reads_begun passed_over ran), omega (arith, ap length took.took.leaves, ran.1.shorter))

module _ (u v : Seen) where
  pub reads_step_refusal : (f : Error) → Stepped u (Err f) v → reading_of u ≡ over (Err f)
  reads_step_refusal f st = reads_refusal u v f (ran_refused step begun_if u v v f (ran_step_refused u v f st))

  pub reads_end : (o : Option ℕ) → o ≡ None → Stepped u (Ok o) v → (reading_of u ≡ over (Ok tt)) × (reading_of v ≡ reading_of u)
  reads_end o is answered =
      let st : Stepped u (Ok None) v = subst (λ (x : Option ℕ). Stepped u (Ok x) v) is answered in
      let none = gave_none u.position (untaken u) (ends u) st.gives in
      let nothing : untaken v ≡ [] = st.took.leaves ∙ none.0 in
      let end : ends v ≡ at_end = st.took.keeps ∙ none.1 in
      let later : reading_of v ≡ over (Ok tt) =
      ap (λ (xs : List ℕ). reading v.position xs (ends v)) nothing ∙ (ap (λ (e : Ending). reading v.position [] e) end ∙ reads_nothing v.position) in
      let all = reads_item u v the_end (ran_then step begun_if u v v None (Ok the_end) (ran_step u v None st) (refl, stays v)) in
      (all, later ∙ sym all)

-- a source whose first byte is a fault
pub reads_fault : (p : ℕ) (xs : List ℕ) (e : Ending) (f : Error) → fetched p (answer xs e) ≡ Err f → reading p xs e ≡ over (Err f)
reads_fault p [] e f is = reading_on p [] e ∙ ap (λ (s : Result (Option ℕ) Error). item_then (onward (stepped s p [] e) begun_if e) (λ q ys. reading q ys e)) is
reads_fault p (x ∷ xs) e f is = cc
