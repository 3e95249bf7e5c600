-- The test for UTF-8 answers what the syntax says.
use Rattle.std.proofs.Common.{◌≡◌, ℕ, suc, ◌<◌, ◌≤◌, Bool, true, false, cond, ◌&&◌, leb, List, [], ◌∷◌, ◌++◌, Some, None, Decides, Option, sym, refl, ap, ◌∙◌, subst, arith}
use Rattle.std.proofs.lemmas.List.{append_assoc}
use Rattle.std.proofs.lemmas.Bool.Decides.{nat_tests}
use Rattle.std.proofs.lemmas.Bool.{le-leb, lt-leb, leb-true, and_parts, false≢true}
use Rattle.text.specs.Utf8.{Range, ◌to◌, inside, utf8_char, behind, goes_on, utf8, OfRow, none, more, OfTable, here, there, Utf8, empty, then}

pub inside_parts : (low high b : ℕ) → inside (low to high) b ≡ true → (low ≤ b) × (b ≤ high)
inside_parts low high b e = grind (arith, nat_tests)

-- the scan of what is left, after one byte more
abbrev goes_by : Option (List Range) → List ℕ → Bool
goes_by o bs = elim o [ None ↦ false | Some left ↦ goes_on left bs ]

-- From the test to the syntax.

none_some : {X : Type 0} (x : X) → None ≡ Some x → ⊥
none_some x e = let z : ◌≡◌ {A = ℕ} 0 1 = cc in omega arith

row_by : (t : Bool) (r : Range) (rs' : List Range) (rows : List (List Range)) (b : ℕ) (rs : List Range) (c : List ℕ) → inside r b ≡ t → cond t (Some rs') (behind rows b) ≡ Some rs → OfRow rs c
    → (behind rows b ≡ Some rs → OfTable rows (b ∷ c)) → OfTable ((r ∷ rs') ∷ rows) (b ∷ c)
row_by true r rs' rows b rs c i e w k = let q : rs ≡ rs' = cc in here (more i (subst (λ (x : List Range). OfRow x c) q w))
row_by false r rs' rows b rs c i e w k = there (k e)

behind_table : (rows : List (List Range)) (b : ℕ) (rs : List Range) (c : List ℕ) → behind rows b ≡ Some rs → OfRow rs c → OfTable rows (b ∷ c)
behind_table [] b rs c e w = absurd (none_some rs e)
behind_table ([] ∷ rows) b rs c e w = there (behind_table rows b rs c e w)
behind_table ((r ∷ rs') ∷ rows) b rs c e w = row_by (inside r b) r rs' rows b rs c refl e w (λ h. behind_table rows b rs c h w)

-- The bytes of what is due stand in front, and UTF-8 follows.
record Split (due : List Range) (bs : List ℕ) : Type 0 where
  front : List ℕ
  rest : List ℕ
  fits : OfRow due front
  utf8_rest : Utf8 rest
  is : bs ≡ front ++ rest

first_by : (o : Option (List Range)) (b : ℕ) (bs : List ℕ) → behind utf8_char b ≡ o → goes_by o bs ≡ true → ((rs : List Range) → goes_on rs bs ≡ true → Split rs bs) → Split [] (b ∷ bs)
first_by None b bs q e k = absurd (false≢true e)
first_by (Some rs) b bs q e k =
    let s = k rs e in
    record {
      front = [];
      rest = b ∷ bs;
      fits = none;
      utf8_rest = then (behind_table utf8_char b rs s.front q s.fits) s.utf8_rest (ap (λ (l : List ℕ). b ∷ l) s.is);
      is = refl;
    }

due_by : (t : Bool) (r : Range) (rs : List Range) (b : ℕ) (bs : List ℕ) → inside r b ≡ t → goes_by (cond t (Some rs) None) bs ≡ true → (goes_on rs bs ≡ true → Split rs bs) → Split (r ∷ rs) (b ∷ bs)
due_by true r rs b bs i e k =
    let s = k e in
    record { front = b ∷ s.front; rest = s.rest; fits = more i s.fits; utf8_rest = s.utf8_rest; is = ap (λ (l : List ℕ). b ∷ l) s.is }
due_by false r rs b bs i e k = absurd (false≢true e)

split : (due : List Range) (bs : List ℕ) → goes_on due bs ≡ true → Split due bs
split [] [] e = record { front = []; rest = []; fits = none; utf8_rest = empty; is = refl }
split (r ∷ rs) [] e = absurd (false≢true e)
split [] (b ∷ bs) e = first_by (behind utf8_char b) b bs refl e (λ rs h. split rs bs h)
split (r ∷ rs) (b ∷ bs) e = due_by (inside r b) r rs b bs refl e (λ h. split rs bs h)

due_none : (s : List ℕ) → OfRow [] s → s ≡ []
due_none [] none = refl
due_none (_ ∷ _) w = elim w [ ]

from_split : (bs : List ℕ) → Split [] bs → Utf8 bs
from_split bs s = subst Utf8 (sym (s.is ∙ ap (λ (l : List ℕ). l ++ s.rest) (due_none s.front s.fits))) s.utf8_rest

pub syntax_from : (bs : List ℕ) → utf8 bs ≡ true → Utf8 bs
unfolding utf8
syntax_from bs e = from_split bs (split [] bs e)

-- From the syntax to the test. The rows of the table begin in ascending ranges, so that the first byte says the row.

ascending : ℕ → List (List Range) → Bool
ascending m [] = true
ascending m ([] ∷ rows) = false
ascending m ((low to high ∷ rs) ∷ rows) = leb m low && (leb low high && ascending (suc high) rows)

record Leads (m : ℕ) (rows : List (List Range)) (c : List ℕ) : Type 0 where
  first : ℕ
  rest : List ℕ
  due : List Range
  is : c ≡ first ∷ rest
  above : m ≤ first
  says : behind rows first ≡ Some due
  fits : OfRow due rest

leads : (m : ℕ) (rows : List (List Range)) (c : List ℕ) → ascending m rows ≡ true → OfTable rows c → Leads m rows c
unfolding ascending
leads m [] c a w = elim w [ ]
leads m ([] ∷ rows) c a w = absurd (false≢true a)
leads m ((low to high ∷ rs) ∷ rows) [] a (here w) = elim w [ ]
leads m ((low to high ∷ rs) ∷ rows) (b ∷ c) a (here (more i w)) =
    let p = and_parts (leb m low) (leb low high && ascending (suc high) rows) a in
    let le : m ≤ low = leb-true m low p.0 in
    let q = inside_parts low high b i in
    record { first = b; rest = c; due = rs; is = refl; above = omega arith; says = rw i; fits = w }
leads m ((low to high ∷ rs) ∷ rows) c a (there w) =
    let p = and_parts (leb m low) (leb low high && ascending (suc high) rows) a in
    let q = and_parts (leb low high) (ascending (suc high) rows) p.1 in
    let l = leads (suc high) rows c q.1 w in
    let le : m ≤ low = leb-true m low p.0 in
    let le' : low ≤ high = leb-true low high q.0 in
    let over : high < l.first = l.above in
    let out : leb l.first high ≡ false = lt-leb l.first high over in
    let above_low : leb low l.first ≡ true = le-leb low l.first (omega arith) in
    record { first = l.first; rest = l.rest; due = l.due; is = l.is; above = omega arith; says = rw (above_low, out) l.says; fits = l.fits }

row_goes : {due : List Range} {c : List ℕ} (rest : List ℕ) → OfRow due c → goes_on due (c ++ rest) ≡ goes_on [] rest
row_goes rest none = refl
row_goes rest (more {r} {rs} {b} {bs} i w) = ap (λ (t : Bool). goes_by (cond t (Some rs) None) (bs ++ rest)) i ∙ row_goes rest w

char_goes : (c rest : List ℕ) → OfTable utf8_char c → goes_on [] (c ++ rest) ≡ goes_on [] rest
unfolding ascending
char_goes c rest w =
    let l = leads 0 utf8_char c refl w in
    ap (λ (x : List ℕ). goes_on [] (x ++ rest)) l.is ∙ ap (λ (o : Option (List Range)). goes_by o (l.rest ++ rest)) l.says ∙ row_goes rest l.fits

-- Behind what is UTF-8 the test begins anew.
pub append_from : (a b : List ℕ) → Utf8 a → utf8 (a ++ b) ≡ utf8 b
unfolding utf8
append_from [] b empty = refl
append_from a b (then {c} {rest} w u e) =
    ap (λ (x : List ℕ). goes_on [] (x ++ b)) e ∙ ap (goes_on []) (append_assoc c rest b) ∙ char_goes c (rest ++ b) w ∙ append_from rest b u

pub test_from : (bs : List ℕ) → Utf8 bs → utf8 bs ≡ true
unfolding utf8
test_from [] empty = refl
test_from bs (then {c} {rest} w u e) = ap (goes_on []) e ∙ char_goes c rest w ∙ test_from rest u

pub decides : (bs : List ℕ) → Decides (utf8 bs) (Utf8 bs)
decides bs = (syntax_from bs, test_from bs)
