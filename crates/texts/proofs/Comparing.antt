-- A text compared with a key part by part.
use Rattle.std.proofs.Common.{◌≡◌, ℕ, ◌+◌, ◌⊎◌, List, [], ◌∷◌, ◌++◌, length, take, Some, None, Option, sym, ap, ◌∙◌, inl, inr, arith}
use Rattle.std.proofs.Math.Seq.{take-append_seam}
use Rattle.std.proofs.lemmas.List.{append_assoc, append-nil, append_cancel_left, length-append, nil_from_length}
use Rattle.std.specs.Borrow.{Bor}
use Rattle.std.specs.declared.iter.Zip.{Zip}
use Rattle.std.specs.declared.slice.Chunks.{Chunks}
use Rattle.std.specs.Iterator.Adapters.{zip_first, zip_second}
use Rattle.std.specs.Slice.Iter.{chunks_rest, chunks_size, chunks_steps}
use Rattle.texts.specs.declared.cell.TextCell.{TextCell}
use Rattle.texts.specs.declared.parts.Parts.{Parts}
use Rattle.texts.specs.Parts.{parts_steps}
use Rattle.texts.specs.Texts.{text_of, Spans}
use Rattle.texts.proofs.Reading.{Reading, turn, reading_none, reading_done}

-- The text and the key agree so far; p has the text's rest, and `rest` is the key's.
pub record Comparing (cs : List TextCell) (head : Option ℕ) (n : ℕ) (key : List ℕ) (p : Parts) (rest : List ℕ) : Type 0 where
  pub cells : p.cells.now ≡ cs
  pub seen : List ℕ
  pub split : key ≡ seen ++ rest
  pub long : length rest ≡ p.left
  pub reading : Reading cs head n seen p.todo p.left

module _ (cs : List TextCell) (head : Option ℕ) (n : ℕ) (key : List ℕ) where
  -- The next part of the text, and the next one of the key.
  pub record Pair (part wanted : List ℕ) (t : Parts) (more : List ℕ) : Type 0 where
    pub long : length part ≡ length wanted
    pub same : part ≡ wanted → Comparing cs head n key t more
    pub differs : (is : List ℕ) → Spans cs head is n → text_of cs is n ≡ key → part ≡ wanted

  pub pair : (s t : Zip Parts (Chunks ℕ)) (part wanted : Bor (List ℕ)) → chunks_size (zip_second s) ≡ 24 → Comparing cs head n key (zip_first s) (chunks_rest (zip_second s))
      → parts_steps (zip_first s) (Some part) (zip_first t) × chunks_steps (zip_second s) (Some wanted) (zip_second t) → Pair part.now wanted.now (zip_first t) (chunks_rest (zip_second t))
  pair s t part wanted size g (steps, cuts) =
      let rest = chunks_rest (zip_second s) in
      let more = chunks_rest (zip_second t) in
      let u = turn cs head n g.seen (zip_first s) part (zip_first t) g.cells steps g.reading in
      let lens : length rest ≡ length wanted.now + length more = ap length cuts.1.0 ∙ length-append wanted.now more in
      let rest-long : length rest ≡ (zip_first s).left = g.long in
      let long : length part.now ≡ length wanted.now = omega (arith, u.long, cuts.1.1) in
      let split : key ≡ g.seen ++ (wanted.now ++ more) = g.split ∙ ap (λ (r : List ℕ). g.seen ++ r) cuts.1.0 in
      record {
        long = long;
        same = λ e. record {
          cells = u.cells;
          seen = g.seen ++ part.now;
          split = split ∙ sym (append_assoc g.seen wanted.now more) ∙ ap (λ (b : List ℕ). (g.seen ++ b) ++ more) (sym e);
          long = omega (arith, u.left);
          reading = u.read;
        };
        differs = λ is h e.
            let x = u.read.each is h in
            let behind = text_of cs x.0 (zip_first t).left in
            let whole : g.seen ++ (part.now ++ behind) ≡ g.seen ++ (wanted.now ++ more) = sym (append_assoc g.seen part.now behind) ∙ sym x.2 ∙ e ∙ split in
            sym (take-append_seam part.now behind) ∙ ap (take (length part.now)) (append_cancel_left g.seen (part.now ++ behind) (wanted.now ++ more) whole)
            ∙ ap (λ (k : ℕ). take k (wanted.now ++ more)) long ∙ take-append_seam wanted.now more;
      }

  -- The first byte of both is the same: the others are left.
  pub pair_more : (part wanted rest others : List ℕ) (x y : ℕ) (t : Parts) (more : List ℕ) → part ≡ x ∷ rest → wanted ≡ y ∷ others → x ≡ y → Pair part wanted t more → Pair rest others t more
  pair_more part wanted rest others x y t more e f same p = record {
    long = omega (arith, p.long, ap length e, ap length f);
    same = λ g. p.same (cc);
    differs = λ is h g. let all = p.differs is h g in cc;
  }

  -- Where one of the two ends, they are the same.
  pub comparing_done : (s : Parts) (rest : List ℕ) → (s.todo ≡ None) ⊎ (length rest ≡ 0) → Comparing cs head n key s rest → (is : List ℕ) → Spans cs head is n → text_of cs is n ≡ key
  comparing_done s rest over g is h =
      let none : s.left ≡ 0 = elim over [ inl e ↦ reading_none cs head n g.seen s.todo s.left is e h g.reading | inr z ↦ sym g.long ∙ z ] in
      let nil : rest ≡ [] = nil_from_length rest (g.long ∙ none) in
      reading_done cs head n g.seen s.todo s.left is none h g.reading ∙ sym (g.split ∙ ap (λ (r : List ℕ). g.seen ++ r) nil ∙ append-nil g.seen)
