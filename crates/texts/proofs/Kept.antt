-- A text in cells that agree with others where it stands.
use Rattle.std.proofs.Common.{◌≡◌, ℕ, ◌<◌, ◌≤◌, List, length, Option, sym, ap, ◌∙◌, arith}
use Rattle.std.proofs.lemmas.List.{length-map}
use Rattle.cells.specs.Chains.{occ}
use Rattle.cells.proofs.Links.{chain_agree, chain_below}
use Rattle.texts.specs.declared.cell.TextCell.{TextCell}
use Rattle.texts.specs.Texts.{at, links, Holds}
use Rattle.texts.proofs.Writing.{text_agree, link_at}

pub holds_agree : (cs ds : List TextCell) (head : Option ℕ) (is bs : List ℕ) → length cs ≤ length ds → ((i : ℕ) → 0 < occ i is → at ds i ≡ at cs i) → Holds cs head is bs → Holds ds head is bs
holds_agree cs ds head is bs long agree h =
    let next : TextCell → Option ℕ = λ c. c.next in
    record {
      spans = record {
        chain = chain_agree (links cs) (links ds) head is (omega (arith, length-map cs next, length-map ds next)) (λ i p. link_at ds i ∙ ap next (agree i p) ∙ sym (link_at cs i)) h.spans.chain;
        enough = h.spans.enough;
      };
      says = text_agree cs ds is (length bs) agree ∙ h.says;
    }

pub holds_below : (cs : List TextCell) (head : Option ℕ) (is bs : List ℕ) → Holds cs head is bs → (i : ℕ) → 0 < occ i is → i < length cs
holds_below cs head is bs h i p = omega (arith, chain_below (links cs) head is h.spans.chain i p, length-map cs (λ (c : TextCell). c.next))
