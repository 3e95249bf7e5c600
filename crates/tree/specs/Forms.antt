-- Well-formed trees: what may stand where, which texts there are, and that the keys of a dictionary are distinct.
use Rattle.std.specs.Prelude.{◌≡◌, ℕ, ◌≤◌, Bool, true, false, List, [], length, None}
use Rattle.text.specs.Utf8.{utf8}
use Rattle.stream.specs.Streams.{EachFit}
use Rattle.tree.specs.declared.nodes.Content.{Content}
use Rattle.tree.specs.declared.nodes.Content.TheVariants.{Free, Array, Dictionary, Pair, Data, String}
use Rattle.tree.specs.Keys.{under}
use Rattle.tree.specs.Trees.{Trees, nil, node, count_of}
use Rattle.tree.specs.Walks.{spelled}

-- Strings and keys are UTF-8 (RFC 3629), they and Data have at most 1,024 bytes, and nothing else has a text.
abbrev pub TextFits : Content → List ℕ → Type 0
TextFits Pair bs = (length bs ≤ 1024) × (utf8 bs ≡ true)
TextFits Data bs = length bs ≤ 1024
TextFits String bs = (length bs ≤ 1024) × (utf8 bs ≡ true)
TextFits _ bs = bs ≡ []

-- no key of a row of pairs stands there again
abbrev pub Distinct : Trees → Type 0
Distinct nil = Unit {0}
Distinct (node n l ks ts) = (under l.bytes ts ≡ None) × Distinct ts

-- what may stand below: values below an array, pairs with distinct keys below a dictionary, one value below a pair, nothing below a scalar
abbrev pub BelowFits : Content → Trees → Type 0
BelowFits Free ks = ⊥
BelowFits Array ks = Unit {0}
BelowFits Dictionary ks = Distinct ks
BelowFits Pair ks = count_of ks ≡ 1
BelowFits _ ks = ks ≡ nil

-- whether a node is a pair, and whether pairs stand below it
abbrev pub is_pair : Content → Bool
is_pair Pair = true
is_pair _ = false

abbrev pub holds_pairs : Content → Bool
holds_pairs Dictionary = true
holds_pairs _ = false

-- a row of pairs, or of values, well-formed all the way down
abbrev pub Formed : Bool → Trees → Type 0
Formed pairs nil = Unit {0}
Formed pairs (node n l ks ts) = (is_pair l.content ≡ pairs) × TextFits l.content l.bytes × BelowFits l.content ks × Formed (holds_pairs l.content) ks × Formed pairs ts

-- what well-formed trees spell fits every event source
abbrev pub SpelledFit : Type 0
SpelledFit = (pairs : Bool) (ts : Trees) → Formed pairs ts → EachFit (spelled ts)
