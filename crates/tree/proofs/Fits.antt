-- Well-formed trees spell events that fit.
use Rattle.std.proofs.Common.{ℕ, List, [], ◌∷◌, ◌++◌}
use Rattle.stream.specs.Streams.{Ev, Fit, EachFit}
use Rattle.tree.specs.declared.nodes.Content.{Content}
use Rattle.tree.specs.declared.nodes.Content.TheVariants.{Array, Dictionary, Pair, Data, String}
use Rattle.tree.specs.Trees.{nil, node, count_of}
use Rattle.tree.specs.Walks.{opening, closing, spelled}
use Rattle.tree.specs.Forms.{TextFits, holds_pairs, SpelledFit}

each_append : (es fs : List Ev) → EachFit es → EachFit fs → EachFit (es ++ fs)
each_append [] fs a b = b
each_append (e ∷ es) fs a b = (a.0, each_append es fs a.1 b)

opening_fits : (c : Content) (k : ℕ) (bs : List ℕ) → TextFits c bs → Fit (opening c k bs)
opening_fits Pair k bs t = t
opening_fits Data k bs t = t
opening_fits String k bs t = t
opening_fits _ k bs t = tt

closing_fits : (c : Content) → EachFit (closing c)
closing_fits Array = (tt, tt)
closing_fits Dictionary = (tt, tt)
closing_fits _ = tt

pub spelled_fit : SpelledFit
spelled_fit pairs nil f = tt
spelled_fit pairs (node n l ks ts) f = (
  opening_fits l.content (count_of ks) l.bytes f.1,
  each_append (spelled ks) (closing l.content ++ spelled ts) (spelled_fit (holds_pairs l.content) ks f.3)
      (each_append (closing l.content) (spelled ts) (closing_fits l.content) (spelled_fit pairs ts f.4)),
)
