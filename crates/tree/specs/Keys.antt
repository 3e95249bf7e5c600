-- Keys of a dictionary.
use Rattle.std.specs.Prelude.{ℕ, cond, List, Some, None, Option}
use Rattle.std.specs.Str.{bytes_eq}
use Rattle.tree.specs.Trees.{Trees, nil, node}

-- the first of a row of pairs with the given key, byte by byte
abbrev pub under : List ℕ → Trees → Option ℕ
under key nil = None
under key (node n l ks ts) = cond (bytes_eq l.bytes key) (Some n) (under key ts)
