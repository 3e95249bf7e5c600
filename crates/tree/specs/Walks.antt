-- How trees are spelled by events, and what a walk over the arrays has still to say.
use Rattle.std.specs.Prelude.{ℕ, zero, suc, ◌-◌, min, cond, List, [], ◌∷◌, ◌++◌, Some, None, Option, ◌==◌}
use Rattle.text.specs.Integers.{value}
use Rattle.stream.specs.Streams.{Ev}
use Rattle.texts.specs.declared.cell.TextCell.{TextCell}
use Rattle.texts.specs.Texts.{front, cells_for, at as text_at}
use Rattle.tree.specs.declared.cursor.Cursor.{Cursor}
use Rattle.tree.specs.declared.cursor.Cursor.TheVariants.{Over, Enter, Leave}
use Rattle.tree.specs.declared.nodes.Node.{Node}
use Rattle.tree.specs.declared.nodes.Content.{Content}
use Rattle.tree.specs.declared.nodes.Content.TheVariants.{Free, Array, Dictionary, Pair, Boolean, Data, Integer, Real, String, Uid}
use Rattle.tree.specs.Trees.{Trees, nil, node, count_of, join, at}

-- what is said on coming to a node with so many nodes below it and this text: of a pair its key; of a free node nothing is ever said
abbrev pub opening : Content → ℕ → List ℕ → Ev
opening Free c bs = Ev.EndCollection
opening Array c bs = Ev.StartArray (Some c)
opening Dictionary c bs = Ev.StartDictionary (Some c)
opening Pair c bs = Ev.String bs
opening (Boolean b) c bs = Ev.Boolean b
opening Data c bs = Ev.Data bs
opening (Integer i) c bs = Ev.Integer (value i)
opening (Real x) c bs = Ev.Real x
opening String c bs = Ev.String bs
opening (Uid u) c bs = Ev.Uid u.value

-- what is said on leaving it
abbrev pub closing : Content → List Ev
closing Array = Ev.EndCollection ∷ []
closing Dictionary = Ev.EndCollection ∷ []
closing _ = []

-- the events of a row of trees
abbrev pub spelled : Trees → List Ev
spelled nil = []
spelled (node n l ks ts) = opening l.content (count_of ks) l.bytes ∷ (spelled ks ++ (closing l.content ++ spelled ts))

-- the tree of the node i, wherever it lies
abbrev pub subtree : ℕ → Trees → Trees
subtree i nil = nil
subtree i (node n l ks ts) = cond (i == n) (node n l ks nil) (join (subtree i ks) (subtree i ts))

-- the n bytes in a chain of text cells, at most f of them
unfoldable pub gathered : ℕ → List TextCell → Option ℕ → ℕ → List ℕ
gathered zero cs h n = []
gathered (suc f) cs None n = []
gathered (suc f) cs (Some i) n = front (min n 24) (text_at cs i).bytes ++ gathered f cs (text_at cs i).next (n - 24)

-- what a node says, from the arrays
abbrev pub said : List TextCell → Node → Ev
said cs x = opening x.content x.count (gathered (cells_for x.length) cs x.text x.length)

-- to the first node of a row below u, or out of u
abbrev pub within : Option ℕ → ℕ → Cursor
within None u = Leave u
within (Some j) u = Enter j

-- to the next node, or else out of the one above
abbrev pub along : Option ℕ → Option ℕ → Cursor
along (Some j) u = Enter j
along None (Some u) = Leave u
along None None = Over

-- from a node of the walk of `top` on, when it is left
abbrev pub past : Node → ℕ → ℕ → Cursor
past x top i = cond (i == top) Over (along x.next x.up)

-- one step of the walk of `top`
abbrev pub onward : List Node → ℕ → Cursor → Cursor
onward ns top Over = Over
onward ns top (Enter i) = within (at ns i).first i
onward ns top (Leave i) = past (at ns i) top i

-- what a walk of `top` has still to say from where it stands, in at most f steps
abbrev pub run : ℕ → List Node → List TextCell → ℕ → Cursor → List Ev
run zero ns cs top c = []
run (suc f) ns cs top Over = []
run (suc f) ns cs top (Enter i) = said cs (at ns i) ∷ run f ns cs top (within (at ns i).first i)
run (suc f) ns cs top (Leave i) = closing (at ns i).content ++ run f ns cs top (past (at ns i) top i)
