-- Comments: what each takes.
use Rattle.std.specs.Prelude.{ℕ, ◌+◌, Bool, false, cond, [], ◌∷◌, ◌==◌}
use Rattle.stream.specs.declared.errors.Error.TheVariants.{IncompleteComment}
use Rattle.reader.specs.Steps.{Run, pure, refuse, ◌>>=◌, step_gives, step, then}
use Rattle.reader.specs.declared.states.Comment.{Comment}
use Rattle.reader.specs.declared.states.Comment.TheVariants.{Plain, Star}

-- A line comment takes all bytes up to a line feed, which it leaves, or to the end.
abbrev pub line_comment_lem : Run (Unit {0})
line_comment_lem p [] e = pure tt p [] e
line_comment_lem p (x ∷ xs) e = cond (x == 10) (pure tt p (x ∷ xs) e) (then (step_gives p (x ∷ xs) e) (line_comment_lem (p + 1) xs e))

-- a `/` behind a `*` closes a block comment
abbrev pub closes : Comment → ℕ → Bool
closes Plain x = false
closes Star x = x == 47

-- how it stands behind any other byte
abbrev pub state_after : ℕ → Comment
state_after x = cond (x == 42) Star Plain

-- A block comment in a state goes on to the byte that closes it, which it takes. The end is refused.
abbrev pub in_comment : Comment → Run (Unit {0})
in_comment s p [] e = then (step_gives p [] e) (refuse IncompleteComment p [] e)
in_comment s p (x ∷ xs) e = then (step_gives p (x ∷ xs) e) (cond (closes s x) (pure tt (p + 1) xs e) (in_comment (state_after x) (p + 1) xs e))

-- a block comment behind its `/`: its `*` is taken, and it starts in Plain
abbrev pub block_comment_lem : Run (Unit {0})
block_comment_lem = do
  _ ← step
  in_comment Plain
