-- What stands in a list of bytes: blanks, comments and tokens.
use Rattle.std.specs.Prelude.{ℕ, Bool, ◌||◌, Some, None, Option, ◌==◌}
use Rattle.stream.specs.Streams.{Ev}
use Rattle.stream.specs.declared.errors.Error.TheVariants.{IncompleteComment}
use Rattle.reader.specs.Comments.{line_comment_lem, block_comment_lem}
use Rattle.reader.specs.Steps.{Run, pure, refuse, ◌>>=◌, whether, step, peek}
use Rattle.reader.specs.Texts.{unquoted, quoted}

-- The next thing in a list: a token with its event, what is passed over, or the end.
pub data Item : Type 0 where
  token : Ev → Item
  passed_over : Item
  the_end : Item

-- Between tokens space, CR, tab, LF, `,`, `;` and `=` are passed over.
abbrev pub separator : ℕ → Bool
separator x = x == 32 || (x == 13 || (x == 9 || (x == 10 || (x == 44 || (x == 59 || x == 61)))))

abbrev pub as_token : Run Ev → Run Item
as_token run = run >>= λ ev. pure (token ev)

abbrev pub as_nothing : Run (Unit {0}) → Run Item
as_nothing run = run >>= λ _. pure passed_over

-- behind a `/` the lookahead decides: `/` and `*` begin comments, the end is refused, and any other byte leaves the `/` to a plain token
abbrev pub behind_slash : Option ℕ → Run Item
behind_slash None = refuse IncompleteComment
behind_slash (Some x) = whether (x == 47) (as_nothing line_comment_lem) (whether (x == 42) (as_nothing block_comment_lem) (as_token (unquoted 47)))

abbrev pub potential_comment_lem : Run Item
potential_comment_lem = peek >>= behind_slash

-- what begins with the byte x, which was taken
abbrev pub begun : ℕ → Run Item
begun x =
    whether (separator x) (pure passed_over)
    (whether (x == 40) (pure (token (Ev.StartArray None)))
    (whether (x == 123) (pure (token (Ev.StartDictionary None)))
    (whether (x == 41 || x == 125) (pure (token Ev.EndCollection))
    (whether (x == 39 || x == 34) (as_token (quoted x))
    (whether (x == 47) potential_comment_lem
    (as_token (unquoted x)))))))

abbrev pub begun_if : Option ℕ → Run Item
begun_if None = pure the_end
begun_if (Some x) = begun x

abbrev pub item : Run Item
item = step >>= begun_if
