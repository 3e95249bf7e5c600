use Rattle.stream.specs.Equals.{error_decides}
use Rattle.stream.proofs.errors.equal_where_same.Goals as goal

pub returns-clause-errors : goal.returns-clause-errors
returns-clause-errors c = error_decides
