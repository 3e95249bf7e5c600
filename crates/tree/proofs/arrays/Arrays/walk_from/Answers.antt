use Rattle.std.proofs.Common.{refl}
use Rattle.tree.proofs.Spells.{walk_says}
use Rattle.tree.proofs.arrays.Arrays.walk_from.Goals as goal

pub returns-clause-says : goal.returns-clause-says
returns-clause-says c = walk_says c.args.self.now c.args.n 1024 refl
