use Rattle.std.proofs.Common.{map}
use Rattle.stream.specs.Lists.{listed}
use Rattle.stream.proofs.Listed.{part_whole}
use Rattle.stream.proofs.lists.EventList.new.Goals as goal

pub returns-clause-whole : goal.returns-clause-whole
returns-clause-whole c = part_whole 0 (map listed c.args.events.now) c.args.ending
