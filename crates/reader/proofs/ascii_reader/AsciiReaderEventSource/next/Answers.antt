use Rattle.std.proofs.Common.{arith, rules}
use Rattle.reader.specs.Meanings.{meaning}
use Rattle.reader.proofs.Answered.{next_event, next_end, next_refusal}
use Rattle.reader.proofs.ascii_reader.AsciiReaderEventSource.next.Goals as goal

pub returns-in-Ok-Some : goal.returns-in-Ok-Some
returns-in-Ok-Some g c =
    next_event c.args.scratch.now c.read.new.text c.clear.new.scratch (search rules) (omega arith) (meaning g.S.ByteSource c.args.self.now) (meaning g.S.ByteSource c.read.new.self)
    c.in-Ok-Some.event (search rules) c.text_length.result c.text_length.ensures c.clear.ensures.room

pub returns-in-Ok-None : goal.returns-in-Ok-None
returns-in-Ok-None g c =
    next_end c.args.scratch.now c.read.new.text c.clear-in-Ok-None.new.scratch (search rules) (omega arith) (meaning g.S.ByteSource c.args.self.now) (meaning g.S.ByteSource c.read.new.self)
    (search rules) (c.clear-in-Ok-None.ensures.room (omega arith) (omega arith))

pub returns-in-Err : goal.returns-in-Err
returns-in-Err g c =
    next_refusal c.args.scratch.now c.read.new.text c.clear-in-Err.new.scratch (search rules) (omega arith) (meaning g.S.ByteSource c.args.self.now)
    c.in-Err.error (search rules) (c.clear-in-Err.ensures.room (omega arith) (omega arith))
