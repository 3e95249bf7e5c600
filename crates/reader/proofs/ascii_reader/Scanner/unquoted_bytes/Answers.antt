use Rattle.std.proofs.Common.{ℕ, List, ap, arith}
use Rattle.std.proofs.lemmas.List.{take_more_set}
use Rattle.reader.specs.States.{seen, untaken, ends}
use Rattle.reader.specs.Texts.{plain}
use Rattle.reader.proofs.Chains.{stays}
use Rattle.reader.proofs.ascii_reader.Scanner.unquoted_bytes.Goals as goal

pub loop-self-init : goal.loop-self-init
loop-self-init g c =
    let v = seen g.S.ByteSource c.args.self.now in
    record {
      moved = stays v;
      fits = omega arith;
      goes_on = ap (λ (bs : List ℕ). plain bs v.position (untaken v) (ends v)) (take_more_set c.args.text.now 0 c.args.first (omega arith));
    }
