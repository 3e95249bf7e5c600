use Rattle.std.proofs.Common.{◌≡◌, ◌-◌, min, length, replicate, ◌∙◌, arith, rules}
use borrow.Rule.Slice.PartMut.{put_mid}
use Rattle.stream.specs.Scratch.{zeroed}
use Rattle.stream.proofs.Zeros.{zeroed_part, zeroed_none, zeroed_behind}
use Rattle.stream.proofs.scratch.clear.Goals as goal

pub returns-then-from-end : goal.returns-then-from-end
returns-then-from-end c =
    let n = c.args.from in
    let e = c.min-end.result in
    let s = c.args.scratch.now in
    let is : e ≡ min (length s) 1024 = search rules in
    let zeros : c.fill.new.self ≡ replicate (e - n) 0 = search rules in
    let all : put_mid n (e - n) s c.fill.new.self ≡ zeroed n s = zeroed_part n e s c.fill.new.self is (omega arith) zeros in
    record { all = all; room = λ room small. all ∙ zeroed_behind n s room small }

pub returns-else-from-end : goal.returns-else-from-end
returns-else-from-end c =
    let n = c.args.from in
    let s = c.args.scratch.now in
    let is : c.min-end.result ≡ min (length s) 1024 = search rules in
    let all : s ≡ zeroed n s = zeroed_none n s (omega arith) in
    record { all = all; room = λ room small. all ∙ zeroed_behind n s room small }
