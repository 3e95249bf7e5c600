use Rattle.std.proofs.Common.{sym, ◌∙◌}
use Rattle.std.proofs.lemmas.Result.{err_from_is_err_and}
use Rattle.reader.specs.States.{seen}
use Rattle.reader.proofs.Items.{reads_begun_refusal, reads_event, reads_on, reads_step_refusal, reads_end}
use Rattle.reader.proofs.ascii_reader.Scanner.read_next.Goals as goal

pub returns-in_err-c : goal.returns-in_err-c
returns-in_err-c g c =
    let u = seen g.S.ByteSource c.loop-c.self in
    let v = seen g.S.ByteSource c.advance.new.self in
    let out = err_from_is_err_and c.from_residual.result c.from_residual.ensures.1 in
    rw (out.1, out.2) (sym c.loop-c.invariant ∙ reads_step_refusal u v c.in_err-c.field-0.0 c.in_err-c.ensures)

pub returns-in_err-event : goal.returns-in_err-event
returns-in_err-event g c =
    let u = seen g.S.ByteSource c.loop-c.self in
    let v = seen g.S.ByteSource c.advance.new.self in
    let w = seen g.S.ByteSource c.read_item.new.self in
    let out = err_from_is_err_and c.from_residual-in_err-event.result c.from_residual-in_err-event.ensures.1 in
    rw (out.1, out.2) (sym c.loop-c.invariant ∙ reads_begun_refusal u v w c.in_ok-c.field-0 c.in-Some.c c.in-Some.is c.in_ok-c.ensures c.in_err-event.field-0.0 c.in_err-event.ensures.ran)

pub returns-in-Some-2 : goal.returns-in-Some-2
returns-in-Some-2 g c =
    let u = seen g.S.ByteSource c.loop-c.self in
    let v = seen g.S.ByteSource c.advance.new.self in
    let w = seen g.S.ByteSource c.read_item.new.self in
    let e = reads_event u v w c.in_ok-c.field-0 c.in-Some.c c.in-Some.is c.in_ok-c.ensures c.read_item.new.text c.in_ok-event.field-0 c.in_ok-event.ensures.ran c.in-Some-2.event c.in-Some-2.is c.in_ok-event.ensures.fits in
    (sym c.loop-c.invariant ∙ e.0, e.1)

pub loop-c-preserved : goal.loop-c-preserved
loop-c-preserved g c =
    let u = seen g.S.ByteSource c.loop-c.self in
    let v = seen g.S.ByteSource c.advance.new.self in
    let w = seen g.S.ByteSource c.read_item.new.self in
    (reads_on u v w c.in_ok-c.field-0 c.in-Some.c c.in-Some.is c.in_ok-c.ensures c.read_item.new.text c.in_ok-event.field-0 c.in_ok-event.ensures.ran c.in_default-2.is).0 ∙ c.loop-c.invariant

pub returns : goal.returns
returns g c =
    let end = reads_end (seen g.S.ByteSource c.loop-c.self) (seen g.S.ByteSource c.advance.new.self) c.in_ok-c.field-0 c.in_default.is c.in_ok-c.ensures in
    (sym c.loop-c.invariant ∙ end.0, end.1 ∙ c.loop-c.invariant)
