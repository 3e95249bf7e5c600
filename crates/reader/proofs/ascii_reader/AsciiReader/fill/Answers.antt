use Rattle.std.proofs.lemmas.Result.{err_from_is_err_and}
use Rattle.reader.proofs.Items.{reads_fault}
use Rattle.reader.proofs.ascii_reader.AsciiReader.fill.Goals as goal

pub returns-in_err-self-in-Unfilled : goal.returns-in_err-self-in-Unfilled
returns-in_err-self-in-Unfilled g c =
    let r = c.args.self.now.scanner in
    let out = err_from_is_err_and c.from_residual.result c.from_residual.ensures.1 in
    rw (out.1, out.2, c.in-Unfilled.is) (reads_fault r.position (g.S.ByteSource.bytes r.source) (g.S.ByteSource.ending r.source) c.in_err-self-in-Unfilled.field-0.0 c.in_err-self-in-Unfilled.ensures)
