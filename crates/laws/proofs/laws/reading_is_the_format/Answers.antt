use Rattle.laws.proofs.Instances.{format_samples}
use Rattle.laws.proofs.Theorems.{reading_is_the_format_lem}
use Rattle.laws.proofs.laws.reading_is_the_format.Goals as goal

pub returns : goal.returns
returns c =
    let decides = c.utf8_agrees.ensures.agrees.test in
    let notation = c.notation_stands.ensures in
    record { exactly = reading_is_the_format_lem decides notation; samples = format_samples decides notation }
