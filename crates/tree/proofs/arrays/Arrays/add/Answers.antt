use Rattle.std.proofs.Common.{sym, ◌∙◌, subst}
use Rattle.cells.specs.Chains.{rest}
use Rattle.texts.specs.Texts.{Answered}
use Rattle.tree.proofs.Adding.{mapped_ok, model_added}
use Rattle.tree.proofs.arrays.Arrays.add.Goals as goal

pub returns : goal.returns
returns c = record {
  added = λ ts rep.
      let a = c.args.self.now in
      let took = c.take.ensures.some c.unwrap-n.result c.unwrap-n.ensures in
      let wrote = mapped_ok c.write_text-wrote.result c.map_err.result _ c.in_ok-first.first c.map_err.ensures.cases c.map_err.ensures.variant c.in_ok-first.was in
      let text = (subst (Answered a.texts a.free_texts c.args.text.now c.write_text-wrote.new.cells c.write_text-wrote.new.list) wrote c.write_text-wrote.ensures.wrote).1 rep.1 rep.2.texts in (
        text.0,
        (
          rest rep.0,
          text.1,
          model_added a _ _ _ ts rep.0 rep.1 text.0 text.1 c.unwrap-n.result _ _ _ _ (sym c.take.ensures.result ∙ c.unwrap-n.ensures) took.0 took.1 c.write_text-wrote.auto.cells text.2 rep.2,
        ),
      );
}
