use Rattle.std.proofs.Common.{List, ap, ◌∙◌}
use Rattle.irig_law.specs.OfOne.{is_right}
use Rattle.irig_law.specs.declared.chain.Chain.{Chain}
use Rattle.irig_law.proofs.believed.rights_of.Goals as goal

pub returns : goal.returns
returns c = record {
  right = λ i. c.in_ok-list.ensures.right i
      ∙ ap (λ (cs : List Chain). is_right c.args.format c.args.century cs i) (c.deref.ensures.value ∙ c.in_ok-chains.ensures.chains);
}
