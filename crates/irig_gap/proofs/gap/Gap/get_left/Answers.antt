use Rattle.std.proofs.Common.{sym, ◌∙◌}
use Rattle.irig_gap.proofs.GapLemmas.{front_full, front_holds}
use Rattle.irig_gap.proofs.gap.Gap.get_left.Goals as goal

pub get-requires : goal.get-requires
get-requires g c = front_full _ _ _ _ c.self.view_is c.self.invariant.0 _ c.requires

pub returns : goal.returns
returns g c = sym (front_holds _ _ _ _ c.self.view_is c.self.invariant.0 _ c.requires) ∙ c.get.ensures
