use Rattle.irig_words.proofs.Refusals.{may_refuse}
use Rattle.irig_words.proofs.errors.matches_of.Goals as goal

pub returns-clause-refused : goal.returns-clause-refused
returns-clause-refused c =
    may_refuse _ _ c.try_get_matches_from.result c.try_get_matches_from.ensures.passes (c.try_get_matches_from.ensures.kinds c.requires)
