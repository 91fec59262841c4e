use Rattle.std.proofs.Common.{inl, inr, rules}
use Rattle.irig_guarding.proofs.GuardLemmas.{idle_obeyed}
use Rattle.irig_guarding.proofs.guarding.try_repair.Goals as goal

pub returns-then-is_lone_comment-clause-tried : goal.returns-then-is_lone_comment-clause-tried
returns-then-is_lone_comment-clause-tried c =
    let idle = c.is_lone_comment.ensures.0 c.if-is_lone_comment.true in
    record { obeyed = idle_obeyed c.args.session.now _ idle; stays = inl idle }

pub returns-in-Ok-clause-tried : goal.returns-in-Ok-clause-tried
returns-in-Ok-clause-tried c = record { obeyed = search rules; stays = inr (search rules) }
