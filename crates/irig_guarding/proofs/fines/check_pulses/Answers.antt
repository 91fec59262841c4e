use Rattle.irig_safety.specs.Original.{with_frames}
use Rattle.irig_guarding.proofs.PulseLemmas.{rooted_stand, unrooted_stray}
use Rattle.irig_guarding.proofs.fines.check_pulses.Goals as goal

pub returns-then-is_empty-clause-stand : goal.returns-then-is_empty-clause-stand
returns-then-is_empty-clause-stand c =
    rooted_stand (with_frames c.args.former.now c.args.opened.now) c.args.session.now.state c.args.seen.now _ _ c.is_empty.ensures c.if-is_empty.true
    c.requires.seen c.check_rooted.ensures.rooted

pub returns-then-is_empty-clause-stray : goal.returns-then-is_empty-clause-stray
returns-then-is_empty-clause-stray c =
    unrooted_stray (with_frames c.args.former.now c.args.opened.now) c.args.session.now.state c.args.seen.now _ _ c.is_empty.ensures c.if-is_empty.true
    c.requires.seen c.check_rooted.ensures.unrooted
