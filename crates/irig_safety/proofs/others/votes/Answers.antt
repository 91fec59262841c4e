use Rattle.std.proofs.Common.{◌∙◌, arith, false, sym, true}
use Rattle.std.proofs.lemmas.Option.{slice_get-get_or}
use Rattle.irig_safety.proofs.OtherLemmas.{vote_all, vote_none, vote_on, vote_same}
use Rattle.irig_safety.proofs.others.votes.Goals as goal
use Rattle.irig_safety.proofs.others.votes.Goals.{then-is_vote, else-is_vote}

pub loop-other-init : goal.loop-other-init
loop-other-init c = vote_none c.args.same_value c.args.function c.args.others.now c.args.frame.now

pub loop-other-preserved : goal.loop-other-preserved
loop-other-preserved c = elim c.if-is_vote.branch [
  | then-is_vote w ↦ vote_on c.args.same_value c.args.function c.args.others.now _ c.args.frame.now c.loop-other.many _ c.loop-other.other-index true
      (slice_get-get_or c.args.others.now c.loop-other.other-index _ c.loop-other-test.true) (sym w.if-is_vote.true ∙ c.is_vote.ensures)
      w.many-is c.loop-other.invariant
  | else-is_vote w ↦ vote_on c.args.same_value c.args.function c.args.others.now _ c.args.frame.now c.loop-other.many _ c.loop-other.other-index false
      (slice_get-get_or c.args.others.now c.loop-other.other-index _ c.loop-other-test.true) (sym w.if-is_vote.false ∙ c.is_vote.ensures)
      (vote_same w.many-is) c.loop-other.invariant
]

pub returns : goal.returns
returns c = vote_all c.args.same_value c.args.function c.args.others.now c.args.frame.now _ c.loop-other.other-index
    (omega (arith, c.loop-other-test.false)) c.loop-other.invariant
