use Rattle.std.proofs.Common.{◌≡◌, ◌∙◌, ◌+◌, ℕ, arith, false, subst, sym, true}
use Rattle.std.proofs.lemmas.Option.{slice_get-get_or}
use Rattle.irig_guarding.proofs.FillingLemmas.{CountsAll, counts_end, counts_more, counts_none, counts_same}
use Rattle.irig_guarding.proofs.fillings.count_filled_among.Goals as goal
use Rattle.irig_guarding.proofs.fillings.count_filled_among.Goals.{then-not-has_all_recorded, else-not-has_all_recorded}

pub loop-frame-init : goal.loop-frame-init
loop-frame-init c = counts_none c.args.opened.now c.args.session.now.state c.args.frames.now

pub loop-frame-preserved : goal.loop-frame-preserved
loop-frame-preserved c = elim c.if-not-has_all_recorded.branch [
  | then-not-has_all_recorded w ↦ subst (λ (m : ℕ). CountsAll c.args.opened.now c.args.session.now.state c.args.frames.now m (c.loop-frame.frame-index + 1))
      (sym w.many-is)
      (counts_more c.args.opened.now c.args.session.now.state c.args.frames.now c.loop-frame.many c.loop-frame.frame-index _
      (slice_get-get_or c.args.frames.now c.loop-frame.frame-index _ c.loop-frame-test.true)
      (λ whole. let bad : false ≡ true = sym w.if-not-has_all_recorded.true ∙ c.has_all_recorded.ensures.1 whole in cc) c.loop-frame.invariant)
  | else-not-has_all_recorded w ↦ subst (λ (m : ℕ). CountsAll c.args.opened.now c.args.session.now.state c.args.frames.now m (c.loop-frame.frame-index + 1))
      (sym w.many-is)
      (counts_same c.args.opened.now c.args.session.now.state c.args.frames.now c.loop-frame.many c.loop-frame.frame-index _
      (slice_get-get_or c.args.frames.now c.loop-frame.frame-index _ c.loop-frame-test.true)
      (c.has_all_recorded.ensures.0 w.if-not-has_all_recorded.false) c.loop-frame.invariant)
]

pub returns : goal.returns
returns c = counts_end c.args.opened.now c.args.session.now.state c.args.frames.now _ c.loop-frame.frame-index
    (omega (arith, c.loop-frame-test.false)) c.loop-frame.invariant
