use Rattle.std.proofs.Common.{refl, ◌∙◌, ap, sym, subst, max, arith}
use Rattle.irig_recording.specs.Recording.{RisesFrom, UpTo, level_by_edges}
use Rattle.irig_difference.specs.{Flips.flips, Stretches.pairs}
use Rattle.irig_difference.proofs.FlipLists.{RisesFrom-flips, UpTo-flips, UpTo-more, even-flips}
use Rattle.irig_difference.proofs.Patches.{edges_of-stretches, patched-stretches, least_patch, no_stretches}
use Rattle.irig_difference.proofs.{FlipSets.flips-same, Levels.level-flips, Levels.level-stretches}
use Rattle.irig_difference.proofs.differences.Differences.between.Goals as goal

pub invariant_of-result : goal.invariant_of-result
invariant_of-result c =
    let b = c.pulses.ensures.lawful in let a = c.pulses-2.ensures.lawful in
    rw (c.new.ensures ∙ c.pulses.ensures.exact, c.new-2.ensures ∙ c.pulses-2.ensures.exact)
    (b.rises, a.rises, even-flips c.args.after.now.edges c.args.before.now.edges b.even a.even)

pub returns-clause-complete : goal.returns-clause-complete
returns-clause-complete c =
    let b = c.pulses.ensures.lawful in let a = c.pulses-2.ensures.lawful in
    let xs = c.args.before.now.edges in let ys = c.args.after.now.edges in
    rw (c.new.ensures ∙ c.pulses.ensures.exact, c.new-2.ensures ∙ c.pulses-2.ensures.exact)
    (λ t. level-stretches t 0 (pairs (flips ys xs))
    (subst (RisesFrom 0) (sym (edges_of-stretches xs ys b.even a.even b.rises a.rises)) (RisesFrom-flips ys xs b.rises))
    ∙ ap (level_by_edges t) (edges_of-stretches xs ys b.even a.even b.rises a.rises) ∙ level-flips t ys xs)

pub returns-clause-apart : goal.returns-clause-apart
returns-clause-apart c =
    let b = c.pulses.ensures.lawful in let a = c.pulses-2.ensures.lawful in
    let xs = c.args.before.now.edges in let ys = c.args.after.now.edges in
    rw (c.new.ensures ∙ c.pulses.ensures.exact, c.new-2.ensures ∙ c.pulses-2.ensures.exact)
    (subst (RisesFrom 0) (sym (edges_of-stretches xs ys b.even a.even b.rises a.rises)) (RisesFrom-flips ys xs b.rises))

pub returns-clause-within : goal.returns-clause-within
returns-clause-within c =
    let b = c.pulses.ensures.lawful in let a = c.pulses-2.ensures.lawful in
    let xs = c.args.before.now.edges in let ys = c.args.after.now.edges in
    let top = max c.args.before.now.micros c.args.after.now.micros in
    rw (c.new.ensures ∙ c.pulses.ensures.exact, c.new-2.ensures ∙ c.pulses-2.ensures.exact)
    (subst (UpTo top) (sym (edges_of-stretches xs ys b.even a.even b.rises a.rises))
    (UpTo-flips top ys xs (UpTo-more c.args.after.now.micros top ys (omega arith) a.within) (UpTo-more c.args.before.now.micros top xs (omega arith) b.within)))

pub returns-clause-patch : goal.returns-clause-patch
returns-clause-patch c =
    let b = c.pulses.ensures.lawful in let a = c.pulses-2.ensures.lawful in
    rw (c.new.ensures ∙ c.pulses.ensures.exact, c.new-2.ensures ∙ c.pulses-2.ensures.exact)
    (patched-stretches c.args.before.now.edges c.args.after.now.edges b.even a.even b.rises a.rises)

pub returns-clause-least : goal.returns-clause-least
returns-clause-least c =
    let b = c.pulses.ensures.lawful in let a = c.pulses-2.ensures.lawful in
    rw (c.new.ensures ∙ c.pulses.ensures.exact, c.new-2.ensures ∙ c.pulses-2.ensures.exact)
    (λ others e. least_patch others c.args.before.now.edges c.args.after.now.edges b.even a.even b.rises a.rises e)

pub returns-clause-none : goal.returns-clause-none
returns-clause-none c =
    let b = c.pulses.ensures.lawful in let a = c.pulses-2.ensures.lawful in
    let xs = c.args.before.now.edges in let ys = c.args.after.now.edges in
    rw (c.new.ensures ∙ c.pulses.ensures.exact, c.new-2.ensures ∙ c.pulses-2.ensures.exact) (
      λ e. no_stretches xs ys b.even a.even b.rises a.rises e,
      λ e. ap pairs (ap (flips ys) e ∙ flips-same ys a.rises),
    )

pub returns-clause-exact : goal.returns-clause-exact
returns-clause-exact c = rw (c.new.ensures ∙ c.pulses.ensures.exact, c.new-2.ensures ∙ c.pulses-2.ensures.exact) refl
