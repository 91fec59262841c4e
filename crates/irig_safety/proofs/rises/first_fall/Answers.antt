use Rattle.std.proofs.Common.{◌∙◌, arith, ltb, ltb-false, ltb-true, rules, sym}
use Rattle.std.proofs.lemmas.List.Sorted.{IsPartitionPoint-from_clause, IsPartitionedBy-ltb}
use Rattle.irig_recording.specs.declared.pulse.Pulse.{Pulse}
use Rattle.irig_safety.proofs.RiseLemmas.{all_early}
use Rattle.irig_safety.proofs.rises.first_fall.Goals as goal
use Rattle.irig_safety.proofs.rises.first_fall.Goals.{then-place-eq0, else-place-eq0}

pub returns-clause-before : goal.returns-clause-before
returns-clause-before c =
    let parted = IsPartitionedBy-ltb (λ (q : Pulse). q.fall) _ c.args.time c.requires in
    let point =
    IsPartitionPoint-from_clause (λ (q : Pulse). ltb q.fall c.args.time) _ _ c.partition_point.ensures.partitioned parted (λ a r q k. search rules) in
    λ j d less within. ltb-true _ _ (point.0 j d (omega arith) less)

pub returns-clause-after : goal.returns-clause-after
returns-clause-after c =
    let parted = IsPartitionedBy-ltb (λ (q : Pulse). q.fall) _ c.args.time c.requires in
    let point =
    IsPartitionPoint-from_clause (λ (q : Pulse). ltb q.fall c.args.time) _ _ c.partition_point.ensures.partitioned parted (λ a r q k. search rules) in
    λ d within. ltb-false _ _ (point.1 c.partition_point.result d (omega arith) within)

pub returns-then-pulses-place-clause-before : goal.returns-then-pulses-place-clause-before
returns-then-pulses-place-clause-before c = λ j d less within. elim c.if-place-eq0.branch [
  | then-place-eq0 w ↦ absurd (omega (arith, less, w.if-place-eq0.true))
  | else-place-eq0 w ↦ all_early (λ (q : Pulse). q.fall) c.args.pulses.now c.args.time c.args.place _ c.requires (omega (arith, c.if-place-pulses.true))
      (omega (arith, w.if-place-eq0.false)) (ltb-true _ _ (sym w.value-is ∙ c.if-pulses-place.true)) j d less within
]
