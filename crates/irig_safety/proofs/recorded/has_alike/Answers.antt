use Rattle.std.proofs.Common.{◌≡◌, ◌∙◌, ltb, ltb-false, ltb-true, true, false, arith, refl, rules, sym}
use Rattle.std.proofs.lemmas.List.Sorted.{IsPartitionPoint-from_clause, IsPartitionedBy-ltb}
use Rattle.std.proofs.lemmas.Option.{slice_get-get_or}
use Rattle.irig_recording.specs.declared.pulse.Pulse.{Pulse}
use Rattle.irig_safety.proofs.RecordedLemmas.{found_here, none_at_all, none_early, none_later, none_more}
use Rattle.irig_safety.proofs.recorded.has_alike.Goals as goal

pub loop-place-init : goal.loop-place-init
loop-place-init c =
    let low = c.saturating_sub-low.result in
    let parted = IsPartitionedBy-ltb (λ (q : Pulse). q.rise) _ low c.requires in
    let point = IsPartitionPoint-from_clause (λ (q : Pulse). ltb q.rise low) _ _ c.partition_point-first.ensures.partitioned parted (λ a r q k. search rules) in
    none_early c.args.format c.args.any_class c.args.recorded.now c.args.pulse c.partition_point-first.result c.reach_of-reach.result low
    c.reach_of-reach.ensures c.saturating_sub-low.ensures (λ j d less. ltb-true _ _ (point.0 j d (omega arith) less))

pub returns-then-saturating_sub-pulse : goal.returns-then-saturating_sub-pulse
returns-then-saturating_sub-pulse c = (
  λ t. absurd (cc),
  λ found. absurd (none_later c.args.format c.args.any_class c.args.recorded.now c.args.pulse c.loop-place.place c.reach_of-reach.result c.saturating_sub.result
      _ c.requires
      (slice_get-get_or c.args.recorded.now c.loop-place.place _ c.loop-place-test.true) c.reach_of-reach.ensures
      c.saturating_sub.ensures (omega (arith, c.if-saturating_sub-pulse.true)) c.loop-place.invariant found),
)

pub returns-then-is_alike : goal.returns-then-is_alike
returns-then-is_alike c =
    let low = c.saturating_sub-low.result in
    let parted = IsPartitionedBy-ltb (λ (q : Pulse). q.rise) _ low c.requires in
    let point =
    IsPartitionPoint-from_clause (λ (q : Pulse). ltb q.rise low) _ _ c.partition_point-first.ensures.partitioned parted (λ a r q k. search rules) in (
      λ t. found_here c.args.format c.args.any_class c.args.recorded.now c.args.pulse c.loop-place.place c.reach_of-reach.result low c.saturating_sub.result _
          (slice_get-get_or c.args.recorded.now c.loop-place.place _ c.loop-place-test.true) c.reach_of-reach.ensures
          c.saturating_sub-low.ensures (λ d. ltb-false _ _ (point.1 c.loop-place.place d c.loop-place.auto.place c.loop-place-test.true))
          c.saturating_sub.ensures (omega (arith, c.if-saturating_sub-pulse.false)) (c.is_alike.ensures.0 c.if-is_alike.true),
      λ found. refl,
    )

pub loop-place-preserved : goal.loop-place-preserved
loop-place-preserved c =
    none_more c.args.format c.args.any_class c.args.recorded.now c.args.pulse c.loop-place.place _
    (slice_get-get_or c.args.recorded.now c.loop-place.place _ c.loop-place-test.true)
    (λ s. let bad : true ≡ false = sym (c.is_alike.ensures.1 s) ∙ c.if-is_alike.false in cc) c.loop-place.invariant

pub returns : goal.returns
returns c = (
  λ t. absurd (cc),
  λ found. absurd (none_at_all c.args.format c.args.any_class c.args.recorded.now c.args.pulse c.loop-place.place
      (omega (arith, c.loop-place-test.false)) c.loop-place.invariant found),
)
