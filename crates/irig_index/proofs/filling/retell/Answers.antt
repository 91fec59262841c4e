use Rattle.std.proofs.Common.{◌≡◌, ℕ, ◌-◌, ◌<◌, List, [], ◌∷◌, ◌++◌, take, drop, length, slice_get, Some, ap, sym, subst, ◌∙◌, arith}
use Rattle.std.proofs.lemmas.{List.take-append-drop, Option.slice_get_within}
use Rattle.irig_codes.specs.Format.{FormatView}
use Rattle.irig_recording.specs.declared.pulse.Pulse.{Pulse}
use Rattle.irig_index.specs.Stale.{MayBeStale, LastMayBeStale, last_retold, retold}
use Rattle.irig_index.specs.{declared.record.Record.Record, Frames.frame_at, Kept.IsNarrow, Marker.class_at, Sides.shown, Verdict.verdict_of}
use Rattle.irig_index.proofs.StaleLemmas.{LastMayBeStale-there, last_retold-push}
use Rattle.irig_index.proofs.{LookLemmas.looked_more, LookLemmas.looked_up, NarrowVerdicts.narrow-verdict_of, ShownLemmas.first-last, ShownLemmas.first-set}
use Rattle.irig_index.proofs.filling.retell.Goals as goal

-- the last of the first records
module _ (f : FormatView) (ps : List Pulse) (xs : List Record) (count : ℕ) (r : Record) (some : 0 < count)
    (there : slice_get xs (count - 1) ≡ Some r) where
  first : take count xs ≡ take (count - 1) xs ++ r ∷ []
  first = first-last xs (count - 1) count r (omega arith) there

  -- is one that may be stale
  last_stale : (settled : ℕ) → LastMayBeStale f ps settled (take count xs) → MayBeStale f ps settled r
  last_stale settled stale = LastMayBeStale-there f ps settled (take (count - 1) xs) r (subst (LastMayBeStale f ps settled) first stale)

  -- read again
  told_last : (s : Record) → s ≡ retold f ps r → take (count - 1) xs ++ s ∷ [] ≡ last_retold f ps (take count xs)
  told_last s same = ap (λ t. take (count - 1) xs ++ t ∷ []) same ∙ (sym (last_retold-push f ps (take (count - 1) xs) r) ∙ ap (last_retold f ps) (sym first))

pub returns-then-marker-settled-clause-shown : goal.returns-then-marker-settled-clause-shown
returns-then-marker-settled-clause-shown c =
    let ps = c.args.lens.now.track.pulses in
    let xs = shown c.args.pulses c.args.records.now in
    let count = c.args.count in
    let r = c.record_at.result in
    let there = c.record_at.ensures in
    let stale = last_stale c.args.format ps xs count r (omega arith) there c.args.settled c.requires.stale in
    sym (take-append-drop count xs)
    ∙ ap (λ rs. rs ++ drop count xs) (first c.args.format ps xs count r (omega arith) there
    ∙ told_last c.args.format ps xs count r (omega arith) there r (λ i. record { marker = r.marker; verdict = stale.told (omega arith) i }))

pub pulse-first-requires : goal.pulse-first-requires
pulse-first-requires c =
    let ps = c.args.lens.now.track.pulses in
    let stale = last_stale c.args.format ps _ c.args.count _ (omega arith) c.record_at.ensures c.args.settled c.requires.stale in
    subst (λ n. n < length ps) (sym c.marker-marker.ensures) (slice_get_within ps c.record_at.result.marker stale.first stale.stands)

pub verdict-verdict-requires-clause-position : goal.verdict-verdict-requires-clause-position
verdict-verdict-requires-clause-position c =
    let ps = c.args.lens.now.track.pulses in
    let stale = last_stale c.args.format ps _ c.args.count _ (omega arith) c.record_at.ensures c.args.settled c.requires.stale in
    let both = sym c.pulse-first.ensures.value ∙ (ap (slice_get ps) c.marker-marker.ensures ∙ stale.stands) in
    let same : c.pulse-first.result ≡ stale.first = cc in
    ap (class_at c.args.format) same ∙ stale.position

pub new-requires : goal.new-requires
new-requires c = subst IsNarrow (sym c.verdict-verdict.ensures.verdict) (narrow-verdict_of c.args.format _)

pub returns-clause-shown : goal.returns-clause-shown
returns-clause-shown c =
    let xs = shown c.args.pulses c.args.records.now in
    let count = c.args.count in
    let r = c.record_at.result in
    let there = c.record_at.ensures in
    let verdict = c.verdict-verdict.ensures.verdict
    ∙ (λ i. verdict_of c.args.format (frame_at (c.pulse-first.ensures.counted i).track.pulses (c.marker-marker.ensures i))) in
    let made = c.new.ensures ∙ (λ i. record { marker = c.marker-marker.ensures i; verdict = verdict i }) in
    c.set_record.ensures.shown
    ∙ (first-set xs (count - 1) count r (omega arith) there _
    ∙ ap (λ rs. rs ++ drop count xs) (told_last c.args.format c.args.lens.now.track.pulses xs count r (omega arith) there _ made))

pub returns-clause-looked : goal.returns-clause-looked
returns-clause-looked c =
    let check = c.verdict-verdict.ensures.looked in
    let marker = c.marker-marker.result in
    looked_more _ _ _ _ _ _ 1 99 100 (record { made = 1; few = omega arith; lens = c.pulse-first.ensures.counted; count = c.add_looks.ensures })
    (looked_up _ _ _ _ (check.reach - marker) 99 check.looked (omega (arith, check.to))) (omega arith)
