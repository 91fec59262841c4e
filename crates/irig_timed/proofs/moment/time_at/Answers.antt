use Rattle.std.proofs.Common.{◌≡◌, ◌+◌, ◌-◌, ◌*◌, ◌/◌, ◌<◌, ◌^◌, length, slice_get, Some, arith, sym, ap, ◌∙◌, subst}
use Rattle.std.proofs.lemmas.Option.{none-some, same_Some}
use Rattle.irig_times.proofs.PulseLooks.{through-next}
use Rattle.irig_timed.specs.{Line.elements_after, Line.time_on, Moments.IsMomentOn}
use Rattle.irig_timed.specs.declared.moment.Moment.{Moment}
use Rattle.irig_timed.proofs.MomentFacts.{gap-line, known-by, line-facts, line-rises, moment-on, moment-same, no-moment}
use Rattle.irig_timed.proofs.Widest.{line-low}
use Rattle.irig_timed.proofs.moment.time_at.Goals as goal

pub returns-in_default-clause-pulses : goal.returns-in_default-clause-pulses
returns-in_default-clause-pulses c =
    let f = c.args.format in
    let century = c.args.century in
    let ps = c.args.pulses.now.track.pulses in
    let small : length ps < 2 ^ 27 = omega (arith, c.find-risen.ensures.track.few) in
    let track = ap (λ v. v.track) (c.find-risen.ensures.looked 27 small).lens in
    track

pub returns-in_default-clause-exact : goal.returns-in_default-clause-exact
returns-in_default-clause-exact c believed held known x =
    let f = c.args.format in
    let century = c.args.century in
    let ps = c.args.pulses.now.track.pulses in
    let lists = known-by f century ps believed held _ _ _ _ c.deref.ensures.value c.deref-2.ensures.value known.0 in
    let around = c.of-around.ensures.around f century ps believed held lists in (
      λ e. absurd (none-some _ e),
      λ h. absurd (no-moment f century ps believed held _ _ lists 1000000 c.args.picos c.find-risen.result c.find-risen.ensures.count
          c.of-around.result around c.in_default.ensures x.time x.bound h.0),
    )

pub pulse-begin-requires : goal.pulse-begin-requires
pulse-begin-requires c =
    let f = c.args.format in
    let century = c.args.century in
    let ps = c.args.pulses.now.track.pulses in
    let small : length ps < 2 ^ 27 = omega (arith, c.find-risen.ensures.track.few) in
    let track = ap (λ v. v.track) (c.find-risen.ensures.looked 27 small).lens in
    let around = c.of-around.ensures.around f century ps c.requires.known.0 c.requires.known.1
    (known-by f century ps c.requires.known.0 c.requires.known.1 _ _ _ _ c.deref.ensures.value c.deref-2.ensures.value c.requires.known.2.0) in
    let line = c.in-Some.line in
    let facts = line-facts f century ps c.requires.known.0 c.requires.known.1 c.find-risen.result c.of-around.result around line.from line.to line.bound
    c.in-Some.ensures in
    let inside = facts.inside in
    omega (arith, inside, ap (λ t. length t.pulses) track)

pub pulse-end-requires : goal.pulse-end-requires
pulse-end-requires c =
    let f = c.args.format in
    let century = c.args.century in
    let ps = c.args.pulses.now.track.pulses in
    let small : length ps < 2 ^ 27 = omega (arith, c.find-risen.ensures.track.few) in
    let track = ap (λ v. v.track) (c.find-risen.ensures.looked 27 small).lens in
    let around = c.of-around.ensures.around f century ps c.requires.known.0 c.requires.known.1
    (known-by f century ps c.requires.known.0 c.requires.known.1 _ _ _ _ c.deref.ensures.value c.deref-2.ensures.value c.requires.known.2.0) in
    let line = c.in-Some.line in
    let facts = line-facts f century ps c.requires.known.0 c.requires.known.1 c.find-risen.result c.of-around.result around line.from line.to line.bound
    c.in-Some.ensures in
    let inside = facts.inside_too in
    omega (arith, inside, ap (λ t. length t.pulses) track, ap (λ v. length v.track.pulses) c.pulse-begin.ensures.counted)

pub elements_after-elements-requires-clause-few : goal.elements_after-elements-requires-clause-few
elements_after-elements-requires-clause-few c =
    let f = c.args.format in
    let century = c.args.century in
    let ps = c.args.pulses.now.track.pulses in
    let small : length ps < 2 ^ 27 = omega (arith, c.find-risen.ensures.track.few) in
    let track = ap (λ v. v.track) (c.find-risen.ensures.looked 27 small).lens in
    let around = c.of-around.ensures.around f century ps c.requires.known.0 c.requires.known.1
    (known-by f century ps c.requires.known.0 c.requires.known.1 _ _ _ _ c.deref.ensures.value c.deref-2.ensures.value c.requires.known.2.0) in
    let line = c.in-Some.line in
    let facts = line-facts f century ps c.requires.known.0 c.requires.known.1 c.find-risen.result c.of-around.result around line.from line.to line.bound
    c.in-Some.ensures in
    (facts.few.0, facts.few_too.0)

pub overflow_sub-part : goal.overflow_sub-part
overflow_sub-part c =
    let f = c.args.format in
    let century = c.args.century in
    let ps = c.args.pulses.now.track.pulses in
    let small : length ps < 2 ^ 27 = omega (arith, c.find-risen.ensures.track.few) in
    let track = ap (λ v. v.track) (c.find-risen.ensures.looked 27 small).lens in
    let around = c.of-around.ensures.around f century ps c.requires.known.0 c.requires.known.1
    (known-by f century ps c.requires.known.0 c.requires.known.1 _ _ _ _ c.deref.ensures.value c.deref-2.ensures.value c.requires.known.2.0) in
    let line = c.in-Some.line in
    let facts = line-facts f century ps c.requires.known.0 c.requires.known.1 c.find-risen.result c.of-around.result around line.from line.to line.bound
    c.in-Some.ensures in
    let here = ap (λ t. slice_get t.pulses line.from.number) (sym track) ∙ c.pulse-begin.ensures.value in
    let track-too = ap (λ v. v.track) c.pulse-begin.ensures.counted ∙ track in
    let there = ap (λ t. slice_get t.pulses line.to.number) (sym track-too) ∙ c.pulse-end.ensures.value in
    let rises = line-rises c.args.pulses.now.track.micros ps c.find-risen.ensures.track (c.args.picos / 1000000) c.find-risen.result c.find-risen.ensures.count
    line.from line.to facts c.pulse-begin.result c.pulse-end.result here there in
    omega (arith, rises.0)

pub overflow_sub-whole : goal.overflow_sub-whole
overflow_sub-whole c =
    let f = c.args.format in
    let century = c.args.century in
    let ps = c.args.pulses.now.track.pulses in
    let small : length ps < 2 ^ 27 = omega (arith, c.find-risen.ensures.track.few) in
    let track = ap (λ v. v.track) (c.find-risen.ensures.looked 27 small).lens in
    let around = c.of-around.ensures.around f century ps c.requires.known.0 c.requires.known.1
    (known-by f century ps c.requires.known.0 c.requires.known.1 _ _ _ _ c.deref.ensures.value c.deref-2.ensures.value c.requires.known.2.0) in
    let line = c.in-Some.line in
    let facts = line-facts f century ps c.requires.known.0 c.requires.known.1 c.find-risen.result c.of-around.result around line.from line.to line.bound
    c.in-Some.ensures in
    let here = ap (λ t. slice_get t.pulses line.from.number) (sym track) ∙ c.pulse-begin.ensures.value in
    let track-too = ap (λ v. v.track) c.pulse-begin.ensures.counted ∙ track in
    let there = ap (λ t. slice_get t.pulses line.to.number) (sym track-too) ∙ c.pulse-end.ensures.value in
    let rises = line-rises c.args.pulses.now.track.micros ps c.find-risen.ensures.track (c.args.picos / 1000000) c.find-risen.result c.find-risen.ensures.count
    line.from line.to facts c.pulse-begin.result c.pulse-end.result here there in
    omega (arith, rises.0, rises.1)

pub time_on-time-requires-clause-from : goal.time_on-time-requires-clause-from
time_on-time-requires-clause-from c =
    let f = c.args.format in
    let century = c.args.century in
    let ps = c.args.pulses.now.track.pulses in
    let small : length ps < 2 ^ 27 = omega (arith, c.find-risen.ensures.track.few) in
    let track = ap (λ v. v.track) (c.find-risen.ensures.looked 27 small).lens in
    let around = c.of-around.ensures.around f century ps c.requires.known.0 c.requires.known.1
    (known-by f century ps c.requires.known.0 c.requires.known.1 _ _ _ _ c.deref.ensures.value c.deref-2.ensures.value c.requires.known.2.0) in
    let line = c.in-Some.line in
    let facts = line-facts f century ps c.requires.known.0 c.requires.known.1 c.find-risen.result c.of-around.result around line.from line.to line.bound
    c.in-Some.ensures in
    facts.few

pub time_on-time-requires-clause-to : goal.time_on-time-requires-clause-to
time_on-time-requires-clause-to c =
    let f = c.args.format in
    let century = c.args.century in
    let ps = c.args.pulses.now.track.pulses in
    let small : length ps < 2 ^ 27 = omega (arith, c.find-risen.ensures.track.few) in
    let track = ap (λ v. v.track) (c.find-risen.ensures.looked 27 small).lens in
    let around = c.of-around.ensures.around f century ps c.requires.known.0 c.requires.known.1
    (known-by f century ps c.requires.known.0 c.requires.known.1 _ _ _ _ c.deref.ensures.value c.deref-2.ensures.value c.requires.known.2.0) in
    let line = c.in-Some.line in
    let facts = line-facts f century ps c.requires.known.0 c.requires.known.1 c.find-risen.result c.of-around.result around line.from line.to line.bound
    c.in-Some.ensures in
    facts.few_too

pub time_on-time-requires-clause-part : goal.time_on-time-requires-clause-part
time_on-time-requires-clause-part c =
    let f = c.args.format in
    let century = c.args.century in
    let ps = c.args.pulses.now.track.pulses in
    let small : length ps < 2 ^ 27 = omega (arith, c.find-risen.ensures.track.few) in
    let track = ap (λ v. v.track) (c.find-risen.ensures.looked 27 small).lens in
    let around = c.of-around.ensures.around f century ps c.requires.known.0 c.requires.known.1
    (known-by f century ps c.requires.known.0 c.requires.known.1 _ _ _ _ c.deref.ensures.value c.deref-2.ensures.value c.requires.known.2.0) in
    let line = c.in-Some.line in
    let facts = line-facts f century ps c.requires.known.0 c.requires.known.1 c.find-risen.result c.of-around.result around line.from line.to line.bound
    c.in-Some.ensures in
    let here = ap (λ t. slice_get t.pulses line.from.number) (sym track) ∙ c.pulse-begin.ensures.value in
    let track-too = ap (λ v. v.track) c.pulse-begin.ensures.counted ∙ track in
    let there = ap (λ t. slice_get t.pulses line.to.number) (sym track-too) ∙ c.pulse-end.ensures.value in
    let rises = line-rises c.args.pulses.now.track.micros ps c.find-risen.ensures.track (c.args.picos / 1000000) c.find-risen.result c.find-risen.ensures.count
    line.from line.to facts c.pulse-begin.result c.pulse-end.result here there in
    (omega (arith, rises.0, rises.1), omega (arith, rises.0, rises.1))

pub returns-clause-exact : goal.returns-clause-exact
returns-clause-exact c believed held known x =
    let f = c.args.format in
    let century = c.args.century in
    let ps = c.args.pulses.now.track.pulses in
    let small : length ps < 2 ^ 27 = omega (arith, c.find-risen.ensures.track.few) in
    let track = ap (λ v. v.track) (c.find-risen.ensures.looked 27 small).lens in
    let lists = known-by f century ps believed held _ _ _ _ c.deref.ensures.value c.deref-2.ensures.value known.0 in
    let around = c.of-around.ensures.around f century ps believed held lists in
    let line = c.in-Some.line in
    let here = ap (λ t. slice_get t.pulses line.from.number) (sym track) ∙ c.pulse-begin.ensures.value in
    let track-too = ap (λ v. v.track) c.pulse-begin.ensures.counted ∙ track in
    let there = ap (λ t. slice_get t.pulses line.to.number) (sym track-too) ∙ c.pulse-end.ensures.value in
    let of-time = moment-on f century ps believed held _ _ lists 1000000 c.args.picos c.find-risen.result c.find-risen.ensures.count c.of-around.result around
    line.from line.to line.bound c.in-Some.ensures c.pulse-begin.result c.pulse-end.result here there in
    let same = moment-same f century ps believed held _ _ lists 1000000 c.args.picos c.find-risen.result c.find-risen.ensures.count c.of-around.result around
    line.from line.to line.bound c.in-Some.ensures c.pulse-begin.result c.pulse-end.result here there in
    let time : c.time_on-time.result ≡ time_on f line.from.point line.to.point (elements_after f century line.from.point line.to.point)
    (c.args.picos - 1000000 * c.pulse-begin.result.rise) (1000000 * (c.pulse-end.result.rise - c.pulse-begin.result.rise)) =
    c.time_on-time.ensures ∙ ap (λ n. time_on f line.from.point line.to.point n (c.args.picos - 1000000 * c.pulse-begin.result.rise)
    (1000000 * (c.pulse-end.result.rise - c.pulse-begin.result.rise))) c.elements_after-elements.ensures.elements in (
      λ e. subst (λ (y : Moment). IsMomentOn f century ps believed 1000000 c.args.picos y) (same_Some _ x e)
          (of-time c.time_on-time.result time),
      λ h.
          let it = same x.time x.bound h.0 in
          λ i. Some (record { time = (time ∙ it.0) i; bound = it.1 i; from = (it.2 ∙ h.1) i; to = (it.3 ∙ h.2) i }),
    )

pub returns-clause-low : goal.returns-clause-low
returns-clause-low c =
    let f = c.args.format in
    let century = c.args.century in
    let ps = c.args.pulses.now.track.pulses in
    let small : length ps < 2 ^ 27 = omega (arith, c.find-risen.ensures.track.few) in
    let believed = c.requires.known.0 in
    let held = c.requires.known.1 in
    let lists = known-by f century ps believed held _ _ _ _ c.deref.ensures.value c.deref-2.ensures.value c.requires.known.2.0 in
    let around = c.of-around.ensures.around f century ps believed held lists in
    let line = c.in-Some.line in
    let facts = line-facts f century ps believed held c.find-risen.result c.of-around.result around line.from line.to line.bound c.in-Some.ensures in
    let inside = facts.inside in
    let inside-too = facts.inside_too in
    let track = ap (λ v. v.track) (c.find-risen.ensures.looked 27 small).lens in
    let here = ap (λ t. slice_get t.pulses line.from.number) (sym track) ∙ c.pulse-begin.ensures.value in
    let track-too = ap (λ v. v.track) c.pulse-begin.ensures.counted ∙ track in
    let there = ap (λ t. slice_get t.pulses line.to.number) (sym track-too) ∙ c.pulse-end.ensures.value in
    let gap = gap-line f century ps believed held _ _ lists 1000000 c.args.picos c.find-risen.result c.find-risen.ensures.count c.of-around.result around
    line.from line.to line.bound c.in-Some.ensures c.pulse-begin.result c.pulse-end.result here there in (
      omega (arith, inside, small),
      omega (arith, inside-too, small),
      line-low f century ps believed line.from line.to line.bound gap,
    )

pub returns-clause-pulses : goal.returns-clause-pulses
returns-clause-pulses c =
    let f = c.args.format in
    let century = c.args.century in
    let ps = c.args.pulses.now.track.pulses in
    let small : length ps < 2 ^ 27 = omega (arith, c.find-risen.ensures.track.few) in
    let track = ap (λ v. v.track) (c.find-risen.ensures.looked 27 small).lens in
    ap (λ v. v.track) c.pulse-end.ensures.counted ∙ (ap (λ v. v.track) c.pulse-begin.ensures.counted ∙ track)

pub returns-clause-looked : goal.returns-clause-looked
returns-clause-looked c digits few =
    let all = through-next _ _ _ (digits + 1)
    (through-next _ _ _ digits (c.find-risen.ensures.looked digits few) c.pulse-begin.ensures.counted) c.pulse-end.ensures.counted in
    record { made = all.made; few = omega (arith, all.few); lens = all.lens }
