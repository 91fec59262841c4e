use Rattle.std.proofs.Common.{◌≤◌, ◌∙◌, ◌^◌, ◌++◌, ◌∷◌, [], ℕ, List, ap, arith, length, map, subst, sym}
use Rattle.std.specs.List.{All}
use Rattle.std.specs.List.Sorted.{IsNonDecreasingBy}
use Rattle.std.proofs.lemmas.List.{take_all}
use Rattle.irig_recording.specs.Recording.{RisesFrom, UpTo}
use Rattle.irig_explaining.specs.{Looks.IsTimely, declared.pulse.Pulse.Pulse}
use Rattle.irig_happenings.specs.Listings.{explained_pulse}
use Rattle.irig_happenings.proofs.Recorded.{few, in_order, one-more, timely}
use Rattle.irig_happenings.proofs.pulses.pulses_of.Goals as goal

pub returns-clause-exact : goal.returns-clause-exact
returns-clause-exact c =
    let held = c.pulses-held.result.now.items in record {
      held = held;
      are = c.pulses-held.ensures.exact;
      same = c.loop-place.invariant
          ∙ ap (map explained_pulse) (take_all c.loop-place.place held (omega (arith, c.len-place-end.ensures.len, c.loop-place-test.false)));
    }

pub returns-clause-few : goal.returns-clause-few
returns-clause-few c =
    let held = c.pulses-held.result.now.items in
    let same = c.loop-place.invariant
    ∙ ap (map explained_pulse) (take_all c.loop-place.place held (omega (arith, c.len-place-end.ensures.len, c.loop-place-test.false))) in
    subst (λ (ps : List Pulse). length ps ≤ 2 ^ 26) (sym same)
    (few held (subst (λ (es : List ℕ). length es ≤ 2 ^ 27) (sym c.pulses-held.ensures.exact) c.pulses-held.ensures.lawful.few))

pub returns-clause-order : goal.returns-clause-order
returns-clause-order c =
    let held = c.pulses-held.result.now.items in
    let same = c.loop-place.invariant
    ∙ ap (map explained_pulse) (take_all c.loop-place.place held (omega (arith, c.len-place-end.ensures.len, c.loop-place-test.false))) in
    subst (IsNonDecreasingBy (λ (p : Pulse). p.rise)) (sym same)
    (in_order 0 held (subst (RisesFrom 0) (sym c.pulses-held.ensures.exact) c.pulses-held.ensures.lawful.rises))

pub returns-clause-timely : goal.returns-clause-timely
returns-clause-timely c =
    let held = c.pulses-held.result.now.items in
    let lawful = c.pulses-held.ensures.lawful in
    let same = c.loop-place.invariant
    ∙ ap (map explained_pulse) (take_all c.loop-place.place held (omega (arith, c.len-place-end.ensures.len, c.loop-place-test.false))) in
    subst (All IsTimely) (sym same) (timely c.args.recording.micros held lawful.short (subst (UpTo c.args.recording.micros) (sym c.pulses-held.ensures.exact)
    lawful.within))

pub loop-place-preserved : goal.loop-place-preserved
loop-place-preserved c =
    let p = c.get-pulse.result in
    c.in_ok-push.ensures.items ∙ (ap (λ (ps : List Pulse). ps ++ explained_pulse p ∷ []) c.loop-place.invariant
    ∙ sym (one-more c.pulses-held.result.now.items c.loop-place.place p c.get-pulse.ensures))
