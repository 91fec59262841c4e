use Rattle.std.proofs.Common.{◌≡◌, Bool, true, false, List, sym, ap, ◌∙◌, subst}
use Rattle.std.specs.Prelude.{◌↔◌}
use Rattle.irig_recording.specs.declared.pulse.Pulse.{Pulse}
use Rattle.irig_timed.specs.{Held.held, Moments.frames_by}
use Rattle.irig_agreement.specs.{Agreement.is_alike, Doubts.AreDoubts, Doubts.IsNextToDoubt}
use Rattle.irig_agreement.proofs.ChangeFacts.{agree-alike, agree-none, agree-undoubted, change-doubted, change-lost, change-other}
use Rattle.irig_agreement.proofs.judging.change_at.Goals as goal

pub time_at-one-requires-clause-known : goal.time_at-one-requires-clause-known
time_at-one-requires-clause-known c =
    let f = c.args.kept.now.format in
    let century = c.args.kept.now.century in
    let ps = c.args.before.now.track.pulses in
    (frames_by f false century ps, held f false century ps, c.requires.kept.known)

pub time_at-other-requires-clause-known : goal.time_at-other-requires-clause-known
time_at-other-requires-clause-known c =
    let f = c.args.kept.now.format in
    let century = c.args.kept.now.century in
    let ps = c.args.after.now.track.pulses in
    (frames_by f false century ps, held f false century ps, c.requires.known)

pub returns-then-is_alike-clause-change : goal.returns-then-is_alike-clause-change
returns-then-is_alike-clause-change c =
    let f = c.args.kept.now.format in
    let century = c.args.kept.now.century in
    let old = c.args.before.now.track.pulses in
    let new = c.args.after.now.track.pulses in
    let was = c.time_at-one.ensures.exact (frames_by f false century old) (held f false century old) c.requires.kept.known in
    let now = c.time_at-other.ensures.exact (frames_by f false century new) (held f false century new) c.requires.known in
    let x = c.in-Some-Some.one in
    let y = c.in-Some-Some.other in
    let before = ap (λ t. t.pulses) c.time_at-one.ensures.pulses in
    let after = ap (λ t. t.pulses) c.time_at-other.ensures.pulses in
    let alike = sym (λ i. is_alike f century (before i) (after i) x y) ∙ sym c.is_alike.ensures.alike in
    agree-alike f century old new c.args.moment c.time_at-one.result c.time_at-other.result was now x y c.in-Some-Some.is-0
    c.in-Some-Some.is-1 (alike ∙ c.if-is_alike.true)

pub returns-else-is_alike-clause-change : goal.returns-else-is_alike-clause-change
returns-else-is_alike-clause-change c =
    let f = c.args.kept.now.format in
    let century = c.args.kept.now.century in
    let old = c.args.before.now.track.pulses in
    let new = c.args.after.now.track.pulses in
    let was = c.time_at-one.ensures.exact (frames_by f false century old) (held f false century old) c.requires.kept.known in
    let now = c.time_at-other.ensures.exact (frames_by f false century new) (held f false century new) c.requires.known in
    let x = c.in-Some-Some.one in
    let y = c.in-Some-Some.other in
    let before = ap (λ t. t.pulses) c.time_at-one.ensures.pulses in
    let after = ap (λ t. t.pulses) c.time_at-other.ensures.pulses in
    let alike = sym (λ i. is_alike f century (before i) (after i) x y) ∙ sym c.is_alike.ensures.alike in
    change-other f century old new c.args.moment c.time_at-one.result c.time_at-other.result was now x y c.in-Some-Some.is-0
    c.in-Some-Some.is-1 (alike ∙ c.if-is_alike.false)

pub returns-in-Some-None-clause-change : goal.returns-in-Some-None-clause-change
returns-in-Some-None-clause-change c =
    let f = c.args.kept.now.format in
    let century = c.args.kept.now.century in
    let old = c.args.before.now.track.pulses in
    let new = c.args.after.now.track.pulses in
    let was = c.time_at-one.ensures.exact (frames_by f false century old) (held f false century old) c.requires.kept.known in
    let now = c.time_at-other.ensures.exact (frames_by f false century new) (held f false century new) c.requires.known in
    change-lost f century old new c.args.moment c.time_at-one.result c.time_at-other.result was now c.in-Some-None.field-0-0
    c.in-Some-None.is-0 c.in-Some-None.is-1

pub returns-then-is_next_to_doubt-clause-change : goal.returns-then-is_next_to_doubt-clause-change
returns-then-is_next_to_doubt-clause-change c =
    let f = c.args.kept.now.format in
    let century = c.args.kept.now.century in
    let old = c.args.before.now.track.pulses in
    let new = c.args.after.now.track.pulses in
    let was = c.time_at-one.ensures.exact (frames_by f false century old) (held f false century old) c.requires.kept.known in
    let now = c.time_at-other.ensures.exact (frames_by f false century new) (held f false century new) c.requires.known in
    let frames = frames_by f false century old in
    let before = ap (λ t. t.pulses) c.time_at-one.ensures.pulses in
    let are : AreDoubts f century c.time_at-one.new.pulses.track.pulses frames c.deref.result.now =
    subst (λ (l : List Bool). AreDoubts f century c.time_at-one.new.pulses.track.pulses frames l) (sym c.deref.ensures.value)
    (subst (λ (q : List Pulse). AreDoubts f century q frames c.args.kept.now.doubts.items) (sym before) c.requires.kept.doubts) in
    let next = subst (λ (q : List Pulse). (c.is_next_to_doubt.result ≡ true) ↔ IsNextToDoubt f century q frames c.args.moment) before
    (c.is_next_to_doubt.ensures.next f century frames are) in
    change-doubted f century old new c.args.moment c.time_at-one.result c.time_at-other.result was now c.in-None-Some.field-0-1
    c.in-None-Some.is-0 c.in-None-Some.is-1 (next.0 c.if-is_next_to_doubt.true)

pub returns-else-is_next_to_doubt-clause-change : goal.returns-else-is_next_to_doubt-clause-change
returns-else-is_next_to_doubt-clause-change c =
    let f = c.args.kept.now.format in
    let century = c.args.kept.now.century in
    let old = c.args.before.now.track.pulses in
    let new = c.args.after.now.track.pulses in
    let was = c.time_at-one.ensures.exact (frames_by f false century old) (held f false century old) c.requires.kept.known in
    let now = c.time_at-other.ensures.exact (frames_by f false century new) (held f false century new) c.requires.known in
    let frames = frames_by f false century old in
    let before = ap (λ t. t.pulses) c.time_at-one.ensures.pulses in
    let are : AreDoubts f century c.time_at-one.new.pulses.track.pulses frames c.deref.result.now =
    subst (λ (l : List Bool). AreDoubts f century c.time_at-one.new.pulses.track.pulses frames l) (sym c.deref.ensures.value)
    (subst (λ (q : List Pulse). AreDoubts f century q frames c.args.kept.now.doubts.items) (sym before) c.requires.kept.doubts) in
    let next = subst (λ (q : List Pulse). (c.is_next_to_doubt.result ≡ true) ↔ IsNextToDoubt f century q frames c.args.moment) before
    (c.is_next_to_doubt.ensures.next f century frames are) in
    agree-undoubted f century old new c.args.moment c.time_at-one.result c.time_at-other.result was now c.in-None-Some.is-0
    (λ n. (let on = next.1 n in cc (on, c.if-is_next_to_doubt.false)))

pub returns-in-None-None-clause-change : goal.returns-in-None-None-clause-change
returns-in-None-None-clause-change c =
    let f = c.args.kept.now.format in
    let century = c.args.kept.now.century in
    let old = c.args.before.now.track.pulses in
    let new = c.args.after.now.track.pulses in
    let was = c.time_at-one.ensures.exact (frames_by f false century old) (held f false century old) c.requires.kept.known in
    let now = c.time_at-other.ensures.exact (frames_by f false century new) (held f false century new) c.requires.known in
    agree-none f century old new c.args.moment c.time_at-one.result c.time_at-other.result was now c.in-None-None.is-0 c.in-None-None.is-1
