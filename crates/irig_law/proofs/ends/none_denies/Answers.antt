use Rattle.std.proofs.Common.{◌≡◌, inl, inr, ◌+◌, ◌*◌, ◌^◌, ◌≤◌, ℕ, false, slice_get, true, arith, refl, sym, ap, ◌∙◌, subst}
use Rattle.std.specs.Prelude.{if◌then◌else◌}
use Rattle.std.proofs.lemmas.Bool.{both_ways, cases_lt}
use Rattle.irig_law.specs.{Clocks.clock_of, Clocks.end_slack, Denials.denies_named, Ends.seen_at_end, Names.seen_at}
use Rattle.irig_law.specs.Rows.{half_in, place_in, rise_in, runs_in}
use Rattle.irig_law.specs.declared.names.Seen.TheVariants.{Named, Unknown}
use Rattle.irig_law.proofs.{SeenAtEnds.loosely-next, SeenAtEnds.only-named}
use Rattle.irig_law.proofs.Walked.{moved-element, moved-last, walk-next}
use Rattle.irig_law.proofs.ends.none_denies.Goals as goal

pub loop-place-preserved : goal.loop-place-preserved
loop-place-preserved c =
    let f = c.args.format in
    let ps = c.args.pulses.now.track.pulses in
    let a = c.args.frame.now in
    let row = c.args.row.now in
    let slack = end_slack ps a in
    let clock = clock_of f ps a slack in
    let rise = rise_in ps row in
    let runs = runs_in f ps row in
    let half = half_in f ps row in
    let k = c.loop-place.place in
    let w = c.loop-place.walk in
    let before = c.loop-place.invariant in
    let first = ap (λ t. t.pulses) c.end_slack-slack.ensures.pulses in
    let at-clock : c.clock_of-clock.result ≡ clock =
    c.clock_of-clock.ensures.clock ∙ (λ i. clock_of f (first i) a (c.end_slack-slack.ensures.slack i)) in
    let one = before.track in
    let two = c.judged_at-judged.ensures.pulses ∙ one in
    let three = c.half_in-half.ensures.pulses ∙ two in
    let four = c.denies_named.ensures.pulses ∙ three in
    let judged = c.judged_at-judged.ensures.seen ∙ (λ i. seen_at (at-clock i) (rise_in (one i).pulses row) (λ k. true) k w) in
    let is-half : c.half_in-half.result ≡ half k = c.half_in-half.ensures.half ∙ (λ i. half_in f (two i).pulses row k) in
    let is-runs : c.runs_in-runs.result ≡ runs k = c.runs_in-runs.ensures.runs ∙ (λ i. runs_in f (four i).pulses row k) in
    let seen : c.only_if-seen.result ≡ seen_at_end f ps a row k =
    c.only_if-seen.ensures ∙ ((λ i. if is-half i then judged i else Unknown) ∙ loosely-next clock rise runs half k w before.some before.walk) in
    let firm : c.only_if-firm.result ≡ seen_at clock rise runs k w = c.only_if-firm.ensures ∙ (λ i. if is-runs i then judged i else Unknown) in
    let is : c.denies_named.result ≡ denies_named f a row.is_back (slice_get ps (place_in row k)) (seen_at_end f ps a row k) =
    c.denies_named.ensures.denies
    ∙ (λ i. denies_named f a row.is_back (slice_get (three i).pulses (c.place_in-number.ensures.is i)) (seen i)) in
    let s = c.only_if-firm.result in
    let next = c.moved-walk.ensures in
    let element = before.element in
    let low : (e : ℕ) → s ≡ Named e → e ≤ 2 ^ 36 * (k + 1) = λ e at.
    (let less = c.judged_at-judged.ensures.low e
    (only-named c.runs_in-runs.result c.judged_at-judged.result e (sym c.only_if-firm.ensures ∙ at)) in omega (arith, less, element)) in
    record {
      some = omega arith;
      track = c.runs_in-runs.ensures.pulses ∙ four;
      kept = c.denies_named.ensures.kept;
      last = let less = moved-last w k s before.last in let same = ap (λ v. v.last) next in omega (arith, less, same);
      element = let less = moved-element w k (2 ^ 36 * (k + 1)) s (omega (arith, element)) low in
          let same = ap (λ v. v.element) next in omega (arith, less, same);
      walk = next ∙ walk-next clock rise runs k w s before.some before.walk firm;
      none = λ j some high. elim (cases_lt j k) [
        | inl less ↦ before.none j some less
        | inr more ↦ (let at : k ≡ j = omega (arith, more, high) in
            subst (λ (j : ℕ). denies_named f a row.is_back (slice_get ps (place_in row j)) (seen_at_end f ps a row j) ≡ false) at
            (sym is ∙ c.if-denies_named.false))
      ];
    }

pub returns-then-denies_named-clause-none : goal.returns-then-denies_named-clause-none
returns-then-denies_named-clause-none c =
    let f = c.args.format in
    let ps = c.args.pulses.now.track.pulses in
    let a = c.args.frame.now in
    let row = c.args.row.now in
    let clock = clock_of f ps a (end_slack ps a) in
    let k = c.loop-place.place in
    let w = c.loop-place.walk in
    let before = c.loop-place.invariant in
    let first = ap (λ t. t.pulses) c.end_slack-slack.ensures.pulses in
    let at-clock : c.clock_of-clock.result ≡ clock =
    c.clock_of-clock.ensures.clock ∙ (λ i. clock_of f (first i) a (c.end_slack-slack.ensures.slack i)) in
    let one = before.track in
    let two = c.judged_at-judged.ensures.pulses ∙ one in
    let three = c.half_in-half.ensures.pulses ∙ two in
    let judged = c.judged_at-judged.ensures.seen ∙ (λ i. seen_at (at-clock i) (rise_in (one i).pulses row) (λ k. true) k w) in
    let is-half : c.half_in-half.result ≡ half_in f ps row k = c.half_in-half.ensures.half ∙ (λ i. half_in f (two i).pulses row k) in
    let seen : c.only_if-seen.result ≡ seen_at_end f ps a row k =
    c.only_if-seen.ensures ∙ ((λ i. if is-half i then judged i else Unknown)
    ∙ loosely-next clock (rise_in ps row) (runs_in f ps row) (half_in f ps row) k w before.some before.walk) in
    let is : c.denies_named.result ≡ denies_named f a row.is_back (slice_get ps (place_in row k)) (seen_at_end f ps a row k) =
    c.denies_named.ensures.denies
    ∙ (λ i. denies_named f a row.is_back (slice_get (three i).pulses (c.place_in-number.ensures.is i)) (seen i)) in (
      (λ no. absurd cc),
      (λ none. absurd (both_ways c.denies_named.result (is ∙ none k (omega (arith, before.some)) c.loop-place-test.true) c.if-denies_named.true)),
    )

pub returns-then-denies_named-clause-pulses : goal.returns-then-denies_named-clause-pulses
returns-then-denies_named-clause-pulses c =
    c.denies_named.ensures.pulses ∙ (c.half_in-half.ensures.pulses ∙ (c.judged_at-judged.ensures.pulses ∙ c.loop-place.invariant.track))

pub returns-clause-none : goal.returns-clause-none
returns-clause-none c = (
  λ yes k some high. c.loop-place.invariant.none k some (omega (arith, high, c.loop-place-test.false)),
  λ none. refl,
)

pub denies_named-requires-clause-low : goal.denies_named-requires-clause-low
denies_named-requires-clause-low c e at =
    let less = c.judged_at-judged.ensures.low e (only-named c.half_in-half.result c.judged_at-judged.result e (sym c.only_if-seen.ensures ∙ at)) in
    let element = c.loop-place.invariant.element in
    omega (arith, less, element, c.loop-place-test.true, c.requires.row.1)
