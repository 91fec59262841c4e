-- Each moment without a time has a reason.
use Rattle.std.proofs.Common.{◌≡◌, inl, inr, ◌≤◌, ◌+◌, ◌-◌, ◌/◌, ℕ, zero, suc, Bool, List, length, slice_get, get_or, Some, arith, refl, sym, ap, ◌∙◌}
use Rattle.std.proofs.lemmas.Bool.{cases_lt}
use Rattle.std.proofs.lemmas.Option.{same_Some, slice_get-get_or, slice_get_within}
use Rattle.irig_codes.specs.Format.{FormatView}
use Rattle.irig_recording.specs.declared.pulse.Pulse.{Pulse}
use Rattle.irig_track.specs.Splices.{risen_by}
use Rattle.irig_times.specs.declared.why.Why.{Why}
use Rattle.irig_law.specs.declared.frame.Frame.{Frame}
use Rattle.irig_timed.specs.{Held.held, Knowns.IsKnownIn, Moments.frames_by, Knowns.NoneIffWhy, Knowns.OneWhy}
use Rattle.irig_timed.specs.{Reasons.IsWhyBy, Reasons.reason_in, Runs.AreRunsTo, Runs.RunsBy, Knowns.IsAround}
use Rattle.irig_timed.specs.Runs.{nth_of, place_at, place_before}
use Rattle.irig_timed.specs.declared.{around.Around.Around, gap.Gap.Gap, run.Run.Run}
use Rattle.irig_timed.proofs.{AroundRuns.between-is, AroundRuns.inside-is, OneReason.one_why, RunPlaces.none-run, RunPlaces.runs_to_here}

module _ (f : FormatView) (ps : List Pulse) (n : ℕ) (runs : List Run) (are : AreRunsTo f ps n runs) (number : ℕ) where
  -- how many runs begin before a pulse, if all from one on do not
  count : (m : ℕ) → m ≤ length runs → ((i : ℕ) (r : Run) → slice_get runs i ≡ Some r → m ≤ i → number ≤ r.number)
      → (many : ℕ) × (many ≤ length runs) × RunsBy runs number many
  count zero le after = (0, omega arith, record { before = λ i r at less. absurd (omega (arith, less)); after = after })
  count (suc p) le after =
      let at = slice_get-get_or runs p none-run (omega (arith, le)) in
      let r = get_or runs p none-run in
      elim (cases_lt r.number number) [
        | inl less ↦ (
          suc p,
          le,
          record {
            before = λ i s there early. runs_to_here f ps n runs are number p r at less i s there (omega (arith, early));
            after = after;
          },
        )
        | inr ge ↦ count p (omega (arith, le)) (λ i s there from. elim (cases_lt p i) [
          | inl later ↦ after i s there (omega (arith, later))
          | inr here ↦
              let place : i ≡ p = omega (arith, from, here) in
              let same = same_Some s r (sym there ∙ (ap (λ (j : ℕ). slice_get runs j) place ∙ at)) in
              let numbers = ap (λ (z : Run). z.number) same in omega (arith, numbers, ge)
        ])
      ]

  some-count : (many : ℕ) × (many ≤ length runs) × RunsBy runs number many
  some-count = count (length runs) (omega arith) (λ i r at le. (let inside = slice_get_within runs i r at in absurd (omega (arith, inside, le))))

module _ (f : FormatView) (century : ℕ) (ps : List Pulse) (believed : List Frame) (held : List Bool) (runs : List Run) (gaps : List Gap)
    (known : IsKnownIn f century ps believed held runs gaps) (risen : ℕ) where
  between : (place : ℕ) → place ≤ length runs → RunsBy runs risen place
      → ((p : ℕ) (r : Run) → slice_get runs p ≡ Some r → suc p ≡ place → r.number + r.count ≤ risen)
      → (a : Around) × IsAround f century ps believed held risen a
  between place within parted ended = (
    _,
    between-is f century ps believed held runs gaps known risen place within parted ended (place_before runs place) (place_at runs place) _ refl refl
        (known.are_gaps place within),
  )

  by-place : (place : ℕ) → place ≤ length runs → RunsBy runs risen place → (a : Around) × IsAround f century ps believed held risen a
  by-place zero within parted = between 0 within parted (λ p r at last. absurd (omega (arith, last)))
  by-place (suc p) within parted =
      let at = slice_get-get_or runs p none-run (omega (arith, within)) in
      let r = get_or runs p none-run in
      let low = parted.before p r at (omega arith) in
      elim (cases_lt (risen - r.number) r.count) [
        | inl less ↦ (
          _,
          inside-is f century ps believed held runs gaps known risen p (risen - r.number) r at low refl less (nth_of r (risen - r.number - 1))
              (nth_of r (risen - r.number)) refl refl,
        )
        | inr ge ↦ between (suc p) within parted (λ q s there last.
            let place : q ≡ p = omega (arith, last) in
            let same = same_Some s r (sym there ∙ (ap (λ (j : ℕ). slice_get runs j) place ∙ at)) in
            let numbers = ap (λ (z : Run). z.number) same in
            let counts = ap (λ (z : Run). z.count) same in
            omega (arith, numbers, counts, ge, low))
      ]

  some-why : (why : Why) × IsWhyBy f century ps believed held risen why
  some-why =
      let many = some-count f ps (length ps) runs known.are_runs risen in
      let there = by-place many.0 many.1 many.2 in
      (reason_in there.0.gap, record { from = there.0.from; to = there.0.to; around = there.1.around; is = ap reason_in there.1.gap })

pub one_reason : OneWhy
one_reason f alone century ps known k d n v w a b =
    one_why f century ps (frames_by f alone century ps) (held f alone century ps) known (risen_by (n / d) ps) v w k a.is b.is

pub none_iff_reason : NoneIffWhy
none_iff_reason f alone century ps known k d n = (
  λ none.
      let it = some-why f century ps (frames_by f alone century ps) (held f alone century ps) known.runs.items known.gaps.items k.0 (risen_by (n / d) ps) in
      (it.0, record { none = none; is = it.1 }),
  λ h. h.1.none,
)
