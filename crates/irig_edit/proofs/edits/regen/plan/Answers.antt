use Rattle.std.proofs.Common.{rules, ℕ, subst, ◌≡◌, ◌≤◌, ◌+◌, ◌-◌, ◌*◌, ◌^◌, true, false, length, refl, ap, sym, ◌∙◌, arith}
use Rattle.irig_codes.specs.Format.{FormatView, control_count_of}
use Rattle.irig_moment.specs.{Generated.starts_in, Moment.MomentView}
use Rattle.irig_track.specs.Splices.{CanSplice, spliced}
use Rattle.irig_edit.specs.Edits.Conditions.{are_frames, is_met, are_too_many}
use Rattle.irig_edit.specs.Edits.Regenerated.{frames_end, frames_pulses, rising_before, rising_in}
use Rattle.irig_edit.specs.{Edits.Becoming.Becomes, Session.Calls.Edit.Regen, State.State.IsState, State.State.State, State.State.with_pulses}
use Rattle.irig_saved.specs.{declared.change.Change.TheVariants.One, declared.single.Single.TheVariants.Splice}
use Rattle.irig_edit.proofs.EditLemmas.GenerationTests.{end_said, frames_said, too_many_yes, too_many_no, is_wide_yes, is_wide_no}
use Rattle.irig_edit.proofs.edits.regen.plan.Goals.{After-control_count, After-moment-1, After-rising_before, After-starts}
use Rattle.irig_edit.proofs.{EditLemmas.Regenerations.regenerated, StateLemmas.Risings.before_end}
use Rattle.irig_edit.proofs.edits.regen.plan.Goals as goal

-- what is known of a state once the places of the start and of the end are found
record Found (start frames at by : ℕ) (s : State) : Type 0 where
  there : are_frames start frames s ≡ true
  free : is_met start s ≡ false
  is_at : at ≡ length (rising_before start s.pulses)
  is_by : by ≡ length (rising_before (frames_end s.format start frames) s.pulses)
  sum : length (rising_before start s.pulses) + length (rising_in start (frames_end s.format start frames) s.pulses)
      ≡ length (rising_before (frames_end s.format start frames) s.pulses)

found : (c : After-rising_before) → Found c.args.start c.args.frames c.rising_before-at.result c.rising_before.result c.args.present.now.state
found c =
    let s = c.args.present.now.state in
    let said = end_said (are_frames c.args.start c.args.frames s) (frames_end s.format c.args.start c.args.frames) c.in-Some.end
    (sym c.end_of.ensures ∙ c.in-Some.is) in
    record {
      there = said.0;
      free = sym c.is_met.ensures ∙ c.if-is_met.false;
      is_at = c.rising_before-at.ensures.count;
      is_by = c.rising_before.ensures.count ∙ ap (λ t. length (rising_before t s.pulses)) (sym said.1);
      sum = before_end c.args.start (frames_end s.format c.args.start c.args.frames) s.pulses (omega arith);
    }

-- the frames are not too many, if they were not refused as such
few : (c : After-moment-1) → length c.args.present.now.state.pulses + 100 * c.args.frames ≤ 2 ^ 22 + (c.rising_before.result - c.rising_before-at.result)
few c = omega (arith, c.room.ensures, ap length c.track.ensures.pulses, c.if-frames-room.false)

fitting : {start frames at by : ℕ} {s : State} → Found start frames at by s → length s.pulses + 100 * frames ≤ 2 ^ 22 + (by - at)
    → are_too_many start frames s ≡ false
fitting {start} {frames} {at} {by} {s} f few = too_many_no start frames at by s f.is_at f.is_by few

pub overflow_sub-count : goal.overflow_sub-count
overflow_sub-count c =
    let f = found (goal.at.overflow_sub-count c).After-rising_before in
    omega (arith, f.sum, f.is_at, f.is_by)

pub returns-then-frames-room-clause-plan : goal.returns-then-frames-room-clause-plan
returns-then-frames-room-clause-plan c =
    let s = c.args.present.now.state in
    let f = found (goal.at.returns-then-frames-room-clause-plan c).After-rising_before in
    let many : are_too_many c.args.start c.args.frames s ≡ true =
    too_many_yes c.args.start c.args.frames c.rising_before-at.result c.rising_before.result s c.rising_before-at.ensures.count f.is_by
    (omega (
      arith,
      c.room.ensures,
      ap length c.track.ensures.pulses,
      c.if-frames-room.true,
      f.sum,
      c.rising_before-at.ensures.count,
      f.is_by,
    )) in
    rw f.there (rw f.free (rw many refl))

-- whether the moment can be encoded, as it was asked
starting : (c : After-starts) → starts_in c.args.present.now.state.format c.args.moment ≡ c.starts.result
starting c = sym (ap (λ (f : FormatView). starts_in f c.args.moment) c.format-format.ensures) ∙ sym c.starts.ensures

-- the count of control elements of the state's format
counting : (c : After-control_count) → c.control_count.result ≡ control_count_of c.args.present.now.state.format
counting c = c.control_count.ensures.value ∙ ap (λ (f : FormatView). control_count_of f) c.format-format.ensures

pub returns-then-not-starts-clause-plan : goal.returns-then-not-starts-clause-plan
returns-then-not-starts-clause-plan c =
    let at = goal.at.returns-then-not-starts-clause-plan c in
    let f = found at.After-rising_before in
    let fit = fitting f (few at.After-moment-1) in
    let bad = starting at.After-starts ∙ c.if-not-starts.true in
    rw f.there (rw f.free (rw fit (rw bad refl)))

pub returns-then-control-control_count-gt0-clause-plan : goal.returns-then-control-control_count-gt0-clause-plan
returns-then-control-control_count-gt0-clause-plan c =
    let at = goal.at.returns-then-control-control_count-gt0-clause-plan c in
    let f = found at.After-rising_before in
    let fit = fitting f (few at.After-moment-1) in
    let good = starting at.After-starts ∙ c.if-not-starts.false in
    let wide = is_wide_yes c.args.control c.control_count.result c.args.present.now.state (counting at.After-control_count)
    c.if-control-control_count-gt0.true in
    rw f.there (rw f.free (rw fit (rw good (rw wide refl))))

-- the frames come where the pulses go
made : {start frames at by : ℕ} {s : State} (moment : MomentView) (control : ℕ) → Found start frames at by s → IsState s → by ≤ length s.pulses
    → length s.pulses + 100 * frames ≤ 2 ^ 22 + (by - at)
    → CanSplice s.micros at (by - at) (frames_pulses s.format start frames moment control) s.pulses
    × Becomes (Regen start frames moment control) s
    (with_pulses (spliced at (by - at) (frames_pulses s.format start frames moment control) s.pulses) s) (at + 100 * frames)
made {start} {frames} {at} {by} {s} moment control f is within fit =
    let both : at + (by - at) ≡ by = omega (arith, f.sum, f.is_at, f.is_by) in
    regenerated s start frames moment control at (by - at) is (frames_said start frames s f.there).2 f.free fit f.is_at (both ∙ f.is_by)
    (omega (arith, both, within))

pub returns-clause-plan : goal.returns-clause-plan
returns-clause-plan c =
    let s = c.args.present.now.state in
    let at = goal.at.returns-clause-plan c in
    let f = found at.After-rising_before in
    let room = few at.After-moment-1 in
    let good = starting at.After-starts ∙ c.if-not-starts.false in
    let narrow = is_wide_no c.args.control c.control_count.result s (counting at.After-control_count) c.if-control-control_count-gt0.false in
    let put = frames_pulses s.format c.args.start c.args.frames c.args.moment c.args.control in
    let first = c.rising_before-at.result in
    let gone = c.rising_before.result - first in
    let place : first ≡ first + 1 - 1 = omega arith in
    let both = made c.args.moment c.args.control f c.rising_before.ensures.state c.rising_before.ensures.within room in
    let counted : gone ≡ length (rising_in c.args.start (frames_end s.format c.args.start c.args.frames) s.pulses) = omega (arith, f.sum, f.is_at, f.is_by) in
    record {
      allowed = rw f.there (rw f.free (rw (fitting f room) (rw good (rw narrow refl))));
      there = search rules;
      can = subst (λ (n : ℕ). CanSplice s.micros n gone put s.pulses) place both.0;
      becomes = subst (λ (n : ℕ). Becomes (Regen c.args.start c.args.frames c.args.moment c.args.control) s (with_pulses (spliced n gone put s.pulses) s)
          (n + 100 * c.args.frames)) place both.1;
      change = (λ k. One (Splice (f.is_at k + 1) (counted k) put));
    }
