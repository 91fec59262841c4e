-- A pulse that has the same name by two frames.
use Rattle.std.proofs.Common.{◌≡◌, ◌<◌, ◌≤◌, ◌+◌, ◌-◌, ℕ, List, length, slice_get, Some, arith, sym, ap, ◌∙◌}
use Rattle.std.proofs.lemmas.Option.{same_Some}
use Rattle.irig_codes.specs.Format.{FormatView}
use Rattle.irig_recording.specs.declared.pulse.Pulse.{Pulse}
use Rattle.irig_law.specs.{Clocks.slack_of, Denials.seen_after, Denials.seen_before, Fits.Meets}
use Rattle.irig_law.specs.Seens.{MeetAt, SeenAfter, SeenBefore}
use Rattle.irig_law.specs.declared.{frame.Frame.Frame, names.Seen.Seen}
use Rattle.irig_law.specs.declared.names.Seen.TheVariants.{Named}

module _ (f : FormatView) (ps : List Pulse) (a b : Frame) (after before : List Seen) (n : ℕ) (order : a.marker < b.marker)
    (seen : SeenAfter f ps a (slack_of ps a b) after) (seen-too : SeenBefore f ps b (slack_of ps a b) before)
    (long : b.marker - a.marker + 1 ≤ length after) (long-too : length before ≡ b.marker - a.marker + 1) where
  pub meets-at : ((i : ℕ) × MeetAt after before n i) → Meets f ps a b n
  meets-at (i, m) =
      let k = a.marker + i in
      let inside = m.inside in
      let place : k - a.marker ≡ i = omega arith in
      let back : b.marker - k ≡ length before - 1 - i = omega (arith, long-too, order) in
      record {
        number = k;
        from = omega arith;
        to = omega (arith, inside, long-too, order);
        after = m.one;
        before = m.other;
        named = same_Some (seen_after f ps a (slack_of ps a b) k) (Named m.one)
            (sym (seen.each k (omega (arith, place, inside, long-too, long))) ∙ (ap (λ (j : ℕ). slice_get after j) place ∙ m.named));
        named_too = same_Some (seen_before f ps b (slack_of ps a b) k) (Named m.other)
            (sym (seen-too.each k (omega (arith, back, inside))) ∙ (ap (λ (j : ℕ). slice_get before j) back ∙ m.named_too));
        meets = m.meets;
      }

  pub met-at : Meets f ps a b n → (i : ℕ) × MeetAt after before n i
  met-at m =
      let from = m.from in
      let to = m.to in
      let back : length before - 1 - (m.number - a.marker) ≡ b.marker - m.number = omega (arith, long-too, order, from, to) in (
        m.number - a.marker,
        record {
          one = m.after;
          other = m.before;
          inside = omega (arith, from, to, long-too, order);
          named = seen.each m.number (omega (arith, from, to, long)) ∙ ap Some m.named;
          named_too = ap (λ (j : ℕ). slice_get before j) back ∙ (seen-too.each m.number (omega (arith, from, to, long-too, order)) ∙ ap Some m.named_too);
          meets = m.meets;
        },
      )
