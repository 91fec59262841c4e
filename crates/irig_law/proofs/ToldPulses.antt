-- Which pulses of a stretch are doubted, by what is known of it.
use Rattle.std.proofs.Common.{◌≡◌, ◌<◌, ◌+◌, ◌-◌, ◌*◌, ℕ, Bool, true, false, List, length, slice_get, Some, arith, refl, sym, ◌∙◌, subst}
use Rattle.std.specs.Prelude.{◌↔◌, nat_lt}
use Rattle.std.proofs.lemmas.Option.{same_Some}
use Rattle.irig_codes.specs.Format.{FormatView}
use Rattle.irig_recording.specs.declared.pulse.Pulse.{Pulse}
use Rattle.irig_law.specs.{Clocks.slack_of, Denials.seen_after, Denials.seen_before, Doubting.IsDoubted, Doubting.doubted_by, Fits.Fits}
use Rattle.irig_law.specs.Happened.{AreDenials, HasHappened, is_doubtful_in}
use Rattle.irig_law.specs.{Quiet.is_doubtful, Told.IsTold}
use Rattle.irig_law.specs.declared.{frame.Frame.Frame, happened.Happened.Happened, names.Seen.Seen, told.Told.Told}
use Rattle.irig_law.specs.declared.happened.Happened.TheVariants.{Nothing}

module _ (f : FormatView) (century : ℕ) (ps : List Pulse) (a b : Frame) (t : Told) (told : IsTold f century ps a b t) (i : ℕ)
    (inside : a.marker + i < b.marker) where
  one-is : (s : Seen) → slice_get t.after.items i ≡ Some s → s ≡ seen_after f ps a (slack_of ps a b) (a.marker + i)
  one-is s at =
      let place : a.marker + i - a.marker ≡ i = omega arith in
      let there = told.after.each (a.marker + i) (let long = told.long in omega (arith, long, inside)) in
      same_Some s (seen_after f ps a (slack_of ps a b) (a.marker + i))
      (sym at ∙ subst (λ n. slice_get t.after.items n ≡ Some (seen_after f ps a (slack_of ps a b) (a.marker + i))) place there)

  other-is : (s : Seen) → slice_get t.before.items (b.marker - (a.marker + i)) ≡ Some s → s ≡ seen_before f ps b (slack_of ps a b) (a.marker + i)
  other-is s at =
      let there = told.before.each (a.marker + i) (let long = told.long_too in omega (arith, long, inside)) in
      same_Some s (seen_before f ps b (slack_of ps a b) (a.marker + i)) (sym at ∙ there)

  -- without an event, by the list of how many pulses deny each frame
  pub quiet-doubted : (n : ℕ) → t.happened ≡ Nothing n → (r : Bool) (s u : Seen) → slice_get t.after.items i ≡ Some s
      → slice_get t.before.items (b.marker - (a.marker + i)) ≡ Some u
      → r ≡ doubted_by f a b (100 * n) (is_doubtful_in t.denials.items) (a.marker + i) s u
      → (r ≡ true) ↔ IsDoubted f century ps a b (a.marker + i)
  quiet-doubted n is r s u at at-too e =
      let k = a.marker + i in
      let fit : Fits f century ps a b n = subst (λ (h : Happened). HasHappened f century ps a b h) is told.happened in
      let deny : AreDenials f ps a b (Nothing n) t.denials.items = subst (λ (h : Happened). AreDenials f ps a b h t.denials.items) is told.denials in
      let value : r ≡ doubted_by f a b (100 * n) (is_doubtful f ps a b n) k (seen_after f ps a (slack_of ps a b) k) (seen_before f ps b (slack_of ps a b) k) =
      e ∙ (λ j. doubted_by f a b (100 * n) (λ q. nat_lt 1 (deny q j)) k (one-is s at j) (other-is u at-too j)) in (
        λ yes. record { periods = n; fits = fit; is = sym value ∙ yes },
        λ d. (let same : d.periods ≡ n = same_Some d.periods n (sym d.fits.times ∙ fit.times) in
            value ∙ subst (λ m. doubted_by f a b (100 * m) (is_doubtful f ps a b m) k (seen_after f ps a (slack_of ps a b) k)
            (seen_before f ps b (slack_of ps a b) k) ≡ true) same d.is),
      )
