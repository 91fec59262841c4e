use Rattle.std.proofs.Common.{◌≡◌, ◌<◌, ◌+◌, ◌-◌, ◌/◌, ◌%◌, ◌^◌, ◌∙◌, ℕ, List, true≢false, sym, set, length, refl, ap, arith}
use Rattle.irig_recording.specs.KeptPulse.{front}
use Rattle.irig_recording.proofs.CountedUp.{kept_digit, counted_up, front_as_long}
use Rattle.irig_recording.proofs.kept_pulse.KeptPulse.count_up.Goals as goal

pub returns-clause-holds : goal.returns-clause-holds
returns-clause-holds c =
    let h = c.requires.holds in
    let p = c.args.self.now in
    let k = p.base / 10000 in
    let i = p.long - 9 in
    let few : k + 1 < 2 ^ 64 = omega (arith, c.requires.few) in
    let at : length (front k) ≡ i + 1 = omega (arith, h.fits) in
    let digit = kept_digit p h c.requires.few in
    let low : k % 10 < 9 = omega (arith, c.if-digit-ge57.false, digit) in
    let next : (p.base + 10000) / 10000 ≡ k + 1 = omega arith in
    record {
      rise = h.rise;
      fall = h.fall;
      pad = h.pad;
      is = rw (next, digit) (ap (λ (l : List ℕ). set (set l i (48 + k % 10 + 1)) (p.long + i) (48 + k % 10 + 1)) h.is
          ∙ counted_up k i (p.long + i) h.rise h.fall h.pad few low h.of_rise at (omega (arith, h.fits)));
      of_rise = h.of_rise;
      of_fall = h.of_fall;
      fits = rw next (ap (λ n. n + 8) (front_as_long k few low) ∙ h.fits);
      short = h.short;
      whole = omega (arith, h.whole);
      some = omega (arith, h.some);
    }

pub returns-then-digit-ge57-clause-told : goal.returns-then-digit-ge57-clause-told
returns-then-digit-ge57-clause-told c =
    (λ e. absurd (true≢false (sym e)), λ low. absurd (omega (arith, low, c.if-digit-ge57.true, kept_digit c.args.self.now c.requires.holds c.requires.few)))

pub returns-clause-told : goal.returns-clause-told
returns-clause-told c = (λ _. omega (arith, c.if-digit-ge57.false, kept_digit c.args.self.now c.requires.holds c.requires.few), λ _. refl)
