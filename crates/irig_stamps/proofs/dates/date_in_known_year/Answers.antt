use Rattle.std.proofs.Common.{◌≡◌, ℤ, suc, ◌+◌, ◌-◌, ap, sym, ◌∙◌, arith, pos, w16}
use Rattle.std.proofs.lemmas.Int.{to_z_pos}
use Rattle.jiff_core.specs.Calendar.{days_in_month}
use Rattle.irig_stamps.specs.Dates.{date_after}
use Rattle.irig_stamps.proofs.DateSteps.{date-later, date-now, date-some}
use Rattle.irig_stamps.proofs.dates.date_in_known_year.Goals as goal

pub loop-month-preserved : goal.loop-month-preserved
loop-month-preserved c =
    let y = c.args.year in
    let m = c.loop-month.month in
    let left = c.loop-month.left in
    let n = 13 - (m + 1) in
    let one : 13 - m ≡ suc n = omega (arith, c.loop-month-test.true) in
    let length : c.days_in_month-length.result ≡ days_in_month (pos y) m = c.days_in_month-length.ensures.value
    ∙ ap (λ (z : ℤ). days_in_month z m) (to_z_pos w16 y (omega (arith, c.requires))) in (
      omega arith,
      c.loop-month.invariant.1
          ∙ (ap (λ k. date_after y k m left) one
          ∙ (date-later y n m left (omega (arith, length, c.if-left-length.false)) ∙ ap (λ d. date_after y n (m + 1) (left - d)) (sym length))),
    )

pub returns-then-left-length : goal.returns-then-left-length
returns-then-left-length c =
    let y = c.args.year in
    let m = c.loop-month.month in
    let left = c.loop-month.left in
    let n = 13 - (m + 1) in
    let one : 13 - m ≡ suc n = omega (arith, c.loop-month-test.true) in
    let length : c.days_in_month-length.result ≡ days_in_month (pos y) m = c.days_in_month-length.ensures.value
    ∙ ap (λ (z : ℤ). days_in_month z m) (to_z_pos w16 y (omega (arith, c.requires))) in
    sym (date-some y c.args.days c.if-days-eq0.false
    ∙ (c.loop-month.invariant.1 ∙ (ap (λ k. date_after y k m left) one ∙ date-now y n m left (omega (arith, length, c.if-left-length.true)))))
