-- Days counted from month to month, and the first frame that has a time.
use Rattle.std.proofs.Common.{◌≡◌, ◌≤◌, ◌<◌, ◌+◌, ◌-◌, ◌∷◌, ℕ, zero, suc, Bool, List, Option, Some, None, drop, get_or, length, slice_get, ap, refl, sym, ◌∙◌, add-one}
use Rattle.std.specs.Prelude.{pos, if◌then◌else◌}
use Rattle.std.proofs.{Math.Dec.eqb-suc-zero, Math.Seq.drop-cons}
use Rattle.std.proofs.lemmas.{List.drop_all, Bool.le-leb, Bool.lt-leb, Option.get_or_from_slice_get, Option.slice_get-get_or, Option.slice_get_within}
use Rattle.jiff_core.specs.Calendar.{days_in_month}
use Rattle.irig_codes.specs.{Format.FormatView, declared.fields.Fields.Fields}
use Rattle.irig_index.specs.declared.record.{Cause.TheVariants.Ended, Record.Record, Verdict.TheVariants.Broken}
use Rattle.irig_times.specs.Times.{timed}
use Rattle.irig_stamps.specs.Dates.{date_after, date_from, day_or, doubt_of, doubted, first_day, if_held}

pub date-now : (y n m days : ℕ) → days ≤ days_in_month (pos y) m → date_after y (suc n) m days ≡ Some (m, days)
date-now y n m days le =
    ap (λ (b : Bool). if b then Some (m, days) else date_after y n (m + 1) (days - days_in_month (pos y) m)) (le-leb days (days_in_month (pos y) m) le)

pub date-later : (y n m days : ℕ) → days_in_month (pos y) m < days → date_after y (suc n) m days ≡ date_after y n (m + 1) (days - days_in_month (pos y) m)
date-later y n m days lt =
    ap (λ (b : Bool). if b then Some (m, days) else date_after y n (m + 1) (days - days_in_month (pos y) m)) (lt-leb days (days_in_month (pos y) m) lt)

-- there is a record at each place
pub stands : (rs : List Record) (k : ℕ) → k < length rs → (r : Record) × (slice_get rs k ≡ Some r)
stands rs k lt = (get_or rs k none, slice_get-get_or rs k none lt) where
  none : Record
  none = record { marker = 0; verdict = Broken 0 Ended }

-- it is that of records that are the same
pub at-place : (rs now : List Record) (k : ℕ) → now ≡ rs → k < length rs → (r : Record) × (slice_get rs k ≡ Some r) × (slice_get now k ≡ Some r)
at-place rs now k same lt =
    let r = stands rs k lt in
    (r.0, r.1, ap (λ (l : List Record). slice_get l k) same ∙ r.1)

-- the records from a place on begin with that at the place
pub from-place : (rs : List Record) (k : ℕ) (r : Record) → slice_get rs k ≡ Some r → drop k rs ≡ r ∷ drop (suc k) rs
from-place rs k r is = drop-cons rs k r (slice_get_within rs k r is) ∙ ap (λ (x : Record). x ∷ drop (suc k) rs) (get_or_from_slice_get rs k r r is)

module _ (f : FormatView) (held : List Bool) (rs : List Record) (k : ℕ) (r : Record) (is : slice_get rs k ≡ Some r) where
  pub first-is : (g : Fields) → if_held (slice_get held k) (timed f r.verdict) ≡ Some g → first_day f held k (drop k rs) ≡ Some g.days
  first-is g t =
      ap (first_day f held k) (from-place rs k r is) ∙ ap (λ (o : Option Fields). day_or o (first_day f held (suc k) (drop (suc k) rs))) t

  pub first-later : if_held (slice_get held k) (timed f r.verdict) ≡ None → first_day f held k (drop k rs) ≡ first_day f held (k + 1) (drop (k + 1) rs)
  first-later t =
      ap (first_day f held k) (from-place rs k r is)
      ∙ (ap (λ (o : Option Fields). day_or o (first_day f held (suc k) (drop (suc k) rs))) t ∙ ap (λ n. first_day f held n (drop n rs)) (sym (add-one k)))

  pub doubt-step : doubted f held k (drop k rs) ≡ doubt_of (slice_get held k) (timed f r.verdict) + doubted f held (k + 1) (drop (k + 1) rs)
  doubt-step =
      ap (doubted f held k) (from-place rs k r is)
      ∙ ap (λ n. doubt_of (slice_get held k) (timed f r.verdict) + doubted f held n (drop n rs)) (sym (add-one k))

pub doubt-end : (f : FormatView) (held : List Bool) (rs : List Record) (k : ℕ) → length rs ≤ k → doubted f held k (drop k rs) ≡ 0
doubt-end f held rs k past = ap (doubted f held k) (drop_all k rs past)

-- a day that is one
pub date-some : (y days : ℕ) → (days ≡ 0 → ⊥) → date_from y days ≡ date_after y 12 1 days
date-some y zero h = absurd (h refl)
date-some y (suc d) h = ap (λ (b : Bool). if b then None else date_after y 12 1 (suc d)) (eqb-suc-zero d)
