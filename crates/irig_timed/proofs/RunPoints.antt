-- What the runs say of each pulse, pulse by pulse.
use Rattle.std.proofs.Common.{◌≡◌, inl, inr, ◌<◌, ◌≤◌, ◌+◌, ℕ, true, cond, List, [], length, slice_get, Option, Some, None, arith, sym, ap, ◌∙◌, subst}
use Rattle.std.specs.Prelude.{◌↔◌}
use Rattle.std.proofs.lemmas.Bool.{cases_Bool, cases_eq, cases_lt}
use Rattle.std.proofs.lemmas.Option.{none-some}
use Rattle.irig_codes.specs.Format.{FormatView}
use Rattle.irig_recording.specs.declared.pulse.Pulse.{Pulse}
use Rattle.irig_law.specs.Points.{ArePoints, Knows, part_begin}
use Rattle.irig_law.specs.declared.{frame.Frame.Frame, point.Point.Point, points.Points.Points}
use Rattle.irig_timed.specs.Elements.{AreWith, IsWith, kept}
use Rattle.irig_timed.specs.{Line.is_in_hour, Moments.IsElement, Runs.AreRunsTo, Runs.IsIn}
use Rattle.irig_timed.specs.declared.run.Run.{Run}
use Rattle.irig_timed.proofs.RunPlaces.{in-low}

-- what is kept is what was known
pub kept-is : (f : FormatView) (p : Option Point) (x : Point) → kept f p ≡ Some x → (p ≡ Some x) × (kept f (Some x) ≡ Some x)
kept-is f None x e = absurd (none-some x e)
kept-is f (Some y) x e = elim (cases_Bool (is_in_hour f y)) [
  | inl on ↦
      let here : kept f (Some y) ≡ Some y = ap (λ b. cond b (Some y) None) on in
      let same : Some y ≡ Some x = sym here ∙ e in
      (same, sym (ap (kept f) same) ∙ e)
  | inr off ↦ absurd (none-some x (sym (ap (λ b. cond b (Some y) None) off) ∙ e))
]

-- it is in its hour
pub kept-hour : (f : FormatView) (x : Point) → kept f (Some x) ≡ Some x → is_in_hour f x ≡ true
kept-hour f x e = elim (cases_Bool (is_in_hour f x)) [
  | inl on ↦ on
  | inr off ↦ absurd (none-some x (sym (ap (λ b. cond b (Some x) None) off) ∙ e))
]

pub hour-kept : (f : FormatView) (x : Point) → is_in_hour f x ≡ true → kept f (Some x) ≡ Some x
hour-kept f x on = ap (λ b. cond b (Some x) None) on

-- without pulses there are no runs
pub no-runs : (f : FormatView) (ps : List Pulse) (list : List Run) → list ≡ [] → AreRunsTo f ps 0 list
no-runs f ps list is = record {
  each = λ i r at. absurd (none-some r (sym (ap (λ (l : List Run). slice_get l i) is) ∙ at));
  order = λ i r s at next. absurd (none-some r (sym (ap (λ (l : List Run). slice_get l i) is) ∙ at));
}

pub none-in : (list : List Run) → list ≡ [] → (k : ℕ) (x : Point) → IsIn list k x → ⊥
none-in list is k x a = none-some a.one (sym (ap (λ (l : List Run). slice_get l a.at) is) ∙ a.there)

-- nothing is added
pub none-with : (f : FormatView) (ps : List Pulse) (runs : List Run) (p : Points) (n : ℕ) → AreRunsTo f ps n runs → AreWith f ps runs runs p n n
none-with f ps runs p n are = record {
  runs = are;
  here = λ k x low high. absurd (omega (arith, low, high));
  others = λ k x less. (λ a. a, λ a. a);
}

-- what points say of one pulse more
pub points-more : (f : FormatView) (ps : List Pulse) (p : Points) (first old new : List Run) (from number : ℕ) (known said : Option Point)
    → ((x : Point) → (said ≡ Some x) ↔ Knows p number x) → known ≡ kept f said → from ≤ number → IsWith f ps old new number known
    → AreWith f ps first old p from number → AreWith f ps first new p from (number + 1)
points-more f ps p first old new from number known said says is order one before = record {
  runs = one.runs;
  here = λ k x low high. elim (cases_eq k number) [
    | inl at ↦ subst (λ (j : ℕ). IsIn new j x ↔ (Knows p j x × (kept f (Some x) ≡ Some x))) (sym at) (
      λ a. (let it = kept-is f said x (sym is ∙ (one.here x).0 a) in ((says x).0 it.0, it.1)),
      λ h. (one.here x).1 (is ∙ (ap (kept f) ((says x).1 h.0) ∙ h.1)),
    )
    | inr ne ↦ (let was = before.here k x low (not-here k ne high) in let other = one.others k x ne in (
      λ a. was.0 (other.0 a),
      λ h. other.1 (was.1 h),
    ))
  ];
  others = λ k x less. (let was = before.others k x less in let other = one.others k x (λ e. absurd (omega (arith, e, less, order))) in (
    λ a. was.0 (other.0 a),
    λ a. other.1 (was.1 a),
  ));
}
  where
    not-here : (k : ℕ) → (k ≡ number → ⊥) → k < number + 1 → k < number
    not-here k ne less = elim (cases_eq k number) [ inl e ↦ absurd (ne e) | inr other ↦ omega (arith, less, other) ]

-- the elements that runs have up to a pulse
abbrev pub Has : FormatView → ℕ → List Pulse → List Frame → List Run → ℕ → Type 0
Has f century ps frames runs n = (k : ℕ) (x : Point) → IsIn runs k x ↔ ((k < n) × IsElement f century ps frames k x)

-- with those of a part
pub part-more : (f : FormatView) (century : ℕ) (ps : List Pulse) (frames : List Frame) (part : ℕ) (p : Points) (old new : List Run)
    → ArePoints f century ps frames part p
    → AreWith f ps old new p (part_begin (length ps) frames part) (part_begin (length ps) frames (part + 1))
    → part_begin (length ps) frames part ≤ part_begin (length ps) frames (part + 1)
    → Has f century ps frames old (part_begin (length ps) frames part) → Has f century ps frames new (part_begin (length ps) frames (part + 1))
part-more f century ps frames part p old new points added rise before k x = elim (cases_lt k (part_begin (length ps) frames part)) [
  | inl early ↦ (let other = added.others k x early in let was = before k x in (
    λ a. (let h = was.0 (other.0 a) in (omega (arith, early, rise), h.1)),
    λ h. other.1 (was.1 (early, h.1)),
  ))
  | inr late ↦ (
    λ a. (let below = (in-low f ps (part_begin (length ps) frames (part + 1)) new added.runs k x a).0 in
        let h = (added.here k x late below).0 a in
        (below, record { point = (points k x late below).0 h.0; hour = kept-hour f x h.1 })),
    λ h. (added.here k x late h.0).1 ((points k x late h.0).1 h.1.point, hour-kept f x h.1.hour),
  )
]
