-- Runs that are made of elements, one after the other.
use Rattle.std.proofs.Common.{◌≡◌, ◌⊎◌, inl, inr, ◌<◌, ◌≤◌, ◌+◌, ◌-◌, ◌^◌, ◌++◌, ℕ, List, [], ◌∷◌, length, slice_get, slice_set, Some, None, arith, refl, sym, ap, ◌∙◌, subst}
use Rattle.std.proofs.lemmas.Bool.{cases_lt, cases_order}
use Rattle.std.proofs.lemmas.List.{length-set}
use Rattle.std.proofs.lemmas.Option.{none-some, same_Some, slice_get_within}
use Rattle.irig_codes.specs.{Format.FormatView, Width.is_in_step}
use Rattle.irig_recording.specs.declared.pulse.Pulse.{Pulse}
use Rattle.irig_times.specs.Steps.{micros_between}
use Rattle.irig_law.specs.declared.point.Point.{Point}
use Rattle.irig_law.proofs.{Each.at-end, Each.at-front, Each.one-longer, Joined.set-here, Joined.set-other}
use Rattle.irig_timed.specs.{Elements.GoesOn, Elements.IsWith, Elements.longer, Runs.AreRunsTo, Runs.IsIn, Runs.IsRun}
use Rattle.irig_timed.specs.declared.run.Run.{Run}
use Rattle.irig_timed.proofs.RunPlaces.{in-low, nth-in}

-- a run is one of a longer track
run-longer : (f : FormatView) (ps : List Pulse) (n m : ℕ) (r : Run) → n ≤ m → IsRun f ps n r → IsRun f ps m r
run-longer f ps n m r le run = record {
  some = run.some;
  inside = (let inside = run.inside in omega (arith, inside, le));
  low = run.low;
  few = run.few;
  minute = run.minute;
  steps = run.steps;
}

-- and of a shorter one, as far as their pulses go
pub runs-within : (f : FormatView) (ps : List Pulse) (n m : ℕ) (runs : List Run) → AreRunsTo f ps n runs
    → ((k : ℕ) (x : Point) → IsIn runs k x → k < m) → AreRunsTo f ps m runs
runs-within f ps n m runs are below = record {
  each = λ i r at. (let run = are.each i r at in
      let some = run.some in
      let last = below (r.number + (r.count - 1)) _ (nth-in f ps n runs are i (r.count - 1) r at (omega (arith, some))) in
      record {
        some = some;
        inside = omega (arith, last, some);
        low = run.low;
        few = run.few;
        minute = run.minute;
        steps = run.steps;
      });
  order = are.order;
}

-- one more run
module _ (f : FormatView) (ps : List Pulse) (n : ℕ) (old new : List Run) (are : AreRunsTo f ps n old) (r : Run) (is : new ≡ old ++ r ∷ [])
    (x : Point) (fits : n < 2 ^ 63) (low : (x.element < 100) × (x.frame.micros < 61000000))
    (made : (r.number ≡ n) × (r.element ≡ x.element) × (r.count ≡ 1) × (r.frame ≡ x.frame)) where
  more : length new ≡ length old + 1
  more = one-longer Run old new r is

  front : (i : ℕ) → i < length old → slice_get new i ≡ slice_get old i
  front i less = ap (λ (l : List Run). slice_get l i) is ∙ at-front Run old r i less

  end : (i : ℕ) → i ≡ length old → slice_get new i ≡ Some r
  end i last = ap (λ (l : List Run). slice_get l i) is ∙ (ap (λ j. slice_get (old ++ r ∷ []) j) last ∙ at-end Run old r)

  of-new : (i : ℕ) (s : Run) → slice_get new i ≡ Some s → ((i < length old) × (slice_get old i ≡ Some s)) ⊎ ((i ≡ length old) × (r ≡ s))
  of-new i s at = elim (cases_lt i (length old)) [
    | inl less ↦ inl (less, sym (front i less) ∙ at)
    | inr ge ↦
        let inside = slice_get_within new i s at in
        let last : i ≡ length old = omega (arith, ge, inside, more) in
        inr (last, same_Some r s (sym (end i last) ∙ at))
  ]

  -- what holds of each old one and of the new one
  each : (P : Run → Type 0) → ((i : ℕ) (s : Run) → slice_get old i ≡ Some s → P s) → P r → (i : ℕ) (s : Run) → slice_get new i ≡ Some s → P s
  each P before this i s at = elim (of-new i s at) [
    | inl h ↦ before i s h.1
    | inr h ↦ subst P h.1 this
  ]

  run-new : IsRun f ps (n + 1) r
  run-new =
      let m = made.0 in let e = made.1 in let c = made.2 in let t = ap (λ t. t.micros) made.3 in
      record {
        some = omega (arith, c);
        inside = omega (arith, m, c);
        low = omega (arith, m, c, fits);
        few = omega (arith, e, c, low.0);
        minute = omega (arith, t, low.1);
        steps = λ k from to. absurd (omega (arith, from, to, c));
      }

  runs-new : AreRunsTo f ps (n + 1) new
  runs-new = record {
    each = each (IsRun f ps (n + 1)) (λ i s at. run-longer f ps n (n + 1) s (omega arith) (are.each i s at)) run-new;
    order = λ i s t at next. elim (of-new (i + 1) t next) [
      | inl h ↦ are.order i s t (sym (front i (omega (arith, h.0))) ∙ at) h.1
      | inr h ↦
          let inside = (are.each i s (sym (front i (omega (arith, h.0))) ∙ at)).inside in
          let numbers = ap (λ (z : Run). z.number) h.1 in
          let m = made.0 in
          omega (arith, inside, numbers, m)
    ];
  }

  pub with-push : IsWith f ps old new n (Some x)
  with-push = record {
    runs = runs-new;
    here = λ y. (λ a. here-one y a, λ e. here-other y (same_Some x y e));
    others = λ k y ne. (
      λ a. elim (of-new a.at a.one a.there) [
        | inl h ↦ record { at = a.at; one = a.one; there = h.1; from = a.from; few = a.few; place = a.place; is = a.is }
        | inr h ↦
            let numbers = ap (λ (z : Run). z.number) h.1 in
            let counts = ap (λ (z : Run). z.count) h.1 in
            let m = made.0 in let c = made.2 in
            absurd (ne (omega (arith, numbers, counts, m, c, a.from, a.few)))
      ],
      λ a. record {
        at = a.at;
        one = a.one;
        there = front a.at (slice_get_within old a.at a.one a.there) ∙ a.there;
        from = a.from;
        few = a.few;
        place = a.place;
        is = a.is;
      },
    );
  }
    where
      here-one : (y : Point) → IsIn new n y → Some x ≡ Some y
      here-one y a = elim (of-new a.at a.one a.there) [
        | inl h ↦ (let inside = (are.each a.at a.one h.1).inside in absurd (omega (arith, inside, a.few)))
        | inr h ↦
            let numbers = ap (λ (z : Run). z.number) h.1 in
            let elements = ap (λ (z : Run). z.element) h.1 in
            let m = made.0 in let e = made.1 in
            let element : x.element ≡ y.element = omega (arith, numbers, elements, m, e, a.place) in
            let frame : x.frame ≡ y.frame = sym made.3 ∙ (ap (λ (z : Run). z.frame) h.1 ∙ a.is) in
            λ i. Some (record { frame = frame i; element = element i })
      ]

      here-other : (y : Point) → x ≡ y → IsIn new n y
      here-other y same =
          let m = made.0 in let e = made.1 in let c = made.2 in
          let elements = ap (λ (z : Point). z.element) same in
          record {
            at = length old;
            one = r;
            there = end (length old) refl;
            from = omega (arith, m);
            few = omega (arith, m, c);
            place = omega (arith, m, e, elements);
            is = made.3 ∙ ap (λ (z : Point). z.frame) same;
          }

-- the last run with one pulse more
module _ (f : FormatView) (ps : List Pulse) (n : ℕ) (old : List Run) (are : AreRunsTo f ps n old) (x : Point) (fits : n < 2 ^ 63)
    (low : (x.element < 100) × (x.frame.micros < 61000000)) (on : GoesOn f ps old n x) where
  abbrev last : ℕ
  last = length old - 1

  abbrev new : List Run
  new = slice_set old last (longer on.one)

  some-runs : last < length old
  some-runs = slice_get_within old last on.one on.there

  of-set : (i : ℕ) (s : Run) → slice_get new i ≡ Some s → ((i < last) × (slice_get old i ≡ Some s)) ⊎ ((i ≡ last) × (longer on.one ≡ s))
  of-set i s at = elim (cases_order i last) [
    | inl same ↦
        inr (same, same_Some (longer on.one) s (sym (set-here Run old last (longer on.one) some-runs) ∙ (ap (λ j. slice_get new j) (sym same) ∙ at)))
    | inr other ↦ elim other [
      | inl less ↦ inl (less, sym (set-other Run old last i (longer on.one) (λ e. omega (arith, e, less))) ∙ at)
      | inr more ↦
          let inside = slice_get_within new i s at in
          let many = length-set old last (longer on.one) in
          absurd (omega (arith, inside, many, more))
    ]
  ]

  set-front : (i : ℕ) → i < last → slice_get new i ≡ slice_get old i
  set-front i less = set-other Run old last i (longer on.one) (λ e. omega (arith, e, less))

  each-set : (P : Run → Type 0) → ((i : ℕ) (s : Run) → slice_get old i ≡ Some s → P s) → P (longer on.one) → (i : ℕ) (s : Run)
      → slice_get new i ≡ Some s → P s
  each-set P before this i s at = elim (of-set i s at) [
    | inl h ↦ before i s h.1
    | inr h ↦ subst P h.1 this
  ]

  run-set : IsRun f ps (n + 1) (longer on.one)
  run-set =
      let run = are.each last on.one on.there in
      let next = on.is_next.place in let e = on.is_next.element in
      record {
        some = omega arith;
        inside = omega (arith, next);
        low = omega (arith, next, fits);
        few = omega (arith, e, low.0);
        minute = run.minute;
        steps = λ k from to. elim (cases_lt (k + 1) (on.one.number + on.one.count)) [
          | inl less ↦ run.steps k from less
          | inr ge ↦
              let at : n - 1 ≡ k = omega (arith, ge, to, next) in
              let at_too : n ≡ k + 1 = omega (arith, ge, to, next) in
              (λ i. is_in_step f (micros_between ps (sym at i) (sym at_too i))) ∙ on.step
        ];
      }

  runs-set : AreRunsTo f ps (n + 1) new
  runs-set = record {
    each = each-set (IsRun f ps (n + 1)) (λ i s at. run-longer f ps n (n + 1) s (omega arith) (are.each i s at)) run-set;
    order = λ i s t at next. elim (of-set (i + 1) t next) [
      | inl h ↦ are.order i s t (sym (set-front i (omega (arith, h.0))) ∙ at) h.1
      | inr h ↦
          let before : slice_get old i ≡ Some s = sym (set-front i (let e = h.0 in omega (arith, e))) ∙ at in
          let numbers = ap (λ (z : Run). z.number) h.1 in
          let e = h.0 in
          let ends = are.order i s on.one before (ap (λ j. slice_get old j) e ∙ on.there) in
          omega (arith, ends, numbers)
    ];
  }

  pub with-set : IsWith f ps old new n (Some x)
  with-set = record {
    runs = runs-set;
    here = λ y. (λ a. here-one y a, λ e. here-other y (same_Some x y e));
    others = λ k y ne. (
      λ a. elim (of-set a.at a.one a.there) [
        | inl h ↦ record { at = a.at; one = a.one; there = h.1; from = a.from; few = a.few; place = a.place; is = a.is }
        | inr h ↦
            let numbers = ap (λ (z : Run). z.number) h.1 in
            let counts = ap (λ (z : Run). z.count) h.1 in
            let elements = ap (λ (z : Run). z.element) h.1 in
            let next = on.is_next.place in
            let early : k < on.one.number + on.one.count = less-than k (λ e. ne e) (omega (arith, numbers, counts, next, a.few)) next in
            record {
              at = last;
              one = on.one;
              there = on.there;
              from = omega (arith, numbers, a.from);
              few = early;
              place = omega (arith, numbers, elements, a.place);
              is = ap (λ (z : Run). z.frame) h.1 ∙ a.is;
            }
      ],
      λ a. elim (cases_lt a.at last) [
        | inl less ↦ record { at = a.at; one = a.one; there = set-front a.at less ∙ a.there; from = a.from; few = a.few; place = a.place; is = a.is }
        | inr ge ↦
            let inside = slice_get_within old a.at a.one a.there in
            let at : a.at ≡ last = omega (arith, ge, inside) in
            let same : a.one ≡ on.one = same_Some a.one on.one (sym a.there ∙ (ap (λ j. slice_get old j) at ∙ on.there)) in
            let numbers = ap (λ (z : Run). z.number) same in
            let counts = ap (λ (z : Run). z.count) same in
            let elements = ap (λ (z : Run). z.element) same in
            record {
              at = last;
              one = longer on.one;
              there = set-here Run old last (longer on.one) some-runs;
              from = omega (arith, numbers, a.from);
              few = omega (arith, numbers, counts, a.few);
              place = omega (arith, numbers, elements, a.place);
              is = ap (λ (z : Run). z.frame) (sym same) ∙ a.is;
            }
      ],
    );
  }
    where
      less-than : (k : ℕ) → (k ≡ n → ⊥) → k < n + 1 → on.one.number + on.one.count ≡ n → k < on.one.number + on.one.count
      less-than k ne few next = elim (cases_lt k n) [
        | inl less ↦ omega (arith, less, next)
        | inr ge ↦ absurd (ne (omega (arith, ge, few)))
      ]

      here-one : (y : Point) → IsIn new n y → Some x ≡ Some y
      here-one y a = elim (of-set a.at a.one a.there) [
        | inl h ↦ (let inside = (are.each a.at a.one h.1).inside in absurd (omega (arith, inside, a.few)))
        | inr h ↦
            let numbers = ap (λ (z : Run). z.number) h.1 in
            let elements = ap (λ (z : Run). z.element) h.1 in
            let next = on.is_next.place in let e = on.is_next.element in
            let element : x.element ≡ y.element = omega (arith, numbers, elements, next, e, a.place) in
            let frame : x.frame ≡ y.frame = sym on.is_next.frame ∙ (ap (λ (z : Run). z.frame) h.1 ∙ a.is) in
            λ i. Some (record { frame = frame i; element = element i })
      ]

      here-other : (y : Point) → x ≡ y → IsIn new n y
      here-other y same =
          let next = on.is_next.place in let e = on.is_next.element in
          let elements = ap (λ (z : Point). z.element) same in
          record {
            at = last;
            one = longer on.one;
            there = set-here Run old last (longer on.one) some-runs;
            from = omega (arith, next);
            few = omega (arith, next);
            place = omega (arith, next, e, elements);
            is = on.is_next.frame ∙ ap (λ (z : Point). z.frame) same;
          }
