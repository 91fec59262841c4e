-- Runs in order, and the pulses that have a time by them.
use Rattle.std.proofs.Common.{◌≡◌, inl, inr, ◌<◌, ◌≤◌, ◌+◌, ◌-◌, ℕ, zero, suc, List, length, slice_get, get_or, Option, Some, None, arith, refl, sym, ap, ◌∙◌, subst}
use Rattle.std.specs.Prelude.{option_map}
use Rattle.std.proofs.lemmas.Bool.{cases_lt, cases_order}
use Rattle.std.proofs.lemmas.Option.{none-some, same_Some, slice_get-get_or, slice_get_within}
use Rattle.irig_codes.specs.Format.{FormatView}
use Rattle.irig_recording.specs.declared.pulse.Pulse.{Pulse}
use Rattle.irig_law.specs.declared.point.Point.{Point}
use Rattle.irig_timed.specs.{Around.AreAround, Around.IsFirst, Around.IsLast}
use Rattle.irig_timed.specs.Runs.{AreRunsTo, IsIn, RunsBy, first_of, last_of, nth_of, place_at, place_before}
use Rattle.irig_timed.specs.declared.run.{Run.Run}

abbrev pub none-run : Run
none-run = record {
  number = 0;
  element = 0;
  count = 0;
  frame = record { year = None; days = 0; hours = 0; minutes = 0; micros = 0 };
}

module _ (f : FormatView) (ps : List Pulse) (n : ℕ) (runs : List Run) (are : AreRunsTo f ps n runs) where
  -- an earlier run ends before a later one begins
  apart-by : (i d : ℕ) (r s : Run) → slice_get runs i ≡ Some r → slice_get runs (i + suc d) ≡ Some s → r.number + r.count ≤ s.number
  apart-by i zero r s at at_too =
      let next : i + 1 ≡ i + suc zero = omega arith in
      are.order i r s at (ap (λ (j : ℕ). slice_get runs j) next ∙ at_too)
  apart-by i (suc d) r s at at_too =
      let inside = slice_get_within runs (i + suc (suc d)) s at_too in
      let there = slice_get-get_or runs (i + suc d) r (omega (arith, inside)) in
      let next : i + suc d + 1 ≡ i + suc (suc d) = omega arith in
      let low = apart-by i d r (get_or runs (i + suc d) r) at there in
      let high = are.order (i + suc d) (get_or runs (i + suc d) r) s there (ap (λ (j : ℕ). slice_get runs j) next ∙ at_too) in
      omega (arith, low, high)

  pub runs-apart : (i j : ℕ) (r s : Run) → slice_get runs i ≡ Some r → slice_get runs j ≡ Some s → i < j → r.number + r.count ≤ s.number
  runs-apart i j r s at at_too less =
      let d = j - (i + 1) in
      let sum : j ≡ i + suc d = omega (arith, less) in
      apart-by i d r s at (ap (λ (k : ℕ). slice_get runs k) (sym sum) ∙ at_too)

  module _ (number m : ℕ) (one : Run) (here : slice_get runs m ≡ Some one) where
    -- up to a run that begins before a pulse, all do
    pub runs_to_here : one.number < number → (k : ℕ) (r : Run) → slice_get runs k ≡ Some r → k < m + 1 → r.number < number
    runs_to_here low k r there less = elim (cases_lt k m) [
      | inl early ↦ (let ends = runs-apart k m r one there here early in omega (arith, ends, low))
      | inr last ↦
          let at : k ≡ m = omega (arith, less, last) in
          let same : r ≡ one = same_Some r one (sym there ∙ (ap (λ (j : ℕ). slice_get runs j) at ∙ here)) in
          let numbers = ap (λ (z : Run). z.number) same in omega (arith, numbers, low)
    ]

    -- from one that does not, none do
    pub runs_from_here : number ≤ one.number → (k : ℕ) (r : Run) → slice_get runs k ≡ Some r → m ≤ k → number ≤ r.number
    runs_from_here high k r there le = elim (cases_lt m k) [
      | inl late ↦ (let begins = runs-apart m k one r here there late in omega (arith, begins, high))
      | inr first ↦
          let at : k ≡ m = omega (arith, le, first) in
          let same : r ≡ one = same_Some r one (sym there ∙ (ap (λ (j : ℕ). slice_get runs j) at ∙ here)) in
          let numbers = ap (λ (z : Run). z.number) same in omega (arith, numbers, high)
    ]

  -- a pulse is in one run at most, so it is one element
  one-run : (k : ℕ) (x y : Point) (a : IsIn runs k x) (b : IsIn runs k y) → a.at ≡ b.at
  one-run k x y a b = elim (cases_order a.at b.at) [
    | inl same ↦ same
    | inr other ↦ elim other [
      | inl less ↦ (let ends = runs-apart a.at b.at a.one b.one a.there b.there less in absurd (omega (arith, ends, a.few, b.from)))
      | inr more ↦ (let ends = runs-apart b.at a.at b.one a.one b.there a.there more in absurd (omega (arith, ends, b.few, a.from)))
    ]
  ]

  pub in-once : (k : ℕ) (x y : Point) → IsIn runs k x → IsIn runs k y → x ≡ y
  in-once k x y a b =
      let one : a.one ≡ b.one = same_Some a.one b.one (sym a.there ∙ (ap (λ (j : ℕ). slice_get runs j) (one-run k x y a b) ∙ b.there)) in
      let numbers = ap (λ (z : Run). z.number) one in
      let elements = ap (λ (z : Run). z.element) one in
      let frame : x.frame ≡ y.frame = sym a.is ∙ (ap (λ (z : Run). z.frame) one ∙ b.is) in
      let element : x.element ≡ y.element = omega (arith, numbers, elements, a.place, b.place) in
      λ i. record { frame = frame i; element = element i }

  -- it is in the track, an element of a frame in a minute
  pub in-low : (k : ℕ) (x : Point) → IsIn runs k x → (k < n) × (x.element < 100) × (x.frame.micros < 61000000)
  in-low k x a =
      let run = are.each a.at a.one a.there in
      let inside = run.inside in
      let few = run.few in
      let minute = run.minute in
      let same = ap (λ t. t.micros) a.is in
      (omega (arith, inside, a.few), omega (arith, few, a.few, a.place, a.from), omega (arith, minute, same))

  -- a pulse of a run is in it
  pub nth-in : (i m : ℕ) (r : Run) → slice_get runs i ≡ Some r → m < r.count → IsIn runs (nth_of r m).number (nth_of r m).point
  nth-in i m r at less = record {
    at = i;
    one = r;
    there = at;
    from = omega arith;
    few = omega (arith, less);
    place = omega arith;
    is = refl;
  }

  -- within a run
  pub around-inside : (risen p m : ℕ) (r : Run) → slice_get runs p ≡ Some r → risen ≡ r.number + suc m → suc m < r.count
      → AreAround (IsIn runs) risen (Some (nth_of r m)) (Some (nth_of r (suc m)))
  around-inside risen p m r at is less = record {
    last = (omega (arith, is), nth-in p m r at (omega (arith, less)), λ k x low high a. omega (arith, low, high, is));
    next = (omega (arith, is), nth-in p (suc m) r at less, λ k x low high a. omega (arith, low, high, is));
  }

  module _ (risen place : ℕ) (within : place ≤ length runs) (parted : RunsBy runs risen place)
      (ended : (p : ℕ) (r : Run) → slice_get runs p ≡ Some r → suc p ≡ place → r.number + r.count ≤ risen) where
    -- a pulse in a run that begins before is before, and one in a later run is not
    early : (k : ℕ) (x : Point) (a : IsIn runs k x) → a.at < place → (p : ℕ) (r : Run) → slice_get runs p ≡ Some r → suc p ≡ place
        → k < r.number + r.count
    early k x a less p r at last = elim (cases_lt a.at p) [
      | inl before ↦ (let ends = runs-apart a.at p a.one r a.there at before in omega (arith, ends, a.few))
      | inr here ↦
          let same_at : a.at ≡ p = omega (arith, less, last, here) in
          let same : a.one ≡ r = same_Some a.one r (sym a.there ∙ (ap (λ (j : ℕ). slice_get runs j) same_at ∙ at)) in
          let numbers = ap (λ (z : Run). z.number) same in
          let counts = ap (λ (z : Run). z.count) same in
          omega (arith, numbers, counts, a.few)
    ]

    late : (k : ℕ) (x : Point) (a : IsIn runs k x) → place ≤ a.at → risen ≤ k
    late k x a le = (let begins = parted.after a.at a.one a.there le in omega (arith, begins, a.from))

    last-place : (o : ℕ) → o ≡ place → IsLast (IsIn runs) risen (place_before runs o)
    last-place zero is = λ k x low a. (let begins = late k x a (omega (arith, is)) in omega (arith, low, begins))
    last-place (suc p) is =
        let at = slice_get-get_or runs p none-run (omega (arith, is, within)) in
        let r = get_or runs p none-run in
        let some = (are.each p r at).some in
        let ends = ended p r at is in
        subst (λ (o : Option Run). IsLast (IsIn runs) risen (option_map last_of o)) (sym at) (
          omega (arith, ends, some),
          nth-in p (r.count - 1) r at (omega (arith, some)),
          λ k x low high a. elim (cases_lt a.at place) [
            | inl less ↦ (let before = early k x a less p r at is in omega (arith, before, low))
            | inr ge ↦ (let begins = late k x a ge in omega (arith, begins, high))
          ],
        )

    -- a pulse that has not risen is in no run before
    not-before : (k : ℕ) (x : Point) → risen ≤ k → (a : IsIn runs k x) → place ≤ a.at
    not-before k x low a = elim (cases_lt a.at place) [
      | inl less ↦
          let p = place - 1 in
          let is : suc p ≡ place = omega (arith, less) in
          let at = slice_get-get_or runs p none-run (omega (arith, less, within)) in
          let ends = ended p (get_or runs p none-run) at is in
          let before = early k x a less p (get_or runs p none-run) at is in
          absurd (omega (arith, ends, before, low))
      | inr ge ↦ ge
    ]

    next-place : (o : Option Run) → slice_get runs place ≡ o → IsFirst (IsIn runs) risen (option_map first_of o)
    next-place None none = λ k x low a.
        let ge = not-before k x low a in
        let inside = slice_get_within runs a.at a.one a.there in
        none-some (get_or runs place none-run) (sym none ∙ slice_get-get_or runs place none-run (omega (arith, ge, inside)))
    next-place (Some s) at =
        let begins = parted.after place s at (omega arith) in
        let some = (are.each place s at).some in (
          omega (arith, begins),
          nth-in place 0 s at some,
          λ k x low high a.
              let ge = not-before k x low a in
              elim (cases_lt place a.at) [
                | inl more ↦ (let ends = runs-apart place a.at s a.one at a.there more in omega (arith, ends, a.from, high))
                | inr le ↦
                    let same_at : a.at ≡ place = omega (arith, ge, le) in
                    let same : a.one ≡ s = same_Some a.one s (sym a.there ∙ (ap (λ (j : ℕ). slice_get runs j) same_at ∙ at)) in
                    let numbers = ap (λ (z : Run). z.number) same in omega (arith, numbers, a.from, high)
              ],
        )

    -- between two runs, before the first or after the last
    pub around-between : AreAround (IsIn runs) risen (place_before runs place) (place_at runs place)
    around-between = record { last = last-place place refl; next = next-place (slice_get runs place) refl }
