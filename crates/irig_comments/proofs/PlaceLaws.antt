-- The frames of two recordings that differ: at each place what differs there, in the order of places.
use Rattle.std.proofs.Common.{◌≡◌, ℕ, ◌+◌, ◌<◌, ◌≤◌, ◌==◌, ◌++◌, ◌∙◌, Bool, true, false, cond, List, [], ◌∷◌, map, filter, find, Option, Some, None}
use Rattle.std.proofs.Common.{refl, sym, ap, subst, inl, inr, arith, if◌then◌else◌}
use Rattle.std.proofs.lemmas.{Bool.cases_eq, Bool.cases_lt, Bool.eq-eqb, Bool.ne_eqb}
use Rattle.irig_comments.specs.{declared.shown.Shown.Shown, declared.sides.Sides.Sides}
use Rattle.irig_comments.specs.Framed.{FramesRise}
use Rattle.irig_comments.specs.Sides.{AreChanges, PlacesRise, at_place, begun_after, begun_before, differ_in, differs, made, place, sides, sides_of}
use Rattle.irig_comments.proofs.SidesSteps.{all_after, is_below, is_from, is_other, none_at, rise_more}

-- the frames of two lists that have a place, if there are any
abbrev some_of : Option Shown → Option Shown → Option Sides
some_of None None = None
some_of None (Some a) = Some (made a)
some_of (Some b) a = Some (sides (Some b) a)

abbrev is_at : ℕ → Sides → Bool
is_at t s = place s == t

-- the first of two, if it is there
abbrev first_or : Option Sides → Option Sides → Option Sides
first_or None later = later
first_or (Some s) later = Some s

find-append : (t : ℕ) (xs ys : List Sides) → find (is_at t) (xs ++ ys) ≡ first_or (find (is_at t) xs) (find (is_at t) ys)
find-append t [] ys = refl
find-append t (x ∷ xs) ys = elim (is_at t x) as (λ v. cond v (Some x) (find (is_at t) (xs ++ ys))
    ≡ first_or (cond v (Some x) (find (is_at t) xs)) (find (is_at t) ys)) [
      | true ↦ refl
      | false ↦ find-append t xs ys
    ]

find-made : (t : ℕ) (ys : List Shown) → find (is_at t) (map made ys) ≡ some_of None (at_place t ys)
find-made t [] = refl
find-made t (y ∷ ys) = elim (y.rise == t) as (λ v. cond v (Some (made y)) (find (is_at t) (map made ys)) ≡ some_of None (cond v (Some y) (at_place t ys))) [
  | true ↦ refl
  | false ↦ find-made t ys
]

-- a place among the frames before or after another
at-begun_before : (t x : ℕ) (ys : List Shown) → t < x → at_place t (begun_before x ys) ≡ at_place t ys
at-begun_before t x [] lt = refl
at-begun_before t x (y ∷ ys) lt = elim (cases_lt y.rise x) [
  | inl less ↦ ap (λ v. at_place t (cond v (y ∷ begun_before x ys) (begun_before x ys))) (is_below y.rise x less)
      ∙ ap (λ o. cond (y.rise == t) (Some y) o) (at-begun_before t x ys lt)
  | inr more ↦ ap (λ v. at_place t (cond v (y ∷ begun_before x ys) (begun_before x ys))) (is_from y.rise x more)
      ∙ at-begun_before t x ys lt ∙ sym (ap (λ v. cond v (Some y) (at_place t ys)) (is_other y.rise t (λ e. omega (arith, e, lt, more))))
]

none-begun_before : (t x : ℕ) (ys : List Shown) → x ≤ t → at_place t (begun_before x ys) ≡ None
none-begun_before t x [] le = refl
none-begun_before t x (y ∷ ys) le = elim (cases_lt y.rise x) [
  | inl less ↦ ap (λ v. at_place t (cond v (y ∷ begun_before x ys) (begun_before x ys))) (is_below y.rise x less)
      ∙ ap (λ v. cond v (Some y) (at_place t (begun_before x ys))) (is_other y.rise t (λ e. omega (arith, e, le, less))) ∙ none-begun_before t x ys le
  | inr more ↦ ap (λ v. at_place t (cond v (y ∷ begun_before x ys) (begun_before x ys))) (is_from y.rise x more) ∙ none-begun_before t x ys le
]

at-begun_after : (t x : ℕ) (ys : List Shown) → x < t → at_place t (begun_after x ys) ≡ at_place t ys
at-begun_after t x [] lt = refl
at-begun_after t x (y ∷ ys) lt = elim (cases_lt x y.rise) [
  | inl less ↦ ap (λ v. at_place t (cond v (y ∷ begun_after x ys) (begun_after x ys))) (is_below x y.rise less)
      ∙ ap (λ o. cond (y.rise == t) (Some y) o) (at-begun_after t x ys lt)
  | inr more ↦ ap (λ v. at_place t (cond v (y ∷ begun_after x ys) (begun_after x ys))) (is_from x y.rise more)
      ∙ at-begun_after t x ys lt ∙ sym (ap (λ v. cond v (Some y) (at_place t ys)) (is_other y.rise t (λ e. omega (arith, e, lt, more))))
]

none-begun_after : (t x : ℕ) (ys : List Shown) → t ≤ x → at_place t (begun_after x ys) ≡ None
none-begun_after t x [] le = refl
none-begun_after t x (y ∷ ys) le = elim (cases_lt x y.rise) [
  | inl less ↦ ap (λ v. at_place t (cond v (y ∷ begun_after x ys) (begun_after x ys))) (is_below x y.rise less)
      ∙ ap (λ v. cond v (Some y) (at_place t (begun_after x ys))) (is_other y.rise t (λ e. omega (arith, e, le, less))) ∙ none-begun_after t x ys le
  | inr more ↦ ap (λ v. at_place t (cond v (y ∷ begun_after x ys) (begun_after x ys))) (is_from x y.rise more) ∙ none-begun_after t x ys le
]

-- at a place of all sides there are the frames that have it
find-sides_of : (t low : ℕ) (xs ys : List Shown) → FramesRise low xs → find (is_at t) (sides_of xs ys) ≡ some_of (at_place t xs) (at_place t ys)
find-sides_of t low [] ys h = find-made t ys
find-sides_of t low (x ∷ xs) ys h =
    let front = map made (begun_before x.rise ys) in
    let here = sides (Some x) (at_place x.rise ys) in
    let rest = sides_of xs (begun_after x.rise ys) in
    let first = find-append t front (here ∷ rest) ∙ ap (λ o. first_or o (find (is_at t) (here ∷ rest))) (find-made t (begun_before x.rise ys)) in
    let later = find-sides_of t (x.rise + 1) xs (begun_after x.rise ys) h.1 in
    first ∙ (elim (cases_lt t x.rise) [
      | inl less ↦
          let none = ap (λ v. cond v (Some here) (find (is_at t) rest)) (is_other x.rise t (λ e. omega (arith, e, less))) ∙ later
          ∙ ap (λ o. some_of o (at_place t (begun_after x.rise ys))) (none_at t (x.rise + 1) xs h.1 (omega (arith, less)))
          ∙ ap (some_of None) (none-begun_after t x.rise ys (omega (arith, less))) in
          let same = ap (λ v. some_of (cond v (Some x) (at_place t xs)) (at_place t ys)) (is_other x.rise t (λ e. omega (arith, e, less)))
          ∙ ap (λ o. some_of o (at_place t ys)) (none_at t (x.rise + 1) xs h.1 (omega (arith, less))) in
          ap (λ o. first_or (some_of None o) (find (is_at t) (here ∷ rest))) (at-begun_before t x.rise ys less)
          ∙ ap (first_or (some_of None (at_place t ys))) none ∙ only (at_place t ys) ∙ sym same
      | inr more ↦
          ap (λ o. first_or (some_of None o) (find (is_at t) (here ∷ rest))) (none-begun_before t x.rise ys more)
          ∙ (elim (cases_lt x.rise t) [
            | inl past ↦
                ap (λ v. cond v (Some here) (find (is_at t) rest)) (is_other x.rise t (λ e. omega (arith, e, past))) ∙ later
                ∙ ap (some_of (at_place t xs)) (at-begun_after t x.rise ys past)
                ∙ sym (ap (λ v. some_of (cond v (Some x) (at_place t xs)) (at_place t ys)) (is_other x.rise t (λ e. omega (arith, e, past))))
            | inr upto ↦
                let equal : x.rise ≡ t = omega (arith, more, upto) in
                ap (λ v. cond v (Some here) (find (is_at t) rest)) (eq-eqb x.rise t equal)
                ∙ ap (λ u. Some (sides (Some x) (at_place u ys))) equal
                ∙ sym (ap (λ v. some_of (cond v (Some x) (at_place t xs)) (at_place t ys)) (eq-eqb x.rise t equal))
          ])
    ])
  where
    only : (o : Option Shown) → first_or (some_of None o) None ≡ some_of None o
    only None = refl
    only (Some a) = refl

places_more : (m low : ℕ) (ss : List Sides) → low ≤ m → PlacesRise m ss → PlacesRise low ss
places_more m low [] le h = tt
places_more m low (s ∷ ss) le h = (omega (arith, le, h.0), h.1)

places-made : (low : ℕ) (ys : List Shown) → FramesRise low ys → PlacesRise low (map made ys)
places-made low [] h = tt
places-made low (y ∷ ys) h = (h.0, places-made (y.rise + 1) ys h.1)

-- those before a place, and others from it on
places-before : (m low : ℕ) (ys : List Shown) (rest : List Sides) → FramesRise low ys → low ≤ m → PlacesRise m rest
    → PlacesRise low (map made (begun_before m ys) ++ rest)
places-before m low [] rest h le r = places_more m low rest le r
places-before m low (y ∷ ys) rest h le r = elim (cases_lt y.rise m) [
  | inl less ↦ subst (λ v. PlacesRise low (map made (cond v (y ∷ begun_before m ys) (begun_before m ys)) ++ rest)) (sym (is_below y.rise m less))
      (h.0, places-before m (y.rise + 1) ys rest h.1 (omega (arith, less)) r)
  | inr more ↦ subst (λ v. PlacesRise low (map made (cond v (y ∷ begun_before m ys) (begun_before m ys)) ++ rest)) (sym (is_from y.rise m more))
      (places-before m low ys rest (rise_more (y.rise + 1) low ys (omega (arith, h.0)) h.1) le r)
]

rise-begun_after : (t low : ℕ) (ys : List Shown) → FramesRise low ys → FramesRise (t + 1) (begun_after t ys)
rise-begun_after t low [] h = tt
rise-begun_after t low (y ∷ ys) h = elim (cases_lt t y.rise) [
  | inl less ↦ subst (FramesRise (t + 1)) (sym (all_after t y.rise (y ∷ ys) (omega arith, h.1) less)) (omega (arith, less), h.1)
  | inr more ↦ subst (λ v. FramesRise (t + 1) (cond v (y ∷ begun_after t ys) (begun_after t ys))) (sym (is_from t y.rise more))
      (rise-begun_after t (y.rise + 1) ys h.1)
]

places-sides_of : (low : ℕ) (xs ys : List Shown) → FramesRise low xs → FramesRise low ys → PlacesRise low (sides_of xs ys)
places-sides_of low [] ys h k = places-made low ys k
places-sides_of low (x ∷ xs) ys h k =
    places-before x.rise low ys (sides (Some x) (at_place x.rise ys) ∷ sides_of xs (begun_after x.rise ys)) k h.0
    (omega arith, places-sides_of (x.rise + 1) xs (begun_after x.rise ys) h.1 (rise-begun_after x.rise low ys k))

places-filter : (low : ℕ) (ss : List Sides) → PlacesRise low ss → PlacesRise low (filter differs ss)
places-filter low [] h = tt
places-filter low (s ∷ ss) h = elim (differs s) as (λ v. PlacesRise low (cond v (s ∷ filter differs ss) (filter differs ss))) [
  | true ↦ (h.0, places-filter (place s + 1) ss h.1)
  | false ↦ places_more (place s + 1) low (filter differs ss) (omega (arith, h.0)) (places-filter (place s + 1) ss h.1)
]

none-place : (t low : ℕ) (ss : List Sides) → PlacesRise low ss → t < low → find (is_at t) ss ≡ None
none-place t low [] h lt = refl
none-place t low (s ∷ ss) h lt =
    ap (λ v. cond v (Some s) (find (is_at t) ss)) (is_other (place s) t (λ e. omega (arith, e, h.0, lt)))
    ∙ none-place t (place s + 1) ss h.1 (omega (arith, h.0, lt))

-- one of the sides, if they differ
abbrev if_differs : Option Sides → Option Sides
if_differs None = None
if_differs (Some s) = if differs s then Some s else None

find-filter : (t low : ℕ) (ss : List Sides) → PlacesRise low ss → find (is_at t) (filter differs ss) ≡ if_differs (find (is_at t) ss)
find-filter t low [] h = refl
find-filter t low (s ∷ ss) h =
    let none = none-place t (place s + 1) (filter differs ss) (places-filter (place s + 1) ss h.1) in
    elim (cases_eq (place s) t) [
      | inl same ↦
          let here = eq-eqb (place s) t same in
          by_test here (differs s) refl (none (omega (arith, same)))
      | inr apart ↦
          let away = ne_eqb (place s) t apart in
          past away (differs s) (find-filter t (place s + 1) ss h.1)
          ∙ sym (ap (λ v. if_differs (cond v (Some s) (find (is_at t) ss))) away)
    ]
  where
    by_test : (place s == t) ≡ true → (v : Bool) → differs s ≡ v → find (is_at t) (filter differs ss) ≡ None
        → find (is_at t) (cond v (s ∷ filter differs ss) (filter differs ss)) ≡ if_differs (cond (place s == t) (Some s) (find (is_at t) ss))
    by_test here true d none =
        ap (λ w. cond w (Some s) (find (is_at t) (filter differs ss))) here
        ∙ sym (ap (λ w. if_differs (cond w (Some s) (find (is_at t) ss))) here ∙ ap (λ w. if w then Some s else None) d)
    by_test here false d none =
        none ∙ sym (ap (λ w. if_differs (cond w (Some s) (find (is_at t) ss))) here ∙ ap (λ w. if w then Some s else None) d)

    past : (place s == t) ≡ false → (v : Bool) → find (is_at t) (filter differs ss) ≡ if_differs (find (is_at t) ss)
        → find (is_at t) (cond v (s ∷ filter differs ss) (filter differs ss)) ≡ if_differs (find (is_at t) ss)
    past away true later = ap (λ w. cond w (Some s) (find (is_at t) (filter differs ss))) away ∙ later
    past away false later = later

some-differs : (b a : Option Shown) → if_differs (some_of b a) ≡ (if differ_in b a then Some (sides b a) else None)
some-differs None None = refl
some-differs None (Some a) = refl
some-differs (Some b) a = refl

-- what differs is exactly that
pub changes_are : (xs ys : List Shown) → FramesRise 0 xs → FramesRise 0 ys → AreChanges xs ys (filter differs (sides_of xs ys))
changes_are xs ys h k =
    let order = places-sides_of 0 xs ys h k in
    record {
      each = λ t. find-filter t 0 (sides_of xs ys) order ∙ ap if_differs (find-sides_of t 0 xs ys h) ∙ some-differs (at_place t xs) (at_place t ys);
      order = places-filter 0 (sides_of xs ys) order;
    }
