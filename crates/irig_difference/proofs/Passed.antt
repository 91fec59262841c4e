-- Two rising lists, gone through from their fronts on.
use Rattle.std.proofs.Common.{◌≡◌, ℕ, ◌+◌, ◌<◌, List, true, false, [], ◌∷◌, ◌++◌, length, drop, take, subst, slice_get, Some, None, refl, sym, ap, ◌∙◌, arith}
use Rattle.std.proofs.lemmas.List.{take-append-drop}
use Rattle.irig_recording.specs.{Recording.RisesFrom, declared.pulse.Pulse.Pulse}
use Rattle.irig_recording.proofs.PulseEdges.{edges_of-append}
use Rattle.irig_track.specs.Edges.{edges_of}
use Rattle.irig_track.proofs.RisingLists.{rises_more, rises_right}
use Rattle.irig_difference.specs.{EdgesLeft.edges_left, EdgesLeft.PassCommon, Flips.flips}
use Rattle.irig_difference.proofs.FlipLists.{flips_both, flips_first, flips_second}

-- the rest of a rising list rises
pub rises_past : (xs : List ℕ) → RisesFrom 0 xs → RisesFrom 0 (drop 1 xs)
rises_past [] h = tt
rises_past (x ∷ xs) h = rises_more (x + 1) 0 xs (omega arith) h.1

-- the number that only the first list begins with
pub before_next : (x y : ℕ) (xs ys : List ℕ) → slice_get xs 0 ≡ Some x → slice_get ys 0 ≡ Some y → x < y → RisesFrom 0 ys
    → flips ys xs ≡ x ∷ flips ys (drop 1 xs)
before_next x y [] ys is at lt i = absurd (cc)
before_next x y (u ∷ xs) [] is at lt i = absurd (cc)
before_next x y (u ∷ xs) (v ∷ ys) is at lt i =
    let e : u ≡ x = cc in let f : v ≡ y = cc in
    flips_second u v (v ∷ ys) xs (omega arith) (omega arith, i.1) ∙ ap (λ n. n ∷ flips (v ∷ ys) xs) e

pub before_last : (x : ℕ) (xs ys : List ℕ) → slice_get xs 0 ≡ Some x → slice_get ys 0 ≡ None → flips ys xs ≡ x ∷ flips ys (drop 1 xs)
before_last x [] ys is at = absurd (cc)
before_last x (u ∷ xs) [] is at = let e : u ≡ x = cc in ap (λ n. n ∷ xs) e
before_last x (u ∷ xs) (v ∷ ys) is at = absurd (cc)

-- the number that only the second list begins with
pub after_next : (x y : ℕ) (xs ys : List ℕ) → slice_get xs 0 ≡ Some x → slice_get ys 0 ≡ Some y → y < x → RisesFrom 0 xs → RisesFrom 0 ys
    → flips ys xs ≡ y ∷ flips (drop 1 ys) xs
after_next x y [] ys is at lt h i = absurd (cc)
after_next x y (u ∷ xs) [] is at lt h i = absurd (cc)
after_next x y (u ∷ xs) (v ∷ ys) is at lt h i =
    let e : u ≡ x = cc in let f : v ≡ y = cc in
    flips_first v u ys (u ∷ xs) (omega arith) i.1 (omega arith, h.1) ∙ ap (λ n. n ∷ flips ys (u ∷ xs)) f

pub after_last : (y : ℕ) (xs ys : List ℕ) → slice_get xs 0 ≡ None → slice_get ys 0 ≡ Some y → RisesFrom 0 ys → flips ys xs ≡ y ∷ flips (drop 1 ys) xs
after_last y [] [] is at i = absurd (cc)
after_last y (u ∷ xs) ys is at i = absurd (cc)
after_last y [] (v ∷ ys) is at i =
    let f : v ≡ y = cc in
    flips_first v (v + 1) ys [] (omega arith) i.1 tt ∙ ap (λ n. n ∷ flips ys []) f

-- a number that both lists begin with
pub both_passed : (x y : ℕ) (xs ys : List ℕ) → slice_get xs 0 ≡ Some x → slice_get ys 0 ≡ Some y → x ≡ y → flips (drop 1 ys) (drop 1 xs) ≡ flips ys xs
both_passed x y [] ys is at same = absurd (cc)
both_passed x y (u ∷ xs) [] is at same = absurd (cc)
both_passed x y (u ∷ xs) (v ∷ ys) is at same =
    let e : u ≡ v = cc in
    sym (flips_both u v ys xs e)

pub none_left : (xs ys : List ℕ) → slice_get xs 0 ≡ None → slice_get ys 0 ≡ None → flips ys xs ≡ []
none_left [] [] is at = refl
none_left (u ∷ xs) ys is at = absurd (cc)
none_left [] (v ∷ ys) is at = absurd (cc)

-- numbers that both lists begin with
pub flips-common : (common ts xs : List ℕ) → flips (common ++ ts) (common ++ xs) ≡ flips ts xs
flips-common [] ts xs = refl
flips-common (c ∷ common) ts xs = flips_both c c (common ++ ts) (common ++ xs) refl ∙ flips-common common ts xs

-- what is left of two rising lists after the numbers that both begin with
pub record CommonPassed (old new old2 new2 : List ℕ) : Type 0 where
  pub same : flips new2 new ≡ flips old2 old
  pub first : RisesFrom 0 new
  pub second : RisesFrom 0 new2

pub common_passed : (old new old2 new2 : List ℕ) → PassCommon old new old2 new2 → RisesFrom 0 old → RisesFrom 0 old2 → CommonPassed old new old2 new2
common_passed old new old2 new2 p h i = record {
  same = sym ((λ j. flips (p.second j) (p.first j)) ∙ flips-common p.common new2 new);
  first = rises_right 0 p.common new (subst (RisesFrom 0) p.first h);
  second = rises_right 0 p.common new2 (subst (RisesFrom 0) p.second i);
}

-- between pulses all edges are left
low : (ps : List Pulse) → edges_left ps false ≡ edges_of ps
low [] = refl
low (p ∷ ps) = refl

-- a fall is past
pub passed_fall : (ps : List Pulse) → 0 < length (edges_left ps true) → edges_left (drop 1 ps) false ≡ drop 1 (edges_left ps true)
passed_fall [] lt = absurd (omega arith)
passed_fall (p ∷ ps) lt = low ps

-- edges between pulses, with some pulses at the front gone
pub edges_left-dropped : (n : ℕ) (ps : List Pulse) → edges_left ps false ≡ edges_of (take n ps) ++ edges_left (drop n ps) false
edges_left-dropped n ps =
    low ps ∙ ap edges_of (sym (take-append-drop n ps)) ∙ edges_of-append (take n ps) (drop n ps)
    ∙ ap (λ (es : List ℕ). edges_of (take n ps) ++ es) (sym (low (drop n ps)))
