-- The level of a symmetric difference, and the stretches in which it is high.
use Rattle.std.proofs.Common.{◌≡◌, ℕ, ◌+◌, ◌<◌, Bool, true, false, not, cond, List, [], ◌∷◌, ◌||◌, ◌&&◌, nat_le, nat_lt, filter, refl, sym, ap, ◌∙◌, arith, inl}
use Rattle.std.proofs.Common.{inr}
use Rattle.std.proofs.Math.Bool.{not-not}
use Rattle.std.proofs.lemmas.Bool.{cases_lt, lt-ltb, le-ltb, lt-leb, le-leb}
use Rattle.irig_recording.specs.{Recording.RisesFrom, Recording.is_even_long, Recording.level_by_edges, declared.pulse.Pulse.Pulse}
use Rattle.irig_track.specs.{Edges.edges_of, Toggles.flipped}
use Rattle.irig_track.proofs.RisingLists.{three, flip_low, flip_same, flip_high}
use Rattle.irig_difference.specs.{Flips.unlike, Flips.flips, Stretches.is_within}

-- an edge more at or before a time turns its level
level-cons : (t x : ℕ) (xs : List ℕ) → level_by_edges t (x ∷ xs) ≡ cond (nat_le x t) (not (level_by_edges t xs)) (level_by_edges t xs)
level-cons t x xs = elim (nat_le x t) as
    (λ v. not (is_even_long (cond v (x ∷ filter (λ e. nat_le e t) xs) (filter (λ e. nat_le e t) xs)))
    ≡ cond v (not (level_by_edges t xs)) (level_by_edges t xs))
    [ true ↦ refl | false ↦ refl ]

turn_twice : (c v : Bool) → cond c (not (cond c (not v) v)) (cond c (not v) v) ≡ v
turn_twice true v = not-not v
turn_twice false v = refl

turn_both : (c d v : Bool) → cond c (not (cond d (not v) v)) (cond d (not v) v) ≡ cond d (not (cond c (not v) v)) (cond c (not v) v)
turn_both true true v = refl
turn_both true false v = refl
turn_both false d v = refl

level-flipped : (t x : ℕ) (xs : List ℕ) → level_by_edges t (flipped x xs) ≡ cond (nat_le x t) (not (level_by_edges t xs)) (level_by_edges t xs)
level-flipped t x [] = level-cons t x []
level-flipped t x (y ∷ xs) =
    let turn : ℕ → Bool → Bool = λ e v. cond (nat_le e t) (not v) v in
    elim (three x y) [
      | inl lt ↦ ap (level_by_edges t) (flip_low x y xs lt) ∙ level-cons t x (y ∷ xs)
      | inr r ↦ elim r [
        | inl e ↦ ap (level_by_edges t) (flip_same x y xs e)
            ∙ sym (ap (turn x) (level-cons t y xs) ∙ ap (λ n. turn x (turn n (level_by_edges t xs))) (sym e) ∙ turn_twice (nat_le x t) (level_by_edges t xs))
        | inr gt ↦ ap (level_by_edges t) (flip_high x y xs gt) ∙ level-cons t y (flipped x xs) ∙ ap (turn y) (level-flipped t x xs)
            ∙ turn_both (nat_le y t) (nat_le x t) (level_by_edges t xs) ∙ sym (ap (turn x) (level-cons t y xs))
      ]
    ]

unlike_turned : (c v w : Bool) → unlike v (cond c (not w) w) ≡ unlike (cond c (not v) v) w
unlike_turned true true true = refl
unlike_turned true true false = refl
unlike_turned true false w = refl
unlike_turned false v w = refl

-- the level of a symmetric difference is high where the levels are unlike
pub level-flips : (t : ℕ) (ts xs : List ℕ) → level_by_edges t (flips ts xs) ≡ unlike (level_by_edges t ts) (level_by_edges t xs)
level-flips t [] xs = refl
level-flips t (x ∷ ts) xs =
    level-flips t ts (flipped x xs) ∙ ap (unlike (level_by_edges t ts)) (level-flipped t x xs)
    ∙ unlike_turned (nat_le x t) (level_by_edges t ts) (level_by_edges t xs)
    ∙ sym (ap (λ v. unlike v (level_by_edges t xs)) (level-cons t x ts))

level_none : (t low : ℕ) (xs : List ℕ) → t < low → RisesFrom low xs → level_by_edges t xs ≡ false
level_none t low [] lt h = refl
level_none t low (x ∷ xs) lt h =
    level-cons t x xs ∙ ap (λ v. cond v (not (level_by_edges t xs)) (level_by_edges t xs)) (lt-leb x t (omega (arith, h.0)))
    ∙ level_none t (x + 1) xs (omega (arith, h.0)) h.1

pick : (a : Bool) → cond a (not false) false ≡ ((a && true) || false)
pick true = refl
pick false = refl

within_here : (t a b : ℕ) (v : Bool) → (t < b → v ≡ false) → a < b
    → cond (nat_le a t) (not (cond (nat_le b t) (not v) v)) (cond (nat_le b t) (not v) v) ≡ ((nat_le a t && nat_lt t b) || v)
within_here t a b v h lt = elim (cases_lt t b) [
  | inl in_front ↦ rw (lt-leb b t in_front, lt-ltb t b in_front, h in_front) (pick (nat_le a t))
  | inr past ↦ rw (le-leb b t past, le-leb a t (omega arith), le-ltb t b past) (not-not v)
]

-- the level is high in the stretches and nowhere else
pub level-stretches : (t low : ℕ) (ps : List Pulse) → RisesFrom low (edges_of ps) → is_within t ps ≡ level_by_edges t (edges_of ps)
level-stretches t low [] h = refl
level-stretches t low (p ∷ ps) h =
    let rest : is_within t ps ≡ level_by_edges t (edges_of ps) = level-stretches t (p.fall + 1) ps h.1.1 in
    let v = level_by_edges t (edges_of ps) in
    ap (λ w. (nat_le p.rise t && nat_lt t p.fall) || w) rest
    ∙ sym (level-cons t p.rise (p.fall ∷ edges_of ps) ∙ ap (λ w. cond (nat_le p.rise t) (not w) w) (level-cons t p.fall (edges_of ps))
    ∙ within_here t p.rise p.fall v (λ lt. level_none t (p.fall + 1) (edges_of ps) (omega arith) h.1.1) (omega (arith, h.1.0)))
