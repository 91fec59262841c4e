-- What edits on pulses do to the set of edges.
use Rattle.std.proofs.Common.{◌≡◌, ℕ, ◌+◌, ◌<◌, ◌≤◌, ◌==◌, nat_le, Bool, true, false, cond, not, ◌&&◌, ◌||◌, List, [], ◌∷◌, ◌++◌, take, drop, refl, sym, ap}
use Rattle.std.proofs.Common.{◌∙◌, subst, inl, inr, arith, append_assoc}
use Rattle.std.proofs.lemmas.Bool.{and_from, and_left, and_right, cases_Bool, cases_eq, eq-eqb, le-leb, lt-leb, ne_eqb}
use Rattle.std.proofs.lemmas.List.{take-append-drop, drop-drop}
use Rattle.std.proofs.Math.Bool.{or-false}
use Rattle.irig_recording.specs.{declared.pulse.Pulse.Pulse, Recording.RisesFrom, Recording.UpTo}
use Rattle.irig_track.specs.Edges.{Under, has, edges_of, is_edge, with_both, replaced, without, without_between, inverted, pulse}
use Rattle.irig_track.specs.{Toggles.flipped, Toggles.toggled, Splices.spliced, Splices.piece}
use Rattle.irig_recording.proofs.PulseEdges.{edges_of-append}
use Rattle.irig_track.proofs.RisingLists.{rises_left, rises_right, has_there, has-flipped_same, has-flipped_other, RisesFrom-flipped, under_next}
use Rattle.irig_track.proofs.Sets.{has-append, has-splice}

pub parts : (at count : ℕ) (ps : List Pulse) → take at ps ++ (piece at count ps ++ drop (at + count) ps) ≡ ps
parts at count ps =
    ap (λ xs. take at ps ++ (piece at count ps ++ xs)) (sym (drop-drop count at ps))
    ∙ ap (λ xs. take at ps ++ xs) (take-append-drop count (drop at ps)) ∙ take-append-drop at ps

pub edges_of-three : (xs ys zs : List Pulse) → edges_of (xs ++ (ys ++ zs)) ≡ edges_of xs ++ (edges_of ys ++ edges_of zs)
edges_of-three xs ys zs = edges_of-append xs (ys ++ zs) ∙ ap (λ es. edges_of xs ++ es) (edges_of-append ys zs)

pub edges_of-parts : (at count : ℕ) (ps : List Pulse) → edges_of ps ≡ edges_of (take at ps) ++ (edges_of (piece at count ps) ++ edges_of (drop (at + count) ps))
edges_of-parts at count ps = sym (ap edges_of (parts at count ps)) ∙ edges_of-three (take at ps) (piece at count ps) (drop (at + count) ps)

-- any splice
pub is_edge-spliced : (t at count : ℕ) (put ps : List Pulse) → RisesFrom 0 (edges_of ps)
    → is_edge t (spliced at count put ps) ≡ replaced (edges_of (piece at count ps)) (edges_of put) t (is_edge t ps)
is_edge-spliced t at count put ps h =
    let e = edges_of-parts at count ps in
    ap (has t) (edges_of-three (take at ps) put (drop (at + count) ps))
    ∙ has-splice t (edges_of (take at ps)) (edges_of (piece at count ps)) (edges_of put) (edges_of (drop (at + count) ps)) (subst (RisesFrom 0) e h)
    ∙ ap (λ es. replaced (edges_of (piece at count ps)) (edges_of put) t (has t es)) (sym e)

keep_or : (v w : Bool) → ((v && not false) || w) ≡ (v || w)
keep_or true w = refl
keep_or false w = refl

pub two : (a b t : ℕ) → has t (a ∷ b ∷ []) ≡ ((a == t) || (b == t))
two a b t = elim (a == t) as (λ v. cond v true (cond (b == t) true false) ≡ (v || (b == t)))
    [ true ↦ refl | false ↦ elim (b == t) as (λ v. cond v true false ≡ v) [ true ↦ refl | false ↦ refl ] ]

-- a pulse inserted
pub is_edge-inserted : (t at a b : ℕ) (ps : List Pulse) → RisesFrom 0 (edges_of ps)
    → is_edge t (spliced at 0 (pulse a b ∷ []) ps) ≡ with_both a b t (is_edge t ps)
is_edge-inserted t at a b ps h = is_edge-spliced t at 0 (pulse a b ∷ []) ps h ∙ keep_or (is_edge t ps) (has t (a ∷ b ∷ []))
    ∙ ap (λ v. is_edge t ps || v) (two a b t)

-- pulses removed
pub is_edge-deleted : (t at count : ℕ) (ps : List Pulse) → RisesFrom 0 (edges_of ps)
    → is_edge t (spliced at count [] ps) ≡ without (edges_of (piece at count ps)) t (is_edge t ps)
is_edge-deleted t at count ps h = is_edge-spliced t at count [] ps h ∙ or-false _

-- the bounds of a part between two others
has_low : (t low : ℕ) (xs : List ℕ) → RisesFrom low xs → has t xs ≡ true → low ≤ t
has_low t low [] h e = absurd (cc)
has_low t low (x ∷ xs) h e = elim (cases_eq x t) [
  | inl s ↦ omega (arith, h.0)
  | inr n ↦ omega (arith, h.0, has_low t (x + 1) xs h.1 (sym (has_there x t xs n) ∙ e))
]

has_under : (t high : ℕ) (xs : List ℕ) → Under high xs → has t xs ≡ true → t < high
has_under t high [] h e = absurd (cc)
has_under t high (x ∷ xs) h e = elim (cases_eq x t) [
  | inl s ↦ omega (arith, h.0)
  | inr n ↦ has_under t high xs h.1 (sym (has_there x t xs n) ∙ e)
]

has_upto : (t high : ℕ) (xs : List ℕ) → UpTo high xs → has t xs ≡ true → t ≤ high
has_upto t high [] h e = absurd (cc)
has_upto t high (x ∷ xs) h e = elim (cases_eq x t) [
  | inl s ↦ omega (arith, h.0)
  | inr n ↦ has_upto t high xs h.1 (sym (has_there x t xs n) ∙ e)
]

-- in a rising list, what is in the part is between its bounds
in_window : (t low high : ℕ) (before ms after : List ℕ) (v : Bool)
    → RisesFrom 0 (before ++ ((low ∷ ms) ++ after)) → Under low before → UpTo high (low ∷ ms) → RisesFrom (high + 1) after
    → has t (before ++ ((low ∷ ms) ++ after)) ≡ true → has t (low ∷ ms) ≡ (nat_le low t && nat_le t high)
in_window t low high before ms after v h u w r e =
    let middle : RisesFrom 0 ((low ∷ ms) ++ after) = rises_right 0 before ((low ∷ ms) ++ after) h in
    elim (cases_Bool (has t (low ∷ ms))) [
      | inl m ↦ m ∙ sym (and_from _ _ (le-leb low t (has_low t low (low ∷ ms) (omega arith, rises_left (low + 1) ms after middle.1) m))
          (le-leb t high (has_upto t high (low ∷ ms) w m)))
      | inr m ↦ elim (cases_Bool (has t before)) [
        | inl l ↦ m ∙ sym (and_left _ _ (lt-leb low t (has_under t low before u l)))
        | inr l ↦ (
            let last : has t ((low ∷ ms) ++ after) ≡ true = sym (ap (λ z. z || has t ((low ∷ ms) ++ after)) l) ∙ sym (has-append t before ((low ∷ ms) ++ after))
            ∙ e in
            let last2 : has t after ≡ true = sym (ap (λ z. z || has t after) m) ∙ sym (has-append t (low ∷ ms) after) ∙ last in
            (let more : high < t = omega (arith, has_low t (high + 1) after r last2) in m ∙ sym (and_right _ _ (lt-leb t high more))))
      ]
    ]

upto_last : (low y : ℕ) (xs ys : List ℕ) → RisesFrom low (xs ++ (y ∷ ys)) → UpTo y (xs ++ (y ∷ []))
upto_last low y [] ys h = (omega arith, tt)
upto_last low y (x ∷ xs) ys h = (omega (arith, (rises_right (x + 1) xs (y ∷ ys) h.1).0), upto_last (x + 1) y xs ys h.1)

same_kept : (v k w : Bool) → (v ≡ true → k ≡ w) → ((v && not k) || false) ≡ (v && not w)
same_kept true k w h = or-false (not k) ∙ ap not (h refl)
same_kept false k w h = refl

regroup_gone : (r f x y : ℕ) (b m a : List ℕ) → b ++ ((r ∷ f ∷ (m ++ (x ∷ y ∷ []))) ++ a) ≡ (b ++ (r ∷ [])) ++ ((f ∷ (m ++ (x ∷ []))) ++ (y ∷ a))
regroup_gone r f x y b m a = simp append_assoc

regroup_come : (r y : ℕ) (b a : List ℕ) → b ++ ((r ∷ y ∷ []) ++ a) ≡ (b ++ (r ∷ [])) ++ ([] ++ (y ∷ a))
regroup_come r y b a = simp append_assoc

-- pulses joined into one
pub is_edge-joined : (t at count : ℕ) (p q : Pulse) (mid ps : List Pulse) → piece at count ps ≡ p ∷ (mid ++ (q ∷ [])) → RisesFrom 0 (edges_of ps)
    → is_edge t (spliced at count (pulse p.rise q.fall ∷ []) ps) ≡ without_between p.fall q.rise t (is_edge t ps)
is_edge-joined t at count p q mid ps is h =
    let b = edges_of (take at ps) in let a = edges_of (drop (at + count) ps) in let m = edges_of mid in
    let gone : List ℕ = p.fall ∷ (m ++ (q.rise ∷ [])) in let left : List ℕ = b ++ (p.rise ∷ []) in
    let cut : edges_of (piece at count ps) ≡ p.rise ∷ p.fall ∷ (m ++ (q.rise ∷ q.fall ∷ [])) =
    ap edges_of is ∙ ap (λ es. p.rise ∷ p.fall ∷ es) (edges_of-append mid (q ∷ [])) in
    let old : edges_of ps ≡ left ++ (gone ++ (q.fall ∷ a)) = edges_of-parts at count ps ∙ ap (λ es. b ++ (es ++ a)) cut
    ∙ regroup_gone p.rise p.fall q.rise q.fall b m a in
    let new : edges_of (spliced at count (pulse p.rise q.fall ∷ []) ps) ≡ left ++ ([] ++ (q.fall ∷ a)) =
    edges_of-three (take at ps) (pulse p.rise q.fall ∷ []) (drop (at + count) ps) ∙ regroup_come p.rise q.fall b a in
    let r : RisesFrom 0 (left ++ (gone ++ (q.fall ∷ a))) = subst (RisesFrom 0) old h in
    let tail : RisesFrom 0 (gone ++ (q.fall ∷ a)) = rises_right 0 left (gone ++ (q.fall ∷ a)) r in
    let again : (p.fall ∷ (m ++ (q.rise ∷ []))) ++ (q.fall ∷ a) ≡ (p.fall ∷ m) ++ (q.rise ∷ q.fall ∷ a) = simp append_assoc in
    let tail2 : RisesFrom 0 ((p.fall ∷ m) ++ (q.rise ∷ q.fall ∷ a)) = subst (RisesFrom 0) again tail in
    ap (has t) new ∙ has-splice t left gone [] (q.fall ∷ a) r
    ∙ same_kept _ _ _ (λ e. in_window t p.fall q.rise left (m ++ (q.rise ∷ [])) (q.fall ∷ a) true r (under_next 0 p.fall left _ r)
    (upto_last 0 q.rise (p.fall ∷ m) _ tail2) (rises_right 0 (p.fall ∷ m) (q.rise ∷ q.fall ∷ a) tail2).1 e)
    ∙ ap (λ es. without_between p.fall q.rise t (has t es)) (sym old)

-- a symmetric difference
pub has-toggled : (t a b : ℕ) (xs : List ℕ) → a < b → RisesFrom 0 xs → has t (toggled a b xs) ≡ inverted a b t (has t xs)
has-toggled t a b xs lt h = elim (cases_eq b t) [
  | inl e ↦ (
      let none : (a == t) ≡ false = ne_eqb a t (omega arith) in let one : (b == t) ≡ true = eq-eqb b t e in
      subst (λ k. has k (toggled a b xs) ≡ not (has k xs)) e
      (has-flipped_same 0 b (flipped a xs) (RisesFrom-flipped 0 a xs (omega arith) h) ∙ ap not (has-flipped_other a b xs (omega arith)))
      ∙ sym (λ j. cond (none j || one j) (not (has t xs)) (has t xs)))
  | inr n ↦ (
      let none : (b == t) ≡ false = ne_eqb b t n in
      has-flipped_other b t (flipped a xs) n ∙ elim (cases_eq a t) [
        | inl e ↦ (let one : (a == t) ≡ true = eq-eqb a t e in subst (λ k. has k (flipped a xs) ≡ not (has k xs)) e (has-flipped_same 0 a xs h)
            ∙ sym (λ j. cond (one j || none j) (not (has t xs)) (has t xs)))
        | inr m ↦ (let one : (a == t) ≡ false = ne_eqb a t m in has-flipped_other a t xs m ∙ sym (λ j. cond (one j || none j) (not (has t xs)) (has t xs)))
      ])
]

pub is_edge-toggled : (t a b : ℕ) (old new : List Pulse) → a < b → RisesFrom 0 (edges_of old) → edges_of new ≡ toggled a b (edges_of old)
    → is_edge t new ≡ inverted a b t (is_edge t old)
is_edge-toggled t a b old new lt h e = ap (has t) e ∙ has-toggled t a b (edges_of old) lt h
