-- Rising lists as sets.
use Rattle.std.proofs.Common.{◌≡◌, ℕ, ◌+◌, ◌≢◌, ◌==◌, Bool, true, false, cond, not, ◌&&◌, ◌||◌, List, [], ◌∷◌, ◌++◌, refl, sym, ap, ◌∙◌, subst, inl, inr, arith}
use Rattle.std.proofs.lemmas.Bool.{cases_eq, or_parts}
use Rattle.irig_recording.specs.{declared.pulse.Pulse.Pulse, Recording.RisesFrom}
use Rattle.irig_track.specs.Edges.{has, edges_of, is_edge, pulse}
use Rattle.irig_track.proofs.RisingLists.{three, rises_right, has_here, has_there, has_none}

pub has-append : (t : ℕ) (xs ys : List ℕ) → has t (xs ++ ys) ≡ (has t xs || has t ys)
has-append t [] ys = refl
has-append t (x ∷ xs) ys = elim (x == t) as (λ v. cond v true (has t (xs ++ ys)) ≡ (cond v true (has t xs) || has t ys))
    [ true ↦ refl | false ↦ has-append t xs ys ]

-- what is on the left is not on the right
pub has_once : (low t : ℕ) (xs ys : List ℕ) → RisesFrom low (xs ++ ys) → has t xs ≡ true → has t ys ≡ false
has_once low t [] ys h e = absurd (cc)
has_once low t (x ∷ xs) ys h e = elim (cases_eq x t) [
  | inl s ↦ has_none (x + 1) t ys (rises_right (x + 1) xs ys h.1) (omega arith)
  | inr n ↦ has_once (x + 1) t xs ys h.1 (sym (has_there x t xs n) ∙ e)
]

or_out : (b k p a : Bool) → (k ≡ true → a ≡ false) → (b ≡ true → k ≡ false) → (b || (p || a)) ≡ (((b || (k || a)) && not k) || p)
or_out true true p a h i = absurd (let e = i refl in cc)
or_out true false true true h i = refl
or_out true false true false h i = refl
or_out true false false true h i = refl
or_out true false false false h i = refl
or_out false true true true h i = refl
or_out false true true false h i = refl
or_out false true false true h i = absurd (let e = h refl in cc)
or_out false true false false h i = refl
or_out false false true true h i = refl
or_out false false true false h i = refl
or_out false false false true h i = refl
or_out false false false false h i = refl

-- a splice removes the one part and inserts the other
pub has-splice : (t : ℕ) (before gone come after : List ℕ) → RisesFrom 0 (before ++ (gone ++ after))
    → has t (before ++ (come ++ after)) ≡ ((has t (before ++ (gone ++ after)) && not (has t gone)) || has t come)
has-splice t before gone come after h =
    let all : has t (before ++ (gone ++ after)) ≡ (has t before || (has t gone || has t after)) = has-append t before (gone ++ after)
    ∙ ap (λ v. has t before || v) (has-append t gone after) in
    has-append t before (come ++ after) ∙ ap (λ v. has t before || v) (has-append t come after)
    ∙ or_out (has t before) (has t gone) (has t come) (has t after)
    (λ e. has_once 0 t gone after (rises_right 0 before (gone ++ after) h) e)
    (λ e. (or_parts _ _ (sym (has-append t gone after) ∙ has_once 0 t before (gone ++ after) h e)).0)
    ∙ ap (λ v. (v && not (has t gone)) || has t come) (sym all)

-- a set has one rising list
pub only_list : (low : ℕ) (xs ys : List ℕ) → RisesFrom low xs → RisesFrom low ys → ((t : ℕ) → has t xs ≡ has t ys) → xs ≡ ys
only_list low [] [] h i e = refl
only_list low [] (y ∷ ys) h i e = absurd (let bad : false ≡ true = e y ∙ has_here y y ys refl in cc)
only_list low (x ∷ xs) [] h i e = absurd (let bad : false ≡ true = sym (e x) ∙ has_here x x xs refl in cc)
only_list low (x ∷ xs) (y ∷ ys) h i e = elim (three x y) [
  | inl lt ↦ absurd (let bad : true ≡ false = sym (has_here x x xs refl) ∙ e x ∙ has_none y x (y ∷ ys) (omega arith, i.1) lt in cc)
  | inr r ↦ elim r [
    | inl s ↦ (
        let rest : (t : ℕ) → has t xs ≡ has t ys = λ t. elim (cases_eq x t) [
          | inl u ↦ has_none (x + 1) t xs h.1 (omega arith) ∙ sym (has_none (y + 1) t ys i.1 (omega arith))
          | inr n ↦ sym (has_there x t xs n) ∙ e t ∙ has_there y t ys (subst (λ k. k ≢ t) s n)
        ] in
        let tail : xs ≡ ys = only_list (x + 1) xs ys h.1 (subst (λ k. RisesFrom (k + 1) ys) (sym s) i.1) rest in
        (λ j. s j ∷ tail j))
    | inr gt ↦ absurd (let bad : true ≡ false = sym (has_here y y ys refl) ∙ sym (e y) ∙ has_none x y (x ∷ xs) (omega arith, h.1) gt in cc)
  ]
]

pub edges_of-inj : (ps qs : List Pulse) → edges_of ps ≡ edges_of qs → ps ≡ qs
edges_of-inj [] [] e = refl
edges_of-inj [] (q ∷ qs) e = absurd (cc)
edges_of-inj (p ∷ ps) [] e = absurd (cc)
edges_of-inj (p ∷ ps) (q ∷ qs) e =
    let r : p.rise ≡ q.rise = cc in let f : p.fall ≡ q.fall = cc in
    let rest : edges_of ps ≡ edges_of qs = cc in
    let tail : ps ≡ qs = edges_of-inj ps qs rest in
    (λ j. pulse (r j) (f j) ∷ tail j)

-- a set of edges has one list of pulses
pub only_pulses : (ps qs : List Pulse) → RisesFrom 0 (edges_of ps) → RisesFrom 0 (edges_of qs) → ((t : ℕ) → is_edge t ps ≡ is_edge t qs) → ps ≡ qs
only_pulses ps qs h i e = edges_of-inj ps qs (only_list 0 _ _ h i e)
