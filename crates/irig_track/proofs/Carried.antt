-- One pulse carried from one gap to another.
use Rattle.std.proofs.Common.{◌≡◌, ℕ, suc, zero, ◌+◌, ◌-◌, ◌<◌, ◌≤◌, List, [], ◌∷◌, ◌++◌, length, take, drop, insert, remove, slice_get, Option, Some, refl}
use Rattle.std.proofs.Common.{sym, ap, ◌∙◌, subst, arith, append_assoc, length-append, length-drop}
use Rattle.std.proofs.lemmas.{List.drop-drop, List.length-take-le, List.Edits.insert-append_right, List.Edits.remove-append_right, Option.slice_get_within}
use Rattle.irig_gap.specs.Items.{GapView, gap_view}
use Rattle.irig_recording.specs.declared.pulse.Pulse.{Pulse}
use Rattle.irig_track.specs.Splices.{spliced, piece}
use Rattle.irig_track.proofs.Items.{slice_get-drop, take-item}

pub first_of_drop : (zs : List Pulse) (m : ℕ) → slice_get (drop m zs) 0 ≡ slice_get zs m
first_of_drop zs m = slice_get-drop m zs 0 m (omega arith)

past_take : (xs zs : List Pulse) (p : ℕ) → p ≤ length xs → slice_get (take p xs ++ zs) p ≡ slice_get zs 0
past_take xs zs zero le = refl
past_take [] zs (suc p) le = absurd (omega arith)
past_take (x ∷ xs) zs (suc p) le = past_take xs zs p (omega arith)

pub carried_item : (xs : List Pulse) (p m : ℕ) → p ≤ length xs → slice_get (spliced p m [] xs) p ≡ slice_get (drop p xs) m
carried_item xs p m le = past_take xs (drop (p + m) xs) p le ∙ ap (λ ys. slice_get ys 0) (sym (drop-drop m p xs)) ∙ first_of_drop (drop p xs) m

pub carried_from : (xs : List Pulse) (p m : ℕ) → p ≤ length xs → remove (spliced p m [] xs) p ≡ spliced p (m + 1) [] xs
carried_from xs p m le =
    let none : p - p ≡ 0 = omega arith in let up : p + m + 1 ≡ p + (m + 1) = omega arith in
    remove-append_right (take p xs) (drop (p + m) xs) p p (length-take-le p xs le) (omega arith)
    ∙ ap (λ k. take p xs ++ remove (drop (p + m) xs) k) none
    ∙ ap (λ ys. take p xs ++ ys) (drop-drop 1 (p + m) xs ∙ ap (λ k. drop k xs) up)

pub carried_to : (ys zs : List Pulse) (q m : ℕ) (z : Pulse) → q ≤ length ys → slice_get zs m ≡ Some z
    → insert (spliced q 0 (take m zs) ys) (q + m) z ≡ spliced q 0 (take (m + 1) zs) ys
carried_to ys zs q m z le is =
    let back : q + m - q ≡ m = omega arith in let none : m - m ≡ 0 = omega arith in let lt : m < length zs = slice_get_within zs m z is in
    let d = drop (q + 0) ys in
    let more : take m zs ++ (z ∷ d) ≡ take (m + 1) zs ++ d = sym (append_assoc (take m zs) (z ∷ []) d) ∙ ap (λ xs. xs ++ d)
    (sym (take-item zs m z is)) in
    insert-append_right (take q ys) (take m zs ++ d) q (q + m) z (length-take-le q ys le) (omega arith)
    ∙ ap (λ k. take q ys ++ insert (take m zs ++ d) k z) back
    ∙ ap (λ xs. take q ys ++ xs) (insert-append_right (take m zs) d m m z (length-take-le m zs (omega arith)) (omega arith) ∙ ap
    (λ k. take m zs ++ insert d k z) none ∙ more)

pub length-spliced : (xs put : List Pulse) (p m : ℕ) → p + m ≤ length xs → length (spliced p m put xs) + m ≡ length xs + length put
length-spliced xs put p m le = omega (
  arith,
  length-append (take p xs) (put ++ drop (p + m) xs),
  length-append put
      (drop (p + m) xs),
  length-take-le p xs (omega arith),
  length-drop (p + m) xs,
)

pub length-piece : (xs : List Pulse) (p m : ℕ) → p + m ≤ length xs → length (piece p m xs) ≡ m
length-piece xs p m le = length-take-le m (drop p xs) (omega (arith, length-drop p xs))

-- what is in two gaps after m pulses
abbrev pub FromLeft : GapView Pulse → ℕ → GapView Pulse
FromLeft f m = gap_view (spliced f.place m [] f.items) f.place f.capacity

abbrev pub ToCame : GapView Pulse → GapView Pulse → ℕ → GapView Pulse
ToCame f t m = gap_view (spliced t.place 0 (piece f.place m f.items) t.items) (t.place + m) t.capacity

pub carried_step : (f t v u v2 u2 : GapView Pulse) (m : ℕ) (z : Pulse) (r : Option Pulse)
    → f.place + m < length f.items → t.place ≤ length t.items → v ≡ FromLeft f m → u ≡ ToCame f t m → r ≡ Some z
    → (v.place < length v.items → (r ≡ slice_get v.items v.place) × (v2 ≡ gap_view (remove v.items v.place) v.place v.capacity))
    → u2 ≡ gap_view (insert u.items u.place z) (u.place + 1) u.capacity
    → (v2 ≡ FromLeft f (m + 1)) × (u2 ≡ ToCame f t (m + 1))
carried_step f t v u v2 u2 m z r lt le ve ue re took put =
    let long : length (spliced f.place m [] f.items) + m ≡ length f.items + 0 = length-spliced f.items [] f.place m (omega arith) in
    let inside : v.place < length v.items = subst (λ (w : GapView Pulse). w.place < length w.items) (sym ve) (omega arith) in
    let k = took inside in
    let is : slice_get (drop f.place f.items) m ≡ Some z =
    sym (carried_item f.items f.place m (omega arith)) ∙ sym (ap (λ (w : GapView Pulse). slice_get w.items w.place) ve) ∙ sym k.0 ∙ re in
    let up : t.place + m + 1 ≡ t.place + (m + 1) = omega arith in (
      k.1 ∙ ap (λ (w : GapView Pulse). gap_view (remove w.items w.place) w.place w.capacity) ve ∙ ap (λ xs. gap_view xs f.place f.capacity)
          (carried_from f.items f.place m (omega arith)),
      put ∙ ap (λ (w : GapView Pulse). gap_view (insert w.items w.place z) (w.place + 1) w.capacity) ue
          ∙ (λ j. gap_view (carried_to t.items (drop f.place f.items) t.place m z le is j) (up j) t.capacity),
    )
