-- Pulses moved in time, one after the other.
use Rattle.std.proofs.Common.{◌≡◌, ℕ, suc, ◌+◌, ◌-◌, ◌<◌, List, [], ◌∷◌, ◌++◌, map, length, take, drop, set, slice_get, Some, refl, sym, ap, ◌∙◌, arith}
use Rattle.std.proofs.Common.{append_assoc}
use Rattle.std.proofs.lemmas.{List.map-append, List.set-append_right, List.length-take-le, List.length-map, Option.slice_get_within}
use Rattle.irig_recording.specs.declared.pulse.Pulse.{Pulse}
use Rattle.irig_track.specs.{Shifts.moved_pulse, Splices.spliced, Splices.piece}
use Rattle.irig_track.proofs.{Carried.first_of_drop, Carried.length-piece, Items.drop-item, Items.slice_get-drop, Items.take-item}

-- the pulses with the first m of those from at on moved
abbrev pub moved_so_far : ℕ → ℕ → ℕ → ℕ → List Pulse → List Pulse
moved_so_far on off at m ps = spliced at m (map (moved_pulse on off) (piece at m ps)) ps

pub more_piece : (at m : ℕ) (p : Pulse) (ps : List Pulse) → slice_get ps (at + m) ≡ Some p → piece at (m + 1) ps ≡ piece at m ps ++ p ∷ []
more_piece at m p ps is =
    take-item (drop at ps) m p (slice_get-drop at ps m (at + m) refl ∙ is)

past : (xs zs : List Pulse) (n k : ℕ) → length xs ≡ n → slice_get (xs ++ zs) (n + k) ≡ slice_get zs k
past [] zs n k e = let z : n + k ≡ k = omega arith in ap (slice_get zs) z
past (x ∷ xs) zs n k e = let z : n + k ≡ suc (length xs + k) = omega arith in ap (slice_get (x ∷ (xs ++ zs))) z ∙ past xs zs (length xs) k refl

-- a pulse that is still to move is as before
pub unmoved : (xs ms zs : List Pulse) (at m : ℕ) → length xs ≡ at → length ms ≡ m → slice_get (xs ++ (ms ++ zs)) (at + m) ≡ slice_get zs 0
unmoved xs ms zs at m a b =
    let z : m ≡ m + 0 = omega arith in
    past xs (ms ++ zs) at m a ∙ ap (slice_get (ms ++ zs)) z ∙ past ms zs m 0 b

pub next_unmoved : (on off at m : ℕ) (ps : List Pulse) → at + m < length ps → slice_get (moved_so_far on off at m ps) (at + m) ≡ slice_get ps (at + m)
next_unmoved on off at m ps lt =
    unmoved (take at ps) (map (moved_pulse on off) (piece at m ps)) (drop (at + m) ps) at m (length-take-le at ps (omega arith))
    (length-map (piece at m ps) (moved_pulse on off) ∙ length-piece ps at m (omega arith))
    ∙ first_of_drop ps (at + m)

-- one more pulse replaced
pub more_set : (at m : ℕ) (p q : Pulse) (ms ps : List Pulse) → length ms ≡ m → slice_get ps (at + m) ≡ Some p
    → set (spliced at m ms ps) (at + m) q ≡ spliced at (m + 1) (ms ++ q ∷ []) ps
more_set at m p q ms ps long is =
    let lt : at + m < length ps = slice_get_within ps (at + m) p is in
    let d = drop (at + m) ps in
    let back : at + m - at ≡ m = omega arith in
    let none : m - m ≡ 0 = omega arith in
    let up : at + m + 1 ≡ at + (m + 1) = omega arith in
    set-append_right (take at ps) (ms ++ d) at (at + m) q (length-take-le at ps (omega arith)) (omega arith)
    ∙ ap (λ k. take at ps ++ set (ms ++ d) k q) back
    ∙ ap (λ ys. take at ps ++ ys) (set-append_right ms d m m q long (omega arith) ∙ ap (λ k. ms ++ set d k q) none
    ∙ ap (λ ys. ms ++ set ys 0 q) (drop-item ps (at + m) p is)
    ∙ sym (append_assoc ms (q ∷ []) (drop (at + m + 1) ps))
    ∙ ap (λ k. (ms ++ q ∷ []) ++ drop k ps) up)

-- one more pulse moved
pub more_moved : (on off at m : ℕ) (p : Pulse) (ps : List Pulse) → slice_get ps (at + m) ≡ Some p
    → set (moved_so_far on off at m ps) (at + m) (moved_pulse on off p) ≡ moved_so_far on off at (m + 1) ps
more_moved on off at m p ps is =
    let lt : at + m < length ps = slice_get_within ps (at + m) p is in
    let f = moved_pulse on off in
    let ms = map f (piece at m ps) in
    let long : length ms ≡ m = length-map (piece at m ps) f ∙ length-piece ps at m (omega arith) in
    more_set at m p (f p) ms ps long is
    ∙ ap (λ ys. spliced at (m + 1) ys ps) (sym (map-append f (piece at m ps) (p ∷ [])) ∙ ap (map f) (sym (more_piece at m p ps is)))
