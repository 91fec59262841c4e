-- Where a turn takes place, and how often it looks.
use Rattle.std.proofs.Common.{◌≡◌, ℕ, ◌+◌, ◌<◌, ◌≤◌, nat_le, ◌&&◌, cond, List, [], ◌∷◌, length, refl, ap, ◌∙◌, arith, length-drop, inl, inr}
use Rattle.std.proofs.lemmas.Bool.{cases_lt, le-leb, lt-leb}
use Rattle.std.proofs.Math.Bool.{and-true}
use Rattle.irig_recording.specs.{Recording.RisesFrom, declared.pulse.Pulse.Pulse}
use Rattle.irig_track.specs.{Edges.edges_of, Splices.IsSpan, Splices.ended_before, Splices.risen_by, Toggles.flipped, Toggles.toggled}
use Rattle.irig_track.proofs.Recordings.{length-flipped_most}
use Rattle.irig_track.proofs.Searches.{at_most_one, ended_no, ended_yes, risen_none, risen_yes}
use Rattle.irig_recording.proofs.PulseEdges.{length-edges_of}
use Rattle.irig_edit.specs.Changes.Looks.{standing_in}

-- a pulse that ends before a is not there from a on
standing_no : (a b : ℕ) (p : Pulse) (ps : List Pulse) → p.rise ≤ b → p.fall < a → standing_in a b (p ∷ ps) ≡ 0 + standing_in a b ps
standing_no a b p ps up lt =
    let rise = le-leb p.rise b up in
    let fall = lt-leb a p.fall lt in
    (λ k. cond (rise k && fall k) 1 0 + standing_in a b ps)

-- any other is there if it rises at or before b
standing_if : (a b : ℕ) (p : Pulse) (ps : List Pulse) → a ≤ p.fall
    → standing_in a b (p ∷ ps) ≡ cond (nat_le p.rise b) 1 0 + standing_in a b ps
standing_if a b p ps le =
    let fall = le-leb a p.fall le in
    ap (λ v. cond (nat_le p.rise b && v) 1 0 + standing_in a b ps) fall
    ∙ ap (λ v. cond v 1 0 + standing_in a b ps) (and-true (nat_le p.rise b))

sums : (e s r n : ℕ) → e + s ≡ r → (0 + e) + (n + s) ≡ n + r
sums e s r n h = omega arith

-- the pulses that are there from a to b are those that rise up to b but for those that end before a
pub standing-is : (a b low : ℕ) (ps : List Pulse) → a ≤ b → RisesFrom low (edges_of ps)
    → ended_before a ps + standing_in a b ps ≡ risen_by b ps
standing-is a b low [] le rises = refl
standing-is a b low (p ∷ ps) le rises =
    let rest = standing-is a b (p.fall + 1) ps le rises.1.1 in
    elim (cases_lt p.fall a) [
      | inl lt ↦ omega (arith, ended_yes a p ps lt, risen_yes b p ps (omega (arith, rises.1.0)), standing_no a b p ps (omega (arith, rises.1.0)) lt, rest)
      | inr there ↦
          let ended = ended_no a p ps there in
          let stands = standing_if a b p ps there in
          (λ k. ended k + stands k) ∙ sums (ended_before a ps) (standing_in a b ps) (risen_by b ps) (cond (nat_le p.rise b) 1 0) rest
    ]

-- at most one pulse that has risen by a ends at or after it
pub risen_few : (a low : ℕ) (ps : List Pulse) → RisesFrom low (edges_of ps) → risen_by a ps ≤ ended_before a ps + 1
risen_few a low [] rises = omega arith
risen_few a low (p ∷ ps) rises = elim (cases_lt p.fall a) [
  | inl lt ↦ omega (arith, ended_yes a p ps lt, risen_yes a p ps (omega (arith, rises.1.0)), risen_few a (p.fall + 1) ps rises.1.1)
  | inr there ↦ omega (arith, at_most_one (nat_le p.rise a) (risen_by a ps), risen_none a (p.fall + 1) ps (omega arith) rises.1.1)
]

-- as many pulses more as came more than went
pub length-spanned : (at gone come : ℕ) (old new : List Pulse) → IsSpan at gone come old new → length new + gone ≡ length old + come
length-spanned at gone come old new span =
    let same = ap length span.after in
    omega (arith, span.there, span.came, same, length-drop (at + come) new, length-drop (at + gone) old)

-- a toggle brings at most one more pulse
pub toggled_few : (a b : ℕ) (old new : List Pulse) → edges_of new ≡ toggled a b (edges_of old) → length new ≤ length old + 1
toggled_few a b old new edges =
    let first = length-flipped_most a (edges_of old) in
    let both = length-flipped_most b (flipped a (edges_of old)) in
    let long = ap length edges in
    omega (arith, length-edges_of old, length-edges_of new)
