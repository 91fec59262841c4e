-- A pulse that is inserted in free time.
use Rattle.std.proofs.Common.{◌≡◌, ◌≤◌, ◌<◌, ◌+◌, ◌^◌, ℕ, List, [], ◌∷◌, ◌++◌, length, take, drop, refl, ap, sym, ◌∙◌, subst, arith, take-append-drop}
use Rattle.std.proofs.Common.{length-take-le, false}
use Rattle.irig_recording.specs.{Recording.RisesFrom, Recording.UpTo, declared.pulse.Pulse.Pulse}
use Rattle.irig_track.specs.{Edges.edges_of, Edges.pulse, Edges.Under, Splices.spliced, Splices.risen_by, Splices.CanSplice, Track.IsTrack}
use Rattle.irig_recording.proofs.PulseEdges.{edges_of-append}
use Rattle.irig_track.proofs.{Laws.is_edge-inserted, Carried.length-spliced, Searches.risen_none, Searches.risen_yes}
use Rattle.irig_edit.specs.State.State.{State, IsState, with_pulses}
use Rattle.irig_edit.specs.{Edits.Conditions.is_touched, Edits.Becoming.Becomes, Session.Calls.Edit.Insert}
use Rattle.irig_edit.proofs.StateLemmas.TouchedStretches.{touched-any, free_sides}

-- two more edges, between those below a and those above b
pub rises_put : (low a b : ℕ) (xs ys : List ℕ) → low ≤ a → a < b → RisesFrom low (xs ++ ys) → Under a xs → RisesFrom (b + 1) ys
    → RisesFrom low (xs ++ (a ∷ b ∷ ys))
rises_put low a b [] ys from order rises under over = (from, (omega arith, over))
rises_put low a b (x ∷ xs) ys from order rises under over =
    (rises.0, rises_put (x + 1) a b xs ys (omega (arith, under.0)) order rises.1 under.1 over)

pub upto_put : (top a b : ℕ) (xs ys : List ℕ) → a ≤ top → b ≤ top → UpTo top (xs ++ ys) → UpTo top (xs ++ (a ∷ b ∷ ys))
upto_put top a b [] ys first second within = (first, (second, within))
upto_put top a b (x ∷ xs) ys first second within = (within.0, upto_put top a b xs ys first second within.1)

pub edges_of-put : (at a b : ℕ) (ps : List Pulse)
    → edges_of (spliced at 0 (pulse a b ∷ []) ps) ≡ edges_of (take at ps) ++ (a ∷ b ∷ edges_of (drop at ps))
edges_of-put at a b ps =
    let none : at + 0 ≡ at = omega arith in
    edges_of-append (take at ps) (pulse a b ∷ drop (at + 0) ps) ∙ ap (λ n. edges_of (take at ps) ++ (a ∷ b ∷ edges_of (drop n ps))) none

pub edges_of-sides : (at : ℕ) (ps : List Pulse) → edges_of ps ≡ edges_of (take at ps) ++ edges_of (drop at ps)
edges_of-sides at ps = ap edges_of (sym (take-append-drop at ps)) ∙ edges_of-append (take at ps) (drop at ps)

-- the track with one more pulse
pub IsTrack-put : (micros a b at : ℕ) (ps : List Pulse) → IsTrack micros ps → a < b → b ≤ micros → length ps < 2 ^ 22 → at ≤ length ps
    → Under a (edges_of (take at ps)) → RisesFrom (b + 1) (edges_of (drop at ps)) → IsTrack micros (spliced at 0 (pulse a b ∷ []) ps)
IsTrack-put micros a b at ps old order within few there under over =
    let P : List ℕ → Type 0 = λ xs. RisesFrom 0 xs in
    let Q : List ℕ → Type 0 = λ xs. UpTo micros xs in
    let rises = subst P (edges_of-sides at ps) old.rises in
    let upto = subst Q (edges_of-sides at ps) old.within in
    record {
      short = old.short;
      few = omega (arith, length-spliced ps (pulse a b ∷ []) at 0 (omega arith), few);
      rises = subst P (sym (edges_of-put at a b ps)) (rises_put 0 a b (edges_of (take at ps)) (edges_of (drop at ps)) (omega arith) order rises under over);
      within = subst Q (sym (edges_of-put at a b ps)) (upto_put micros a b (edges_of (take at ps)) (edges_of (drop at ps)) (omega arith) within upto);
    }

-- it is the next one after those before it
pub risen_by-put : (a b : ℕ) (xs ys : List Pulse) → a < b → Under a (edges_of xs) → RisesFrom (b + 1) (edges_of ys)
    → risen_by a (xs ++ (pulse a b ∷ ys)) ≡ length xs + 1
risen_by-put a b [] ys order under over =
    risen_yes a (pulse a b) ys (omega arith) ∙ ap (λ n. 1 + n) (risen_none a (b + 1) ys (omega arith) over)
risen_by-put a b (x ∷ xs) ys order under over =
    let early : x.rise ≤ a = omega (arith, under.0) in
    risen_yes a x (xs ++ (pulse a b ∷ ys)) early ∙ ap (λ n. 1 + n) (risen_by-put a b xs ys order under.1.1 over) ∙ omega arith

-- a pulse that can be inserted
pub inserted : (s : State) (a b at : ℕ) → IsState s → a < b → b ≤ s.micros → is_touched a b s ≡ false → length s.pulses < 2 ^ 22 → at ≡ risen_by b s.pulses
    → at ≤ length s.pulses
    → CanSplice s.micros at 0 (pulse a b ∷ []) s.pulses × Becomes (Insert a b) s (with_pulses (spliced at 0 (pulse a b ∷ []) s.pulses) s) (at + 1)
inserted s a b at lawful order within free few count there =
    let none = sym (touched-any a b 0 s.pulses order lawful.track.rises) ∙ free in
    let sides = free_sides a b 0 s.pulses order lawful.track.rises none in
    let P : ℕ → Type 0 = λ n. Under a (edges_of (take n s.pulses)) in
    let Q : ℕ → Type 0 = λ n. RisesFrom (b + 1) (edges_of (drop n s.pulses)) in
    let under = subst P (sym count) sides.0 in
    let over = subst Q (sym count) sides.1 in
    let track = IsTrack-put s.micros a b at s.pulses lawful.track order within few there under over in
    let zero_more : at + 0 ≡ at = omega arith in
    let place : at + 1 ≡ risen_by a (spliced at 0 (pulse a b ∷ []) s.pulses) =
    sym (ap (λ n. risen_by a (take at s.pulses ++ (pulse a b ∷ drop n s.pulses))) zero_more
    ∙ risen_by-put a b (take at s.pulses) (drop at s.pulses) order under over ∙ ap (λ n. n + 1) (length-take-le at s.pulses there)) in (
      record { there = omega arith; track = track },
      record {
        after = record {
          length = refl;
          track = track;
          edges = λ t. is_edge-inserted t at a b s.pulses lawful.track.rises;
          format = refl;
          marks = refl;
        };
        cursor = λ _. place;
        there = omega (arith, length-spliced s.pulses (pulse a b ∷ []) at 0 (omega arith), there);
      },
    )
