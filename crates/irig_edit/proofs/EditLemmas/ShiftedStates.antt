-- The state after a shift.
use Rattle.std.proofs.Common.{◌≡◌, ◌≤◌, ◌<◌, ◌+◌, ◌-◌, ℕ, ℤ, suc, zero, List, [], ◌∷◌, length, map, take, drop, Option, refl, ap, sym, ◌∙◌, subst, arith}
use Rattle.std.proofs.lemmas.List.{length-map}
use Rattle.irig_recording.specs.{declared.pulse.Pulse.Pulse, Recording.UpTo}
use Rattle.irig_track.specs.Shifts.{CanShift, ahead, back, moved, moved_pulse, shifted, count_to}
use Rattle.irig_track.specs.{Edges.edges_of, Edges.is_edge, Edges.replaced, Splices.piece, Free.following, Free.first_or}
use Rattle.irig_track.proofs.{Allowed.shift_stands, Carried.length-spliced, Carried.length-piece, Laws.is_edge-spliced}
use Rattle.irig_edit.specs.State.State.{State, IsState, state}
use Rattle.irig_edit.specs.State.Marks.{moved_time, moved_mark, AllMayMove, marks_moved, stands}
use Rattle.irig_edit.specs.{Edits.Edits.IsAfter, Edits.Edits.pulse_of, Session.Calls.Edit.Shift, Edits.Becoming.Becomes, Changes.Single.turned_single}
use Rattle.irig_saved.specs.declared.single.Single.TheVariants.{Shift as Shifted}
use Rattle.irig_edit.proofs.{StateLemmas.MovedMarks.may_between, StateLemmas.MovedMarks.moved_between, EditLemmas.Shifts.pulse_there}

-- the edges of moved pulses are their moved edges
edges_of-moved : (d : ℤ) (ps : List Pulse) → edges_of (moved d ps) ≡ map (moved_time d) (edges_of ps)
edges_of-moved d [] = refl
edges_of-moved d (p ∷ ps) = ap (λ es. (p.rise + ahead d - back d) ∷ (p.fall + ahead d - back d) ∷ es) (edges_of-moved d ps)

count_from : (i j : ℕ) → 1 ≤ i → i ≤ j → count_to (i - 1) (j - 1) ≡ j + 1 - i
count_from i j first order = omega arith

pub shifted_after : (i j : ℕ) (d : ℤ) (s : State) (ps : List Pulse) (marks : List (Option ℕ)) → IsState s → 1 ≤ i → i ≤ j → j ≤ length s.pulses
    → CanShift s.micros (i - 1) (j - 1) d s.pulses → ps ≡ shifted (i - 1) (j - 1) d s.pulses
    → marks ≡ map (moved_mark (pulse_of i s).rise (pulse_of j s).fall d) s.marks
    → IsAfter (Shift i j d) s (state s.micros ps s.format marks)
shifted_after i j d s ps marks lawful first order last can is moves =
    let P : List Pulse → Type 0 = λ (qs : List Pulse). IsAfter (Shift i j d) s (state s.micros qs s.format marks) in
    let part = piece (i - 1) (count_to (i - 1) (j - 1)) s.pulses in
    subst P (sym is) (record {
      length = refl;
      track = can.track;
      edges = λ t. is_edge-spliced t (i - 1) (count_to (i - 1) (j - 1)) (moved d part) s.pulses lawful.track.rises
          ∙ ap (λ es. replaced (edges_of part) es t (is_edge t s.pulses)) (edges_of-moved d part)
          ∙ ap (λ n. replaced (edges_of (piece (i - 1) n s.pulses)) (map (moved_time d) (edges_of (piece (i - 1) n s.pulses))) t (is_edge t s.pulses))
          (count_from i j first order);
      format = refl;
      marks = moves;
    })

pub length-shifted : (i j : ℕ) (d : ℤ) (ps : List Pulse) → i ≤ j → j < length ps → length (shifted i j d ps) ≡ length ps
length-shifted i j d ps order there =
    let part = piece i (count_to i j) ps in
    omega (
      arith,
      length-spliced ps (moved d part) i (count_to i j) (omega arith),
      length-map part (moved_pulse (ahead d) (back d)),
      length-piece ps i (count_to i j) (omega arith),
    )

upto_dropped : (top j : ℕ) (ps : List Pulse) → UpTo top (edges_of ps) → UpTo top (edges_of (drop j ps))
upto_dropped top zero [] within = tt
upto_dropped top (suc j) [] within = tt
upto_dropped top zero (p ∷ ps) within = within
upto_dropped top (suc j) (p ∷ ps) within = upto_dropped top j ps within.1.1

first_or-top : (top : ℕ) (xs : List ℕ) → UpTo top xs → first_or (top + 1) xs ≤ top + 1
first_or-top top [] within = omega arith
first_or-top top (x ∷ xs) within = omega (arith, within.0)

-- the moved pulses end within the length
pub moved_within : (i j : ℕ) (d : ℤ) (s : State) → IsState s → 1 ≤ i → i ≤ j → j ≤ length s.pulses
    → CanShift s.micros (i - 1) (j - 1) d s.pulses → (pulse_of j s).fall + ahead d ≤ s.micros + back d
moved_within i j d s lawful first order last can =
    let fits = shift_stands (i - 1) (j - 1) (pulse_of i s) (pulse_of j s) s.pulses (omega arith) (pulse_there i s first (omega arith))
    (pulse_there j s (omega arith) last)
    s.micros (following 0 (edges_of (take (i - 1) s.pulses))) (first_or (s.micros + 1) (edges_of (drop (j - 1 + 1) s.pulses))) d (omega arith) lawful.track refl
    refl can in
    let top = first_or-top s.micros (edges_of (drop (j - 1 + 1) s.pulses)) (upto_dropped s.micros (j - 1 + 1) s.pulses lawful.track.within) in
    omega (arith, fits.1, top)

-- the moved pulses do not begin before 0
pub moved_from_zero : (i j : ℕ) (d : ℤ) (s : State) → IsState s → 1 ≤ i → i ≤ j → j ≤ length s.pulses
    → CanShift s.micros (i - 1) (j - 1) d s.pulses → back d ≤ (pulse_of i s).rise + ahead d
moved_from_zero i j d s lawful first order last can =
    let fits = shift_stands (i - 1) (j - 1) (pulse_of i s) (pulse_of j s) s.pulses (omega arith) (pulse_there i s first (omega arith))
    (pulse_there j s (omega arith) last)
    s.micros (following 0 (edges_of (take (i - 1) s.pulses))) (first_or (s.micros + 1) (edges_of (drop (j - 1 + 1) s.pulses))) d (omega arith) lawful.track refl
    refl can in
    omega (arith, fits.0)

-- the marks that are on the pulses may move with them
pub marks_may : (i j : ℕ) (d : ℤ) (s : State) → IsState s → 1 ≤ i → i ≤ j → j ≤ length s.pulses → CanShift s.micros (i - 1) (j - 1) d s.pulses
    → AllMayMove s.micros d (map (stands (pulse_of i s).rise (pulse_of j s).fall) s.marks) s.marks
marks_may i j d s lawful first order last can =
    may_between s.micros (pulse_of i s).rise (pulse_of j s).fall d s.marks (moved_from_zero i j d s lawful first order last can)
    (moved_within i j d s lawful first order last can)

-- the state after a shift of pulses, and of the marks that are on them, is that after the call
pub shifted_becomes : (i j : ℕ) (d : ℤ) (s : State) → IsState s → 1 ≤ i → i ≤ j → j ≤ length s.pulses → CanShift s.micros (i - 1) (j - 1) d s.pulses
    → Becomes (Shift i j d) s (turned_single s (Shifted (suc (i - 1)) (suc (j - 1)) d (map (stands (pulse_of i s).rise (pulse_of j s).fall) s.marks))).0 j
shifted_becomes i j d s lawful first order last can =
    record {
      after = shifted_after i j d s (shifted (i - 1) (j - 1) d s.pulses) (marks_moved d (map (stands (pulse_of i s).rise (pulse_of j s).fall) s.marks) s.marks)
          lawful first order last can refl (moved_between (pulse_of i s).rise (pulse_of j s).fall d s.marks);
      cursor = λ _. refl;
      there = omega (arith, length-shifted (i - 1) (j - 1) d s.pulses (omega arith) (omega arith));
    }
