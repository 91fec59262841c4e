-- The numbers of the changes of a session, as a saved journal holds them.
use Rattle.std.proofs.Common.{suc, ◌≡◌, ◌≤◌, ◌+◌, ◌-◌, ◌^◌, ◌++◌, ℕ, ℤ, pos, negsuc, List, [], ◌∷◌, Option, Some, None, IsTrue, length, take, drop, subst}
use Rattle.std.proofs.Common.{arith}
use Rattle.std.specs.List.{AllByRecursion}
use Rattle.std.proofs.lemmas.Bool.Decides.{nat_tests}
use Rattle.irig_codes.specs.declared.format.Kind.TheVariants.{A, B, E, G}
use Rattle.irig_codes.specs.{Format.is_permitted, declared.format.Kind.Kind}
use Rattle.irig_recording.specs.{declared.pulse.Pulse.Pulse, Recording.UpTo}
use Rattle.irig_track.specs.{Edges.edges_of, Shifts.CanShift, Shifts.ahead, Shifts.back}
use Rattle.irig_track.proofs.Places.{pulse_within}
use Rattle.irig_recording.proofs.PulseEdges.{edges_of-append}
use Rattle.irig_journal.specs.Turns.{FitAll}
use Rattle.irig_saved.specs.declared.single.Single.TheVariants.{Splice, Toggle, Shift, SetFormat, SetMark}
use Rattle.irig_saved.specs.{Ranges.IsDistance, Ranges.IsPulse, Ranges.IsTime, Numbers.NumbersOfChange, Numbers.NumbersOfSingle, declared.change.Change.Change}
use Rattle.irig_saved.specs.{declared.change.Change.TheVariants.One, declared.change.Change.TheVariants.Group, declared.single.Single.Single}
use Rattle.irig_edit.specs.{Changes.Delta.Fits, Edits.Edits.pulse_of, Changes.Laws.State.IsState-turned_single, Changes.Single.FitsSingle}
use Rattle.irig_edit.specs.{Changes.Single.turned_single, State.State.IsMark, State.State.IsState, State.State.State}
use Rattle.irig_edit.proofs.{EditLemmas.Replacements.upto_left, EditLemmas.Replacements.upto_right, EditLemmas.ShiftedStates.moved_from_zero}
use Rattle.irig_edit.proofs.{EditLemmas.ShiftedStates.moved_within, EditLemmas.Shifts.pulse_there, EditLemmas.Shifts.rise_before}

-- an expression that is permitted is a digit up to 7
pub digit_permitted : (kind : Kind) (n : ℕ) → IsTrue (is_permitted kind n) → n ≤ 7
digit_permitted A n is = grind (arith, nat_tests)
digit_permitted B n is = grind (arith, nat_tests)
digit_permitted E n is = grind (arith, nat_tests)
digit_permitted G n is = grind (arith, nat_tests)

-- a time of a mark within a short length
time_small : (top : ℕ) (time : Option ℕ) → top ≤ 2 ^ 40 → IsMark top time → IsTime time
time_small top None short is = tt
time_small top (Some t) short is = omega (arith, short, is)

-- the times of marks
pub times_small : (top : ℕ) (marks : List (Option ℕ)) → top ≤ 2 ^ 40 → AllByRecursion (IsMark top) marks → AllByRecursion IsTime marks
times_small top [] short all = tt
times_small top (mark ∷ marks) short all = (time_small top mark short all.0, times_small top marks short all.1)

-- the times of pulses
pulses_small : (top : ℕ) (ps : List Pulse) → top ≤ 2 ^ 40 → UpTo top (edges_of ps) → AllByRecursion IsPulse ps
pulses_small top [] short all = tt
pulses_small top (p ∷ ps) short all =
    ((omega (arith, short, all.0), omega (arith, short, all.1.0)), pulses_small top ps short all.1.1)

-- those of pulses between others
pulses_between : (top : ℕ) (ps qs rs : List Pulse) → top ≤ 2 ^ 40 → UpTo top (edges_of (ps ++ (qs ++ rs))) → AllByRecursion IsPulse qs
pulses_between top ps qs rs short all =
    let behind = upto_right top (edges_of ps) (edges_of (qs ++ rs)) (subst (UpTo top) (edges_of-append ps (qs ++ rs)) all) in
    pulses_small top qs short (upto_left top (edges_of qs) (edges_of rs) (subst (UpTo top) (edges_of-append qs rs) behind))

-- a distance between times of a short length
distance_between : (top rise fall : ℕ) (d : ℤ) → top ≤ 2 ^ 40 → rise ≤ top → fall ≤ top
    → back d ≤ rise + ahead d → fall + ahead d ≤ top + back d → IsDistance d
distance_between top rise fall (pos n) short low high from_zero within = omega (arith, short, within)
distance_between top rise fall (negsuc n) short low high from_zero within = omega (arith, short, low, from_zero)

-- by which pulses can be shifted
distance_small : (s : State) (i j : ℕ) (d : ℤ) → IsState s → CanShift s.micros i j d s.pulses → IsDistance d
distance_small s i j d is can =
    let near : i ≡ i + 1 - 1 = omega arith in
    let far : j ≡ j + 1 - 1 = omega arith in
    let there = subst (λ (n : ℕ). CanShift s.micros n (j + 1 - 1) d s.pulses) near (subst (λ (n : ℕ). CanShift s.micros i n d s.pulses) far can) in
    let order : i + 1 ≤ j + 1 = omega (arith, can.order) in
    let last : j + 1 ≤ length s.pulses = omega (arith, can.there) in
    let first : 1 ≤ i + 1 = omega arith in
    let fall = pulse_within s.micros (j + 1 - 1) (pulse_of (j + 1) s) s.pulses is.track.within (pulse_there (j + 1) s (omega arith) last) in
    let rise = rise_before (i + 1) (j + 1) s is first order last in
    distance_between s.micros (pulse_of (i + 1) s).rise (pulse_of (j + 1) s).fall d is.track.short (omega (arith, rise, fall)) fall
    (moved_from_zero (i + 1) (j + 1) d s is first order last there) (moved_within (i + 1) (j + 1) d s is first order last there)

-- the numbers of a single change that can be made
pub single_small : (s : State) (d : Single) → IsState s → FitsSingle s d → NumbersOfSingle d
single_small s (Splice (suc at) count put) is can = (
  omega (arith, is.track.few, can.there),
  omega (arith, is.track.few, can.there),
  pulses_between s.micros (take at s.pulses) put (drop (at + count) s.pulses) is.track.short can.track.within,
)
single_small s (Toggle a b) is can = (omega (arith, is.track.short, can.order, can.within), omega (arith, is.track.short, can.within))
single_small s (Shift (suc i) (suc j) d named) is can = (
  omega (arith, is.track.few, can.0.order, can.0.there),
  omega (arith, is.track.few, can.0.there),
  distance_small s i j d is can.0,
  can.2,
)
single_small s (SetFormat kind expression) is can = digit_permitted kind expression can
single_small s (SetMark letter time) is can = (can.0, time_small s.micros time is.track.short can.1)
single_small s _ is can = absurd can

pub singles_small : (s : State) (ds : List Single) → IsState s → FitAll FitsSingle turned_single s ds
    → AllByRecursion NumbersOfSingle ds
singles_small s [] is can = tt
singles_small s (d ∷ ds) is can =
    (single_small s d is can.0, singles_small (turned_single s d).0 ds (IsState-turned_single s d is can.0) can.1)

-- of a change
pub change_small : (s : State) (d : Change) → IsState s → Fits s d → NumbersOfChange d
change_small s (One d) is can = single_small s d is can
change_small s (Group ds) is can = singles_small s ds is can
