-- One invert after the other.
use Rattle.std.proofs.Common.{◌≡◌, ◌+◌, ◌<◌, ◌≤◌, ◌∙◌, ℕ, Bool, true, false, not, List, [], ◌∷◌, length, Some, None, Ok, Err, sym, ap, refl, arith, inl, inr}
use Rattle.std.proofs.Common.{subst, if◌then◌else◌, ◌&&◌, ◌||◌, ◌^◌}
use Rattle.std.proofs.lemmas.{Bool.and_from, Bool.lt-leb, Bool.lt-ltb, Bool.le-leb, Option.none-some}
use Rattle.irig_recording.specs.{Recording.RecordingView, Recording.IsRecording, Recording.RisesFrom, Recording.UpTo, declared.pulse.Pulse.Pulse}
use Rattle.irig_recording.proofs.PulseEdges.{length-edges_of}
use Rattle.irig_track.specs.{Edges.edges_of, Edges.is_edge, Toggles.flipped, Toggles.toggled}
use Rattle.irig_track.proofs.{Laws.has-toggled, RisingLists.RisesFrom-flipped, RisingLists.rises_more, Sets.only_list}
use Rattle.irig_difference.specs.{Flips.patched, Stretches.stretches_between}
use Rattle.irig_difference.proofs.{FlipLists.RisesFrom-flips, FlipLists.UpTo-flips, FlipSets.length-flipped_most, Patches.edges_of-stretches}
use Rattle.irig_edit.specs.Edits.Conditions.{is_full, is_range, is_overfull}
use Rattle.irig_edit.specs.declared.session.refusal.Refusal.TheVariants.{OutOfRange, TooMany, OutOfMemory}
use Rattle.irig_edit.specs.{Edits.Edits.IsAfter, Edits.Refusals.first_holding, Edits.Refusals.tests_of, Session.Calls.Call.Make, Session.Calls.Edit.Invert}
use Rattle.irig_edit.specs.{Session.Session.SessionView, Session.Session.Steps, State.State.State, declared.session.refusal.Refusal.Refusal}
use Rattle.irig_patch.specs.Patched.{AreStretches, Patches, StopsPatch}

-- what an accepted invert makes of the edges
inverted_edges : (a b : ℕ) (old new : State) → a < b → RisesFrom 0 (edges_of old.pulses) → IsAfter (Invert a b) old new
    → edges_of new.pulses ≡ toggled a b (edges_of old.pulses)
inverted_edges a b old new lt h after =
    only_list 0 (edges_of new.pulses) (toggled a b (edges_of old.pulses)) after.track.rises
    (RisesFrom-flipped 0 b _ (omega arith) (RisesFrom-flipped 0 a _ (omega arith) h))
    (λ t. after.edges t ∙ sym (has-toggled t a b (edges_of old.pulses) lt h))

-- an invert makes one pulse more at most
one_more : (a b : ℕ) (ps qs : List Pulse) → edges_of qs ≡ toggled a b (edges_of ps) → length qs ≤ length ps + 1
one_more a b ps qs e =
    omega (
      arith,
      ap length e,
      length-edges_of ps,
      length-edges_of qs,
      length-flipped_most a (edges_of ps),
      length-flipped_most b (flipped a (edges_of ps)),
    )

-- some of the stretches are made, and others are left
pub record Goes (all left : List Pulse) (old new : SessionView) : Type 0 where
  pub edges : patched left (edges_of new.state.pulses) ≡ patched all (edges_of old.state.pulses)
  pub micros : new.state.micros ≡ old.state.micros
  pub format : new.state.format ≡ old.state.format
  pub marks : new.state.marks ≡ old.state.marks
  pub count : length new.state.pulses + length left ≤ length old.state.pulses + length all
  pub steps : length new.past + length left ≡ length old.past + length all
  pub track : RisesFrom 0 (edges_of new.state.pulses)
  pub rest : AreStretches new.state.micros left

pub none_made : (all : List Pulse) (s : SessionView) → RisesFrom 0 (edges_of s.state.pulses) → AreStretches s.state.micros all → Goes all all s s
none_made all s h rest = record { edges = refl; micros = refl; format = refl; marks = refl; count = omega arith; steps = refl; track = h; rest = rest }

-- one stretch more is made
pub one_made : (p : Pulse) (all left : List Pulse) (old mid new : SessionView) (done : Unit {0}) → Goes all (p ∷ left) old mid
    → Steps (Make (Invert p.rise p.fall)) mid (Ok done) new → Goes all left old new
one_made p all left old mid new done g step =
    let h = step.1 in
    let lt : p.rise < p.fall = omega (arith, g.rest.0.1.0) in
    let edges : edges_of new.state.pulses ≡ toggled p.rise p.fall (edges_of mid.state.pulses) =
    inverted_edges p.rise p.fall mid.state new.state lt g.track h.after in
    record {
      edges = ap (patched left) edges ∙ g.edges;
      micros = h.after.length ∙ g.micros;
      format = h.after.format ∙ g.format;
      marks = h.after.marks ∙ g.marks;
      count = omega (arith, g.count, one_more p.rise p.fall mid.state.pulses new.state.pulses edges);
      steps = omega (arith, g.steps, ap (λ w. length w.past) h.steps);
      track = h.after.track.rises;
      rest = (
        rises_more (p.fall + 1) 0 (edges_of left) (omega arith) g.rest.0.1.1,
        subst (λ n. UpTo n (edges_of left)) (sym h.after.length) g.rest.1.1.1,
      );
    }

pub all_made : (all : List Pulse) (old new : SessionView) → Goes all [] old new → Patches all old new
all_made all old new g = record {
  state = record { edges = g.edges; micros = g.micros; format = g.format; marks = g.marks };
  steps = omega (arith, g.steps);
}

-- of an invert within the length there can be too many pulses, and nothing else
only_too_many : (full : Bool) (e : Refusal) → (if full then Some TooMany else None) ≡ Some e → e ≡ TooMany
only_too_many true e h = cc
only_too_many false e h = absurd (cc)

first_is : (a b : ℕ) (s : State) (e : Refusal) → a < b → b ≤ s.micros → first_holding (tests_of (Invert a b) s) ≡ Some e → e ≡ TooMany
first_is a b s e lt le h =
    let range : is_range a b s ≡ true = and_from _ _ (lt-ltb a b lt) (le-leb b s.micros le) in
    only_too_many (is_overfull a b s) e
    (sym (ap (λ v. if not v then Some OutOfRange else (if is_overfull a b s then Some TooMany else None)) range) ∙ h)

pub refused_by : (a b : ℕ) (e : Refusal) (old new : SessionView) → a < b → b ≤ old.state.micros → Steps (Make (Invert a b)) old (Err e) new → StopsPatch e
refused_by a b OutOfMemory old new lt le h = inr refl
refused_by a b e old new lt le h = inl (first_is a b old.state e lt le h.0)

-- why the next stretch is refused
pub next_refused : (p : Pulse) (e : Refusal) (all left : List Pulse) (old mid new : SessionView) → Goes all (p ∷ left) old mid
    → Steps (Make (Invert p.rise p.fall)) mid (Err e) new → StopsPatch e
next_refused p e all left old mid new g step =
    refused_by p.rise p.fall e mid new (omega (arith, g.rest.0.1.0)) g.rest.1.1.0 step

-- there are not too many pulses, if those before and the stretches are few
never_full : (a b : ℕ) (s : State) → a < b → b ≤ s.micros → length s.pulses < 2 ^ 22 → first_holding (tests_of (Invert a b) s) ≡ None
never_full a b s lt le few =
    let range : is_range a b s ≡ true = and_from _ _ (lt-ltb a b lt) (le-leb b s.micros le) in
    let room : is_full s ≡ false = lt-leb (2 ^ 22) (length s.pulses) few in
    ap (λ v. if not v then Some OutOfRange else (if is_overfull a b s then Some TooMany else None)) range
    ∙ ap (λ v. if v && not (is_edge a s.pulses || is_edge b s.pulses) then Some TooMany else None) room

short_refused : (a b : ℕ) (e : Refusal) (old new : SessionView) → a < b → b ≤ old.state.micros → length old.state.pulses < 2 ^ 22
    → Steps (Make (Invert a b)) old (Err e) new → e ≡ OutOfMemory
short_refused a b OutOfMemory old new lt le few h = refl
short_refused a b e old new lt le few h = absurd (none-some e (sym (never_full a b old.state lt le few) ∙ h.0))

-- then the next stretch is refused only for memory
pub next_short : (p : Pulse) (e : Refusal) (all left : List Pulse) (old mid new : SessionView) → length old.state.pulses + length all ≤ 2 ^ 22
    → Goes all (p ∷ left) old mid → Steps (Make (Invert p.rise p.fall)) mid (Err e) new → e ≡ OutOfMemory
next_short p e all left old mid new few g step =
    short_refused p.rise p.fall e mid new (omega (arith, g.rest.0.1.0)) g.rest.1.1.0 (omega (arith, few, g.count)) step

-- the stretches between two recordings lie within a length that no edge is above
pub stretches_fit : (before after : RecordingView) → IsRecording before.micros before.edges → IsRecording after.micros after.edges
    → UpTo before.micros after.edges
    → AreStretches before.micros (stretches_between before after)
stretches_fit before after b a covers =
    let edges = edges_of-stretches before.edges after.edges b.even a.even b.rises a.rises in (
      subst (RisesFrom 0) (sym edges) (RisesFrom-flips after.edges before.edges b.rises),
      subst (UpTo before.micros) (sym edges) (UpTo-flips before.micros after.edges before.edges covers b.within),
    )
