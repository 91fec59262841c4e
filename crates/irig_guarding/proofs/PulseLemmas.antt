-- Pulses that are where they have to be, frame by frame.
use Rattle.std.proofs.Common.{◌≡◌, ◌+◌, ◌-◌, ◌<◌, ◌≤◌, ◌++◌, ◌==◌, ℕ, zero, suc, Bool, true, false, List, [], ◌∷◌, Option, Some, None, length, drop, get_or, map, slice_get}
use Rattle.std.proofs.Common.{inl, inr, refl, ap, sym, ◌∙◌, subst, arith}
use Rattle.std.specs.Prelude.{IfErr, IfOk, OnErr, OnOk, Result, Ok, Err}
use Rattle.std.specs.List.{AllByRecursion, flat_map}
use Rattle.std.proofs.lemmas.List.{drop_all, get_or-drop}
use Rattle.std.proofs.lemmas.Bool.Decides.{nat_tests}
use Rattle.std.proofs.lemmas.Option.{slice_get_within}
use Rattle.irig_codes.specs.declared.note.Note.TheVariants.{Fine, Field, SbsDisagrees, Stray}
use Rattle.irig_recording.specs.declared.pulse.Pulse.{Pulse}
use Rattle.irig_track.specs.Edges.{pulse}
use Rattle.irig_index.specs.declared.record.Verdict.TheVariants.{Broken, Read}
use Rattle.irig_index.specs.{declared.record.Record.Record, declared.record.Verdict.Verdict}
use Rattle.irig_edit.specs.State.State.{State, frames_of}
use Rattle.irig_safety.specs.{Original.OriginalView, Original.near_by, Original.near_in, Safety.behind, declared.fault.Fault.Fault, declared.shown.Shown.Shown}
use Rattle.irig_safety.specs.{Rises.KeepsRises, declared.witnesses.Witnesses.Witnesses}
use Rattle.irig_safety.specs.declared.fault.Fault.TheVariants.{Lost, Misplaced, Moved}
use Rattle.irig_safety.specs.Terms.{TermsView}
use Rattle.irig_safety.proofs.SafetyLemmas.{drop-item, next_behind}
use Rattle.irig_guarding.specs.Pulses.{Comes, PulsesAt, PulsesFrom, StandFrom, Stands, StandsAs, StrayFrom}
use Rattle.irig_guarding.specs.Standing.{IsRooted, StandBy, StrayBy, UnrootedFrom}
use Rattle.irig_guarding.specs.Reading.{fine_frames, original_of, seen_at, seen_by, seen_frames, shown_at, shown_by}
use Rattle.irig_guarding.specs.declared.seen.Seen.{Seen}
use Rattle.irig_guarding.proofs.ControlLemmas.{IsBeforeAll, drop_seen}

-- the pulses of frames with a fault are not where they have to be
stray_so : (o : OriginalView) (s : State) (ms : List ℕ) (a2 a : Option Shown) (old : List Shown) (new : List Seen) (why : Fault)
    → StrayFrom o s ms a2 a old new why
    → StandFrom o s ms a2 a old new → ⊥
stray_so o s ms a2 a [] [] why h k = h
stray_so o s ms a2 a (x ∷ old) [] why h k = h
stray_so o s ms a2 a [] (y ∷ new) why (inl h) k = h.0 k.0
stray_so o s ms a2 a [] (y ∷ new) why (inr h) k = stray_so o s ms a2 a [] new why h.1 k.1
stray_so o s ms a2 a (x ∷ old) (y ∷ new) why (inl (same, inl h)) (inl k) = h.0 k.1
stray_so o s ms a2 a (x ∷ old) (y ∷ new) why (inl (same, inr h)) (inl k) = stray_so o s (drop 1 ms) a (Some x) old new why h.1 k.2
stray_so o s ms a2 a (x ∷ old) (y ∷ new) why (inl (same, h)) (inr k) = absurd (omega (arith, same, k.0))
stray_so o s ms a2 a (x ∷ old) (y ∷ new) why (inr (inl (less, h))) (inl k) = absurd (omega (arith, less, k.0))
stray_so o s ms a2 a (x ∷ old) (y ∷ new) why (inr (inl (less, inl h))) (inr k) = h.0 k.1
stray_so o s ms a2 a (x ∷ old) (y ∷ new) why (inr (inl (less, inr h))) (inr k) = stray_so o s ms a2 a (x ∷ old) new why h.1 k.2
stray_so o s ms a2 a (x ∷ old) (y ∷ new) why (inr (inr h)) (inl k) = absurd (omega (arith, h.0, k.0))
stray_so o s ms a2 a (x ∷ old) (y ∷ new) why (inr (inr h)) (inr k) = absurd (omega (arith, h.0, k.0))

-- the markers from the next place on
after_next : (k : ℕ) (ms : List ℕ) → drop 1 (drop k ms) ≡ drop (suc k) ms
after_next zero [] = refl
after_next zero (m ∷ ms) = refl
after_next (suc k) [] = refl
after_next (suc k) (m ∷ ms) = after_next k ms

next_markers : (k : ℕ) (ms : List ℕ) → drop 1 (drop k ms) ≡ drop (k + 1) ms
next_markers k ms = let place : suc k ≡ k + 1 = omega arith in after_next k ms ∙ ap (λ n. drop n ms) place

-- the frames before the next place
next_at : (o : OriginalView) (s : State) (k : ℕ) (x : Shown) (rest : List Seen) (found : Option Fault) → slice_get o.frames k ≡ Some x
    → PulsesAt o s (k + 1) rest found
    ≡ PulsesFrom o s (drop 1 (drop k o.markers)) (behind k o.frames) (Some x) (drop (k + 1) o.frames) rest found
next_at o s k x rest found e =
    let one : k + 1 - 1 ≡ k = omega arith in
    λ i. PulsesFrom o s (sym (next_markers k o.markers) i) (behind (one i) o.frames) ((next_behind k o.frames ∙ e) i) (drop (k + 1) o.frames) rest found

-- a frame at the time of a former one
as_on : (o : OriginalView) (s : State) (ms : List ℕ) (a2 a : Option Shown) (x : Shown) (y : Seen) (old : List Shown) (new : List Seen) (found : Option Fault)
    → x.rise ≡ y.shown.rise → StandsAs o s ms y → PulsesFrom o s (drop 1 ms) a (Some x) old new found → PulsesFrom o s ms a2 a (x ∷ old) (y ∷ new) found
as_on o s ms a2 a x y old new None same told h = inl (same, told, h)
as_on o s ms a2 a x y old new (Some why) same told h = inl (same, inr (told, h))

pub stands_at : (o : OriginalView) (s : State) (k : ℕ) (x : Shown) (y : Seen) (rest : List Seen) (found : Option Fault) → slice_get o.frames k ≡ Some x
    → x.rise ≡ y.shown.rise → StandsAs o s (drop k o.markers) y → PulsesAt o s (k + 1) rest found → PulsesAt o s k (y ∷ rest) found
stands_at o s k x y rest found e same told h =
    subst (λ (l : List Shown). PulsesFrom o s (drop k o.markers) (behind (k - 1) o.frames) (behind k o.frames) l (y ∷ rest) found)
    (sym (drop-item o.frames k x e))
    (as_on o s (drop k o.markers) (behind (k - 1) o.frames) (behind k o.frames) x y (drop (k + 1) o.frames) rest found same told
    (subst (λ (T : Type 0). T) (next_at o s k x rest found e) h))

pub strays_at : (o : OriginalView) (s : State) (k : ℕ) (x : Shown) (y : Seen) (rest : List Seen) → slice_get o.frames k ≡ Some x → x.rise ≡ y.shown.rise
    → (StandsAs o s (drop k o.markers) y → ⊥) → PulsesAt o s k (y ∷ rest) (Some (Moved y.shown))
strays_at o s k x y rest e same other =
    subst (λ (l : List Shown). StrayFrom o s (drop k o.markers) (behind (k - 1) o.frames) (behind k o.frames) l (y ∷ rest) (Moved y.shown))
    (sym (drop-item o.frames k x e))
    (inl (same, inl (other, refl)))

-- one that is passed
pub lost_at : (o : OriginalView) (s : State) (k : ℕ) (x : Shown) (y : Seen) (rest : List Seen) → slice_get o.frames k ≡ Some x → x.rise < y.shown.rise
    → PulsesAt o s k (y ∷ rest) (Some (Lost x))
lost_at o s k x y rest e less =
    subst (λ (l : List Shown). StrayFrom o s (drop k o.markers) (behind (k - 1) o.frames) (behind k o.frames) l (y ∷ rest) (Lost x))
    (sym (drop-item o.frames k x e))
    (inr (inr (less, refl)))

-- a frame before the former that are left
before_on : (o : OriginalView) (s : State) (ms : List ℕ) (a2 a : Option Shown) (y : Seen) (old : List Shown) (new : List Seen) (found : Option Fault)
    → IsBeforeAll old y
    → Stands o s (near_by a2 a old) y → PulsesFrom o s ms a2 a old new found → PulsesFrom o s ms a2 a old (y ∷ new) found
before_on o s ms a2 a y [] new None less borne h = (borne, h)
before_on o s ms a2 a y [] new (Some why) less borne h = inr (borne, h)
before_on o s ms a2 a y (x ∷ old) new None less borne h = inr (less, borne, h)
before_on o s ms a2 a y (x ∷ old) new (Some why) less borne h = inr (inl (less, inr (borne, h)))

before_not : (o : OriginalView) (s : State) (ms : List ℕ) (a2 a : Option Shown) (y : Seen) (old : List Shown) (new : List Seen) → IsBeforeAll old y
    → (Stands o s (near_by a2 a old) y → ⊥) → StrayFrom o s ms a2 a old (y ∷ new) (Misplaced y.shown)
before_not o s ms a2 a y [] new less other = inl (other, refl)
before_not o s ms a2 a y (x ∷ old) new less other = inr (inl (less, inl (other, refl)))

-- what becomes of a place
abbrev pub Passes : OriginalView → State → ℕ → Seen → Result ℕ Fault → List Seen → Type 0
Passes o s k y (Ok p) rest = (found : Option Fault) → PulsesAt o s p rest found → PulsesAt o s k (y ∷ rest) found
Passes o s k y (Err why) rest = PulsesAt o s k (y ∷ rest) (Some why)

pub passes_ok : (o : OriginalView) (s : State) (k : ℕ) (y : Seen) (r : Result ℕ Fault) (rest : List Seen) (found : Option Fault) → Passes o s k y r rest
    → IfOk r (λ p. PulsesAt o s p rest found → PulsesAt o s k (y ∷ rest) found)
passes_ok o s k y (Ok p) rest found h = h found
passes_ok o s k y (Err why) rest found h = tt

pub passes_err : (o : OriginalView) (s : State) (k : ℕ) (y : Seen) (r : Result ℕ Fault) (rest : List Seen) → Passes o s k y r rest
    → IfErr r (λ why. PulsesAt o s k (y ∷ rest) (Some why))
passes_err o s k y (Ok p) rest h = tt
passes_err o s k y (Err why) rest h = h

pub comes_before : (o : OriginalView) (s : State) (k : ℕ) (w : Witnesses) (y : Seen) (r : Result ℕ Fault) (rest : List Seen)
    → IsBeforeAll (drop k o.frames) y → w ≡ near_in o.frames k k → Comes o s w y k r → Passes o s k y r rest
comes_before o s k w y (Ok p) rest less is h = λ found later.
    before_on o s (drop k o.markers) (behind (k - 1) o.frames) (behind k o.frames) y (drop k o.frames) rest found less
    (subst (λ (v : Witnesses). Stands o s v y) is h.1) (subst (λ (q : ℕ). PulsesAt o s q rest found) h.0 later)
comes_before o s k w y (Err why) rest less is h =
    subst (λ (v : Fault). PulsesAt o s k (y ∷ rest) (Some v)) (sym h.1)
    (before_not o s (drop k o.markers) (behind (k - 1) o.frames) (behind k o.frames) y (drop k o.frames) rest less
    (λ borne. h.0 (subst (λ (v : Witnesses). Stands o s v y) (sym is) borne)))

pub comes_within : (o : OriginalView) (s : State) (w : Witnesses) (y : Seen) (k most : ℕ) (r : Result ℕ Fault) → k ≤ most
    → Comes o s w y k r → IfOk r (λ p. p ≤ most)
comes_within o s w y k most (Ok p) few h = omega (arith, h.0, few)
comes_within o s w y k most (Err why) few h = tt

-- what is left, as all was
abbrev pub StandsAll : OriginalView → State → List Seen → ℕ → ℕ → Type 0
StandsAll o s new k i = (k ≤ length o.frames)
    × ((found : Option Fault) → PulsesAt o s k (drop i new) found → PulsesFrom o s o.markers None None o.frames new found)

pub stand_on : (o : OriginalView) (s : State) (new : List Seen) (k i p : ℕ) (y : Seen) → slice_get new i ≡ Some y → p ≤ length o.frames
    → ((rest : List Seen) (found : Option Fault) → PulsesAt o s p rest found → PulsesAt o s k (y ∷ rest) found) → StandsAll o s new k i
    → StandsAll o s new p (i + 1)
stand_on o s new k i p y e most on h = (
  most,
  λ found l. h.1 found (subst (λ (r : List Seen). PulsesAt o s k r found) (sym (drop_seen new i y e)) (on (drop (i + 1) new) found l)),
)

pub first_marker : (ms : List ℕ) (k : ℕ) → get_or (drop k ms) 0 0 ≡ get_or ms k 0
first_marker ms k = let place : k + 0 ≡ k = omega arith in get_or-drop k ms 0 0 ∙ ap (λ n. get_or ms n 0) place

-- a frame that shows what the former one does, and rises as that
pub stand_kept : (o : OriginalView) (s : State) (new : List Seen) (k i : ℕ) (y : Seen) → slice_get new i ≡ Some y
    → slice_get o.frames k ≡ Some y.shown → KeepsRises o.pulses (get_or o.markers k 0) s.pulses y.marker → StandsAll o s new k i
    → StandsAll o s new (k + 1) (i + 1)
stand_kept o s new k i y e here keeps h =
    let less = slice_get_within o.frames k y.shown here in
    let stands : StandsAs o s (drop k o.markers) y = subst (λ m. KeepsRises o.pulses m s.pulses y.marker) (sym (first_marker o.markers k)) keeps in
    stand_on o s new k i (k + 1) y e (omega (arith, less)) (λ rest found later. stands_at o s k y.shown y rest found here refl stands later) h

pub stand_none : (o : OriginalView) (s : State) (new : List Seen) (k i : ℕ) (y : Seen) (why : Fault) → slice_get new i ≡ Some y
    → ((rest : List Seen) → PulsesAt o s k (y ∷ rest) (Some why)) → StandsAll o s new k i → StrayFrom o s o.markers None None o.frames new why
stand_none o s new k i y why e fault h =
    h.1 (Some why) (subst (λ (l : List Seen). PulsesAt o s k l (Some why)) (sym (drop_seen new i y e)) (fault (drop (i + 1) new)))

none_left : (o : OriginalView) (s : State) (ms : List ℕ) (a2 a : Option Shown) (old : List Shown) → StandFrom o s ms a2 a old []
none_left o s ms a2 a [] = tt
none_left o s ms a2 a (x ∷ old) = tt

pub stand_end : (o : OriginalView) (s : State) (new : List Seen) (k i : ℕ) → length new ≤ i → StandsAll o s new k i
    → StandFrom o s o.markers None None o.frames new
stand_end o s new k i past h =
    h.1 None (subst (λ (l : List Seen). PulsesAt o s k l None) (sym (drop_all i new past))
    (none_left o s (drop k o.markers) (behind (k - 1) o.frames) (behind k o.frames) (drop k o.frames)))

pub stray_all : (o : OriginalView) (s : State) (new : List Seen) (why : Fault) → StrayFrom o s o.markers None None o.frames new why
    → StandFrom o s o.markers None None o.frames new → ⊥
stray_all o s new why h k = stray_so o s o.markers None None o.frames new why h k

-- the first marker of those from a place on
-- the frames of a recording by themselves
one_itself : (o : OriginalView) (s : State) (a2 a : Option Shown) (rise marker : ℕ) (v : Verdict) (old : List Shown) (new : List Seen) → o.pulses ≡ s.pulses
    → ((b2 b : Option Shown) → StandFrom o s (map (λ y. y.marker) new) b2 b old new)
    → StandFrom o s (map (λ y. y.marker) (seen_at rise marker v ++ new)) a2 a (shown_at rise v ++ old) (seen_at rise marker v ++ new)
one_itself o s a2 a rise marker (Read g Fine) old new e h =
    inl (refl, subst (λ (ps : List Pulse). KeepsRises o.pulses marker ps marker) e (λ j few. refl), h a (Some (record { rise = rise; fields = g })))
one_itself o s a2 a rise marker (Read g (Field name)) old new e h = h a2 a
one_itself o s a2 a rise marker (Read g SbsDisagrees) old new e h = h a2 a
one_itself o s a2 a rise marker (Read g (Stray d)) old new e h = h a2 a
one_itself o s a2 a rise marker (Broken k cause) old new e h = h a2 a

themselves : (o : OriginalView) (s : State) (ps : List Pulse) (a2 a : Option Shown) (rs : List Record) → o.pulses ≡ s.pulses
    → StandFrom o s (map (λ y. y.marker) (flat_map (seen_by ps) rs)) a2 a (flat_map (shown_by ps) rs) (flat_map (seen_by ps) rs)
themselves o s ps a2 a [] e = tt
themselves o s ps a2 a (r ∷ rs) e =
    one_itself o s a2 a (get_or ps r.marker (pulse 0 0)).rise r.marker r.verdict (flat_map (shown_by ps) rs) (flat_map (seen_by ps) rs) e
    (λ b2 b. themselves o s ps b2 b rs e)

-- what the frames show that were seen
abbrev pub shown_all : List Seen → List Shown
shown_all ys = map (λ (y : Seen). y.shown) ys

one_shown : (rise marker : ℕ) (v : Verdict) (new : List Seen) (rest : List Shown) → shown_all new ≡ rest
    → shown_all (seen_at rise marker v ++ new) ≡ shown_at rise v ++ rest
one_shown rise marker (Read g Fine) new rest e = ap (λ (l : List Shown). record { rise = rise; fields = g } ∷ l) e
one_shown rise marker (Read g (Field name)) new rest e = e
one_shown rise marker (Read g SbsDisagrees) new rest e = e
one_shown rise marker (Read g (Stray d)) new rest e = e
one_shown rise marker (Broken k cause) new rest e = e

pub shown_seen : (ps : List Pulse) (rs : List Record) → shown_all (flat_map (seen_by ps) rs) ≡ flat_map (shown_by ps) rs
shown_seen ps [] = refl
shown_seen ps (r ∷ rs) =
    one_shown (get_or ps r.marker (pulse 0 0)).rise r.marker r.verdict (flat_map (seen_by ps) rs) (flat_map (shown_by ps) rs) (shown_seen ps rs)

none_rooted : (o : OriginalView) (s : State) (seen : List Seen) → shown_all seen ≡ [] → AllByRecursion (IsRooted o s) seen
none_rooted o s [] e = tt
none_rooted o s (y ∷ seen) e = absurd (cc)

self_by : (o : OriginalView) (s : State) (frames : List Shown) → shown_all (seen_frames s) ≡ frames → StandFrom o s o.markers None None frames (seen_frames s)
    → StandBy frames o s
self_by o s [] e h = none_rooted o s (seen_frames s) e
self_by o s (x ∷ frames) e h = h

pub stand_self : (terms : TermsView) (s : State) → StandBy (fine_frames s) (original_of terms s) s
stand_self terms s =
    self_by (original_of terms s) s (fine_frames s) (shown_seen s.pulses (frames_of s))
    (themselves (original_of terms s) s s.pulses None None (frames_of s) refl)

-- if some frame of the recording reads well
none_there : (n : ℕ) (r : Bool) → r ≡ (n == 0) → r ≡ true → n ≡ 0
none_there n r is t = grind (arith, nat_tests)

-- if none does, most of each are anchors
no_frame : (o : OriginalView) (s : State) (frames : List Shown) (r : Bool) → r ≡ (length frames == 0) → r ≡ true
    → ((AllByRecursion (IsRooted o s) (seen_frames s) → StandBy frames o s) × (StandBy frames o s → AllByRecursion (IsRooted o s) (seen_frames s)))
    × ((why : Fault) → UnrootedFrom o s (seen_frames s) why → StrayBy frames o s why)
no_frame o s [] r is t = ((λ h. h, λ h. h), λ why h. h)
no_frame o s (x ∷ frames) r is t = let none = none_there (length (x ∷ frames)) r is t in absurd (omega (arith, none))

pub rooted_stand : (o : OriginalView) (s : State) (new : List Seen) (r : Result Unit Fault) (b : Bool) → b ≡ (length o.frames == 0) → b ≡ true
    → new ≡ seen_frames s
    → OnOk r (AllByRecursion (IsRooted o s) new) → OnOk r (StandBy o.frames o s)
rooted_stand o s new (Ok u) b is t e h = (no_frame o s o.frames b is t).0.0 (subst (λ (l : List Seen). AllByRecursion (IsRooted o s) l) e h)
rooted_stand o s new (Err why) b is t e h = tt

pub unrooted_stray : (o : OriginalView) (s : State) (new : List Seen) (r : Result Unit Fault) (b : Bool) → b ≡ (length o.frames == 0) → b ≡ true
    → new ≡ seen_frames s
    → OnErr r (AllByRecursion (IsRooted o s) new → ⊥) → OnErr r (StandBy o.frames o s → ⊥)
unrooted_stray o s new (Ok u) b is t e h = tt
unrooted_stray o s new (Err why) b is t e h =
    λ k. h (subst (λ (l : List Seen). AllByRecursion (IsRooted o s) l) (sym e) ((no_frame o s o.frames b is t).0.1 k))

pub unrooted_fault : (o : OriginalView) (s : State) (new : List Seen) (r : Result Unit Fault) (b : Bool) → b ≡ (length o.frames == 0) → b ≡ true
    → new ≡ seen_frames s
    → IfErr r (UnrootedFrom o s new) → IfErr r (StrayBy o.frames o s)
unrooted_fault o s new (Ok u) b is t e h = tt
unrooted_fault o s new (Err why) b is t e h =
    (no_frame o s o.frames b is t).1 why (subst (λ (l : List Seen). UnrootedFrom o s l why) e h)

-- what is left of a search for the first that is not rooted
abbrev pub RootedAll : OriginalView → State → List Seen → ℕ → Type 0
RootedAll o s new i = (AllByRecursion (IsRooted o s) (drop i new) → AllByRecursion (IsRooted o s) new)
    × ((AllByRecursion (IsRooted o s) new → AllByRecursion (IsRooted o s) (drop i new))
    × ((why : Fault) → UnrootedFrom o s (drop i new) why → UnrootedFrom o s new why))

pub rooted_none : (o : OriginalView) (s : State) (new : List Seen) → RootedAll o s new 0
rooted_none o s [] = (λ h. h, (λ h. h, λ why h. h))
rooted_none o s (y ∷ new) = (λ h. h, (λ h. h, λ why h. h))

pub rooted_more : (o : OriginalView) (s : State) (new : List Seen) (i : ℕ) (y : Seen) → slice_get new i ≡ Some y → IsRooted o s y → RootedAll o s new i
    → RootedAll o s new (i + 1)
rooted_more o s new i y here is h =
    let split = drop_seen new i y here in (
      λ k. h.0 (subst (AllByRecursion (IsRooted o s)) (sym split) (is, k)),
      (
        λ k. (subst (AllByRecursion (IsRooted o s)) split (h.1.0 k)).1,
        λ why k. h.1.1 why (subst (λ (l : List Seen). UnrootedFrom o s l why) (sym split) (inr (is, k))),
      ),
    )

pub rooted_not : (o : OriginalView) (s : State) (new : List Seen) (i : ℕ) (y : Seen) → slice_get new i ≡ Some y → (IsRooted o s y → ⊥) → RootedAll o s new i
    → (AllByRecursion (IsRooted o s) new → ⊥) × UnrootedFrom o s new (Misplaced y.shown)
rooted_not o s new i y here other h =
    let split = drop_seen new i y here in (
      λ k. other (subst (AllByRecursion (IsRooted o s)) split (h.1.0 k)).0,
      h.1.1 (Misplaced y.shown) (subst (λ (l : List Seen). UnrootedFrom o s l (Misplaced y.shown)) (sym split) (inl (other, refl))),
    )

pub rooted_end : (o : OriginalView) (s : State) (new : List Seen) (i : ℕ) → length new ≤ i → RootedAll o s new i → AllByRecursion (IsRooted o s) new
rooted_end o s new i past h = h.0 (subst (AllByRecursion (IsRooted o s)) (sym (drop_all i new past)) tt)

some_frame : (o : OriginalView) (s : State) (frames : List Shown) (why : Fault) (r : Bool) → r ≡ (length frames == 0) → r ≡ false
    → StrayFrom o s o.markers None None frames (seen_frames s) why → StrayBy frames o s why × (StandBy frames o s → ⊥)
some_frame o s [] why r is f h = let bad : false ≡ true = sym f ∙ is in absurd (cc)
some_frame o s (x ∷ frames) why r is f h = (h, stray_so o s o.markers None None (x ∷ frames) (seen_frames s) why h)

some_stands : (o : OriginalView) (s : State) (frames : List Shown) (r : Bool) → r ≡ (length frames == 0) → r ≡ false
    → StandFrom o s o.markers None None frames (seen_frames s) → StandBy frames o s
some_stands o s [] r is f h = let bad : false ≡ true = sym f ∙ is in absurd (cc)
some_stands o s (x ∷ frames) r is f h = h

pub judged_stand : (o : OriginalView) (s : State) (new : List Seen) (r : Result Unit Fault) (b : Bool) → b ≡ (length o.frames == 0) → b ≡ false
    → new ≡ seen_frames s
    → OnOk r (StandFrom o s o.markers None None o.frames new) → OnOk r (StandBy o.frames o s)
judged_stand o s new (Ok u) b is f e h = some_stands o s o.frames b is f (subst (λ (l : List Seen). StandFrom o s o.markers None None o.frames l) e h)
judged_stand o s new (Err why) b is f e h = tt

pub judged_stray : (o : OriginalView) (s : State) (new : List Seen) (r : Result Unit Fault) (b : Bool) → b ≡ (length o.frames == 0) → b ≡ false
    → new ≡ seen_frames s → IfErr r (StrayFrom o s o.markers None None o.frames new) → OnErr r (StandBy o.frames o s → ⊥)
judged_stray o s new (Ok u) b is f e h = tt
judged_stray o s new (Err why) b is f e h =
    (some_frame o s o.frames why b is f (subst (λ (l : List Seen). StrayFrom o s o.markers None None o.frames l why) e h)).1

pub judged_moved : (o : OriginalView) (s : State) (new : List Seen) (r : Result Unit Fault) (b : Bool) → b ≡ (length o.frames == 0) → b ≡ false
    → new ≡ seen_frames s → IfErr r (StrayFrom o s o.markers None None o.frames new) → IfErr r (StrayBy o.frames o s)
judged_moved o s new (Ok u) b is f e h = tt
judged_moved o s new (Err why) b is f e h =
    (some_frame o s o.frames why b is f (subst (λ (l : List Seen). StrayFrom o s o.markers None None o.frames l why) e h)).0
