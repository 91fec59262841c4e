-- Control functions that are borne out, frame by frame.
use Rattle.std.proofs.Common.{◌≡◌, ◌+◌, ◌-◌, ◌<◌, ◌≤◌, ◌++◌, ◌==◌, ℕ, Bool, true, false, List, [], ◌∷◌, Option, Some, None, length, drop, get_or, slice_get}
use Rattle.std.proofs.Common.{inl, inr, refl, ap, sym, ◌∙◌, subst, arith}
use Rattle.std.specs.Prelude.{IfErr, IfOk, OnErr, OnOk, Result, Ok, Err}
use Rattle.std.specs.List.{flat_map}
use Rattle.std.proofs.lemmas.List.{drop_all, drop_more}
use Rattle.std.proofs.lemmas.Bool.Decides.{nat_tests}
use Rattle.std.proofs.lemmas.Option.{get_or_from_slice_get, slice_get_within}
use Rattle.irig_codes.specs.declared.note.Note.TheVariants.{Fine, Field, SbsDisagrees, Stray}
use Rattle.irig_recording.specs.declared.pulse.Pulse.{Pulse}
use Rattle.irig_track.specs.Edges.{pulse}
use Rattle.irig_index.specs.declared.record.Verdict.TheVariants.{Broken, Read}
use Rattle.irig_index.specs.{declared.record.Record.Record, declared.record.Verdict.Verdict}
use Rattle.irig_edit.specs.State.State.{State, frames_of}
use Rattle.irig_safety.specs.{Moved.located, Moved.moved_in, Original.others_of, Original.with_frames}
use Rattle.irig_safety.specs.{Original.OriginalView, Original.near_by, Original.near_in, Safety.behind, declared.fault.Fault.Fault, declared.shown.Shown.Shown}
use Rattle.irig_safety.specs.{Faults.IsFault, Faults.IsSpoiledBy, Safety.IsSafe, Safety.NoneIsSpoiled}
use Rattle.irig_safety.specs.declared.witnesses.Witnesses.{Witnesses}
use Rattle.irig_safety.specs.declared.fault.Fault.TheVariants.{Lost, Unrecorded}
use Rattle.irig_safety.specs.Terms.{TermsView}
use Rattle.irig_safety.proofs.SafetyLemmas.{drop-item, drop_past, next_behind}
use Rattle.irig_guarding.specs.Controls.{AreBorneBy, AreBorneFrom, ControlsAt, ControlsFrom, IsAs, IsBorne, IsUnborneBy, IsUnborneFrom, Judges}
use Rattle.irig_guarding.specs.Stays.{FinesStayAt, HasFault, HasFaultAt, HasFineFaultAt, MayStay, StaysAt}
use Rattle.irig_guarding.specs.Standing.{StandBy, StrayBy}
use Rattle.irig_guarding.specs.Reading.{fine_frames, original_of, seen_at, seen_by, seen_frames, shown_at, shown_by}
use Rattle.irig_guarding.specs.declared.seen.Seen.{Seen}

-- frames with a fault are not borne out
unborne_so : (o : OriginalView) (s : State) (a2 a : Option Shown) (old : List Shown) (new : List Seen) (why : Fault) → IsUnborneFrom o s a2 a old new why
    → AreBorneFrom o s a2 a old new → ⊥
unborne_so o s a2 a [] [] why h k = h
unborne_so o s a2 a (x ∷ old) [] why h k = h
unborne_so o s a2 a [] (y ∷ new) why (inl h) k = h.0 k.0
unborne_so o s a2 a [] (y ∷ new) why (inr h) k = unborne_so o s a2 a [] new why h.1 k.1
unborne_so o s a2 a (x ∷ old) (y ∷ new) why (inl (same, inl h)) (inl k) = h.0 k.1
unborne_so o s a2 a (x ∷ old) (y ∷ new) why (inl (same, inr h)) (inl k) = unborne_so o s a (Some x) old new why h.1 k.2
unborne_so o s a2 a (x ∷ old) (y ∷ new) why (inl (same, h)) (inr k) = absurd (omega (arith, same, k.0))
unborne_so o s a2 a (x ∷ old) (y ∷ new) why (inr (inl (less, h))) (inl k) = absurd (omega (arith, less, k.0))
unborne_so o s a2 a (x ∷ old) (y ∷ new) why (inr (inl (less, inl h))) (inr k) = h.0 k.1
unborne_so o s a2 a (x ∷ old) (y ∷ new) why (inr (inl (less, inr h))) (inr k) = unborne_so o s a2 a (x ∷ old) new why h.1 k.2
unborne_so o s a2 a (x ∷ old) (y ∷ new) why (inr (inr h)) (inl k) = absurd (omega (arith, h.0, k.0))
unborne_so o s a2 a (x ∷ old) (y ∷ new) why (inr (inr h)) (inr k) = absurd (omega (arith, h.0, k.0))

-- the frames before the next place
next_at : (o : OriginalView) (s : State) (k : ℕ) (x : Shown) (rest : List Seen) (found : Option Fault) → slice_get o.frames k ≡ Some x
    → ControlsAt o s (k + 1) rest found ≡ ControlsFrom o s (behind k o.frames) (Some x) (drop (k + 1) o.frames) rest found
next_at o s k x rest found e =
    let one : k + 1 - 1 ≡ k = omega arith in
    λ i. ControlsFrom o s (behind (one i) o.frames) ((next_behind k o.frames ∙ e) i) (drop (k + 1) o.frames) rest found

-- a frame at the time of a former one
as_on : (o : OriginalView) (s : State) (a2 a : Option Shown) (x : Shown) (y : Seen) (old : List Shown) (new : List Seen) (found : Option Fault)
    → x.rise ≡ y.shown.rise → IsAs o s a2 a x old y → ControlsFrom o s a (Some x) old new found → ControlsFrom o s a2 a (x ∷ old) (y ∷ new) found
as_on o s a2 a x y old new None same told h = inl (same, told, h)
as_on o s a2 a x y old new (Some why) same told h = inl (same, inr (told, h))

pub as_at : (o : OriginalView) (s : State) (k : ℕ) (x : Shown) (y : Seen) (rest : List Seen) (found : Option Fault) → slice_get o.frames k ≡ Some x
    → x.rise ≡ y.shown.rise → IsAs o s (behind (k - 1) o.frames) (behind k o.frames) x (drop (k + 1) o.frames) y → ControlsAt o s (k + 1) rest found
    → ControlsAt o s k (y ∷ rest) found
as_at o s k x y rest found e same told h =
    subst (λ (l : List Shown). ControlsFrom o s (behind (k - 1) o.frames) (behind k o.frames) l (y ∷ rest) found) (sym (drop-item o.frames k x e))
    (as_on o s (behind (k - 1) o.frames) (behind k o.frames) x y (drop (k + 1) o.frames) rest found same told
    (subst (λ (T : Type 0). T) (next_at o s k x rest found e) h))

not_as : (o : OriginalView) (s : State) (k : ℕ) (x : Shown) (y : Seen) (rest : List Seen) → slice_get o.frames k ≡ Some x → x.rise ≡ y.shown.rise
    → (IsAs o s (behind (k - 1) o.frames) (behind k o.frames) x (drop (k + 1) o.frames) y → ⊥) → ControlsAt o s k (y ∷ rest) (Some (Unrecorded y.shown))
not_as o s k x y rest e same other =
    subst (λ (l : List Shown). IsUnborneFrom o s (behind (k - 1) o.frames) (behind k o.frames) l (y ∷ rest) (Unrecorded y.shown))
    (sym (drop-item o.frames k x e))
    (inl (same, inl (other, refl)))

-- one that is passed
pub passed_by : (o : OriginalView) (s : State) (k : ℕ) (x : Shown) (y : Seen) (rest : List Seen) → slice_get o.frames k ≡ Some x → x.rise < y.shown.rise
    → ControlsAt o s k (y ∷ rest) (Some (Lost x))
passed_by o s k x y rest e less =
    subst (λ (l : List Shown). IsUnborneFrom o s (behind (k - 1) o.frames) (behind k o.frames) l (y ∷ rest) (Lost x)) (sym (drop-item o.frames k x e))
    (inr (inr (less, refl)))

-- a frame before the former that are left
abbrev pub IsBeforeAll : List Shown → Seen → Type 0
IsBeforeAll [] y = Unit {0}
IsBeforeAll (x ∷ old) y = y.shown.rise < x.rise

before_on : (o : OriginalView) (s : State) (a2 a : Option Shown) (y : Seen) (old : List Shown) (new : List Seen) (found : Option Fault) → IsBeforeAll old y
    → IsBorne o s (near_by a2 a old) y → ControlsFrom o s a2 a old new found → ControlsFrom o s a2 a old (y ∷ new) found
before_on o s a2 a y [] new None less borne h = (borne, h)
before_on o s a2 a y [] new (Some why) less borne h = inr (borne, h)
before_on o s a2 a y (x ∷ old) new None less borne h = inr (less, borne, h)
before_on o s a2 a y (x ∷ old) new (Some why) less borne h = inr (inl (less, inr (borne, h)))

before_not : (o : OriginalView) (s : State) (a2 a : Option Shown) (y : Seen) (old : List Shown) (new : List Seen) → IsBeforeAll old y
    → (IsBorne o s (near_by a2 a old) y → ⊥) → IsUnborneFrom o s a2 a old (y ∷ new) (Unrecorded y.shown)
before_not o s a2 a y [] new less other = inl (other, refl)
before_not o s a2 a y (x ∷ old) new less other = inr (inl (less, inl (other, refl)))

pub after_all : (o : OriginalView) (k : ℕ) (y : Seen) → slice_get o.frames k ≡ None → IsBeforeAll (drop k o.frames) y
after_all o k y e = subst (λ (l : List Shown). IsBeforeAll l y) (sym (drop_past k o.frames e)) tt

pub before_next : (o : OriginalView) (k : ℕ) (x : Shown) (y : Seen) → slice_get o.frames k ≡ Some x → y.shown.rise < x.rise → IsBeforeAll (drop k o.frames) y
before_next o k x y e less = subst (λ (l : List Shown). IsBeforeAll l y) (sym (drop-item o.frames k x e)) less

-- what becomes of a place
abbrev pub Passes : OriginalView → State → ℕ → Seen → Result ℕ Fault → List Seen → Type 0
Passes o s k y (Ok p) rest = (found : Option Fault) → ControlsAt o s p rest found → ControlsAt o s k (y ∷ rest) found
Passes o s k y (Err why) rest = ControlsAt o s k (y ∷ rest) (Some why)

pub passes_ok : (o : OriginalView) (s : State) (k : ℕ) (y : Seen) (r : Result ℕ Fault) (rest : List Seen) (found : Option Fault) → Passes o s k y r rest
    → IfOk r (λ p. ControlsAt o s p rest found → ControlsAt o s k (y ∷ rest) found)
passes_ok o s k y (Ok p) rest found h = h found
passes_ok o s k y (Err why) rest found h = tt

pub passes_err : (o : OriginalView) (s : State) (k : ℕ) (y : Seen) (r : Result ℕ Fault) (rest : List Seen) → Passes o s k y r rest
    → IfErr r (λ why. ControlsAt o s k (y ∷ rest) (Some why))
passes_err o s k y (Ok p) rest h = tt
passes_err o s k y (Err why) rest h = h

unborne_fault : (o : OriginalView) (s : State) (k : ℕ) (y : Seen) (rest : List Seen) (why : Fault)
    → ControlsAt o s k (y ∷ rest) (Some (Unrecorded y.shown)) → why ≡ Unrecorded y.shown → ControlsAt o s k (y ∷ rest) (Some why)
unborne_fault o s k y rest why h e = subst (λ (w : Fault). ControlsAt o s k (y ∷ rest) (Some w)) (sym e) h

-- a frame that was judged, before the former that are left
pub judged_before : (o : OriginalView) (s : State) (k : ℕ) (w : Witnesses) (y : Seen) (r : Result ℕ Fault) (rest : List Seen)
    → IsBeforeAll (drop k o.frames) y → w ≡ near_in o.frames k k → Judges o s w y k r → Passes o s k y r rest
judged_before o s k w y (Ok p) rest less is h = λ found later.
    before_on o s (behind (k - 1) o.frames) (behind k o.frames) y (drop k o.frames) rest found less
    (subst (λ (v : Witnesses). IsBorne o s v y) is h.1) (subst (λ (q : ℕ). ControlsAt o s q rest found) h.0 later)
judged_before o s k w y (Err why) rest less is h =
    unborne_fault o s k y rest why (before_not o s (behind (k - 1) o.frames) (behind k o.frames) y (drop k o.frames) rest less
    (λ borne. h.0 (subst (λ (v : Witnesses). IsBorne o s v y) (sym is) borne))) h.1

-- at the time of the next, and another one than that
pub judged_at : (o : OriginalView) (s : State) (k : ℕ) (x : Shown) (w : Witnesses) (y : Seen) (r : Result ℕ Fault) (rest : List Seen)
    → slice_get o.frames k ≡ Some x → x.rise ≡ y.shown.rise → (x ≡ y.shown → ⊥) → w ≡ near_in o.frames k (k + 1)
    → Judges o s w y (k + 1) r → Passes o s k y r rest
judged_at o s k x w y (Ok p) rest e same other is h = λ found later.
    as_at o s k x y rest found e same (inr (subst (λ (v : Witnesses). IsBorne o s v y) is h.1))
    (subst (λ (q : ℕ). ControlsAt o s q rest found) h.0 later)
judged_at o s k x w y (Err why) rest e same other is h =
    unborne_fault o s k y rest why (not_as o s k x y rest e same (λ told. elim told [
      | inl one ↦ other one
      | inr borne ↦ h.0 (subst (λ (v : Witnesses). IsBorne o s v y) (sym is) borne)
    ])) h.1

pub judged_within : (o : OriginalView) (s : State) (w : Witnesses) (y : Seen) (next most : ℕ) (r : Result ℕ Fault) → next ≤ most
    → Judges o s w y next r → IfOk r (λ p. p ≤ most)
judged_within o s w y next most (Ok p) few h = omega (arith, h.0, few)
judged_within o s w y next most (Err why) few h = tt

-- what is left, as all was
abbrev pub JudgesAll : OriginalView → State → List Seen → ℕ → ℕ → Type 0
JudgesAll o s new k i = (k ≤ length o.frames)
    × ((found : Option Fault) → ControlsAt o s k (drop i new) found → ControlsFrom o s None None o.frames new found)

pub drop_seen : (xs : List Seen) (i : ℕ) (y : Seen) → slice_get xs i ≡ Some y → drop i xs ≡ y ∷ drop (i + 1) xs
drop_seen xs i y e = drop_more xs i y (slice_get_within xs i y e) ∙ ap (λ (z : Seen). z ∷ drop (i + 1) xs) (get_or_from_slice_get xs i y y e)

pub judge_on : (o : OriginalView) (s : State) (new : List Seen) (k i p : ℕ) (y : Seen) → slice_get new i ≡ Some y → p ≤ length o.frames
    → ((rest : List Seen) (found : Option Fault) → ControlsAt o s p rest found → ControlsAt o s k (y ∷ rest) found) → JudgesAll o s new k i
    → JudgesAll o s new p (i + 1)
judge_on o s new k i p y e most on h = (
  most,
  λ found l. h.1 found (subst (λ (r : List Seen). ControlsAt o s k r found) (sym (drop_seen new i y e)) (on (drop (i + 1) new) found l)),
)

-- a frame that shows what the former one does
pub judge_kept : (o : OriginalView) (s : State) (new : List Seen) (k i : ℕ) (y : Seen) → slice_get new i ≡ Some y
    → slice_get o.frames k ≡ Some y.shown → JudgesAll o s new k i → JudgesAll o s new (k + 1) (i + 1)
judge_kept o s new k i y e here h =
    let less = slice_get_within o.frames k y.shown here in
    judge_on o s new k i (k + 1) y e (omega (arith, less)) (λ rest found later. as_at o s k y.shown y rest found here refl (inl refl) later) h

pub judge_none : (o : OriginalView) (s : State) (new : List Seen) (k i : ℕ) (y : Seen) (why : Fault) → slice_get new i ≡ Some y
    → ((rest : List Seen) → ControlsAt o s k (y ∷ rest) (Some why)) → JudgesAll o s new k i → IsUnborneFrom o s None None o.frames new why
judge_none o s new k i y why e fault h =
    h.1 (Some why) (subst (λ (l : List Seen). ControlsAt o s k l (Some why)) (sym (drop_seen new i y e)) (fault (drop (i + 1) new)))

none_left : (o : OriginalView) (s : State) (a2 a : Option Shown) (old : List Shown) → AreBorneFrom o s a2 a old []
none_left o s a2 a [] = tt
none_left o s a2 a (x ∷ old) = tt

pub judge_end : (o : OriginalView) (s : State) (new : List Seen) (k i : ℕ) → length new ≤ i → JudgesAll o s new k i → AreBorneFrom o s None None o.frames new
judge_end o s new k i past h =
    h.1 None (subst (λ (l : List Seen). ControlsAt o s k l None) (sym (drop_all i new past))
    (none_left o s (behind (k - 1) o.frames) (behind k o.frames) (drop k o.frames)))

pub unborne_all : (o : OriginalView) (s : State) (new : List Seen) (why : Fault) → IsUnborneFrom o s None None o.frames new why
    → AreBorneFrom o s None None o.frames new → ⊥
unborne_all o s new why h k = unborne_so o s None None o.frames new why h k

-- the frames of a recording by themselves
one_itself : (o : OriginalView) (s : State) (a2 a : Option Shown) (rise marker : ℕ) (v : Verdict) (old : List Shown) (new : List Seen)
    → ((b2 b : Option Shown) → AreBorneFrom o s b2 b old new) → AreBorneFrom o s a2 a (shown_at rise v ++ old) (seen_at rise marker v ++ new)
one_itself o s a2 a rise marker (Read g Fine) old new h = inl (refl, inl refl, h a (Some (record { rise = rise; fields = g })))
one_itself o s a2 a rise marker (Read g (Field name)) old new h = h a2 a
one_itself o s a2 a rise marker (Read g SbsDisagrees) old new h = h a2 a
one_itself o s a2 a rise marker (Read g (Stray e)) old new h = h a2 a
one_itself o s a2 a rise marker (Broken k cause) old new h = h a2 a

themselves : (o : OriginalView) (s : State) (ps : List Pulse) (a2 a : Option Shown) (rs : List Record)
    → AreBorneFrom o s a2 a (flat_map (shown_by ps) rs) (flat_map (seen_by ps) rs)
themselves o s ps a2 a [] = tt
themselves o s ps a2 a (r ∷ rs) =
    one_itself o s a2 a (get_or ps r.marker (pulse 0 0)).rise r.marker r.verdict (flat_map (shown_by ps) rs) (flat_map (seen_by ps) rs)
    (λ b2 b. themselves o s ps b2 b rs)

by_frames : (o : OriginalView) (s : State) (frames : List Shown) → AreBorneFrom o s None None frames (seen_frames s) → AreBorneBy frames o s
by_frames o s [] h = tt
by_frames o s (x ∷ frames) h = h

pub borne_self : (terms : TermsView) (s : State) → AreBorneBy (fine_frames s) (original_of terms s) s
borne_self terms s = by_frames (original_of terms s) s (fine_frames s) (themselves (original_of terms s) s s.pulses None None (frames_of s))

-- if some frame of the recording reads well
none_there : (n : ℕ) (r : Bool) → r ≡ (n == 0) → r ≡ true → n ≡ 0
none_there n r is t = grind (arith, nat_tests)

no_frame : (o : OriginalView) (s : State) (frames : List Shown) (r : Bool) → r ≡ (length frames == 0) → r ≡ true → AreBorneBy frames o s
no_frame o s [] r is t = tt
no_frame o s (x ∷ frames) r is t = let none = none_there (length (x ∷ frames)) r is t in absurd (omega (arith, none))

pub none_judged : (o : OriginalView) (s : State) (r : Bool) → r ≡ (length o.frames == 0) → r ≡ true → AreBorneBy o.frames o s
none_judged o s r is t = no_frame o s o.frames r is t

some_frame : (o : OriginalView) (s : State) (frames : List Shown) (why : Fault) (r : Bool) → r ≡ (length frames == 0) → r ≡ false
    → IsUnborneFrom o s None None frames (seen_frames s) why → IsUnborneBy frames o s why × (AreBorneBy frames o s → ⊥)
some_frame o s [] why r is f h = let bad : false ≡ true = sym f ∙ is in absurd (cc)
some_frame o s (x ∷ frames) why r is f h = (h, unborne_so o s None None (x ∷ frames) (seen_frames s) why h)

pub judged_borne : (o : OriginalView) (s : State) (new : List Seen) (r : Result Unit Fault) → new ≡ seen_frames s
    → OnOk r (AreBorneFrom o s None None o.frames new) → OnOk r (AreBorneBy o.frames o s)
judged_borne o s new (Ok u) e h = by_frames o s o.frames (subst (λ (l : List Seen). AreBorneFrom o s None None o.frames l) e h)
judged_borne o s new (Err why) e h = tt

pub judged_unborne : (o : OriginalView) (s : State) (new : List Seen) (r : Result Unit Fault) (b : Bool) → b ≡ (length o.frames == 0) → b ≡ false
    → new ≡ seen_frames s → IfErr r (IsUnborneFrom o s None None o.frames new) → OnErr r (AreBorneBy o.frames o s → ⊥)
judged_unborne o s new (Ok u) b is f e h = tt
judged_unborne o s new (Err why) b is f e h =
    (some_frame o s o.frames why b is f (subst (λ (l : List Seen). IsUnborneFrom o s None None o.frames l why) e h)).1

pub judged_fault : (o : OriginalView) (s : State) (new : List Seen) (r : Result Unit Fault) (b : Bool) → b ≡ (length o.frames == 0) → b ≡ false
    → new ≡ seen_frames s → IfErr r (IsUnborneFrom o s None None o.frames new) → IfErr r (IsUnborneBy o.frames o s)
judged_fault o s new (Ok u) b is f e h = tt
judged_fault o s new (Err why) b is f e h =
    (some_frame o s o.frames why b is f (subst (λ (l : List Seen). IsUnborneFrom o s None None o.frames l why) e h)).0

-- what is found of all that may stay
pub stays_all : (o : OriginalView) (last : List Shown) (s : State) (now : List Shown) (r : Result Unit Fault) → now ≡ fine_frames s
    → IsSafe s.format (others_of o) o.frames now → AreBorneBy o.frames o s → StandBy o.frames o s → OnOk r (NoneIsSpoiled last now)
    → OnOk r (FinesStayAt o last s)
stays_all o last s now (Ok u) e safe borne stand h = (
  (subst (λ (l : List Shown). IsSafe s.format (others_of o) o.frames l) e safe, borne, stand),
  subst (λ (l : List Shown). NoneIsSpoiled last l) e h,
)
stays_all o last s now (Err why) e safe borne stand h = tt

pub spoiled_all : (o : OriginalView) (last : List Shown) (s : State) (now : List Shown) (r : Result Unit Fault) → now ≡ fine_frames s
    → OnErr r (NoneIsSpoiled last now → ⊥) → OnErr r (FinesStayAt o last s → ⊥)
spoiled_all o last s now (Ok u) e h = tt
spoiled_all o last s now (Err why) e h = λ k. h (subst (λ (l : List Shown). NoneIsSpoiled last l) (sym e) k.1)

pub spoiled_fault : (o : OriginalView) (last : List Shown) (s : State) (now : List Shown) (r : Result Unit Fault) → now ≡ fine_frames s
    → IsSafe s.format (others_of o) o.frames now → AreBorneBy o.frames o s → StandBy o.frames o s → IfErr r (IsSpoiledBy last now)
    → IfErr r (HasFineFaultAt o last s)
spoiled_fault o last s now (Ok u) e safe borne stand h = tt
spoiled_fault o last s now (Err why) e safe borne stand h = inr (
  subst (λ (l : List Shown). IsSafe s.format (others_of o) o.frames l) e safe,
  inr (borne, inr (stand, subst (λ (l : List Shown). IsSpoiledBy last l why) e h)),
)

pub unsafe_fault : (o : OriginalView) (last : List Shown) (s : State) (now : List Shown) (why : Fault) → now ≡ fine_frames s
    → IsFault s.format (others_of o) o.frames now why → HasFineFaultAt o last s why
unsafe_fault o last s now why e h = inl (subst (λ (l : List Shown). IsFault s.format (others_of o) o.frames l why) e h)

pub unsafe_so : (o : OriginalView) (last : List Shown) (s : State) (now : List Shown) → now ≡ fine_frames s → (IsSafe s.format (others_of o) o.frames now → ⊥)
    → FinesStayAt o last s → ⊥
unsafe_so o last s now e h k = h (subst (λ (l : List Shown). IsSafe s.format (others_of o) o.frames l) (sym e) k.0.0)

pub unborne_fault_of : (o : OriginalView) (last : List Shown) (s : State) (now : List Shown) (why : Fault) → now ≡ fine_frames s
    → IsSafe s.format (others_of o) o.frames now → IsUnborneBy o.frames o s why → HasFineFaultAt o last s why
unborne_fault_of o last s now why e safe h = inr (subst (λ (l : List Shown). IsSafe s.format (others_of o) o.frames l) e safe, inl h)

pub stray_fault_of : (o : OriginalView) (last : List Shown) (s : State) (now : List Shown) (why : Fault) → now ≡ fine_frames s
    → IsSafe s.format (others_of o) o.frames now → AreBorneBy o.frames o s → StrayBy o.frames o s why → HasFineFaultAt o last s why
stray_fault_of o last s now why e safe borne h = inr (subst (λ (l : List Shown). IsSafe s.format (others_of o) o.frames l) e safe, inr (borne, inl h))

-- where the frames are, if they may move and if not
rest_located : (o : OriginalView) (xs now : List Shown) → o.terms.moved ≡ false → xs ≡ located o.terms.moved xs now
rest_located o xs now e = sym (ap (λ (m : Bool). located m xs now) e)

moved_located : (o : OriginalView) (xs now : List Shown) → o.terms.moved ≡ true → moved_in xs now ≡ located o.terms.moved xs now
moved_located o xs now e = sym (ap (λ (m : Bool). located m xs now) e)

-- what is found by these places
pub found_stays : (o : OriginalView) (last at late : List Shown) (s : State) → at ≡ located o.terms.moved o.frames (fine_frames s)
    → late ≡ located o.terms.moved last (fine_frames s) → StaysAt (with_frames at o) late s → MayStay o last s
found_stays o last at late s p q h = subst (λ (T : Type 0). T) (λ i. StaysAt (with_frames (p i) o) (q i) s) h

pub found_sways : (o : OriginalView) (last at late : List Shown) (s : State) → at ≡ located o.terms.moved o.frames (fine_frames s)
    → late ≡ located o.terms.moved last (fine_frames s) → (StaysAt (with_frames at o) late s → ⊥) → MayStay o last s → ⊥
found_sways o last at late s p q h k = h (subst (λ (T : Type 0). T) (λ i. StaysAt (with_frames (sym p i) o) (sym q i) s) k)

pub found_fault : (o : OriginalView) (last at late : List Shown) (s : State) (why : Fault) → at ≡ located o.terms.moved o.frames (fine_frames s)
    → late ≡ located o.terms.moved last (fine_frames s) → HasFaultAt (with_frames at o) late s why → HasFault o last s why
found_fault o last at late s why p q h = subst (λ (T : Type 0). T) (λ i. HasFaultAt (with_frames (p i) o) (q i) s why) h

-- of those that are where they were
pub unmoved_at : (o : OriginalView) (at frames : List Shown) → o.terms.moved ≡ false → at ≡ o.frames → at ≡ located o.terms.moved o.frames frames
unmoved_at o at frames e is = is ∙ rest_located o o.frames frames e

pub unmoved_last : (o : OriginalView) (last frames : List Shown) → o.terms.moved ≡ false → last ≡ located o.terms.moved last frames
unmoved_last o last frames e = rest_located o last frames e

pub moved_at : (o : OriginalView) (xs at now frames : List Shown) → o.terms.moved ≡ true → at ≡ moved_in xs now → now ≡ frames
    → at ≡ located o.terms.moved xs frames
moved_at o xs at now frames e is same = is ∙ (ap (moved_in xs) same ∙ moved_located o xs frames e)
