-- What calls one after the other come to.
use Rattle.std.proofs.Common.{◌≡◌, ℕ, suc, zero, List, [], ◌∷◌, Option, Some, None, option_map, Result, Ok, Err, refl, ap, sym, ◌∙◌, subst, if◌then◌else◌}
use Rattle.std.specs.Prelude.{replicate, is_ok}
use Rattle.std.specs.Option.{option_and_then}
use Rattle.irig_journal.specs.History.{Step, step, turned_back}
use Rattle.irig_saved.specs.declared.change.Change.{Change}
use Rattle.irig_edit.specs.Session.Calls.Call.{Make, Undo, Redo, Go, Begin, End, Abort}
use Rattle.irig_edit.specs.Session.Runs.{Answered, Runs, accepted_of, OneOutcome, EditIsTakenBack, UndosAreMadeAgain}
use Rattle.irig_edit.specs.Session.Work.{Work, dropped_since, floored_here, gone_back, gone_on, joined_since, made, work_over}
use Rattle.irig_edit.specs.declared.session.refusal.Refusal.TheVariants.{OutOfRange, NoPulse, Touching, NotInside, TooMany, BadExpression, BadTime, BadControl}
use Rattle.irig_edit.specs.declared.session.refusal.Refusal.TheVariants.{NothingToUndo, NothingToRedo, GroupOpen, NoGroup, GroupFloor, OutOfMemory}
use Rattle.irig_edit.specs.{Changes.Delta.turned, Changes.Laws.Delta.IsState-turned, Changes.Laws.Delta.turned-turned, Edits.Changes.change_by}
use Rattle.irig_edit.specs.{Edits.Edits.cursor_after, Opened.Taken.CanTakeAll, Session.Calls.Call, Session.Calls.Edit, Session.Machine.Steps}
use Rattle.irig_edit.specs.{Session.Machine.Accepts, Session.Machine.Edits, State.State.IsState, State.State.State, declared.session.refusal.Refusal.Refusal}

-- a refused call changes nothing
pub refused_same : (call : Call) (old new : Work) (why : Refusal) → Steps call old (Err why) new → new ≡ old
refused_same call old new OutOfRange step = step.1
refused_same call old new NoPulse step = step.1
refused_same call old new Touching step = step.1
refused_same call old new NotInside step = step.1
refused_same call old new TooMany step = step.1
refused_same call old new BadExpression step = step.1
refused_same call old new BadTime step = step.1
refused_same call old new BadControl step = step.1
refused_same call old new NothingToUndo step = step.1
refused_same call old new NothingToRedo step = step.1
refused_same call old new GroupOpen step = step.1
refused_same call old new NoGroup step = step.1
refused_same call old new GroupFloor step = step.1
refused_same call old new OutOfMemory step = step.1

-- an edit leads to one state: its change determines it
edits_one : (edit : Edit) (old new other : Work) → Edits edit old new → Edits edit old other → new ≡ other
edits_one edit old new other h g =
    let state = ap (λ (w : Work). w.state) h.steps ∙ sym (ap (λ (w : Work). w.state) g.steps) in
    let cursor : new.cursor ≡ other.cursor = h.cursor ∙ ap (λ (s : State). cursor_after edit old.cursor s.pulses) state ∙ sym g.cursor in
    h.steps ∙ (λ i. made (change_by edit old.state) (cursor i) old) ∙ sym g.steps

some_one : {X : Type 0} (o : Option X) (new other : X) → o ≡ Some new → o ≡ Some other → new ≡ other
some_one o new other h g = let both : Some new ≡ Some other = sym h ∙ g in cc

-- and so does each accepted call
pub accepts_one : (call : Call) (old new other : Work) → Accepts call old new → Accepts call old other → new ≡ other
accepts_one (Make edit) old new other h g = edits_one edit old new other h g
accepts_one Undo old new other h g = some_one (gone_back old) new other h.steps g.steps
accepts_one Redo old new other h g = some_one (gone_on old) new other h.steps g.steps
accepts_one (Go i) old new other h g = h ∙ sym g
accepts_one Begin old new other h g = some_one (floored_here old) new other h.steps g.steps
accepts_one End old new other h g = some_one (joined_since old.floor old) new other h.steps g.steps
accepts_one Abort old new other h g = some_one (dropped_since old.floor old) new other h.steps g.steps

steps_one : (call : Call) (old new other : Work) (r : Result Unit Refusal) → Steps call old r new → Steps call old r other → new ≡ other
steps_one call old new other (Ok u) h g = accepts_one call old new other h.1 g.1
steps_one call old new other (Err why) h g = refused_same call old new why h ∙ sym (refused_same call old other why g)

pub one_outcome : OneOutcome
one_outcome [] old new other h g = h ∙ sym g
one_outcome (one ∷ rest) old new other h g =
    let between = steps_one one.call old h.0 g.0 one.result h.1.0 g.1.0 in
    one_outcome rest g.0 new other (subst (λ (w : Work). Runs rest w new) between h.1.1) g.1.1

pub edit_back : EditIsTakenBack
edit_back edit old between new is made_it taken =
    let d = change_by edit old.state in
    let law = turned-turned old.state d is.state made_it.1.fits in
    some_one (gone_back between) new _ taken.1.steps (ap gone_back made_it.1.steps ∙ (λ i. Some (record {
      state = (law i).0;
      cursor = old.cursor;
      past = old.past;
      future = step (law i).1 between.cursor ∷ [];
      floor = old.floor;
    })))

-- a move made some times
abbrev times : (Work → Option Work) → ℕ → Work → Option Work
times move zero w = Some w
times move (suc k) w = option_and_then (times move k) (move w)

-- the last of them comes last
times_last : (move : Work → Option Work) (k : ℕ) (w : Work) → times move (suc k) w ≡ option_and_then move (times move k w)
times_last move zero w = by_move (move w) where
  by_move : (o : Option Work) → option_and_then (times move zero) o ≡ o
  by_move None = refl
  by_move (Some v) = refl
times_last move (suc k) w = by_move (λ v. times_last move k v) (move w) where
  by_move : ((v : Work) → times move (suc k) v ≡ option_and_then move (times move k v)) → (o : Option Work)
      → option_and_then (times move (suc k)) o ≡ option_and_then move (option_and_then (times move k) o)
  by_move last None = refl
  by_move last (Some v) = last v

-- a step back is taken again by a step on, and the steps before it can still be taken
module _ (w v : Work) (is : IsState w.state) (can : CanTakeAll w.state w.past) (back : gone_back w ≡ Some v) where
  pub back_again : IsState v.state × CanTakeAll v.state v.past × (gone_on v ≡ Some w)
  back_again = by_past w.past can back refl where
    by_past : (past : List (Step Change)) → CanTakeAll w.state past
        → option_map (work_over w.floor) (turned_back turned w.state w.cursor past w.future) ≡ Some v → past ≡ w.past
        → IsState v.state × CanTakeAll v.state v.past × (gone_on v ≡ Some w)
    by_past [] all back same = absurd (cc)
    by_past (near ∷ past) all back same =
        let s = w.state in
        let d = near.change in
        let after : Work = record {
          state = (turned s d).0;
          cursor = near.cursor;
          past = past;
          future = step (turned s d).1 w.cursor ∷ w.future;
          floor = w.floor;
        } in
        let there : after ≡ v = cc in
        let law = turned-turned s d is all.0.fits in
        let again : gone_on after ≡ Some w =
        (λ i. Some (record { state = (law i).0; cursor = w.cursor; past = step (law i).1 near.cursor ∷ past; future = w.future; floor = w.floor }))
        ∙ (λ i. Some (record { state = s; cursor = w.cursor; past = same i; future = w.future; floor = w.floor })) in
        subst (λ (x : Work). IsState x.state × CanTakeAll x.state x.past × (gone_on x ≡ Some w)) there
        (IsState-turned s d is all.0.fits, all.1, again)

-- some steps back are taken again by as many steps on
on_again : (k : ℕ) (old between : Work) → IsState old.state → CanTakeAll old.state old.past → times gone_back k old ≡ Some between
    → times gone_on k between ≡ Some old
on_again zero old between is can back = sym back
on_again (suc k) old between is can back = by_first (λ v. on_again k v between) (gone_back old) refl back where
  by_first : ((v : Work) → IsState v.state → CanTakeAll v.state v.past → times gone_back k v ≡ Some between → times gone_on k between ≡ Some v)
      → (o : Option Work) → gone_back old ≡ o → option_and_then (times gone_back k) o ≡ Some between → times gone_on (suc k) between ≡ Some old
  by_first others None first back = absurd (cc)
  by_first others (Some v) first back =
      let there = back_again old v is can first in
      times_last gone_on k between ∙ ap (option_and_then gone_on) (others v there.0 there.1 back) ∙ there.2

-- calls with k accepted undos, or k accepted redos, make as many moves
module _ (call : Call) (move : Work → Option Work) (means : (old new : Work) → Accepts call old new → move old ≡ Some new) where
  one_more : (asked : Call) (r : Result Unit Refusal) (rest : List Answered) (k : ℕ) (old between new : Work)
      → (if is_ok r then asked ∷ accepted_of rest else accepted_of rest) ≡ replicate k call → Steps asked old r between
      → ((n : ℕ) → accepted_of rest ≡ replicate n call → times move n between ≡ Some new)
      → times move k old ≡ Some new
  one_more asked (Ok u) rest zero old between new are step others = absurd (cc)
  one_more asked (Ok u) rest (suc k) old between new are step others =
      let same : asked ≡ call = cc in
      let more : accepted_of rest ≡ replicate k call = cc in
      let one = means old between (subst (λ (c : Call). Accepts c old between) same step.1) in
      ap (option_and_then (times move k)) one ∙ others k more
  one_more asked (Err why) rest k old between new are step others =
      subst (λ (w : Work). times move k w ≡ Some new) (refused_same asked old between why step) (others k are)

  pub after_run : (calls : List Answered) (k : ℕ) (old new : Work) → accepted_of calls ≡ replicate k call → Runs calls old new → times move k old ≡ Some new
  after_run [] zero old new are runs = ap (λ (w : Work). Some w) (sym runs)
  after_run [] (suc k) old new are runs = absurd (cc)
  after_run (one ∷ rest) k old new are runs =
      one_more one.call one.result rest k old runs.0 new are runs.1.0 (λ n more. after_run rest n runs.0 new more runs.1.1)

pub undos_again : UndosAreMadeAgain
undos_again k undos redos old between new are_undos are_redos is back forth =
    let there = after_run Undo gone_back (λ o n step. step.steps) undos k old between are_undos back in
    let again = after_run Redo gone_on (λ o n step. step.steps) redos k between new are_redos forth in
    some_one (times gone_on k between) new old again (on_again k old between is.state is.past there)
