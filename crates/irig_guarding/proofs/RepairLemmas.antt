-- What the calls of a repair leave.
use Rattle.std.proofs.Common.{◌≡◌, ◌+◌, ◌-◌, ◌++◌, ℕ, Bool, true, false, List, [], ◌∷◌, Option, Some, None, option_map, Result, Ok, Err, length, drop, refl, ap}
use Rattle.std.proofs.Common.{sym, ◌∙◌, subst, arith, append_assoc, length-append, ◌<◌, ◌≤◌, get_or, map, take}
use Rattle.std.specs.Prelude.{IsTrue, IsFalse, is_some, not}
use Rattle.std.proofs.lemmas.List.{map-append, take_more}
use Rattle.std.proofs.Math.Seq.{drop-append_seam}
use Rattle.irig_journal.specs.Groups.{Floor, Grouped, dropped_over, over, recorded_over, undone_over}
use Rattle.irig_journal.specs.{History.Step, History.step, History.turned_back, Joining.farthest, Machine.Kept, Machine.kept, declared.opening.Opening.Opening}
use Rattle.irig_saved.specs.declared.change.Change.{Change}
use Rattle.irig_edit.specs.Session.Calls.Call.{Make, Undo, Begin, End, Abort}
use Rattle.irig_edit.specs.Session.Work.{Work, dropped_since, gone_back, grouped_in, joined_since, work_over}
use Rattle.irig_edit.specs.{Changes.Delta.turned, Edits.Changes.change_by, Edits.Edits.format_after, Edits.Refusals.first_holding, Edits.Refusals.refusal_of}
use Rattle.irig_edit.specs.{Session.Calls.Call, Session.Calls.Edit, Session.Calls.Edit.Delete, Session.Machine.MayWantMemory, Session.Session.Steps}
use Rattle.irig_edit.specs.{Session.Session.work_in, State.State.State, declared.session.refusal.Refusal.Refusal}
use Rattle.irig_edit.specs.Session.Machine as whole
use Rattle.irig_edit.specs.declared.session.refusal.Refusal.TheVariants as refusal
use Rattle.irig_edit.proofs.SessionLemmas.CallRuns.{refused_same}
use Rattle.irig_lines.specs.declared.command.Command.{Command}
use Rattle.irig_lines.specs.declared.command.Command.TheVariants as command
use Rattle.irig_script.specs.{Obey.Asked.Asked, Obey.Asked.asked, Obey.Asked.edited, Obey.Asked.Asked.Called, Obey.Machine.Machine, Obey.Machine.present_in}
use Rattle.irig_script.specs.{Obey.Obeying.Gives, Obey.Obeying.Obeys, Obey.Replies.Calls, Obey.Replies.Makes, declared.print.reply.Reply.Reply}
use Rattle.irig_script.specs.declared.print.reply.Reply.TheVariants as told
use Rattle.irig_guarding.specs.Repair.{Agrees, IsBeyond, IsPrinted, IsRepair, Obeyed, ObeyedAll, texts}
use Rattle.irig_guarding.specs.declared.line.Line.{Line}

pub agrees_work : (new old : Machine) → work_in new ≡ work_in old → Agrees new old
agrees_work new old e = record {
  state = ap (λ (w : Work). w.state) e;
  cursor = ap (λ (w : Work). w.cursor) e;
  past = ap (λ (w : Work). w.past) e;
  floor = ap (λ (w : Work). w.floor) e;
}

-- the edit that is asked for, if one is
abbrev edit_in : Asked → Edit
edit_in (Called (Make edit)) = edit
edit_in _ = Delete 0 0

-- the edit that a command of a repair makes
abbrev pub edit_of : Command → Machine → Edit
edit_of c m = edit_in (asked c (present_in m))

asks_edit : (c : Command) (m : Machine) → IsRepair c → asked c (present_in m) ≡ edited (edit_of c m)
asks_edit (command.Delete r) m is = refl
asks_edit (command.Shift r d) m is = refl
asks_edit (command.Join r) m is = refl
asks_edit (command.Split a s t) m is = refl
asks_edit (command.Force a e) m is = refl
asks_edit (command.Insert s t) m is = refl
asks_edit (command.Invert s t) m is = refl
asks_edit (command.Regen s frames moment control) m is = refl
asks_edit (command.Mark letter t) m is = refl
asks_edit (command.Unmark letter) m is = refl
asks_edit _ m is = absurd is

pub makes : (c : Command) (old new : Machine) (r : Reply) → IsRepair c → Obeys c old r new → Makes (edit_of c old) old r new
makes c old new r is h = subst (λ (x : Asked). Gives x old r new) (asks_edit c old is) h

pub made_by : (c : Command) (old new : Machine) (r : Reply) → IsRepair c → Makes (edit_of c old) old r new → Obeys c old r new
made_by c old new r is h = subst (λ (x : Asked). Gives x old r new) (sym (asks_edit c old is)) h

-- none of them changes the format
format_stays : (c : Command) (m : Machine) (s : State) → IsRepair c → format_after (edit_of c m) s ≡ s.format
format_stays (command.Delete r) m s is = refl
format_stays (command.Shift r d) m s is = refl
format_stays (command.Join r) m s is = refl
format_stays (command.Split a t u) m s is = refl
format_stays (command.Force a e) m s is = refl
format_stays (command.Insert t u) m s is = refl
format_stays (command.Invert t u) m s is = refl
format_stays (command.Regen t frames moment control) m s is = refl
format_stays (command.Mark letter t) m s is = refl
format_stays (command.Unmark letter) m s is = refl
format_stays _ m s is = absurd is

-- an edit that is not made changes nothing
makes_none : (edit : Edit) (old new : Machine) (r : Reply) → Makes edit old r new → (r ≡ told.Silent → ⊥) → work_in new ≡ work_in old
makes_none edit old new told.Silent h other = absurd (other refl)
makes_none edit old new (told.Refused why) h other = refused_same (Make edit) (work_in old) (work_in new) why h
makes_none edit old new _ h other = absurd h

pub not_made : (c : Command) (old new : Machine) (r : Reply) → IsRepair c → Obeys c old r new → (r ≡ told.Silent → ⊥) → work_in new ≡ work_in old
not_made c old new r is h other = makes_none (edit_of c old) old new r (makes c old new r is h) other

pub beyond_work : (old new : Machine) → work_in new ≡ work_in old → IsBeyond old new
beyond_work old new e = record {
  floor = ap (λ (w : Work). w.floor) e;
  begin = ap (λ (w : Work). (grouped_in w).floor) e;
  more = [];
  past = ap (λ (w : Work). w.past) e;
  format = ap (λ (w : Work). w.state.format) e;
}

pub beyond_edit : (c : Command) (old new : Machine) → IsRepair c → Obeys c old told.Silent new → IsBeyond old new
beyond_edit c old new is h =
    let made = makes c old new told.Silent is h in
    record {
      floor = ap (λ (w : Work). w.floor) made.1.steps;
      begin = ap (λ (g : Grouped (Kept State)). g.floor) made.1.states;
      more = step (turned old.state (change_by (edit_of c old) old.state)).1 old.cursor ∷ [];
      past = ap (λ (w : Work). w.past) made.1.steps;
      format = made.1.after.format ∙ format_stays c old old.state is;
    }

pub beyond_beyond : (a b c : Machine) → IsBeyond a b → IsBeyond b c → IsBeyond a c
beyond_beyond a b c h k = record {
  floor = k.floor ∙ h.floor;
  begin = k.begin ∙ h.begin;
  more = k.more ++ h.more;
  past = k.past ∙ (ap (λ l. k.more ++ l) h.past ∙ sym (append_assoc k.more h.more a.past));
  format = k.format ∙ h.format;
}

pub obeyed_then : (a b c : Machine) (xs ys : List (List ℕ)) → ObeyedAll a xs b → ObeyedAll b ys c → ObeyedAll a (xs ++ ys) c
obeyed_then a b c [] ys h k = subst (λ (m : Machine). ObeyedAll m ys c) h k
obeyed_then a b c (x ∷ xs) ys h k = (h.0, h.1, obeyed_then h.0 b c xs ys h.2 k)

-- a call that nothing refuses and that takes no memory is accepted
pub never_refused : (call : Call) (old new : Work) (why : Refusal) → refusal_of call old ≡ None → (MayWantMemory call → ⊥)
    → whole.Steps call old (Err why) new → ⊥
never_refused call old new refusal.OutOfRange none sure h = let bad : None ≡ Some refusal.OutOfRange = sym none ∙ h.0 in cc
never_refused call old new refusal.NoPulse none sure h = let bad : None ≡ Some refusal.NoPulse = sym none ∙ h.0 in cc
never_refused call old new refusal.Touching none sure h = let bad : None ≡ Some refusal.Touching = sym none ∙ h.0 in cc
never_refused call old new refusal.NotInside none sure h = let bad : None ≡ Some refusal.NotInside = sym none ∙ h.0 in cc
never_refused call old new refusal.TooMany none sure h = let bad : None ≡ Some refusal.TooMany = sym none ∙ h.0 in cc
never_refused call old new refusal.BadExpression none sure h = let bad : None ≡ Some refusal.BadExpression = sym none ∙ h.0 in cc
never_refused call old new refusal.BadTime none sure h = let bad : None ≡ Some refusal.BadTime = sym none ∙ h.0 in cc
never_refused call old new refusal.BadControl none sure h = let bad : None ≡ Some refusal.BadControl = sym none ∙ h.0 in cc
never_refused call old new refusal.NothingToUndo none sure h = let bad : None ≡ Some refusal.NothingToUndo = sym none ∙ h.0 in cc
never_refused call old new refusal.NothingToRedo none sure h = let bad : None ≡ Some refusal.NothingToRedo = sym none ∙ h.0 in cc
never_refused call old new refusal.GroupOpen none sure h = let bad : None ≡ Some refusal.GroupOpen = sym none ∙ h.0 in cc
never_refused call old new refusal.NoGroup none sure h = let bad : None ≡ Some refusal.NoGroup = sym none ∙ h.0 in cc
never_refused call old new refusal.GroupFloor none sure h = let bad : None ≡ Some refusal.GroupFloor = sym none ∙ h.0 in cc
never_refused call old new refusal.OutOfMemory none sure h = sure h.2

pub some_same : {X : Type 0} (o : Option X) (x y : X) → o ≡ Some x → o ≡ Some y → y ≡ x
some_same o x y h g = let both : Some x ≡ Some y = sym h ∙ g in cc

-- a step back takes the nearest step away
back_past : (w v : Work) (near : Step Change) (rest : List (Step Change)) → w.past ≡ near ∷ rest → gone_back w ≡ Some v → v.past ≡ rest
back_past w v near rest e h =
    let there : option_map (work_over w.floor) (turned_back turned w.state w.cursor (near ∷ rest) w.future) ≡ Some v =
    ap (λ l. option_map (work_over w.floor) (turned_back turned w.state w.cursor l w.future)) (sym e) ∙ h in
    ap (λ (x : Work). x.past) (sym (some_same _ _ _ there refl))

back_floor : (w v : Work) (near : Step Change) (rest : List (Step Change)) → w.past ≡ near ∷ rest → gone_back w ≡ Some v → v.floor ≡ w.floor
back_floor w v near rest e h =
    let there : option_map (work_over w.floor) (turned_back turned w.state w.cursor (near ∷ rest) w.future) ≡ Some v =
    ap (λ l. option_map (work_over w.floor) (turned_back turned w.state w.cursor l w.future)) (sym e) ∙ h in
    ap (λ (x : Work). x.floor) (sym (some_same _ _ _ there refl))

-- an edit that is undone leaves all as it was
pub undone_agrees : (c : Command) (a b d : Machine) (r : Result Unit Refusal) → IsRepair c → a.floor ≡ None → Obeys c a told.Silent b
    → Steps Undo b r d → Agrees d a
undone_agrees c a b d (Ok u) is closed h k =
    let made = (makes c a b told.Silent is h).1 in
    let change = change_by (edit_of c a) a.state in
    let past_now : b.past ≡ step (turned a.state change).1 a.cursor ∷ a.past = ap (λ (w : Work). w.past) made.steps in
    let floor_now : b.floor ≡ None = ap (λ (w : Work). w.floor) made.steps ∙ closed in
    let base : (grouped_in (work_in a)).floor ≡ None = rw closed refl in
    let states : undone_over (recorded_over (grouped_in (work_in a)) (kept b.state b.cursor)) ≡ Some (grouped_in (work_in d)) =
    ap undone_over (sym made.states) ∙ k.1.states in
    let back : Some (over None (record { past = (grouped_in (work_in a)).machine.past; present = kept a.state a.cursor; future = kept b.state b.cursor ∷ [] }))
    ≡ Some (grouped_in (work_in d)) = (rw base refl) ∙ states in
    let whole = some_same _ _ _ back refl in
    let steps : gone_back (work_in b) ≡ Some (work_in d) = k.1.steps in
    record {
      state = ap (λ (g : Grouped (Kept State)). g.machine.present.state) (sym whole);
      cursor = ap (λ (g : Grouped (Kept State)). g.machine.present.cursor) (sym whole);
      past = back_past (work_in b) (work_in d) (step (turned a.state change).1 a.cursor) a.past past_now steps;
      floor = back_floor (work_in b) (work_in d) (step (turned a.state change).1 a.cursor) a.past past_now steps ∙ floor_now ∙ sym closed;
    }
undone_agrees c a b d (Err why) is closed h k =
    let made = (makes c a b told.Silent is h).1 in
    let past : b.past ≡ step (turned a.state (change_by (edit_of c a) a.state)).1 a.cursor ∷ a.past = ap (λ (w : Work). w.past) made.steps in
    let floor : b.floor ≡ None = ap (λ (w : Work). w.floor) made.steps ∙ closed in
    let none : refusal_of Undo (work_in b) ≡ None = rw (past, floor) refl in
    absurd (never_refused Undo (work_in b) (work_in d) why none (λ w. w) k)

-- where no group is open, a begin is accepted
pub begun_so : (a b : Machine) (r : Result Unit Refusal) → a.floor ≡ None → Steps Begin a r b → Calls Begin a told.Silent b
begun_so a b (Ok u) closed h = h
begun_so a b (Err why) closed h =
    let none : refusal_of Begin (work_in a) ≡ None = rw closed refl in
    absurd (never_refused Begin (work_in a) (work_in b) why none (λ w. w) h)

-- what a begin leaves
pub record Begun (a b : Machine) : Type 0 where
  pub state : b.state ≡ a.state
  pub past : b.past ≡ a.past
  pub floor : b.floor ≡ Some (record { steps = length a.past; cursor = a.cursor })
  pub begin : (grouped_in (work_in b)).floor ≡ Some (record { height = length (grouped_in (work_in a)).machine.past; present = kept a.state a.cursor })

pub begun_here : (a b : Machine) → a.floor ≡ None → Calls Begin a told.Silent b → Begun a b
begun_here a b closed h =
    let here : Option (Opening) = Some (record { steps = length a.past; cursor = a.cursor }) in
    let now : Work = record { state = a.state; cursor = a.cursor; past = a.past; future = a.future; floor = here } in
    let is : work_in b ≡ now = sym (some_same _ _ _ h.1.steps refl) in
    let whole : Some (over (Some (record { height = length (grouped_in (work_in a)).machine.past; present = kept a.state a.cursor }))
    (grouped_in (work_in a)).machine) ≡ Some (grouped_in (work_in b)) = (rw closed refl) ∙ h.1.states in
    let same = some_same _ _ _ whole refl in
    record {
      state = ap (λ (w : Work). w.state) is;
      past = ap (λ (w : Work). w.past) is;
      floor = ap (λ (w : Work). w.floor) is;
      begin = ap (λ (g : Grouped (Kept State)). g.floor) (sym same);
    }

drop_more : {X : Type 0} (more rest : List X) → drop (length (more ++ rest) - length rest) (more ++ rest) ≡ rest
drop_more more rest =
    let n : length (more ++ rest) - length rest ≡ length more = omega (arith, length-append more rest) in
    ap (λ k. drop k (more ++ rest)) n ∙ drop-append_seam more rest

-- an abort leaves all as it was
pub aborted_agrees : (a b d e f : Machine) (r : Result Unit Refusal) → a.floor ≡ None → Calls Begin a told.Silent b → IsBeyond b d
    → work_in e ≡ work_in d → Steps Abort e r f → Agrees f a
aborted_agrees a b d e f r closed h beyond same k = go r k
  where
    start : Begun a b
    start = begun_here a b closed h

    floor : e.floor ≡ Some (record { steps = length a.past; cursor = a.cursor })
    floor = ap (λ (w : Work). w.floor) same ∙ (beyond.floor ∙ start.floor)

    past : e.past ≡ beyond.more ++ a.past
    past = ap (λ (w : Work). w.past) same ∙ (beyond.past ∙ ap (λ l. beyond.more ++ l) start.past)

    begin : (grouped_in (work_in e)).floor ≡ Some (record { height = length (grouped_in (work_in a)).machine.past; present = kept a.state a.cursor })
    begin = ap (λ (w : Work). (grouped_in w).floor) same ∙ (beyond.begin ∙ start.begin)

    go : (r : Result Unit Refusal) → Steps Abort e r f → Agrees f a
    go (Ok u) k =
        let left : List (Step Change) = farthest (length a.past) e.past in
        let fell : dropped_since (Some (record { steps = length a.past; cursor = a.cursor })) (work_in e) ≡ Some (work_in f) =
        ap (λ (o : Option Opening). dropped_since o (work_in e)) (sym floor) ∙ k.1.steps in
        let is = some_same _ _ _ fell refl in
        let back : dropped_over (Some (record { height = length (grouped_in (work_in a)).machine.past; present = kept a.state a.cursor }))
        (grouped_in (work_in e)).machine ≡ Some (grouped_in (work_in f)) =
        ap (λ (o : Option (Floor (Kept State))). dropped_over o (grouped_in (work_in e)).machine) (sym begin) ∙ k.1.states in
        let whole = some_same _ _ _ back refl in
        let whole_past : left ≡ a.past = ap (λ (l : List (Step Change)). drop (length l - length a.past) l) past ∙ drop_more beyond.more a.past in
        record {
          state = ap (λ (g : Grouped (Kept State)). g.machine.present.state) (sym whole);
          cursor = ap (λ (w : Work). w.cursor) (sym is);
          past = ap (λ (w : Work). w.past) (sym is) ∙ whole_past;
          floor = ap (λ (w : Work). w.floor) (sym is) ∙ sym closed;
        }
    go (Err why) k =
        let none : refusal_of Abort (work_in e) ≡ None = rw floor refl in
        absurd (never_refused Abort (work_in e) (work_in f) why none (λ w. w) k)

-- an end leaves the state, and no group
pub record Ended (a b : Machine) : Type 0 where
  pub state : b.state ≡ a.state
  pub floor : b.floor ≡ None

pub ended_here : (a b : Machine) → Calls End a told.Silent b → Ended a b
ended_here a b h = go a.floor h.1.steps
  where
    go : (floor : Option Opening) → joined_since floor (work_in a) ≡ Some (work_in b) → Ended a b
    go None e = absurd (cc)
    go (Some o) e =
        let is = some_same _ _ _ e refl in
        record {
          state = ap (λ (w : Work). w.state) (sym is);
          floor = ap (λ (w : Work). w.floor) (sym is);
        }

pub printed_repair : (c : Command) → IsRepair c → IsPrinted c
printed_repair command.Nothing is = absurd is
printed_repair command.Begin is = absurd is
printed_repair command.End is = absurd is
printed_repair _ is = is

-- an edit that was made or refused
pub beyond_done : (r : Bool) (c : Command) (old new : Machine) → IsRepair c → (IsTrue r → Obeys c old told.Silent new)
    → (IsFalse r → work_in new ≡ work_in old) → IsBeyond old new
beyond_done true c old new is made refused = beyond_edit c old new is (made refl)
beyond_done false c old new is made refused = beyond_work old new (refused refl)

-- one more line
pub obeyed_more : {X : Type 0} (f : X → List ℕ) (xs : List X) (i : ℕ) (x : X) (line : List ℕ) (a b d : Machine) → i < length xs → x ≡ get_or xs i x
    → line ≡ f x → ObeyedAll a (map f (take i xs)) b → Obeyed b line d → ObeyedAll a (map f (take (i + 1) xs)) d
obeyed_more f xs i x line a b d within is text h k =
    let front = map f (take i xs) in
    let e : map f (take (i + 1) xs) ≡ front ++ line ∷ [] = ap (map f) (take_more xs i x within)
    ∙ (map-append f (take i xs) (get_or xs i x ∷ []) ∙ (ap (λ y. front ++ f y ∷ []) (sym is) ∙ ap (λ l. front ++ l ∷ []) (sym text))) in
    subst (λ (l : List (List ℕ)). ObeyedAll a l d) (sym e) (obeyed_then a b d front (line ∷ []) h (d, k, refl))

-- if an end is refused no group is open, and nothing has changed
not_some : (floor : Option Opening) (why : Refusal) → first_holding ((not (is_some floor), refusal.NoGroup) ∷ []) ≡ Some why → floor ≡ None
not_some None why e = refl
not_some (Some floor) why e = absurd (cc)

pub refused_end : (a b : Machine) (why : Refusal) → Steps End a (Err why) b → (a.floor ≡ None) × (work_in b ≡ work_in a)
refused_end a b why h = (closed why h, refused_same End (work_in a) (work_in b) why h)
  where
    closed : (why : Refusal) → Steps End a (Err why) b → a.floor ≡ None
    closed refusal.OutOfMemory h = absurd h.2
    closed refusal.OutOfRange h = not_some a.floor refusal.OutOfRange h.0
    closed refusal.NoPulse h = not_some a.floor refusal.NoPulse h.0
    closed refusal.Touching h = not_some a.floor refusal.Touching h.0
    closed refusal.NotInside h = not_some a.floor refusal.NotInside h.0
    closed refusal.TooMany h = not_some a.floor refusal.TooMany h.0
    closed refusal.BadExpression h = not_some a.floor refusal.BadExpression h.0
    closed refusal.BadTime h = not_some a.floor refusal.BadTime h.0
    closed refusal.BadControl h = not_some a.floor refusal.BadControl h.0
    closed refusal.NothingToUndo h = not_some a.floor refusal.NothingToUndo h.0
    closed refusal.NothingToRedo h = not_some a.floor refusal.NothingToRedo h.0
    closed refusal.GroupOpen h = not_some a.floor refusal.GroupOpen h.0
    closed refusal.NoGroup h = not_some a.floor refusal.NoGroup h.0
    closed refusal.GroupFloor h = not_some a.floor refusal.GroupFloor h.0

-- one line alone
pub one_obeyed : (xs : List Line) (x : Line) (a b : Machine) → 1 ≤ length xs → length xs < 2 → x ≡ get_or xs 0 x → Obeyed a x.bytes.now b
    → ObeyedAll a (texts xs) b
one_obeyed [] x a b least below is h = absurd (omega (arith, least))
one_obeyed (y ∷ []) x a b least below is h = (b, subst (λ (z : Line). Obeyed a z.bytes.now b) is h, refl)
one_obeyed (y ∷ z ∷ ys) x a b least below is h = absurd (omega (arith, below))
