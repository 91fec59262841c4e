-- A line does the same in a session with another future and other looks.
use Rattle.std.proofs.Common.{◌≡◌, ℕ, List, [], ◌∷◌, Option, Some, None, option_map, refl, ap, sym, ◌∙◌, subst, inl}
use Rattle.irig_journal.specs.Groups.{Floor, Grouped, floored, joined_over, over}
use Rattle.irig_journal.specs.{History.Step, History.states_along, Machine.Kept, Machine.Machine as Track, declared.opening.Opening.Opening}
use Rattle.irig_saved.specs.declared.change.Change.{Change}
use Rattle.irig_edit.specs.{Changes.Delta.turned, Session.Calls.Edit, Session.Calls.Call.Begin, Session.Calls.Call.End, Session.Machine.Accepts}
use Rattle.irig_edit.specs.{Session.Session.work_in, Session.Work.Work, Session.Work.grouped_in, Session.Work.joined_since, State.State.State}
use Rattle.irig_lines.specs.declared.command.Command.{Command}
use Rattle.irig_lines.specs.declared.command.Command.TheVariants as command
use Rattle.irig_script.specs.{Obey.Machine.Machine, Obey.Obeying.Obeys, Obey.Replies.Makes, declared.print.reply.Reply.TheVariants.Silent}
use Rattle.irig_guarding.specs.Repair.{Agrees, Asks, IsPrinted, IsRepair, Obeyed, ObeyedAll}
use Rattle.irig_guarding.specs.Undone.{RedoesNoMore}
use Rattle.irig_guarding.proofs.{RepairLemmas.edit_of, RepairLemmas.made_by, RepairLemmas.makes, RepairLemmas.some_same}
use Rattle.irig_guarding.proofs.UndoneLemmas.{redo_line, redoes_then}

-- a session with another future and other looks
abbrev beside : List (Step Change) → ℕ → ℕ → Machine → Machine
beside future looks last s = record {
  state = s.state;
  cursor = s.cursor;
  past = s.past;
  future = future;
  floor = s.floor;
  looks = looks;
  last_looks = last;
}

is_beside : (m s : Machine) → Agrees m s → m ≡ beside m.future m.looks m.last_looks s
is_beside m s h = λ i. record {
  state = h.state i;
  cursor = h.cursor i;
  past = h.past i;
  future = m.future;
  floor = h.floor i;
  looks = m.looks;
  last_looks = m.last_looks;
}

agrees_self : (future : List (Step Change)) (looks last : ℕ) (s : Machine) → Agrees (beside future looks last s) s
agrees_self future looks last s = record { state = refl; cursor = refl; past = refl; floor = refl }

-- a machine with another future
abbrev refuture : List (Kept State) → Grouped (Kept State) → Grouped (Kept State)
refuture future g = over g.floor (record { past = g.machine.past; present = g.machine.present; future = future })

begun_beside : (floor : Option (Floor (Kept State))) (m : Track (Kept State)) (future : List (Kept State))
    → floored floor (record { past = m.past; present = m.present; future = future }) ≡ option_map (refuture future) (floored floor m)
begun_beside None m future = refl
begun_beside (Some floor) m future = refl

ended_beside : (floor : Option (Floor (Kept State))) (m : Track (Kept State)) (future : List (Kept State))
    → joined_over floor (record { past = m.past; present = m.present; future = future }) ≡ option_map (refuture future) (joined_over floor m)
ended_beside None m future = refl
ended_beside (Some floor) m future = refl

-- the same work with another future
abbrev rework : List (Step Change) → Work → Work
rework future w = record { state = w.state; cursor = w.cursor; past = w.past; future = future; floor = w.floor }

joined_beside : (floor : Option Opening) (w : Work) (future : List (Step Change))
    → joined_since floor (rework future w) ≡ option_map (rework future) (joined_since floor w)
joined_beside None w future = refl
joined_beside (Some o) w future = refl

-- the whole states of work with another future
abbrev whole_of : List (Step Change) → State → Grouped (Kept State) → Grouped (Kept State)
whole_of future s g = refuture (states_along turned s future) g

begins_beside : (future : List (Step Change)) (a b : Work) → Accepts Begin a b → Accepts Begin (rework future a) (rework future b)
begins_beside future a b h =
    let is = some_same _ _ _ h.steps refl in
    let state : a.state ≡ b.state = ap (λ (w : Work). w.state) is in
    record {
      states = begun_beside (grouped_in a).floor (grouped_in a).machine (states_along turned a.state future)
          ∙ (ap (option_map (refuture (states_along turned a.state future))) h.states ∙ ap (λ s. Some (whole_of future s (grouped_in b))) state);
      steps = ap (λ (w : Work). Some (rework future w)) is;
    }

ends_beside : (future : List (Step Change)) (a b : Work) → Accepts End a b → Accepts End (rework future a) (rework future b)
ends_beside future a b h =
    let state = ended_state a b h.steps in
    record {
      states = ended_beside (grouped_in a).floor (grouped_in a).machine (states_along turned a.state future)
          ∙ (ap (option_map (refuture (states_along turned a.state future))) h.states ∙ ap (λ s. Some (whole_of future s (grouped_in b))) state);
      steps = joined_beside a.floor a future ∙ ap (option_map (rework future)) h.steps;
    }
  where
    ended_state : (a b : Work) → joined_since a.floor a ≡ Some b → a.state ≡ b.state
    ended_state a b e = go a.floor e
      where
        go : (floor : Option Opening) → joined_since floor a ≡ Some b → a.state ≡ b.state
        go None e = absurd (cc)
        go (Some o) e = ap (λ (w : Work). w.state) (some_same _ _ _ e refl)

makes_beside : (edit : Edit) (future : List (Step Change)) (looks last : ℕ) (a b : Machine) → Makes edit a Silent b
    → Makes edit (beside future looks last a) Silent b
makes_beside edit future looks last a b h =
    (h.0, record { after = h.1.after; cursor = h.1.cursor; fits = h.1.fits; states = h.1.states; steps = h.1.steps })

-- what a line does does not depend on the future and the looks
abbrev Again : Machine → List ℕ → Machine → Type 0
Again m line b = (left : Machine) × Obeyed m line left × Agrees left b × RedoesNoMore left b

repaired_again : (c : Command) (line : List ℕ) (future : List (Step Change)) (looks last : ℕ) (a b : Machine) → IsRepair c → IsPrinted c → Asks c line
    → Obeys c a Silent b → Again (beside future looks last a) line b
repaired_again c line future looks last a b is printed asks h = (
  b,
  (
    c,
    asks,
    printed,
    made_by c (beside future looks last a) b Silent is
        (makes_beside (edit_of c a) future looks last a b (makes c a b Silent is h)),
  ),
  record { state = refl; cursor = refl; past = refl; floor = refl },
  inl refl,
)

again : (c : Command) (line : List ℕ) (future : List (Step Change)) (looks last : ℕ) (a b : Machine) → IsPrinted c → Asks c line → Obeys c a Silent b
    → RedoesNoMore (beside future looks last a) a → Again (beside future looks last a) line b
again command.Nothing line future looks last a b is asks h redo = (
  beside future looks last a,
  (command.Nothing, asks, tt, (refl, refl)),
  subst (λ (m : Machine). Agrees (beside future looks last a) m) (sym h.1) (agrees_self future looks last a),
  redoes_then (beside future looks last a) a b redo (redo_line command.Nothing a b is h),
)
again command.Begin line future looks last a b is asks h redo = (
  beside future looks last b,
  (command.Begin, asks, tt, (h.0, begins_beside future (work_in a) (work_in b) h.1)),
  agrees_self future looks last b,
  redoes_then (beside future looks last b) a b redo (redo_line command.Begin a b is h),
)
again command.End line future looks last a b is asks h redo = (
  beside future looks last b,
  (command.End, asks, tt, (h.0, ends_beside future (work_in a) (work_in b) h.1)),
  agrees_self future looks last b,
  redoes_then (beside future looks last b) a b redo (redo_line command.End a b is h),
)
again c line future looks last a b is asks h redo = repaired_again c line future looks last a b is is asks h

pub obeyed_again : (m a b : Machine) (lines : List (List ℕ)) → Agrees m a → RedoesNoMore m a → ObeyedAll a lines b
    → (left : Machine) × ObeyedAll m lines left × Agrees left b × RedoesNoMore left b
obeyed_again m a b [] same redo h =
    (m, refl, subst (λ (x : Machine). Agrees m x) (sym h) same, subst (λ (x : Machine). RedoesNoMore m x) (sym h) redo)
obeyed_again m a b (line ∷ lines) same redo h =
    let one = again h.1.0 line m.future m.looks m.last_looks a h.0 h.1.2 h.1.1 h.1.3 redo in
    let rest = obeyed_again one.0 h.0 b lines one.2 one.3 h.2 in
    let here : Obeyed m line one.0 = subst (λ (x : Machine). Obeyed x line one.0) (sym (is_beside m a same)) one.1 in
    (rest.0, (one.0, here, rest.1), rest.2, rest.3)
