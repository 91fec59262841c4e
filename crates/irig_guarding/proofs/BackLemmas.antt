-- Steps that lines made lead back to the session that they began in.
use Rattle.std.proofs.Common.{◌≡◌, ◌+◌, ◌-◌, ◌<◌, ◌≤◌, ◌++◌, ℕ, zero, suc, List, [], ◌∷◌, Option, Some, None, Result, Ok, Err, length, drop, refl, ap, sym, ◌∙◌}
use Rattle.std.proofs.Common.{subst, arith, inr, length-append, option_map}
use Rattle.std.proofs.lemmas.List.{drop-append-le}
use Rattle.irig_journal.specs.Groups.{Grouped, joined_over}
use Rattle.irig_journal.specs.{History.Step, History.machine, History.states_along, History.turned_back, Machine.Kept, Machine.kept}
use Rattle.irig_journal.specs.{History.step, Joining.beyond, Joining.joined, Joining.joined_beyond, Openings.floor_at, declared.opening.Opening.Opening}
use Rattle.irig_journal.proofs.{FloorLemmas.length-states, JoinLemmas.at_most_cases}
use Rattle.irig_saved.specs.declared.change.Change.{Change}
use Rattle.irig_edit.specs.Session.Calls.Call.{Undo, Begin, Abort}
use Rattle.irig_edit.specs.Session.Work.{Work, gone_back, grouped_in, history_in, joined_since, with_floor, work_over}
use Rattle.irig_edit.specs.{Changes.Delta.gathered, Changes.Delta.turned, Edits.Changes.change_by, Edits.Refusals.refusal_of, Session.Session.Steps, Session.Session.work_in}
use Rattle.irig_edit.specs.{State.State.State, declared.session.refusal.Refusal.Refusal}
use Rattle.irig_lines.specs.declared.command.Command.{Command}
use Rattle.irig_lines.specs.declared.command.Command.TheVariants as command
use Rattle.irig_script.specs.{Obey.Machine.Machine, Obey.Obeying.Obeys, declared.print.reply.Reply.TheVariants.Silent}
use Rattle.irig_guarding.specs.Repair.{Agrees, IsPrinted, IsRepair, ObeyedAll}
use Rattle.irig_guarding.specs.Undone.{IsUndone, LeadsBackTo, states_in}
use Rattle.irig_guarding.specs.Guarded.{Reaches}
use Rattle.irig_guarding.proofs.{RepairLemmas.aborted_agrees, RepairLemmas.begun_here, RepairLemmas.begun_so, RepairLemmas.beyond_work, RepairLemmas.edit_of, RepairLemmas.makes}
use Rattle.irig_guarding.proofs.{RepairLemmas.never_refused, RepairLemmas.some_same, UndoneLemmas.aborted_redo}

-- an open group was begun at these steps or above them
abbrev IsAbove : ℕ → Option Opening → Type 0
IsAbove n None = Unit {0}
IsAbove n (Some o) = n ≤ o.steps

abbrev IsOn : Machine → Machine → Type 0
IsOn first now = IsAbove (length first.past) now.floor × LeadsBackTo first now

at_least : (first a : Machine) → LeadsBackTo first a → length first.past ≤ length a.past
at_least first a h =
    let long : length a.past ≡ length (h.more ++ first.past) = ap length h.past in
    let parts = length-append h.more first.past in
    omega (arith, long, parts)

-- the front of what a list ends with
drop_front : {X : Type 0} (n : ℕ) (all near rest : List X) → all ≡ near ++ rest → n ≤ length near → drop n all ≡ drop n near ++ rest
drop_front n all near rest e few = ap (drop n) e ∙ drop-append-le n near rest few

on_edit : (first : Machine) (c : Command) (a b : Machine) → IsRepair c → Obeys c a Silent b → IsOn first a → IsOn first b
on_edit first c a b is h on =
    let made = (makes c a b Silent is h).1 in
    let near = on.1 in
    let one : Step Change = step (turned a.state (change_by (edit_of c a) a.state)).1 a.cursor in
    let states : states_along turned b.state b.past ≡ states_in (work_in a) = ap (λ (g : Grouped (Kept State)). g.machine.past) made.states in (
      subst (IsAbove (length first.past)) (sym (ap (λ (w : Work). w.floor) made.steps)) on.0,
      record {
        more = one ∷ near.more;
        past = ap (λ (w : Work). w.past) made.steps ∙ ap (λ l. one ∷ l) near.past;
        later = kept b.state b.cursor ∷ near.later;
        states = ap (λ l. kept b.state b.cursor ∷ l) (states ∙ near.states);
      },
    )

on_begin : (first a b : Machine) → Obeys command.Begin a Silent b → IsOn first a → IsOn first b
on_begin first a b h on =
    let is : work_in b ≡ with_floor (Some (record { steps = length a.past; cursor = a.cursor })) (work_in a) = sym (some_same _ _ _ h.1.steps refl) in (
      subst (IsAbove (length first.past)) (sym (ap (λ (w : Work). w.floor) is)) (at_least first a on.1),
      record {
        more = on.1.more;
        past = ap (λ (w : Work). w.past) is ∙ on.1.past;
        later = on.1.later;
        states = ap states_in is ∙ on.1.states;
      },
    )

states_long : (m : Machine) → length (states_in (work_in m)) ≡ suc (length m.past)
states_long m = ap suc (length-states turned m.state m.past)

-- states that are joined above those of the first session
joined_states : (first : Machine) (x : Kept State) (steps : ℕ) (states later : List (Kept State)) → length first.past ≤ steps
    → x ∷ states ≡ later ++ states_in (work_in first)
    → (front : List (Kept State)) × (x ∷ drop (length states - steps - 1) states ≡ front ++ states_in (work_in first))
joined_states first x steps states [] above e =
    let long : suc (length states) ≡ length (states_in (work_in first)) = ap length e in
    let whole = states_long first in
    let none : length states - steps - 1 ≡ 0 = omega (arith, long, whole, above) in
    ([], ap (λ n. x ∷ drop n states) none ∙ e)
joined_states first x steps states (y ∷ later) above e =
    let rest : states ≡ later ++ states_in (work_in first) = ap (drop 1) e in
    let long : length states ≡ length (later ++ states_in (work_in first)) = ap length rest in
    let parts = length-append later (states_in (work_in first)) in
    let whole = states_long first in
    let few : length states - steps - 1 ≤ length later = omega (arith, long, parts, whole, above) in
    (x ∷ drop (length states - steps - 1) later, ap (λ l. x ∷ l) (drop_front (length states - steps - 1) states later _ rest few))

joined_steps : (first : Machine) (steps : ℕ) (past more : List (Step Change)) → length first.past ≤ steps → past ≡ more ++ first.past
    → (front : List (Step Change)) × (joined_beyond gathered steps past ≡ front ++ first.past)
joined_steps first steps past more above e =
    let long : length past ≡ length (more ++ first.past) = ap length e in
    let parts = length-append more first.past in
    let few : length past - steps ≤ length more = omega (arith, long, parts, above) in
    at_most_cases (λ (l : List (Step Change)). (front : List (Step Change)) × (l ≡ front ++ first.past)) (length past) (steps + 1) _ _
    (λ short. (more, e)) (λ more_steps. (
      joined gathered (beyond steps past) ∷ drop (length past - steps) more,
      ap (λ l. joined gathered (beyond steps past) ∷ l)
          (drop_front (length past - steps) past more first.past e few),
    ))

on_end : (first a b : Machine) (floor : Option Opening) → joined_since floor (work_in a) ≡ Some (work_in b)
    → joined_over (option_map (floor_at turned a.state a.past) floor) (machine turned (history_in (work_in a))) ≡ Some (grouped_in (work_in b))
    → IsAbove (length first.past) floor → LeadsBackTo first a → IsOn first b
on_end first a b None e states above near = absurd (cc)
on_end first a b (Some o) e states above near =
    let is : work_in b ≡ record { state = a.state; cursor = a.cursor; past = joined_beyond gathered o.steps a.past; future = a.future; floor = None } =
    sym (some_same _ _ _ e refl) in
    let left : states_along turned b.state b.past
    ≡ drop (length (states_along turned a.state a.past) - o.steps - 1) (states_along turned a.state a.past) =
    ap (λ (g : Grouped (Kept State)). g.machine.past) (sym (some_same _ _ _ states refl)) in
    let joined = joined_states first (kept a.state a.cursor) o.steps (states_along turned a.state a.past) near.later above near.states in
    let steps = joined_steps first o.steps a.past near.more above near.past in
    let here : kept b.state b.cursor ≡ kept a.state a.cursor = ap (λ (w : Work). kept w.state w.cursor) is in (
      subst (IsAbove (length first.past)) (sym (ap (λ (w : Work). w.floor) is)) tt,
      record {
        more = steps.0;
        past = ap (λ (w : Work). w.past) is ∙ steps.1;
        later = joined.0;
        states = (λ i. here i ∷ left i) ∙ joined.1;
      },
    )

on_line : (first : Machine) (c : Command) (a b : Machine) → IsPrinted c → Obeys c a Silent b → IsOn first a → IsOn first b
on_line first command.Nothing a b is h on = subst (IsOn first) (sym h.1) on
on_line first command.Begin a b is h on = on_begin first a b h on
on_line first command.End a b is h on = on_end first a b a.floor h.1.steps h.1.states on.0 on.1
on_line first c a b is h on = on_edit first c a b is h on

on_lines : (first a b : Machine) (lines : List (List ℕ)) → ObeyedAll a lines b → IsOn first a → IsOn first b
on_lines first a b [] h on = subst (IsOn first) (sym h) on
on_lines first a b (line ∷ lines) h on = on_lines first h.0 b lines h.2 (on_line first h.1.0 a h.0 h.1.2 h.1.3 on)

agrees_back : (first a b : Machine) → Agrees a b → LeadsBackTo first a → LeadsBackTo first b
agrees_back first a b same h = record {
  more = h.more;
  past = sym same.past ∙ h.past;
  later = h.later;
  states = (λ i. kept (sym same.state i) (sym same.cursor i) ∷ states_along turned (sym same.state i) (sym same.past i)) ∙ h.states;
}

-- from what a run reaches, its steps lead back
pub reached_back : (first now : Machine) (script : List ℕ) → first.floor ≡ None → Reaches first script now → LeadsBackTo first now
reached_back first now script closed s =
    let start : LeadsBackTo first first = record { more = []; past = refl; later = []; states = refl } in
    agrees_back first s.left now s.same (on_lines first first s.left s.lines s.obeyed (subst (IsAbove (length first.past)) (sym closed) tt, start)).1

-- a step back
back_states : (w v : Work) (near : Step Change) (rest : List (Step Change)) → w.past ≡ near ∷ rest → gone_back w ≡ Some v
    → states_in v ≡ states_along turned w.state w.past
back_states w v near rest e h =
    let there : option_map (work_over w.floor) (turned_back turned w.state w.cursor (near ∷ rest) w.future) ≡ Some v =
    ap (λ l. option_map (work_over w.floor) (turned_back turned w.state w.cursor l w.future)) (sym e) ∙ h in
    ap states_in (sym (some_same _ _ _ there refl)) ∙ ap (states_along turned w.state) (sym e)

back_work : (w v : Work) (near : Step Change) (rest : List (Step Change)) → w.past ≡ near ∷ rest → gone_back w ≡ Some v
    → (v.past ≡ rest) × (v.floor ≡ w.floor)
back_work w v near rest e h =
    let there : option_map (work_over w.floor) (turned_back turned w.state w.cursor (near ∷ rest) w.future) ≡ Some v =
    ap (λ l. option_map (work_over w.floor) (turned_back turned w.state w.cursor l w.future)) (sym e) ∙ h in
    let same = sym (some_same _ _ _ there refl) in
    (ap (λ (x : Work). x.past) same, ap (λ (x : Work). x.floor) same)

-- a session that leads back to the first, above whose steps there are this many
pub record IsOver (first : Machine) (left : ℕ) (now : Machine) : Type 0 where
  pub back : LeadsBackTo first now
  pub closed : now.floor ≡ None
  pub long : length now.past ≡ length first.past + left

later_states : (first now : Machine) (later : List (Kept State)) → states_in (work_in now) ≡ later ++ states_in (work_in first)
    → length first.past < length now.past
    → (rest : List (Kept State)) × (states_along turned now.state now.past ≡ rest ++ states_in (work_in first))
later_states first now [] e less =
    let long : length (states_in (work_in now)) ≡ length (states_in (work_in first)) = ap length e in
    let one = states_long now in
    let other = states_long first in
    absurd (omega (arith, long, one, other, less))
later_states first now (x ∷ later) e less = (later, ap (drop 1) e)

pub one_back : (first now new : Machine) (left : ℕ) (r : Result Unit Refusal) → IsOver first (suc left) now → Steps Undo now r new
    → IsOver first left new
one_back first now new left r h k = go h.back.more h.back.past r k
  where
    go : (more : List (Step Change)) → now.past ≡ more ++ first.past → (r : Result Unit Refusal) → Steps Undo now r new → IsOver first left new
    go [] e r k =
        let same : length now.past ≡ length first.past = ap length e in
        let long = h.long in
        absurd (omega (arith, same, long))
    go (near ∷ more) e (Ok u) k =
        let long = h.long in
        let less : length first.past < length now.past = omega (arith, long) in
        let before = later_states first now h.back.later h.back.states less in
        let is = back_work (work_in now) (work_in new) near (more ++ first.past) e k.1.steps in
        record {
          back = record {
            more = more;
            past = is.0;
            later = before.0;
            states = back_states (work_in now) (work_in new) near (more ++ first.past) e k.1.steps ∙ before.1;
          };
          closed = is.1 ∙ h.closed;
          long =
              let here : length new.past ≡ length (more ++ first.past) = ap length is.0 in
              let there : length now.past ≡ suc (length (more ++ first.past)) = ap length e in
              omega (arith, here, there, long);
        }
    go (near ∷ more) e (Err why) k =
        let none : refusal_of Undo (work_in now) ≡ None = rw (e, h.closed) refl in
        absurd (never_refused Undo (work_in now) (work_in new) why none (λ w. w) k)

kept_first : (xs ys : List (Kept State)) (x y : Kept State) → x ∷ xs ≡ y ∷ ys → x ≡ y
kept_first xs ys x y e = cc

same_back : (first now : Machine) → IsOver first 0 now → first.floor ≡ None → Agrees now first
same_back first now h closed = go h.back.more h.back.past h.back.later h.back.states
  where
    go : (more : List (Step Change)) → now.past ≡ more ++ first.past → (later : List (Kept State))
        → states_in (work_in now) ≡ later ++ states_in (work_in first) → Agrees now first
    go [] past [] states =
        let here = kept_first _ _ _ _ states in
        record { state = ap (λ (x : Kept State). x.state) here; cursor = ap (λ (x : Kept State). x.cursor) here; past = past; floor = h.closed ∙ sym closed }
    go [] past (x ∷ later) states =
        let long : length (states_in (work_in now)) ≡ suc (length (later ++ states_in (work_in first))) = ap length states in
        let parts = length-append later (states_in (work_in first)) in
        let same : length now.past ≡ length first.past = ap length past in
        let one = states_long now in
        let other = states_long first in
        absurd (omega (arith, long, parts, same, one, other))
    go (s ∷ more) past later states =
        let over : length now.past ≡ suc (length (more ++ first.past)) = ap length past in
        let parts = length-append more first.past in
        let long = h.long in
        absurd (omega (arith, over, parts, long))

-- all steps above are undone, and an empty group is given up
pub undone_to : (first d e f : Machine) (r s : Result Unit Refusal) → first.floor ≡ None → IsOver first 0 d → Steps Begin d r e → Steps Abort e s f
    → IsUndone first f
undone_to first d e f r s closed h begin abort =
    let back : Agrees d first = same_back first d h closed in
    let begun = begun_so d e r h.closed begin in
    let left : Agrees f d = aborted_agrees d e e e f s h.closed begun (beyond_work e e refl) refl abort in
    record {
      same = record {
        state = left.state ∙ back.state;
        cursor = left.cursor ∙ back.cursor;
        past = left.past ∙ back.past;
        floor = left.floor ∙ back.floor;
      };
      redo = inr (aborted_redo e f _ s (begun_here d e h.closed begun).floor abort);
    }

pub over_start : (first now : Machine) (left steps : ℕ) → steps ≡ length first.past → now.floor ≡ None → left ≡ length now.past - steps
    → LeadsBackTo first now → IsOver first left now
over_start first now left steps e closed is h = record {
  back = h;
  closed = closed;
  long = let most = at_least first now h in omega (arith, e, is, most);
}
