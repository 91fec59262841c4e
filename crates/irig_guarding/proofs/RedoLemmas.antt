-- What lines that are obeyed leave to redo.
use Rattle.std.proofs.Common.{◌≡◌, ◌+◌, ◌-◌, ◌<◌, ◌≤◌, ℕ, suc, List, [], ◌∷◌, Option, Some, None, length, refl, ap, sym, ◌∙◌}
use Rattle.std.proofs.Common.{subst, inl, inr, arith, length-drop}
use Rattle.std.specs.Prelude.{◌⊎◌}
use Rattle.irig_journal.specs.{History.Step, Joining.joined_beyond, declared.opening.Opening.Opening}
use Rattle.irig_journal.proofs.JoinLemmas.{at_most_cases}
use Rattle.irig_saved.specs.declared.change.Change.{Change}
use Rattle.irig_edit.specs.{Changes.Delta.gathered, Session.Session.work_in, Session.Work.Work, Session.Work.joined_since, Session.Work.with_floor}
use Rattle.irig_lines.specs.declared.command.Command.{Command}
use Rattle.irig_lines.specs.declared.command.Command.TheVariants as command
use Rattle.irig_script.specs.{Obey.Machine.Machine, Obey.Obeying.Obeys, declared.print.reply.Reply.TheVariants.Silent}
use Rattle.irig_guarding.specs.Repair.{Agrees, IsPrinted, IsRepair, ObeyedAll}
use Rattle.irig_guarding.specs.Undone.{HasMade, IsSameOrMade, IsUndone}
use Rattle.irig_guarding.specs.{RepairLines.IsIdle, Trial.KeepsNone, Trial.Trial, Trial.Tries, Trial.TriesAll, declared.reason.Reason.Reason}
use Rattle.irig_safety.specs.Original.{OriginalView}
use Rattle.irig_guarding.proofs.{DropLemmas.asks_one, RepairLemmas.makes, RepairLemmas.some_same}

pub same_work : (one other : Machine) → Agrees one other → one.future ≡ other.future → work_in one ≡ work_in other
same_work one other h e = λ i. record { state = h.state i; cursor = h.cursor i; past = h.past i; future = e i; floor = h.floor i }

-- no step was made, whatever group is open
record IsStill (first now : Machine) : Type 0 where
  pub state : now.state ≡ first.state
  pub cursor : now.cursor ≡ first.cursor
  pub past : now.past ≡ first.past
  pub future : now.future ≡ first.future

-- an open group was begun above this many steps
abbrev IsAbove : ℕ → Option Opening → Type 0
IsAbove n None = Unit {0}
IsAbove n (Some o) = n ≤ o.steps

-- where lines lead that begin above the steps of the first session
abbrev IsOn : Machine → Machine → Type 0
IsOn first now = IsAbove (length first.past) now.floor × (IsStill first now ⊎ HasMade first now)

-- steps that were joined above this many
joined_few : (n k : ℕ) (steps : List (Step Change)) → length steps ≡ n → n ≤ k → joined_beyond gathered k steps ≡ steps
joined_few n k steps e above =
    at_most_cases (λ (l : List (Step Change)). l ≡ steps) (length steps) (k + 1) _ _ (λ few. refl) (λ many. absurd (omega (arith, e, above, many)))

joined_many : (n k : ℕ) (steps : List (Step Change)) → n < length steps → n ≤ k → n < length (joined_beyond gathered k steps)
joined_many n k steps more above =
    at_most_cases (λ (l : List (Step Change)). n < length l) (length steps) (k + 1) _ _ (λ few. more)
    (λ many. let left = length-drop (length steps - k) steps in omega (arith, left, above, many))

on_end : (first a b : Machine) (floor : Option Opening) → joined_since floor (work_in a) ≡ Some (work_in b) → IsAbove (length first.past) floor
    → (IsStill first a ⊎ HasMade first a) → IsOn first b
on_end first a b None e above on = absurd (cc)
on_end first a b (Some o) e above on = (subst (IsAbove (length first.past)) (sym floor) tt, now on)
  where
    is : work_in b ≡ record { state = a.state; cursor = a.cursor; past = joined_beyond gathered o.steps a.past; future = a.future; floor = None }
    is = sym (some_same _ _ _ e refl)

    floor : b.floor ≡ None
    floor = ap (λ (w : Work). w.floor) is

    now : (IsStill first a ⊎ HasMade first a) → IsStill first b ⊎ HasMade first b
    now (inl still) = inl (record {
      state = ap (λ (w : Work). w.state) is ∙ still.state;
      cursor = ap (λ (w : Work). w.cursor) is ∙ still.cursor;
      past = ap (λ (w : Work). w.past) is ∙ (joined_few (length first.past) o.steps a.past (ap length still.past) above ∙ still.past);
      future = ap (λ (w : Work). w.future) is ∙ still.future;
    })
    now (inr made) = inr (
      subst (λ (l : List (Step Change)). length first.past < length l) (sym (ap (λ (w : Work). w.past) is))
          (joined_many (length first.past) o.steps a.past made.0 above),
      ap (λ (w : Work). w.future) is ∙ made.1,
    )

at_least : (first a : Machine) → (IsStill first a ⊎ HasMade first a) → length first.past ≤ length a.past
at_least first a (inl still) = let e = ap length still.past in omega (arith, e)
at_least first a (inr made) = let less = made.0 in omega (arith, less)

on_begin : (first a b : Machine) → Obeys command.Begin a Silent b → IsOn first a → IsOn first b
on_begin first a b h on = (subst (IsAbove (length first.past)) (sym floor) (at_least first a on.1), now on.1)
  where
    is : work_in b ≡ with_floor (Some (record { steps = length a.past; cursor = a.cursor })) (work_in a)
    is = sym (some_same _ _ _ h.1.steps refl)

    floor : b.floor ≡ Some (record { steps = length a.past; cursor = a.cursor })
    floor = ap (λ (w : Work). w.floor) is

    now : (IsStill first a ⊎ HasMade first a) → IsStill first b ⊎ HasMade first b
    now (inl still) = inl (record {
      state = ap (λ (w : Work). w.state) is ∙ still.state;
      cursor = ap (λ (w : Work). w.cursor) is ∙ still.cursor;
      past = ap (λ (w : Work). w.past) is ∙ still.past;
      future = ap (λ (w : Work). w.future) is ∙ still.future;
    })
    now (inr made) = inr (
      subst (λ (l : List (Step Change)). length first.past < length l) (sym (ap (λ (w : Work). w.past) is)) made.0,
      ap (λ (w : Work). w.future) is ∙ made.1,
    )

on_edit : (first : Machine) (c : Command) (a b : Machine) → IsRepair c → Obeys c a Silent b → IsOn first a → IsOn first b
on_edit first c a b is h on =
    let steps = (makes c a b Silent is h).1.steps in
    let more : length b.past ≡ suc (length a.past) = ap (λ (w : Work). length w.past) steps in
    let least = at_least first a on.1 in (
      subst (IsAbove (length first.past)) (sym (ap (λ (w : Work). w.floor) steps)) on.0,
      inr (omega (arith, more, least), ap (λ (w : Work). w.future) steps),
    )

on_line : (first : Machine) (c : Command) (a b : Machine) → IsPrinted c → Obeys c a Silent b → IsOn first a → IsOn first b
on_line first command.Nothing a b is h on = subst (IsOn first) (sym h.1) on
on_line first command.Begin a b is h on = on_begin first a b h on
on_line first command.End a b is h on = on_end first a b a.floor h.1.steps on.0 on.1
on_line first c a b is h on = on_edit first c a b is h on

on_lines : (first a b : Machine) (lines : List (List ℕ)) → ObeyedAll a lines b → IsOn first a → IsOn first b
on_lines first a b [] h on = subst (IsOn first) (sym h) on
on_lines first a b (line ∷ lines) h on = on_lines first h.0 b lines h.2 (on_line first h.1.0 a h.0 h.1.2 h.1.3 on)

-- lines that leave no group open
pub obeyed_made : (first left : Machine) (lines : List (List ℕ)) → first.floor ≡ None → left.floor ≡ None → ObeyedAll first lines left
    → IsSameOrMade first left
obeyed_made first left lines closed ended h = so (on_lines first first left lines h start).1
  where
    start : IsOn first first
    start = (
      subst (IsAbove (length first.past)) (sym closed) tt,
      inl (record { state = refl; cursor = refl; past = refl; future = refl }),
    )

    so : (IsStill first left ⊎ HasMade first left) → IsSameOrMade first left
    so (inl still) = inl (same_work left first
        (record { state = still.state; cursor = still.cursor; past = still.past; floor = ended ∙ sym closed }) still.future)
    so (inr made) = inr made

-- a comment does nothing
idle_same : (a b : Machine) (lines : List (List ℕ)) → IsIdle lines → ObeyedAll a lines b → Agrees b a
idle_same a b lines idle h = go (subst (λ (l : List (List ℕ)). ObeyedAll a l b) idle.1 h)
  where
    go : ObeyedAll a (idle.0 ∷ []) b → Agrees b a
    go k =
        let nothing : k.1.0 ≡ command.Nothing = asks_one idle.0 k.1.0 command.Nothing k.1.1 idle.2 in
        let there : Obeys command.Nothing a Silent k.0 = subst (λ (c : Command). Obeys c a Silent k.0) nothing k.1.3 in
        subst (λ (m : Machine). Agrees m a) (sym (k.2 ∙ there.1)) (record { state = refl; cursor = refl; past = refl; floor = refl })

none_kept : (opened : OriginalView) (a b : Machine) (lines : List (List ℕ)) (dropped : Option Reason) → (dropped ≡ None → IsIdle lines)
    → Tries opened a lines dropped b → Agrees b a
none_kept opened a b lines None idle h = idle_same a b lines (idle refl) h.obeyed
none_kept opened a b lines (Some reason) idle h = h.0.same

agrees_then : (a b c : Machine) → Agrees c b → Agrees b a → Agrees c a
agrees_then a b c h k =
    record { state = h.state ∙ k.state; cursor = h.cursor ∙ k.cursor; past = h.past ∙ k.past; floor = h.floor ∙ k.floor }

none_made : (opened : OriginalView) (a b : Machine) (trials : List Trial) → TriesAll opened a trials b → KeepsNone trials → Agrees b a
none_made opened a b [] h none = subst (λ (m : Machine). Agrees m a) (sym h) (record { state = refl; cursor = refl; past = refl; floor = refl })
none_made opened a b (t ∷ trials) h none =
    agrees_then a h.0 b (none_made opened h.0 b trials h.2 none.1) (none_kept opened a h.0 t.lines t.dropped none.0 h.1)

-- if no repair was kept, the session is left as it was opened
pub unkept_same : (opened : OriginalView) (first start left now : Machine) (trials : List Trial) → IsUndone first start → TriesAll opened start trials now
    → Agrees left now → IsSameOrMade first left → KeepsNone trials → work_in left ≡ work_in first
unkept_same opened first start left now trials begun tried same (inl e) none = e
unkept_same opened first start left now trials begun tried same (inr made) none =
    let as_long : length left.past ≡ length first.past =
    ap length (same.past ∙ ((none_made opened start now trials tried none).past ∙ begun.same.past)) in
    let less = made.0 in
    absurd (omega (arith, as_long, less))
