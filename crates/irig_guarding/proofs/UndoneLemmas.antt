-- What can be redone after repairs: what could be before, or nothing.
use Rattle.std.proofs.Common.{◌≡◌, [], Option, Some, None, Result, Ok, Err, refl, ap, sym, ◌∙◌, inl, inr}
use Rattle.irig_journal.specs.declared.opening.Opening.{Opening}
use Rattle.irig_edit.specs.Session.Calls.Call.{Undo, Begin, Abort}
use Rattle.irig_edit.specs.{Edits.Refusals.refusal_of, Session.Session.Steps, Session.Session.work_in, Session.Work.Work, Session.Work.dropped_since}
use Rattle.irig_edit.specs.{Session.Work.joined_since, declared.session.refusal.Refusal.Refusal}
use Rattle.irig_lines.specs.declared.command.Command.{Command}
use Rattle.irig_lines.specs.declared.command.Command.TheVariants as command
use Rattle.irig_script.specs.{Obey.Machine.Machine, Obey.Obeying.Obeys, Obey.Replies.Calls}
use Rattle.irig_script.specs.declared.print.reply.Reply.TheVariants as told
use Rattle.irig_guarding.specs.Repair.{Agrees, IsBeyond, IsPrinted, IsRepair}
use Rattle.irig_guarding.specs.Undone.{IsUndone, RedoesNoMore}
use Rattle.irig_guarding.proofs.RepairLemmas.{aborted_agrees, agrees_work, begun_here, begun_so, beyond_work, makes, never_refused, some_same, undone_agrees}

pub undone_work : (old new : Machine) → work_in new ≡ work_in old → IsUndone old new
undone_work old new e = record { same = agrees_work new old e; redo = inl (ap (λ (w : Work). w.future) e) }

pub redoes_then : (a b c : Machine) → RedoesNoMore a b → RedoesNoMore b c → RedoesNoMore a c
redoes_then a b c h (inr k) = inr k
redoes_then a b c (inl h) (inl k) = inl (k ∙ h)
redoes_then a b c (inr h) (inl k) = inr (k ∙ h)

-- a line that is obeyed
redo_end : (floor : Option Opening) (a b : Machine) → joined_since floor (work_in a) ≡ Some (work_in b) → RedoesNoMore a b
redo_end None a b e = absurd (cc)
redo_end (Some o) a b e = inl (ap (λ (w : Work). w.future) (sym (some_same _ _ _ e refl)))

redo_edit : (c : Command) (a b : Machine) → IsRepair c → Obeys c a told.Silent b → RedoesNoMore a b
redo_edit c a b is h = inr (ap (λ (w : Work). w.future) (makes c a b told.Silent is h).1.steps)

pub redo_line : (c : Command) (a b : Machine) → IsPrinted c → Obeys c a told.Silent b → RedoesNoMore a b
redo_line command.Nothing a b is h = inl (ap (λ (m : Machine). m.future) h.1)
redo_line command.Begin a b is h = inl (ap (λ (w : Work). w.future) (sym (some_same _ _ _ h.1.steps refl)))
redo_line command.End a b is h = redo_end a.floor a b h.1.steps
redo_line c a b is h = redo_edit c a b is h

-- an abort leaves nothing
pub aborted_redo : (e f : Machine) (o : Opening) (r : Result Unit Refusal) → e.floor ≡ Some o → Steps Abort e r f → f.future ≡ []
aborted_redo e f o (Ok u) floor k =
    let fell : dropped_since (Some o) (work_in e) ≡ Some (work_in f) = ap (λ (x : Option Opening). dropped_since x (work_in e)) (sym floor) ∙ k.1.steps in
    ap (λ (w : Work). w.future) (sym (some_same _ _ _ fell refl))
aborted_redo e f o (Err why) floor k =
    let none : refusal_of Abort (work_in e) ≡ None = rw floor refl in
    absurd (never_refused Abort (work_in e) (work_in f) why none (λ w. w) k)

-- a group that is given up
pub aborted_undone : (a b d e f : Machine) (r : Result Unit Refusal) → a.floor ≡ None → Calls Begin a told.Silent b → IsBeyond b d
    → work_in e ≡ work_in d → Steps Abort e r f → IsUndone a f
aborted_undone a b d e f r closed h beyond same k = record {
  same = aborted_agrees a b d e f r closed h beyond same k;
  redo = inr (aborted_redo e f _ r (ap (λ (w : Work). w.floor) same ∙ (beyond.floor ∙ (begun_here a b closed h).floor)) k);
}

-- an edit that is undone, and then an empty group that is given up
pub undone_for_good : (c : Command) (a b d e f : Machine) (r s t : Result Unit Refusal) → IsRepair c → a.floor ≡ None → Obeys c a told.Silent b
    → Steps Undo b r d → Steps Begin d s e → Steps Abort e t f → IsUndone a f
undone_for_good c a b d e f r s t is closed h undo begin abort =
    let back : Agrees d a = undone_agrees c a b d r is closed h undo in
    let still : d.floor ≡ None = back.floor ∙ closed in
    let begun = begun_so d e s still begin in
    let left : Agrees f d = aborted_agrees d e e e f t still begun (beyond_work e e refl) refl abort in
    record {
      same = record {
        state = left.state ∙ back.state;
        cursor = left.cursor ∙ back.cursor;
        past = left.past ∙ back.past;
        floor = left.floor ∙ back.floor;
      };
      redo = inr (aborted_redo e f _ t (begun_here d e still begun).floor abort);
    }
