-- What a command asks has one outcome, unless memory runs out or a write fails.
use Rattle.std.proofs.Common.{◌≡◌, ◌-◌, ℕ, Bool, true, false, List, [], ◌∷◌, Some, None, length, refl, sym, ap, ap₂, ◌∙◌, subst}
use Rattle.std.specs.Prelude.{Result, Ok, Err}
use Rattle.irig_journal.specs.Machine.{Kept}
use Rattle.irig_edit.specs.Session.Session.{session_view, work_in}
use Rattle.irig_edit.specs.{Session.Calls.Call, Session.Machine.Steps, State.State.State, Edits.Refusals.refusal_of, Session.Runs.OneOutcome}
use Rattle.irig_edit.specs.{Saved.SavedSession.saved_text, Session.Work.Work, declared.session.refusal.Refusal.Refusal}
use Rattle.irig_edit.specs.declared.session.refusal.Refusal.TheVariants as refusal
use Rattle.irig_script.specs.Obey.Asked.Asked.{Called, Shown, Told, Dumped, Saved, Ended}
use Rattle.irig_script.specs.Obey.Replies.{Calls, Shows, Writes, dump_text, reply_to}
use Rattle.irig_script.specs.{Obey.Asked.Asked, Obey.Asked.asked, Obey.Machine.Machine, Obey.Machine.present_in, Obey.Obeying.Gives, Obey.Obeying.Obeys}
use Rattle.irig_script.specs.{Obey.OneRun.tells_failed_put, Obey.OneRun.wants_memory, declared.print.reply.Reply.Reply}
use Rattle.irig_lines.specs.declared.command.Command.{Command}
use Rattle.irig_script.specs.declared.print.reply.Reply.TheVariants as told

-- the machine without the looks that it has counted
abbrev pub bare : Work → Machine
bare k = session_view k 0 0

-- two machines that stay as they are
pub stays : (o p a b : Machine) → work_in o ≡ work_in p → a ≡ o → b ≡ p → work_in a ≡ work_in b
stays o p a b e h k = ap work_in h ∙ e ∙ sym (ap work_in k)

-- machines that differ in their looks alone have one dump, and one present
pub dump_same : (o p : Machine) → work_in o ≡ work_in p → dump_text o ≡ dump_text p
dump_same o p e = ap (λ k. dump_text (bare k)) e

present_same : (o p : Machine) → work_in o ≡ work_in p → present_in o ≡ present_in p
present_same o p e = ap (λ k. present_in (bare k)) e

-- a refusal other than out of memory is that of the call
refused_for : (call : Call) (old new : Work) (why : Refusal) → Steps call old (Err why) new → wants_memory (told.Refused why) ≡ false
    → refusal_of call old ≡ Some why
refused_for call old new refusal.OutOfRange h e = h.0
refused_for call old new refusal.NoPulse h e = h.0
refused_for call old new refusal.Touching h e = h.0
refused_for call old new refusal.NotInside h e = h.0
refused_for call old new refusal.TooMany h e = h.0
refused_for call old new refusal.BadExpression h e = h.0
refused_for call old new refusal.BadTime h e = h.0
refused_for call old new refusal.BadControl h e = h.0
refused_for call old new refusal.NothingToUndo h e = h.0
refused_for call old new refusal.NothingToRedo h e = h.0
refused_for call old new refusal.GroupOpen h e = h.0
refused_for call old new refusal.NoGroup h e = h.0
refused_for call old new refusal.GroupFloor h e = h.0
refused_for call old new refusal.OutOfMemory h e = absurd (cc)

only_memory : (why : Refusal) → wants_memory (told.Refused why) ≡ true → why ≡ refusal.OutOfMemory
only_memory refusal.OutOfMemory e = refl
only_memory _ e = absurd (cc)

refusal_one : (call : Call) (old a b : Work) (w v : Refusal) → Steps call old (Err w) a → Steps call old (Err v) b
    → wants_memory (told.Refused w) ≡ wants_memory (told.Refused v) → w ≡ v
refusal_one call old a b w v h k e = go (wants_memory (told.Refused w)) refl
  where
    go : (t : Bool) → wants_memory (told.Refused w) ≡ t → w ≡ v
    go true f = only_memory w f ∙ sym (only_memory v (sym e ∙ f))
    go false f =
        let both : Some w ≡ Some v = sym (refused_for call old a w h f) ∙ refused_for call old b v k (sym e ∙ f) in
        cc

-- a call answers one thing, unless memory runs out
result_one : (call : Call) (old a b : Work) (r s : Result Unit Refusal) → Steps call old r a → Steps call old s b
    → wants_memory (reply_to r) ≡ wants_memory (reply_to s) → r ≡ s
result_one call old a b (Ok u) (Ok v) h k e = refl
result_one call old a b (Ok u) (Err v) h k e =
    let both : None ≡ Some v = sym h.0 ∙ refused_for call old b v k (sym e) in
    absurd (cc)
result_one call old a b (Err w) (Ok v) h k e =
    let both : None ≡ Some w = sym k.0 ∙ refused_for call old a w h e in
    absurd (cc)
result_one call old a b (Err w) (Err v) h k e = ap Err (refusal_one call old a b w v h k e)

-- replies that report what calls answered
module _ (outcome : OneOutcome) where
  step_one : (call : Call) (old new other : Work) (r : Result Unit Refusal) → Steps call old r new → Steps call old r other → new ≡ other
  step_one call old new other r h k = outcome (record { call = call; result = r } ∷ []) old new other (new, (h, refl)) (other, (k, refl))

  -- of one call, reported in one way
  tell_one : (tell : Result Unit Refusal → Reply) → ((r : Result Unit Refusal) → wants_memory (tell r) ≡ wants_memory (reply_to r))
      → (call : Call) (o p a b : Work) → o ≡ p → (r s : Reply)
      → (x y : Result Unit Refusal) → r ≡ tell x → s ≡ tell y → Steps call o x a → Steps call p y b → wants_memory r ≡ wants_memory s
      → (r ≡ s) × (a ≡ b)
  tell_one tell wants call o p a b e r s x y t u h k w =
      let g : Steps call p x a = subst (λ (m : Work). Steps call m x a) e h in
      let both : wants_memory (reply_to x) ≡ wants_memory (reply_to y) = sym (wants x) ∙ ap wants_memory (sym t) ∙ w ∙ ap wants_memory u ∙ wants y in
      let one : x ≡ y = result_one call p a b x y g k both in
      (t ∙ ap tell one ∙ sym u, step_one call p a b y (subst (λ (z : Result Unit Refusal). Steps call p z a) one g) k)

  called : (call : Call) (old : Machine) (r : Reply) (new : Machine) → Calls call old r new
      → (x : Result Unit Refusal) × (r ≡ reply_to x) × Steps call (work_in old) x (work_in new)
  called call old told.Silent new h = (Ok tt, refl, h)
  called call old (told.Refused why) new h = (Err why, refl, h)
  called call old _ new h = absurd h

  calls_one : (call : Call) (o p : Machine) → work_in o ≡ work_in p → (r s : Reply) (a b : Machine)
      → Calls call o r a → Calls call p s b → wants_memory r ≡ wants_memory s → (r ≡ s) × (work_in a ≡ work_in b)
  calls_one call o p e r s a b h k w =
      let x = called call o r a h in
      let y = called call p s b k in
      tell_one reply_to (λ z. refl) call (work_in o) (work_in p) (work_in a) (work_in b) e r s x.0 y.0 x.1 y.1 x.2 y.2 w

  -- the pulse that a cursor went to
  abbrev shown : ℕ → Result Unit Refusal → Reply
  shown i (Ok u) = told.Listed (i - 1) 1
  shown i (Err why) = told.Refused why

  shown_wants : (i : ℕ) (x : Result Unit Refusal) → wants_memory (shown i x) ≡ wants_memory (reply_to x)
  shown_wants i (Ok u) = refl
  shown_wants i (Err why) = refl

  showed : (i : ℕ) (old : Machine) (r : Reply) (new : Machine) → Shows i old r new
      → (x : Result Unit Refusal) × (r ≡ shown i x) × Steps (Call.Go i) (work_in old) x (work_in new)
  showed i old (told.Listed b n) new h = (Ok tt, ap₂ told.Listed h.1 h.2, h.0)
  showed i old (told.Refused why) new h = (Err why, refl, h)
  showed i old _ new h = absurd h

  shows_one : (i : ℕ) (o p : Machine) → work_in o ≡ work_in p → (r s : Reply) (a b : Machine)
      → Shows i o r a → Shows i p s b → wants_memory r ≡ wants_memory s → (r ≡ s) × (work_in a ≡ work_in b)
  shows_one i o p e r s a b h k w =
      let x = showed i o r a h in
      let y = showed i p s b k in
      tell_one (shown i) (shown_wants i) (Call.Go i) (work_in o) (work_in p) (work_in a) (work_in b) e r s x.0 y.0 x.1 y.1 x.2 y.2 w

  -- a write, as it is reported
  abbrev written : List ℕ → Bool → Reply
  written text true = told.WriteFailed
  written text false = told.Written (length text)

  writes : (text : List ℕ) (r : Reply) → Writes text r → r ≡ written text (tells_failed_put r)
  writes text (told.Written count) h = ap told.Written h
  writes text told.WriteFailed h = refl
  writes text _ h = absurd h

  writes_one : (text same : List ℕ) → text ≡ same → (r s : Reply) → Writes text r → Writes same s → tells_failed_put r ≡ tells_failed_put s → r ≡ s
  writes_one text same e r s h k f = writes text r h ∙ ap₂ written e f ∙ sym (writes same s k)

  -- what is asked
  gives_one : (x : Asked) (o p : Machine) → work_in o ≡ work_in p → (r s : Reply) (a b : Machine) → Gives x o r a → Gives x p s b
      → wants_memory r ≡ wants_memory s → tells_failed_put r ≡ tells_failed_put s → (r ≡ s) × (work_in a ≡ work_in b)
  gives_one (Called call) o p e r s a b h k w f = calls_one call o p e r s a b h k w
  gives_one (Shown i) o p e r s a b h k w f = shows_one i o p e r s a b h k w
  gives_one (Told answer) o p e r s a b h k w f = (h.0 ∙ sym k.0, stays o p a b e h.1 k.1)
  gives_one Dumped o p e r s a b h k w f = (writes_one _ _ (dump_same o p e) r s h.0 k.0 f, stays o p a b e h.1 k.1)
  gives_one Saved o p e r s a b h k w f = (writes_one _ _ (ap (λ k. saved_text k) e) r s h.0 k.0 f, stays o p a b e h.1 k.1)
  gives_one Ended o p e r s a b h k w f = absurd h

  -- what a command asks for
  pub obeys_one : (c : Command) (o p : Machine) → work_in o ≡ work_in p → (r s : Reply) (a b : Machine) → Obeys c o r a → Obeys c p s b
      → wants_memory r ≡ wants_memory s → tells_failed_put r ≡ tells_failed_put s → (r ≡ s) × (work_in a ≡ work_in b)
  obeys_one c o p e r s a b h k w f =
      let same : Gives (asked c (present_in p)) o r a = subst (λ (m : Kept State). Gives (asked c m) o r a) (present_same o p e) h in
      gives_one (asked c (present_in p)) o p e r s a b same k w f
