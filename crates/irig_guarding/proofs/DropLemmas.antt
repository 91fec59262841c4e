-- Why a repair is dropped.
use Rattle.std.proofs.Common.{◌≡◌, ◌≢◌, ◌+◌, ◌<◌, ◌≤◌, ◌++◌, ℕ, Bool, false, List, [], ◌∷◌, Option, Some, None, length, drop, take, arith}
use Rattle.std.proofs.Common.{get_or, refl, ap, sym, ◌∙◌, subst, inl, inr, append_assoc}
use Rattle.std.specs.Prelude.{◌↔◌, ◌⊎◌, IsTrue, MatchOption, OnErr, OnOk, Result, Ok, Err}
use Rattle.std.proofs.lemmas.List.{drop_more, map-append, take-append-drop}
use Rattle.std.specs.List.{AllByRecursion}
use Rattle.irig_edit.specs.{Session.Calls.Call, declared.session.refusal.Refusal.Refusal, Session.Session.work_in}
use Rattle.irig_lines.specs.declared.command.Command.{Command}
use Rattle.irig_lines.specs.declared.command.Command.TheVariants as command
use Rattle.irig_lines.proofs.LineOrders.{means_one}
use Rattle.irig_script.specs.{Obey.Machine.Machine, Obey.Obeying.Obeys, Obey.Replies.Calls, Obey.Replies.Makes, declared.print.reply.Reply.Reply}
use Rattle.irig_script.specs.declared.print.reply.Reply.TheVariants as told
use Rattle.irig_guarding.specs.Repair.{Asks, IsBeyond, IsRepair, Obeyed, ObeyedAll, texts}
use Rattle.irig_guarding.specs.RepairLines.{AsksFor, IsInner, MayBeKept}
use Rattle.irig_guarding.specs.Drops.{AreMade, Drops, Holds, IsRefusedAt, StopsAt, StopsIn, Sways}
use Rattle.irig_guarding.specs.Cutting.{IsClosing}
use Rattle.irig_guarding.specs.declared.reason.Reason.TheVariants.{Disagrees, NoRepair, NotSafe, OutOfMemory, Refused}
use Rattle.irig_guarding.specs.{declared.reason.Reason.Reason, declared.line.Line.Line}
use Rattle.irig_safety.specs.{Original.OriginalView, declared.shown.Shown.Shown}
use Rattle.irig_guarding.proofs.RepairLemmas.{beyond_edit, beyond_work, edit_of, makes, not_made, printed_repair}

-- a line asks for one command
pub asks_one : (line : List ℕ) (c d : Command) → Asks c line → Asks d line → c ≡ d
asks_one line c d h k = means_one line c d h.1 k.1

abbrev pub AsksNone : List ℕ → Type 0
AsksNone line = (asked : Command) → Asks asked line → ⊥

-- what was read of a line is what it asks for
pub asked_so : (line : List ℕ) (found : Option Command) (c : Command) → MatchOption found (AsksNone line) (λ asked. Asks asked line) → Asks c line
    → found ≡ Some c
asked_so line None c h k = absurd (h c k)
asked_so line (Some d) c h k = ap Some (asks_one line d c h k)

-- whether a line asks for a command, by the one that was read of it
pub asks_so : (line : List ℕ) (found d : Command) (r : Bool) → Asks found line → IsTrue r ↔ (found ≡ d) → IsTrue r ↔ Asks d line
asks_so line found d r h k = (λ t. subst (λ (c : Command). Asks c line) (k.0 t) h, λ a. k.1 (asks_one line found d h a))

pub asks_none : (line : List ℕ) (d : Command) → AsksNone line → IsTrue false ↔ Asks d line
asks_none line d h = (λ t. absurd (cc), λ a. absurd (h d a))

pub closes_so : (line : List ℕ) (found : Command) (r : Bool) → Asks found line → IsTrue r ↔ ((found ≡ command.End) ⊎ (found ≡ command.Abort))
    → IsTrue r ↔ IsClosing line
closes_so line found r h k = (λ t. there (k.0 t), back)
  where
    there : (found ≡ command.End) ⊎ (found ≡ command.Abort) → IsClosing line
    there (inl e) = inl (subst (λ (c : Command). Asks c line) e h)
    there (inr e) = inr (subst (λ (c : Command). Asks c line) e h)

    back : IsClosing line → IsTrue r
    back (inl a) = k.1 (inl (asks_one line found command.End h a))
    back (inr a) = k.1 (inr (asks_one line found command.Abort h a))

pub closes_none : (line : List ℕ) → AsksNone line → IsTrue false ↔ IsClosing line
closes_none line h = (λ t. absurd (cc), none)
  where
    none : IsClosing line → IsTrue false
    none (inl a) = absurd (h command.End a)
    none (inr a) = absurd (h command.Abort a)

-- a line of no such kind
pub not_for : (kind : Command → Type 0) (line : List ℕ) (c : Command) → Asks c line → (kind c → ⊥) → AsksFor kind line → ⊥
not_for kind line c h other k = other (subst kind (asks_one line k.0 c k.1 h) k.2)

pub not_inner : (c : Command) → c ≢ command.Nothing → (IsRepair c → ⊥) → IsInner c → ⊥
not_inner command.Nothing some other is = some refl
not_inner c some other is = other is

-- lists that end the same
pub ends_same : {X : Type 0} (xs ys : List X) (a b : X) → xs ++ a ∷ [] ≡ ys ++ b ∷ [] → (xs ≡ ys) × (a ≡ b)
ends_same [] [] a b e = (refl, (let h : a ∷ [] ≡ b ∷ [] = e in cc))
ends_same [] (y ∷ []) a b e = absurd (cc)
ends_same [] (y ∷ z ∷ ys) a b e = absurd (cc)
ends_same (x ∷ []) [] a b e = absurd (cc)
ends_same (x ∷ z ∷ xs) [] a b e = absurd (cc)
ends_same (x ∷ xs) (y ∷ ys) a b e =
    let h : x ∷ (xs ++ a ∷ []) ≡ y ∷ (ys ++ b ∷ []) = e in
    let head : x ≡ y = cc in
    let tail : xs ++ a ∷ [] ≡ ys ++ b ∷ [] = cc in
    let rest = ends_same xs ys a b tail in
    (λ i. head i ∷ rest.0 i, rest.1)

-- a line is no repair
some_after : {X : Type 0} (x y : X) (xs : List X) (a : X) → x ∷ [] ≡ y ∷ (xs ++ a ∷ []) → ⊥
some_after x y [] a e = cc
some_after x y (z ∷ xs) a e = cc

pub line_no_repair : (line : List ℕ) → (Asks command.Nothing line → ⊥) → (AsksFor IsRepair line → ⊥) → MayBeKept (line ∷ []) → ⊥
line_no_repair line some other (inl idle) =
    let same : line ≡ idle.0 = (let h : line ∷ [] ≡ idle.0 ∷ [] = idle.1 in cc) in
    some (subst (Asks command.Nothing) (sym same) idle.2)
line_no_repair line some other (inr (inl edit)) =
    let same : line ≡ edit.0 = (let h : line ∷ [] ≡ edit.0 ∷ [] = edit.1 in cc) in
    other (subst (AsksFor IsRepair) (sym same) edit.2)
line_no_repair line some other (inr (inr group)) = some_after line group.first group.inner group.last group.whole

-- two lines and more are no repair
pub group_no_repair : (first last : List ℕ) (inner : List (List ℕ))
    → (Asks command.Begin first → Asks command.End last → AllByRecursion (AsksFor IsInner) inner → ⊥) → MayBeKept (first ∷ (inner ++ last ∷ [])) → ⊥
group_no_repair first last inner other (inl idle) = some_after idle.0 first inner last (sym idle.1)
group_no_repair first last inner other (inr (inl edit)) = some_after edit.0 first inner last (sym edit.1)
group_no_repair first last inner other (inr (inr group)) =
    let h : first ∷ (inner ++ last ∷ []) ≡ group.first ∷ (group.inner ++ group.last ∷ []) = group.whole in
    let head : first ≡ group.first = cc in
    let tail : inner ++ last ∷ [] ≡ group.inner ++ group.last ∷ [] = cc in
    let both = ends_same inner group.inner last group.last tail in
    other (subst (Asks command.Begin) (sym head) group.begins) (subst (Asks command.End) (sym both.1) group.ends)
    (subst (AllByRecursion (AsksFor IsInner)) (sym both.0) group.edits)

pub none_no_repair : MayBeKept [] → ⊥
none_no_repair (inl idle) = let h = idle.1 in cc
none_no_repair (inr (inl edit)) = let h = edit.1 in cc
none_no_repair (inr (inr group)) = let h = group.whole in cc

-- an edit that was made or refused
pub obeyed_result : (r : Result Unit Reason) (c : Command) (line : List ℕ) (old new : Machine) → IsRepair c → Asks c line
    → OnOk r (Obeys c old told.Silent new) → OnOk r (Obeyed old line new)
obeyed_result (Ok u) c line old new is asks h = (c, asks, printed_repair c is, h)
obeyed_result (Err why) c line old new is asks h = tt

pub beyond_result : (r : Result Unit Reason) (c : Command) (old new : Machine) → IsRepair c → OnOk r (Obeys c old told.Silent new)
    → OnErr r (work_in new ≡ work_in old) → IsBeyond old new
beyond_result (Ok u) c old new is h k = beyond_edit c old new is h
beyond_result (Err why) c old new is h k = beyond_work old new k

repair_inner : (c : Command) → IsRepair c → IsInner c
repair_inner command.Nothing is = absurd is
repair_inner c is = is

pub line_stopped : (opened : OriginalView) (before : List Shown) (a : Machine) (line : List ℕ) (reason : Reason) → StopsAt a line reason
    → Drops opened before a (line ∷ []) reason
line_stopped opened before a line NoRepair h =
    line_no_repair line (λ none. h (command.Nothing, none, tt)) (λ edit. h (edit.0, edit.1, repair_inner edit.0 edit.2))
line_stopped opened before a line (Refused why) h = record { front = []; line = line; rest = []; whole = refl; mid = a; obeyed = refl; refused = h }
line_stopped opened before a line OutOfMemory h = absurd h
line_stopped opened before a line (NotSafe why) h = absurd h
line_stopped opened before a line (Disagrees why) h = absurd h

-- one line that stops a group
pub stops_more : (a b : Machine) (front : List (List ℕ)) (line : List ℕ) (rest : List (List ℕ)) (reason : Reason) → ObeyedAll a front b → StopsAt b line reason
    → StopsIn a (front ++ line ∷ rest) reason
stops_more a b front line rest NoRepair h k = λ all. k (there front all)
  where
    there : (front : List (List ℕ)) → AllByRecursion (AsksFor IsInner) (front ++ line ∷ rest) → AsksFor IsInner line
    there [] all = all.0
    there (x ∷ front) all = there front all.1
stops_more a b front line rest (Refused why) h k =
    record { front = front; line = line; rest = rest; whole = refl; mid = b; obeyed = h; refused = k }
stops_more a b front line rest OutOfMemory h k = absurd k
stops_more a b front line rest (NotSafe why) h k = absurd k
stops_more a b front line rest (Disagrees why) h k = absurd k

pub stops_here : (xs : List Line) (i : ℕ) (x : Line) (a b : Machine) (reason : Reason) → i < length xs → x ≡ get_or xs i x
    → ObeyedAll a (texts (take i xs)) b → StopsAt b x.bytes.now reason → StopsIn a (texts xs) reason
stops_here xs i x a b reason within is h k =
    let rest : drop i xs ≡ x ∷ drop (i + 1) xs = drop_more xs i x within ∙ ap (λ (y : Line). y ∷ drop (i + 1) xs) (sym is) in
    let whole : texts xs ≡ texts (take i xs) ++ x.bytes.now ∷ texts (drop (i + 1) xs) =
    ap texts (sym (take-append-drop i xs) ∙ ap (λ l. take i xs ++ l) rest) ∙ map-append (λ line. line.bytes.now) (take i xs) (x ∷ drop (i + 1) xs) in
    subst (λ (l : List (List ℕ)). StopsIn a l reason) (sym whole) (stops_more a b (texts (take i xs)) x.bytes.now (texts (drop (i + 1) xs)) reason h k)

-- a group that was begun and is dropped
pub begin_refused : (a b : Machine) (first : List ℕ) (rest : List (List ℕ)) (why : Refusal) → Asks command.Begin first → Calls Call.Begin a (told.Refused why) b
    → IsRefusedAt a (first ∷ rest) why
begin_refused a b first rest why begins h =
    record { front = []; line = first; rest = rest; whole = refl; mid = a; obeyed = refl; refused = (command.Begin, begins, (b, h)) }

pub group_stopped : (opened : OriginalView) (before : List Shown) (a b : Machine) (first last : List ℕ) (inner : List (List ℕ)) (reason : Reason)
    → Asks command.Begin first → Asks command.End last → Calls Call.Begin a told.Silent b → StopsIn b inner reason
    → Drops opened before a (first ∷ (inner ++ last ∷ [])) reason
group_stopped opened before a b first last inner NoRepair begins ends begun h = group_no_repair first last inner (λ _ _ all. h all)
group_stopped opened before a b first last inner (Refused why) begins ends begun h = record {
  front = first ∷ h.front;
  line = h.line;
  rest = h.rest ++ last ∷ [];
  whole = ap (λ l. first ∷ l) (ap (λ l. l ++ last ∷ []) h.whole ∙ append_assoc h.front (h.line ∷ h.rest) (last ∷ []));
  mid = h.mid;
  obeyed = (b, (command.Begin, begins, tt, begun), h.obeyed);
  refused = h.refused;
}
group_stopped opened before a b first last inner OutOfMemory begins ends begun h = absurd h
group_stopped opened before a b first last inner (NotSafe why) begins ends begun h = absurd h
group_stopped opened before a b first last inner (Disagrees why) begins ends begun h = absurd h

abbrev group_made : (a b c : Machine) (first last : List ℕ) (inner : List (List ℕ)) → Asks command.Begin first → Asks command.End last
    → Calls Call.Begin a told.Silent b → ObeyedAll b inner c → AreMade a (first ∷ (inner ++ last ∷ []))
group_made a b c first last inner begins ends begun all = record {
  front = first ∷ inner;
  rest = last ∷ [];
  whole = refl;
  ends = (ends, tt);
  mid = c;
  obeyed = (b, (command.Begin, begins, tt, begun), all);
}

pub group_held : (opened : OriginalView) (before : List Shown) (a b c : Machine) (first last : List ℕ) (inner : List (List ℕ)) (reason : Reason)
    → Asks command.Begin first → Asks command.End last → Calls Call.Begin a told.Silent b → ObeyedAll b inner c → Holds opened before c reason
    → Drops opened before a (first ∷ (inner ++ last ∷ [])) reason
group_held opened before a b c first last inner NoRepair begins ends begun all h = absurd h
group_held opened before a b c first last inner (Refused why) begins ends begun all h = record {
  front = first ∷ inner;
  line = last;
  rest = [];
  whole = refl;
  mid = c;
  obeyed = (b, (command.Begin, begins, tt, begun), all);
  refused = (command.End, ends, h);
}
group_held opened before a b c first last inner OutOfMemory begins ends begun all h = group_made a b c first last inner begins ends begun all
group_held opened before a b c first last inner (NotSafe why) begins ends begun all h = (group_made a b c first last inner begins ends begun all, h.0, h.1)
group_held opened before a b c first last inner (Disagrees why) begins ends begun all h = absurd h

-- a line that was obeyed and is dropped
abbrev line_made : (a b : Machine) (line : List ℕ) → ObeyedAll a (line ∷ []) b → AreMade a (line ∷ [])
line_made a b line h = record { front = line ∷ []; rest = []; whole = refl; ends = tt; mid = b; obeyed = h }

pub line_swayed : (opened : OriginalView) (before : List Shown) (a b : Machine) (line : List ℕ) (reason : Reason) → ObeyedAll a (line ∷ []) b
    → Sways opened before b.state reason
    → Drops opened before a (line ∷ []) reason
line_swayed opened before a b line NoRepair h k = absurd k
line_swayed opened before a b line (Refused why) h k = absurd k
line_swayed opened before a b line OutOfMemory h k = line_made a b line h
line_swayed opened before a b line (NotSafe why) h k = (line_made a b line h, k.0, k.1)
line_swayed opened before a b line (Disagrees why) h k = absurd k

-- the text of one line alone
pub one_text : (xs : List Line) (x : Line) → 1 ≤ length xs → length xs < 2 → x ≡ get_or xs 0 x → texts xs ≡ x.bytes.now ∷ []
one_text [] x least below is = absurd (omega (arith, least))
one_text (y ∷ []) x least below is = ap (λ (z : Line). z.bytes.now ∷ []) (sym is)
one_text (y ∷ z ∷ ys) x least below is = absurd (omega (arith, below))

-- an edit is made or refused
pub edit_replies : (c : Command) (old new : Machine) (r : Reply) → IsRepair c → Obeys c old r new → (r ≡ told.Silent → ⊥)
    → ((why : Refusal) → r ≡ told.Refused why → ⊥) → ⊥
edit_replies c old new r is h silent refused = go r (makes c old new r is h) silent refused
  where
    go : (r : Reply) → Makes (edit_of c old) old r new → (r ≡ told.Silent → ⊥) → ((why : Refusal) → r ≡ told.Refused why → ⊥) → ⊥
    go told.Silent h silent refused = silent refl
    go (told.Refused why) h silent refused = refused why refl
    go _ h silent refused = absurd h

pub refused_not_made : (c : Command) (old new : Machine) (why : Refusal) (r : Reply) → IsRepair c → Obeys c old r new → r ≡ told.Refused why
    → work_in new ≡ work_in old
refused_not_made c old new why r is h e = not_made c old new r is h (λ silent. let bad : told.Silent ≡ told.Refused why = sym silent ∙ e in cc)
