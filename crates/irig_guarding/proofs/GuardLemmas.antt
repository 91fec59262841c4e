-- What is printed of a guarded script, and what it leads to.
use Rattle.std.proofs.Common.{◌≡◌, ◌≢◌, ◌+◌, ◌-◌, ◌<◌, ◌≤◌, ◌++◌, ◌==◌, ◌&&◌, ℕ, zero, suc, Bool, true, false, List, [], ◌∷◌, Option, Some, None, Result, Ok}
use Rattle.std.proofs.Common.{Err, length, drop, take, get_or, map, refl, ap, sym, ◌∙◌, subst, inl, inr, arith, append_assoc, length-take}
use Rattle.std.specs.Prelude.{IfSome, OnOk, not}
use Rattle.std.specs.List.{AllByRecursion, list_all}
use Rattle.std.proofs.lemmas.{List.append-nil, List.map-append, List.take_all, List.take_more, Grind.flat_map-append}
use Rattle.irig_codes.specs.Format.{FormatView}
use Rattle.irig_edit.specs.State.State.{State}
use Rattle.irig_saved.proofs.Rows.{all-append}
use Rattle.irig_lines.specs.{Lines.script_lines, declared.command.Command.Command}
use Rattle.irig_lines.specs.declared.command.Command.TheVariants as command
use Rattle.irig_script.specs.{Obey.Machine.Machine, Obey.Run.IsObeyed, Obey.Run.IsPlain, Obey.Run.Runs, Obey.Run.unlines}
use Rattle.irig_script.proofs.{ObeyLemmas.Lines.lines_and, ObeyLemmas.Quits.other_goes_on}
use Rattle.irig_guarding.specs.Guarded.{IsGuarded, IsRemark, IsSafeAfter, Reaches, silence}
use Rattle.irig_guarding.specs.Repair.{Asks, IsGroup, IsPrinted, ObeyedAll, texts}
use Rattle.irig_guarding.specs.Printed.{AreRemarksOf, IsRemarkOf, Prints, Shows}
use Rattle.irig_guarding.specs.{SafeBy.IsSafeAt, SafeBy.IsSafeBy, Reading.fine_frames, RepairLines.IsIdle, Trial.Tries, declared.reason.Reason.Reason}
use Rattle.irig_guarding.specs.declared.line.Line.{Line}
use Rattle.irig_guarding.specs.{Reading.original_of, Repair.Agrees, Undone.IsUndone}
use Rattle.irig_guarding.specs.Reasons.{head_lines, reason_line}
use Rattle.irig_safety.specs.{Moved.located, Original.others_of, Original.with_frames}
use Rattle.irig_safety.proofs.MovedLemmas.{located_self}
use Rattle.irig_safety.specs.{Original.OriginalView, Safety.IsSafe, Safety.IsSafeFrom, Safety.NoneIsSpoiled, declared.shown.Shown.Shown}
use Rattle.irig_safety.specs.Terms.{OthersView, TermsView}
use Rattle.irig_guarding.proofs.{AgainLemmas.obeyed_again, ControlLemmas.borne_self, PulseLemmas.stand_self, ReasonLemmas.head_remarks, ReasonLemmas.reason_remark, RepairLemmas.obeyed_then}
use Rattle.irig_guarding.proofs.{RedoLemmas.obeyed_made, UndoneLemmas.redoes_then}

pub on_ok : {V E : Type 0} {P Q : Type 0} (r : Result V E) → OnOk r P → (P → Q) → OnOk r Q
on_ok (Ok v) p f = f p
on_ok (Err e) p f = p

-- each line has no newline
pub all_plain : (lines : List Line) → AllByRecursion IsPlain (texts lines)
all_plain [] = tt
all_plain (line ∷ lines) = (line.plain, all_plain lines)

plain_both : (x y : Bool) → x && y ≡ true → (x ≡ true) × (y ≡ true)
plain_both true true e = (refl, refl)
plain_both true false e = absurd (cc)
plain_both false y e = absurd (cc)

pub plain_take : (n : ℕ) (text : List ℕ) → IsPlain text → IsPlain (take n text)
plain_take zero text h = refl
plain_take (suc n) [] h = refl
plain_take (suc n) (b ∷ text) h =
    let both = plain_both (not (b == 10)) (list_all (λ b. not (b == 10)) text) h in
    rw both.0 (plain_take n text both.1)

pub unlines-append : (xs ys : List (List ℕ)) → unlines (xs ++ ys) ≡ unlines xs ++ unlines ys
unlines-append xs ys = flat_map-append (λ line. line ++ 10 ∷ []) xs ys

pub unlines_one : (line : List ℕ) → unlines (line ∷ []) ≡ line ++ 10 ∷ []
unlines_one line = append-nil (line ++ 10 ∷ [])

-- the first, those between and the last of a list
pub ends_of : {X : Type 0} (xs : List X) (a b : X) → 2 ≤ length xs → a ≡ get_or xs 0 a → b ≡ get_or xs (length xs - 1) b
    → xs ≡ a ∷ (take (length xs - 1 - 1) (drop 1 xs) ++ b ∷ [])
ends_of [] a b two first last = absurd (omega arith)
ends_of (x ∷ ys) a b two first last =
    let n : ℕ = length ys - 1 in
    let whole : ys ≡ take n ys ++ get_or ys n b ∷ [] = sym (take_all (n + 1) ys (omega arith)) ∙ take_more ys n b (omega arith) in
    let at : length (x ∷ ys) - 1 ≡ suc n = omega arith in
    let less : length (x ∷ ys) - 1 - 1 ≡ n = omega arith in
    let there : b ≡ get_or ys n b = last ∙ ap (λ k. get_or (x ∷ ys) k b) at in
    ap (λ h. h ∷ ys) (sym first) ∙ ap (λ l. a ∷ l) (whole ∙ (ap (λ y. take n ys ++ y ∷ []) (sym there) ∙ ap (λ k. take k ys ++ b ∷ []) (sym less)))

pub texts_of_ends : (xs inner : List Line) (a b : Line) → xs ≡ a ∷ (inner ++ b ∷ []) → texts xs ≡ a.bytes.now ∷ (texts inner ++ b.bytes.now ∷ [])
texts_of_ends xs inner a b e = ap texts e ∙ ap (λ l. a.bytes.now ∷ l) (map-append (λ line. line.bytes.now) inner (b ∷ []))

-- a group is its begin, its lines and its end
pub group_obeyed : (a b : Machine) (first last : List ℕ) (lines : List (List ℕ)) → Asks command.Begin first → Asks command.End last → IsGroup a lines b
    → ObeyedAll a (first ∷ (lines ++ last ∷ [])) b
group_obeyed a b first last lines begins ends g = (
  g.first,
  (command.Begin, begins, tt, g.begun),
  obeyed_then g.first g.last b lines (last ∷ []) g.obeyed (b, (command.End, ends, tt, g.ended), refl),
)

-- lines that are kept
pub stands_more : (first a b : Machine) (old new : List ℕ) (lines : List (List ℕ)) → AllByRecursion IsPlain lines → ObeyedAll a lines b
    → new ≡ old ++ unlines lines → Reaches first old a → Reaches first new b
stands_more first a b old new lines plain h text s =
    let on = obeyed_again s.left a b lines s.same s.redo h in
    record {
      lines = s.lines ++ lines;
      plain = all-append IsPlain s.lines lines s.plain plain;
      cut = text ∙ (ap (λ l. l ++ unlines lines) s.cut ∙ sym (unlines-append s.lines lines));
      left = on.0;
      obeyed = obeyed_then first s.left on.0 s.lines lines s.obeyed on.1;
      same = on.2;
      redo = on.3;
    }

pub remarks_plain : (remarks : List (List ℕ)) → AllByRecursion IsRemark remarks → AllByRecursion IsPlain remarks
remarks_plain [] h = tt
remarks_plain (r ∷ rs) h = (h.0.plain, remarks_plain rs h.1)

remarks_obeyed : (m : Machine) (remarks : List (List ℕ)) → AllByRecursion IsRemark remarks → ObeyedAll m remarks m
remarks_obeyed m [] h = refl
remarks_obeyed m (r ∷ rs) h = (m, (command.Nothing, h.0.asks, tt, (refl, refl)), remarks_obeyed m rs h.1)

pub agrees_agrees : (a b c : Machine) → Agrees a b → Agrees c b → Agrees a c
agrees_agrees a b c h k =
    record { state = h.state ∙ sym k.state; cursor = h.cursor ∙ sym k.cursor; past = h.past ∙ sym k.past; floor = h.floor ∙ sym k.floor }

-- and lines that are not
pub stands_remarks : (first a b : Machine) (old new : List ℕ) → ((rs : List (List ℕ)) × AllByRecursion IsRemark rs × (new ≡ old ++ unlines rs))
    → IsUndone a b → Reaches first old a → Reaches first new b
stands_remarks first a b old new remarks undone s =
    let on = stands_more first a a old new remarks.0 (remarks_plain remarks.0 remarks.1) (remarks_obeyed a remarks.0 remarks.1) remarks.2 s in
    record {
      lines = on.lines;
      plain = on.plain;
      cut = on.cut;
      left = on.left;
      obeyed = on.obeyed;
      same = agrees_agrees on.left a b on.same undone.same;
      redo = redoes_then on.left a b on.redo undone.redo;
    }

-- what reads well is safe by itself
safe_self : (f : FormatView) (others : OthersView) (a2 a : Option Shown) (xs : List Shown) → IsSafeFrom f others a2 a xs xs
safe_self f others a2 a [] = tt
safe_self f others a2 a (x ∷ xs) = inl (refl, inl refl, safe_self f others a (Some x) xs)

safe_whole : (f : FormatView) (others : OthersView) (xs : List Shown) → IsSafe f others xs xs
safe_whole f others [] = inl refl
safe_whole f others (x ∷ xs) = safe_self f others None None (x ∷ xs)

safe_by_self : (terms : TermsView) (s : State) → IsSafeBy (original_of terms s) s
safe_by_self terms s =
    subst (λ (l : List Shown). IsSafeAt (with_frames l (original_of terms s)) s) (sym (located_self terms.moved (fine_frames s)))
    (safe_whole s.format (others_of (original_of terms s)) (fine_frames s), borne_self terms s, stand_self terms s)

-- the run of the script that is printed
not_quit : (c : Command) → IsPrinted c → c ≢ command.Quit
not_quit command.Quit is e = is
not_quit c is e = let q : IsPrinted command.Quit = subst (λ (d : Command). IsPrinted d) e is in q

obeyed_goes : (a b : Machine) (lines : List (List ℕ)) → AllByRecursion IsPlain lines → ObeyedAll a lines b → AllByRecursion IsObeyed lines
obeyed_goes a b [] plain h = tt
obeyed_goes a b (line ∷ lines) plain h =
    ((plain.0, other_goes_on h.1.0 line h.1.1.1 (not_quit h.1.0 h.1.2)), obeyed_goes h.0 b lines plain.1 h.2)

runs_of : (a b : Machine) (lines : List (List ℕ)) → ObeyedAll a lines b → Runs a lines (map silence lines) [] b
runs_of a b [] h = (refl, h)
runs_of a b (line ∷ lines) h =
    (h.0, [], (inr (inr (h.1.1.0, (h.1.0, h.1.1.1, h.1.3, refl))), refl), ([], refl, runs_of h.0 b lines h.2))

pub stands_guarded : (terms m : TermsView) (first now : Machine) (script : List ℕ) → m ≡ terms → first.floor ≡ None → now.floor ≡ None
    → Reaches first script now → IsSafeAfter m first.state now.state → IsGuarded terms first script now
stands_guarded terms m first now script e closed ended s safe =
    let each = obeyed_goes first s.left s.lines s.plain s.obeyed in
    let lines : script_lines script ≡ s.lines =
    ap script_lines (s.cut ∙ sym (append-nil (unlines s.lines))) ∙ (lines_and s.lines [] each ∙ append-nil s.lines) in
    record {
      left = s.left;
      runs = subst (λ (l : List (List ℕ)). Runs first l (map silence l) [] s.left) (sym lines) (runs_of first s.left s.lines s.obeyed);
      same = s.same;
      redo = s.redo;
      made = obeyed_made first s.left s.lines closed (s.same.floor ∙ ended) s.obeyed;
      safe = subst (λ (b : TermsView). IsSafeAfter b first.state now.state) e safe;
    }

-- a comment is obeyed, and does nothing
pub idle_obeyed : (m : Machine) (lines : List (List ℕ)) → IsIdle lines → ObeyedAll m lines m
idle_obeyed m lines h = subst (λ (l : List (List ℕ)). ObeyedAll m l m) (sym h.1) (m, (command.Nothing, h.2, tt, (refl, refl)), refl)

unspoiled_self : (xs : List Shown) → NoneIsSpoiled xs xs
unspoiled_self [] = tt
unspoiled_self (x ∷ xs) = inl (refl, unspoiled_self xs)

pub unspoiled_there : (moved : Bool) (xs : List Shown) → NoneIsSpoiled (located moved xs xs) xs
unspoiled_there moved xs = subst (λ (l : List Shown). NoneIsSpoiled l xs) (sym (located_self moved xs)) (unspoiled_self xs)

pub safe_at_first : (s : State) (known : OriginalView) → known ≡ original_of known.terms s → IsSafeBy known s
safe_at_first s known e = subst (λ (o : OriginalView). IsSafeBy o s) (sym e) (safe_by_self known.terms s)

pub safe_then : (first now : State) (known : OriginalView) → known ≡ original_of known.terms first → now.format ≡ first.format → IsSafeBy known now
    → IsSafeAfter known.terms first now
safe_then first now known e same h = record { format = same; safe = subst (λ (o : OriginalView). IsSafeBy o now) e h }

-- the head alone was printed
pub stands_head : (m now : Machine) (opened : List Shown) (out : List ℕ) → IsUndone m now → out ≡ unlines (head_lines opened) → Reaches m out now
stands_head m now opened out undone e =
    let remarks = head_remarks opened in
    record {
      lines = head_lines opened;
      plain = remarks_plain (head_lines opened) remarks;
      cut = e;
      left = m;
      obeyed = remarks_obeyed m (head_lines opened) remarks;
      same = agrees_agrees m m now (record { state = refl; cursor = refl; past = refl; floor = refl }) undone.same;
      redo = undone.redo;
    }

few_taken : (n : ℕ) (xs : List ℕ) → length (take n xs) ≤ n
few_taken n xs = omega (arith, length-take n xs)

remark_of : (line r : List ℕ) → IsRemarkOf line r → IsPlain r → IsRemark r
remark_of line r (inl h) plain = record { plain = plain; asks = subst (Asks command.Nothing) (sym h.1) h.0 }
remark_of line r (inr h) plain =
    let few = few_taken 900 line in
    record { plain = plain; asks = subst (Asks command.Nothing) (sym h.1) (omega (arith, few), ([], 35 ∷ 32 ∷ take 900 line, refl, refl, inl (refl, refl))) }

remarks_of : (lines rs : List (List ℕ)) → AreRemarksOf lines rs → AllByRecursion IsPlain rs → AllByRecursion IsRemark rs
remarks_of [] [] h plain = tt
remarks_of [] (r ∷ rs) h plain = absurd h
remarks_of (l ∷ lines) [] h plain = absurd h
remarks_of (l ∷ lines) (r ∷ rs) h plain = (remark_of l r h.0 plain.0, remarks_of lines rs h.1 plain.1)

-- the lines of a repair that was kept were printed
pub shows_kept : (lines : List (List ℕ)) (dropped : Option Reason) (old new : List ℕ) → dropped ≡ None → AllByRecursion IsPlain lines
    → new ≡ old ++ unlines lines → Shows lines dropped old new
shows_kept lines dropped old new e plain text = subst (λ (d : Option Reason). Shows lines d old new) (sym e) (lines, refl, plain, text)

pub shows_dropped : (lines : List (List ℕ)) (reason : Reason) (old mid new : List ℕ) → mid ≡ old ++ (reason_line reason ++ 10 ∷ [])
    → ((rs : List (List ℕ)) × AllByRecursion IsRemark rs × AreRemarksOf lines rs × (new ≡ mid ++ unlines rs)) → Shows lines (Some reason) old new
shows_dropped lines reason old mid new e r = (
  reason_line reason ∷ r.0,
  (r.0, r.2, refl),
  ((reason_remark reason).plain, remarks_plain r.0 r.1),
  r.3 ∙ (ap (λ l. l ++ unlines r.0) e ∙ append_assoc old (reason_line reason ++ 10 ∷ []) (unlines r.0)),
)

pub shows_so : (lines : List (List ℕ)) (dropped : Option Reason) (reason : Reason) (old new : List ℕ) → dropped ≡ Some reason
    → Shows lines (Some reason) old new → Shows lines dropped old new
shows_so lines dropped reason old new e h = subst (λ (d : Option Reason). Shows lines d old new) (sym e) h

shown_remarks : (lines : List (List ℕ)) (reason : Reason) (printed : List (List ℕ)) → Prints lines (Some reason) printed → AllByRecursion IsPlain printed
    → AllByRecursion IsRemark printed
shown_remarks lines reason printed h plain =
    let mine : AllByRecursion IsPlain (reason_line reason ∷ h.0) = subst (AllByRecursion IsPlain) h.2 plain in
    subst (AllByRecursion IsRemark) (sym h.2) (reason_remark reason, remarks_of lines h.0 h.1 mine.1)

-- one more repair was tried and printed
pub stands_tried : (first : Machine) (known : OriginalView) (a b : Machine) (lines : List (List ℕ)) (dropped : Option Reason) (old new : List ℕ)
    → Tries known a lines dropped b → Shows lines dropped old new → Reaches first old a → Reaches first new b
stands_tried first known a b lines None old new h shown s =
    stands_more first a b old new lines (subst (AllByRecursion IsPlain) shown.1 shown.2) h.obeyed
    (shown.3 ∙ ap (λ l. old ++ unlines l) shown.1) s
stands_tried first known a b lines (Some reason) old new h shown s =
    stands_remarks first a b old new (shown.0, shown_remarks lines reason shown.0 shown.1 shown.2, shown.3) h.0 s

-- all bytes of a script, if they are known
pub read_whole : (known : Option (List ℕ)) (old new : List ℕ) → old ≡ [] → IfSome known (λ xs. new ≡ old ++ xs) → IfSome known (λ all. new ≡ all)
read_whole None old new e h = tt
read_whole (Some xs) old new e h = h ∙ ap (λ l. l ++ xs) e

-- one more line as a comment
pub remarks_of_more : (lines remarks : List (List ℕ)) (line remark : List ℕ) → AreRemarksOf lines remarks → IsRemarkOf line remark
    → AreRemarksOf (lines ++ line ∷ []) (remarks ++ remark ∷ [])
remarks_of_more [] [] line remark h k = (k, tt)
remarks_of_more [] (r ∷ remarks) line remark h k = absurd h
remarks_of_more (l ∷ lines) [] line remark h k = absurd h
remarks_of_more (l ∷ lines) (r ∷ remarks) line remark h k = (h.0, remarks_of_more lines remarks line remark h.1 k)

pub texts_more : (xs : List Line) (i : ℕ) (x : Line) → i < length xs → x ≡ get_or xs i x → texts (take (i + 1) xs) ≡ texts (take i xs) ++ x.bytes.now ∷ []
texts_more xs i x within is =
    ap texts (take_more xs i x within) ∙ (map-append (λ line. line.bytes.now) (take i xs) (get_or xs i x ∷ [])
    ∙ ap (λ (y : Line). texts (take i xs) ++ y.bytes.now ∷ []) (sym is))

-- the lines so far as comments, and one more
pub remarked_more : (xs : List Line) (i : ℕ) (x : Line) (old mid new : List ℕ) → i < length xs → x ≡ get_or xs i x
    → ((rs : List (List ℕ)) × AllByRecursion IsRemark rs × AreRemarksOf (texts (take i xs)) rs × (mid ≡ old ++ unlines rs))
    → ((r : List ℕ) × IsRemark r × IsRemarkOf x.bytes.now r × (new ≡ mid ++ (r ++ 10 ∷ [])))
    → (rs : List (List ℕ)) × AllByRecursion IsRemark rs × AreRemarksOf (texts (take (i + 1) xs)) rs × (new ≡ old ++ unlines rs)
remarked_more xs i x old mid new within is h k = (
  h.0 ++ k.0 ∷ [],
  all-append IsRemark h.0 (k.0 ∷ []) h.1 (k.1, tt),
  subst (λ (l : List (List ℕ)). AreRemarksOf l (h.0 ++ k.0 ∷ [])) (sym (texts_more xs i x within is))
      (remarks_of_more (texts (take i xs)) h.0 x.bytes.now k.0 h.2 k.2),
  k.3 ∙ (ap (λ l. l ++ (k.0 ++ 10 ∷ [])) h.3 ∙ (append_assoc old (unlines h.0) (k.0 ++ 10 ∷ [])
      ∙ ap (λ l. old ++ l) (ap (λ l. unlines h.0 ++ l) (sym (unlines_one k.0)) ∙ sym (unlines-append h.0 (k.0 ∷ []))))),
)
