-- Which repairs are kept, and which are barred, and why.
use Rattle.std.proofs.Common.{◌≡◌, ◌≢◌, ◌<◌, ◌≤◌, ◌-◌, ◌++◌, ◌==◌, ℕ, zero, suc, Bool, true, List, [], ◌∷◌, Option, Some, None, get_or, length, set, refl, ap, sym, ◌∙◌, subst, arith, inl, inr}
use Rattle.std.proofs.Common.{append_assoc, drop, slice_get, take}
use Rattle.std.specs.Prelude.{◌⊎◌, IfSome}
use Rattle.std.proofs.lemmas.{Grind.get_or-set_at, List.append-nil, List.drop-map, List.get_or_push, List.get_or-set_other}
use Rattle.irig_codes.specs.Format.{FormatView}
use Rattle.irig_recording.specs.declared.pulse.Pulse.{Pulse}
use Rattle.irig_edit.specs.State.State.{State}
use Rattle.irig_lines.specs.declared.command.Command.TheVariants as command
use Rattle.irig_script.specs.{Obey.Machine.Machine}
use Rattle.irig_agreement.specs.{Agreement.Agree, Changes.IsFault, Recorded.RecordedView, declared.fault.Fault.Fault}
use Rattle.irig_safety.specs.Original.{OriginalView}
use Rattle.irig_guarding.specs.Agreeing.{HasLedTo, IsRecordedOf, century}
use Rattle.irig_guarding.specs.Bars.{AreBars, AreKept, HaveLedTo, IsRepairAt, Leads, LeadsWith}
use Rattle.irig_guarding.specs.Cutting.{IsClosing, IsCutBefore, IsGroupBefore}
use Rattle.irig_guarding.specs.{Guarded.Reaches, Repair.Asks, Repair.ObeyedAll, Repair.texts, Trial.Tries, Undone.IsUndone}
use Rattle.irig_guarding.specs.{declared.kept.KeptAt.KeptAt, declared.line.Line.Line, declared.reason.Reason.Reason}
use Rattle.irig_guarding.proofs.{AgainLemmas.obeyed_again, KnownLemmas.none_some, KnownLemmas.same_place, ReasonLemmas.none_there, RepairLemmas.obeyed_then}
use Rattle.irig_guarding.proofs.{GuardLemmas.agrees_agrees, TrialLemmas.IsUnclosed, TrialLemmas.texts_from, UndoneLemmas.redoes_then}

-- a script is cut in one way
group_once : (one other : List (List ℕ)) (x y : List ℕ) (a b p q : List (List ℕ)) → a ++ (p ++ one) ≡ b ++ (q ++ other) → IsUnclosed a → IsUnclosed b
    → (((last : List ℕ) × (p ≡ last ∷ []) × IsClosing last) ⊎ ((p ≡ []) × (one ≡ [])))
    → (((last : List ℕ) × (q ≡ last ∷ []) × IsClosing last) ⊎ ((q ≡ []) × (other ≡ [])))
    → a ++ p ≡ b ++ q
group_once one other x y [] [] p q e ua ub (inl h) (inl k) =
    let whole : h.0 ∷ one ≡ k.0 ∷ other = ap (λ l. l ++ one) (sym h.1) ∙ e ∙ ap (λ l. l ++ other) k.1 in
    let same : h.0 ≡ k.0 = cc in
    h.1 ∙ ap (λ l. l ∷ []) same ∙ sym k.1
group_once one other x y [] [] p q e ua ub (inl h) (inr k) =
    let whole : h.0 ∷ one ≡ [] = ap (λ l. l ++ one) (sym h.1) ∙ e ∙ ap (λ l. l ++ other) k.0 ∙ k.1 in
    absurd (cc)
group_once one other x y [] [] p q e ua ub (inr h) (inl k) =
    let whole : k.0 ∷ other ≡ [] = ap (λ l. l ++ other) (sym k.1) ∙ sym e ∙ ap (λ l. l ++ one) h.0 ∙ h.1 in
    absurd (cc)
group_once one other x y [] [] p q e ua ub (inr h) (inr k) = h.0 ∙ sym k.0
group_once one other x y [] (c ∷ b) p q e ua ub (inl h) k =
    let whole : h.0 ∷ one ≡ c ∷ (b ++ (q ++ other)) = ap (λ l. l ++ one) (sym h.1) ∙ e in
    let same : h.0 ≡ c = cc in
    absurd (ub.0 (subst IsClosing same h.2))
group_once one other x y [] (c ∷ b) p q e ua ub (inr h) k =
    let whole : [] ≡ c ∷ (b ++ (q ++ other)) = sym (ap (λ l. l ++ one) h.0 ∙ h.1) ∙ e in
    absurd (cc)
group_once one other x y (c ∷ a) [] p q e ua ub h (inl k) =
    let whole : k.0 ∷ other ≡ c ∷ (a ++ (p ++ one)) = ap (λ l. l ++ other) (sym k.1) ∙ sym e in
    let same : k.0 ≡ c = cc in
    absurd (ua.0 (subst IsClosing same k.2))
group_once one other x y (c ∷ a) [] p q e ua ub h (inr k) =
    let whole : [] ≡ c ∷ (a ++ (p ++ one)) = sym (ap (λ l. l ++ other) k.0 ∙ k.1) ∙ sym e in
    absurd (cc)
group_once one other x y (c ∷ a) (d ∷ b) p q e ua ub h k =
    let same : c ≡ d = cc in
    let rest : a ++ (p ++ one) ≡ b ++ (q ++ other) = ap (drop 1) e in
    (λ i. same i ∷ group_once one other x y a b p q rest ua.1 ub.1 h k i)

group_there : (lines rest : List (List ℕ)) (h : IsGroupBefore lines rest) → lines ++ rest ≡ h.first ∷ (h.inner ++ (h.back ++ rest))
group_there lines rest h = ap (λ l. l ++ rest) h.whole ∙ ap (λ l. h.first ∷ l) (append_assoc h.inner h.back rest)

pub cut_once : (a b one other : List (List ℕ)) → a ++ one ≡ b ++ other → IsCutBefore a one → IsCutBefore b other → a ≡ b
cut_once a b one other e (inl h) (inl k) =
    let whole : h.0 ∷ one ≡ k.0 ∷ other = ap (λ l. l ++ one) (sym h.1) ∙ e ∙ ap (λ l. l ++ other) k.1 in
    let same : h.0 ≡ k.0 = cc in
    h.1 ∙ ap (λ l. l ∷ []) same ∙ sym k.1
cut_once a b one other e (inl h) (inr k) =
    let whole : h.0 ∷ one ≡ k.first ∷ (k.inner ++ (k.back ++ other)) = ap (λ l. l ++ one) (sym h.1) ∙ e ∙ group_there b other k in
    let same : k.first ≡ h.0 = cc in
    absurd (h.2 (subst (Asks command.Begin) same k.begins))
cut_once a b one other e (inr h) (inl k) =
    let whole : k.0 ∷ other ≡ h.first ∷ (h.inner ++ (h.back ++ one)) = ap (λ l. l ++ other) (sym k.1) ∙ sym e ∙ group_there a one h in
    let same : h.first ≡ k.0 = cc in
    absurd (k.2 (subst (Asks command.Begin) same h.begins))
cut_once a b one other e (inr h) (inr k) =
    let whole : h.first ∷ (h.inner ++ (h.back ++ one)) ≡ k.first ∷ (k.inner ++ (k.back ++ other)) =
    sym (group_there a one h) ∙ e ∙ group_there b other k in
    let same : h.first ≡ k.first = cc in
    let rest : h.inner ++ (h.back ++ one) ≡ k.inner ++ (k.back ++ other) = ap (drop 1) whole in
    let both = group_once one other h.first k.first h.inner k.inner h.back k.back rest h.unclosed k.unclosed h.closes k.closes in
    h.whole ∙ (λ i. same i ∷ both i) ∙ sym k.whole

-- the repair that begins at a line
pub repair_here : (xs : List Line) (at end : ℕ) → at < end → IsCutBefore (texts (take (end - at) (drop at xs))) (texts (drop end xs))
    → IsRepairAt (texts xs) at (texts (take (end - at) (drop at xs)))
repair_here xs at end less cut =
    record { rest = texts (drop end xs); whole = drop-map (λ line. line.bytes.now) at xs ∙ texts_from xs at end less; cut = cut }

pub repair_once : (lines one other : List (List ℕ)) (at : ℕ) → IsRepairAt lines at one → IsRepairAt lines at other → one ≡ other
repair_once lines one other at h k = cut_once one other h.rest k.rest (sym h.whole ∙ k.whole) h.cut k.cut

-- no repair is barred
pub bars_none : (recorded : List Pulse) (f : FormatView) (lines : List (List ℕ)) → AreBars recorded f lines []
bars_none recorded f lines = λ at why e. absurd (none_some _ why refl e)

-- the same bars in a longer list
pub bars_same : (recorded : List Pulse) (f : FormatView) (lines : List (List ℕ)) (old new : List (Option Fault))
    → ((at : ℕ) → get_or new at None ≡ get_or old at None) → AreBars recorded f lines old → AreBars recorded f lines new
bars_same recorded f lines old new same are = λ at why e. are at why (sym (same at) ∙ e)

-- one more
bars_with : (recorded : List Pulse) (f : FormatView) (lines repair : List (List ℕ)) (old new : List (Option Fault)) (line : ℕ) (fault : Fault)
    → ((at : ℕ) → at ≡ line → get_or new at None ≡ Some fault) → ((at : ℕ) → at ≢ line → get_or new at None ≡ get_or old at None)
    → IsRepairAt lines line repair → HasLedTo recorded f repair fault → AreBars recorded f lines old → AreBars recorded f lines new
bars_with recorded f lines repair old new line fault here others is led are = λ at why e. go at why e (same_place at line)
  where
    go : (at : ℕ) (why : Fault) → get_or new at None ≡ Some why → (at ≡ line) ⊎ (at ≢ line)
        → (r : List (List ℕ)) × IsRepairAt lines at r × HasLedTo recorded f r why
    go at why e (inl same) =
        let there : Some fault ≡ Some why = sym (here at same) ∙ e in
        let one : fault ≡ why = cc in
        (repair, subst (λ (k : ℕ). IsRepairAt lines k repair) (sym same) is, subst (λ x. HasLedTo recorded f repair x) one led)
    go at why e (inr other) = are at why (sym (others at other) ∙ e)

-- one that is not barred at the end of a list changes nothing
pub none_more : (bars : List (Option Fault)) (at : ℕ) → get_or (bars ++ None ∷ []) at None ≡ get_or bars at None
none_more [] zero = refl
none_more [] (suc at) = refl
none_more (b ∷ bars) zero = refl
none_more (b ∷ bars) (suc at) = none_more bars at

last_there : (bars : List (Option Fault)) (at : ℕ) (x : Option Fault) → at ≡ length bars → get_or (bars ++ x ∷ []) at None ≡ x
last_there bars at x e = get_or_push bars x None at (sym e)

others_there : (bars : List (Option Fault)) (at : ℕ) (x : Option Fault) → at ≢ length bars → get_or (bars ++ x ∷ []) at None ≡ get_or bars at None
others_there [] zero x other = absurd (other refl)
others_there [] (suc at) x other = refl
others_there (b ∷ bars) zero x other = refl
others_there (b ∷ bars) (suc at) x other = others_there bars at x (λ e. other (ap suc e))

pub bars_more : (recorded : List Pulse) (f : FormatView) (lines repair : List (List ℕ)) (bars : List (Option Fault)) (line : ℕ) (fault : Fault)
    → line < length bars → IsRepairAt lines line repair → HasLedTo recorded f repair fault → AreBars recorded f lines bars
    → AreBars recorded f lines (set bars line (Some fault))
bars_more recorded f lines repair bars line fault within =
    bars_with recorded f lines repair bars (set bars line (Some fault)) line fault (λ at same. get_or-set_at bars line at (Some fault) None same within)
    (λ at other. get_or-set_other bars line at (Some fault) None other)

pub bars_then : (recorded : List Pulse) (f : FormatView) (lines repair : List (List ℕ)) (bars : List (Option Fault)) (line : ℕ) (fault : Fault)
    → length bars ≡ line → IsRepairAt lines line repair → HasLedTo recorded f repair fault → AreBars recorded f lines bars
    → AreBars recorded f lines (bars ++ Some fault ∷ [])
bars_then recorded f lines repair bars line fault long =
    bars_with recorded f lines repair bars (bars ++ Some fault ∷ []) line fault (λ at same. last_there bars at (Some fault) (same ∙ sym long))
    (λ at other. others_there bars at (Some fault) (λ e. other (e ∙ long)))

-- the bar of a repair
pub bar_so : (recorded : List Pulse) (f g : FormatView) (lines repair : List (List ℕ)) (bars : List (Option Fault)) (at : ℕ) (r : Option Fault)
    → r ≡ get_or bars at None → AreBars recorded f lines bars → IsRepairAt lines at repair → g ≡ f → IfSome r (λ why. HasLedTo recorded g repair why)
bar_so recorded f g lines repair bars at None e are is same = tt
bar_so recorded f g lines repair bars at (Some why) e are is same =
    let one = are at why (sym e) in
    subst (λ (h : FormatView). HasLedTo recorded h repair why) (sym same)
    (subst (λ (l : List (List ℕ)). HasLedTo recorded f l why) (repair_once lines one.0 repair at one.1 is) one.2)

-- the same in a session that agrees
pub bars_here : (recorded : List Pulse) (f g : FormatView) (lines : List (List ℕ)) (bars here : List (Option Fault)) → g ≡ f → here ≡ bars
    → AreBars recorded f lines bars → AreBars recorded g lines here
bars_here recorded f g lines bars here same e are =
    subst (λ (h : FormatView). AreBars recorded h lines here) (sym same) (subst (λ (l : List (Option Fault)). AreBars recorded f lines l) (sym e) are)

pub empty_of : {X : Type 0} (xs : List X) (n : ℕ) (r : Bool) → length xs ≡ n → r ≡ (n == 0) → r ≡ true → xs ≡ []
empty_of [] n r long is t = refl
empty_of (x ∷ xs) n r long is t = let none = none_there n r is t in absurd (omega (arith, none, long))

-- what agrees with what is kept of a recording
pub agree_so : (s : State) (recorded : RecordedView) (new : List Pulse) → IsRecordedOf s recorded
    → Agree recorded.format recorded.century recorded.pulses new → Agree s.format century s.pulses new
agree_so s recorded new is h =
    subst (λ (ps : List Pulse). Agree s.format century ps new) is.pulses
    (subst (λ (n : ℕ). Agree s.format n recorded.pulses new) is.century
    (subst (λ (f : FormatView). Agree f recorded.century recorded.pulses new) is.format h))

-- lines that lead to a session, and more
leads_more : (first a b : Machine) (lines more : List (List ℕ)) → ObeyedAll a more b → Leads first lines a → Leads first (lines ++ more) b
leads_more first a b lines more h l =
    let on = obeyed_again l.left a b more l.same l.redo h in
    record { left = on.0; obeyed = obeyed_then first l.left on.0 lines more l.obeyed on.1; same = on.2; redo = on.3 }

leads_undone : (first a b : Machine) (lines : List (List ℕ)) → IsUndone a b → Leads first lines a → Leads first lines b
leads_undone first a b lines undone l =
    record { left = l.left; obeyed = l.obeyed; same = agrees_agrees l.left a b l.same undone.same; redo = redoes_then l.left a b l.redo undone.redo }

-- one more repair is tried
with_more : (opened : OriginalView) (first a b : Machine) (repair lines : List (List ℕ)) (dropped : Option Reason) → Tries opened a lines dropped b
    → LeadsWith first repair a → LeadsWith first repair b
with_more opened first a b repair lines None h l =
    let e : (l.0 ++ (repair ++ l.1)) ++ lines ≡ l.0 ++ (repair ++ (l.1 ++ lines)) =
    append_assoc l.0 (repair ++ l.1) lines ∙ ap (λ k. l.0 ++ k) (append_assoc repair l.1 lines) in
    (l.0, l.1 ++ lines, subst (λ k. Leads first k b) e (leads_more first a b (l.0 ++ (repair ++ l.1)) lines h.obeyed l.2))
with_more opened first a b repair lines (Some why) h l = (l.0, l.1, leads_undone first a b (l.0 ++ (repair ++ l.1)) h.0 l.2)

with_this : (opened : OriginalView) (first a b : Machine) (script : List ℕ) (lines : List (List ℕ)) → Tries opened a lines None b
    → Reaches first script a → LeadsWith first lines b
with_this opened first a b script lines h r =
    let e : r.lines ++ lines ≡ r.lines ++ (lines ++ []) = ap (λ k. r.lines ++ k) (sym (append-nil lines)) in (
      r.lines,
      [],
      subst (λ k. Leads first k b) e (leads_more first a b r.lines lines h.obeyed
          (record { left = r.left; obeyed = r.obeyed; same = r.same; redo = r.redo })),
    )

pub kept_none : (first now : Machine) (lines : List (List ℕ)) (kept : List KeptAt) → kept ≡ [] → AreKept first lines kept now
kept_none first now lines kept none = λ i k e. absurd (none_some _ k refl (sym (ap (λ (l : List KeptAt). slice_get l i) none) ∙ e))

pub kept_step : (opened : OriginalView) (first a b : Machine) (script : List ℕ) (lines repair : List (List ℕ)) (dropped : Option Reason)
    (old new : List KeptAt) (at : ℕ) → Tries opened a repair dropped b → Reaches first script a → IsRepairAt lines at repair
    → ((i : ℕ) (k : KeptAt) → slice_get new i ≡ Some k → (slice_get old i ≡ Some k) ⊎ ((dropped ≡ None) × (k.line ≡ at)))
    → AreKept first lines old a → AreKept first lines new b
kept_step opened first a b script lines repair dropped old new at tries reached is each are = λ i k e. go i k (each i k e)
  where
    go : (i : ℕ) (k : KeptAt) → (slice_get old i ≡ Some k) ⊎ ((dropped ≡ None) × (k.line ≡ at))
        → (r : List (List ℕ)) × IsRepairAt lines k.line r × LeadsWith first r b
    go i k (inl there) = let one = are i k there in (one.0, one.1, with_more opened first a b one.0 repair dropped tries one.2)
    go i k (inr this) = (
      repair,
      subst (λ (n : ℕ). IsRepairAt lines n repair) (sym this.1) is,
      with_this opened first a b script repair (subst (λ (d : Option Reason). Tries opened a repair d b) this.0 tries) reached,
    )

-- what was kept in a round led to its faults
led_to : (first now : Machine) (repair : List (List ℕ)) (recorded : RecordedView) (known : List Pulse) (why : Fault) → known ≡ first.state.pulses
    → IsRecordedOf first.state recorded → LeadsWith first repair now
    → IsFault recorded.format recorded.century recorded.pulses now.state.pulses why → HasLedTo known first.state.format repair why
led_to first now repair recorded known why same is led fault =
    let here = subst (λ (ps : List Pulse). IsFault first.state.format century ps now.state.pulses why) is.pulses
    (subst (λ (n : ℕ). IsFault first.state.format n recorded.pulses now.state.pulses why) is.century
    (subst (λ (f : FormatView). IsFault f recorded.century recorded.pulses now.state.pulses why) is.format fault)) in
    let there = subst (λ (ps : List Pulse). IsFault first.state.format century ps now.state.pulses why) (sym same) here in
    record {
      first = first;
      recording = sym same;
      front = led.0;
      rest = led.1;
      last = led.2.left;
      obeyed = led.2.obeyed;
      fault = subst (λ (s : State). IsFault first.state.format century known s.pulses why) (sym led.2.same.state) there;
    }

pub have_led_to : (first now : Machine) (lines : List (List ℕ)) (recorded : RecordedView) (known : List Pulse) (kept here : List KeptAt) (why : Fault)
    → here ≡ kept → known ≡ first.state.pulses → IsRecordedOf first.state recorded → AreKept first lines kept now
    → IsFault recorded.format recorded.century recorded.pulses now.state.pulses why → HaveLedTo known first.state.format lines here why
have_led_to first now lines recorded known kept here why e same is are fault = λ i k there.
    let one = are i k (ap (λ (l : List KeptAt). slice_get l i) (sym e) ∙ there) in
    (one.0, one.1, led_to first now one.0 recorded known why same is one.2 fault)
