-- Repairs that were tried, in their order, and one more.
use Rattle.std.proofs.Common.{◌≡◌, ◌≢◌, ◌+◌, ◌-◌, ◌<◌, ◌≤◌, ◌++◌, ℕ, zero, suc, Bool, true, false, List, [], ◌∷◌, Option, length, drop, take}
use Rattle.std.proofs.Common.{get_or, refl, ap, sym, ◌∙◌, subst, inl, inr, arith, append_assoc, length-drop}
use Rattle.std.specs.Prelude.{◌==◌, if◌then◌else◌, is_none}
use Rattle.std.specs.List.{AllByRecursion}
use Rattle.std.proofs.lemmas.List.{append-nil, drop-drop, drop_all, drop_more, get_or-drop, map-append, take-append-drop, take_all, take_more}
use Rattle.std.proofs.lemmas.{Bool.Decides.nat_tests, Grind.flat_map-append}
use Rattle.irig_lines.specs.Lines.{lines_of}
use Rattle.irig_script.specs.declared.obey.status.Status.TheVariants.{AllAccepted, SomeRefused}
use Rattle.irig_script.specs.{Obey.Machine.Machine, Obey.Run.IsPlain, Obey.Run.unlines, declared.obey.status.Status.Status}
use Rattle.irig_script.proofs.ObeyLemmas.Lines.{first_line, last_line}
use Rattle.irig_guarding.specs.Cutting.{IsClosing, IsCut, IsCutBefore}
use Rattle.irig_guarding.specs.Trials.{IsTried, IsTriedBefore, status_of}
use Rattle.irig_guarding.specs.{Trial.Trial, Trial.Tries, Trial.TriesAll, Trial.proposed, Undone.IsUndone}
use Rattle.irig_guarding.specs.Printed.{PrintsAll, Shows}
use Rattle.irig_guarding.specs.{Reading.fine_frames, Reading.original_of, Reasons.head_lines, Repair.Asks, Repair.texts, declared.line.Line.Line, declared.reason.Reason.Reason}
use Rattle.irig_lines.specs.declared.command.Command.TheVariants as command
use Rattle.irig_safety.specs.Original.{OriginalView}
use Rattle.irig_safety.specs.Terms.{TermsView}
use Rattle.irig_guarding.proofs.GuardLemmas.{all_plain, unlines-append}

proposed-append : (xs ys : List Trial) → proposed (xs ++ ys) ≡ proposed xs ++ proposed ys
proposed-append xs ys = flat_map-append (λ t. t.lines) xs ys

tries_then : (opened : OriginalView) (a b c : Machine) (xs ys : List Trial) → TriesAll opened a xs b → TriesAll opened b ys c → TriesAll opened a (xs ++ ys) c
tries_then opened a b c [] ys h k = subst (λ (m : Machine). TriesAll opened m ys c) h k
tries_then opened a b c (x ∷ xs) ys h k = (h.0, h.1, tries_then opened h.0 b c xs ys h.2 k)

prints_then : (xs ys : List Trial) (p q : List (List ℕ)) → PrintsAll xs p → PrintsAll ys q → PrintsAll (xs ++ ys) (p ++ q)
prints_then [] ys p q h k = subst (λ (l : List (List ℕ)). PrintsAll ys (l ++ q)) (sym h) k
prints_then (x ∷ xs) ys p q h k = (
  h.0,
  h.1 ++ q,
  ap (λ l. l ++ q) h.2 ∙ append_assoc h.0 h.1 q,
  h.3,
  prints_then xs ys h.1 q h.4 k,
)

cut_then : (xs ys : List Trial) (rest : List (List ℕ)) → IsCut xs (proposed ys ++ rest) → IsCut ys rest → IsCut (xs ++ ys) rest
cut_then [] ys rest h k = k
cut_then (x ∷ xs) ys rest h k = (
  subst (IsCutBefore x.lines) (sym (append_assoc (proposed xs) (proposed ys) rest) ∙ ap (λ l. l ++ rest) (sym (proposed-append xs ys))) h.0,
  cut_then xs ys rest h.1 k,
)

both_ways : (p q : Bool) (s t : Status) → (if p then (if q then s else t) else t) ≡ (if q then (if p then s else t) else t)
both_ways true true s t = refl
both_ways true false s t = refl
both_ways false true s t = refl
both_ways false false s t = refl

status_then : (xs : List Trial) (t : Trial) → status_of (xs ++ t ∷ []) ≡ (if is_none t.dropped then status_of xs else SomeRefused)
status_then [] t = refl
status_then (x ∷ xs) t = ap (λ s. if is_none x.dropped then s else SomeRefused) (status_then xs t)
    ∙ both_ways (is_none x.dropped) (is_none t.dropped) (status_of xs) SomeRefused

-- what is known of a session that agrees with the first
pub known_first : (first start : Machine) (known : OriginalView) → IsUndone first start → known ≡ original_of known.terms start.state
    → known ≡ original_of known.terms first.state
known_first first start known begun e = e ∙ ap (original_of known.terms) begun.same.state

-- nothing was tried yet, and the head was printed
pub tried_none : (opened start : Machine) (known : OriginalView) (rest : List (List ℕ)) (script : List ℕ) → IsUndone opened start
    → known ≡ original_of known.terms start.state → script ≡ unlines (head_lines known.frames)
    → IsTriedBefore known.terms opened [] rest script AllAccepted start
tried_none opened start known rest script begun same e = record {
  trials = [];
  whole = refl;
  cut = tt;
  start = start;
  begun = begun;
  tried = refl;
  printed = [];
  shown = refl;
  text = e ∙ (ap (λ (o : OriginalView). unlines (head_lines o.frames)) (known_first opened start known begun same)
      ∙ ap unlines (sym (append-nil (head_lines (fine_frames opened.state)))));
  status = refl;
}

-- one more repair
pub tried_more : (terms : TermsView) (opened : Machine) (lines front rest : List (List ℕ)) (old new : List ℕ) (status : Status) (a b : Machine)
    (dropped : Option Reason) → IsTriedBefore terms opened lines (front ++ rest) old status a → IsCutBefore front rest
    → Tries (original_of terms opened.state) a front dropped b
    → Shows front dropped old new
    → IsTriedBefore terms opened (lines ++ front) rest new (if is_none dropped then status else SomeRefused) b
tried_more terms opened lines front rest old new status a b dropped h cut tries shown =
    let one : Trial = record { lines = front; dropped = dropped } in
    let alone : proposed (one ∷ []) ≡ front = append-nil front in
    let head = head_lines (fine_frames opened.state) in
    record {
      trials = h.trials ++ one ∷ [];
      whole = proposed-append h.trials (one ∷ []) ∙ (λ i. h.whole i ++ alone i);
      cut = cut_then h.trials (one ∷ []) rest (subst (λ (l : List (List ℕ)). IsCut h.trials (l ++ rest)) (sym alone) h.cut) (cut, tt);
      start = h.start;
      begun = h.begun;
      tried = tries_then (original_of terms opened.state) h.start a b h.trials (one ∷ []) h.tried (b, tries, refl);
      printed = h.printed ++ shown.0;
      shown = prints_then h.trials (one ∷ []) h.printed shown.0 h.shown (shown.0, [], sym (append-nil shown.0), shown.1, refl);
      text = shown.3 ∙ (ap (λ l. l ++ unlines shown.0) h.text ∙ (sym (unlines-append (head ++ h.printed) shown.0)
          ∙ ap unlines (append_assoc head h.printed shown.0)));
      status = ap (λ s. if is_none dropped then s else SomeRefused) h.status ∙ sym (status_then h.trials one);
    }

-- the lines from a place on are those to another, and those from there on
pub texts_from : (xs : List Line) (at end : ℕ) → at < end → texts (drop at xs) ≡ texts (take (end - at) (drop at xs)) ++ texts (drop end xs)
texts_from xs at end less =
    let there : drop (end - at) (drop at xs) ≡ drop end xs =
    let e : at + (end - at) ≡ end = omega arith in drop-drop (end - at) at xs ∙ ap (λ n. drop n xs) e in
    ap texts (sym (take-append-drop (end - at) (drop at xs)) ∙ ap (λ l. take (end - at) (drop at xs) ++ l) there)
    ∙ map-append (λ line. line.bytes.now) (take (end - at) (drop at xs)) (drop end xs)

take_on : {X : Type 0} (at n : ℕ) (xs : List X) → take at xs ++ take n (drop at xs) ≡ take (at + n) xs
take_on zero n xs = let e : n ≡ 0 + n = omega arith in ap (λ k. take k xs) e
take_on (suc at) n [] = take_all n [] (omega arith) ∙ sym (take_all (suc at + n) [] (omega arith))
take_on (suc at) n (x ∷ xs) = let e : suc (at + n) ≡ suc at + n = omega arith in ap (λ l. x ∷ l) (take_on at n xs) ∙ ap (λ k. take k (x ∷ xs)) e

pub texts_to : (xs : List Line) (at end : ℕ) → at < end → texts (take at xs) ++ texts (take (end - at) (drop at xs)) ≡ texts (take end xs)
texts_to xs at end less =
    let e : at + (end - at) ≡ end = omega arith in
    sym (map-append (λ line. line.bytes.now) (take at xs) (take (end - at) (drop at xs))) ∙ ap texts (take_on at (end - at) xs ∙ ap (λ n. take n xs) e)

-- the lines of a script
cut_lines : (ls : List (List ℕ)) (last : List ℕ) → AllByRecursion IsPlain ls → lines_of (unlines ls ++ last) ≡ ls ++ lines_of last
cut_lines [] last h = refl
cut_lines (l ∷ ls) last h =
    let cut : unlines (l ∷ ls) ++ last ≡ l ++ 10 ∷ (unlines ls ++ last) =
    append_assoc (l ++ 10 ∷ []) (unlines ls) last ∙ append_assoc l (10 ∷ []) (unlines ls ++ last) in
    ap lines_of cut ∙ first_line l (unlines ls ++ last) h.0 ∙ ap (λ k. l ∷ k) (cut_lines ls last h.1)

pub lines_read : (script bytes : List ℕ) (lines new : List Line) (i : ℕ) → length script ≤ i → take i script ≡ unlines (texts lines) ++ bytes
    → texts new ≡ texts lines ++ lines_of bytes → texts new ≡ lines_of script
lines_read script bytes lines new i past read put =
    put ∙ (sym (cut_lines (texts lines) bytes (all_plain lines)) ∙ ap lines_of (sym read ∙ take_all i script past))

pub eq_none : (n m : ℕ) (r : Bool) → r ≡ (n == 0) → r ≡ true → m ≡ n → m ≡ 0
eq_none n m r e t same = grind (arith, nat_tests)

nothing_left : (bytes : List ℕ) → length bytes ≡ 0 → bytes ≡ []
nothing_left [] e = refl
nothing_left (b ∷ bytes) e = absurd (omega arith)

pub lines_none : (lines : List Line) (bytes : List ℕ) → length bytes ≡ 0 → texts lines ≡ texts lines ++ lines_of bytes
lines_none lines bytes e = sym (ap (λ l. texts lines ++ lines_of l) (nothing_left bytes e) ∙ append-nil (texts lines))

line_alone : (bytes : List ℕ) → IsPlain bytes → length bytes ≢ 0 → lines_of bytes ≡ bytes ∷ []
line_alone [] h some = absurd (some refl)
line_alone (b ∷ bytes) h some = last_line b bytes h

not_none : (n : ℕ) (r : Bool) → r ≡ (n == 0) → r ≡ false → n ≡ 0 → ⊥
not_none n r is f e = let bad : false ≡ true = sym f ∙ (is ∙ ap (λ k. k == 0) e) in cc

pub lines_one : (old new : List Line) (x : Line) (n : ℕ) (r : Bool) → new ≡ old ++ x ∷ [] → r ≡ (n == 0) → r ≡ false → length x.bytes.now ≡ n
    → texts new ≡ texts old ++ lines_of x.bytes.now
lines_one old new x n r e is f same =
    let some : length x.bytes.now ≢ 0 = λ none. not_none n r is f (sym same ∙ none) in
    ap texts e ∙ (map-append (λ line. line.bytes.now) old (x ∷ []) ∙ ap (λ l. texts old ++ l) (sym (line_alone x.bytes.now x.plain some)))

-- a line that begins no group
item_there : (xs : List Line) (at : ℕ) (x : Line) → at < length xs → x ≡ get_or xs at x → drop at xs ≡ x ∷ drop (at + 1) xs
item_there xs at x within is = drop_more xs at x within ∙ ap (λ (y : Line). y ∷ drop (at + 1) xs) (sym is)

pub cut_line : (xs : List Line) (at n : ℕ) (x : Line) (rest : List (List ℕ)) → at < length xs → n ≡ 1 → x ≡ get_or xs at x
    → (Asks command.Begin x.bytes.now → ⊥) → IsCutBefore (texts (take n (drop at xs))) rest
cut_line xs at n x rest within one is other =
    inl (x.bytes.now, ap (λ k. texts (take k (drop at xs))) one ∙ ap (λ l. texts (take 1 l)) (item_there xs at x within is), other)

abbrev pub IsUnclosed : List (List ℕ) → Type 0
IsUnclosed lines = AllByRecursion (λ line. IsClosing line → ⊥) lines

-- the lines of a group so far
pub unclosed_none : (xs : List Line) (k n : ℕ) → n ≡ 0 → IsUnclosed (texts (take n (drop k xs)))
unclosed_none xs k n e = subst (λ (m : ℕ). IsUnclosed (texts (take m (drop k xs)))) (sym e) tt

inner_more : (xs : List Line) (at place : ℕ) (x : Line) → at + 1 ≤ place → place < length xs → x ≡ get_or xs place x
    → texts (take (place - (at + 1) + 1) (drop (at + 1) xs)) ≡ texts (take (place - (at + 1)) (drop (at + 1) xs)) ++ x.bytes.now ∷ []
inner_more xs at place x least most is =
    let ys = drop (at + 1) xs in
    let m = place - (at + 1) in
    let within : m < length ys = omega (arith, length-drop (at + 1) xs, least, most) in
    let place_is : at + 1 + m ≡ place = omega (arith, least) in
    let there : get_or ys m x ≡ x = get_or-drop (at + 1) xs m x ∙ (ap (λ k. get_or xs k x) place_is ∙ sym is) in
    ap texts (take_more ys m x within) ∙ (map-append (λ line. line.bytes.now) (take m ys) (get_or ys m x ∷ [])
    ∙ ap (λ (y : Line). texts (take m ys) ++ y.bytes.now ∷ []) there)

unclosed-append : (xs : List (List ℕ)) (y : List ℕ) → IsUnclosed xs → (IsClosing y → ⊥) → IsUnclosed (xs ++ y ∷ [])
unclosed-append [] y h k = (k, tt)
unclosed-append (x ∷ xs) y h k = (h.0, unclosed-append xs y h.1 k)

pub unclosed_more : (xs : List Line) (at place : ℕ) (x : Line) → at + 1 ≤ place → place < length xs → x ≡ get_or xs place x
    → (IsClosing x.bytes.now → ⊥) → IsUnclosed (texts (take (place - (at + 1)) (drop (at + 1) xs)))
    → IsUnclosed (texts (take (place + 1 - (at + 1)) (drop (at + 1) xs)))
unclosed_more xs at place x least most is other h =
    let next : place - (at + 1) + 1 ≡ place + 1 - (at + 1) = omega (arith, least) in
    subst IsUnclosed (sym (inner_more xs at place x least most is) ∙ ap (λ k. texts (take k (drop (at + 1) xs))) next)
    (unclosed-append (texts (take (place - (at + 1)) (drop (at + 1) xs))) x.bytes.now h other)

-- a group that was closed, or is open at the end
pub cut_closed : (xs : List Line) (at place n : ℕ) (x y : Line) (rest : List (List ℕ)) → at + 1 ≤ place → place < length xs → n ≡ place + 1 - at
    → x ≡ get_or xs at x → y ≡ get_or xs place y → Asks command.Begin x.bytes.now → IsClosing y.bytes.now
    → IsUnclosed (texts (take (place - (at + 1)) (drop (at + 1) xs))) → IsCutBefore (texts (take n (drop at xs))) rest
cut_closed xs at place n x y rest least most e isx isy begins closes h =
    let ys = drop (at + 1) xs in
    let many : n ≡ suc (place - (at + 1) + 1) = omega (arith, e, least) in
    let whole : texts (take n (drop at xs)) ≡ x.bytes.now ∷ texts (take (place - (at + 1) + 1) ys) =
    ap (λ k. texts (take k (drop at xs))) many ∙ ap (λ l. texts (take (suc (place - (at + 1) + 1)) l)) (item_there xs at x (omega (arith, least, most)) isx) in
    inr record {
      first = x.bytes.now;
      inner = texts (take (place - (at + 1)) ys);
      back = y.bytes.now ∷ [];
      whole = whole ∙ ap (λ l. x.bytes.now ∷ l) (inner_more xs at place y least most isy);
      begins = begins;
      unclosed = h;
      closes = inl (y.bytes.now, refl, closes);
    }

pub cut_open : (xs : List Line) (at place : ℕ) (x : Line) → at < length xs → place ≡ length xs → x ≡ get_or xs at x → Asks command.Begin x.bytes.now
    → IsUnclosed (texts (take (place - (at + 1)) (drop (at + 1) xs)))
    → IsCutBefore (texts (take (length xs - at) (drop at xs))) (texts (drop (length xs) xs))
cut_open xs at place x within e is begins h =
    let ys = drop (at + 1) xs in
    let many : length xs - at ≡ suc (place - (at + 1)) = omega (arith, e, within) in
    inr record {
      first = x.bytes.now;
      inner = texts (take (place - (at + 1)) ys);
      back = [];
      whole = ap (λ k. texts (take k (drop at xs))) many ∙ (ap (λ l. texts (take (suc (place - (at + 1))) l)) (item_there xs at x within is)
          ∙ ap (λ l. x.bytes.now ∷ l) (sym (append-nil (texts (take (place - (at + 1)) ys)))));
      begins = begins;
      unclosed = h;
      closes = inr (refl, ap texts (drop_all (length xs) xs (omega arith)));
    }

-- a repair more of the lines from a place on
pub tried_step : (first : Machine) (known : OriginalView) (xs : List Line) (at end : ℕ) (old new : List ℕ) (status next : Status) (a b : Machine)
    (dropped : Option Reason) → known ≡ original_of known.terms first.state → at < end
    → IsTriedBefore known.terms first (texts (take at xs)) (texts (drop at xs)) old status a
    → IsCutBefore (texts (take (end - at) (drop at xs))) (texts (drop end xs)) → Tries known a (texts (take (end - at) (drop at xs))) dropped b
    → Shows (texts (take (end - at) (drop at xs))) dropped old new → next ≡ (if is_none dropped then status else SomeRefused)
    → IsTriedBefore known.terms first (texts (take end xs)) (texts (drop end xs)) new next b
tried_step first known xs at end old new status next a b dropped e less h cut tries shown is =
    let front = texts (take (end - at) (drop at xs)) in
    let rest = texts (drop end xs) in
    let here : IsTriedBefore known.terms first (texts (take at xs)) (front ++ rest) old status a =
    subst (λ (l : List (List ℕ)). IsTriedBefore known.terms first (texts (take at xs)) l old status a) (texts_from xs at end less) h in
    let more = tried_more known.terms first (texts (take at xs)) front rest old new status a b dropped here cut
    (subst (λ (o : OriginalView). Tries o a front dropped b) e tries) shown in
    subst (λ (s : Status). IsTriedBefore known.terms first (texts (take end xs)) rest new s b) (sym is)
    (subst (λ (l : List (List ℕ)). IsTriedBefore known.terms first l rest new (if is_none dropped then status else SomeRefused) b)
    (texts_to xs at end less) more)

-- all of them
pub tried_all : (terms : TermsView) (first : Machine) (xs : List Line) (at : ℕ) (out : List ℕ) (status : Status) (now : Machine) → length xs ≤ at
    → IsTriedBefore terms first (texts (take at xs)) (texts (drop at xs)) out status now → IsTriedBefore terms first (texts xs) [] out status now
tried_all terms first xs at out status now past h =
    subst (λ (l : List (List ℕ)). IsTriedBefore terms first (texts xs) l out status now) (ap texts (drop_all at xs past))
    (subst (λ (l : List (List ℕ)). IsTriedBefore terms first l (texts (drop at xs)) out status now) (ap texts (take_all at xs past)) h)

pub tried_whole : (terms m : TermsView) (first : Machine) (xs ys : List Line) (script out : List ℕ) (status : Status) (now : Machine) → m ≡ terms → ys ≡ xs
    → texts xs ≡ lines_of script → IsTriedBefore m first (texts ys) [] out status now → IsTried terms first script out status now
tried_whole terms m first xs ys script out status now same e is h =
    subst (λ (b : TermsView). IsTried b first script out status now) same
    (subst (λ (l : List (List ℕ)). IsTriedBefore m first l [] out status now) (ap texts e ∙ is) h)
