-- The bytes of the first journal, gathered part by part.
use Rattle.std.proofs.Common.{◌≡◌, ◌≤◌, ◌+◌, ◌-◌, ◌++◌, ◌∷◌, [], ℕ, zero, suc, Bool, true, false, cond, List, Option, Some, None, IfSome, length, take, drop}
use Rattle.std.proofs.Common.{refl, ap, sym, subst, ◌∙◌, arith}
use Rattle.std.proofs.lemmas.List.{drop_all, length-append, length-drop, take_all}
use Rattle.irig_vcd.specs.Code.Gathered.{bytes_at, gathered, part_at, place_by, place_in, so_far}
use Rattle.irig_vcd.specs.Scan.{Open, closed, code_of, comment_of, Scan, start, shut, scan_words}
use Rattle.irig_vcd.specs.{Code.DumpReader.HasReadWords, Code.DumpReader.Stage, Code.Journals.first_place, Code.Journals.place_view, Code.Journals.text_at}
use Rattle.irig_vcd.specs.{Code.Pending.Means, Code.Scanned.Keeps, Journals.Comment, Journals.comment, Journals.first_or, Journals.is_journal, Words.Word}
use Rattle.irig_vcd.specs.{Words.words_from, Words.words_of, declared.fault.VcdFault.VcdFault, declared.journals.Journals.Journals}
use Rattle.irig_vcd.specs.{declared.journals.Place.Place, declared.pending.Pending.Pending, declared.reading.Reading.Reading}
use Rattle.irig_vcd.specs.declared.pending.Pending.TheVariants as pending
use Rattle.irig_vcd.proofs.JournalPlaces.{Ordered, words_ordered}
use Rattle.irig_vcd.proofs.{MoreWords.declared_more, Scans.scan-append, Scans.after, WordSteps.Plain, WordSteps.next_always}

-- the place that is kept is that of the scan
kept_place : (p : Pending) (now : Open) (top : ℕ) → Means p now → so_far None p top ≡ place_by [] now top
kept_place pending.Nothing now top m = rw m refl
kept_place (pending.Code v) now top m = rw m.1 refl
kept_place pending.Comment now top m = rw m refl
kept_place (pending.Rest None) now top m = rw (m.1, m.2) refl
kept_place (pending.Rest (Some at)) now top m = rw (m.1, m.2.0, m.2.1) refl

place_so : (js : List Comment) (p : Pending) (now : Open) (top : ℕ) → Means p now → so_far (first_place js) p top ≡ place_by js now top
place_so [] p now top m = kept_place p now top m
place_so (c ∷ cs) p now top m = refl

pub so_far_is : (s : Scan) (j : Journals) (p : Pending) (top : ℕ) → Keeps s j p → so_far (place_view j.first) p top ≡ place_in s top
so_far_is s j p top k = ap (λ f. so_far f p top) k.holds.first ∙ place_so s.journals p s.opened top k.means

-- the bytes at a place, of two texts one after the other
drop_both : (n : ℕ) (xs ys : List ℕ) → drop n (xs ++ ys) ≡ drop n xs ++ drop (n - length xs) ys
drop_both zero xs ys = let e : 0 - length xs ≡ 0 = omega arith in rw e refl
drop_both (suc n) [] ys = let e : suc n - 0 ≡ suc n = omega arith in rw e refl
drop_both (suc n) (x ∷ xs) ys = let e : suc n - suc (length xs) ≡ n - length xs = omega arith in rw e (drop_both n xs ys)

take_both : (n : ℕ) (xs ys : List ℕ) → take n (xs ++ ys) ≡ take n xs ++ take (n - length xs) ys
take_both zero xs ys = let e : 0 - length xs ≡ 0 = omega arith in rw e refl
take_both (suc n) [] ys = let e : suc n - 0 ≡ suc n = omega arith in rw e refl
take_both (suc n) (x ∷ xs) ys = let e : suc n - suc (length xs) ≡ n - length xs = omega arith in rw e (ap (λ (l : List ℕ). x ∷ l) (take_both n xs ys))

bytes_both : (place : Option (ℕ × ℕ)) (front part : List ℕ) → bytes_at place (front ++ part) ≡ bytes_at place front ++ part_at place (length front) part
bytes_both None front part = refl
bytes_both (Some p) front part =
    let len = length-drop p.0 front in
    let e : (p.1 - p.0) - length (drop p.0 front) ≡ (p.1 - length front) - (p.0 - length front) = omega (arith, len) in
    ap (take (p.1 - p.0)) (drop_both p.0 front part) ∙ (take_both (p.1 - p.0) (drop p.0 front) (drop (p.0 - length front) part)
    ∙ ap (λ n. take (p.1 - p.0) (drop p.0 front) ++ take n (drop (p.0 - length front) part)) e)

all_after : (front : List ℕ) (start end : ℕ) → length front ≤ end → bytes_at (Some (start, end)) front ≡ drop start front
all_after front start end le = let len = length-drop start front in take_all (end - start) (drop start front) (omega (arith, le, len))

-- at the end of a text there is none
none_there : (front : List ℕ) (at top : ℕ) → length front ≤ at → bytes_at (Some (at, top)) front ≡ []
none_there front at top le = rw (drop_all at front le) (take_all (top - at) [] (omega arith))

none_at : (front : List ℕ) (at : ℕ) → bytes_at (Some (at, at)) front ≡ []
none_at front at = let zero : at - at ≡ 0 = omega arith in rw zero refl

-- two places with one start, which end after a text
same_start : (front : List ℕ) (at top end : ℕ) → length front ≤ top → length front ≤ end → bytes_at (Some (at, top)) front ≡ bytes_at (Some (at, end)) front
same_start front at top end le lt = all_after front at top le ∙ sym (all_after front at end lt)

-- another place for the end
pub other_top : (js : List Comment) (now : Open) (front : List ℕ) (top end : ℕ) → length front ≤ top → length front ≤ end
    → bytes_at (place_by js now top) front ≡ bytes_at (place_by js now end) front
other_top (c ∷ cs) now front top end le lt = refl
other_top [] closed front top end le lt = refl
other_top [] (code_of v) front top end le lt = refl
other_top [] (comment_of None) front top end le lt = refl
other_top [] (comment_of (Some w)) front top end le lt = by (is_journal (comment w top)) where
  by : (b : Bool) → bytes_at (cond b (Some (w.offset, top)) None) front ≡ bytes_at (cond b (Some (w.offset, end)) None) front
  by true = same_start front w.offset top end le lt
  by false = refl

plain_place : (js : List Comment) (now : Open) (top : ℕ) → Plain now → place_by js now top ≡ first_place js
plain_place (c ∷ cs) now top h = refl
plain_place [] closed top h = refl
plain_place [] (code_of v) top h = refl
plain_place [] (comment_of None) top h = refl
plain_place [] (comment_of (Some w)) top h = absurd h

both_plain : (js : List Comment) (a b : Open) (top : ℕ) (front : List ℕ) → Plain a → Plain b
    → bytes_at (place_by js b top) front ≡ bytes_at (place_by js a top) front
both_plain js a b top front h k = ap (λ p. bytes_at p front) (plain_place js b top k ∙ sym (plain_place js a top h))

-- a comment that ends
ends_so : (js : List Comment) (b : Bool) (front : List ℕ) (c : Comment) (top : ℕ) → length front ≤ top → length front ≤ c.end → is_journal c ≡ b
    → bytes_at (place_by (js ++ cond b (c ∷ []) []) closed top) front ≡ bytes_at (place_by js (comment_of (Some c.first)) top) front
ends_so (d ∷ ds) b front c top le lt is = refl
ends_so [] true front c top le lt is = rw is (same_start front c.first.offset c.end top lt le)
ends_so [] false front c top le lt is = rw is refl

-- a comment that ends at its first word
shut_so : (js : List Comment) (b : Bool) (front : List ℕ) (w : Word) (top : ℕ)
    → bytes_at (place_by (js ++ cond b (comment w w.offset ∷ []) []) closed top) front ≡ bytes_at (place_by js (comment_of None) top) front
shut_so (d ∷ ds) b front w top = refl
shut_so [] true front w top = none_at front w.offset
shut_so [] false front w top = refl

-- a comment with its first word
first_so : (js : List Comment) (front : List ℕ) (w : Word) (top : ℕ) → length front ≤ w.offset
    → bytes_at (place_by js (comment_of (Some w)) top) front ≡ bytes_at (place_by js (comment_of None) top) front
first_so (d ∷ ds) front w top le = refl
first_so [] front w top le = by (is_journal (comment w top)) where
  by : (b : Bool) → bytes_at (cond b (Some (w.offset, top)) None) front ≡ []
  by true = none_there front w.offset top le
  by false = refl

abbrev Same : List ℕ → ℕ → Scan → Scan → Type 0
Same front top s t = bytes_at (place_in t top) front ≡ bytes_at (place_in s top) front

opened_so : (s : Scan) (now : Open) (front : List ℕ) (top : ℕ) → s.opened ≡ now
    → bytes_at (place_by s.journals now top) front ≡ bytes_at (place_in s top) front
opened_so s now front top is = ap (λ o. bytes_at (place_by s.journals o top) front) (sym is)

-- what a comment with one word more, or its end, makes of it
goes_same : (first : Option Word) (top : ℕ) (front : List ℕ) (js : List Comment) (w : Word) → length front ≤ w.offset
    → bytes_at (place_by js (comment_of (Some (first_or first w))) top) front ≡ bytes_at (place_by js (comment_of first) top) front
goes_same None top front js w lt = first_so js front w top lt
goes_same (Some f) top front js w lt = refl

ends_same : (first : Option Word) (top : ℕ) (front : List ℕ) (s : Scan) (w : Word) → length front ≤ top → length front ≤ w.offset
    → bytes_at (place_in (shut s (comment (first_or first w) w.offset)) top) front ≡ bytes_at (place_by s.journals (comment_of first) top) front
ends_same None top front s w le lt = shut_so s.journals (is_journal (comment w w.offset)) front w top
ends_same (Some f) top front s w le lt = ends_so s.journals (is_journal (comment f w.offset)) front (comment f w.offset) top le lt refl

-- words after a front do not change what it has of the first journal
scan_same : (code : List ℕ) (unit low top : ℕ) (front : List ℕ) (ws : List Word) (s : Scan) → length front ≤ low → length front ≤ top
    → Ordered low top ws → Same front top s (scan_words code unit s ws).0
scan_same code unit low top front [] s le lt o = refl
scan_same code unit low top front (w ∷ ws) s le lt o =
    let here : length front ≤ w.offset = omega (arith, le, o.0) in
    next_always code unit s w (Same front top s) (λ end. Same front top s end.0) (λ t. scan_words code unit t ws) (record {
      same = refl;
      timed = λ plain t read. refl;
      levels = λ plain level. both_plain s.journals s.opened closed top front plain tt;
      opens = λ plain now also. both_plain s.journals s.opened now top front plain also;
      ends = λ first is. ends_same first top front s w lt here ∙ opened_so s (comment_of first) front top is;
      goes = λ first is. goes_same first top front s.journals w here ∙ opened_so s (comment_of first) front top is;
    }) (λ t one. scan_same code unit w.offset top front ws t here lt o.2 ∙ one) (λ e. refl)

no_bytes : (place : Option (ℕ × ℕ)) → bytes_at place [] ≡ []
no_bytes None = refl
no_bytes (Some p) = rw (drop_all {X = ℕ} p.0 [] (omega arith)) (take_all (p.1 - p.0) [] (omega arith))

-- what is read of words after others, if all of them are read
pub scan_between : (wire : Option (List ℕ)) (words part : List Word) (u v : ℕ) (code kept : List ℕ) (old new : Reading)
    → (h : HasReadWords wire words u kept old) → (g : HasReadWords wire (words ++ part) v code new) → scan_words kept u h.0 part ≡ (g.0, None)
scan_between wire words part u v code kept old new h g =
    let both : ◌≡◌ {A = (ℕ × List ℕ) × List Word} ((u, kept), h.1.0 ++ part) ((v, code), g.1.0) =
    cc (sym (declared_more wire words h.1.0 part (u, kept) h.1.1) ∙ g.1.1) in
    ap (λ x. after x (λ t. scan_words kept u t part)) (sym h.1.2) ∙ (sym (scan-append kept u start h.1.0 part)
    ∙ (ap (λ x. scan_words x.0.1 x.0.0 start x.1) both ∙ g.1.2))

-- what the front has of the first journal, before and after a part is read
front_bytes : (wire : Option (List ℕ)) (front part : List ℕ) (u : Option ℕ) (kept code : List ℕ) (unit : ℕ) (old new : Reading)
    → Stage wire (words_of front) u kept old → (u ≡ None → length front ≡ 0)
    → HasReadWords wire (words_of front ++ words_from (length front) false part) unit code new
    → bytes_at (so_far (place_view new.journals.first) new.pending (length (front ++ part))) front ≡ gathered old front
front_bytes wire [] part u kept code unit old new stage empty g =
    no_bytes (so_far (place_view new.journals.first) new.pending (length ([] ++ part)))
    ∙ sym (no_bytes (so_far (place_view old.journals.first) old.pending 0))
front_bytes wire (x ∷ xs) part None kept code unit old new stage empty g =
    let no : length (x ∷ xs) ≡ 0 = empty refl in absurd (cc no)
front_bytes wire (x ∷ xs) part (Some k) kept code unit old new h empty g =
    let front = x ∷ xs in
    let low = length front in
    let top = length (front ++ part) in
    let sum : low + length part ≡ top = sym (length-append front part) in
    let words = words_from low false part in
    let o = words_ordered part low low top false (omega arith) sum in
    let same : Same front top h.0 g.0 = subst (λ (x : Scan × Option VcdFault). Same front top h.0 x.0)
    (scan_between wire (words_of front) words k unit code kept old new h g) (scan_same kept k low top front words h.0 (omega arith) (omega (arith, sum)) o) in
    ap (λ p. bytes_at p front) (so_far_is g.0 new.journals new.pending top g.2.keeps)
    ∙ (same ∙ (other_top h.0.journals h.0.opened front top low (omega (arith, sum)) (omega arith)
    ∙ ap (λ p. bytes_at p front) (sym (so_far_is h.0 old.journals old.pending low h.2.keeps))))

-- the bytes of a part are gathered
pub more_gathered : (wire : Option (List ℕ)) (front part : List ℕ) (u : Option ℕ) (kept code : List ℕ) (unit gone top : ℕ) (old new : Reading)
    → length front ≡ gone → length part + gone ≡ top → Stage wire (words_of front) u kept old → (u ≡ None → gone ≡ 0)
    → HasReadWords wire (words_of front ++ words_from gone false part) unit code new
    → gathered old front ++ part_at (so_far (place_view new.journals.first) new.pending top) gone part ≡ gathered new (front ++ part)
more_gathered wire front part u kept code unit gone top old new place sum stage empty h =
    let len = length-append front part in
    let all : top ≡ length (front ++ part) = omega (arith, place, sum, len) in
    let p = so_far (place_view new.journals.first) new.pending (length (front ++ part)) in
    let words = subst (λ n. HasReadWords wire (words_of front ++ words_from n false part) unit code new) (sym place) h in
    rw (← place, all) (ap (λ (l : List ℕ). l ++ part_at p (length front) part)
    (sym (front_bytes wire front part u kept code unit old new stage (λ no. place ∙ empty no) words)) ∙ sym (bytes_both p front part))

-- the first journal, if it is whole
pub whole_gathered : (first : Option Place) (now : Pending) (top : ℕ) (bytes journal : List ℕ)
    → journal ≡ bytes_at (so_far (place_view first) now top) bytes → IfSome first (λ p. text_at bytes (Some p) ≡ Some journal)
whole_gathered None now top bytes journal is = tt
whole_gathered (Some p) now top bytes journal is = ap Some (sym is)
