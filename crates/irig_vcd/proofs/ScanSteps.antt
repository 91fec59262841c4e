-- Reading goes on by a token.
use Rattle.std.proofs.Common.{◌≡◌, ◌≤◌, ◌<◌, ◌⊎◌, ◌++◌, ◌∷◌, [], ℕ, Bool, true, false, cond, List, Option, Some, None, Result, Ok, Err, IfOk, OnErr, length}
use Rattle.std.proofs.Common.{inl, inr, refl, ap, sym, subst, ◌∙◌, arith, codes}
use Rattle.std.specs.Str.{bytes_eq}
use Rattle.std.proofs.lemmas.{List.append-nil, Slice.Eq.bytes_eq-Decides}
use Rattle.irig_vcd.specs.Code.Scanned.{IsAt, IsTraced, Keeps, Leads, Passes, Puts, Reaches, Scans, Stops, Takes}
use Rattle.irig_vcd.specs.Code.Short.{TakesApart, TakesBit, TakesValue, takes_code}
use Rattle.irig_vcd.specs.Scan.{Open, closed, code_of, comment_of, Scan, given, left_open, shut, scan_ended, scan_on, scan_words, word_by_kind, word_in}
use Rattle.irig_vcd.specs.Words.{Word, WordKind, dollar, hash, scalar, vector, real, text, other, rest_of}
use Rattle.irig_vcd.specs.{Answer.◌>>=◌, Answer.Gives, Answer.IsFaultOf, Code.Event.is_hash, Code.Journals.Holds, Code.Pending.Means, Code.Reached.IsOn}
use Rattle.irig_vcd.specs.{Code.Section.end_read, Code.Time.IsTime, Code.Time.units_of, Code.Trace.EdgeBefore, Code.Trace.Follows, Sections.is_comment}
use Rattle.irig_vcd.specs.{Sections.is_end, Sections.is_mark, Values.level_by, Values.scalar_level, Journals.Comment, Journals.comment, Journals.is_journal}
use Rattle.irig_vcd.specs.{Level.Change, Level.change, Times.micros_of, Times.time_of, declared.fault.VcdFault.VcdFault, declared.journals.Journals.Journals}
use Rattle.irig_vcd.specs.{declared.pending.Pending.Pending, declared.time.Clock.Clock, declared.trace.Trace.Trace}
use Rattle.irig_vcd.specs.declared.fault.VcdFault.TheVariants as fault
use Rattle.irig_vcd.specs.declared.pending.Pending.TheVariants as pending
use Rattle.irig_vcd.proofs.TimeLemmas.{micros_later, time_later}
use Rattle.irig_vcd.proofs.{Clocks.later, CodeRuns.bit_level, EarlyEdges.edge_stays, Sound.never_memory, WordSteps.next_always}

-- one word
pub one_word : (code : List ℕ) (unit : ℕ) (s t : Scan) (w : Word) (ws : List Word) → word_in s.opened code unit s w ≡ Ok t
    → scan_words code unit s (w ∷ ws) ≡ scan_words code unit t ws
one_word code unit s t w ws h = ap (λ r. scan_on s r (λ t. scan_words code unit t ws)) h

pub one_fault : (code : List ℕ) (unit : ℕ) (s : Scan) (w : Word) (ws : List Word) (e : VcdFault) → word_in s.opened code unit s w ≡ Err e
    → (scan_words code unit s (w ∷ ws)).1 ≡ Some e
one_fault code unit s w ws e h = ap (λ r. (scan_on s r (λ t. scan_words code unit t ws)).1) h

-- what a word is, by what is open
pub own : (code : List ℕ) (unit : ℕ) (s : Scan) (w : Word) (kind : WordKind) → s.opened ≡ closed → w.kind ≡ kind
    → word_in s.opened code unit s w ≡ word_by_kind kind code unit s w
own code unit s w kind none is = ap (λ o. word_in o code unit s w) none ∙ ap (λ k. word_by_kind k code unit s w) is

coded : (code : List ℕ) (unit : ℕ) (s : Scan) (v w : Word) → s.opened ≡ code_of v
    → word_in s.opened code unit s w ≡ (level_by v.kind code v w.bytes >>= λ level. Ok (given unit s level))
coded code unit s v w is = ap (λ o. word_in o code unit s w) is

as_open : (s : Scan) (now : Open) → s.opened ≡ now → s ≡ record s { opened = now }
as_open s now is = λ i. record s { opened = is i }

-- what is kept of a scan with nothing open
pub keeps_open : (s : Scan) (j : Journals) (p : Pending) (now : Open) → Keeps s j p → s.opened ≡ now → Means p now
keeps_open s j p now k is = subst (λ o. Means p o) is k.means

-- a code after a value
pub takes_coded : (r : Result (Option Bool) VcdFault) (code : List ℕ) (unit : ℕ) (s : Scan) (v w : Word) (ws : List Word) (j : Journals)
    (p : Pending) → s.opened ≡ code_of v → level_by v.kind code v w.bytes ≡ r → Holds s.journals j → Means p closed
    → Takes code unit s (w ∷ ws) r ws j p
takes_coded (Ok level) code unit s v w ws j p is h holds means = record {
  t = given unit s level;
  same = one_word code unit s _ w ws (coded code unit s v w is ∙ ap (λ r. r >>= λ level. Ok (given unit s level)) h);
  last = refl;
  changes = refl;
  keeps = record { holds = holds; means = means };
  ends = inl refl;
}
takes_coded (Err e) code unit s v w ws j p is h holds means =
    one_fault code unit s w ws e (coded code unit s v w is ∙ ap (λ r. r >>= λ level. Ok (given unit s level)) h)

-- a value and its code in one word
pub takes_scalar : (r : Result (Option Bool) VcdFault) (code : List ℕ) (unit : ℕ) (s : Scan) (w : Word) (ws : List Word) (j : Journals) (p : Pending)
    → w.kind ≡ scalar → Gives (λ level. level) r (scalar_level code w) → s.opened ≡ closed → Keeps s j p → Takes code unit s (w ∷ ws) r ws j p
takes_scalar (Ok level) code unit s w ws j p kind h none k = record {
  t = given unit s level;
  same = one_word code unit s _ w ws (own code unit s w scalar none kind ∙ ap (λ r. r >>= λ level. Ok (given unit s level)) h);
  last = refl;
  changes = refl;
  keeps = record { holds = k.holds; means = keeps_open s j p closed k none };
  ends = inl refl;
}
takes_scalar (Err e) code unit s w ws j p kind h none k =
    one_fault code unit s w ws e (own code unit s w scalar none kind ∙ ap (λ r. r >>= λ level. Ok (given unit s level)) h)

-- a word that opens something
pub via : (code : List ℕ) (unit : ℕ) (s : Scan) (now : Open) (words ws : List Word) (level : Option Bool) (rest : List Word) (j : Journals) (p : Pending)
    → scan_words code unit s words ≡ scan_words code unit (record s { opened = now }) ws
    → Reaches code unit (record s { opened = now }) ws level rest j p → Reaches code unit s words level rest j p
via code unit s now words ws level rest j p same r =
    record { t = r.t; same = same ∙ r.same; last = r.last; changes = r.changes; keeps = r.keeps; ends = r.ends }

pub takes_via : (r : Result (Option Bool) VcdFault) (code : List ℕ) (unit : ℕ) (s : Scan) (now : Open) (words ws rest : List Word) (j : Journals) (p : Pending)
    → scan_words code unit s words ≡ scan_words code unit (record s { opened = now }) ws
    → Takes code unit (record s { opened = now }) ws r rest j p → Takes code unit s words r rest j p
takes_via (Ok level) code unit s now words ws rest j p same r = via code unit s now words ws level rest j p same r
takes_via (Err e) code unit s now words ws rest j p same r = ap (λ end. end.1) same ∙ r

-- nothing is read
pub stays : (code : List ℕ) (unit : ℕ) (s : Scan) (words : List Word) (j : Journals) (p : Pending) → (s.opened ≡ closed) ⊎ (words ≡ [])
    → Keeps s j p → Reaches code unit s words None words j p
stays code unit s words j p ends k = record { t = s; same = refl; last = refl; changes = refl; keeps = k; ends = ends }

opens_value : (kind : WordKind) (code : List ℕ) (unit : ℕ) (s : Scan) (w : Word) → takes_code kind ≡ true
    → word_by_kind kind code unit s w ≡ Ok (record s { opened = code_of w })
opens_value vector code unit s w is = refl
opens_value real code unit s w is = refl
opens_value text code unit s w is = refl
opens_value dollar code unit s w is = absurd (cc is)
opens_value hash code unit s w is = absurd (cc is)
opens_value scalar code unit s w is = absurd (cc is)
opens_value other code unit s w is = absurd (cc is)

-- a value without its code
pub to_value : (code : List ℕ) (unit : ℕ) (s : Scan) (w : Word) (ws : List Word) → s.opened ≡ closed → takes_code w.kind ≡ true
    → scan_words code unit s (w ∷ ws) ≡ scan_words code unit (record s { opened = code_of w }) ws
to_value code unit s w ws none is = one_word code unit s _ w ws (own code unit s w w.kind none refl ∙ opens_value w.kind code unit s w is)

-- a mark
pub past_mark : (code : List ℕ) (unit : ℕ) (s : Scan) (w : Word) (ws : List Word) → s.opened ≡ closed → w.kind ≡ dollar → is_mark w.bytes ≡ true
    → scan_words code unit s (w ∷ ws) ≡ scan_words code unit s ws
past_mark code unit s w ws none kind h = one_word code unit s s w ws (own code unit s w dollar none kind ∙ rw h refl)

-- a comment begins
pub to_comment : (code : List ℕ) (unit : ℕ) (s : Scan) (w : Word) (ws : List Word) → s.opened ≡ closed → w.kind ≡ dollar → is_mark w.bytes ≡ false
    → is_comment w.bytes ≡ true → scan_words code unit s (w ∷ ws) ≡ scan_words code unit (record s { opened = comment_of None }) ws
to_comment code unit s w ws none kind mark h = one_word code unit s _ w ws (own code unit s w dollar none kind ∙ rw (mark, h) refl)

-- a comment ends at once
pub past_shut : (code : List ℕ) (unit : ℕ) (s : Scan) (w : Word) (ws : List Word) → s.opened ≡ comment_of None → is_end w.bytes ≡ true
    → scan_words code unit s (w ∷ ws) ≡ scan_words code unit (shut s (comment w w.offset)) ws
past_shut code unit s w ws is h = one_word code unit s _ w ws (rw (is, h) refl)

-- the first word of a comment
pub to_first : (code : List ℕ) (unit : ℕ) (s : Scan) (w : Word) (ws : List Word) → s.opened ≡ comment_of None → is_end w.bytes ≡ false
    → scan_words code unit s (w ∷ ws) ≡ scan_words code unit (record s { opened = comment_of (Some w) }) ws
to_first code unit s w ws is h = one_word code unit s _ w ws (rw (is, h) refl)

shut_step : (ends : Bool) (code : List ℕ) (unit : ℕ) (s : Scan) (w : Word) (offset end : ℕ) (ws rest : List Word)
    → (end_read ws ≡ Ok (end, rest)
    → scan_words code unit (record s { opened = comment_of (Some w) }) ws ≡ scan_words code unit (shut s (comment w end)) rest)
    → cond ends (Ok (offset, ws)) (end_read ws) ≡ Ok (end, rest)
    → scan_words code unit (cond ends (shut s (comment w offset)) (record s { opened = comment_of (Some w) })) ws
    ≡ scan_words code unit (shut s (comment w end)) rest
shut_step true code unit s w offset end ws rest ih h =
    let same : ◌≡◌ {A = ℕ × List Word} (offset, ws) (end, rest) = cc h in ap (λ x. scan_words code unit (shut s (comment w x.0)) x.1) same
shut_step false code unit s w offset end ws rest ih h = ih h

-- a comment ends
pub past_end : (code : List ℕ) (unit : ℕ) (s : Scan) (w : Word) (ws rest : List Word) (end : ℕ) → end_read ws ≡ Ok (end, rest)
    → scan_words code unit (record s { opened = comment_of (Some w) }) ws ≡ scan_words code unit (shut s (comment w end)) rest
past_end code unit s w [] rest end h = absurd (cc h)
past_end code unit s w (v ∷ vs) rest end h =
    shut_step (is_end v.bytes) code unit s w v.offset end vs rest (past_end code unit s w vs rest end) h

on_step : (ends : Bool) (code : List ℕ) (unit : ℕ) (s u : Scan) (w : Word) (offset : ℕ) (ws : List Word) (e : VcdFault)
    → (end_read ws ≡ Err e
    → scan_words code unit (record s { opened = comment_of (Some w) }) ws ≡ (record s { opened = comment_of (Some w) }, None))
    → cond ends (Ok (offset, ws)) (end_read ws) ≡ Err e
    → scan_words code unit (cond ends u (record s { opened = comment_of (Some w) })) ws ≡ (record s { opened = comment_of (Some w) }, None)
on_step true code unit s u w offset ws e ih h = absurd (cc h)
on_step false code unit s u w offset ws e ih h = ih h

-- a comment goes on
pub past_on : (code : List ℕ) (unit : ℕ) (s : Scan) (w : Word) (ws : List Word) (e : VcdFault) → end_read ws ≡ Err e
    → scan_words code unit (record s { opened = comment_of (Some w) }) ws ≡ (record s { opened = comment_of (Some w) }, None)
past_on code unit s w [] e h = refl
past_on code unit s w (v ∷ vs) e h =
    on_step (is_end v.bytes) code unit s (shut s (comment w v.offset)) w v.offset vs e (past_on code unit s w vs e) h

-- an end is no journal
end_apart : (c : Comment) → is_end c.first.bytes ≡ true → is_journal c ≡ false
end_apart c h =
    let same : c.first.bytes ≡ codes "$end" = (bytes_eq-Decides c.first.bytes (codes "$end")).0 h in
    ap (λ (b : List ℕ). bytes_eq b (codes "irig-journal-1")) same

pub holds_shut : (j : Journals) (s : Scan) (c : Comment) → is_journal c ≡ false → Holds s.journals j → Holds (shut s c).journals j
holds_shut j s c is h = rw (is, append-nil) h

pub holds_end : (j : Journals) (s : Scan) (w : Word) → is_end w.bytes ≡ true → Holds s.journals j → Holds (shut s (comment w w.offset)).journals j
holds_end j s w ends = holds_shut j s (comment w w.offset) (end_apart (comment w w.offset) ends)

-- a fault is one of the whole
pub fails_at : (code : List ℕ) (unit : ℕ) (s : Scan) (words : List Word) (e : VcdFault) → (scan_words code unit s words).1 ≡ Some e
    → Stops unit (scan_words code unit s words) e
fails_at code unit s words fault.OutOfMemory h = absurd (never_memory code unit words s h)
fails_at code unit s words e h = h

pub fails_in : (code : List ℕ) (unit : ℕ) (s : Scan) (words : List Word) (end : Scan × Option VcdFault) (e : VcdFault)
    → scan_words code unit s words ≡ end → (scan_words code unit s words).1 ≡ Some e → Stops unit end e
fails_in code unit s words end e left h = subst (λ x. Stops unit x e) left (fails_at code unit s words e h)

-- nothing is open before a word that is left
pub at_word : (code : List ℕ) (unit : ℕ) (end : Scan × Option VcdFault) (t : Trace) (clock : Clock) (j : Journals) (p : Pending) (w : Word) (ws : List Word)
    → (l : Leads code unit end t clock j p (w ∷ ws)) → l.s.opened ≡ closed
at_word code unit end t clock j p w ws l = elim l.ends [ inl is ↦ is | inr empty ↦ (let no : ◌≡◌ {A = List Word} (w ∷ ws) [] = empty in absurd (cc no)) ]

pub leads_as : (code : List ℕ) (unit : ℕ) (end : Scan × Option VcdFault) (t : Trace) (clock : Clock) (j : Journals) (p : Pending) (words ws : List Word)
    → words ≡ ws → Leads code unit end t clock j p words → Leads code unit end t clock j p ws
leads_as code unit end t clock j p words ws is l = subst (λ v. Leads code unit end t clock j p v) is l

-- tokens are read, and what they say is put
pub leads_level : (code : List ℕ) (unit : ℕ) (end : Scan × Option VcdFault) (s : Scan) (old new : Trace) (clock : Clock) (j k : Journals) (p q : Pending)
    (words rest : List Word) (high : Bool) (t : ℕ)
    → Reaches code unit s words (Some high) rest k q → t ≡ micros_of unit (units_of unit clock) → new.time ≡ t
    → ((changes : List Change) → Follows changes old → Follows (changes ++ change t high ∷ []) new)
    → IsAt unit s old clock j p → scan_words code unit s words ≡ end → Leads code unit end new clock k q rest
leads_level code unit end s old new clock j k p q words rest high t r is time puts here left = record {
  s = r.t;
  here = record {
    traced = record {
      time = here.traced.time;
      late = omega (arith, time, is);
      last = here.traced.last ∙ sym r.last;
      follows = rw (r.changes, sym here.traced.last, sym is) (puts s.changes here.traced.follows);
    };
    keeps = r.keeps;
  };
  ends = r.ends;
  left = sym r.same ∙ left;
}

-- tokens are read that say nothing
pub leads_none : (code : List ℕ) (unit : ℕ) (end : Scan × Option VcdFault) (s : Scan) (t : Trace) (clock : Clock) (j k : Journals) (p q : Pending)
    (words rest : List Word) → Reaches code unit s words None rest k q
    → IsAt unit s t clock j p → scan_words code unit s words ≡ end → Leads code unit end t clock k q rest
leads_none code unit end s t clock j k p q words rest r here left = record {
  s = r.t;
  here = record {
    traced = record { time = here.traced.time; late = here.traced.late; last = here.traced.last ∙ sym r.last; follows = rw r.changes here.traced.follows };
    keeps = r.keeps;
  };
  ends = r.ends;
  left = sym r.same ∙ left;
}

-- a time
pub leads_time : (r : Result Clock VcdFault) (code : List ℕ) (unit : ℕ) (end : Scan × Option VcdFault) (t : Trace) (clock : Clock) (j : Journals)
    (p : Pending) (w : Word) (ws : List Word) → w.kind ≡ hash
    → Gives (λ c. units_of unit c) r (time_of unit (units_of unit clock) (rest_of w.bytes) w.offset)
    → IfOk r (λ c. IsTime unit c) → IfOk r (λ c. clock.whole ≤ c.whole)
    → Leads code unit end t clock j p (w ∷ ws) → Scans unit end r (λ at. Leads code unit end t at j p ws)
leads_time (Ok at) code unit end t clock j p w ws kind gives time forward l =
    let none = at_word code unit end t clock j p w ws l in
    let last = l.here.traced.last in
    let up = later unit clock at l.here.traced.time time forward in
    let step = own code unit l.s w hash none kind ∙ rw (sym last, gives) refl in
    record {
      s = record l.s { last = units_of unit at };
      here = record {
        traced = record { time = time; late = omega (arith, up, l.here.traced.late); last = refl; follows = l.here.traced.follows };
        keeps = record { holds = l.here.keeps.holds; means = l.here.keeps.means };
      };
      ends = inl none;
      left = sym (one_word code unit l.s (record l.s { last = units_of unit at }) w ws step) ∙ l.left;
    }
leads_time (Err e) code unit end t clock j p w ws kind gives time forward l =
    let none = at_word code unit end t clock j p w ws l in
    let step = own code unit l.s w hash none kind ∙ rw (sym l.here.traced.last, gives) refl in
    fails_in code unit l.s (w ∷ ws) end e l.left (one_fault code unit l.s w ws e step)

-- a value on another code
pub reaches_apart : (code : List ℕ) (unit : ℕ) (s : Scan) (words ws : List Word) (j : Journals) (p : Pending)
    → TakesApart words ws code ⊎ TakesValue words ws code → s.opened ≡ closed → Keeps s j p → Reaches code unit s words None ws j p
reaches_apart code unit s words ws j p (inl a) none k = rw a.left (takes_scalar (Ok None) code unit s a.word ws j p a.kind a.level none k)
reaches_apart code unit s words ws j p (inr v) none k =
    rw v.left (via code unit s (code_of v.word) (v.word ∷ v.next ∷ ws) (v.next ∷ ws) None ws j p (to_value code unit s v.word (v.next ∷ ws) none v.kind)
    (takes_coded (Ok None) code unit (record s { opened = code_of v.word }) v.word v.next ws j p refl v.level k.holds (keeps_open s j p closed k none)))

-- pulses
pub leads_passed : (code : List ℕ) (unit : ℕ) (end : Scan × Option VcdFault) (t : Trace) (clock : Clock) (j : Journals) (p : Pending) (words rest : List Word)
    (s : Scan) → s.opened ≡ closed → Keeps s j p → scan_words code unit s words ≡ end → Passes code unit s words t clock rest
    → Leads code unit end t clock j p rest
leads_passed code unit end t clock j p words rest s none k left g = record {
  s = g.now;
  here = record { traced = g.traced; keeps = record { holds = rw g.journals k.holds; means = rw g.opened k.means } };
  ends = inl (g.opened ∙ none);
  left = sym g.same ∙ left;
}

-- an edge before the last time stays one
pub edges_on : (code : List ℕ) (unit : ℕ) (ws : List Word) (s : Scan) → EdgeBefore (micros_of unit s.last) s.changes
    → EdgeBefore (micros_of unit (scan_words code unit s ws).0.last) (scan_words code unit s ws).0.changes
edges_on code unit [] s e = e
edges_on code unit (w ∷ ws) s e =
    next_always code unit s w (λ t. EdgeBefore (micros_of unit t.last) t.changes) (λ end. EdgeBefore (micros_of unit end.0.last) end.0.changes)
    (λ t. scan_words code unit t ws) (record {
      same = e;
      timed = λ plain t read.
          let up = micros_later unit s.last t (time_later unit s.last (rest_of w.bytes) w.offset t read) in
          record { at = e.at; before = omega (arith, e.before, up); high = e.high };
      levels = λ plain level. edge_stays level (micros_of unit s.last) s.changes e;
      opens = λ plain now also. e;
      ends = λ first is. e;
      goes = λ first is. e;
    }) (edges_on code unit ws) (λ f. e)

-- memory runs out
pub leads_short : (code : List ℕ) (unit : ℕ) (end : Scan × Option VcdFault) (s : Scan) (words : List Word) (time : ℕ) → time ≡ micros_of unit s.last
    → EdgeBefore time s.changes → scan_words code unit s words ≡ end → EdgeBefore (micros_of unit end.0.last) end.0.changes
leads_short code unit end s words time is e left =
    subst (λ x. EdgeBefore (micros_of unit x.0.last) x.0.changes) left (edges_on code unit words s (subst (λ t. EdgeBefore t s.changes) is e))

-- a change at the time
pub on_put : (unit : ℕ) (old new : Trace) (clock : Clock) (t : ℕ) (high : Bool) → IsOn unit old clock → t ≡ micros_of unit (units_of unit clock)
    → new.time ≡ t → ((changes : List Change) → Follows changes old → Follows (changes ++ change t high ∷ []) new) → IsOn unit new clock
on_put unit old new clock t high on is time puts =
    record { time = on.time; late = omega (arith, time, is); changes = on.changes ++ change t high ∷ []; follows = puts on.changes on.follows }

-- a later time
pub on_later : (unit : ℕ) (t : Trace) (clock at : Clock) → IsOn unit t clock → IsTime unit at → clock.whole ≤ at.whole → IsOn unit t at
on_later unit t clock at on time forward =
    let up = later unit clock at on.time time forward in record { time = time; late = omega (arith, up, on.late); changes = on.changes; follows = on.follows }

pub on_read : (read : Result Clock VcdFault) (unit : ℕ) (t : Trace) (clock : Clock) → IsOn unit t clock → IfOk read (λ at. IsTime unit at)
    → IfOk read (λ at. clock.whole ≤ at.whole) → IfOk read (λ at. IsOn unit t at)
on_read (Ok at) unit t clock on time forward = on_later unit t clock at on time forward
on_read (Err e) unit t clock on time forward = tt

pub hash_kind : (kind : WordKind) → is_hash kind ≡ true → kind ≡ hash
hash_kind hash is = refl
hash_kind dollar is = absurd (cc is)
hash_kind scalar is = absurd (cc is)
hash_kind vector is = absurd (cc is)
hash_kind real is = absurd (cc is)
hash_kind text is = absurd (cc is)
hash_kind other is = absurd (cc is)

pub via_same : (code : List ℕ) (unit : ℕ) (s : Scan) (words ws : List Word) (level : Option Bool) (rest : List Word) (j : Journals) (p : Pending)
    → scan_words code unit s words ≡ scan_words code unit s ws → Reaches code unit s ws level rest j p → Reaches code unit s words level rest j p
via_same code unit s words ws level rest j p same r =
    record { t = r.t; same = same ∙ r.same; last = r.last; changes = r.changes; keeps = r.keeps; ends = r.ends }

-- a comment that is shut
pub reaches_shut : (code : List ℕ) (unit : ℕ) (s : Scan) (words rest : List Word) (c : Comment) (j : Journals)
    → scan_words code unit s words ≡ scan_words code unit (shut s c) rest → Holds (shut s c).journals j
    → Reaches code unit s words None rest j pending.Nothing
reaches_shut code unit s words rest c j same holds =
    record { t = shut s c; same = same; last = refl; changes = refl; keeps = record { holds = holds; means = refl }; ends = inl refl }

pub ends_at : (code : List ℕ) (unit : ℕ) (s : Scan) (w : Word) (ws rest : List Word) (end : ℕ) → s.opened ≡ comment_of (Some w)
    → end_read ws ≡ Ok (end, rest) → scan_words code unit s ws ≡ scan_words code unit (shut s (comment w end)) rest
ends_at code unit s w ws rest end is h =
    ap (λ t. scan_words code unit t ws) (as_open s (comment_of (Some w)) is) ∙ past_end code unit s w ws rest end h

pub goes_on : (code : List ℕ) (unit : ℕ) (s : Scan) (w : Word) (ws : List Word) (e : VcdFault) → s.opened ≡ comment_of (Some w)
    → end_read ws ≡ Err e → scan_words code unit s ws ≡ (s, None)
goes_on code unit s w ws e is h =
    let same = as_open s (comment_of (Some w)) is in
    ap (λ t. scan_words code unit t ws) same ∙ (past_on code unit s w ws e h ∙ ap (λ (t : Scan). (t, None)) (sym same))

-- a change is put at the time
pub put_at : (unit : ℕ) (s : Scan) (old new : Trace) (clock : Clock) (j : Journals) (p : Pending) (high : Bool) (t : ℕ)
    → t ≡ micros_of unit (units_of unit clock) → new.time ≡ t
    → ((changes : List Change) → Follows changes old → Follows (changes ++ change t high ∷ []) new)
    → s.opened ≡ closed → IsAt unit s old clock j p → IsAt unit (given unit s (Some high)) new clock j p
put_at unit s old new clock j p high t is time puts none here = record {
  traced = record {
    time = here.traced.time;
    late = omega (arith, time, is);
    last = here.traced.last;
    follows = rw (sym here.traced.last, sym is) (puts s.changes here.traced.follows);
  };
  keeps = record { holds = here.keeps.holds; means = keeps_open s j p closed here.keeps none };
}

-- a 0 or a 1 on the code is put
pub put_bit : (code : List ℕ) (unit : ℕ) (end : Scan × Option VcdFault) (old new : Trace) (clock : Clock) (j : Journals) (p : Pending)
    (words ws : List Word) (high : Bool) (t : ℕ) → 0 < length code → TakesBit words ws code high
    → t ≡ micros_of unit (units_of unit clock) → new.time ≡ t
    → ((changes : List Change) → Follows changes old → Follows (changes ++ change t high ∷ []) new)
    → Leads code unit end old clock j p words
    → (s : Scan) × (s.opened ≡ closed) × IsAt unit s new clock j p × (scan_words code unit s ws ≡ end)
put_bit code unit end old new clock j p words ws high t some b is time puts leads =
    let l = leads_as code unit end old clock j p words (b.word ∷ ws) b.left leads in
    let none = at_word code unit end old clock j p b.word ws l in
    let step = own code unit l.s b.word scalar none b.kind
    ∙ ap (λ r. r >>= λ level. Ok (given unit l.s level)) (bit_level high code b.word some b.bytes) in (
      given unit l.s (Some high),
      refl,
      put_at unit l.s old new clock j p high t is time puts none l.here,
      sym (one_word code unit l.s (given unit l.s (Some high)) b.word ws step) ∙ l.left,
    )

-- the pulses after it
pub puts_passed : {E : Type 0} (r : Result Clock E) (code : List ℕ) (unit : ℕ) (end : Scan × Option VcdFault) (old new : Trace) (clock : Clock)
    (j : Journals) (p : Pending) (words rest : List Word)
    → IfOk r (λ now. (s : Scan) → s.opened ≡ closed → IsTraced unit s old clock → Passes code unit s words new now rest)
    → OnErr r ((changes : List Change) → Follows changes old → EdgeBefore (micros_of unit (units_of unit clock)) changes)
    → (s : Scan) × (s.opened ≡ closed) × IsAt unit s old clock j p × (scan_words code unit s words ≡ end)
    → Puts unit end r (λ now. Leads code unit end new now j p rest)
puts_passed (Ok now) code unit end old new clock j p words rest passes memory q =
    leads_passed code unit end new now j p words rest q.0 q.1 q.2.keeps q.3 (passes q.0 q.1 q.2.traced)
puts_passed (Err e) code unit end old new clock j p words rest passes memory q =
    leads_short code unit end q.0 words _ (ap (micros_of unit) q.2.traced.last) (memory q.0.changes q.2.traced.follows) q.3

pub on_passed : {E : Type 0} (r : Result Clock E) (code : List ℕ) (unit : ℕ) (old new : Trace) (clock : Clock) (words rest : List Word) → IsOn unit old clock
    → IfOk r (λ now. (s : Scan) → s.opened ≡ closed → IsTraced unit s old clock → Passes code unit s words new now rest)
    → IfOk r (λ now. IsOn unit new now)
on_passed (Ok now) code unit old new clock words rest on passes =
    let p = passes (record { last = units_of unit clock; changes = on.changes; journals = []; opened = closed }) refl
    (record { time = on.time; late = on.late; last = refl; follows = on.follows }) in
    record { time = p.traced.time; late = p.traced.late; changes = p.now.changes; follows = p.traced.follows }
on_passed (Err e) code unit old new clock words rest on passes = tt

first_of_apart : (code : List ℕ) (words ws : List Word) → TakesApart words ws code ⊎ TakesValue words ws code
    → (w : Word) × (rest : List Word) × (words ≡ w ∷ rest)
first_of_apart code words ws (inl a) = (a.word, ws, a.left)
first_of_apart code words ws (inr v) = (v.word, v.next ∷ ws, v.left)

-- a value on another code
pub leads_apart : (code : List ℕ) (unit : ℕ) (end : Scan × Option VcdFault) (t : Trace) (clock : Clock) (j : Journals) (p : Pending) (words ws : List Word)
    → TakesApart words ws code ⊎ TakesValue words ws code → Leads code unit end t clock j p words → Leads code unit end t clock j p ws
unfolding leads_as
leads_apart code unit end t clock j p words ws takes l =
    let f = first_of_apart code words ws takes in
    let none = at_word code unit end t clock j p f.0 f.1 (leads_as code unit end t clock j p words (f.0 ∷ f.1) f.2 l) in
    leads_none code unit end l.s t clock j j p p words ws (reaches_apart code unit l.s words ws j p takes none l.here.keeps) l.here l.left

-- nothing that is left open is out of memory
pub never_open : (now : Open) → left_open now ≡ Some fault.OutOfMemory → ⊥
never_open closed h = absurd (cc h)
never_open (code_of v) h = absurd (cc h)
never_open (comment_of first) h = absurd (cc h)

-- what stops is what is read
pub stopped_so : (end : Scan × Option VcdFault) (unit : ℕ) (e : VcdFault) → Stops unit end e → IsFaultOf e (scan_ended unit end)
stopped_so end unit fault.OutOfMemory h = tt
stopped_so end unit e h = rw h refl
