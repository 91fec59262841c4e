-- A rise and a fall in one step.
use Rattle.std.proofs.Common.{◌≡◌, ◌<◌, ◌≤◌, ◌+◌, ◌-◌, cond, ◌++◌, ◌∷◌, [], ℕ, Bool, true, false, List, length, drop, take, get_or, ◌/◌, ◌%◌, ◌^◌, Some, Ok}
use Rattle.std.proofs.Common.{map, refl, ap, sym, subst, ◌∙◌, arith, append_assoc}
use Rattle.std.specs.List.{list_all}
use Rattle.std.proofs.lemmas.List.{length-append}
use Rattle.irig_vcd.specs.Code.Along.{TakesEdge, at_micros}
use Rattle.irig_vcd.specs.Words.{Word, words_from, before_space, is_space, is_code, kind_of_byte, hash, scalar, rest_of}
use Rattle.irig_vcd.specs.{Answer.◌>>=◌, Code.Part.moved_word, Code.Scanned.IsTraced, Code.Scanned.Passes, Code.Time.units_of, Code.Time.IsTime, Code.Trace.Follows, Code.Trace.Traces}
use Rattle.irig_vcd.specs.{Digits.is_digit, Digits.number_from, Level.Change, Level.change, Scan.Scan, Scan.closed, Scan.given, Scan.scan_words}
use Rattle.irig_vcd.specs.{Extent.most_pulses, Times.micros_of, declared.edge.Edge.Edge, declared.time.Clock.Clock, declared.trace.Trace.Trace}
use Rattle.irig_recording.specs.Edges.{edges_kept}
use Rattle.irig_vcd.proofs.TimeLemmas.{units_cut, shown_time, fine_time, rest_low, later_read}
use Rattle.irig_vcd.proofs.{Clocks.micros_fine, CodeRuns.bit_level, CodeRuns.bit_word, DigitRuns.hash_word, Levels.advanced, Levels.changed, Levels.kept_more}
use Rattle.irig_vcd.proofs.{ScanSteps.one_word, ScanSteps.own, Runs.opened, Runs.newline, Runs.behind_newline}

-- a trace after a fall takes a pulse
pub pulse_put : (cs : List Change) (old new : Trace) → new.extent ≡ old.extent → (rise fall : ℕ) → old.before ≡ true → old.now ≡ false
    → length old.edges + 2 ≤ edges_kept (most_pulses old.extent)
    → old.time < rise → rise < fall → new.edges ≡ old.edges ++ old.time ∷ rise ∷ []
    → new.time ≡ fall → new.before ≡ true → new.now ≡ false → Traces cs old
    → Traces (cs ++ record { time = rise; high = true } ∷ record { time = fall; high = false } ∷ []) new
pulse_put cs old new extent rise fall was fallen room first second added time before now h =
    let up : Change = record { time = rise; high = true } in
    let down : Change = record { time = fall; high = false } in
    let one : List ℕ = old.edges ++ old.time ∷ [] in
    let low : Trace = record { extent = old.extent; time = rise; before = false; now = false; edges = one } in
    let risen : Trace = record { extent = old.extent; time = rise; before = false; now = true; edges = one } in
    let high : Trace = record { extent = old.extent; time = fall; before = true; now = true; edges = new.edges } in
    let long : length one ≡ length old.edges + 1 = length-append old.edges (old.time ∷ []) in
    let a : Traces cs low = advanced cs old low refl first (sym fallen) (sym fallen)
    (λ all is. rw (fallen, was) (kept_more (edges_kept (most_pulses old.extent)) old.time old.edges all is (omega arith))) h in
    let b : Traces (cs ++ up ∷ []) risen = changed cs up low risen refl refl refl refl refl refl a in
    let again : new.edges ≡ one ++ rise ∷ [] = added ∙ sym (append_assoc old.edges (old.time ∷ []) (rise ∷ [])) in
    let d : Traces (cs ++ up ∷ []) high = advanced (cs ++ up ∷ []) risen high refl second refl refl
    (λ all is. again ∙ kept_more (edges_kept (most_pulses old.extent)) rise one all is (omega arith)) b in
    let e : Traces ((cs ++ up ∷ []) ++ down ∷ []) new = changed (cs ++ up ∷ []) down high new extent refl time now before refl d in
    rw (sym (append_assoc cs (up ∷ []) (down ∷ []))) e

-- the words of a text at a place, at their places in the dump
abbrev pub words_here : ℕ → List ℕ → ℕ → List Word
words_here base s at = map (moved_word base) (words_from at false (drop at s))

-- an edge is two words
on_edge : (base code unit : ℕ) (last : Clock) (s : List ℕ) (at : ℕ) (high : Bool) (e : Edge) (from : Scan)
    → unit ≤ 9 → TakesEdge s at high code unit e → IsTime unit last → units_of unit last ≡ from.last → from.opened ≡ closed
    → last.whole < e.time.whole → e.time.whole ≤ 1099511627776
    → scan_words (code ∷ []) unit from (words_here base s at)
    ≡ scan_words (code ∷ []) unit (record from { last = units_of unit e.time; changes = from.changes ++ change e.time.whole high ∷ []; opened = closed })
    (words_here base s e.end)
on_edge base code unit last s at high e from fine k was is none lt top =
    let ws = words_here base s e.end in
    let now = units_of unit e.time in
    let sign = moved_word base k.sign in
    let level = moved_word base k.level in
    let mid : Scan = record from { last = now } in
    let time = fine_time unit e.time fine top k.rest in
    let read = later_read unit last e.time (rest_of k.sign.bytes) (base + k.sign.offset)
    (shown_time unit (rest_of k.sign.bytes) e.time top k.rest k.digits k.value) was time lt in
    let one = own (code ∷ []) unit from sign hash none k.is_hash ∙ rw (sym is, read) refl in
    let two = own (code ∷ []) unit mid level scalar none k.is_scalar
    ∙ ap (λ r. r >>= λ l. Ok (given unit mid l)) (bit_level high (code ∷ []) level (omega arith) k.bytes) in
    ap (λ (l : List Word). scan_words (code ∷ []) unit from (map (moved_word base) l)) k.left
    ∙ (one_word (code ∷ []) unit from mid sign (level ∷ ws) one ∙ (one_word (code ∷ []) unit mid (given unit mid (Some high)) level ws two
    ∙ ap (λ t. scan_words (code ∷ []) unit (record from { last = now; changes = from.changes ++ change t high ∷ []; opened = closed }) ws)
    (micros_fine unit e.time fine time)))

pub fewer_left : (base : ℕ) (s : List ℕ) (at : ℕ) (high : Bool) (code unit : ℕ) (e : Edge) → TakesEdge s at high code unit e
    → length (words_here base s e.end) ≤ length (words_here base s at)
fewer_left base s at high code unit e k = let long = ap (λ (l : List Word). length (map (moved_word base) l)) k.left in omega (arith, long)

-- reading continues by a pulse
pub passes_pulse : (base code unit : ℕ) (from : Clock) (old new : Trace) (s : List ℕ) (at : ℕ) (rise fall : Edge) (was : Scan)
    → unit ≤ 9 → TakesEdge s at true code unit rise → TakesEdge s rise.end false code unit fall
    → from.whole < rise.time.whole → rise.time.whole < fall.time.whole → fall.time.whole ≤ 1099511627776
    → ((changes : List Change) → Follows changes old
    → Follows (changes ++ record { time = rise.time.whole; high = true } ∷ record { time = fall.time.whole; high = false } ∷ []) new)
    → new.time ≡ fall.time.whole → was.opened ≡ closed → IsTraced unit was old from
    → Passes (code ∷ []) unit was (words_here base s at) new fall.time (words_here base s fall.end)
passes_pulse base code unit from old new s at rise fall was fine up down first second top follows time none is =
    let high : Change = record { time = rise.time.whole; high = true } in
    let low : Change = record { time = fall.time.whole; high = false } in
    let risen = fine_time unit rise.time fine (omega (arith, second, top)) up.rest in
    let fallen = fine_time unit fall.time fine top down.rest in
    let mid : Scan = record was { last = units_of unit rise.time; changes = was.changes ++ high ∷ []; opened = closed } in
    record {
      now = record was { last = units_of unit fall.time; changes = (was.changes ++ high ∷ []) ++ low ∷ []; opened = closed };
      same = on_edge base code unit from s at true rise was fine up is.time is.last none first (omega (arith, second, top))
          ∙ on_edge base code unit rise.time s rise.end false fall mid fine down risen refl refl second top;
      traced = record {
        time = fallen;
        late = rw (micros_fine unit fall.time fine fallen) (omega (arith, time));
        last = refl;
        follows = rw (append_assoc was.changes (high ∷ []) (low ∷ [])) (follows was.changes is.follows);
      };
      journals = refl;
      opened = sym none;
    }

-- words that are passed, and others after them
pub passes_then : (code : List ℕ) (unit : ℕ) (s : Scan) (words ws rest : List Word) (t u : Trace) (c d : Clock) → (p : Passes code unit s words t c ws)
    → Passes code unit p.now ws u d rest → Passes code unit s words u d rest
passes_then code unit s words ws rest t u c d p q = record {
  now = q.now;
  same = p.same ∙ q.same;
  traced = q.traced;
  journals = q.journals ∙ p.journals;
  opened = q.opened ∙ p.opened;
}

bit_dark : (high : Bool) → is_space (cond high 49 48) ≡ false
bit_dark true = refl
bit_dark false = refl

bit_kind : (high : Bool) → scalar ≡ kind_of_byte (cond high 49 48)
bit_kind true = refl
bit_kind false = refl

-- a number sign, digits and a line are an edge
pub edge_taken : (s : List ℕ) (at end number code unit below : ℕ) (time : Clock) (high : Bool)
    → end + 4 ≤ length s → end ≤ at + 19 → get_or s at 0 ≡ 35 → at + 1 < end → is_code (code ∷ []) ≡ true
    → words_from end true (drop end s) ≡ words_from (at + 1) true (drop (at + 1) s)
    → before_space (drop (at + 1) s) ≡ take (end - (at + 1)) (drop (at + 1) s) ++ before_space (drop end s)
    → list_all is_digit (take (end - (at + 1)) (drop (at + 1) s)) ≡ true
    → number_from 0 (take (end - (at + 1)) (drop (at + 1) s)) ≡ number
    → below ≡ 9 - unit → time.whole ≡ number / 10 ^ below → time.rest ≡ number % 10 ^ below
    → get_or s end 0 ≡ 10 → get_or s (end + 1) 0 ≡ cond high 49 48 → get_or s (end + 2) 0 ≡ code → get_or s (end + 3) 0 ≡ 10
    → TakesEdge s at high code unit (record { time = time; end = end + 4 })
edge_taken s at end number code unit below time high room near sign after plain words front digits value cut whole rest line is stands close =
    let w = hash_word s at at end number refl (omega arith) sign after (omega arith) words front digits value (λ _. newline s end line) in
    let two : end + 1 + 1 ≡ end + 2 = omega arith in
    let one : take 1 (drop (end + 1 + 1) s) ≡ code ∷ [] = rw (two, opened s (end + 2) (omega arith), stands) refl in
    let b = bit_word s (code ∷ []) (end + 1) (end + 3) (cond high 49 48) (omega arith) is (bit_dark high) (bit_kind high) plain (omega arith) (omega arith) one
    (λ _. newline s (end + 3) close) in
    let next : words_from end false (drop end s) ≡ record { kind = scalar; bytes = cond high 49 48 ∷ code ∷ []; offset = end + 1 }
    ∷ words_from (end + 4) false (drop (end + 4) s) =
    behind_newline s end (omega arith) line ∙ (b ∙ ap (λ (l : List Word). record { kind = scalar; bytes = cond high 49 48 ∷ code ∷ []; offset = end + 1 } ∷ l)
    (behind_newline s (end + 3) (omega arith) close ∙ ap (λ n. words_from n false (drop n s)) (let k : end + 3 + 1 ≡ end + 4 = omega arith in k))) in
    record {
      sign = record { kind = hash; bytes = take (end - at) (drop at s); offset = at };
      level = record { kind = scalar; bytes = cond high 49 48 ∷ code ∷ []; offset = end + 1 };
      left = w.0 ∙ ap (λ (l : List Word). record { kind = hash; bytes = take (end - at) (drop at s); offset = at } ∷ l) next;
      is_hash = refl;
      digits = w.1;
      value = w.2 ∙ units_cut unit number below time cut whole rest;
      rest = rest_low unit number time.rest below cut rest;
      is_scalar = refl;
      bytes = refl;
      after = omega arith;
      near = omega arith;
    }

pub late_fine : (unit : ℕ) (c : Clock) (t : ℕ) → unit ≤ 9 → IsTime unit c → t ≤ micros_of unit (units_of unit c) → t ≤ c.whole
late_fine unit c t fine h k = omega (arith, micros_fine unit c fine h, k)

-- a code of one byte
pub one_byte : (code : List ℕ) → length code ≡ 1 → get_or code 0 0 ∷ [] ≡ code
one_byte [] one = absurd (omega arith)
one_byte (x ∷ y ∷ rest) one = absurd (omega arith)
one_byte (x ∷ []) one = refl

-- a time in microseconds is its whole part
pub whole_9 : (c : Clock) → IsTime 9 c → c ≡ at_micros c.whole
whole_9 c h = let none : c.rest ≡ 0 = omega (arith, h.rest) in λ i. record { whole = c.whole; rest = none i }

pub traced_micros : (s : Scan) (t : Trace) (c : Clock) → IsTraced 9 s t c → IsTraced 9 s t (at_micros c.whole)
traced_micros s t c is = subst (λ (d : Clock). IsTraced 9 s t d) (whole_9 c is.time) is

-- words that are passed in microseconds are passed in the unit
pub step_micros : (code : List ℕ) (unit : ℕ) (c : Clock) (whole : ℕ) (s : Scan) (old new : Trace) (ws vs : List Word)
    → unit ≡ 9 → (IsTraced 9 s old (at_micros c.whole) → Passes code 9 s ws new (at_micros whole) vs)
    → IsTraced unit s old c → Passes code unit s ws new (at_micros whole) vs
step_micros code unit c whole s old new ws vs is go traced =
    subst (λ (u : ℕ). Passes code u s ws new (at_micros whole) vs) (sym is)
    (go (traced_micros s old c (subst (λ (u : ℕ). IsTraced u s old c) is traced)))

-- and the other way
pub micros_step : (code : List ℕ) (unit : ℕ) (c d : Clock) (s : Scan) (old new : Trace) (ws vs : List Word)
    → unit ≡ 9 → (IsTraced unit s old c → Passes code unit s ws new d vs)
    → IsTraced 9 s old c → Passes code 9 s ws new (at_micros d.whole) vs
micros_step code unit c d s old new ws vs is go traced =
    let p = subst (λ (u : ℕ). Passes code u s ws new d vs) is (go (subst (λ (u : ℕ). IsTraced u s old c) (sym is) traced)) in
    record { now = p.now; same = p.same; traced = traced_micros p.now new d p.traced; journals = p.journals; opened = p.opened }
