-- A dump that comes in parts: what is read of its words, part by part.
use Rattle.std.proofs.Common.{◌≡◌, ◌⊎◌, ◌++◌, ◌+◌, [], ℕ, false, List, Option, Some, None, Result, Ok, Err, IfErr, OnOk, length, take, refl, ap, inl, inr, ◌∙◌}
use Rattle.std.proofs.Common.{sym, subst, append_assoc, drop, ◌≤◌, ◌<◌, arith, length-append}
use Rattle.std.specs.Prelude.{vec_capacity, vec_len}
use Rattle.std.specs.Global.{Vec}
use Rattle.std.proofs.lemmas.List.{length-take-le, take-append-drop}
use Rattle.irig_vcd.specs.Code.DumpReader.{HasRead, HasReadWords, ScansTo, Stage, StopsAt, StopsIn}
use Rattle.irig_vcd.specs.Code.Gathered.{bytes_at, gathered, part_at, so_far}
use Rattle.irig_vcd.specs.{Answer.◌>>=◌, Answer.IsFaultOf, Answer.bytes_of, Answer.pair_of, Code.Joins.ends_inside, Code.Journals.place_view}
use Rattle.irig_vcd.specs.{Code.NextPart.TakesMemory, Code.Trace.EdgeBefore, Times.micros_of, Code.Scanned.HasScanned, Code.Scanned.StandsAt}
use Rattle.irig_vcd.specs.{Code.Scanned.Stops, Declarations.declarations_of, Dump.changes_before, Dump.dump, Dump.recorded, Dump.scan_of, Dump.scanned}
use Rattle.irig_vcd.specs.{Level.Change, Level.HasEdge, Scan.Scan, Scan.scan_ended, Scan.scan_words, Scan.start, Words.Word, Words.words_from}
use Rattle.irig_vcd.specs.{Words.words_of, declared.progress.Progress.Progress, declared.fault.VcdFault.VcdFault, declared.reading.Reading.Reading}
use Rattle.irig_vcd.specs.declared.fault.VcdFault.TheVariants as fault
use Rattle.irig_vcd.proofs.{Gathered.more_gathered, Gathered.so_far_is, Joins.ends_inside-append, Joins.words_from-apart, MoreWords.declared_more}
use Rattle.irig_vcd.proofs.{ScanSteps.edges_on, Scans.after, Scans.scan-append, WholeDump.fails_now, WholeDump.no_dump_in}
use Rattle.irig_vcd.specs.{Window.extent_dump, Window.extent_parts, Window.recorded_in, declared.extent.Extent.Extent}

-- a part comes after the words that are read
pub scans_next : (wire : Option (List ℕ)) (words part : List Word) (unit : ℕ) (code : List ℕ) (r : Reading) (h : HasReadWords wire words unit code r)
    → ScansTo wire (words ++ part) unit code (scan_words code unit h.0 part)
scans_next wire words part unit code r h = (
  h.1.0 ++ part,
  declared_more wire words h.1.0 part (unit, code) h.1.1,
  scan-append code unit start h.1.0 part ∙ ap (λ x. after x (λ t. scan_words code unit t part)) h.1.2,
)

pub words_next : (wire : Option (List ℕ)) (words part : List Word) (unit : ℕ) (code : List ℕ) (old new : Reading) (h : HasReadWords wire words unit code old)
    → (t : Scan) × (scan_words code unit h.0 part ≡ (t, None)) × StandsAt unit t new → HasReadWords wire (words ++ part) unit code new
words_next wire words part unit code old new h r =
    (r.0, subst (λ x. ScansTo wire (words ++ part) unit code x) r.1 (scans_next wire words part unit code old h), r.2)

pub stops_next : (wire : Option (List ℕ)) (words part : List Word) (unit : ℕ) (code : List ℕ) (r : Reading) (e : VcdFault)
    → (h : HasReadWords wire words unit code r) → Stops unit (scan_words code unit h.0 part) e → StopsIn wire (words ++ part) e
stops_next wire words part unit code r e h stops = (unit, code, scan_words code unit h.0 part, scans_next wire words part unit code r h, stops)

-- the same of what a function read
pub goes_on : {X : Type 0} (r : Result X VcdFault) (unit : ℕ) (code : List ℕ) (part : List Word) (old new : Reading)
    → ((s : Scan) → StandsAt unit s old → HasScanned code unit s part r new)
    → OnOk r ((wire : Option (List ℕ)) (words : List Word) → HasReadWords wire words unit code old → HasReadWords wire (words ++ part) unit code new)
goes_on (Ok x) unit code part old new scans = λ wire words h. words_next wire words part unit code old new h (scans h.0 h.2)
goes_on (Err e) unit code part old new scans = tt

pub goes_wrong : {X : Type 0} (r : Result X VcdFault) (unit : ℕ) (code : List ℕ) (part : List Word) (old new : Reading)
    → ((s : Scan) → StandsAt unit s old → HasScanned code unit s part r new)
    → IfErr r (λ e. (wire : Option (List ℕ)) (words : List Word) → HasReadWords wire words unit code old → StopsIn wire (words ++ part) e)
goes_wrong (Ok x) unit code part old new scans = tt
goes_wrong (Err e) unit code part old new scans = λ wire words h. stops_next wire words part unit code old e h (scans h.0 h.2)

-- what follows from a fault follows with it
pub if_err : {A : Type 0} {P Q : VcdFault → Type 0} (r : Result A VcdFault) → ((e : VcdFault) → P e → Q e) → IfErr r P → IfErr r Q
if_err (Ok x) f h = tt
if_err (Err e) f h = f e h

-- the next words that are read
pub next_words : (wire : Option (List ℕ)) (words : List Word) (gone whole : ℕ) (held bytes : List ℕ) (unit : ℕ) (code kept : List ℕ) (old new : Reading)
    → held ≡ bytes → code ≡ kept
    → ((words : List Word) → HasReadWords wire words unit code old → HasReadWords wire (words ++ words_from gone false (take whole held)) unit code new)
    → HasReadWords wire words unit kept old → HasReadWords wire (words ++ words_from gone false (take whole bytes)) unit kept new
next_words wire words gone whole held bytes unit code kept old new same is reads h =
    let there = reads words (subst (λ (k : List ℕ). HasReadWords wire words unit k old) (sym is) h) in
    subst (λ (k : List ℕ). HasReadWords wire (words ++ words_from gone false (take whole bytes)) unit k new) is
    (subst (λ (l : List ℕ). HasReadWords wire (words ++ words_from gone false (take whole l)) unit code new) same there)

-- the same of a fault
pub next_fault : (wire : Option (List ℕ)) (words : List Word) (gone whole : ℕ) (held bytes : List ℕ) (unit : ℕ) (code kept : List ℕ) (old : Reading)
    (e : VcdFault) → held ≡ bytes → code ≡ kept
    → ((words : List Word) → HasReadWords wire words unit code old → StopsIn wire (words ++ words_from gone false (take whole held)) e)
    → HasReadWords wire words unit kept old → StopsIn wire (words ++ words_from gone false (take whole bytes)) e
next_fault wire words gone whole held bytes unit code kept old e same is fails h =
    subst (λ (l : List ℕ). StopsIn wire (words ++ words_from gone false (take whole l)) e) same
    (fails words (subst (λ (k : List ℕ). HasReadWords wire words unit k old) (sym is) h))

-- no word goes on after two parts
outside_both : (x y : List ℕ) → ends_inside false x ≡ false → ends_inside false y ≡ false → ends_inside false (x ++ y) ≡ false
outside_both x y h k = ends_inside-append x y false ∙ (ap (λ i. ends_inside i y) h ∙ k)

-- the words of a front and of what comes after it
front_words : (front rest : List ℕ) (gone : ℕ) → length front ≡ gone → ends_inside false front ≡ false
    → words_of (front ++ rest) ≡ words_of front ++ words_from gone false rest
front_words front rest gone place closed =
    words_from-apart front rest 0 false closed
    ∙ ap (λ n. words_of front ++ words_from n false rest) (let k : 0 + length front ≡ gone = omega (arith, place) in k)

-- all bytes, as those that are read and those that are not
split : (front held more : List ℕ) (n : ℕ) → (front ++ held) ++ more ≡ (front ++ take n held) ++ (drop n held ++ more)
split front held more n =
    ap (λ (l : List ℕ). (front ++ l) ++ more) (sym (take-append-drop n held))
    ∙ (ap (λ (l : List ℕ). l ++ more) (sym (append_assoc front (take n held) (drop n held))) ∙ append_assoc (front ++ take n held) (drop n held) more)

-- the words of all bytes, as those that are read, those of the part that is read next, and others
pub part_words : (front held more : List ℕ) (n gone : ℕ) → length front ≡ gone → ends_inside false front ≡ false → ends_inside false (take n held) ≡ false
    → words_of ((front ++ held) ++ more)
    ≡ (words_of front ++ words_from gone false (take n held)) ++ words_from (length (front ++ take n held)) false (drop n held ++ more)
part_words front held more n gone place closed cut =
    let x = front ++ take n held in
    let y = drop n held ++ more in
    ap words_of (split front held more n) ∙ (front_words x y (length x) refl (outside_both front (take n held) closed cut)
    ∙ ap (λ (l : List Word). l ++ words_from (length x) false y) (front_words front (take n held) gone place closed))

-- what stops among words stops in all of them
more_stops : (code : List ℕ) (unit : ℕ) (end : Scan × Option VcdFault) (more : List Word) (e : VcdFault) → end.1 ≡ Some e
    → (after end (λ t. scan_words code unit t more)).1 ≡ Some e
more_stops code unit (s, Some f) more e h = h
more_stops code unit (s, None) more e h = absurd (cc h)

more_edges : (code : List ℕ) (unit : ℕ) (end : Scan × Option VcdFault) (more : List Word) → EdgeBefore (micros_of unit end.0.last) end.0.changes
    → HasEdge (after end (λ t. scan_words code unit t more)).0.changes
more_edges code unit (s, Some f) more e = (e.at, e.high)
more_edges code unit (s, None) more e = let k = edges_on code unit more s e in (k.at, k.high)

ends_so : (unit : ℕ) (end : Scan × Option VcdFault) (e : VcdFault) → end.1 ≡ Some e → scan_ended unit end ≡ Err e
ends_so unit end e h = rw h refl

scans_all : (wire : Option (List ℕ)) (bytes : List ℕ) (words more : List Word) (unit : ℕ) (code : List ℕ) (end : Scan × Option VcdFault)
    → words_of bytes ≡ words ++ more → ScansTo wire words unit code end
    → ScansTo wire (words_of bytes) unit code (after end (λ t. scan_words code unit t more))
scans_all wire bytes words more unit code end is h = rw is (
  h.0 ++ more,
  declared_more wire words h.0 more (unit, code) h.1,
  scan-append code unit start h.0 more ∙ ap (λ x. after x (λ t. scan_words code unit t more)) h.2,
)

-- a dump, by the scan of its words
scan_so : (wire : Option (List ℕ)) (bytes : List ℕ) (unit : ℕ) (code : List ℕ) (end : Scan × Option VcdFault)
    → ScansTo wire (words_of bytes) unit code end → scan_of wire bytes ≡ Ok (unit, end)
scan_so wire bytes unit code end h =
    ap (λ r. r >>= λ b. pair_of b.0.0 (scan_words b.0.1 b.0.0 start b.1)) h.1 ∙ ap (λ x. Ok (unit, x)) h.2

pub dump_scanned : (wire : Option (List ℕ)) (bytes : List ℕ) (unit : ℕ) (code : List ℕ) (end : Scan × Option VcdFault)
    → ScansTo wire (words_of bytes) unit code end → dump wire bytes ≡ (scan_ended unit end >>= λ x. recorded x.0 x.1)
unfolding dump
dump_scanned wire bytes unit code end h = ap (λ r. (r >>= λ x. scan_ended x.0 x.1) >>= λ x. recorded x.0 x.1) (scan_so wire bytes unit code end h)

-- the same of a window
pub window_scanned : (w : Extent) (wire : Option (List ℕ)) (bytes : List ℕ) (unit : ℕ) (code : List ℕ) (end : Scan × Option VcdFault)
    → ScansTo wire (words_of bytes) unit code end → extent_dump w wire bytes ≡ (scan_ended unit end >>= λ x. recorded_in w x.0 x.1)
unfolding extent_dump
window_scanned w wire bytes unit code end h =
    ap (λ r. (r >>= λ x. scan_ended x.0 x.1) >>= λ x. recorded_in w x.0 x.1) (scan_so wire bytes unit code end h)

-- what stops is a fault of the dump, whatever comes
pub stops_dump : (v : Extent) (wire : Option (List ℕ)) (bytes : List ℕ) (words more : List Word) (e : VcdFault) → words_of bytes ≡ words ++ more
    → StopsIn wire words e → IsFaultOf e (extent_parts v wire bytes)
stops_dump v wire bytes words more fault.OutOfMemory is h = tt
stops_dump v wire bytes words more e is h =
    let all = scans_all wire bytes words more h.0 h.1 h.2 is h.3 in
    no_dump_in v wire bytes e (fails_now e (extent_dump v wire bytes) (window_scanned v wire bytes h.0 h.1 _ all
    ∙ ap (λ r. r >>= λ x. recorded_in v x.0 x.1) (ends_so h.0 _ e (more_stops h.1 h.0 h.2 more e h.4))))

pub stops_at : (v : Extent) (known : Option ℕ) (kept : Vec ℕ) (wire : Option (List ℕ)) (bytes : List ℕ) (words more : List Word) (e : VcdFault)
    → words_of bytes ≡ words ++ more
    → StopsAt known kept wire words e → IsFaultOf e (extent_parts v wire bytes)
stops_at v (Some unit) kept wire bytes words more e is h = stops_dump v wire bytes words more e is h
stops_at v None kept wire bytes words more e is (inl h) = stops_dump v wire bytes words more e is h
stops_at v None kept wire bytes words more e is (inr h) = rw h.0 tt

-- the changes before the first fault, by the scan of the words
pub before_scanned : (wire : Option (List ℕ)) (bytes : List ℕ) (unit : ℕ) (code : List ℕ) (end : Scan × Option VcdFault)
    → ScansTo wire (words_of bytes) unit code end → changes_before wire bytes ≡ end.0.changes
before_scanned wire bytes unit code end h = ap (λ r. (scanned r).changes) (scan_so wire bytes unit code end h)

-- memory for an edge
pub edge_dump : (wire : Option (List ℕ)) (bytes : List ℕ) (words more : List Word) → words_of bytes ≡ words ++ more
    → StopsIn wire words fault.OutOfMemory → HasEdge (changes_before wire bytes)
edge_dump wire bytes words more is h =
    let all = scans_all wire bytes words more h.0 h.1 h.2 is h.3 in
    subst HasEdge (sym (before_scanned wire bytes h.0 h.1 _ all)) (more_edges h.1 h.0 h.2 more h.4)

-- memory for an edge or the code
pub memory_at : (known : Option ℕ) (kept journal : Vec ℕ) (wire : Option (List ℕ)) (bytes front rest : List ℕ) (more : List Word) → bytes ≡ front ++ rest
    → (ends_inside false front ≡ false) ⊎ (rest ≡ []) → words_of bytes ≡ words_of front ++ more
    → StopsAt known kept wire (words_of front) fault.OutOfMemory → TakesMemory wire known kept journal bytes
memory_at (Some unit) kept journal wire bytes front rest more whole outside is h = inl (edge_dump wire bytes (words_of front) more is h)
memory_at None kept journal wire bytes front rest more whole outside is (inl h) = inl (edge_dump wire bytes (words_of front) more is h)
memory_at None kept journal wire bytes front rest more whole outside is (inr h) =
    inr (record { front = front; rest = rest; whole = whole; outside = outside; unit = h.1; code = h.2; s = h.3; read = h.5; full = inl (refl, h.4) })

-- memory for a journal
pub memory_journal : (known : Option ℕ) (kept journal : Vec ℕ) (wire : Option (List ℕ)) (bytes front rest : List ℕ) (unit : ℕ) (code : List ℕ) (r : Reading)
    → bytes ≡ front ++ rest → (ends_inside false front ≡ false) ⊎ (rest ≡ []) → HasReadWords wire (words_of front) unit code r
    → vec_capacity journal < length (gathered r front) → TakesMemory wire known kept journal bytes
memory_journal known kept journal wire bytes front rest unit code r whole outside h full = inr (record {
  front = front;
  rest = rest;
  whole = whole;
  outside = outside;
  unit = unit;
  code = code;
  s = h.0;
  read = h.1;
  full = inr (subst (λ (p : Option (ℕ × ℕ)). vec_capacity journal < length (bytes_at p front))
      (so_far_is h.0 r.journals r.pending (length front) h.2.keeps) full);
})

-- the bytes that are read with the next part, and those that are left
pub record Next (wire : Option (List ℕ)) (bytes : List ℕ) (r : Progress) (n : ℕ) (front : List ℕ) : Type 0 where
  pub bytes_so : bytes ≡ (front ++ take n r.held.items) ++ drop n r.held.items
  pub closed : ends_inside false (front ++ take n r.held.items) ≡ false
  pub words_so : words_of (front ++ take n r.held.items) ≡ words_of front ++ words_from r.gone false (take n r.held.items)
  pub more : List Word
  pub all : words_of bytes ≡ words_of (front ++ take n r.held.items) ++ more

pub next_bytes : (wire : Option (List ℕ)) (bytes : List ℕ) (r : Progress) (n : ℕ) → ends_inside false (take n r.held.items) ≡ false
    → (h : HasRead wire bytes r) → Next wire bytes r n h.front
next_bytes wire bytes r n cut h =
    let part = take n r.held.items in
    let left = drop n r.held.items in
    let front = h.front ++ part in
    let whole : bytes ≡ front ++ left = h.whole ∙ (ap (λ (l : List ℕ). h.front ++ l) (sym (take-append-drop n r.held.items))
    ∙ sym (append_assoc h.front part left)) in
    record {
      bytes_so = whole;
      closed = outside_both h.front part h.closed cut;
      words_so = front_words h.front part r.gone h.place h.closed;
      more = words_from (length front) false left;
      all = ap words_of whole ∙ front_words front left (length front) refl (outside_both h.front part h.closed cut);
    }

-- the bytes that are gathered are those of the part as it was before it was read
pub gathers_same : (old mid : Progress) (place : ℕ → Option (ℕ × ℕ)) (n : ℕ) → mid.held ≡ old.held → mid.gone ≡ old.gone → mid.journal ≡ old.journal
    → mid.journal.items ++ part_at (place (mid.gone + n)) mid.gone (take n mid.held.items)
    ≡ old.journal.items ++ part_at (place (old.gone + n)) old.gone (take n old.held.items)
gathers_same old mid place n held gone journal =
    ap (λ v. v.items ++ part_at (place (mid.gone + n)) mid.gone (take n mid.held.items)) journal
    ∙ (ap (λ k. old.journal.items ++ part_at (place (k + n)) k (take n mid.held.items)) gone
    ∙ ap (λ v. old.journal.items ++ part_at (place (old.gone + n)) old.gone (take n v.items)) held)

-- so they have no room, if the journal with them has none
pub no_room : (old mid : Progress) (place : ℕ → Option (ℕ × ℕ)) (n : ℕ) (all : List ℕ) → mid.held ≡ old.held → mid.gone ≡ old.gone
    → mid.journal ≡ old.journal → old.journal.items ++ part_at (place (old.gone + n)) old.gone (take n old.held.items) ≡ all
    → vec_capacity mid.journal < vec_len mid.journal + length (part_at (place (mid.gone + n)) mid.gone (take n mid.held.items))
    → vec_capacity old.journal < length all
no_room old mid place n all held gone journal is full =
    let same = ap length (gathers_same old mid place n held gone journal ∙ is) in
    let sum = length-append mid.journal.items (part_at (place (mid.gone + n)) mid.gone (take n mid.held.items)) in
    omega (arith, same, sum, ap vec_capacity journal, full, mid.journal.ok.0)

-- with them the journal so far is gathered
pub gathers_next : (wire : Option (List ℕ)) (bytes : List ℕ) (s : Progress) (n unit : ℕ) (code : List ℕ) (new : Reading) → n ≤ length s.held.items
    → (r : HasRead wire bytes s) → HasReadWords wire (words_of r.front ++ words_from s.gone false (take n s.held.items)) unit code new
    → s.journal.items ++ part_at (so_far (place_view new.journals.first) new.pending (s.gone + n)) s.gone (take n s.held.items)
    ≡ gathered new (r.front ++ take n s.held.items)
gathers_next wire bytes s n unit code new within r h =
    let part = take n s.held.items in
    let long : length part ≡ n = length-take-le n s.held.items within in
    ap (λ (l : List ℕ). l ++ part_at (so_far (place_view new.journals.first) new.pending (s.gone + n)) s.gone part) r.journal
    ∙ more_gathered wire r.front part s.unit s.code.items code unit s.gone (s.gone + n) s.reading new r.place (omega (arith, long)) r.stage r.none h

-- held bytes are read
pub put_read : (wire : Option (List ℕ)) (bytes : List ℕ) (old mid new : Progress) (n unit : ℕ)
    → n ≤ length old.held.items → ends_inside false (take n old.held.items) ≡ false
    → mid.held ≡ old.held → mid.gone ≡ old.gone → mid.wire ≡ old.wire
    → new.held.items ≡ drop n mid.held.items → new.gone ≡ mid.gone + n → new.wire ≡ mid.wire → new.unit ≡ mid.unit → new.code ≡ mid.code
    → new.reading ≡ mid.reading
    → new.journal.items ≡ old.journal.items
    ++ part_at (so_far (place_view mid.reading.journals.first) mid.reading.pending (old.gone + n)) old.gone (take n old.held.items)
    → mid.unit ≡ Some unit
    → ((words : List Word) → Stage (bytes_of old.wire) words old.unit old.code.items old.reading → (old.unit ≡ None → old.gone ≡ 0)
    → HasReadWords (bytes_of old.wire) (words ++ words_from old.gone false (take n old.held.items)) unit mid.code.items mid.reading)
    → HasRead wire bytes old → HasRead wire bytes new
put_read wire bytes old mid new n unit within cut mheld mgone mwire nheld ngone nwire nunit ncode nreading njournal known reads r =
    let held = old.held.items in
    let front = r.front ++ take n held in
    let got = reads (words_of r.front) (subst (λ (w : Option (List ℕ)). Stage w (words_of r.front) old.unit old.code.items old.reading) (sym r.name) r.stage)
    r.none in
    let words : words_of front ≡ words_of r.front ++ words_from old.gone false (take n held) = front_words r.front (take n held) old.gone r.place r.closed in
    let some : new.unit ≡ Some unit = nunit ∙ known in
    record {
      name = ap bytes_of (nwire ∙ mwire) ∙ r.name;
      front = front;
      whole = r.whole ∙ (ap (λ (l : List ℕ). r.front ++ l) (sym (take-append-drop n held)) ∙ (sym (append_assoc r.front (take n held) (drop n held))
          ∙ ap (λ (l : List ℕ). front ++ l) (sym (nheld ∙ ap (λ v. drop n v.items) mheld))));
      place =
          let sum = length-append r.front (take n held) in
          let long : length (take n held) ≡ n = length-take-le n held within in
          omega (arith, sum, long, r.place, mgone, ngone);
      closed = outside_both r.front (take n held) r.closed cut;
      stage = rw (some, ncode, nreading) (subst (λ (w : Option (List ℕ)). HasReadWords w (words_of front) unit mid.code.items mid.reading) r.name
          (subst (λ (l : List Word). HasReadWords (bytes_of old.wire) l unit mid.code.items mid.reading) (sym words) got));
      none = λ no. let both : Some unit ≡ None = sym some ∙ no in absurd (cc both);
      journal =
          let words = words_of r.front ++ words_from old.gone false (take n held) in
          let more = gathers_next wire bytes old n unit mid.code.items mid.reading within r
          (subst (λ (w : Option (List ℕ)). HasReadWords w words unit mid.code.items mid.reading) r.name got) in
          rw nreading (njournal ∙ more);
    }

-- what the dump is, after all words are read
pub dump_kept : (v : Extent) (wire : Option (List ℕ)) (bytes : List ℕ) (unit : ℕ) (code : List ℕ) (r : Reading) (changes : List Change) (end : ℕ)
    → (h : HasReadWords wire (words_of bytes) unit code r) → scan_ended unit (h.0, None) ≡ Ok (changes, end)
    → extent_dump v wire bytes ≡ recorded_in v changes end
dump_kept v wire bytes unit code r changes end h is =
    window_scanned v wire bytes unit code (h.0, None) h.1 ∙ ap (λ r. r >>= λ x. recorded_in v x.0 x.1) is

pub end_fault : (v : Extent) (wire : Option (List ℕ)) (bytes : List ℕ) (unit : ℕ) (code : List ℕ) (r : Reading) (e : VcdFault)
    → (h : HasReadWords wire (words_of bytes) unit code r) → IsFaultOf e (scan_ended unit (h.0, None)) → IsFaultOf e (extent_parts v wire bytes)
end_fault v wire bytes unit code r fault.OutOfMemory h is = tt
end_fault v wire bytes unit code r e h is =
    no_dump_in v wire bytes e (fails_now e (extent_dump v wire bytes) (window_scanned v wire bytes unit code (h.0, None) h.1
    ∙ ap (λ r. r >>= λ x. recorded_in v x.0 x.1) is))

-- the journals of the dump, after all words are read
pub told_in : (wire : Option (List ℕ)) (bytes : List ℕ) (unit : ℕ) (code : List ℕ) (r : Reading) → (h : HasReadWords wire (words_of bytes) unit code r)
    → h.0.journals ≡ (scanned (scan_of wire bytes)).journals
told_in wire bytes unit code r h = sym (ap (λ r. (scanned r).journals) (scan_so wire bytes unit code (h.0, None) h.1))

-- the words of all bytes
pub all_words : (wire : Option (List ℕ)) (bytes : List ℕ) (s : Progress) (whole : ℕ) → take whole s.held.items ≡ s.held.items → HasRead wire bytes s
    → (r : HasRead wire bytes s) → words_of bytes ≡ words_of r.front ++ words_from s.gone false (take whole s.held.items)
all_words wire bytes s whole all h r =
    ap words_of r.whole ∙ (front_words r.front s.held.items s.gone r.place r.closed
    ∙ ap (λ (l : List ℕ). words_of r.front ++ words_from s.gone false l) (sym all))

pub last_fault : (wire : Option (List ℕ)) (bytes : List ℕ) (s : Progress) (whole : ℕ) (e : VcdFault) → take whole s.held.items ≡ s.held.items
    → ((words : List Word) → Stage (bytes_of s.wire) words s.unit s.code.items s.reading → (s.unit ≡ None → s.gone ≡ 0)
    → StopsAt s.unit s.code (bytes_of s.wire) (words ++ words_from s.gone false (take whole s.held.items)) e)
    → HasRead wire bytes s → StopsAt s.unit s.code wire (words_of bytes) e
last_fault wire bytes s whole e all fails r =
    let stage = subst (λ (w : Option (List ℕ)). Stage w (words_of r.front) s.unit s.code.items s.reading) (sym r.name) r.stage in
    subst (λ (w : Option (List ℕ)). StopsAt s.unit s.code w (words_of bytes) e) r.name
    (subst (λ (l : List Word). StopsAt s.unit s.code (bytes_of s.wire) l e) (sym (all_words wire bytes s whole all r r))
    (fails (words_of r.front) stage r.none))

pub last_read : (wire : Option (List ℕ)) (bytes : List ℕ) (s : Progress) (whole unit : ℕ) (code : List ℕ) (reading : Reading)
    → take whole s.held.items ≡ s.held.items
    → ((words : List Word) → Stage (bytes_of s.wire) words s.unit s.code.items s.reading → (s.unit ≡ None → s.gone ≡ 0)
    → HasReadWords (bytes_of s.wire) (words ++ words_from s.gone false (take whole s.held.items)) unit code reading)
    → HasRead wire bytes s → HasReadWords wire (words_of bytes) unit code reading
last_read wire bytes s whole unit code reading all reads r =
    let stage = subst (λ (w : Option (List ℕ)). Stage w (words_of r.front) s.unit s.code.items s.reading) (sym r.name) r.stage in
    subst (λ (w : Option (List ℕ)). HasReadWords w (words_of bytes) unit code reading) r.name
    (subst (λ (l : List Word). HasReadWords (bytes_of s.wire) l unit code reading) (sym (all_words wire bytes s whole all r r))
    (reads (words_of r.front) stage r.none))

-- the bytes that are left are gathered
pub last_gathered : (wire : Option (List ℕ)) (bytes : List ℕ) (s : Progress) (whole unit : ℕ) (code journal : List ℕ) (reading : Reading)
    → whole ≡ length s.held.items → take whole s.held.items ≡ s.held.items
    → journal ≡ s.journal.items ++ part_at (so_far (place_view reading.journals.first) reading.pending (s.gone + whole)) s.gone (take whole s.held.items)
    → ((words : List Word) → Stage (bytes_of s.wire) words s.unit s.code.items s.reading → (s.unit ≡ None → s.gone ≡ 0)
    → HasReadWords (bytes_of s.wire) (words ++ words_from s.gone false (take whole s.held.items)) unit code reading)
    → HasRead wire bytes s → journal ≡ gathered reading bytes
last_gathered wire bytes s whole unit code journal reading long all is reads r =
    let stage = subst (λ (w : Option (List ℕ)). Stage w (words_of r.front) s.unit s.code.items s.reading) (sym r.name) r.stage in
    let part = take whole s.held.items in
    let same : length part ≡ length s.held.items = ap length all in
    let more = more_gathered (bytes_of s.wire) r.front part s.unit s.code.items code unit s.gone (s.gone + whole) s.reading reading r.place
    (omega (arith, long, same)) stage r.none (reads (words_of r.front) stage r.none) in
    is ∙ (ap (λ (l : List ℕ). l ++ part_at (so_far (place_view reading.journals.first) reading.pending (s.gone + whole)) s.gone part) r.journal
    ∙ (more ∙ ap (gathered reading) (ap (λ (l : List ℕ). r.front ++ l) all ∙ sym r.whole)))

-- the declarations of all bytes are at fault
pub last_early : (wire : Option (List ℕ)) (bytes : List ℕ) (s : Progress) (whole : ℕ) (e : VcdFault) → take whole s.held.items ≡ s.held.items
    → s.unit ≡ None → declarations_of (bytes_of s.wire) (words_of (take whole s.held.items)) ≡ Err e
    → HasRead wire bytes s → declarations_of wire (words_of bytes) ≡ Err e
last_early wire bytes s whole e all none h r =
    let stage = subst (λ (u : Option ℕ). Stage wire (words_of r.front) u s.code.items s.reading) none r.stage in
    let words : words_of bytes ≡ words_of (take whole s.held.items) =
    all_words wire bytes s whole all r r ∙ (ap (λ (l : List Word). l ++ words_from s.gone false (take whole s.held.items)) stage.0
    ∙ ap (λ n. words_from n false (take whole s.held.items)) (r.none none)) in
    ap (declarations_of wire) words ∙ (ap (λ w. declarations_of w (words_of (take whole s.held.items))) (sym r.name) ∙ h)
