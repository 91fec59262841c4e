-- The places of the journals of a text: after its declarations, and within it.
use Rattle.std.proofs.Common.{◌≡◌, ◌≤◌, ◌<◌, ◌+◌, ◌∷◌, [], ℕ, Bool, true, false, cond, List, Option, Some, None, Result, Ok, Err, IfSome, length, ◌++◌, refl}
use Rattle.std.proofs.Common.{ap, arith, subst}
use Rattle.irig_vcd.specs.Code.Journals.{Holds, LiesIn, place_view, first_place}
use Rattle.irig_vcd.specs.Cut.{Section, Stop, no_end, no_definitions, bad, ended, Cut, cut_from, then_cut, stop_at, is_stray, is_last}
use Rattle.irig_vcd.specs.Declarations.{Heading, nothing, declarations_of, read_cut, judged, stopped, start_of}
use Rattle.irig_vcd.specs.Scan.{Open, closed, code_of, comment_of, Scan, start, scan_words}
use Rattle.irig_vcd.specs.Words.{Word, is_space, words_from, words_of, before_space, kind_of_byte}
use Rattle.irig_vcd.specs.{Answer.◌>>=◌, Answer.pair_of, Journals.Comment, Journals.comment, Journals.first_or, Journals.is_journal, Sections.is_end}
use Rattle.irig_vcd.specs.{Sections.section_of, declared.fault.VcdFault.VcdFault, declared.journals.Journals.Journals, declared.journals.Place.Place}
use Rattle.irig_vcd.proofs.WordSteps.{Plain, next_always}

-- the words after the declarations, if these end
abbrev words_behind : Stop → List Word
words_behind no_end = []
words_behind no_definitions = []
words_behind (bad offset) = []
words_behind (ended words) = words

ends_so : (r : Result (ℕ × List ℕ) VcdFault) (l ws : List Word) (s : ℕ × List ℕ) → (r >>= λ s. pair_of s l) ≡ Ok (s, ws) → l ≡ ws
ends_so (Ok x) l ws s h = let same : ◌≡◌ {A = (ℕ × List ℕ) × List Word} (x, l) (s, ws) = cc h in ap (λ p. p.1) same
ends_so (Err e) l ws s h = absurd (cc h)

stops_so : (h : Heading) (stop : Stop) (g : Heading) (ws : List Word) → stopped h stop ≡ Ok (g, ws) → words_behind stop ≡ ws
stops_so h no_end g ws is = absurd (cc is)
stops_so h no_definitions g ws is = absurd (cc is)
stops_so h (bad offset) g ws is = absurd (cc is)
stops_so h (ended words) g ws is = let same : ◌≡◌ {A = Heading × List Word} (h, words) (g, ws) = cc is in ap (λ p. p.1) same

starts_so : (wire : Option (List ℕ)) (r : Result (Heading × List Word) VcdFault) (ws : List Word) (s : ℕ × List ℕ)
    → (r >>= λ x. start_of wire x.0 >>= λ s. pair_of s x.1) ≡ Ok (s, ws)
    → (h : Heading) × (r ≡ Ok (h, ws))
starts_so wire (Ok x) ws s h = (x.0, ap (λ l. Ok (x.0, l)) (ends_so (start_of wire x.0) x.1 ws s h))
starts_so wire (Err e) ws s h = absurd (cc h)

cuts_so : (r : Result Heading VcdFault) (stop : Stop) (g : Heading) (ws : List Word) → (r >>= λ h. stopped h stop) ≡ Ok (g, ws) → words_behind stop ≡ ws
cuts_so (Ok h) stop g ws is = stops_so h stop g ws is
cuts_so (Err e) stop g ws is = absurd (cc is)

pub words_after : (wire : Option (List ℕ)) (words : List Word) (s : ℕ × List ℕ) (ws : List Word) → declarations_of wire words ≡ Ok (s, ws)
    → words_behind (cut_from None words).stop ≡ ws
unfolding declarations_of
words_after wire words s ws h =
    let read = starts_so wire (read_cut nothing (cut_from None words)) ws s h in
    cuts_so (judged nothing (cut_from None words).sections) (cut_from None words).stop read.0 ws read.1

-- the words of a text are in their order, from a place on and before another
abbrev pub Ordered : ℕ → ℕ → List Word → Type 0
Ordered low top [] = Unit {0}
Ordered low top (w ∷ ws) = (low ≤ w.offset) × (w.offset < top) × Ordered w.offset top ws

pub from_before : (low first top : ℕ) (ws : List Word) → low ≤ first → Ordered first top ws → Ordered low top ws
from_before low first top [] le o = tt
from_before low first top (w ∷ ws) le o = (omega (arith, le, o.0), o.1, o.2)

one_more : (dark inside : Bool) (low at top : ℕ) (w : Word) (x y : List Word) → w.offset ≡ at → low ≤ at → at < top → Ordered low top x → Ordered at top y
    → Ordered low top (cond dark x (cond inside y (w ∷ y)))
one_more true inside low at top w x y is le lt h k = h
one_more false true low at top w x y is le lt h k = from_before low at top y le k
one_more false false low at top w x y is le lt h k = (omega (arith, le, is), omega (arith, lt, is), from_before w.offset at top y (omega (arith, is)) k)

pub words_ordered : (bytes : List ℕ) (low at top : ℕ) (inside : Bool) → low ≤ at → at + length bytes ≡ top → Ordered low top (words_from at inside bytes)
words_ordered [] low at top inside le is = tt
words_ordered (b ∷ bs) low at top inside le is =
    let rest : at + 1 + length bs ≡ top = omega (arith, is) in
    one_more (is_space b) inside low at top (record { kind = kind_of_byte b; bytes = b ∷ before_space bs; offset = at }) (words_from (at + 1) false bs)
    (words_from (at + 1) true bs) refl le (omega (arith, is))
    (words_ordered bs low (at + 1) top false (omega (arith, le)) rest) (words_ordered bs at (at + 1) top true (omega arith) rest)

behind_none : (stray : Bool) (low top offset : ℕ) (c : Cut) → Ordered low top (words_behind c.stop)
    → Ordered low top (words_behind (cond stray (stop_at (bad offset)) c).stop)
behind_none true low top offset c o = tt
behind_none false low top offset c o = o

behind_some : (ends last : Bool) (low top : ℕ) (s : Section) (ws : List Word) (c d : Cut) → Ordered low top ws → Ordered low top (words_behind c.stop)
    → Ordered low top (words_behind d.stop)
    → Ordered low top (words_behind (cond ends (cond last (stop_at (ended ws)) (then_cut s c)) d).stop)
behind_some true true low top s ws c d o h k = o
behind_some true false low top s ws c d o h k = h
behind_some false last low top s ws c d o h k = k

behind_ordered : (section : Option Section) (words : List Word) (low top : ℕ) → Ordered low top words
    → Ordered low top (words_behind (cut_from section words).stop)
behind_ordered None [] low top o = tt
behind_ordered None (w ∷ ws) low top o =
    let rest = from_before low w.offset top ws o.0 o.2 in
    behind_none (is_stray (section_of w.bytes)) low top w.offset (cut_from (Some (record { kind = section_of w.bytes; words = [] })) ws)
    (behind_ordered (Some (record { kind = section_of w.bytes; words = [] })) ws low top rest)
behind_ordered (Some s) [] low top o = tt
behind_ordered (Some s) (w ∷ ws) low top o =
    let rest = from_before low w.offset top ws o.0 o.2 in
    behind_some (is_end w.bytes) (is_last s.kind) low top s ws (cut_from None ws)
    (cut_from (Some (record { kind = s.kind; words = s.words ++ w.bytes ∷ [] })) ws) rest (behind_ordered None ws low top rest)
    (behind_ordered (Some (record { kind = s.kind; words = s.words ++ w.bytes ∷ [] })) ws low top rest)

-- the words after the declarations are in their order
pub rest_ordered : (wire : Option (List ℕ)) (bytes : List ℕ) (s : ℕ × List ℕ) (ws : List Word) → declarations_of wire (words_of bytes) ≡ Ok (s, ws)
    → Ordered 0 (length bytes) ws
rest_ordered wire bytes s ws h =
    subst (Ordered 0 (length bytes)) (words_after wire (words_of bytes) s ws h)
    (behind_ordered None (words_of bytes) 0 (length bytes) (words_ordered bytes 0 0 (length bytes) false (omega arith) (omega arith)))

-- each comment begins before it ends, and ends within the text
abbrev Lie : ℕ → List Comment → Type 0
Lie top [] = Unit {0}
Lie top (c ∷ cs) = (c.first.offset ≤ c.end) × (c.end ≤ top) × Lie top cs

lie_more : (top : ℕ) (b : Bool) (cs : List Comment) (c : Comment) → Lie top cs → c.first.offset ≤ c.end → c.end ≤ top
    → Lie top (cs ++ cond b (c ∷ []) [])
lie_more top true [] c h le within = (le, within, tt)
lie_more top false [] c h le within = tt
lie_more top b (d ∷ ds) c h le within = (h.0, h.1, lie_more top b ds c h.2 le within)

-- the first word of a comment was before
abbrev Was : Open → ℕ → Type 0
Was closed low = Unit {0}
Was (code_of v) low = Unit {0}
Was (comment_of None) low = Unit {0}
Was (comment_of (Some first)) low = first.offset ≤ low

abbrev Lies : ℕ → ℕ → Scan → Type 0
Lies top low s = Lie top s.journals × Was s.opened low

was_plain : (now : Open) (low : ℕ) → Plain now → Was now low
was_plain closed low h = tt
was_plain (code_of v) low h = tt
was_plain (comment_of None) low h = tt
was_plain (comment_of (Some w)) low h = absurd h

was_later : (now : Open) (low top : ℕ) → low ≤ top → Was now low → Was now top
was_later closed low top le h = tt
was_later (code_of v) low top le h = tt
was_later (comment_of None) low top le h = tt
was_later (comment_of (Some w)) low top le h = omega (arith, le, h)

was_first : (first : Option Word) (w : Word) (low : ℕ) → Was (comment_of first) low → low ≤ w.offset → (first_or first w).offset ≤ w.offset
was_first None w low was le = omega arith
was_first (Some first) w low was le = omega (arith, was, le)

scan_lies : (code : List ℕ) (unit top low : ℕ) (ws : List Word) (s : Scan) → Ordered low top ws → Lies top low s
    → Lie top (scan_words code unit s ws).0.journals
scan_lies code unit top low [] s o h = h.0
scan_lies code unit top low (w ∷ ws) s o h =
    let began : (first : Option Word) → s.opened ≡ comment_of first → (first_or first w).offset ≤ w.offset =
    λ first is. was_first first w low (subst (λ now. Was now low) is h.1) o.0 in
    next_always code unit s w (Lies top w.offset) (λ end. Lie top end.0.journals) (λ t. scan_words code unit t ws) (record {
      same = (h.0, was_later s.opened low w.offset o.0 h.1);
      timed = λ plain t read. (h.0, was_plain s.opened w.offset plain);
      levels = λ plain level. (h.0, tt);
      opens = λ plain now also. (h.0, was_plain now w.offset also);
      ends = λ first is. let c = comment (first_or first w) w.offset in
          (lie_more top (is_journal c) s.journals c h.0 (began first is) (omega (arith, o.1)), tt);
      goes = λ first is. (h.0, began first is);
    }) (λ t. scan_lies code unit top w.offset ws t o.2) (λ e. h.0)

first_lies : (place : Option Place) (all : List Comment) (bytes : List ℕ) → place_view place ≡ first_place all → Lie (length bytes) all
    → IfSome place (λ p. (p.start ≤ p.end) × (p.end ≤ length bytes))
first_lies None all bytes is h = tt
first_lies (Some p) [] bytes is h = absurd (cc is)
first_lies (Some p) (c ∷ cs) bytes is h =
    let same : ◌≡◌ {A = ℕ × ℕ} (p.start, p.end) (c.first.offset, c.end) = cc is in
    let start : p.start ≡ c.first.offset = ap (λ x. x.0) same in
    let end : p.end ≡ c.end = ap (λ x. x.1) same in
    (omega (arith, start, end, h.0), omega (arith, end, h.1))

pub kept_lies : (wire : Option (List ℕ)) (bytes : List ℕ) (s : ℕ × List ℕ) (ws : List Word) (j : Journals)
    → declarations_of wire (words_of bytes) ≡ Ok (s, ws) → Holds (scan_words s.1 s.0 start ws).0.journals j → LiesIn bytes j
kept_lies wire bytes s ws j h holds =
    first_lies j.first _ bytes holds.first (scan_lies s.1 s.0 (length bytes) 0 ws start (rest_ordered wire bytes s ws h) (tt, tt))
