-- What was read of words is read of them with more words after them.
use Rattle.std.proofs.Common.{◌≡◌, ◌∷◌, [], ◌++◌, ℕ, Bool, true, false, cond, List, Option, Some, None, Result, Ok, Err, refl, ap, ◌∙◌}
use Rattle.irig_vcd.specs.Cut.{Section, Stop, no_end, no_definitions, bad, ended, Cut, cut_from, stop_at, then_cut, is_stray, is_last}
use Rattle.irig_vcd.specs.Declarations.{Heading, nothing, judged, stopped, read_cut, start_of, declarations_of}
use Rattle.irig_vcd.specs.{Answer.◌>>=◌, Answer.pair_of, Sections.is_end, Sections.section_of, Words.Word, declared.fault.VcdFault.VcdFault}

-- the declarations end in these sections, and those words are after them
abbrev EndsIn : Cut → List Section → List Word → Type 0
EndsIn c ss ws = ◌≡◌ {A = Cut} c (record { sections = ss; stop = ended ws })

abbrev Ends : Stop → List Word → Type 0
Ends s ws = ◌≡◌ {A = Stop} s (ended ws)

between_more : (stray : Bool) (offset : ℕ) (c d : Cut) (rest more : List Word) → (Ends c.stop rest → EndsIn d c.sections (rest ++ more))
    → Ends (cond stray (stop_at (bad offset)) c).stop rest
    → EndsIn (cond stray (stop_at (bad offset)) d) (cond stray (stop_at (bad offset)) c).sections (rest ++ more)
between_more true offset c d rest more ih h = absurd (cc h)
between_more false offset c d rest more ih h = ih h

words_so : Stop → List Word → List Word
words_so (ended words) other = words
words_so _ other = other

within_more : (ends last : Bool) (s : Section) (ws rest more : List Word) (c d e f : Cut) → (Ends c.stop rest → EndsIn d c.sections (rest ++ more))
    → (Ends e.stop rest → EndsIn f e.sections (rest ++ more))
    → Ends (cond ends (cond last (stop_at (ended ws)) (then_cut s c)) e).stop rest
    → EndsIn (cond ends (cond last (stop_at (ended (ws ++ more))) (then_cut s d)) f) (cond ends (cond last (stop_at (ended ws)) (then_cut s c)) e).sections
    (rest ++ more)
unfolding words_so
within_more true true s ws rest more c d e f ih jh h =
    let same : ws ≡ rest = ap (λ stop. words_so stop []) h in
    ap (λ (l : List Word). stop_at (ended (l ++ more))) same
within_more true false s ws rest more c d e f ih jh h = ap (then_cut s) (ih h)
within_more false last s ws rest more c d e f ih jh h = jh h

cut_more : (section : Option Section) (ws rest more : List Word) → Ends (cut_from section ws).stop rest
    → EndsIn (cut_from section (ws ++ more)) (cut_from section ws).sections (rest ++ more)
cut_more None [] rest more h = absurd (cc h)
cut_more None (w ∷ ws) rest more h =
    let s : Section = record { kind = section_of w.bytes; words = [] } in
    between_more (is_stray (section_of w.bytes)) w.offset (cut_from (Some s) ws) (cut_from (Some s) (ws ++ more)) rest more (cut_more (Some s) ws rest more) h
cut_more (Some s) [] rest more h = absurd (cc h)
cut_more (Some s) (w ∷ ws) rest more h =
    let t : Section = record { kind = s.kind; words = s.words ++ w.bytes ∷ [] } in
    within_more (is_end w.bytes) (is_last s.kind) s ws rest more (cut_from None ws) (cut_from None (ws ++ more)) (cut_from (Some t) ws)
    (cut_from (Some t) (ws ++ more)) (cut_more None ws rest more) (cut_more (Some t) ws rest more) h

stops_so : (h : Heading) (stop : Stop) (g : Heading) (ws : List Word) → stopped h stop ≡ Ok (g, ws) → (h ≡ g) × Ends stop ws
stops_so h no_end g ws is = absurd (cc is)
stops_so h no_definitions g ws is = absurd (cc is)
stops_so h (bad offset) g ws is = absurd (cc is)
stops_so h (ended words) g ws is =
    let same : ◌≡◌ {A = Heading × List Word} (h, words) (g, ws) = cc is in (ap (λ p. p.0) same, ap (λ p. ended p.1) same)

judged_so : (r : Result Heading VcdFault) (stop : Stop) (g : Heading) (ws : List Word) → (r >>= λ h. stopped h stop) ≡ Ok (g, ws)
    → (r ≡ Ok g) × Ends stop ws
judged_so (Ok h) stop g ws is = let p = stops_so h stop g ws is in (ap (λ k. Ok k) p.0, p.1)
judged_so (Err e) stop g ws is = absurd (cc is)

read_more : (h g : Heading) (ws rest more : List Word) → read_cut h (cut_from None ws) ≡ Ok (g, rest)
    → read_cut h (cut_from None (ws ++ more)) ≡ Ok (g, rest ++ more)
read_more h g ws rest more is =
    let p = judged_so (judged h (cut_from None ws).sections) (cut_from None ws).stop g rest is in
    ap (read_cut h) (cut_more None ws rest more p.1) ∙ ap (λ r. r >>= λ k. stopped k (ended (rest ++ more))) p.0

started_so : (r : Result (ℕ × List ℕ) VcdFault) (l more ws : List Word) (s : ℕ × List ℕ) → (r >>= λ x. pair_of x l) ≡ Ok (s, ws)
    → (r >>= λ x. pair_of x (l ++ more)) ≡ Ok (s, ws ++ more)
started_so (Ok x) l more ws s h =
    let same : ◌≡◌ {A = (ℕ × List ℕ) × List Word} (x, l) (s, ws) = cc h in
    ap (λ (p : (ℕ × List ℕ) × List Word). pair_of p.0 (p.1 ++ more)) same
started_so (Err e) l more ws s h = absurd (cc h)

starts_so : (wire : Option (List ℕ)) (r q : Result (Heading × List Word) VcdFault) (more ws : List Word) (s : ℕ × List ℕ)
    → ((x : Heading × List Word) → r ≡ Ok x → q ≡ Ok (x.0, x.1 ++ more))
    → (r >>= λ x. start_of wire x.0 >>= λ s. pair_of s x.1) ≡ Ok (s, ws)
    → (q >>= λ x. start_of wire x.0 >>= λ s. pair_of s x.1) ≡ Ok (s, ws ++ more)
starts_so wire (Ok x) q more ws s longer h = rw (longer x refl) (started_so (start_of wire x.0) x.1 more ws s h)
starts_so wire (Err e) q more ws s longer h = absurd (cc h)

-- what the declarations say stays the same, whatever words come after those that are there
pub declared_more : (wire : Option (List ℕ)) (ws rest more : List Word) (s : ℕ × List ℕ) → declarations_of wire ws ≡ Ok (s, rest)
    → declarations_of wire (ws ++ more) ≡ Ok (s, rest ++ more)
unfolding declarations_of
declared_more wire ws rest more s h =
    starts_so wire (read_cut nothing (cut_from None ws)) (read_cut nothing (cut_from None (ws ++ more))) more rest s
    (λ x is. read_more nothing x.0 ws x.1 more is) h
