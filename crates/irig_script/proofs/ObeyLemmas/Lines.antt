-- A script by its lines, and what they make of a desk and a machine.
use Rattle.std.proofs.Common.{◌≡◌, ◌≢◌, ◌==◌, ◌+◌, ◌<◌, ◌++◌, ◌∷◌, [], ℕ, Bool, true, false, List, length, take, drop, get_or, refl, ap, sym, ◌∙◌}
use Rattle.std.proofs.Common.{subst, append_assoc}
use Rattle.std.specs.List.{AllByRecursion}
use Rattle.std.proofs.lemmas.{List.append-nil, List.take-append-drop, List.take_more, Grind.flat_map-append}
use Rattle.irig_script.specs.Obey.Run.{Runs, Goes, IsPlain, IsObeyed, unlines}
use Rattle.irig_script.specs.Obey.Progress.{Holds, Ends, Obeyed, BrokeIn}
use Rattle.irig_script.specs.{Obey.Machine.Machine, Obey.Answer.Answered, Print.Printed.Answer, Print.Printed.printed, Obey.Desk.Desk, Obey.Desk.desk_at, Print.Screen.Shown}
use Rattle.irig_script.specs.{Obey.Desk.Tells, Obey.Desk.status_after, declared.obey.status.Status.Status, declared.obey.line.Line.Line}
use Rattle.irig_lines.specs.Lines.{lines_of, until_quit, script_lines, is_quit}
use Rattle.irig_text.specs.Shelved.{Shelved}
use Rattle.irig_script.proofs.ObeyLemmas.Desks.{status_after-append, tells_none, tells-answers, tells-part}

-- a byte before a text that has no newline
pub plain_first : (b : ℕ) (text : List ℕ) → IsPlain (b ∷ text) → ((b == 10) ≡ false) × IsPlain text
plain_first b text h = go (b == 10) refl
  where
    go : (t : Bool) → (b == 10) ≡ t → ((b == 10) ≡ false) × IsPlain text
    go true t = let bad : false ≡ true = rw t at h in cc
    go false t = (t, rw t at h)

pub first_line : (text rest : List ℕ) → IsPlain text → lines_of (text ++ 10 ∷ rest) ≡ text ∷ lines_of rest
first_line [] rest h = refl
first_line (b ∷ text) rest h =
    let p = plain_first b text h in
    rw (p.0, first_line text rest p.1) refl

pub last_line : (b : ℕ) (text : List ℕ) → IsPlain (b ∷ text) → lines_of (b ∷ text) ≡ (b ∷ text) ∷ []
last_line b [] h = rw (plain_first b [] h).0 refl
last_line b (c ∷ text) h =
    let p = plain_first b (c ∷ text) h in
    rw (p.0, last_line c text p.1) refl

-- the lines before one that is obeyed, or that ends the script
pub until_obeyed : (line : List ℕ) (lines : List (List ℕ)) → is_quit line ≡ false → until_quit (line ∷ lines) ≡ line ∷ until_quit lines
until_obeyed line lines e = rw e refl

pub until_ended : (line : List ℕ) (lines : List (List ℕ)) → is_quit line ≡ true → until_quit (line ∷ lines) ≡ []
until_ended line lines e = rw e refl

-- lines that are obeyed, and what comes after them
pub lines_and : (lines : List (List ℕ)) (rest : List ℕ) → AllByRecursion IsObeyed lines → script_lines (unlines lines ++ rest) ≡ lines ++ script_lines rest
lines_and [] rest h = refl
lines_and (line ∷ lines) rest h =
    let cut : unlines (line ∷ lines) ++ rest ≡ line ++ 10 ∷ (unlines lines ++ rest) = append_assoc (line ++ 10 ∷ []) (unlines lines) rest
    ∙ append_assoc line (10 ∷ []) (unlines lines ++ rest) in
    ap script_lines cut ∙ ap until_quit (first_line line (unlines lines ++ rest) h.0.0) ∙ until_obeyed line (lines_of (unlines lines ++ rest)) h.0.1
    ∙ ap (λ l. line ∷ l) (lines_and lines rest h.1)

-- runs in turn
pub runs-runs : (a b c : Machine) (xs ys : List (List ℕ)) (rs qs : List Answer) (ts us : List (List ℕ)) → Runs a xs rs ts b → Runs b ys qs us c
    → Runs a (xs ++ ys) (rs ++ qs) (ts ++ us) c
runs-runs a b c [] ys [] qs ts us h k =
    let from_a : Runs a ys qs us c = subst (λ (s : Machine). Runs s ys qs us c) h.1 k in
    let e : ts ++ us ≡ us = ap (λ l. l ++ us) h.0 in
    subst (λ (l : List (List ℕ)). Runs a ys qs l c) (sym e) from_a
runs-runs a b c [] ys (r ∷ rs) qs ts us h k = absurd h
runs-runs a b c (x ∷ xs) ys [] qs ts us h k = absurd h
runs-runs a b c (x ∷ xs) ys (r ∷ rs) qs ts us h k =
    (h.0, h.1, h.2, (h.3.0 ++ us, ap (λ l. l ++ us) h.3.1 ∙ append_assoc h.1 h.3.0 us, runs-runs h.0 b c xs ys rs qs h.3.0 us h.3.2 k))

pub runs_one : (a b : Machine) (line : List ℕ) (answer : Answer) (texts : List (List ℕ)) → Answered a line answer texts b
    → Runs a (line ∷ []) (answer ∷ []) texts b
runs_one a b line answer texts h = (b, texts, h, ([], sym (append-nil texts), (refl, refl)))

each-append : (xs ys : List (List ℕ)) → AllByRecursion IsObeyed xs → AllByRecursion IsObeyed ys → AllByRecursion IsObeyed (xs ++ ys)
each-append [] ys h k = k
each-append (x ∷ xs) ys h k = (h.0, each-append xs ys h.1 k)

-- two parts of a script in turn: the second begins with what the first left
pub goes-goes : (one two : List ℕ) (a b c : Machine) (left rest : List ℕ) (rs qs : List Answer) (ts us : List (List ℕ)) → Goes one a rs ts b left
    → Goes (left ++ two) b qs us c rest → Goes (one ++ two) a (rs ++ qs) (ts ++ us) c rest
goes-goes one two a b c left rest rs qs ts us h k = record {
  lines = h.lines ++ k.lines;
  each = each-append h.lines k.lines h.each k.each;
  cut = ap (λ l. l ++ two) h.cut ∙ (append_assoc (unlines h.lines) left two ∙ (ap (λ l. unlines h.lines ++ l) k.cut
      ∙ (sym (append_assoc (unlines h.lines) (unlines k.lines) rest) ∙ ap (λ l. l ++ rest) (sym (flat_map-append (λ line. line ++ 10 ∷ []) h.lines k.lines)))));
  runs = runs-runs a b c h.lines k.lines rs qs ts us h.runs k.runs;
}

pub goes_none : (text : List ℕ) (s : Machine) → Goes text s [] [] s text
goes_none text s = record { lines = []; each = tt; cut = refl; runs = (refl, refl) }

-- a line that is obeyed
pub goes_line : (text : List ℕ) (a b : Machine) (answer : Answer) (texts : List (List ℕ)) → IsObeyed text → Answered a text answer texts b
    → Goes (text ++ 10 ∷ []) a (answer ∷ []) texts b []
goes_line text a b answer texts each h = record {
  lines = text ∷ [];
  each = (each, tt);
  cut = sym (append-nil _ ∙ append-nil (text ++ 10 ∷ []));
  runs = runs_one a b text answer texts h;
}

pub goes_rest : (one more : List ℕ) (s t : Machine) (rest : List ℕ) (rs : List Answer) (ts : List (List ℕ)) → Goes one s rs ts t rest
    → Goes (one ++ more) s rs ts t (rest ++ more)
goes_rest one more s t rest rs ts h = record {
  lines = h.lines;
  each = h.each;
  cut = ap (λ l. l ++ more) h.cut ∙ append_assoc (unlines h.lines) rest more;
  runs = h.runs;
}

-- what is kept over the bytes so far: all were obeyed from the empty line on
pub obeyed_none : (a : Desk) (st : Status) (text : List ℕ) (s : Machine) (line : Line) → Holds text line → Obeyed false a a st st s s text line
obeyed_none a st text s line h = record { answers = []; texts = []; status = refl; told = tells_none a; ends = (text, goes_none text s, h) }

-- how one more part ends
ends_more : (last : Bool) (s t u : Machine) (one two left : List ℕ) (rs qs : List Answer) (ts us : List (List ℕ)) (line : Line) → Goes one s rs ts t left
    → Ends last (left ++ two) t qs us u line → Ends last (one ++ two) s (rs ++ qs) (ts ++ us) u line
ends_more false s t u one two left rs qs ts us line h e = (e.0, goes-goes one two s t u left e.0 rs qs ts us h e.1, e.2)
ends_more true s t u one two left rs qs ts us line h e =
    (e.0, e.1, e.2, e.3, goes-goes one two s t u left (e.0 ++ 10 ∷ e.1) rs qs ts us h e.4)

-- one more part, given what the next part makes of the line left
pub obeyed_more : (last : Bool) (a b c : Desk) (st su sv : Status) (s t u : Machine) (one two : List ℕ) (mid line : Line) → Obeyed false a b st su s t one mid
    → ((left : List ℕ) → Holds left mid → Obeyed last b c su sv t u (left ++ two) line) → Obeyed last a c st sv s u (one ++ two) line
obeyed_more last a b c st su sv s t u one two mid line h k =
    let left = h.ends.0 in
    let more = k left h.ends.2 in
    record {
      answers = h.answers ++ more.answers;
      texts = h.texts ++ more.texts;
      status = more.status ∙ ap (λ x. status_after x more.answers) h.status ∙ sym (status_after-append st h.answers more.answers);
      told = tells-answers a b c h.answers more.answers h.texts more.texts h.told more.told;
      ends = ends_more last s t u one two left h.answers more.answers h.texts more.texts line h.ends.1 more.ends;
    }

-- what comes after the end is not obeyed
pub obeyed_rest : (a b : Desk) (st su : Status) (s t : Machine) (one more : List ℕ) (line : Line) → Obeyed true a b st su s t one line
    → Obeyed true a b st su s t (one ++ more) line
obeyed_rest a b st su s t one more line h =
    let q = h.ends in
    record {
      answers = h.answers;
      texts = h.texts;
      status = h.status;
      told = h.told;
      ends = (
        q.0,
        q.1 ++ more,
        q.2,
        q.3,
        subst (λ (l : List ℕ). Goes (one ++ more) s h.answers h.texts t l) (append_assoc q.0 (10 ∷ q.1) more)
            (goes_rest one more s t (q.0 ++ 10 ∷ q.1) h.answers h.texts q.4),
      );
    }

-- a print that failed, after a part that was obeyed
pub broke_more : (a b c : Desk) (st su : Status) (s t u : Machine) (one two : List ℕ) (mid : Line) → Obeyed false a b st su s t one mid
    → ((left : List ℕ) → Holds left mid → BrokeIn b c t u (left ++ two)) → BrokeIn a c s u (one ++ two)
broke_more a b c st su s t u one two mid h k =
    let left = h.ends.0 in
    let m = k left h.ends.2 in
    let back = sym (append_assoc h.answers m.answers (m.last ∷ [])) in
    record {
      answers = h.answers ++ m.answers;
      last = m.last;
      front = m.front;
      back = m.back;
      rest = m.rest;
      texts = h.texts ++ m.texts;
      part = m.part;
      missing = m.missing;
      told = tells-part a b c h.answers m.answers m.last m.front h.texts m.texts h.told m.told;
      goes = subst (λ (l : List Answer). Goes (one ++ two) s l (h.texts ++ m.texts) u m.rest) back
          (goes-goes one two s t u left m.rest h.answers (m.answers ++ m.last ∷ []) h.texts m.texts h.ends.1 m.goes);
    }

pub broke_rest : (a b : Desk) (s t : Machine) (one more : List ℕ) → BrokeIn a b s t one → BrokeIn a b s t (one ++ more)
broke_rest a b s t one more m = record {
  answers = m.answers;
  last = m.last;
  front = m.front;
  back = m.back;
  rest = m.rest ++ more;
  texts = m.texts;
  part = m.part;
  missing = m.missing;
  told = m.told;
  goes = goes_rest one more s t m.rest (m.answers ++ m.last ∷ []) m.texts m.goes;
}

-- one more element, and all of them
pub next_text : (text l : List ℕ) (i : ℕ) → i < length l → (text ++ take i l) ++ get_or l i 0 ∷ [] ≡ text ++ take (i + 1) l
next_text text l i h = append_assoc text (take i l) (get_or l i 0 ∷ []) ∙ ap (λ t. text ++ t) (sym (take_more l i 0 h))

pub whole_text : (text l : List ℕ) (i : ℕ) → i < length l → ((text ++ take i l) ++ get_or l i 0 ∷ []) ++ drop (i + 1) l ≡ text ++ l
whole_text text l i h = ap (λ t. t ++ drop (i + 1) l) (next_text text l i h)
    ∙ (append_assoc text (take (i + 1) l) (drop (i + 1) l) ∙ ap (λ t. text ++ t) (take-append-drop (i + 1) l))

-- a line that was answered whole, or in front
pub obeyed_line : (a b : Desk) (st su : Status) (text : List ℕ) (s t : Machine) (answer : Answer) (texts : List (List ℕ)) (line : Line) → IsPlain text
    → is_quit text ≡ false → Answered s text answer texts t
    → Tells a b (printed (answer ∷ [])) (answer ∷ []) texts → su ≡ status_after st (answer ∷ []) → Holds [] line
    → Obeyed false a b st su s t (text ++ 10 ∷ []) line
obeyed_line a b st su text s t answer texts line plain q h p e l =
    record { answers = answer ∷ []; texts = texts; status = e; told = p; ends = ([], goes_line text s t answer texts (plain, q) h, l) }

pub obeyed_quit : (a : Desk) (st : Status) (text : List ℕ) (s : Machine) (line : Line) → IsPlain text → is_quit text ≡ true
    → Obeyed true a a st st s s (text ++ 10 ∷ []) line
obeyed_quit a st text s line plain q = record {
  answers = [];
  texts = [];
  status = refl;
  told = tells_none a;
  ends =
      (text, [], plain, q, goes_none (text ++ 10 ∷ []) s);
}

-- a line that ends the script leaves all as it was
pub obeyed_end : (screen : Shown) (t u : Shelved) (st : Status) (text : List ℕ) (s m : Machine) (line : Line) → IsPlain text → is_quit text ≡ true
    → m ≡ s → u ≡ t → Obeyed true (desk_at screen t) (desk_at screen u) st st s m (text ++ 10 ∷ []) line
obeyed_end screen t u st text s m line plain q e p =
    subst (λ (k : Shelved). Obeyed true (desk_at screen t) (desk_at screen k) st st s m (text ++ 10 ∷ []) line) (sym p)
    (subst (λ (k : Machine). Obeyed true (desk_at screen t) (desk_at screen t) st st s k (text ++ 10 ∷ []) line) (sym e)
    (obeyed_quit (desk_at screen t) st text s line plain q))

pub broke_line : (a b : Desk) (text : List ℕ) (s t : Machine) (front back : List ℕ) (answer : Answer) (texts : List (List ℕ)) → IsPlain text
    → is_quit text ≡ false → Answered s text answer texts t
    → answer.text ≡ front ++ back → back ≢ [] → Tells a b front (answer ∷ []) texts → BrokeIn a b s t (text ++ 10 ∷ [])
broke_line a b text s t front back answer texts plain q h e n p =
    record {
      answers = [];
      last = answer;
      front = front;
      back = back;
      rest = [];
      texts = texts;
      part = e;
      missing = n;
      told = p;
      goes =
          goes_line text s t answer texts (plain, q) h;
    }
