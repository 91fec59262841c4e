-- What a witness shows that keeps what it sees: the sights before the answers of a run.
use Rattle.std.proofs.Common.{◌≡◌, ◌<◌, ◌∷◌, ◌++◌, ◌^◌, [], ℕ, zero, suc, Option, Some, None, List, Result, Ok, Err}
use Rattle.std.proofs.Common.{refl, ap, sym, ◌∙◌, subst, append_assoc, length, arith}
use Rattle.std.specs.Prelude.{Contains, IsSome, take}
use Rattle.std.proofs.lemmas.List.Elements.{Contains-append_right}
use Rattle.std.specs.{Io.KnownBytes.Appends, Io.KnownBytes.Consumes, List.AllByRecursion}
use Rattle.std.specs.Path.{path_file_name, split_last_component, trim_trailing, rsplit_once}
use Rattle.std.proofs.lemmas.{List.append-nil, Grind.flat_map-append}
use Rattle.irig_edit.specs.Opened.Openings.{IsOpened}
use Rattle.irig_lines.specs.Lines.{script_lines}
use Rattle.irig_script.specs.declared.obey.dump_run.DumpRunFault.{DumpRunFault}
use Rattle.irig_script.specs.declared.obey.dump_run.DumpRunFault.TheVariants.{Dump, Run}
use Rattle.irig_script.specs.declared.obey.status.RunFault.{RunFault}
use Rattle.irig_script.specs.declared.obey.status.RunFault.TheVariants.{ReadFailed, TooManyReads, PrintFailed}
use Rattle.irig_script.specs.declared.obey.status.Status.{Status}
use Rattle.irig_script.specs.{Obey.Desk.Desk, Obey.Desk.Tells, Obey.DumpRun.RunsOnDump, Obey.Ending.EndsAs, Obey.Machine.Machine}
use Rattle.irig_script.specs.Obey.Run.{Runs, Stopped, IsObeyed, unlines}
use Rattle.irig_script.specs.Print.Printed.{Answer, printed}
use Rattle.irig_script.specs.Obey.Seen.{AreSeen, IsSeen, numbers_in, numbers_of}
use Rattle.irig_script.proofs.{ObeyLemmas.Lines.lines_and, ObeyLemmas.Sights.numbers_in-append}
use Rattle.irig_script.specs.Print.Screen.{Sight, sight}
use Rattle.irig_text.specs.Shelved.{GrowsBy}
use Rattle.irig_script_tests.specs.{Known.Given, Known.Known, Known.all_known, Known.texts_in}
use Rattle.irig_script_tests.specs.Watched.{IsKeptFirst, IsWatched, Watched, sight_before, sights_of}

-- a folder on which no call was done has no text
pub no_texts : texts_in [] ≡ Some []
unfolding path_file_name split_last_component trim_trailing rsplit_once
no_texts = refl

-- what is known stays known
known_out : (out : List ℕ) (new : Option (List ℕ)) (text : List ℕ) → Appends (Some out) new text → new ≡ Some (out ++ text)
known_out out None text h = absurd h
known_out out (Some now) text h = ap Some h

known_list : {T : Type 0} (old : List T) (new : Option (List T)) (more : List T) → GrowsBy (Some old) new more → new ≡ Some (old ++ more)
known_list old None more h = absurd h
known_list old (Some now) more h = ap Some h

-- a sight before an answer
is_sight : (out : List ℕ) (shelf : List (List ℕ)) (before : List Answer) (r : Answer) (texts : List (List ℕ)) (s : Sight)
    → IsSeen (Some out) (Some shelf) before (take (numbers_in (before ++ r ∷ [])) texts) s → s ≡ sight_before out shelf before r texts
is_sight out shelf before r texts s h =
    let printed_then = known_out out s.out (printed before) h.printed in
    let put_then = known_list shelf s.texts (take (numbers_in (before ++ r ∷ [])) texts) h.put in λ j. sight (printed_then j) (put_then j)

-- the sights before answers
are_sights : (out : List ℕ) (shelf : List (List ℕ)) (before rs : List Answer) (texts : List (List ℕ)) (ss : List Sight)
    → AreSeen (Some out) (Some shelf) before rs texts ss → ss ≡ sights_of out shelf before rs texts
are_sights out shelf before [] texts [] h = refl
are_sights out shelf before [] texts (s ∷ ss) h = absurd h
are_sights out shelf before (r ∷ rs) texts [] h = absurd h
are_sights out shelf before (r ∷ rs) texts (s ∷ ss) h =
    let one = is_sight out shelf before r texts s h.0 in
    let others = are_sights out shelf (before ++ r ∷ []) rs texts ss h.1 in λ j. one j ∷ others j

-- one more of a list
record OneMore (ts : List (List ℕ)) (n : ℕ) : Type 0 where
  older : List (List ℕ)
  text : List ℕ
  newer : List (List ℕ)
  cut : ts ≡ older ++ text ∷ newer
  many : length older ≡ n
  front : take (suc n) ts ≡ older ++ text ∷ []

one_more : (ts : List (List ℕ)) (n : ℕ) → n < length ts → OneMore ts n
one_more [] n few = absurd (omega (arith, few))
one_more (t ∷ ts) zero few = record { older = []; text = t; newer = ts; cut = refl; many = refl; front = refl }
one_more (t ∷ ts) (suc n) few =
    let next = one_more ts n (omega (arith, few)) in
    record {
      older = t ∷ next.older;
      text = next.text;
      newer = next.newer;
      cut = ap (λ l. t ∷ l) next.cut;
      many = ap (λ k. suc k) next.many;
      front = ap (λ l. t ∷ l) next.front;
    }

-- the sight before an answer is among them
at_number : (out : List ℕ) (shelf texts : List (List ℕ)) (first before after : List Answer) (number : Answer)
    → Contains (sights_of out shelf first (before ++ number ∷ after) texts) (sight_before out shelf (first ++ before) number texts)
at_number out shelf texts first [] after number =
    subst (λ (l : List Answer). Contains (sights_of out shelf first (number ∷ after) texts) (sight_before out shelf l number texts)) (sym (append-nil first))
    (0, omega arith, refl)
at_number out shelf texts first (r ∷ before) after number =
    subst (λ (l : List Answer). Contains (sights_of out shelf first (r ∷ (before ++ number ∷ after)) texts) (sight_before out shelf l number texts))
    (append_assoc first (r ∷ []) before)
    (Contains-append_right (sight_before out shelf first r texts ∷ []) _ _ (at_number out shelf texts (first ++ r ∷ []) before after number))

kept_first : (out : List ℕ) (shelf texts : List (List ℕ)) (answers before after : List Answer) (number : Answer)
    → length texts ≡ numbers_in answers → answers ≡ before ++ number ∷ after → numbers_of number.reply ≡ 1
    → IsKeptFirst out shelf before texts (sights_of out shelf [] answers texts)
kept_first out shelf texts answers before after number many cut one =
    let all : length texts ≡ numbers_in (before ++ number ∷ after) = many ∙ ap numbers_in cut in
    let few : numbers_in before < length texts = omega (arith, all, one, numbers_in-append before (number ∷ after)) in
    let next : numbers_in (before ++ number ∷ []) ≡ suc (numbers_in before) = omega (arith, one, numbers_in-append before (number ∷ [])) in
    let split = one_more texts (numbers_in before) few in
    let seen_then = (λ (ts : List (List ℕ)). sight (Some (out ++ printed before)) (Some (shelf ++ ts))) in
    let front : take (numbers_in (before ++ number ∷ [])) texts ≡ split.older ++ split.text ∷ [] = ap (λ k. take k texts) next ∙ split.front in
    record {
      older = split.older;
      text = split.text;
      newer = split.newer;
      cut = split.cut;
      many = split.many;
      seen = subst (λ (l : List Answer). Contains (sights_of out shelf [] l texts) (seen_then (split.older ++ split.text ∷ [])))
          (sym cut)
          (subst (λ (ts : List (List ℕ)). Contains (sights_of out shelf [] (before ++ number ∷ after) texts) (seen_then ts))
          front (at_number out shelf texts [] before after number));
    }

-- what is known of a desk
abbrev known_of : Desk → Known
known_of d = record { out = d.out; texts = d.shelf.texts; seen = d.seen }

-- whole lines that were read are the first of a script
first_lines : (script bytes rest : List ℕ) (left : Option (List ℕ)) (lines : List (List ℕ)) → Consumes (Some script) left bytes
    → AllByRecursion IsObeyed lines → bytes ≡ unlines lines ++ rest → (others : List (List ℕ)) × (script_lines script ≡ lines ++ others)
first_lines script bytes rest None lines read each cut = absurd read
first_lines script bytes rest (Some left) lines read each cut =
    let whole : script ≡ unlines lines ++ (rest ++ left) = read ∙ (ap (λ (l : List ℕ). l ++ left) cut ∙ append_assoc (unlines lines) rest left) in
    (script_lines (rest ++ left), ap script_lines whole ∙ lines_and lines (rest ++ left) each)

-- the answers of some lines, printed whole or in part, from a desk of which all is known
module _ (of : Given) (out : List ℕ) (shelf : List (List ℕ)) (seen : List Sight) (old new : Desk) (shows : known_of old ≡ all_known out shelf seen)
    (first last : Machine) (opened : IsOpened None of.dump of.format first) where
  watched_by : (lines others : List (List ℕ)) (answers : List Answer) (texts : List (List ℕ)) (text missing : List ℕ)
      → script_lines of.script ≡ lines ++ others → Runs first lines answers texts last → printed answers ≡ text ++ missing → Tells old new text answers texts
      → Watched of out shelf seen (known_of new)
  watched_by lines others answers texts text missing cut runs whole told =
      let sees : old.seen ≡ Some seen = ap (λ (k : Known). k.seen) shows in
      let each = told.each (subst (λ (o : Option (List Sight)). IsSome o) (sym sees) refl) in
      let are : AreSeen (Some out) (Some shelf) [] answers texts told.sights =
      subst (λ (k : Known). AreSeen k.out k.texts [] answers texts told.sights) shows each in
      let same = are_sights out shelf [] answers texts told.sights are in
      let out_then = known_out out new.out text (subst (λ (k : Known). Appends k.out new.out text) shows told.printed) in
      let put_then = known_list shelf new.shelf.texts texts (subst (λ (k : Known). GrowsBy k.texts new.shelf.texts texts) shows told.put.put) in
      let seen_then = known_list seen new.seen told.sights (subst (λ (k : Known). GrowsBy k.seen new.seen told.sights) shows told.seen)
      ∙ ap (λ (l : List Sight). Some (seen ++ l)) same in
      record {
        first = first;
        last = last;
        opened = opened;
        lines = lines;
        others = others;
        cut = cut;
        answers = answers;
        texts = texts;
        runs = runs;
        many = told.many;
        text = text;
        missing = missing;
        whole = whole;
        left = λ j. record { out = out_then j; texts = put_then j; seen = seen_then j };
        numbers = λ before after number. kept_first out shelf texts answers before after number told.many;
      }

  watched_stop : (left : Option (List ℕ)) (least : ℕ) → Stopped old new (Some of.script) left first last least → Watched of out shelf seen (known_of new)
  watched_stop left least h =
      let before = first_lines of.script h.bytes h.rest left h.goes.lines h.read h.goes.each h.goes.cut in
      watched_by h.goes.lines before.0 h.answers h.texts (printed h.answers) [] before.1 h.goes.runs (sym (append-nil (printed h.answers))) h.told

  -- a run of a known script, however it ended
  watched_end : (left : Option (List ℕ)) (result : Result Status RunFault) → EndsAs (Some of.script) left old new first last result
      → Watched of out shelf seen (known_of new)
  watched_end left (Ok status) h =
      watched_by (script_lines of.script) [] h.answers h.texts (printed h.answers) [] (sym (append-nil (script_lines of.script))) h.runs
      (sym (append-nil (printed h.answers))) h.told
  watched_end left (Err ReadFailed) h = watched_stop left 0 h
  watched_end left (Err TooManyReads) h = watched_stop left (2 ^ 32) h
  watched_end left (Err PrintFailed) h =
      let whole : printed (h.answers ++ h.last ∷ []) ≡ (printed h.answers ++ h.front) ++ h.back =
      flat_map-append (λ (answer : Answer). answer.text) h.answers (h.last ∷ [])
      ∙ (ap (λ (l : List ℕ). printed h.answers ++ l) (append-nil h.last.text ∙ h.part) ∙ sym (append_assoc (printed h.answers) h.front h.back)) in
      watched_by h.lines h.others (h.answers ++ h.last ∷ []) h.texts (printed h.answers ++ h.front) h.back h.cut h.runs whole h.told

-- a run on a dump
pub watched_run : (of : Given) (out : List ℕ) (shelf : List (List ℕ)) (seen : List Sight) (old new : Desk) → known_of old ≡ all_known out shelf seen
    → (left : Option (List ℕ)) (result : Result Status DumpRunFault) → RunsOnDump None of.format of.dump (Some of.script) left old new result
    → IsWatched of out shelf seen (known_of new) result
watched_run of out shelf seen old new shows left (Err (Dump fault)) h = ap known_of h.2 ∙ shows
watched_run of out shelf seen old new shows left (Err (Run fault)) h =
    watched_end of out shelf seen old new shows h.first h.last h.opened left (Err fault) h.ran
watched_run of out shelf seen old new shows left (Ok status) h = watched_end of out shelf seen old new shows h.first h.last h.opened left (Ok status) h.ran
