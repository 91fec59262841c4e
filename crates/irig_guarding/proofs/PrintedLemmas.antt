-- The script that was printed has one run.
use Rattle.std.proofs.Common.{◌≡◌, ℕ, Bool, false, Option, List, [], ◌∷◌, map, refl, ap, sym, ◌∙◌, arith}
use Rattle.std.specs.List.{AllByRecursion}
use Rattle.irig_edit.specs.{Session.Runs.OneOutcome, Session.Work.Work}
use Rattle.irig_lines.specs.Lines.{script_lines}
use Rattle.irig_script.specs.{Obey.Desk.Tells, Obey.Desk.desk, Obey.Desk.failures_in, Obey.Desk.status_after, Obey.Seen.numbers_in, Obey.Machine.Machine, Obey.OneRun.RunOf}
use Rattle.irig_script.specs.{Obey.OneRun.tells_failed_put, Obey.OneRun.wants_memory, Obey.Run.Runs, Print.Printed.Answer, Print.Printed.printed}
use Rattle.irig_script.proofs.{LawLemmas.SameRun.one_run, ObeyLemmas.Desks.tells_none}
use Rattle.irig_text.specs.Shelved.{Shelved}
use Rattle.irig_guarding.specs.Guarded.{PrintedIsObeyed, silence}

none_printed : (lines : List (List ℕ)) → printed (map silence lines) ≡ []
none_printed [] = refl
none_printed (line ∷ lines) = none_printed lines

none_failed : (lines : List (List ℕ)) → failures_in (map silence lines) ≡ 0
none_failed [] = refl
none_failed (line ∷ lines) = let rest = none_failed lines in omega (arith, rest)

none_numbered : (lines : List (List ℕ)) → 0 ≡ numbers_in (map silence lines)
none_numbered [] = refl
none_numbered (line ∷ lines) = let rest = none_numbered lines in omega (arith, rest)

-- a desk with no witness, at which silence is kept
told_nothing : (out : Option (List ℕ)) (shelf : Shelved) (lines : List (List ℕ))
    → Tells (desk out shelf) (desk out shelf) (printed (map silence lines)) (map silence lines) []
told_nothing out shelf lines =
    let t = tells_none (desk out shelf) in
    record {
      printed = rw (none_printed lines) t.printed;
      put = rw (none_failed lines) t.put;
      many = none_numbered lines;
      sights = [];
      seen = tt;
      each = λ known. absurd (cc);
    }

-- as many answers as lines
same_tests : (test : Answer → Bool) → ((line : List ℕ) → test (silence line) ≡ false) → (old new : Machine) (lines : List (List ℕ)) (answers : List Answer)
    (texts : List (List ℕ)) → Runs old lines answers texts new → AllByRecursion (λ a. test a ≡ false) answers
    → map test (map silence lines) ≡ map test answers
same_tests test quiet old new [] [] texts h all = refl
same_tests test quiet old new [] (a ∷ answers) texts h all = absurd h
same_tests test quiet old new (line ∷ lines) [] texts h all = absurd h
same_tests test quiet old new (line ∷ lines) (a ∷ answers) texts h all =
    let rest = same_tests test quiet h.0 new lines answers h.3.0 h.3.2 all.1 in
    (λ i. (quiet line ∙ sym all.0) i ∷ rest i)

firsts : (P Q : Answer → Type 0) (answers : List Answer) → AllByRecursion (λ a. P a × Q a) answers → AllByRecursion P answers × AllByRecursion Q answers
firsts P Q [] h = (tt, tt)
firsts P Q (a ∷ answers) h = let rest = firsts P Q answers h.1 in ((h.0.0, rest.0), (h.0.1, rest.1))

pub printed_is_obeyed : OneOutcome → PrintedIsObeyed
printed_is_obeyed outcome terms opened script now g run start nothing =
    let lines = script_lines script in
    let tests = firsts (λ a. wants_memory a.reply ≡ false) (λ a. tells_failed_put a.reply ≡ false) run.ran.answers nothing in
    let mine : RunOf script = record {
      from = desk run.from.out run.from.shelf;
      to = desk run.from.out run.from.shelf;
      before = run.before;
      after = status_after run.before (map silence lines);
      old = opened;
      new = g.left;
      ran = record {
        answers = map silence lines;
        texts = [];
        status = refl;
        told = told_nothing run.from.out run.from.shelf lines;
        runs = g.runs;
      };
    } in
    let same = one_run outcome script mine run record { status = refl; machine = sym start; printed = refl; put = refl } record {
      memory = same_tests (λ a. wants_memory a.reply) (λ line. refl) run.old run.new lines run.ran.answers run.ran.texts run.ran.runs tests.0;
      puts = same_tests (λ a. tells_failed_put a.reply) (λ line. refl) run.old run.new lines run.ran.answers run.ran.texts run.ran.runs tests.1;
    } in (
      sym same.answers,
      record {
        state = ap (λ (w : Work). w.state) (sym same.machine) ∙ g.same.state;
        cursor = ap (λ (w : Work). w.cursor) (sym same.machine) ∙ g.same.cursor;
        past = ap (λ (w : Work). w.past) (sym same.machine) ∙ g.same.past;
        floor = ap (λ (w : Work). w.floor) (sym same.machine) ∙ g.same.floor;
      },
      sym same.machine,
    )
