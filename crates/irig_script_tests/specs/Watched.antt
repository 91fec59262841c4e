-- What a run leaves whose witness keeps what it sees. This project's own.
use Rattle.std.specs.Prelude.{◌≡◌, ◌∷◌, ◌++◌, ℕ, List, [], Some, None, Result, Ok, Err}
use Rattle.std.specs.Prelude.{Contains, length, take}
use Rattle.irig_lines.specs.Lines.{script_lines}
use Rattle.irig_edit.specs.Opened.Openings.{IsOpened}
use Rattle.irig_script.specs.declared.obey.dump_run.DumpRunFault.{DumpRunFault}
use Rattle.irig_script.specs.declared.obey.dump_run.DumpRunFault.TheVariants.{Dump, Run}
use Rattle.irig_script.specs.declared.obey.status.Status.{Status}
use Rattle.irig_script.specs.{Obey.Machine.Machine, Obey.Run.Runs, Obey.Seen.numbers_in}
use Rattle.irig_script.specs.Obey.Seen.{numbers_of}
use Rattle.irig_script.specs.Print.Printed.{Answer, printed}
use Rattle.irig_script.specs.Print.Screen.{Sight, sight}
use Rattle.irig_script_tests.specs.Known.{Given, Known, all_known}

-- what is printed and written before an answer is printed: the answers before it, and the texts of
-- all numbers up to its own
abbrev pub sight_before : List ℕ → List (List ℕ) → List Answer → Answer → List (List ℕ) → Sight
sight_before out shelf before answer texts = sight (Some (out ++ printed before))
    (Some (shelf ++ take (numbers_in (before ++ answer ∷ [])) texts))

-- so it is before each of these answers, after others
abbrev pub sights_of : List ℕ → List (List ℕ) → List Answer → List Answer → List (List ℕ)
    → List Sight
sights_of out shelf before [] texts = []
sights_of out shelf before (answer ∷ answers) texts = sight_before out shelf before answer texts
    ∷ sights_of out shelf (before ++ answer ∷ []) answers texts

-- before a number, after these answers, the witness saw the output without it, and its text as the
-- newest on the shelf
pub record IsKeptFirst (out : List ℕ) (shelf : List (List ℕ)) (before : List Answer)
    (texts : List (List ℕ)) (sights : List Sight) : Type 0 where
  pub older : List (List ℕ)
  pub text : List ℕ
  pub newer : List (List ℕ)
  pub cut : texts ≡ older ++ text ∷ newer
  pub many : length older ≡ numbers_in before
  pub seen : Contains sights
      (sight (Some (out ++ printed before)) (Some (shelf ++ (older ++ text ∷ []))))

-- so it is before each number among the answers
abbrev pub AreKeptFirst : List ℕ → List (List ℕ) → List Answer → List (List ℕ) → List Sight
    → Type 0
AreKeptFirst out shelf answers texts sights = (before after : List Answer) (number : Answer)
    → answers ≡ before ++ number ∷ after → numbers_of number.reply ≡ 1
    → IsKeptFirst out shelf before texts sights

-- The dump was opened, and the first lines of the script were obeyed, all of them or some. Their
-- answers were printed, the last one whole or in part, and a text was written for each number. The
-- witness saw just what there was before each answer.
pub record Watched (of : Given) (out : List ℕ) (shelf : List (List ℕ)) (sights : List Sight)
    (new : Known) : Type 0 where
  pub first : Machine
  pub last : Machine
  pub opened : IsOpened None of.dump of.format first
  pub lines : List (List ℕ)
  pub others : List (List ℕ)
  pub cut : script_lines of.script ≡ lines ++ others
  pub answers : List Answer
  pub texts : List (List ℕ)
  pub runs : Runs first lines answers texts last
  pub many : length texts ≡ numbers_in answers
  pub text : List ℕ
  pub missing : List ℕ
  pub whole : printed answers ≡ text ++ missing
  pub left : new ≡ all_known (out ++ text) (shelf ++ texts)
      (sights ++ sights_of out shelf [] answers texts)
  pub numbers : AreKeptFirst out shelf answers texts (sights_of out shelf [] answers texts)

-- the dump was not opened, and all is as it was; or it ran so
abbrev pub IsWatched : Given → List ℕ → List (List ℕ) → List Sight → Known
    → Result Status DumpRunFault → Type 0
IsWatched of out shelf sights new (Err (Dump fault)) = new ≡ all_known out shelf sights
IsWatched of out shelf sights new (Err (Run fault)) = Watched of out shelf sights new
IsWatched of out shelf sights new (Ok status) = Watched of out shelf sights new
