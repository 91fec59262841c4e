-- Texts in a row, given part by part: what was given, with what is left.
use Rattle.std.proofs.Common.{◌≡◌, ◌++◌, ℕ, List, [], ◌∷◌, ap, map, refl, reverse, sym, ◌∙◌, append_assoc}
use Rattle.std.proofs.lemmas.List.{reverse-append}
use Rattle.irig_journal.specs.{Held.Held, History.step}
use Rattle.irig_saved.specs.{Lines.text_of, SavedText.single_lines, SavedText.singles_lines, SavedText.step_lines, SavedText.steps_lines}
use Rattle.irig_saved.proofs.Texts.{text_of_append}
use Rattle.irig_edit.specs.Saved.SavedParts.{changes_text, parts_left, steps_text}
use Rattle.irig_edit.specs.declared.saved.stage.Stage.TheVariants.{Dump, Back, On, Over}
use Rattle.irig_edit.specs.{Changes.Held.delta_of, Changes.Held.deltas_of, Changes.Held.single_of, Saved.Saved.saved_step, Saved.Stages.next_stage}
use Rattle.irig_edit.specs.{Saved.Stages.stage_left, Saved.Stages.text_after, declared.changes.turn.Turn.Turn, declared.saved.stage.Stage.Stage}

-- a part of the first of two was given
pub in_row : (block new left after rest : List ℕ) → new ++ after ≡ block ++ left
    → new ++ (after ++ rest) ≡ block ++ (left ++ rest)
in_row block new left after rest given =
    sym (append_assoc new after rest) ∙ (ap (λ t. t ++ rest) given ∙ append_assoc block left rest)

-- the first has ended
pub ended : (block new left after rest : List ℕ) → new ++ after ≡ block ++ left → after ≡ []
    → new ++ rest ≡ block ++ (left ++ rest)
ended block new left after rest given none = ap (λ t. new ++ (t ++ rest)) (sym none) ∙ in_row block new left after rest given

-- the next has begun with a part of it
pub next_begun : (new more rest part begins behind : List ℕ) → more ++ begins ≡ new ++ part → rest ≡ part ++ behind
    → more ++ (begins ++ behind) ≡ new ++ rest
next_begun new more rest part begins behind begin split = in_row new more part begins behind begin ∙ ap (λ t. new ++ t) (sym split)

-- the first has ended, and the second has begun with a part of it
pub begun : (block new more left after rest part begins behind : List ℕ) → new ++ after ≡ block ++ left
    → after ≡ [] → more ++ begins ≡ new ++ part → rest ≡ part ++ behind
    → more ++ (begins ++ behind) ≡ block ++ (left ++ rest)
begun block new more left after rest part begins behind given none begin split =
    next_begun new more rest part begins behind begin split ∙ ended block new left after rest given none

-- what comes after a stage that has ended, and the stages after it
pub stage-ended : (s n : Stage) (dump opening back middle on : List ℕ) → n ≡ next_stage s → stage_left s dump back on ≡ []
    → parts_left s dump opening back middle on ≡ text_after s opening middle ++ parts_left n dump opening back middle on
stage-ended Dump n dump opening back middle on is none = rw is (rw none (simp append_assoc refl))
stage-ended Back n dump opening back middle on is none = rw is (rw none (simp append_assoc refl))
stage-ended On n dump opening back middle on is none = rw is (rw none refl)
stage-ended Over n dump opening back middle on is none = rw is refl

-- a text that was left begins with one that is written
pub written : (new more left text rest given : List ℕ) → new ++ left ≡ given → left ≡ text ++ rest → more ≡ new ++ text
    → more ++ rest ≡ given
written new more left text rest given is split put = rw put (append_assoc new text rest ∙ (ap (λ t. new ++ t) (sym split) ∙ is))

-- the lines of the last change, and those of the changes before it
pub changes-next : (xs others : List Turn) (x : Turn) → xs ≡ others ++ x ∷ []
    → changes_text (reverse xs) ≡ text_of (single_lines (single_of x)) ++ changes_text (reverse others)
changes-next xs others x split =
    ap (λ (l : List Turn). changes_text l) (ap reverse split ∙ reverse-append others (x ∷ []))
    ∙ text_of_append (single_lines (single_of x)) (singles_lines (map single_of (reverse others)))

-- the lines of a step, and those after it
pub steps-next : (hs others : List (Held Turn)) (h : Held Turn) → hs ≡ h ∷ others
    → steps_text (deltas_of hs) ≡ text_of (step_lines (saved_step (step (delta_of h.parts) h.cursor))) ++ steps_text (deltas_of others)
steps-next hs others h split =
    ap (λ (l : List (Held Turn)). steps_text (deltas_of l)) split
    ∙ text_of_append (step_lines (saved_step (step (delta_of h.parts) h.cursor))) (steps_lines (map saved_step (deltas_of others)))
