-- Known values of the form, proved of the definitions by computing: a track of two pulses
-- whose first was deleted; a mark that was set and undone.
use Rattle.std.proofs.Common.{◌≡◌, ℕ, List, [], ◌∷◌, codes, Some, None, Option, true, false, length, refl, pos, negsuc}
use Rattle.std.specs.Fmt.{digits}
use Rattle.irig_saved.specs.SavedText.{journal_text, journal_section, single_lines, change_lines, mark_lines}
use Rattle.irig_saved.specs.declared.single.Single.TheVariants.{Splice, Toggle, Shift, SetFormat, SetMark}
use Rattle.irig_saved.specs.{Lines.text_of, declared.change.Change.TheVariants.One, declared.change.Change.TheVariants.Group, declared.saved.Saved.Saved}
use Rattle.irig_codes.specs.declared.format.Kind.TheVariants.{G, E}

abbrev unset : List (Option ℕ)
unset = None ∷ None ∷ None ∷ None ∷ None ∷ None ∷ None ∷ None ∷ None ∷ None ∷ None ∷ None ∷ None ∷ None ∷ None ∷ None ∷ None ∷ None ∷ None ∷ None ∷ None ∷ None
    ∷ None ∷ None ∷ None ∷ None ∷ []

abbrev pub row : Saved
row = record {
  kind = G;
  expression = 2;
  cursor = 1;
  marks = unset;
  past = record { cursor = 2; change = One (Splice 1 0 (record { rise = 100; fall = 120 } ∷ [])) } ∷ [];
  future = record { cursor = 1; change = One (SetMark 0 (Some 110)) } ∷ [];
}

pub the_row : journal_text row ≡ codes "irig-journal-1\nformat G 2\ncursor 1\npast 1\nat 2\nsplice 1 0 1\n100 120\nfuture 1\nat 1\nsetmark a 110\n"
unfolding journal_text digits
the_row = refl

pub its_size : length (journal_section row) ≡ 110
unfolding journal_section journal_text digits
its_size = refl

-- letters in order, and a distance back
pub shifted : text_of (single_lines (Shift 1 2 (negsuc 19) (true ∷ false ∷ true ∷ []))) ≡ codes "shift 1 2 -20 ac\n"
unfolding digits
shifted = refl

-- no mark moves
pub shifted_alone : text_of (single_lines (Shift 1 1 (pos 0) [])) ≡ codes "shift 1 1 0 -\n"
unfolding digits
shifted_alone = refl

pub cleared : text_of (single_lines (SetMark 25 None)) ≡ codes "setmark z -\n"
cleared = refl

-- a group may be empty, and hold one change
pub empty_group : text_of (change_lines (Group [])) ≡ codes "group 0\n"
unfolding digits
empty_group = refl

pub group : text_of (change_lines (Group (Toggle 5 6 ∷ SetFormat E 1 ∷ []))) ≡ codes "group 2\ntoggle 5 6\nsetformat E 1\n"
unfolding digits
group = refl

-- marks that are set, a to z
pub two_marks : text_of (mark_lines 97 (Some 0 ∷ None ∷ Some 1099511627776 ∷ [])) ≡ codes "mark a 0\nmark c 1099511627776\n"
unfolding digits
two_marks = refl
