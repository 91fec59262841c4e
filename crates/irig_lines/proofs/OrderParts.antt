-- The range and the words of an order, and what is between them.
use Rattle.std.proofs.Common.{◌≡◌, ℕ, ◌++◌, Bool, true, false, List, [], ◌∷◌, Option, Some, None, refl, sym, ◌∙◌, subst, unwrap_or, if◌then◌else◌}
use Rattle.std.proofs.lemmas.{Slice.Eq.bytes_eq-Decides, Bool.and_parts, Bool.or_right}
use Rattle.std.specs.{List.list_all, Str.bytes_eq}
use Rattle.irig_lines.specs.{Addresses.IsAddress, Addresses.IsAddressOrCursor, Addresses.IsRange, Addresses.at, Commands.Asks, Grammar.AreWords, Grammar.AsksIn}
use Rattle.irig_lines.specs.{Grammar.IsBlank, Grammar.IsOrder, Grammar.IsWord, Grammar.follows_range, Keywords.keyword_of, Keywords.keywords, Tables.found}
use Rattle.irig_lines.specs.{Words.is_letter, Words.is_space, Words.words_of, declared.address.Base.TheVariants.Current, declared.command.Command.Command}
use Rattle.irig_lines.specs.{declared.keyword.Keyword.Keyword, declared.range.Range.Range, declared.range.Range.TheVariants.One}
use Rattle.irig_lines.specs.declared.keyword.Keyword.TheVariants as word
use Rattle.irig_lines.proofs.Spacing.{words_behind, words_found}

-- the words of the language are letters
row_letters : (text : List ℕ) (rows : List (List ℕ × Keyword)) (k : Keyword) → list_all (λ row. list_all is_letter row.0) rows ≡ true
    → found text rows ≡ Some k → list_all is_letter text ≡ true
row_letters text [] k h e = absurd (cc)
row_letters text (row ∷ rows) k h e = go (bytes_eq text row.0) refl e
    (row_letters text rows k (and_parts (list_all is_letter row.0) (list_all (λ row. list_all is_letter row.0) rows) h).1)
  where
    go : (v : Bool) → bytes_eq text row.0 ≡ v → (if v then Some row.1 else found text rows) ≡ Some k
        → (found text rows ≡ Some k → list_all is_letter text ≡ true) → list_all is_letter text ≡ true
    go true t f more =
        let same : text ≡ row.0 = (bytes_eq-Decides text row.0).0 t in
        subst (λ (s : List ℕ). list_all is_letter s ≡ true) (sym same)
        (and_parts (list_all is_letter row.0) (list_all (λ row. list_all is_letter row.0) rows) h).0
    go false t f more = more f

all_letters : list_all (λ row. list_all is_letter row.0) keywords ≡ true
all_letters = refl

pub known_letters : (w range : List ℕ) (args : List (List ℕ)) (c : Command) → Asks (keyword_of w) range args c → list_all is_letter w ≡ true
known_letters w range args c h = go (found w keywords) refl h
  where
    go : (o : Option Keyword) → found w keywords ≡ o → Asks (unwrap_or o word.Unknown) range args c → list_all is_letter w ≡ true
    go None e k = absurd k
    go (Some x) e k = row_letters w keywords x all_letters e

-- what a word asks for is after a range
ranged : (k : Keyword) (range : List ℕ) (args : List (List ℕ)) (c : Command) → Asks k range args c → (r : Range) × IsRange range r
ranged word.Missing range args c h = (One h.0, placed range h.2)
  where
    placed : (text : List ℕ) → IsAddress text h.0 → IsAddressOrCursor text h.0
    placed [] k = absurd (k.some refl)
    placed (b ∷ bs) k = k
ranged word.List range args c h = (h.0, h.2)
ranged word.Delete range args c h = (h.0, h.2)
ranged word.Join range args c h = (h.0, h.2)
ranged word.Shift range args c h = (h.0, h.4)
ranged word.Split range args c h = (One h.0, h.4)
ranged word.Force range args c h = (One h.0, h.3)
ranged word.Insert range args c h = (One (at Current), subst (λ (t : List ℕ). IsAddressOrCursor t (at Current)) (sym h.3) refl)
ranged word.Invert range args c h = (One (at Current), subst (λ (t : List ℕ). IsAddressOrCursor t (at Current)) (sym h.3) refl)
ranged word.Regen range args c h = (One (at Current), subst (λ (t : List ℕ). IsAddressOrCursor t (at Current)) (sym h.5) refl)
ranged word.Format range args c h = (One (at Current), subst (λ (t : List ℕ). IsAddressOrCursor t (at Current)) (sym h.4) refl)
ranged word.Mark range args c h = (One (at Current), subst (λ (t : List ℕ). IsAddressOrCursor t (at Current)) (sym h.4) refl)
ranged word.Unmark range args c h = (One (at Current), subst (λ (t : List ℕ). IsAddressOrCursor t (at Current)) (sym h.2) refl)
ranged word.Undo range args c h = (One (at Current), subst (λ (t : List ℕ). IsAddressOrCursor t (at Current)) (sym h.1) refl)
ranged word.Redo range args c h = (One (at Current), subst (λ (t : List ℕ). IsAddressOrCursor t (at Current)) (sym h.1) refl)
ranged word.Begin range args c h = (One (at Current), subst (λ (t : List ℕ). IsAddressOrCursor t (at Current)) (sym h.1) refl)
ranged word.End range args c h = (One (at Current), subst (λ (t : List ℕ). IsAddressOrCursor t (at Current)) (sym h.1) refl)
ranged word.Abort range args c h = (One (at Current), subst (λ (t : List ℕ). IsAddressOrCursor t (at Current)) (sym h.1) refl)
ranged word.Frames range args c h = (One (at Current), subst (λ (t : List ℕ). IsAddressOrCursor t (at Current)) (sym h.1) refl)
ranged word.Marks range args c h = (One (at Current), subst (λ (t : List ℕ). IsAddressOrCursor t (at Current)) (sym h.1) refl)
ranged word.Info range args c h = (One (at Current), subst (λ (t : List ℕ). IsAddressOrCursor t (at Current)) (sym h.1) refl)
ranged word.Write range args c h = (One (at Current), subst (λ (t : List ℕ). IsAddressOrCursor t (at Current)) (sym h.1) refl)
ranged word.Save range args c h = (One (at Current), subst (λ (t : List ℕ). IsAddressOrCursor t (at Current)) (sym h.1) refl)
ranged word.Quit range args c h = (One (at Current), subst (λ (t : List ℕ). IsAddressOrCursor t (at Current)) (sym h.1) refl)
ranged word.Unknown range args c h = absurd h

pub ranged_in : (range : List ℕ) (words : List (List ℕ)) (c : Command) → AsksIn range words c → (r : Range) × IsRange range r
ranged_in range [] c h = ranged word.Missing range [] c h
ranged_in range (w ∷ args) c h = ranged (keyword_of w) range args c h

-- after the range of an order is what follows a range, and its words
space_follows : (blank rest : List ℕ) → IsBlank blank → follows_range rest ≡ true → follows_range (blank ++ rest) ≡ true
space_follows [] rest h k = k
space_follows (b ∷ blank) rest h k =
    let first : is_space b ≡ true = (and_parts (is_space b) (list_all is_space blank) h).0 in
    rw first refl

blank_follows : (rest : List ℕ) → IsBlank rest → follows_range rest ≡ true
blank_follows [] h = refl
blank_follows (b ∷ rest) h =
    let first : is_space b ≡ true = (and_parts (is_space b) (list_all is_space rest) h).0 in
    rw first refl

word_follows : (w rest : List ℕ) → IsWord w → list_all is_letter w ≡ true → follows_range (w ++ rest) ≡ true
word_follows [] rest h k = absurd (h.some refl)
word_follows (b ∷ w) rest h k = or_right (is_space b) (is_letter b) (and_parts (is_letter b) (list_all is_letter w) k).0

words_follow : (range rest : List ℕ) (words : List (List ℕ)) (c : Command) → AreWords rest words → AsksIn range words c → follows_range rest ≡ true
words_follow range rest [] c h k = blank_follows rest h
words_follow range rest (w ∷ args) c h k =
    subst (λ (t : List ℕ). follows_range t ≡ true) (sym h.1) (word_follows w h.0 h.2 (known_letters w range args c k))

pub follows : (text range : List ℕ) (words : List (List ℕ)) (c : Command) (o : IsOrder text range words) → AsksIn range words c
    → follows_range (o.blank ++ o.rest) ≡ true
follows text range words c o h = space_follows o.blank o.rest o.between (words_follow range o.rest words c o.behind h)

pub found_words : (text range : List ℕ) (words : List (List ℕ)) (o : IsOrder text range words) → words_of (o.blank ++ o.rest) ≡ words
found_words text range words o = words_behind o.blank o.rest o.between ∙ words_found o.rest words o.behind
