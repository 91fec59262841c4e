-- White space, words, and the words that a text is put together of.
use Rattle.std.proofs.Common.{◌≡◌, ◌≢◌, ℕ, ◌++◌, Bool, true, false, not, List, [], ◌∷◌, refl, sym, ap, ap₂, ◌∙◌, subst, append_assoc}
use Rattle.std.proofs.lemmas.{List.append-nil, Bool.and_from, Bool.and_parts, List.Folds.list_all-append}
use Rattle.std.specs.List.{list_all}
use Rattle.irig_lines.specs.{Grammar.AreArguments, Grammar.AreWords, Grammar.IsBlank, Grammar.IsWord, Words.before, Words.is_space, Words.onward}
use Rattle.irig_lines.specs.{Words.words_of, declared.cutting.Until.TheVariants.Blank, declared.cutting.Until.TheVariants.Text}
use Rattle.irig_lines.proofs.WordLemmas.{BeginsAt, Lacks, before_at, before_front, before_on, cut_whole, lacks_first, onward_at, onward_back, onward_on}
use Rattle.irig_lines.proofs.WordLemmas.{words_begun, words_blank}

-- one more byte of white space
blank_first : (b : ℕ) (s : List ℕ) → IsBlank (b ∷ s) → (is_space b ≡ true) × IsBlank s
blank_first b s h = and_parts (is_space b) (list_all is_space s) h

pub blank-append : (s t : List ℕ) → IsBlank s → IsBlank t → IsBlank (s ++ t)
blank-append s t h k = list_all-append is_space s t ∙ and_from (list_all is_space s) (list_all is_space t) h k

-- what is before the first other byte is white space
pub blank_before : (s : List ℕ) → IsBlank (before Text s)
blank_before [] = refl
blank_before (b ∷ s) = go (is_space b) refl (blank_before s)
  where
    go : (v : Bool) → is_space b ≡ v → IsBlank (before Text s) → IsBlank (before Text (b ∷ s))
    go true e h = subst IsBlank (sym (before_on Text b s (ap not e))) (and_from (is_space b) (list_all is_space (before Text s)) e h)
    go false e h = subst IsBlank (sym (before_at Text b s (ap not e))) refl

-- white space at the front is skipped
pub onward_blank : (s t : List ℕ) → IsBlank s → onward Text (s ++ t) ≡ onward Text t
onward_blank [] t h = refl
onward_blank (b ∷ s) t h =
    let first = blank_first b s h in
    onward_on Text b (s ++ t) (ap not first.0) ∙ onward_blank s t first.1

pub words_behind : (s t : List ℕ) → IsBlank s → words_of (s ++ t) ≡ words_of t
words_behind [] t h = refl
words_behind (b ∷ s) t h =
    let first = blank_first b s h in
    words_blank b (s ++ t) first.0 ∙ words_behind s t first.1

pub words_none : (s : List ℕ) → IsBlank s → words_of s ≡ []
words_none s h = ap words_of (sym (append-nil s)) ∙ words_behind s [] h

-- a word before a text that begins with white space, or with nothing
words_more : (word rest : List ℕ) → IsWord word → BeginsAt Blank rest → words_of (word ++ rest) ≡ word ∷ words_of rest
words_more [] rest h k = absurd (h.some refl)
words_more (b ∷ s) rest h k =
    let first = lacks_first Blank b s h.joined in
    words_begun b (s ++ rest) first.0
    ∙ ap₂ (λ x y. (b ∷ x) ∷ words_of y) (before_front Blank s rest first.1 k) (onward_back Blank s rest first.1 k)

-- arguments begin with white space, if there are any
space_first : (s t : List ℕ) → IsBlank s → s ≢ [] → BeginsAt Blank (s ++ t)
space_first [] t h k = absurd (k refl)
space_first (b ∷ s) t h k = (blank_first b s h).0

blank_begins : (s : List ℕ) → IsBlank s → BeginsAt Blank s
blank_begins [] h = tt
blank_begins (b ∷ s) h = (blank_first b s h).0

pub arguments_begin : (text : List ℕ) (words : List (List ℕ)) → AreArguments text words → BeginsAt Blank text
arguments_begin text [] h = blank_begins text h
arguments_begin text (word ∷ words) h = subst (BeginsAt Blank) (sym h.2) (space_first h.0 (word ++ h.1) h.3 h.4)

-- the words that a text is put together of are its words
pub arguments_found : (text : List ℕ) (words : List (List ℕ)) → AreArguments text words → words_of text ≡ words
arguments_found text [] h = words_none text h
arguments_found text (word ∷ words) h =
    ap words_of h.2 ∙ words_behind h.0 (word ++ h.1) h.3
    ∙ words_more word h.1 h.5 (arguments_begin h.1 words h.6)
    ∙ ap (λ ws. word ∷ ws) (arguments_found h.1 words h.6)

pub words_found : (text : List ℕ) (words : List (List ℕ)) → AreWords text words → words_of text ≡ words
words_found text [] h = words_none text h
words_found text (word ∷ words) h =
    ap words_of h.1 ∙ words_more word h.0 h.2 (arguments_begin h.0 words h.3)
    ∙ ap (λ ws. word ∷ ws) (arguments_found h.0 words h.3)

-- the bytes before white space are a word
joined_before : (s : List ℕ) → Lacks Blank (before Blank s)
joined_before [] = refl
joined_before (b ∷ s) = go (is_space b) refl (joined_before s)
  where
    go : (v : Bool) → is_space b ≡ v → Lacks Blank (before Blank s) → Lacks Blank (before Blank (b ∷ s))
    go true e h = ap (list_all (λ b. not (is_space b))) (before_at Blank b s e)
    go false e h = ap (list_all (λ b. not (is_space b))) (before_on Blank b s e)
        ∙ and_from (not (is_space b)) (list_all (λ b. not (is_space b)) (before Blank s)) (ap not e) h

pub word_before : (b : ℕ) (s : List ℕ) → is_space b ≡ false → IsWord (b ∷ before Blank s)
word_before b s e = record {
  some = λ bad. cc;
  joined = and_from (not (is_space b)) (list_all (λ b. not (is_space b)) (before Blank s)) (ap not e) (joined_before s);
}

-- a text is put together of its words: what is after a first word, and what is after white space
behind : (s : List ℕ) → AreArguments (onward Blank s) (words_of (onward Blank s))
    × ((space : List ℕ) → IsBlank space → space ≢ [] → AreArguments (space ++ s) (words_of s))
behind [] = (refl, λ space h k. subst IsBlank (sym (append-nil space)) h)
behind (b ∷ s) = go (is_space b) refl (behind s)
  where
    go : (v : Bool) → is_space b ≡ v
        → AreArguments (onward Blank s) (words_of (onward Blank s)) × ((space : List ℕ) → IsBlank space → space ≢ [] → AreArguments (space ++ s) (words_of s))
        → AreArguments (onward Blank (b ∷ s)) (words_of (onward Blank (b ∷ s)))
        × ((space : List ℕ) → IsBlank space → space ≢ [] → AreArguments (space ++ (b ∷ s)) (words_of (b ∷ s)))
    go true e h =
        let here : IsBlank (b ∷ []) = and_from (is_space b) true e refl in
        let less : words_of (b ∷ s) ≡ words_of s = words_blank b s e in
        let one : AreArguments (b ∷ s) (words_of (b ∷ s)) = subst (AreArguments (b ∷ s)) (sym less) (h.1 (b ∷ []) here (λ bad. cc)) in (
          subst (λ (t : List ℕ). AreArguments t (words_of t)) (sym (onward_at Blank b s e)) one,
          λ space blank some.
              (let more : AreArguments ((space ++ b ∷ []) ++ s) (words_of s) = h.1 (space ++ b ∷ []) (blank-append space (b ∷ []) blank here) (longer space) in
              subst (λ (t : List ℕ). AreArguments t (words_of (b ∷ s))) (append_assoc space (b ∷ []) s)
              (subst (AreArguments ((space ++ b ∷ []) ++ s)) (sym less) more)),
        )
      where
        longer : (space : List ℕ) → (space ++ b ∷ []) ≢ []
        longer [] bad = cc
        longer (c ∷ space) bad = cc
    go false e h = (
      subst (λ (t : List ℕ). AreArguments t (words_of t)) (sym (onward_on Blank b s e)) h.0,
      λ space blank some. subst (AreArguments (space ++ (b ∷ s))) (sym (words_begun b s e))
          (space, onward Blank s, ap (λ t. space ++ (b ∷ t)) (sym (cut_whole Blank s)), blank, some, word_before b s e, h.0),
    )

-- after a word are arguments
pub arguments_behind : (s : List ℕ) → AreArguments (onward Blank s) (words_of (onward Blank s))
arguments_behind s = (behind s).0

-- white space at the front has no words
pub words_onward : (s : List ℕ) → words_of s ≡ words_of (onward Text s)
words_onward s = ap words_of (sym (cut_whole Text s)) ∙ words_behind (before Text s) (onward Text s) (blank_before s)
