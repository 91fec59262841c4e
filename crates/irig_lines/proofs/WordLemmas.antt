-- A text cut at a byte, and the words of a line.
use Rattle.std.proofs.Common.{◌≡◌, ℕ, ◌-◌, ◌++◌, Bool, true, false, not, ◌&&◌, List, [], ◌∷◌, length, take, drop, refl, sym, ap, ap₂, ◌∙◌, subst}
use Rattle.std.proofs.Math.Seq.{take-length}
use Rattle.std.proofs.lemmas.List.{length-drop}
use Rattle.std.specs.List.{list_all, onto_first}
use Rattle.irig_lines.specs.Words.{is_space, is_at, before, onward, begins_word, words_of, word_and}
use Rattle.irig_lines.specs.{declared.cutting.Until.Until, declared.cutting.Until.TheVariants.Blank, declared.cutting.Until.TheVariants.Text}

-- what is left of a text is all that is after a place
pub rest_whole : (l : List ℕ) (done : ℕ) → take (length l - done) (drop done l) ≡ drop done l
rest_whole l done = ap (λ n. take n (drop done l)) (sym (length-drop done l)) ∙ take-length (drop done l)

-- how far a text is cut
abbrev pub IsCut : Until → List ℕ → ℕ → Type 0
IsCut until s i = (before until s ≡ take i s ++ before until (drop i s)) × (onward until s ≡ onward until (drop i s))

pub before_on : (until : Until) (b : ℕ) (s : List ℕ) → is_at until b ≡ false → before until (b ∷ s) ≡ b ∷ before until s
before_on until b s e = rw e refl

pub onward_on : (until : Until) (b : ℕ) (s : List ℕ) → is_at until b ≡ false → onward until (b ∷ s) ≡ onward until s
onward_on until b s e = rw e refl

pub before_at : (until : Until) (b : ℕ) (s : List ℕ) → is_at until b ≡ true → before until (b ∷ s) ≡ []
before_at until b s e = rw e refl

pub onward_at : (until : Until) (b : ℕ) (s : List ℕ) → is_at until b ≡ true → onward until (b ∷ s) ≡ b ∷ s
onward_at until b s e = rw e refl

-- what a byte at the front does
pub words_blank : (b : ℕ) (s : List ℕ) → is_space b ≡ true → words_of (b ∷ s) ≡ words_of s
words_blank b s e = rw e refl

words_alone : (b : ℕ) (s : List ℕ) → is_space b ≡ false → begins_word s ≡ false → words_of (b ∷ s) ≡ (b ∷ []) ∷ words_of s
words_alone b s e k = rw (e, k) refl

words_joined : (b : ℕ) (s : List ℕ) → is_space b ≡ false → begins_word s ≡ true → words_of (b ∷ s) ≡ onto_first b (words_of s)
words_joined b s e k = rw (e, k) refl

-- a word continues to the next white space
pub words_begun : (b : ℕ) (s : List ℕ) → is_space b ≡ false → words_of (b ∷ s) ≡ (b ∷ before Blank s) ∷ words_of (onward Blank s)
words_begun b [] e = words_alone b [] e refl
words_begun b (c ∷ s) e = go (is_space c) refl (λ k. words_begun c s k)
  where
    go : (v : Bool) → is_space c ≡ v → (is_space c ≡ false → words_of (c ∷ s) ≡ (c ∷ before Blank s) ∷ words_of (onward Blank s))
        → words_of (b ∷ c ∷ s) ≡ (b ∷ before Blank (c ∷ s)) ∷ words_of (onward Blank (c ∷ s))
    go true k h = words_alone b (c ∷ s) e (ap not k) ∙ sym (ap (λ l. (b ∷ l) ∷ words_of (onward Blank (c ∷ s))) (before_at Blank c s k)
        ∙ ap (λ l. (b ∷ []) ∷ words_of l) (onward_at Blank c s k))
    go false k h = words_joined b (c ∷ s) e (ap not k) ∙ ap (onto_first b) (h k)
        ∙ sym (ap (λ l. (b ∷ l) ∷ words_of (onward Blank (c ∷ s))) (before_on Blank c s k)
        ∙ ap (λ l. (b ∷ c ∷ before Blank s) ∷ words_of l) (onward_on Blank c s k))

-- the first word of a text, and the others
pub words_split : (s : List ℕ) → words_of s ≡ word_and (before Blank (onward Text s)) (words_of (onward Blank (onward Text s)))
words_split [] = refl
words_split (b ∷ s) = go (is_space b) refl (words_split s)
  where
    go : (v : Bool) → is_space b ≡ v → words_of s ≡ word_and (before Blank (onward Text s)) (words_of (onward Blank (onward Text s)))
        → words_of (b ∷ s) ≡ word_and (before Blank (onward Text (b ∷ s))) (words_of (onward Blank (onward Text (b ∷ s))))
    go true e h = words_blank b s e ∙ h ∙ sym (ap (λ t. word_and (before Blank t) (words_of (onward Blank t))) (onward_on Text b s (ap not e)))
    go false e h =
        words_begun b s e
        ∙ sym (ap (λ t. word_and (before Blank t) (words_of (onward Blank t))) (onward_at Text b s (ap not e))
        ∙ ap (λ l. word_and l (words_of (onward Blank (b ∷ s)))) (before_on Blank b s e)
        ∙ ap (λ l. (b ∷ before Blank s) ∷ words_of l) (onward_on Blank b s e))

-- a text is what is before a cut and what is from it on
pub cut_whole : (until : Until) (s : List ℕ) → before until s ++ onward until s ≡ s
cut_whole until [] = refl
cut_whole until (b ∷ s) = go (is_at until b) refl (cut_whole until s)
  where
    go : (v : Bool) → is_at until b ≡ v → before until s ++ onward until s ≡ s → before until (b ∷ s) ++ onward until (b ∷ s) ≡ b ∷ s
    go true e h = ap₂ (λ x y. x ++ y) (before_at until b s e) (onward_at until b s e)
    go false e h = ap₂ (λ x y. x ++ y) (before_on until b s e) (onward_on until b s e) ∙ ap (λ l. b ∷ l) h

-- a text is empty, or begins with such a byte
abbrev pub BeginsAt : Until → List ℕ → Type 0
BeginsAt until [] = Unit {0}
BeginsAt until (b ∷ s) = is_at until b ≡ true

pub cut_begins : (until : Until) (s : List ℕ) → BeginsAt until (onward until s)
cut_begins until [] = tt
cut_begins until (b ∷ s) = go (is_at until b) refl (cut_begins until s)
  where
    go : (v : Bool) → is_at until b ≡ v → BeginsAt until (onward until s) → BeginsAt until (onward until (b ∷ s))
    go true e h = subst (BeginsAt until) (sym (onward_at until b s e)) e
    go false e h = subst (BeginsAt until) (sym (onward_on until b s e)) h

-- no byte of a text is such a byte
abbrev pub Lacks : Until → List ℕ → Type 0
Lacks until s = list_all (λ b. not (is_at until b)) s ≡ true

pub lacks_first : (until : Until) (b : ℕ) (s : List ℕ) → Lacks until (b ∷ s) → (is_at until b ≡ false) × Lacks until s
lacks_first until b s h = go (is_at until b) h
  where
    go : (v : Bool) → (not v && list_all (λ b. not (is_at until b)) s) ≡ true → (v ≡ false) × Lacks until s
    go true e = absurd (cc)
    go false e = (refl, e)

before_end : (until : Until) (rest : List ℕ) → BeginsAt until rest → before until rest ≡ []
before_end until [] h = refl
before_end until (b ∷ s) h = before_at until b s h

onward_end : (until : Until) (rest : List ℕ) → BeginsAt until rest → onward until rest ≡ rest
onward_end until [] h = refl
onward_end until (b ∷ s) h = onward_at until b s h

-- a text of two parts is cut between them
pub before_front : (until : Until) (s rest : List ℕ) → Lacks until s → BeginsAt until rest → before until (s ++ rest) ≡ s
before_front until [] rest h k = before_end until rest k
before_front until (b ∷ s) rest h k =
    let first = lacks_first until b s h in
    before_on until b (s ++ rest) first.0 ∙ ap (λ l. b ∷ l) (before_front until s rest first.1 k)

pub onward_back : (until : Until) (s rest : List ℕ) → Lacks until s → BeginsAt until rest → onward until (s ++ rest) ≡ rest
onward_back until [] rest h k = onward_end until rest k
onward_back until (b ∷ s) rest h k =
    let first = lacks_first until b s h in
    onward_on until b (s ++ rest) first.0 ∙ onward_back until s rest first.1 k
