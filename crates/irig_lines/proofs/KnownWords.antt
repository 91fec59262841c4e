-- Words that are there, one after another, and words that ask for nothing.
use Rattle.std.proofs.Common.{◌≡◌, ◌≤◌, ◌∷◌, [], ℕ, List, Some, length, sym, ap, ◌∙◌, subst, arith}
use Rattle.irig_moment.specs.{Moment.MomentView, Written.moment_of}
use Rattle.std.specs.Prelude.{Result, Ok, Err, IfOk, IsErrAnd, OnErr}
use Rattle.irig_lines.specs.{Addresses.IsTime, Commands.Asks, Findings.Finds, Words.word_and, declared.command.Command.Command}
use Rattle.irig_lines.specs.{declared.keyword.Keyword.Keyword, declared.time.Time.Time, declared.time.Time.TheVariants.At, declared.time.Time.TheVariants.Mark}

first_word : (x y : List ℕ) (xs ys : List (List ℕ)) → x ∷ xs ≡ y ∷ ys → x ≡ y
first_word x y xs ys e = cc

other_words : (x y : List ℕ) (xs ys : List (List ℕ)) → x ∷ xs ≡ y ∷ ys → xs ≡ ys
other_words x y xs ys e = cc

-- a word and what is after it, if the words are known
pub next_word : (all ws : List (List ℕ)) (w : List ℕ) (x : List ℕ) (xs : List (List ℕ)) → all ≡ word_and w ws → all ≡ x ∷ xs → (w ≡ x) × (ws ≡ xs)
next_word all ws [] x xs e f = let bad = sym e ∙ f in absurd (cc)
next_word all ws (b ∷ bs) x xs e f = (first_word (b ∷ bs) x ws xs (sym e ∙ f), other_words (b ∷ bs) x ws xs (sym e ∙ f))

-- a word that has a byte is before the others
pub full_word : (all ws : List (List ℕ)) (w : List ℕ) → 1 ≤ length w → all ≡ word_and w ws → all ≡ w ∷ ws
full_word all ws [] h e = absurd (omega (arith, h))
full_word all ws (b ∷ bs) h e = e

pub time_some : (w : List ℕ) (t : Time) → IsTime w t → 1 ≤ length w
time_some w (At n) h = h.some
time_some w (Mark l) h = omega (arith, ap length h.0)

pub moment_some : (w : List ℕ) (m : MomentView) → moment_of w ≡ Some m → 1 ≤ length w
moment_some [] m e = absurd (cc)
moment_some (b ∷ bs) m e = omega arith

-- what a word that is known asks for
pub refused : {E : Type 0} (known word : Keyword) (range : List ℕ) (args : List (List ℕ)) (r : Result Command E) → word ≡ known
    → Finds (Asks known range args) r → Finds (Asks word range args) r
refused known word range args r e h = subst (λ (k : Keyword). Finds (Asks k range args) r) (sym e) h

-- what a reading gives, as another says it
pub finds_as : {X E : Type 0} (Is As : X → Type 0) (r : Result X E) → ((x : X) → Is x → As x)
    → (((x : X) → Is x → ⊥) → (x : X) → As x → ⊥) → Finds Is r → Finds As r
finds_as Is As (Ok x) f g h = f x h
finds_as Is As (Err e) f g h = g h

pub finds_ok : {X E : Type 0} (Is : X → Type 0) (r : Result X E) → Finds Is r → IfOk r Is
finds_ok Is (Ok x) h = h
finds_ok Is (Err e) h = tt

pub finds_err : {X E : Type 0} (Is : X → Type 0) (r : Result X E) → Finds Is r → OnErr r ((x : X) → Is x → ⊥)
finds_err Is (Ok x) h = tt
finds_err Is (Err e) h = h

pub finds_none : {X E : Type 0} (Is : X → Type 0) (r : Result X E) (P : E → Type 0) → IsErrAnd r P → ((x : X) → Is x → ⊥) → Finds Is r
finds_none Is (Ok x) P h k = absurd h
finds_none Is (Err e) P h k = k
