-- A word that is read in a text.
use Rattle.std.proofs.Common.{◌≡◌, ◌++◌, ◌∷◌, [], ℕ, List, Option, Some, None, drop, decimal, subst, sym, ap, ◌∙◌}
use Rattle.std.proofs.lemmas.List.{append-nil, append_cancel_left}
use Rattle.irig_saved.proofs.{Bytes.cut_at, Bytes.not_lacking, Bytes.wordy_lacks, Decimals.number_is_word}
use Rattle.irig_saved.specs.{Ranges.IsNumber, Reading.Decodes, Reading.Lacks}

-- what a word decodes to, the text round it does
pub over : {X : Type 0} (Is : X → Type 0) (write write' : X → List ℕ) (f : List ℕ → List ℕ)
    → ((u v : List ℕ) → f u ≡ f v → u ≡ v) → ((x : X) → write' x ≡ f (write x))
    → (text word : List ℕ) → text ≡ f word → (r : Option X) → Decodes Is write word r → Decodes Is write' text r
over Is write write' f tells round text word at None h = λ x lawful e. h x lawful (tells word (write x) (sym at ∙ e ∙ round x))
over Is write write' f tells round text word at (Some x) h = (h.0, at ∙ ap f h.1 ∙ sym (round x))

-- a text of two words determines both
pub two_words : (text u v w z : List ℕ) → text ≡ u ++ 32 ∷ v → Lacks 32 u → Lacks 32 w → text ≡ w ++ 32 ∷ (z ++ []) → (u ≡ w) × (v ≡ z)
two_words text u v w z at lacks word e =
    let t = cut_at 32 u w v (z ++ []) lacks word (sym at ∙ e) in
    (t.0, t.1 ∙ append-nil z)

pub behind_head : (text head u v : List ℕ) → text ≡ head ++ 32 ∷ u → text ≡ head ++ 32 ∷ v → u ≡ v
behind_head text head u v at e = ap (λ (l : List ℕ). drop 1 l) (append_cancel_left head (32 ∷ u) (32 ∷ v) (sym at ∙ e))

-- a text of more words than one determines the first and the others
pub first_word : (text u v w z : List ℕ) → text ≡ u ++ 32 ∷ v → Lacks 32 u → Lacks 32 w → text ≡ w ++ 32 ∷ z → (u ≡ w) × (v ≡ z)
first_word text u v w z at lacks word e = cut_at 32 u w v z lacks word (sym at ∙ e)

-- a text that begins with a number and a space determines the number's word and what is after the space
pub leading_number : (text u v : List ℕ) (n m : ℕ) → IsNumber n → IsNumber m → text ≡ decimal n ++ 32 ∷ u → text ≡ decimal m ++ 32 ∷ v
    → (decimal n ≡ decimal m) × (u ≡ v)
leading_number text u v n m one two at e =
    first_word text (decimal n) u (decimal m) v at (wordy_lacks (decimal n) (number_is_word n one)) (wordy_lacks (decimal m) (number_is_word m two)) e

pub no_words : (text w z : List ℕ) → Lacks 32 text → text ≡ w ++ 32 ∷ z → ⊥
no_words text w z lacks e = let P : List ℕ → Type 0 = λ l. Lacks 32 l in not_lacking 32 w z (subst P e lacks)

-- a text of a head and two words determines both words
pub headed_words : (text head body u v w z : List ℕ) → text ≡ head ++ 32 ∷ body → body ≡ u ++ 32 ∷ v → Lacks 32 u → Lacks 32 w
    → text ≡ head ++ 32 ∷ (w ++ 32 ∷ (z ++ [])) → (u ≡ w) × (v ≡ z)
headed_words text head body u v w z at cut lacks word e =
    two_words body u v w z cut lacks word (behind_head text head body (w ++ 32 ∷ (z ++ [])) at e)

-- a text of a head and one word is not one of a head and more
pub headed_one : (text head body w z : List ℕ) → text ≡ head ++ 32 ∷ body → Lacks 32 body → text ≡ head ++ 32 ∷ (w ++ 32 ∷ z) → ⊥
headed_one text head body w z at lacks e = no_words body w z lacks (behind_head text head body (w ++ 32 ∷ z) at e)
