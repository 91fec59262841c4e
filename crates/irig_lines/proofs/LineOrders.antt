-- A line asks for one command at most: it is put together in one way.
use Rattle.std.proofs.Common.{◌≡◌, ◌==◌, ℕ, ◌++◌, true, false, not, List, [], ◌∷◌, take, drop, refl, sym, ap, ◌∙◌, subst, arith, inl, inr}
use Rattle.std.proofs.lemmas.{Bool.Decides.nat_tests, Bool.and_parts}
use Rattle.std.specs.List.{list_all}
use Rattle.irig_lines.specs.Grammar.{AsksIn, Does, IsOrder, IsWord, Means, Orders, follows_range, is_nothing}
use Rattle.irig_lines.specs.Words.{before, is_letter, is_space, onward, words_of}
use Rattle.irig_lines.specs.{Keywords.keyword_of, declared.command.Command.Command, declared.cutting.Until.TheVariants.Text}
use Rattle.irig_lines.specs.declared.keyword.Keyword.TheVariants as word
use Rattle.irig_lines.proofs.OrderParts.{follows, found_words, known_letters, ranged_in}
use Rattle.irig_lines.proofs.{AddressCut.is_range_byte, AddressCut.range_first, RangeCut.range_found, RangeCut.range_length, SameCommand.asks_one}
use Rattle.irig_lines.proofs.{Spacing.blank_before, Spacing.onward_blank, WordLemmas.cut_whole, WordLemmas.onward_at}

-- two orders of one text are of one range and of the same words
asks_in_one : (range : List ℕ) (words : List (List ℕ)) (c d : Command) → AsksIn range words c → AsksIn range words d → c ≡ d
asks_in_one range [] c d h k = asks_one word.Missing range [] c d h k
asks_in_one range (w ∷ args) c d h k = asks_one (keyword_of w) range args c d h k

order_cut : (text range : List ℕ) (words : List (List ℕ)) (c : Command) (o : IsOrder text range words) → AsksIn range words c
    → (take (range_length false text) text ≡ range) × (words_of (drop (range_length false text) text) ≡ words)
order_cut text range words c o h =
    let r = ranged_in range words c h in
    let parts = range_found text range (o.blank ++ o.rest) r.0 o.whole r.1 (follows text range words c o h) in
    (parts.0, ap words_of parts.1 ∙ found_words text range words o)

orders_one : (text : List ℕ) (c d : Command) → Orders c text → Orders d text → c ≡ d
orders_one text c d h k =
    let x = order_cut text h.0 h.1 c h.2 h.3 in
    let y = order_cut text k.0 k.1 d k.2 k.3 in
    let range : h.0 ≡ k.0 = sym x.0 ∙ y.0 in
    let words : h.1 ≡ k.1 = sym x.1 ∙ y.1 in
    let asks : AsksIn k.0 k.1 c = subst (λ (t : List ℕ). AsksIn t k.1 c) range (subst (λ (ws : List (List ℕ)). AsksIn h.0 ws c) words h.3) in
    asks_in_one k.0 k.1 c d asks k.3

-- an order is no comment, and is not nothing
order_first : (range : List ℕ) (words : List (List ℕ)) (c : Command) (b : ℕ) (bs : List ℕ) → (o : IsOrder (b ∷ bs) range words) → AsksIn range words c
    → (b == 35) ≡ true → ⊥
order_first [] words c b bs o h e =
    let f : follows_range (b ∷ bs) ≡ true = subst (λ (t : List ℕ). follows_range t ≡ true) (sym o.whole) (follows (b ∷ bs) [] words c o h) in
    let same : b ≡ 35 = grind (arith, nat_tests) in
    let bad = subst (λ (x : ℕ). follows_range (x ∷ bs) ≡ true) same f in
    cc
order_first (x ∷ range) words c b bs o h e =
    let r = ranged_in (x ∷ range) words c h in
    let first = range_first x range r.0 r.1 in
    let whole : b ∷ bs ≡ x ∷ (range ++ (o.blank ++ o.rest)) = o.whole in
    let here : b ≡ x = cc in
    let same : b ≡ 35 = grind (arith, nat_tests) in
    let bad = subst (λ (y : ℕ). is_range_byte y ≡ true) (sym here ∙ same) first in
    cc

no_order : (range : List ℕ) (words : List (List ℕ)) (c : Command) → (o : IsOrder [] range words) → AsksIn range words c → ⊥
no_order (x ∷ range) words c o h = let bad : [] ≡ x ∷ (range ++ (o.blank ++ o.rest)) = o.whole in cc
no_order [] words c o h =
    let none : words ≡ [] = sym (found_words [] [] words o) ∙ ap words_of (sym o.whole) in
    let alone : AsksIn [] [] c = subst (λ (ws : List (List ℕ)). AsksIn [] ws c) none h in
    alone.2.some refl

pub order_is_something : (text : List ℕ) (c : Command) → is_nothing text ≡ true → Orders c text → ⊥
order_is_something [] c e h = no_order h.0 h.1 c h.2 h.3
order_is_something (b ∷ bs) c e h = order_first h.0 h.1 c b bs h.2 h.3 e

does_one : (text : List ℕ) (c d : Command) → Does c text → Does d text → c ≡ d
does_one text c d (inl h) (inl k) = h.1 ∙ sym k.1
does_one text c d (inl h) (inr k) = absurd (order_is_something text d h.0 k)
does_one text c d (inr h) (inl k) = absurd (order_is_something text c k.0 h)
does_one text c d (inr h) (inr k) = orders_one text c d h k

-- a line does what is from its first other byte on does
idle_onward : (text : List ℕ) → is_nothing text ≡ true → onward Text text ≡ text
idle_onward [] e = refl
idle_onward (b ∷ bs) e =
    let same : b ≡ 35 = grind (arith, nat_tests) in
    let other : not (is_space b) ≡ true = subst (λ (x : ℕ). not (is_space x) ≡ true) (sym same) refl in
    onward_at Text b bs other

range_no_space : (b : ℕ) → is_range_byte b ≡ true → not (is_space b) ≡ true
range_no_space b h = grind (arith, nat_tests)

letter_no_space : (b : ℕ) → is_letter b ≡ true → not (is_space b) ≡ true
letter_no_space b h = grind (arith, nat_tests)

word_onward : (w rest : List ℕ) → IsWord w → list_all is_letter w ≡ true → onward Text (w ++ rest) ≡ w ++ rest
word_onward [] rest h k = absurd (h.some refl)
word_onward (b ∷ w) rest h k = onward_at Text b (w ++ rest) (letter_no_space b (and_parts (is_letter b) (list_all is_letter w) k).0)

-- an order without a range begins with its word
bare_order : (text : List ℕ) (words : List (List ℕ)) (c : Command) (o : IsOrder text [] words) → AsksIn [] words c → onward Text text ≡ o.rest
bare_order text [] c o h = absurd (h.2.some refl)
bare_order text (w ∷ args) c o h =
    let behind = o.behind in
    ap (onward Text) o.whole ∙ onward_blank o.blank o.rest o.between
    ∙ (ap (onward Text) behind.1 ∙ word_onward w behind.0 behind.2 (known_letters w [] args c h) ∙ sym behind.1)

orders_onward : (range text : List ℕ) (words : List (List ℕ)) (c : Command) → IsOrder text range words → AsksIn range words c → Orders c (onward Text text)
orders_onward [] text words c o h =
    let all : IsOrder o.rest [] words = record { blank = []; rest = o.rest; whole = refl; between = refl; behind = o.behind } in
    subst (Orders c) (sym (bare_order text words c o h)) ([], words, all, h)
orders_onward (x ∷ range) text words c o h =
    let r = ranged_in (x ∷ range) words c h in
    let other = range_no_space x (range_first x range r.0 r.1) in
    let here : onward Text text ≡ text = ap (onward Text) o.whole ∙ onward_at Text x (range ++ (o.blank ++ o.rest)) other ∙ sym o.whole in
    subst (Orders c) (sym here) (x ∷ range, words, o, h)

does_onward : (text : List ℕ) (c : Command) → Does c text → Does c (onward Text text)
does_onward text c (inl h) = subst (Does c) (sym (idle_onward text h.0)) (inl h)
does_onward text c (inr h) = inr (orders_onward h.0 text h.1 c h.2 h.3)

pub means_onward : (line : List ℕ) (c : Command) → Means c line → Does c (onward Text line)
means_onward line c h = subst (Does c) (sym (ap (onward Text) h.2 ∙ onward_blank h.0 h.1 h.3)) (does_onward h.1 c h.4)

pub onward_means : (line : List ℕ) (c : Command) → Does c (onward Text line) → Means c line
onward_means line c h = (before Text line, onward Text line, sym (cut_whole Text line), blank_before line, h)

-- two commands that a line asks for are the same
pub means_one : (line : List ℕ) (c d : Command) → Means c line → Means d line → c ≡ d
means_one line c d h k = does_one (onward Text line) c d (means_onward line c h) (means_onward line d k)
