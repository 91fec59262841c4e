-- Which lines end a script.
use Rattle.std.proofs.Common.{◌≡◌, ◌≢◌, ◌<◌, ◌≤◌, ◌∷◌, ◌++◌, [], ℕ, true, false, not, List, length, nat_lt, refl, sym, ap, ◌∙◌, subst, arith, inl, inr}
use Rattle.std.proofs.lemmas.{Bool.Decides.nat_tests, Bool.and_parts, Bool.false_from_ne_true}
use Rattle.irig_lines.specs.declared.cutting.Until.TheVariants.{Blank, Text}
use Rattle.irig_lines.specs.{Commands.Asks, Grammar.AsksIn, Grammar.Does, Grammar.IsOrder, Grammar.Means, Keywords.keyword_of, Lines.are_quit, Lines.is_quit}
use Rattle.irig_lines.specs.{Lines.is_quit_word, Words.before, Words.onward, Words.words_of, declared.keyword.Keyword.Keyword, declared.command.Command.Command}
use Rattle.irig_lines.specs.declared.keyword.Keyword.TheVariants as word
use Rattle.irig_lines.specs.declared.command.Command.TheVariants as command
use Rattle.irig_lines.proofs.LineOrders.{means_one, means_onward}
use Rattle.irig_lines.proofs.{KnownWords.next_word, LineReading.order_of, OrderParts.found_words, Spacing.words_onward, WordLemmas.words_split}

-- no other word asks for the end of a script
only_quit : (k : Keyword) (range : List ℕ) (args : List (List ℕ)) → Asks k range args command.Quit → k ≡ word.Quit
only_quit word.Missing range args a = let e = a.1 in absurd (cc)
only_quit word.List range args a = let e = a.1 in absurd (cc)
only_quit word.Delete range args a = let e = a.1 in absurd (cc)
only_quit word.Shift range args a = let e = a.3 in absurd (cc)
only_quit word.Join range args a = let e = a.1 in absurd (cc)
only_quit word.Split range args a = let e = a.3 in absurd (cc)
only_quit word.Force range args a = let e = a.2 in absurd (cc)
only_quit word.Insert range args a = let e = a.2 in absurd (cc)
only_quit word.Invert range args a = let e = a.2 in absurd (cc)
only_quit word.Regen range args a = let e = a.4 in absurd (cc)
only_quit word.Format range args a = let e = a.3 in absurd (cc)
only_quit word.Mark range args a = let e = a.3 in absurd (cc)
only_quit word.Unmark range args a = let e = a.1 in absurd (cc)
only_quit word.Undo range args a = let e = a.0 in absurd (cc)
only_quit word.Redo range args a = let e = a.0 in absurd (cc)
only_quit word.Begin range args a = let e = a.0 in absurd (cc)
only_quit word.End range args a = let e = a.0 in absurd (cc)
only_quit word.Abort range args a = let e = a.0 in absurd (cc)
only_quit word.Frames range args a = let e = a.0 in absurd (cc)
only_quit word.Marks range args a = let e = a.0 in absurd (cc)
only_quit word.Info range args a = let e = a.0 in absurd (cc)
only_quit word.Write range args a = let e = a.0 in absurd (cc)
only_quit word.Save range args a = let e = a.0 in absurd (cc)
only_quit word.Quit range args a = refl
only_quit word.Unknown range args a = absurd a

the_word : (k : Keyword) → is_quit_word k ≡ true → k ≡ word.Quit
the_word word.Quit e = refl
the_word _ e = absurd (cc)

-- an order that ends the script is the word alone
quit_there : (w : List ℕ) (args : List (List ℕ)) (range : List ℕ) → Asks (keyword_of w) range args command.Quit
    → (is_quit_word (keyword_of w) ≡ true) × (range ≡ []) × (args ≡ [])
quit_there w args range a =
    let e : keyword_of w ≡ word.Quit = only_quit (keyword_of w) range args a in
    let b : Asks word.Quit range args command.Quit = subst (λ (k : Keyword). Asks k range args command.Quit) e a in
    (ap is_quit_word e, b.1, b.2)

quit_order : (text range : List ℕ) (words : List (List ℕ)) → IsOrder text range words → AsksIn range words command.Quit → are_quit (words_of text) ≡ true
quit_order text range [] o a = let e = a.1 in absurd (cc)
quit_order text range (w ∷ args) o a =
    let q = quit_there w args range a in
    let words : words_of text ≡ w ∷ [] =
    ap words_of (o.whole ∙ ap (λ t. t ++ (o.blank ++ o.rest)) q.1) ∙ found_words text range (w ∷ args) o ∙ ap (λ ws. w ∷ ws) q.2 in
    ap are_quit words ∙ q.0

pub quit_ends : (text : List ℕ) → length text ≤ 1000 → Means command.Quit text → is_quit text ≡ true
quit_ends text h m = go (means_onward text command.Quit m)
  where
    go : Does command.Quit (onward Text text) → is_quit text ≡ true
    go (inl d) = let e = d.1 in absurd (cc)
    go (inr d) =
        let short : nat_lt 1000 (length text) ≡ false = grind (arith, nat_tests) in
        let there : are_quit (words_of text) ≡ true = ap are_quit (words_onward text) ∙ quit_order (onward Text text) d.0 d.1 d.2 d.3 in
        rw (short, there) refl

quit_word : (words : List (List ℕ)) → are_quit words ≡ true → (w : List ℕ) × (words ≡ w ∷ []) × (keyword_of w ≡ word.Quit)
quit_word [] e = absurd (cc)
quit_word (w ∷ []) e = (w, refl, the_word (keyword_of w) e)
quit_word (w ∷ x ∷ words) e = absurd (cc)

-- a line that ends the script asks for its end
quit_means : (text : List ℕ) → is_quit text ≡ true → Means command.Quit text
quit_means text e =
    let q = quit_word (words_of text) (and_parts (not (nat_lt 1000 (length text))) (are_quit (words_of text)) e).1 in
    let rest = onward Blank (onward Text text) in
    let next = next_word (words_of text) (words_of rest) (before Blank (onward Text text)) q.0 [] (words_split text) q.1 in
    let name : keyword_of (before Blank (onward Text text)) ≡ word.Quit = ap keyword_of next.0 ∙ q.2 in
    let asked : Asks word.Quit [] (words_of rest) command.Quit = (refl, refl, next.1) in
    ([], text, refl, refl, inr (order_of text [] text command.Quit refl (subst (λ (k : Keyword). Asks k [] (words_of rest) command.Quit) (sym name) asked)))

-- a line that asks for another command does not end the script
pub other_goes_on : (c : Command) (text : List ℕ) → Means c text → c ≢ command.Quit → is_quit text ≡ false
other_goes_on c text m n = false_from_ne_true (is_quit text) (λ e. n (means_one text c command.Quit m (quit_means text e)))

-- nor does a line that is not valid
pub bad_goes_on : (text : List ℕ) → ((c : Command) → Means c text → ⊥) → is_quit text ≡ false
bad_goes_on text h = false_from_ne_true (is_quit text) (λ e. h command.Quit (quit_means text e))

-- nor does a line that is too long
pub long_goes_on : (text : List ℕ) → 1000 < length text → is_quit text ≡ false
long_goes_on text h =
    let long : nat_lt 1000 (length text) ≡ true = grind (arith, nat_tests) in
    rw long refl
