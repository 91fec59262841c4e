-- What the parser reads of a line is how the line is put together.
use Rattle.std.proofs.Common.{◌≡◌, ℕ, ◌++◌, true, false, List, [], ◌∷◌, refl, sym, ap, ◌∙◌, subst, inl, inr}
use Rattle.std.proofs.lemmas.{Bool.not-true, List.append-nil}
use Rattle.irig_lines.specs.Grammar.{AreWords, AsksIn, Does, IsBlank, IsOrder, Means, Orders, follows_range, is_nothing}
use Rattle.irig_lines.specs.declared.cutting.Until.TheVariants.{Blank, Text}
use Rattle.irig_lines.specs.{Addresses.IsRange, Commands.Asks, Keywords.keyword_of, Words.before, Words.is_space, Words.onward, Words.word_and, Words.words_of}
use Rattle.irig_lines.specs.{declared.command.Command.Command, declared.keyword.Keyword.Keyword, declared.range.Range.Range}
use Rattle.irig_lines.specs.declared.command.Command.TheVariants as command
use Rattle.irig_lines.specs.declared.keyword.Keyword.TheVariants as word
use Rattle.irig_lines.proofs.WordLemmas.{BeginsAt, before_on, cut_begins, cut_whole, onward_on}
use Rattle.irig_lines.proofs.{KnownWords.next_word, Spacing.arguments_behind, Spacing.blank_before, Spacing.word_before, OrderParts.follows}
use Rattle.irig_lines.proofs.{OrderParts.found_words, OrderParts.ranged_in, LineOrders.means_onward, LineOrders.onward_means}

-- the parts that the parser cuts are an order
pub order_of : (text front rest : List ℕ) (c : Command) → text ≡ front ++ rest
    → Asks (keyword_of (before Blank (onward Text rest))) front (words_of (onward Blank (onward Text rest))) c → Orders c text
order_of text front rest c e h = go (onward Text rest) refl (cut_begins Text rest) h
  where
    go : (t : List ℕ) → onward Text rest ≡ t → BeginsAt Text t → Asks (keyword_of (before Blank t)) front (words_of (onward Blank t)) c → Orders c text
    go [] f begins asks =
        let blank : IsBlank rest = subst IsBlank (sym (append-nil (before Text rest)) ∙ ap (λ t. before Text rest ++ t) (sym f) ∙ cut_whole Text rest)
        (blank_before rest) in
        let order : IsOrder text front [] = record { blank = []; rest = rest; whole = e; between = refl; behind = blank } in
        (front, [], order, asks)
    go (b ∷ s) f begins asks =
        let none : is_space b ≡ false = not-true (is_space b) begins in
        let name : before Blank (b ∷ s) ≡ b ∷ before Blank s = before_on Blank b s none in
        let after : onward Blank (b ∷ s) ≡ onward Blank s = onward_on Blank b s none in
        let all : rest ≡ before Text rest ++ (b ∷ s) = sym (cut_whole Text rest) ∙ ap (λ t. before Text rest ++ t) f in
        let words : AreWords (b ∷ s) ((b ∷ before Blank s) ∷ words_of (onward Blank s)) =
        (onward Blank s, ap (λ t. b ∷ t) (sym (cut_whole Blank s)), word_before b s none, arguments_behind s) in
        let order : IsOrder text front ((b ∷ before Blank s) ∷ words_of (onward Blank s)) =
        record { blank = before Text rest; rest = b ∷ s; whole = e ∙ ap (λ t. front ++ t) all; between = blank_before rest; behind = words } in
        let told : Asks (keyword_of (b ∷ before Blank s)) front (words_of (onward Blank s)) c =
        subst (λ (t : List ℕ). Asks (keyword_of t) front (words_of (onward Blank s)) c) name
        (subst (λ (t : List ℕ). Asks (keyword_of (before Blank (b ∷ s))) front (words_of t) c) after asks) in
        (front, (b ∷ before Blank s) ∷ words_of (onward Blank s), order, told)

-- and if those ask for nothing, no order does
pub no_order_of : (text front rest name args : List ℕ) (k : Keyword) → k ≡ keyword_of name
    → ((range behind : List ℕ) (r : Range) → text ≡ range ++ behind → IsRange range r → follows_range behind ≡ true → (front ≡ range) × (rest ≡ behind))
    → words_of rest ≡ word_and name (words_of args)
    → ((c : Command) → Asks k front (words_of args) c → ⊥) → (c : Command) → Orders c text → ⊥
no_order_of text front rest name args k known cut words bad c h = go h.1 h.2 h.3
  where
    go : (ws : List (List ℕ)) → IsOrder text h.0 ws → AsksIn h.0 ws c → ⊥
    go ws o asks =
        let r = ranged_in h.0 ws c asks in
        let parts = cut h.0 (o.blank ++ o.rest) r.0 o.whole r.1 (follows text h.0 ws c o asks) in
        let same : word_and name (words_of args) ≡ ws = sym words ∙ ap words_of parts.1 ∙ found_words text h.0 ws o in
        told ws same (subst (λ (t : List ℕ). AsksIn t ws c) (sym parts.0) asks)
      where
        told : (ws : List (List ℕ)) → word_and name (words_of args) ≡ ws → AsksIn front ws c → ⊥
        told [] e a = alone name e a (subst (λ (x : Keyword). (c : Command) → Asks x front (words_of args) c → ⊥) known bad)
          where
            alone : (n : List ℕ) → word_and n (words_of args) ≡ [] → Asks word.Missing front [] c
                → ((c : Command) → Asks (keyword_of n) front (words_of args) c → ⊥) → ⊥
            alone [] f k b = b c k
            alone (x ∷ xs) f k b = cc
        told (w ∷ more) e a =
            let next = next_word (word_and name (words_of args)) (words_of args) name w more refl e in
            let here : Asks (keyword_of name) front (words_of args) c =
            subst (λ (t : List ℕ). Asks (keyword_of t) front (words_of args) c) (sym next.0)
            (subst (λ (t : List (List ℕ)). Asks (keyword_of w) front t c) (sym next.1) a) in
            bad c (subst (λ (x : Keyword). Asks x front (words_of args) c) (sym known) here)

-- what the parser reads of a line
pub order_read : (text front rest name args : List ℕ) (k : Keyword) → text ≡ front ++ rest
    → name ≡ before Blank (onward Text rest) → args ≡ onward Blank (onward Text rest) → k ≡ keyword_of name
    → (c : Command) → Asks k front (words_of args) c → Orders c text
order_read text front rest name args k e n a w c h =
    let named : Asks (keyword_of (before Blank (onward Text rest))) front (words_of args) c =
    subst (λ (x : Keyword). Asks x front (words_of args) c) (w ∙ ap keyword_of n) h in
    order_of text front rest c e (subst (λ (t : List ℕ). Asks (keyword_of (before Blank (onward Text rest))) front (words_of t) c) a named)

pub line_rests : (line text : List ℕ) → text ≡ onward Text line → is_nothing text ≡ true → Means command.Nothing line
line_rests line text e h = onward_means line command.Nothing (inl (subst (λ (t : List ℕ). is_nothing t ≡ true) e h, refl))

pub line_orders : (line text : List ℕ) (c : Command) → text ≡ onward Text line → Orders c text → Means c line
line_orders line text c e h = onward_means line c (inr (subst (Orders c) e h))

pub line_refused : (line text : List ℕ) → text ≡ onward Text line → is_nothing text ≡ false → ((c : Command) → Orders c text → ⊥) → (c : Command) → Means c line
    → ⊥
line_refused line text e n bad c h = go (subst (Does c) (sym e) (means_onward line c h))
  where
    go : Does c text → ⊥
    go (inl d) = let both : true ≡ false = sym d.0 ∙ n in cc
    go (inr d) = bad c d
