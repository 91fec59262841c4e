-- A range, a word and arguments ask for one command at most.
use Rattle.std.proofs.Common.{◌≡◌, ◌+◌, ℕ, ℤ, List, [], ◌∷◌, Option, Some, refl, sym, ap, ap₂, ◌∙◌, subst, arith}
use Rattle.irig_codes.specs.{declared.width.Element.Element, Words.element_word, Words.kind_word}
use Rattle.irig_codes.specs.declared.width.Element.TheVariants as element
use Rattle.irig_moment.specs.{Moment.MomentView, Written.moment_of}
use Rattle.irig_saved.specs.Letters.{letter_word}
use Rattle.irig_saved.proofs.SameWords.{same_kind}
use Rattle.irig_lines.specs.Arguments.{AreControls, AreFrames, AreTimes, IsExpression}
use Rattle.irig_lines.specs.Numbers.{IsDistance, IsNumber, sign_of, size, unsigned}
use Rattle.irig_lines.specs.{Addresses.IsTime, Commands.Asks, declared.command.Command.Command, declared.keyword.Keyword.Keyword, declared.time.Time.Time}
use Rattle.irig_lines.specs.declared.command.Command.TheVariants as command
use Rattle.irig_lines.specs.declared.keyword.Keyword.TheVariants as word
use Rattle.irig_lines.specs.declared.time.Time.TheVariants as time
use Rattle.irig_lines.proofs.SameAddress.{address_one, control_one, letter_one, mark_one, number_not_mark, number_one, address_or_cursor_one, range_one}
use Rattle.irig_lines.proofs.SameAddress.{signed_one}

-- times, distances and the other arguments
time_one : (text : List ℕ) (s t : Time) → IsTime text s → IsTime text t → s ≡ t
time_one text (time.At n) (time.At m) h k = ap time.At (number_one text n m h k)
time_one text (time.At n) (time.Mark l) h k = absurd (number_not_mark text n l h k)
time_one text (time.Mark l) (time.At n) h k = absurd (number_not_mark text n l k h)
time_one text (time.Mark l) (time.Mark m) h k = ap time.Mark (mark_one text l m h k)

distance_one : (text : List ℕ) (d e : ℤ) → IsDistance text d → IsDistance text e → d ≡ e
distance_one text d e h k = signed_one (sign_of text) d e h.sign k.sign (number_one (unsigned text) (size d) (size e) h.size k.size)

times_one : (args : List (List ℕ)) (s t u v : Time) → AreTimes args s t → AreTimes args u v → (s ≡ u) × (t ≡ v)
times_one args s t u v h k =
    let same : h.0 ∷ h.1 ∷ [] ≡ k.0 ∷ k.1 ∷ [] = sym h.2 ∙ k.2 in
    let x : h.0 ≡ k.0 = cc in
    let y : h.1 ≡ k.1 = cc in
    (time_one k.0 s u (subst (λ (w : List ℕ). IsTime w s) x h.3) k.3, time_one k.1 t v (subst (λ (w : List ℕ). IsTime w t) y h.4) k.4)

controls_one : (args : List (List ℕ)) (c d : ℕ) → AreControls args c → AreControls args d → c ≡ d
controls_one [] c d h k = h ∙ sym k
controls_one (w ∷ []) c d h k = control_one w c d h k
controls_one (w ∷ x ∷ args) c d h k = absurd h

some_one : (o : Option MomentView) (m n : MomentView) → o ≡ Some m → o ≡ Some n → m ≡ n
some_one o m n h k = let both : Some m ≡ Some n = sym h ∙ k in cc

frames_one : (args : List (List ℕ)) (s t : Time) (f g : ℕ) (m n : MomentView) (c d : ℕ) → AreFrames args s f m c → AreFrames args t g n d
    → (s ≡ t) × (f ≡ g) × (m ≡ n) × (c ≡ d)
frames_one args s t f g m n c d h k =
    let same : h.0 ∷ h.1 ∷ h.2 ∷ h.3 ≡ k.0 ∷ k.1 ∷ k.2 ∷ k.3 = sym h.4 ∙ k.4 in
    let x : h.0 ≡ k.0 = cc in
    let y : h.1 ≡ k.1 = cc in
    let z : h.2 ≡ k.2 = cc in
    let rest : h.3 ≡ k.3 = cc in (
      time_one k.0 s t (subst (λ (w : List ℕ). IsTime w s) x h.5) k.5,
      number_one k.1 f g (subst (λ (w : List ℕ). IsNumber w f) y h.6) k.6,
      some_one (moment_of k.2) m n (subst (λ (w : List ℕ). moment_of w ≡ Some m) z h.7) k.7,
      controls_one k.3 c d (subst (λ (ws : List (List ℕ)). AreControls ws c) rest h.8) k.8,
    )

element_one : (e f : Element) → element_word e ≡ element_word f → e ≡ f
element_one element.Zero element.Zero h = refl
element_one element.Zero element.One h = cc
element_one element.Zero element.Position h = cc
element_one element.One element.Zero h = cc
element_one element.One element.One h = refl
element_one element.One element.Position h = cc
element_one element.Position element.Zero h = cc
element_one element.Position element.One h = cc
element_one element.Position element.Position h = refl

expression_one : (text : List ℕ) (n m : ℕ) → IsExpression text n → IsExpression text m → n ≡ m
expression_one text n m h k =
    let words : (48 + n) ∷ [] ≡ (48 + m) ∷ [] = sym h.0 ∙ k.0 in
    let same : 48 + n ≡ 48 + m = cc in
    omega arith

-- what a word asks for
pub asks_one : (k : Keyword) (range : List ℕ) (args : List (List ℕ)) (c d : Command) → Asks k range args c → Asks k range args d → c ≡ d
asks_one word.Missing range args c d h k = h.1 ∙ ap command.Show (address_one range h.0 k.0 h.2 k.2) ∙ sym k.1
asks_one word.List range args c d h k = h.1 ∙ ap command.List (range_one range h.0 k.0 h.2 k.2) ∙ sym k.1
asks_one word.Delete range args c d h k = h.1 ∙ ap command.Delete (range_one range h.0 k.0 h.2 k.2) ∙ sym k.1
asks_one word.Join range args c d h k = h.1 ∙ ap command.Join (range_one range h.0 k.0 h.2 k.2) ∙ sym k.1
asks_one word.Shift range args c d h k =
    let words : h.2 ∷ [] ≡ k.2 ∷ [] = sym h.5 ∙ k.5 in
    let same : h.2 ≡ k.2 = cc in
    let by = distance_one k.2 h.1 k.1 (subst (λ (w : List ℕ). IsDistance w h.1) same h.6) k.6 in
    h.3 ∙ ap₂ command.Shift (range_one range h.0 k.0 h.4 k.4) by ∙ sym k.3
asks_one word.Split range args c d h k =
    let a = address_or_cursor_one range h.0 k.0 h.4 k.4 in
    let t = times_one args h.1 h.2 k.1 k.2 h.5 k.5 in
    h.3 ∙ (λ i. command.Split (a i) (t.0 i) (t.1 i)) ∙ sym k.3
asks_one word.Force range args c d h k =
    let words : element_word h.1 ∷ [] ≡ element_word k.1 ∷ [] = sym h.4 ∙ k.4 in
    let same : element_word h.1 ≡ element_word k.1 = cc in
    h.2 ∙ ap₂ command.Force (address_or_cursor_one range h.0 k.0 h.3 k.3) (element_one h.1 k.1 same) ∙ sym k.2
asks_one word.Insert range args c d h k =
    let t = times_one args h.0 h.1 k.0 k.1 h.4 k.4 in
    h.2 ∙ ap₂ command.Insert t.0 t.1 ∙ sym k.2
asks_one word.Invert range args c d h k =
    let t = times_one args h.0 h.1 k.0 k.1 h.4 k.4 in
    h.2 ∙ ap₂ command.Invert t.0 t.1 ∙ sym k.2
asks_one word.Regen range args c d h k =
    let f = frames_one args h.0 k.0 h.1 k.1 h.2 k.2 h.3 k.3 h.6 k.6 in
    h.4 ∙ (λ i. command.Regen (f.0 i) (f.1 i) (f.2 i) (f.3 i)) ∙ sym k.4
asks_one word.Format range args c d h k =
    let words : kind_word h.0 ∷ h.2 ∷ [] ≡ kind_word k.0 ∷ k.2 ∷ [] = sym h.5 ∙ k.5 in
    let name : kind_word h.0 ≡ kind_word k.0 = cc in
    let digit : h.2 ≡ k.2 = cc in
    let n = expression_one k.2 h.1 k.1 (subst (λ (w : List ℕ). IsExpression w h.1) digit h.6) k.6 in
    h.3 ∙ ap₂ command.Format (same_kind h.0 k.0 name) n ∙ sym k.3
asks_one word.Mark range args c d h k =
    let words : letter_word h.0 ∷ h.2 ∷ [] ≡ letter_word k.0 ∷ k.2 ∷ [] = sym h.5 ∙ k.5 in
    let letter = letter_one h.0 k.0 cc in
    let at : h.2 ≡ k.2 = cc in
    let t = time_one k.2 h.1 k.1 (subst (λ (w : List ℕ). IsTime w h.1) at h.7) k.7 in
    h.3 ∙ ap₂ command.Mark letter t ∙ sym k.3
asks_one word.Unmark range args c d h k =
    let words : letter_word h.0 ∷ [] ≡ letter_word k.0 ∷ [] = sym h.3 ∙ k.3 in
    let letter = letter_one h.0 k.0 cc in
    h.1 ∙ ap command.Unmark letter ∙ sym k.1
asks_one word.Undo range args c d h k = h.0 ∙ sym k.0
asks_one word.Redo range args c d h k = h.0 ∙ sym k.0
asks_one word.Begin range args c d h k = h.0 ∙ sym k.0
asks_one word.End range args c d h k = h.0 ∙ sym k.0
asks_one word.Abort range args c d h k = h.0 ∙ sym k.0
asks_one word.Frames range args c d h k = h.0 ∙ sym k.0
asks_one word.Marks range args c d h k = h.0 ∙ sym k.0
asks_one word.Info range args c d h k = h.0 ∙ sym k.0
asks_one word.Write range args c d h k = h.0 ∙ sym k.0
asks_one word.Save range args c d h k = h.0 ∙ sym k.0
asks_one word.Quit range args c d h k = h.0 ∙ sym k.0
asks_one word.Unknown range args c d h k = absurd h
