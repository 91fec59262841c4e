-- Texts sent through a block.
use Rattle.std.proofs.Common.{[], ◌∷◌, ◌≢◌, ◌++◌, ℕ, List, Option, refl, sym, ap, ◌∙◌, append_assoc, subst}
use Rattle.std.proofs.KnownBytes.{Appends-trans}
use Rattle.std.specs.Io.KnownBytes.{Appends}
use Rattle.std.specs.Prelude.{Result, Ok, Err}
use Rattle.irig_print.specs.{Blocks.Sends, Front.AppendsFront, Front.Prints}

-- what is missing of a text is missing of a longer one
missing_longer : (x y : List ℕ) → x ≢ [] → x ++ y ≢ []
missing_longer [] y h = absurd (h refl)
missing_longer (b ∷ x) y h = λ e. absurd (cc)

-- some of a text's front is some of a longer text's front
pub front_longer : (a b : Option (List ℕ)) (x y : List ℕ) → AppendsFront a b x → AppendsFront a b (x ++ y)
front_longer a b x y p = record {
  front = p.front;
  back = p.back ++ y;
  part = ap (λ l. l ++ y) p.part ∙ append_assoc p.front p.back y;
  missing =
      missing_longer p.back y p.missing;
  appends = p.appends;
}

-- some of a text's front, after a text
pub front_behind : (a b c : Option (List ℕ)) (x y : List ℕ) → Appends a b x → AppendsFront b c y → AppendsFront a c (x ++ y)
front_behind a b c x y p q = record {
  front = x ++ q.front;
  back = q.back;
  missing = q.missing;
  part = ap (λ l. x ++ l) q.part ∙ sym (append_assoc x q.front q.back);
  appends = Appends-trans a b c x q.front p q.appends;
}

-- a text after another
pub sends_more : (a b c : Option (List ℕ)) (w x z t u : List ℕ) → Sends a b w x t → Sends b c x z u → Sends a c w z (t ++ u)
sends_more a b c w x z t u p q = (
  p.0 ++ q.0,
  Appends-trans a b c p.0 q.0 p.1 q.1,
  sym (append_assoc w t u) ∙ ap (λ l. l ++ u) p.2 ∙ append_assoc p.0 x u ∙ ap (λ l. p.0 ++ l) q.2 ∙ sym (append_assoc p.0 q.0 z),
)

-- the same, if the sending failed
pub sends_front : (a b c : Option (List ℕ)) (x t u : List ℕ) → Sends a b [] x t → AppendsFront b c (x ++ u) → AppendsFront a c (t ++ u)
sends_front a b c x t u p q = record {
  front = p.0 ++ q.front;
  back = q.back;
  missing = q.missing;
  part = ap (λ l. l ++ u) p.2 ∙ append_assoc p.0 x u ∙ ap (λ l. p.0 ++ l) q.part ∙ sym (append_assoc p.0 q.front q.back);
  appends = Appends-trans a b c p.0 q.front p.1 q.appends;
}

-- the same, if what was held back is sent
sends_end : (a b c : Option (List ℕ)) (x t : List ℕ) → Sends a b [] x t → AppendsFront b c x → AppendsFront a c t
sends_end a b c x t p q = record {
  front = p.0 ++ q.front;
  back = q.back;
  missing = q.missing;
  part = p.2 ∙ ap (λ l. p.0 ++ l) q.part ∙ sym (append_assoc p.0 q.front q.back);
  appends = Appends-trans a b c p.0 q.front p.1 q.appends;
}

-- all was sent
sends_all : (a b c : Option (List ℕ)) (x t : List ℕ) → Sends a b [] x t → Appends b c x → Appends a c t
sends_all a b c x t p q = subst (λ l. Appends a c l) (sym p.2) (Appends-trans a b c p.0 x p.1 q)

-- what was held back was printed, or not all of it
pub prints_end : {E : Type 0} (a b c : Option (List ℕ)) (x t : List ℕ) (r : Result Unit E) → Sends a b [] x t → Prints b c x r → Prints a c t r
prints_end a b c x t (Ok done) p q = sends_all a b c x t p q
prints_end a b c x t (Err fault) p q = sends_end a b c x t p q
