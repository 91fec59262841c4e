-- What is known of the stretches so far, with what is between two rises more.
use Rattle.std.proofs.Common.{◌≡◌, ◌++◌, ◌+◌, ◌-◌, ◌*◌, ◌^◌, ◌<◌, ◌≤◌, ℕ, Bool, true, false, List, [], ◌∷◌, Option, None, length, min, refl, subst, sym, ap, ◌∙◌, append_assoc, arith}
use Rattle.std.specs.Prelude.{Err, Ok, OnOk, Result, if◌then◌else◌}
use Rattle.irig_times.specs.declared.why.Why.{Why}
use Rattle.irig_stamps.specs.{declared.pending.Pending.Pending, declared.stretch.Stretch.Stretch}
use Rattle.irig_stamps.specs.{HoleTexts.IsShown, HoleTexts.IsUpTo, HoleTexts.IsText, HoleRows.rows, Joined.stretch, Joined.touches, Joined.with_more}
use Rattle.irig_stamps.proofs.HoleLaws.{timed-more, total-more, untimed-more}

module _ (has_none : ℕ → ℕ → Why → Type 0) (json : Bool) (comma : Option ℕ) where
  -- nothing is known of no moment
  pub up-to-none : (p : Pending) → p.text.items ≡ [] → p.last ≡ None → p.untimed ≡ 0 → p.count ≡ 0
      → IsUpTo has_none json comma 0 p
  up-to-none p text last untimed count = record {
    stretches = [];
    shown = subst (λ (l : Option Stretch). IsShown json comma l p.text.items []) (sym last) (refl, text);
    untimed = omega (arith, untimed);
    count = omega (arith, count);
    holes = record {
      order = tt;
      within = λ d n why is. absurd is;
      exact = λ d n why some lt. absurd (omega (arith, lt));
    };
  }

  module _ (limit end : ℕ) (p q : Pending) where
    pub up-to-timed : limit ≤ end → ((d n : ℕ) (why : Why) → 0 < d → d * limit ≤ n → n < d * end → has_none d n why → ⊥)
        → IsUpTo has_none json comma limit p → IsUpTo has_none json comma end p
    up-to-timed le none up = record {
      stretches = up.stretches;
      shown = up.shown;
      untimed = up.untimed;
      count = up.count;
      holes = timed-more has_none limit end up.stretches le none up.holes;
    }

    pub up-to-more : (why : Why) → limit < end → ((d n : ℕ) → 0 < d → d * limit ≤ n → n < d * end → has_none d n why)
        → ((d n : ℕ) (v w : Why) → has_none d n v → has_none d n w → v ≡ w)
        → ((stretches : List Stretch) → IsShown json comma p.last p.text.items stretches
        → IsShown json comma q.last q.text.items (with_more stretches (stretch limit end why)))
        → q.untimed ≡ min (p.untimed + (end - limit)) (2 ^ 64 - 1)
        → ((stretches : List Stretch) → IsShown json comma p.last p.text.items stretches → p.count ≡ min (length stretches) (2 ^ 64 - 1)
        → q.count ≡ min (length (with_more stretches (stretch limit end why))) (2 ^ 64 - 1))
        → IsUpTo has_none json comma limit p → IsUpTo has_none json comma end q
    up-to-more why lt none one shown untimed count up = record {
      stretches = with_more up.stretches (stretch limit end why);
      shown = shown up.stretches up.shown;
      untimed = omega (arith, untimed, up.untimed, total-more up.stretches (stretch limit end why) up.holes.order lt);
      count = count up.stretches up.shown up.count;
      holes = untimed-more has_none limit end why up.stretches lt none one up.holes;
    }

  -- all rows are the text
  pub is-text : (limit : ℕ) (p : Pending) (text : List ℕ) (untimed count : ℕ) → IsUpTo has_none json comma limit p
      → ((stretches : List Stretch) → IsShown json comma p.last p.text.items stretches → text ≡ rows json comma stretches) → untimed ≡ p.untimed
      → count ≡ p.count → IsText has_none json comma limit text untimed count
  is-text limit p text untimed count up shown same as_many = record {
    stretches = up.stretches;
    holes = up.holes;
    rows_are = shown up.stretches up.shown;
    untimed_is = omega (arith, same, up.untimed);
    count_is = omega (arith, as_many, up.count);
  }

-- what holds of a success by three facts of it
pub all-ok : {T E : Type 0} (r : Result T E) (A B C D : Type 0) → OnOk r A → OnOk r B → OnOk r C → (A → B → C → D) → OnOk r D
all-ok (Ok v) A B C D a b c f = f a b c
all-ok (Err e) A B C D a b c f = tt

-- one more stretch, after none, joined to the last one, or after it
pub counted-first : (stretches : List Stretch) (t : Stretch) → stretches ≡ [] → length (with_more stretches t) ≡ 1
counted-first stretches t none = ap (λ (l : List Stretch). length (with_more l t)) none

pub counted-next : (stretches before : List Stretch) (s t : Stretch) (b : Bool) → stretches ≡ s ∷ before → touches s t ≡ b
    → length (with_more stretches t) ≡ (if b then length stretches else 1 + length stretches)
counted-next stretches before s t true is e =
    let one : length (with_more (s ∷ before) t) ≡ length (s ∷ before) =
    ap (λ (v : Bool). length (if v then stretch s.begin t.end s.why ∷ before else t ∷ s ∷ before)) e in
    ap (λ (l : List Stretch). length (with_more l t)) is ∙ (one ∙ ap length (sym is))
counted-next stretches before s t false is e =
    let two : length (with_more (s ∷ before) t) ≡ length (t ∷ s ∷ before) =
    ap (λ (v : Bool). length (if v then stretch s.begin t.end s.why ∷ before else t ∷ s ∷ before)) e in
    omega (arith, ap (λ (l : List Stretch). length (with_more l t)) is, two, ap length is)

-- a text with two more
pub appended : {T E : Type 0} (r : Result T E) (a b c x y : List ℕ) → b ≡ a ++ x → OnOk r (c ≡ b ++ y) → OnOk r (c ≡ a ++ (x ++ y))
appended (Ok v) a b c x y e f = f ∙ (ap (λ (t : List ℕ). t ++ y) e ∙ append_assoc a x y)
appended (Err v) a b c x y e f = tt
