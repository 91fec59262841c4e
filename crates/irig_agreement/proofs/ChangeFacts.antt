-- A result agrees with a recording at a moment, or there is a reason why it does not.
use Rattle.std.proofs.Common.{◌≡◌, ◌*◌, ℕ, true, false, List, [], ◌∷◌, Option, Some, None, refl, sym, ◌∙◌, subst}
use Rattle.std.specs.Prelude.{◌↔◌}
use Rattle.std.proofs.lemmas.Option.{none-some, same_Some}
use Rattle.irig_codes.specs.Format.{FormatView}
use Rattle.irig_recording.specs.declared.pulse.Pulse.{Pulse}
use Rattle.irig_timed.specs.{Moments.frames_by, declared.moment.Moment.Moment}
use Rattle.irig_agreement.specs.{Agreed.HasAgreed, declared.agreed.Agreed.Agreed}
use Rattle.irig_agreement.specs.Agreement.{Agree, Agrees, IsAsked, IsTime, is_alike}
use Rattle.irig_agreement.specs.{Changes.AreFaults, Changes.IsChange, Doubts.IsNextToDoubt}
use Rattle.irig_agreement.specs.declared.fault.{Change.Change, Fault.Fault}
use Rattle.irig_agreement.specs.declared.fault.Change.TheVariants.{Doubted, Lost, Other}

module _ (f : FormatView) (century : ℕ) (old new : List Pulse) where
  change-denies : (m : ℕ) → Agrees f century old new m → (w : Change) → IsChange f century old new m w → ⊥
  change-denies m g Lost h = let there = g.kept h.0.0 h.0.1 in h.1 there.0 there.1
  change-denies m g Other h =
      let there = g.kept h.0 h.1 in
      let far = h.3 there.0 there.1 in
      let near = there.2 in
      cc
  change-denies m g Doubted h = let there = g.sure h.1.0 h.1.1 h.2 in h.0 there.0 there.1

  -- if they agree at all moments in question, there is no fault
  pub no-faults : Agree f century old new → (list : List Fault) → AreFaults f century old new list → list ≡ []
  no-faults agree [] are = refl
  no-faults agree (x ∷ list) are = let here = are 0 x refl in absurd (change-denies x.moment (agree x.moment here.0) x.what here.1)

  -- by the times of a moment, if there are any
  module _ (m : ℕ) (r s : Option Moment) (was : (x : Moment) → (r ≡ Some x) ↔ IsTime f century old m x)
      (now : (y : Moment) → (s ≡ Some y) ↔ IsTime f century new m y) where
    pub agree-alike : (x y : Moment) → r ≡ Some x → s ≡ Some y → is_alike f century old new x y ≡ true → Agrees f century old new m
    agree-alike x y one other near = record {
      kept = λ z timed.
          let same : x ≡ z = same_Some x z (sym one ∙ (was z).1 timed) in
          (y, (now y).0 other, subst (λ (v : Moment). is_alike f century old new v y ≡ true) same near);
      sure = λ z timed next. (x, (was x).0 one);
    }

    pub change-other : (x y : Moment) → r ≡ Some x → s ≡ Some y → is_alike f century old new x y ≡ false → IsChange f century old new m Other
    change-other x y one other far = (
      x,
      (was x).0 one,
      (y, (now y).0 other),
      λ z timed. (let same : y ≡ z = same_Some y z (sym other ∙ (now z).1 timed) in
          subst (λ (v : Moment). is_alike f century old new x v ≡ false) same far),
    )

    pub change-lost : (x : Moment) → r ≡ Some x → s ≡ None → IsChange f century old new m Lost
    change-lost x one none = ((x, (was x).0 one), λ y timed. none-some y (sym none ∙ (now y).1 timed))

    pub agree-undoubted : r ≡ None → (IsNextToDoubt f century old (frames_by f false century old) m → ⊥) → Agrees f century old new m
    agree-undoubted none sure = record {
      kept = λ x timed. absurd (none-some x (sym none ∙ (was x).1 timed));
      sure = λ y timed next. absurd (sure next);
    }

    pub change-doubted : (y : Moment) → r ≡ None → s ≡ Some y → IsNextToDoubt f century old (frames_by f false century old) m
        → IsChange f century old new m Doubted
    change-doubted y none other next = (λ x timed. none-some x (sym none ∙ (was x).1 timed), (y, (now y).0 other), next)

    pub agree-none : r ≡ None → s ≡ None → Agrees f century old new m
    agree-none none none-too = record {
      kept = λ x timed. absurd (none-some x (sym none ∙ (was x).1 timed));
      sure = λ y timed next. absurd (none-some y (sym none-too ∙ (now y).1 timed));
    }

-- the same of tracks that are the same
module _ (f : FormatView) (century : ℕ) (old old-too new new-too : List Pulse) (one : old ≡ old-too) (other : new ≡ new-too) where
  pub agrees-same : (m : ℕ) → Agrees f century old new m → Agrees f century old-too new-too m
  agrees-same m h = subst (λ (q : List Pulse). Agrees f century old-too q m) other (subst (λ (q : List Pulse). Agrees f century q new m) one h)

  pub agreed-same : (a : Agreed) → HasAgreed f century old new a → HasAgreed f century old-too new-too a
  agreed-same a h = λ m from to. agrees-same m (h m from to)

  pub faults-same : (list : List Fault) → AreFaults f century old new list → AreFaults f century old-too new-too list
  faults-same list h =
      subst (λ (q : List Pulse). AreFaults f century old-too q list) other (subst (λ (q : List Pulse). AreFaults f century q new list) one h)

  pub asked-same : (m : ℕ) → IsAsked old new m → IsAsked old-too new-too m
  asked-same m h = subst (λ (q : List Pulse). IsAsked old-too q m) other (subst (λ (q : List Pulse). IsAsked q new m) one h)
