-- What is sure, by the least cost of another candidate.
use Rattle.std.proofs.Common.{◌≡◌, ◌+◌, ◌-◌, ◌<◌, ◌≤◌, ◌++◌, ◌⊎◌, ◌∙◌, ℕ, zero, suc, true, false, List, [], ◌∷◌, length, Option, Some, None, MatchOption, ap, arith}
use Rattle.std.proofs.Common.{inl, inr, refl, slice_get, subst, sym}
use Rattle.std.proofs.lemmas.Bool.{leb-false, leb-true}
use Rattle.irig_dating.specs.{Choices.IsChoice, Choices.cost, Sure.Has, Sure.IsOther}
use Rattle.irig_telling.specs.{Dating.said_at, Dating.prices_of}
use Rattle.irig_telling.specs.{Told.IsChoiceOf, Told.IsTold, Told.cost_of, Told.is_sure}
use Rattle.irig_telling.specs.declared.dated.Dated.{Dated}

-- all choices below the bound have the candidate, and one that costs just that another one
pub record IsBound (d : Dated) (t c : ℕ) (other : Option ℕ) : Type 0 where
  pub sure : (x : List ℕ) → IsChoiceOf d x → MatchOption other (Has t c x) (λ b. cost_of d x < b → Has t c x)
  pub exact : MatchOption other (Unit {0}) (λ b. IsOther (prices_of d) (length d.bits.now) t c b)

-- the same by the tables of the bits
pub bound_of : (d e : Dated) (bits t c : ℕ) (other : Option ℕ) → e ≡ d → bits ≡ length d.bits.now
    → ((x : List ℕ) → IsChoice (prices_of e) bits x → MatchOption other (Has t c x) (λ b. cost (prices_of e) x < b → Has t c x))
    → MatchOption other (Unit {0}) (λ b. IsOther (prices_of e) bits t c b) → IsBound d t c other
bound_of d e bits t c other same count sure exact = record {
  sure = subst (λ (n : ℕ). (x : List ℕ) → IsChoice (prices_of d) n x → MatchOption other (Has t c x) (λ b. cost (prices_of d) x < b → Has t c x)) count
      (subst (λ (k : Dated). (x : List ℕ) → IsChoice (prices_of k) bits x → MatchOption other (Has t c x) (λ b. cost (prices_of k) x < b → Has t c x))
      same sure);
  exact = subst (λ (n : ℕ). MatchOption other (Unit {0}) (λ b. IsOther (prices_of d) n t c b)) count
      (subst (λ (k : Dated). MatchOption other (Unit {0}) (λ b. IsOther (prices_of k) bits t c b)) same exact);
}

-- so do all that cost less than the margin more, if it is sure
sure_by : (d : Dated) (t c margin least : ℕ) (other : Option ℕ) → 0 < margin → IsBound d t c other → is_sure margin least other ≡ true
    → (x : List ℕ) → IsChoiceOf d x → cost_of d x < least + margin → Has t c x
sure_by d t c margin least None some b e x is less = b.sure x is
sure_by d t c margin least (Some other) some b e x is less =
    let le : margin ≤ other - least = leb-true margin (other - least) e in b.sure x is (omega (arith, le, less, some))

-- no choice has two candidates for a bit
same_candidate : (t a b : ℕ) (x : List ℕ) → Has t a x → Has t b x → a ≡ b
same_candidate t a b x h k = cc

-- and else one has another candidate
unsure_by : (d : Dated) (t c margin least : ℕ) (other : Option ℕ) → 0 < margin → ((x : List ℕ) → IsChoiceOf d x → least ≤ cost_of d x)
    → IsBound d t c other → is_sure margin least other ≡ false → (x : List ℕ) × IsChoiceOf d x × (cost_of d x < least + margin) × (Has t c x → ⊥)
unsure_by d t c margin least None some low b e = absurd (cc)
unsure_by d t c margin least (Some other) some low b e =
    let o = b.exact in let w = o.choice in
    let lt : other - least < margin = leb-false margin (other - least) e in
    let le = low w.choice w.possible in
    (w.choice, w.possible, omega (arith, w.exact, lt, le, some), λ has. o.unlike (same_candidate t o.other c w.choice w.has has))

-- the base that is sure
pub told_is : (d : Dated) (t c margin least : ℕ) (other : Option ℕ) (cheapest : List ℕ) → 0 < margin
    → ((x : List ℕ) → IsChoiceOf d x → least ≤ cost_of d x) → IsChoiceOf d cheapest → cost_of d cheapest ≡ least → Has t c cheapest
    → IsBound d t c other → is_sure margin least other ≡ true → (base : Option ℕ) → base ≡ said_at d t c → IsTold d (least + margin) t base
told_is d t c margin least other cheapest some low possible exact has b e None none = λ base h.
    let same = same_candidate t c h.candidate cheapest has (h.all cheapest possible (omega (arith, exact, some))) in
    let is : said_at d t c ≡ Some base = subst (λ (n : ℕ). said_at d t n ≡ Some base) (sym same) h.is in
    let both : None ≡ Some base = none ∙ is in absurd (cc)
told_is d t c margin least other cheapest some low possible exact has b e (Some base) is = record {
  candidate = c;
  is = sym is;
  all = sure_by d t c margin least other some b e;
}

-- none is
pub untold_is : (d : Dated) (t c margin least : ℕ) (other : Option ℕ) (cheapest : List ℕ) → 0 < margin
    → ((x : List ℕ) → IsChoiceOf d x → least ≤ cost_of d x) → IsChoiceOf d cheapest → cost_of d cheapest ≡ least → Has t c cheapest
    → IsBound d t c other → is_sure margin least other ≡ false → IsTold d (least + margin) t None
untold_is d t c margin least other cheapest some low possible exact has b e = λ base h.
    let same = same_candidate t c h.candidate cheapest has (h.all cheapest possible (omega (arith, exact, some))) in
    let x = unsure_by d t c margin least other some low b e in
    let had = h.all x.0 x.1 x.2 in
    x.3 (subst (λ (n : ℕ). Has t n x.0) (sym same) had)

-- a choice by the tables of the bits
pub choice_of : (d e : Dated) (bits : ℕ) (x : List ℕ) → e ≡ d → bits ≡ length d.bits.now → IsChoice (prices_of e) bits x → IsChoiceOf d x
choice_of d e bits x same count h =
    subst (λ (n : ℕ). IsChoice (prices_of d) n x) count (subst (λ (k : Dated). IsChoice (prices_of k) bits x) same h)

pub choice_back : (d e : Dated) (bits : ℕ) (x : List ℕ) → e ≡ d → bits ≡ length d.bits.now → IsChoiceOf d x → IsChoice (prices_of e) bits x
choice_back d e bits x same count h =
    subst (λ (n : ℕ). IsChoice (prices_of e) n x) (sym count)
    (subst (λ (k : Dated). IsChoice (prices_of k) (length d.bits.now) x) (sym same) h)

pub costs_same : (d e : Dated) (x : List ℕ) → e ≡ d → cost (prices_of e) x ≡ cost_of d x
costs_same d e x same = ap (λ (k : Dated). cost (prices_of k) x) same

-- what is there after one more is either what was, or that
pushed : (xs : List (Option ℕ)) (x that : Option ℕ) (i : ℕ) → slice_get (xs ++ x ∷ []) i ≡ Some that
    → (slice_get xs i ≡ Some that) ⊎ ((i ≡ length xs) × (x ≡ that))
pushed [] x that zero e = inr (refl, cc)
pushed [] x that (suc i) e = absurd (cc)
pushed (r ∷ rs) x that zero e = inl e
pushed (r ∷ rs) x that (suc i) e = elim (pushed rs x that i e) [ inl h ↦ inl h | inr h ↦ (let same = h.0 in inr (cc, h.1)) ]

-- the base of one bit more
pub told_more : (d : Dated) (bound n : ℕ) (so_far items : List (Option ℕ)) (new : Option ℕ) → length so_far ≡ n → items ≡ so_far ++ new ∷ []
    → ((t : ℕ) (base : Option ℕ) → slice_get so_far t ≡ Some base → IsTold d bound t base) → IsTold d bound n new
    → (t : ℕ) (base : Option ℕ) → slice_get items t ≡ Some base → IsTold d bound t base
told_more d bound n so_far items new count more each is t base e =
    elim (pushed so_far new base t (subst (λ (xs : List (Option ℕ)). slice_get xs t ≡ Some base) more e)) [
      | inl was ↦ each t base was
      | inr that ↦ subst (λ (b : Option ℕ). IsTold d bound t b) that.1
          (subst (λ (k : ℕ). IsTold d bound k new) (let at = that.0 in omega (arith, at, count)) is)
    ]
