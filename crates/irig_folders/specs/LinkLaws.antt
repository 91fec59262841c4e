-- Where links lead in folders in memory: a link leads where its text leads.
use Rattle.std.proofs.Common.{◌≡◌, ◌∙◌, ◌-◌, arith, ℕ, zero, suc, List, Option, Some, None, ap}
use Rattle.std.proofs.Common.{refl, sym, subst}
use Rattle.irig_files.specs.Paths.{followed}
use Rattle.irig_folders.specs.Links.{end_by, end_of, ends, link_at, link_by, text_at}
use Rattle.irig_folders.specs.Tree.{IsOther, IsOtherEnd, path_by, path_to}
use Rattle.irig_folders.specs.declared.layout.{Layout.Layout, Other.Other}

end_stays : (path e : List ℕ) (f g : List ℕ → Option (List ℕ))
    → ((t : List ℕ) → f t ≡ Some e → g t ≡ Some e)
    → (x : Option (List ℕ)) → end_by path f x ≡ Some e → end_by path g x ≡ Some e
end_stays path e f g later None is = is
end_stays path e f g later (Some t) is = later t is

-- one link more changes no end
one_more : (texts : List ℕ → Option (List ℕ)) (n : ℕ) (path e : List ℕ)
    → end_of texts n path ≡ Some e
    → end_of texts (suc n) path ≡ Some e
one_more texts zero path e is =
    end_stays path e (λ _. None) (λ t. end_of texts zero (followed path t))
    (λ t none. absurd (cc none)) (texts path) is
one_more texts (suc n) path e is = end_stays path e (λ t. end_of texts n (followed path t))
    (λ t. end_of texts (suc n) (followed path t)) (λ t. one_more texts n (followed path t) e)
    (texts path) is

-- a link has the end of what it leads to
step : (texts : List ℕ → Option (List ℕ)) (n : ℕ) (path t e : List ℕ) → texts path ≡ Some t
    → end_of texts n path ≡ Some e → end_of texts n (followed path t) ≡ Some e
step texts zero path t e at is =
    let clash : None ≡ Some e = sym (ap (end_by path (λ _. None)) at) ∙ is in absurd (cc clash)
step texts (suc n) path t e at is = one_more texts n (followed path t) e
    (sym (ap (end_by path (λ u. end_of texts n (followed path u))) at) ∙ is)

pub end_here : (texts : List ℕ → Option (List ℕ)) (n : ℕ) (path : List ℕ) → texts path ≡ None
    → end_of texts n path ≡ Some path
end_here texts zero path none = ap (end_by path (λ _. None)) none
end_here texts (suc n) path none = ap (end_by path (λ t. end_of texts n (followed path t))) none

pub end_next : (texts : List ℕ → Option (List ℕ)) (n : ℕ) (path t : List ℕ) → texts path ≡ Some t
    → (n ≡ 0 → ⊥)
    → end_of texts (n - 1) (followed path t) ≡ end_of texts n path
end_next texts zero path t at ne = absurd (ne refl)
end_next texts (suc n) path t at ne =
    let less : suc n - 1 ≡ n = omega arith in
    ap (λ k. end_of texts k (followed path t)) less
    ∙ sym (ap (end_by path (λ u. end_of texts n (followed path u))) at)

module _ (w : Layout) (o : List ℕ → Option Other) where
  link_end : (path t : List ℕ) (x : Option (List ℕ)) → ends w o path ≡ x
      → link_by x (text_at w.folders.items o path) ≡ Some t → ends w o (followed path t) ≡ x
  link_end path t None is link = absurd (cc link)
  link_end path t (Some e) is link = step (text_at w.folders.items o) w.limit path t e link is

  -- a link leads where its text leads
  pub follows_link : (path t : List ℕ) → link_at w o path ≡ Some t
      → (path_to w o (followed path t) ≡ path_to w o path)
      × (IsOther w o (followed path t) → IsOther w o path)
  follows_link path t link =
      let same : ends w o (followed path t) ≡ ends w o path =
      link_end path t (ends w o path) refl link in (
        ap (path_by w.folders.items o) same,
        λ other. subst (IsOtherEnd w.folders.items o) same other,
      )
