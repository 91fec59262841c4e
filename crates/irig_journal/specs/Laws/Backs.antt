-- Changes turned one after another are reversed by what leads back, in the opposite order. This
-- project's own.
use Rattle.std.proofs.Common.{◌≡◌, ◌++◌, ◌∷◌, [], List, reverse, refl, ap, ap₂, sym, subst, ◌∙◌}
use Rattle.std.proofs.lemmas.List.{reverse-append, reverse-reverse}
use Rattle.irig_journal.specs.Turns.{FitAll, left_by, backs, ways_back}
use Rattle.irig_journal.specs.Laws.Turns.{FitAll-append, backs-append, left_by-append}
use Rattle.irig_journal.specs.Laws.Turns.{ways_back-cons}

module _ {S D : Type 0} where
  -- a change leaves a state, from which the change that it leaves leads back
  pub record LeadsBack (is_state : S → Type 0) (fits : S → D → Type 0)
      (turned : S → D → S × D) : Type 0 where
    pub keeps : (s : S) (d : D) → is_state s → fits s d → is_state (turned s d).0
    pub back_fits : (s : S) (d : D) → is_state s → fits s d → fits (turned s d).0 (turned s d).1
    pub back : (s : S) (d : D) → is_state s → fits s d
        → turned (turned s d).0 (turned s d).1 ≡ (s, d)

  -- what leads back from all of them
  pub record LeadAllBack (fits : S → D → Type 0) (turned : S → D → S × D) (s : S)
      (ds : List D) : Type 0 where
    pub fit : FitAll fits turned (left_by turned s ds) (ways_back turned s ds)
    pub state : left_by turned (left_by turned s ds) (ways_back turned s ds) ≡ s
    pub backs : backs turned (left_by turned s ds) (ways_back turned s ds) ≡ reverse ds

  -- a change more, before the others
  back_over : (fits : S → D → Type 0) (turned : S → D → S × D) (s : S) (d : D) (ds : List D)
      → fits (turned s d).0 (turned s d).1 → turned (turned s d).0 (turned s d).1 ≡ (s, d)
      → LeadAllBack fits turned (turned s d).0 ds → LeadAllBack fits turned s (d ∷ ds)
  back_over fits turned s d ds back_fits back rest =
      let after = (turned s d).0 in
      let b = (turned s d).1 in
      let t = left_by turned after ds in
      let w = ways_back turned after ds in
      let whole : ways_back turned s (d ∷ ds) ≡ w ++ b ∷ [] = ways_back-cons turned s d ds in
      let fit : FitAll fits turned t (w ++ b ∷ []) =
      FitAll-append fits turned t w (b ∷ []) rest.fit
      (subst (λ (x : S). FitAll fits turned x (b ∷ [])) (sym rest.state) (back_fits, tt)) in
      let state : left_by turned t (w ++ b ∷ []) ≡ s =
      left_by-append turned t w (b ∷ [])
      ∙ (ap (λ (x : S). (turned x b).0) rest.state ∙ ap (λ (p : S × D). p.0) back) in
      let ways : backs turned t (w ++ b ∷ []) ≡ reverse (d ∷ ds) =
      backs-append turned t w (b ∷ [])
      ∙ (ap₂ (λ (l : List D) (x : D). l ++ x ∷ []) rest.backs
      (ap (λ (x : S). (turned x b).1) rest.state ∙ ap (λ (p : S × D). p.1) back)
      ∙ sym (reverse-append (d ∷ []) ds)) in
      record {
        fit = subst (λ (l : List D). FitAll fits turned t l) (sym whole) fit;
        state = ap (left_by turned t) whole ∙ state;
        backs = ap (backs turned t) whole ∙ ways;
      }

  -- what leads back from each of them leads back from all
  pub lead_all_back : (is_state : S → Type 0) (fits : S → D → Type 0) (turned : S → D → S × D)
      → LeadsBack is_state fits turned → (s : S) (ds : List D) → is_state s
      → FitAll fits turned s ds → LeadAllBack fits turned s ds
  lead_all_back is_state fits turned laws s [] here fit =
      record { fit = tt; state = refl; backs = refl }
  lead_all_back is_state fits turned laws s (d ∷ ds) here fit =
      back_over fits turned s d ds (laws.back_fits s d here fit.0) (laws.back s d here fit.0)
      (lead_all_back is_state fits turned laws (turned s d).0 ds (laws.keeps s d here fit.0) fit.1)

  -- the ways back of the ways back are the changes themselves
  pub ways_back-ways_back : (fits : S → D → Type 0) (turned : S → D → S × D) (s : S) (ds : List D)
      → LeadAllBack fits turned s ds
      → ways_back turned (left_by turned s ds) (ways_back turned s ds) ≡ ds
  ways_back-ways_back fits turned s ds laws = ap reverse laws.backs ∙ reverse-reverse ds
