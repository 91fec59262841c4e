-- What one turn more does of the turns of the steps after the farthest.
use Rattle.std.proofs.Common.{◌≡◌, ◌∷◌, ◌≤◌, ℕ, List, length, ap, refl, sym, subst, ◌∙◌}
use Rattle.irig_journal.specs.{History.Step, Joining.CountsAlong, Joining.beyond, Joining.changes_of, Joining.farthest, Turns.left_by}
use Rattle.irig_journal.proofs.JoinLemmas.{beyond_more, beyond_none, farthest_all, farthest_more}

module _ {S D T : Type 0} where
  -- turns led from one state, tally and list to another, on the way down to the farthest
  pub record LedDown (turned : S → D → S × D) (counted : S → D → T → T → Type 0) (at : ℕ)
      (s now : S) (before tally : T) (all left : List (Step D)) : Type 0 where
    pub state : left_by turned s (changes_of (beyond at all)) ≡ left_by turned now (changes_of (beyond at left))
    pub rest : farthest at all ≡ farthest at left
    pub once : (last : T) → CountsAlong counted turned now (beyond at left) tally last
        → CountsAlong counted turned s (beyond at all) before last

  -- none led nowhere
  pub led_nowhere : (turned : S → D → S × D) (counted : S → D → T → T → Type 0) (at : ℕ)
      (s : S) (before : T) (all : List (Step D)) → LedDown turned counted at s s before before all all
  led_nowhere turned counted at s before all = record { state = refl; rest = refl; once = λ last h. h }

  -- one more leads one step further
  pub led_further : (turned : S → D → S × D) (counted : S → D → T → T → Type 0) (at : ℕ)
      (s now after : S) (before tally later : T) (near : Step D) (all some left : List (Step D))
      → some ≡ near ∷ left → at ≤ length left → (turned now near.change).0 ≡ after
      → counted now near.change tally later
      → LedDown turned counted at s now before tally all some
      → LedDown turned counted at s after before later all left
  led_further turned counted at s now after before tally later near all some left parts low there counts led =
      let next : beyond at some ≡ near ∷ beyond at left =
      ap (beyond at) parts ∙ beyond_more at near left low in
      record {
        state = led.state ∙ (ap (λ (l : List (Step D)). left_by turned now (changes_of l)) next
            ∙ ap (λ (t : S). left_by turned t (changes_of (beyond at left))) there);
        rest = led.rest ∙ (ap (farthest at) parts ∙ farthest_more at near left low);
        once = λ last h. led.once last
            (subst (λ (l : List (Step D)). CountsAlong counted turned now l tally last) (sym next)
            (later, counts, subst (λ (t : S). CountsAlong counted turned t (beyond at left) later last) (sym there) h));
      }

  -- if only the farthest are left, all was turned
  pub led_all : (turned : S → D → S × D) (counted : S → D → T → T → Type 0) (at : ℕ)
      (s now : S) (before tally : T) (all left : List (Step D)) → length left ≤ at
      → LedDown turned counted at s now before tally all left
      → (now ≡ left_by turned s (changes_of (beyond at all)))
      × (left ≡ farthest at all)
      × CountsAlong counted turned s (beyond at all) before tally
  led_all turned counted at s now before tally all left few led =
      let none = beyond_none at left few in (
        sym (led.state ∙ ap (λ (l : List (Step D)). left_by turned now (changes_of l)) none),
        sym (led.rest ∙ farthest_all at left few),
        led.once tally (subst (λ (l : List (Step D)). CountsAlong counted turned now l tally tally) (sym none) refl),
      )
