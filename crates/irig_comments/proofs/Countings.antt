-- The numbers of the frames that differ, and those that are still to be counted.
use Rattle.std.proofs.Common.{◌≡◌, ◌+◌, ◌<◌, ◌^◌, ◌∙◌, Bool, cond, List, [], ◌∷◌, length, ap, subst, arith, count_by}
use Rattle.std.proofs.lemmas.List.Sums.{count_by-le-length, sum_by-cons}
use Rattle.irig_comments.specs.Counts.{counts_between, fine_frames, is_alone, is_both}
use Rattle.irig_comments.specs.{Framed.FramedView, Sides.changes, declared.counts.Counts.Counts, declared.sides.Sides.Sides}

abbrev is_made : Sides → Bool
is_made s = is_alone s.after s.before

abbrev is_lost : Sides → Bool
is_lost s = is_alone s.before s.after

abbrev is_changed : Sides → Bool
is_changed s = is_both s.before s.after

-- what is counted and what is left are all
pub record IsCounting (b a : FramedView) (n : Counts) (left : List Sides) : Type 0 where
  pub fine_before : n.fine_before ≡ fine_frames b
  pub fine_after : n.fine_after ≡ fine_frames a
  pub made : count_by is_made left + n.made ≡ count_by is_made (changes b a)
  pub lost : count_by is_lost left + n.lost ≡ count_by is_lost (changes b a)
  pub changed : count_by is_changed left + n.changed ≡ count_by is_changed (changes b a)
  pub few : length (changes b a) < 2 ^ 32

pub counting_room : (b a : FramedView) (n : Counts) (left : List Sides) → IsCounting b a n left → (n.made < 2 ^ 32) × (n.lost < 2 ^ 32) × (n.changed < 2 ^ 32)
counting_room b a n left h = (
  omega (arith, h.made, h.few, count_by-le-length is_made (changes b a)),
  omega (arith, h.lost, h.few, count_by-le-length is_lost (changes b a)),
  omega (arith, h.changed, h.few, count_by-le-length is_changed (changes b a)),
)

-- before the first one
pub counting_none : (b a : FramedView) (n : Counts) (left : List Sides) → n.fine_before ≡ fine_frames b → n.fine_after ≡ fine_frames a → n.made ≡ 0
    → n.lost ≡ 0 → n.changed ≡ 0
    → left ≡ changes b a → length left < 2 ^ 32 → IsCounting b a n left
counting_none b a n left x y made lost changed all few = record {
  fine_before = x;
  fine_after = y;
  made = omega (arith, made, ap (count_by is_made) all);
  lost = omega (arith, lost, ap (count_by is_lost) all);
  changed = omega (arith, changed, ap (count_by is_changed) all);
  few = subst (λ l. length l < 2 ^ 32) all few;
}

-- after one more
pub counting_more : (b a : FramedView) (old new : Counts) (s : Sides) (left rest : List Sides) → IsCounting b a old left → left ≡ s ∷ rest
    → new.fine_before ≡ old.fine_before → new.fine_after ≡ old.fine_after → new.made ≡ cond (is_made s) 1 0 + old.made
    → new.lost ≡ cond (is_lost s) 1 0 + old.lost → new.changed ≡ cond (is_changed s) 1 0 + old.changed → IsCounting b a new rest
counting_more b a old new s left rest h next x y made lost changed = record {
  fine_before = x ∙ h.fine_before;
  fine_after = y ∙ h.fine_after;
  made = (let step : count_by is_made left ≡ cond (is_made s) 1 0 + count_by is_made rest =
      ap (count_by is_made) next ∙ sum_by-cons (λ z. cond (is_made z) 1 0) s rest in omega (arith, made, h.made, step));
  lost = (let step : count_by is_lost left ≡ cond (is_lost s) 1 0 + count_by is_lost rest =
      ap (count_by is_lost) next ∙ sum_by-cons (λ z. cond (is_lost z) 1 0) s rest in omega (arith, lost, h.lost, step));
  changed = (let step : count_by is_changed left ≡ cond (is_changed s) 1 0 + count_by is_changed rest =
      ap (count_by is_changed) next ∙ sum_by-cons (λ z. cond (is_changed z) 1 0) s rest in omega (arith, changed, h.changed, step));
  few = h.few;
}

-- after all
pub counting_all : (b a : FramedView) (n : Counts) (left : List Sides) → IsCounting b a n left → left ≡ [] → n ≡ counts_between b a
counting_all b a n left h none =
    let made : n.made ≡ count_by is_made (changes b a) = omega (arith, h.made, ap (count_by is_made) none) in
    let lost : n.lost ≡ count_by is_lost (changes b a) = omega (arith, h.lost, ap (count_by is_lost) none) in
    let changed : n.changed ≡ count_by is_changed (changes b a) = omega (arith, h.changed, ap (count_by is_changed) none) in
    (λ j. record { fine_before = h.fine_before j; fine_after = h.fine_after j; made = made j; lost = lost j; changed = changed j })
