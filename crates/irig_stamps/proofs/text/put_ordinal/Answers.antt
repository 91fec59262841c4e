use Rattle.std.proofs.Common.{◌≡◌, ◌++◌, ◌∙◌, ℕ, List, ap}
use Rattle.irig_stamps.specs.Texts.{clock_text, day_text, year_text}
use Rattle.irig_stamps.proofs.Added.{added, three}
use Rattle.irig_stamps.proofs.text.put_ordinal.Goals as goal

pub returns : goal.returns
returns c =
    let old = c.args.text.now.items in
    let year = year_text c.args.year in
    let day = day_text c.args.time.now.days in
    let clock = clock_text c.args.time.now in
    let first : c.put_year.new.text.items ≡ old ++ year = c.in_ok-put_year.ensures in
    let second : c.extend_from_slice.new.self.items ≡ c.put_year.new.text.items ++ c.day.result = c.in_ok-extend_from_slice.ensures.items in
    added c.extend_from_slice-2.result _ (c.extend_from_slice.new.self.items ++ c.clock.result) _ _ c.extend_from_slice-2.ensures.items
    (ap (λ (t : List ℕ). t ++ c.clock.result) (second ∙ ap (λ (t : List ℕ). t ++ c.day.result) first)
    ∙ (ap (λ (t : List ℕ). ((old ++ year) ++ t) ++ c.clock.result) c.day.ensures
    ∙ (ap (λ (t : List ℕ). ((old ++ year) ++ day) ++ t) c.clock.ensures ∙ three old year day clock)))
