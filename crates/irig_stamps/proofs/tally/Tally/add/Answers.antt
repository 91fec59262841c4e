use Rattle.std.proofs.Common.{◌||◌, Option, None, not, sym, ap, ◌∙◌}
use Rattle.std.proofs.lemmas.List.Sums.{fold_push}
use Rattle.irig_stamps.specs.{Tallies.widened, Uneven.first_of, Uneven.headed, Uneven.uneven_next, declared.tally.Uneven.Uneven}
use Rattle.irig_stamps.proofs.Tallied.{any-more, count-more, uneven-more, width-more}
use Rattle.irig_stamps.proofs.tally.Tally.add.Goals as goal

pub returns : goal.returns
returns c xs h =
    let x = c.args.look in
    let was = c.args.self.now in
    record {
      lines = count-more (λ y. not y.header) xs x was.lines _ h.lines c.add_one-self.ensures;
      timed = count-more (λ y. y.timed) xs x was.timed _ h.timed c.add_one-self-2.ensures;
      unnumbered = count-more (λ y. not y.numbered) xs x was.unnumbered _ h.unnumbered c.add_one-self-3.ensures;
      span = c.widened-self.ensures ∙ (ap (λ s. widened s x.moment) h.span ∙ sym (fold_push (λ s y. widened s y.moment) None xs x));
      width = c.headed-self.ensures ∙ (ap (λ w. headed w x) h.width ∙ sym (width-more None xs x));
      uneven = c.first_of-self.ensures ∙ (ap (λ (u : Option Uneven). first_of was.uneven u) c.uneven_next.ensures
          ∙ ((λ i. first_of (h.uneven i) (uneven_next (h.width i) x)) ∙ sym (uneven-more None xs x)));
      other_unit = c.either-self.ensures ∙ (ap (λ b. b || x.other_unit) h.other_unit ∙ sym (any-more (λ y. y.other_unit) xs x));
    }
