use Rattle.std.proofs.Common.{◌++◌, ◌∷◌, ◌∙◌, ℕ, List, ap}
use Rattle.irig_saved.proofs.{Carried.stopped, SingleParts.splice_stops, SingleParts.short_reads, SingleParts.single_line_stops, SingleParts.no_single_stops}
use Rattle.irig_saved.proofs.parts.single.Goals as goal

pub returns-in_default : goal.returns-in_default
returns-in_default c = no_single_stops c.args.text.now c.in_default.ensures

pub returns-in-None : goal.returns-in-None
returns-in-None c =
    single_line_stops c.args.text.now c.in-Some.line.now c.in-Some.next.now c.in-Some.ensures.0 c.in-Some.ensures.1 c.in_default-splice.ensures
    c.in-None.ensures

pub returns-in-Some-short : goal.returns-in-Some-short
returns-in-Some-short c =
    short_reads c.args.text.now c.in-Some.line.now c.in-Some.next.now c.in-Some-short.single c.in-Some.ensures.0 c.in-Some-short.ensures.0
    c.in-Some-short.ensures.1

pub returns-in-Err : goal.returns-in-Err
returns-in-Err c =
    stopped c.in-Err.stop
    (λ rest s. splice_stops c.args.text.now c.in-Some.line.now c.in-Some.next.now rest (c.in-Some-splice.at, c.in-Some-splice.count, c.in-Some-splice.put)
    c.in-Some.ensures.0 c.in-Some.ensures.1 c.in-Some-splice.ensures.0 c.in-Some-splice.ensures.1 s)
    (λ some. record {
      three = (c.in-Some-splice.at, c.in-Some-splice.count, c.in-Some-splice.put);
      numbers = c.in-Some-splice.ensures.0;
      some = some;
      more = c.in-Some.next.now;
      same = c.in-Some.ensures.0 ∙ ap (λ (l : List ℕ). l ++ 10 ∷ c.in-Some.next.now) c.in-Some-splice.ensures.1;
    }) c.in-Err.ensures
