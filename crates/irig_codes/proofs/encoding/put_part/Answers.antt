use Rattle.std.proofs.Common.{◌≡◌, ◌+◌, ◌*◌, ◌++◌, List, get_or, map, take, sym, ap, subst, ◌∙◌, arith, drop-set-lt}
use Rattle.std.specs.List.{range_with_len}
use Rattle.std.proofs.lemmas.List.{length-set}
use Rattle.irig_codes.specs.{Digits.element_of, Slots.IsNarrow, Slots.slot_at, declared.layout.Slot.Slot, declared.layout.Slot.TheVariants.Identifier}
use Rattle.irig_codes.proofs.{EncodeSteps.put-more, EncodeSteps.slot-of-part, Slots.narrow-at}
use Rattle.irig_codes.proofs.encoding.put_part.Goals as goal

pub element_of-requires : goal.element_of-requires
element_of-requires c =
    subst (λ (ss : List Slot). IsNarrow (get_or ss c.loop-place.place Identifier)) (sym c.carried-slots.ensures) (narrow-at _ _ _ c.loop-place.place)

pub loop-place-preserved : goal.loop-place-preserved
loop-place-preserved c =
    let at = 10 * c.args.part + c.loop-place.place in
    let slot = slot-of-part c.args.format c.args.part c.loop-place.place c.carried-slots.result.now c.loop-place-test.true c.carried-slots.ensures in
    let v = c.element_of.ensures ∙ ap (element_of c.args.digits.now) slot in
    record {
      put = put-more (λ e. element_of c.args.digits.now (slot_at c.args.format e)) c.args.frame.now c.loop-place.frame (10 * c.args.part) c.loop-place.place
          c.element_of.result (omega (arith, c.loop-place-test.true, c.requires, c.loop-place.invariant.long)) c.loop-place.invariant.put v;
      rest = drop-set-lt (10 * c.args.part + 10) c.loop-place.frame at c.element_of.result (omega (arith, c.loop-place-test.true))
          ∙ c.loop-place.invariant.rest;
      long = length-set c.loop-place.frame at c.element_of.result ∙ c.loop-place.invariant.long;
    }

pub returns-clause-put : goal.returns-clause-put
returns-clause-put c =
    let all : c.loop-place.place ≡ 10 = omega (arith, c.loop-place-test.false, c.loop-place.auto.place-end) in
    subst (λ n. take (10 * c.args.part + n) c.loop-place.frame ≡ take (10 * c.args.part) c.args.frame.now
    ++ map (λ e. element_of c.args.digits.now (slot_at c.args.format e)) (range_with_len (10 * c.args.part) n)) all c.loop-place.invariant.put
