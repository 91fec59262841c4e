use Rattle.std.proofs.Common.{◌≡◌, ◌∙◌, ℕ, [], ◌∷◌, ◌++◌, None, length, get_or, ap, arith, below_more, length-append}
use Rattle.std.proofs.lemmas.List.{get_or_append_left, get_or_push}
use Rattle.std.proofs.lemmas.Option.{get_or_from_slice_get, slice_get-get_or}
use Rattle.irig_explaining.specs.declared.ways.Way.{Way}
use Rattle.irig_explaining.specs.declared.claim.Kind.TheVariants.{Next}
use Rattle.irig_explaining.specs.Opened.{no_way}
use Rattle.irig_explaining.proofs.lows.jump_lows.Goals as goal

-- what the code reads past the end
abbrev unread : Way
unread = record { cost = 0; from = None; kind = Next }

pub loop-element-preserved : goal.loop-element-preserved
loop-element-preserved g c =
    let old = c.loop-element.lows.items in let i = c.loop-element.element in let so_far = c.loop-element.invariant in
    let jumps = c.args.jumps.now in let of = g.C.Costs.to_class c.args.costs.now i in let x = (get_or jumps of no_way).cost in
    let new = old ++ x ∷ [] in
    let at = slice_get-get_or jumps of no_way (c.requires i (omega arith)) in
    let read = ap (λ (w : Way). w.cost) (get_or_from_slice_get jumps of (get_or jumps of no_way) unread at) in
    let end : length old ≡ i = so_far.all in
    rw (c.in_ok-push.ensures.items, c.to_class.ensures, read) (record {
      all = omega (arith, length-append old (x ∷ []), so_far.all);
      each = λ f lt.
          let P : ℕ → Type 0 = λ f. get_or new f 0 ≡ (get_or jumps (g.C.Costs.to_class c.args.costs.now f) no_way).cost in
          below_more P i
          (λ f lt. get_or_append_left old (x ∷ []) 0 f (omega (arith, so_far.all, lt)) ∙ so_far.each f lt)
          (get_or_push old x 0 i end)
          f lt;
    })
