use Rattle.std.proofs.Common.{◌≡◌, ◌∙◌, ◌≤◌, Bool, ℕ, List, inl, inr, Ok, Err, length, ap, sym, arith}
use Rattle.irig_vcd.specs.{Code.Short.TakesShort, Code.Time.units_of, Times.time_of, Words.Word, Words.rest_of, declared.short.Short.Short}
use Rattle.irig_vcd.specs.declared.short.Short.TheVariants as short
use Rattle.irig_vcd.proofs.ScanSteps.{leads_apart, leads_as, leads_time, on_later}
use Rattle.irig_vcd.proofs.short_way.follow_short.Goals as goal

-- no word is added
fewer_left : (old new : List Word) (code : List ℕ) (plain : Bool) (s : Short) → TakesShort old new code plain s → length new ≤ length old
fewer_left old new code plain (short.Time n) h = omega (arith, ap length h.left)
fewer_left old new code plain (short.Bit high) h = omega (arith, ap length h.1.left)
fewer_left old new code plain short.Apart (inl h) = omega (arith, ap length h.left)
fewer_left old new code plain short.Apart (inr h) = omega (arith, ap length h.left)
fewer_left old new code plain short.Other h = omega (arith, ap length h)

pub returns-in-Err-clause-scans : goal.returns-in-Err-clause-scans
returns-in-Err-clause-scans c = λ end j p l.
    let n = c.in-Time.ensures in
    let e = c.in-Err.fault in
    let read : time_of c.args.unit (units_of c.args.unit c.tokens.clock) (rest_of n.word.bytes) n.word.offset ≡ Err e =
    rw n.offset (c.in-Err.ensures.exact (rest_of n.word.bytes) n.digits n.value) in
    leads_time (Err e) c.args.code.now c.args.unit end c.tokens.trace c.tokens.clock j p n.word c.next_short.new.self n.kind read tt tt
    (leads_as c.args.code.now c.args.unit end c.tokens.trace c.tokens.clock j p c.tokens.tokens _ n.left (c.tokens.invariant.leads end j p l))

pub tokens-preserved-in-Ok : goal.tokens-preserved-in-Ok
tokens-preserved-in-Ok c =
    let i = c.tokens.invariant in
    let n = c.in-Time.ensures in
    let at = c.in-Ok.now in
    let read : time_of c.args.unit (units_of c.args.unit c.tokens.clock) (rest_of n.word.bytes) n.word.offset
    ≡ Ok (units_of c.args.unit at) = rw n.offset (c.in-Ok.ensures.exact (rest_of n.word.bytes) n.digits n.value) in
    record {
      time = on_later c.args.unit c.tokens.trace c.tokens.clock at i.time c.in-Ok.ensures.time c.in-Ok.ensures.forward;
      fewer = omega (arith, i.fewer, ap length n.left);
      extent = i.extent;
      leads = λ end j p l.
          leads_time (Ok at) c.args.code.now c.args.unit end c.tokens.trace c.tokens.clock j p n.word c.next_short.new.self n.kind read
          c.in-Ok.ensures.time c.in-Ok.ensures.forward
          (leads_as c.args.code.now c.args.unit end c.tokens.trace c.tokens.clock j p c.tokens.tokens _ n.left (i.leads end j p l));
    }

pub tokens-preserved-in-Ok-take_bit : goal.tokens-preserved-in-Ok-take_bit
tokens-preserved-in-Ok-take_bit c =
    let i = c.tokens.invariant in
    let b = c.in-Bit.ensures.1 in
    let bit = c.in-Ok-take_bit.ensures in
    record {
      time = bit.time;
      fewer = omega (arith, i.fewer, ap length b.left, bit.fewer);
      extent = bit.extent ∙ i.extent;
      leads = λ end j p l. bit.scans c.tokens.tokens end j p b (i.leads end j p l);
    }

pub returns-in-Err-take_bit-clause-scans : goal.returns-in-Err-take_bit-clause-scans
returns-in-Err-take_bit-clause-scans c = λ end j p l.
    c.in-Err-take_bit.ensures.scans c.tokens.tokens end j p c.in-Bit.ensures.1 (c.tokens.invariant.leads end j p l)

pub tokens-preserved : goal.tokens-preserved
tokens-preserved c =
    let i = c.tokens.invariant in
    record {
      time = i.time;
      fewer = omega (arith, i.fewer, fewer_left c.tokens.tokens c.next_short.new.self c.args.code.now c.args.is_plain short.Apart c.in-Apart.ensures);
      extent = i.extent;
      leads = λ end j p l. leads_apart c.args.code.now c.args.unit end c.tokens.trace c.tokens.clock j p
          c.tokens.tokens c.next_short.new.self c.in-Apart.ensures (i.leads end j p l);
    }

pub returns-in-Other-clause-scans : goal.returns-in-Other-clause-scans
returns-in-Other-clause-scans c = λ end j p l.
    leads_as c.args.code.now c.args.unit end c.tokens.trace c.tokens.clock j p c.tokens.tokens _ (sym c.in-Other.ensures) (c.tokens.invariant.leads end j p l)
