use Rattle.std.proofs.Common.{◌≡◌, ap, sym, ◌∙◌, arith}
use Rattle.std.proofs.lemmas.Option.{none-some, same_Some}
use Rattle.irig_codes.specs.Format.{frame_period_of}
use Rattle.irig_times.specs.{Follows.is_later, Times.time_in}
use Rattle.irig_times.proofs.Records.{begins-next, begins-none}
use Rattle.irig_times.proofs.start.is_followed.Goals as goal

pub returns-then-next-len-clause-exact : goal.returns-then-next-len-clause-exact
returns-then-next-len-clause-exact c = (
  λ no. absurd cc,
  λ h. absurd (begins-none c.args.format c.args.records.now.records c.requires.frames c.args.number c.args.next h.next c.requires.parted
      (omega (arith, c.if-next-len.true, c.len.ensures)) h.begins),
)

pub returns-then-record-number-clause-exact : goal.returns-then-record-number-clause-exact
returns-then-record-number-clause-exact c = (
  λ no. absurd cc,
  λ h. (let is = begins-next c.args.format c.args.records.now.records c.requires.frames c.args.number c.args.next h.next c.record-record.result
      c.requires.parted c.record-record.ensures.value h.begins in
      absurd (c.if-record-number.true (omega (arith, is.0)))),
)

pub returns-in-Some-clause-exact : goal.returns-in-Some-clause-exact
returns-in-Some-clause-exact c =
    let period = frame_period_of c.args.format.kind in
    let told : c.is_later.result ≡ is_later c.args.century period (time_in c.args.fields.now 0) (time_in c.in-Some.later 0) =
    c.is_later.ensures
    ∙ λ i. is_later c.args.century (c.frame_period.ensures i) (c.time_in.ensures.value i) (c.time_in-in-Some.ensures.value i) in (
      λ yes'. record {
        next = c.in-Some.later;
        begins = record {
          at = c.args.next;
          one = c.record-record.result;
          there = c.record-record.ensures.value;
          tells = sym c.in-Some.ensures;
          place =
              omega (arith, c.if-record-number.false, c.requires.parted.after c.args.next c.record-record.result c.record-record.ensures.value (omega arith));
          few = omega arith;
        };
        later = sym told ∙ yes';
      },
      λ h. (let is = begins-next c.args.format c.args.records.now.records c.requires.frames c.args.number c.args.next h.next c.record-record.result
          c.requires.parted c.record-record.ensures.value h.begins in
          let same : c.in-Some.later ≡ h.next = same_Some c.in-Some.later h.next (c.in-Some.ensures ∙ is.1) in
          told ∙ (ap (λ g. is_later c.args.century period (time_in c.args.fields.now 0) (time_in g 0)) same ∙ h.later)),
    )

pub returns-in-None-clause-exact : goal.returns-in-None-clause-exact
returns-in-None-clause-exact c = (
  λ no. absurd cc,
  λ h. (let is = begins-next c.args.format c.args.records.now.records c.requires.frames c.args.number c.args.next h.next c.record-record.result
      c.requires.parted c.record-record.ensures.value h.begins in
      absurd (none-some h.next (c.in-None.ensures ∙ is.1))),
)
