-- A header after one more read.
use Rattle.std.proofs.Common.{◌≡◌, ◌≤◌, ◌<◌, ◌+◌, ◌-◌, ◌^◌, ◌++◌, ℕ, List, [], Option, length, min, sym, ap, ◌∙◌, subst, inl, inr, arith}
use Rattle.std.proofs.KnownBytes.{Consumes-kept, Consumes-trans}
use Rattle.std.proofs.lemmas.{List.append-nil}
use Rattle.std.specs.Io.KnownBytes.{Consumes, IsAtEnd, Keeps}
use Rattle.irig_stamps.specs.HeaderSteps.{HasRead, HasStopped, Reading}
use Rattle.irig_stamps.specs.Named.{newlines}
use Rattle.irig_stamps.specs.declared.fault.RunFault.TheVariants.{LongHeader, OutOfMemory, ReadFailed}
use Rattle.irig_stamps.specs.{declared.header.Header.Header, declared.settings.Settings.Settings}
use Rattle.irig_stamps.proofs.Places.{newlines-append, newlines-bound}

module _ (s : Settings) where
  pub failed : (start a b : Option (List ℕ)) (header : Header) → Reading s start a header → Keeps a b → HasStopped s start b ReadFailed
  failed start a b header h kept = (header.bytes.items, λ name. (Consumes-kept start a b header.bytes.items h.read kept, h.more))

  -- the end
  pub at-end : (start a b : Option (List ℕ)) (header : Header) → Reading s start a header → Consumes a b [] → IsAtEnd b
      → HasRead s start b header.bytes.items
  at-end start a b header h read end =
      (subst (Consumes start b) (append-nil header.bytes.items) (Consumes-trans start a b header.bytes.items [] h.read read), inr end)

  pub no-room : (start a b : Option (List ℕ)) (header : Header) (part : List ℕ) → Reading s start a header → Consumes a b part
      → HasStopped s start b OutOfMemory
  no-room start a b header part h read = (header.bytes.items ++ part, λ name. Consumes-trans start a b header.bytes.items part h.read read)

  -- one more part
  module _ (start a b : Option (List ℕ)) (was is : Header) (part : List ℕ) (n : ℕ) (h : Reading s start a was) (read : Consumes a b part)
      (items : is.bytes.items ≡ was.bytes.items ++ part) (count : n ≡ newlines part) (room : length part ≤ 32768)
      (ended : is.ended ≡ min (was.ended + n) (2 ^ 64 - 1)) where
    all-read : Consumes start b is.bytes.items
    all-read = subst (Consumes start b) (sym items) (Consumes-trans start a b was.bytes.items part h.read read)

    all-ended : is.ended ≡ newlines is.bytes.items
    all-ended =
        let both : newlines is.bytes.items ≡ newlines was.bytes.items + newlines part =
        ap newlines items ∙ newlines-append was.bytes.items part in
        let low = newlines-bound was.bytes.items in
        let few = newlines-bound part in
        omega (arith, both, low, few, room, count, ended, h.ended, h.short)

    pub has-read : s.header ≤ is.ended → HasRead s start b is.bytes.items
    has-read whole = (all-read, inl (let e = all-ended in omega (arith, e, whole)))

    pub too-long-a-header : is.ended < s.header → 2 ^ 20 ≤ length is.bytes.items → HasStopped s start b LongHeader
    too-long-a-header more long =
        let e = all-ended in
        let less : newlines is.bytes.items < s.header = omega (arith, e, more) in
        (is.bytes.items, λ name. (all-read, (less, long)))

    pub reads-on : is.ended < s.header → length is.bytes.items < 2 ^ 20 → Reading s start b is
    reads-on more short = record {
      read = all-read;
      ended = all-ended;
      more = (let e = all-ended in omega (arith, e, more));
      short = short;
    }
