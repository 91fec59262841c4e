-- A run after one more read of its script.
use Rattle.std.proofs.Common.{◌≡◌, ◌==◌, ◌≤◌, ◌<◌, ◌^◌, ◌++◌, ◌∷◌, [], ℕ, Option, Bool, true, false, List, length, refl, sym, ◌∙◌, subst, arith, length-append}
use Rattle.std.specs.Prelude.{Ok, Err}
use Rattle.std.proofs.KnownBytes.{Consumes-kept, Consumes-nil, Consumes-trans}
use Rattle.std.specs.Io.KnownBytes.{Consumes, IsAtEnd, Keeps}
use Rattle.std.proofs.lemmas.{Bool.Decides.nat_tests, List.append-nil}
use Rattle.irig_script.specs.Obey.Reads.{IsUnderway, HasEnded, GoesOn, with_end}
use Rattle.irig_script.specs.declared.obey.status.RunFault.TheVariants.{ReadFailed, PrintFailed}
use Rattle.irig_script.specs.{Obey.Machine.Machine, Obey.Desk.Desk, Obey.Progress.Holds, Obey.Progress.Obeyed, Obey.Progress.BrokeIn, Obey.Reading.ReadsTo}
use Rattle.irig_script.specs.{declared.obey.status.Status.Status, declared.obey.status.Status.TheVariants.AllAccepted, declared.obey.line.Line.Line}
use Rattle.irig_script.proofs.ObeyLemmas.LastLines.{ran_last, broke_last}
use Rattle.irig_script.proofs.ObeyLemmas.Runs.{run_ended, run_quit, run_broke, run_broken}
use Rattle.irig_script.proofs.{ObeyLemmas.Lines.obeyed_more, ObeyLemmas.Lines.broke_more, ObeyLemmas.Reading.reads_to}

-- the newline is missing only if some byte of the line has come
pub end_none : (text : List ℕ) → (length text == 0) ≡ true → [] ≡ with_end text []
end_none [] e = refl
end_none (a ∷ text) e = absurd (grind (arith, nat_tests))

pub end_some : (text : List ℕ) → (length text == 0) ≡ false → 10 ∷ [] ≡ with_end text []
end_some [] e = let bad : true ≡ false = e in cc
end_some (a ∷ text) e = refl

pub end_read : (text read : List ℕ) → 0 < length read → read ≡ with_end text read
end_read text [] h = absurd (omega arith)
end_read text (b ∷ read) h = refl

-- how far was read
reads_part : (reads : ℕ) (from mid to : Option (List ℕ)) (a b : Desk) (st : Status) (s t : Machine) (line : Line) (part : List ℕ) → reads < 2 ^ 32
    → IsUnderway reads from mid a b st s t line → Consumes mid to part → length part ≤ 4096 → ReadsTo from to
reads_part reads from mid to a b st s t line part few h p short =
    reads_to from to a b _ st s t h.bytes part line (Consumes-trans from mid to h.bytes part h.read p) short (omega (arith, h.most, few, short)) h.obeyed

-- a read that failed
pub read_failed : (reads : ℕ) (from mid to : Option (List ℕ)) (a b : Desk) (st : Status) (s t : Machine) (line : Line) → reads < 2 ^ 32
    → IsUnderway reads from mid a b st s t line → Keeps mid to → HasEnded from to a b s t (Err ReadFailed)
read_failed reads from mid to a b st s t line few h k =
    let none = Consumes-kept mid mid to [] (Consumes-nil mid) k in
    record {
      ends = record {
        bytes = h.bytes;
        read = rw append-nil at (Consumes-trans from mid to h.bytes [] h.read none);
        many = omega arith;
        answers = h.obeyed.answers;
        texts = h.obeyed.texts;
        rest = h.obeyed.ends.0;
        begun = h.obeyed.ends.2.plain;
        told = h.obeyed.told;
        goes = h.obeyed.ends.1;
      };
      reads = reads_part reads from mid to a b st s t line [] few h none (omega arith);
      label = h.obeyed.told.put.label;
    }

-- a read that gave some bytes, which were obeyed
pub read_obeyed : (ended : Bool) (reads : ℕ) (from mid to : Option (List ℕ)) (a b c : Desk) (st su : Status) (s t u : Machine) (line next : Line)
    (part bytes : List ℕ) → reads < 2 ^ 32 → IsUnderway reads from mid a b st s t line → Consumes mid to part → 0 < length part → length part ≤ 4096
    → ((text : List ℕ) → Holds text line → bytes ≡ with_end text part)
    → ((text : List ℕ) → Holds text line → Obeyed ended b c st su t u (text ++ bytes) next) → GoesOn reads from to a c su s u next (Ok ended)
read_obeyed ended reads from mid to a b c st su s t u line next part bytes few h p some short e f = go ended
    (obeyed_more ended a b c _ st su s t u h.bytes part line next h.obeyed
    (subst (λ (l : List ℕ). (text : List ℕ) → Holds text line → Obeyed ended b c st su t u (text ++ l) next)
    (e h.obeyed.ends.0 h.obeyed.ends.2 ∙ sym (end_read h.obeyed.ends.0 part some)) f))
  where
    whole : Consumes from to (h.bytes ++ part)
    whole = Consumes-trans from mid to h.bytes part h.read p

    go : (last : Bool) → Obeyed last a c AllAccepted su s u (h.bytes ++ part) next → GoesOn reads from to a c su s u next (Ok last)
    go true all = record {
      ends = run_quit from to a c _ su s u (h.bytes ++ part) next whole all;
      reads = reads_part reads from mid to a b st s t line part few h p short;
      label = all.told.put.label;
    }
    go false all = record {
      bytes = h.bytes ++ part;
      read = whole;
      many = omega (arith, h.many, some, length-append h.bytes part);
      most = omega (arith, h.most, short, length-append h.bytes part);
      obeyed = all;
    }

-- a read that gave none: the last line was obeyed
pub read_last : (ended : Bool) (reads : ℕ) (from mid to : Option (List ℕ)) (a b c : Desk) (st su : Status) (s t u : Machine) (line next : Line)
    (bytes : List ℕ) → reads < 2 ^ 32 → IsUnderway reads from mid a b st s t line → Consumes mid to [] → IsAtEnd to
    → ((text : List ℕ) → Holds text line → bytes ≡ with_end text [])
    → ((text : List ℕ) → Holds text line → Obeyed ended b c st su t u (text ++ bytes) next) → GoesOn reads from to a c su s u next (Ok true)
read_last ended reads from mid to a b c st su s t u line next bytes few h p end e f = record {
  ends = run_ended from to a b c _ st su s t u h.bytes line (rw append-nil at (Consumes-trans from mid to h.bytes [] h.read p)) end h.obeyed
      (λ text k. ran_last ended b c st su t u text bytes next k.plain (e text k) (f text k));
  reads = reads_part reads from mid to a b st s t line [] few h p (omega arith);
  label = (f h.obeyed.ends.0 h.obeyed.ends.2).told.put.label ∙ h.obeyed.told.put.label;
}

-- a read whose last answer was not printed whole
pub read_broke : (reads : ℕ) (from mid to : Option (List ℕ)) (a b c : Desk) (st : Status) (s t u : Machine) (line : Line) (part bytes : List ℕ)
    → reads < 2 ^ 32 → IsUnderway reads from mid a b st s t line → Consumes mid to part → (length part ≡ 0 → IsAtEnd to) → length part ≤ 4096
    → ((text : List ℕ) → Holds text line → bytes ≡ with_end text part)
    → ((text : List ℕ) → Holds text line → BrokeIn b c t u (text ++ bytes)) → HasEnded from to a c s u (Err PrintFailed)
read_broke reads from mid to a b c st s t u line [] bytes few h p end short e f = record {
  ends = run_broken from to a b c _ st s t u h.bytes line (rw append-nil at (Consumes-trans from mid to h.bytes [] h.read p)) (end refl) h.obeyed
      (λ text k. broke_last b c t u text bytes k.plain (e text k) (f text k));
  reads = reads_part reads from mid to a b st s t line [] few h p short;
  label = (f h.obeyed.ends.0 h.obeyed.ends.2).told.put.label ∙ h.obeyed.told.put.label;
}
read_broke reads from mid to a b c st s t u line (x ∷ part) bytes few h p end short e f =
    let same = e h.obeyed.ends.0 h.obeyed.ends.2 in
    let all = broke_more a b c _ st s t u h.bytes (x ∷ part) line h.obeyed
    (subst (λ (l : List ℕ). (text : List ℕ) → Holds text line → BrokeIn b c t u (text ++ l)) same f) in
    record {
      ends = run_broke from to a c s u (h.bytes ++ x ∷ part) (Consumes-trans from mid to h.bytes (x ∷ part) h.read p) all;
      reads = reads_part reads from mid to a b st s t line (x ∷ part) few h p short;
      label = all.told.put.label;
    }
