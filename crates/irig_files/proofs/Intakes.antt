-- A dump that is taken in, part by part.
use Rattle.std.proofs.Common.{◌≡◌, ◌++◌, ◌<◌, ◌∙◌, ℕ, List, [], Option, Some, None, Result, Ok, Err, length, ap, append_assoc, append-nil, length-append}
use Rattle.std.proofs.Common.{arith, refl, subst, sym}
use Rattle.std.specs.{Global.Vec, Io.KnownBytes.Consumes, Io.KnownBytes.IsAtEnd}
use Rattle.std.specs.Prelude.{◌≢◌, IfOk, IfSome, OnErr}
use Rattle.irig_vcd.specs.{Declarations.declarations_of, Window.extent_parts, declared.extent.Extent.Extent, Words.words_of, declared.fault.VcdFault.VcdFault}
use Rattle.irig_vcd.specs.{declared.fault.VcdFault.TheVariants.OutOfMemory, declared.progress.Progress.Progress, Answer.Gives}
use Rattle.irig_recording.specs.Recording.{RecordingView}
use Rattle.irig_files.specs.Reads.{AreRead, HasBytes, HasTaken, IsReadBy, IsReadIn, IsReadOf, Takes, extent_bytes, parts_of}
use Rattle.irig_files.specs.{declared.dump_file.DumpFileFault.DumpFileFault, declared.intake.Intake.Intake}
use Rattle.irig_vcd.proofs.{WholeDump.no_parts_in, Windows.no_window_parts}

-- a fault is that of the declarations, if they have one
pub tells_heading : (v : Extent) (wire : Option (List ℕ)) (bytes : List ℕ) (fault e : VcdFault) → extent_parts v wire bytes ≡ Err fault
    → declarations_of wire (words_of bytes) ≡ Err e → fault ≡ e
tells_heading v wire bytes fault e is h = let both = sym is ∙ no_parts_in v wire bytes e h in cc

-- a fault is that of the dump, if nothing comes after the bytes that are read
pub fault_at_end : (v : Extent) (wire : Option (List ℕ)) (bytes : List ℕ) (dump : Result Progress VcdFault) (e : VcdFault) → dump ≡ Err e
    → AreRead v wire bytes dump
    → extent_parts v wire bytes ≡ Err e
fault_at_end v wire bytes dump e is read = ap (extent_parts v wire) (sym (append-nil bytes)) ∙ (rw is at read) []

-- it is that of the declarations, if they have one
pub fault_of_heading : (v : Extent) (wire : Option (List ℕ)) (bytes : List ℕ) (dump : Result Progress VcdFault) (fault e : VcdFault) → dump ≡ Err fault
    → AreRead v wire bytes dump → declarations_of wire (words_of bytes) ≡ Err e → fault ≡ e
fault_of_heading v wire bytes dump fault e is read h = tells_heading v wire bytes fault e (fault_at_end v wire bytes dump fault is read) h

-- what is read is handed on with its fault, unless that is out of memory
pub handed_on : {T : Type 0} (read : Result T VcdFault) (e : VcdFault) (given : Result (Result T VcdFault) DumpFileFault)
    → IfOk given (λ g. (g ≡ read) × (g ≢ Err OutOfMemory)) → OnErr given (read ≡ Err OutOfMemory) → read ≡ Err e → e ≢ OutOfMemory → given ≡ Ok (Err e)
handed_on read e (Ok g) same only is other = ap Ok (same.0 ∙ is)
handed_on read e (Err f) same only is other = let both = sym only ∙ is in absurd (other cc)

-- nothing more is taken in
pub takes_none : (at : Intake) → Takes [] at at
takes_none at = λ wire bytes h. subst (λ (l : List ℕ). HasTaken wire l at) (sym (append-nil bytes)) h

-- bytes are taken in, and then others
pub takes_both : (xs ys : List ℕ) (a b c : Intake) → Takes xs a b → Takes ys b c → Takes (xs ++ ys) a c
takes_both xs ys a b c f g = λ wire bytes h. subst (λ (l : List ℕ). HasTaken wire l c) (append_assoc bytes xs ys) (g wire (bytes ++ xs) (f wire bytes h))

-- of what is known nothing is consumed
pub consumes_none : (known : Option (List ℕ)) → Consumes known known []
consumes_none None = tt
consumes_none (Some xs) = refl

-- known bytes that are consumed to their end are these bytes
all_used : (before after : Option (List ℕ)) (some : List ℕ) → Consumes before after some → IsAtEnd after → IfSome before (λ all. some ≡ all)
all_used None after some used end = tt
all_used (Some xs) None some used end = absurd used
all_used (Some xs) (Some ys) some used end = sym (used ∙ ap (λ l. some ++ l) end ∙ append-nil some)

-- what was taken in to its end is read
pub is_read_of : (before after wire : Option (List ℕ)) (some : List ℕ) (at : Intake)
    (result : Result (Result (RecordingView × Option (Vec ℕ)) VcdFault) DumpFileFault)
    → HasTaken wire some at → Consumes before after some → (0 < at.left → IsAtEnd after)
    → IfOk result (λ read. (w : Option (List ℕ)) (bytes : List ℕ) → HasTaken w bytes at → Gives parts_of read (extent_parts at.extent w bytes))
    → IfOk result (HasBytes (extent_bytes at.extent)) → IfOk result (λ _. 0 < at.left) → IfOk result (IsReadBy at.extent before wire)
is_read_of before after wire some at (Ok read) took used end gives few short =
    record {
      source = some;
      whole = all_used before after some used (end short);
      most = omega (arith, took.left, short);
      parts = gives wire some took;
      few = few;
    }
is_read_of before after wire some at (Err fault) took used end gives few short = tt

-- what has no place left is too long
pub too_long : (before after wire : Option (List ℕ)) (some : List ℕ) (at : Intake) → HasTaken wire some at → Consumes before after some → at.left ≡ 0
    → IfSome before (λ all. extent_bytes at.extent < length all)
too_long None after wire some at took used none = tt
too_long (Some xs) None wire some at took used none = absurd used
too_long (Some xs) (Some ys) wire some at took used none = omega (arith, took.left, none, ap length used, length-append some ys)

-- a fault stays that of the dump
pub still_faulty : (v : Extent) (wire : Option (List ℕ)) (bytes part : List ℕ) (fault : VcdFault) → AreRead v wire bytes (Err fault)
    → AreRead v wire (bytes ++ part) (Err fault)
still_faulty v wire bytes part fault read = λ more. ap (extent_parts v wire) (append_assoc bytes part more) ∙ read (part ++ more)

-- what is read of all is read of the dump
pub is_read_whole : (known wire : Option (List ℕ)) (read : Result (RecordingView × Option (Vec ℕ)) VcdFault) → IsReadIn None known wire read
    → IsReadOf known wire read
is_read_whole known wire read r =
    record { source = r.source; whole = r.whole; most = r.most; parts = subst (Gives parts_of read) (no_window_parts wire r.source) r.parts; few = r.few }
