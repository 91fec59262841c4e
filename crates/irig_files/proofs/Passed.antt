-- What holds of a call's outcome holds of it without its error.
use Rattle.std.proofs.Common.{◌≡◌, ◌⊎◌, ℕ, List, Option, Some, None, Result, Ok, Err, inl, inr, arith, refl, ◌≢◌}
use Rattle.std.specs.Prelude.{IfOk, IfErr, IsErr, IsOk, OnOk, OnErr}
use Rattle.irig_disk.specs.{Disk.Disk, Disk.LeavesOnly, Disk.MayLeave, Held.Held, Faults.AfterFault, Put.IsKept, Put.IsPutLast, Put.OldOrNewIfThere}
use Rattle.irig_disk.specs.{Faults.SeenAfter, Put.SeenSameIfThere, Stays.Stays, Writing.IsUnchanged, declared.fault.PutFault.PutFault}
use Rattle.irig_disk.specs.declared.fault.PutFault.TheVariants as fault
use Rattle.irig_files.specs.Once.{PutsOnce, Replaces}

pub value_passed : {T E F : Type 0} (P : T → Type 0) (outcome : Result T E) (result : Result T F) → IfOk result (λ v. outcome ≡ Ok v) → IfOk outcome P
    → IfOk result P
value_passed P outcome (Ok v) same p = rw same at p
value_passed P outcome (Err e) same p = tt

left : {X : Type 0} (old new : Disk) (target : List ℕ) (text : Held) (e : PutFault X) → SeenAfter old new target text e
    → SeenSameIfThere old new target ⊎ IsPutLast old new target text
left old new target text fault.Memory h = inl (λ n _. h n)
left old new target text fault.NamesTaken h = inl (λ n _. h n)
left old new target text (fault.Failed x) h = inl (λ n _. h n)
left old new target text (fault.LeftBehind x y) h = inl h
left old new target text (fault.Remains x) h = inl h
left old new target text (fault.NotKept x) h = inr h

-- a write without its error
pub replaces : {T X F : Type 0} (old new : Disk) (target : List ℕ) (text : Held) (outcome : Result T (PutFault X)) (result : Result T F)
    → IfOk result (λ v. outcome ≡ Ok v) → OnErr result (IsErr outcome) → LeavesOnly old new (OldOrNewIfThere old target text)
    → OnOk outcome (IsKept old new target text) → IfErr outcome (AfterFault old new target text) → Replaces old new target text result
replaces old new target text outcome (Ok v) given failed moments ok err = record { any_moment = moments; ok = rw given at ok; err = tt }
replaces old new target text (Ok v) (Err f) given failed moments ok err = absurd (cc failed)
replaces old new target text (Err e) (Err f) given failed moments ok err = record {
  any_moment = moments;
  ok = tt;
  err = record { seen = left old new target text e err.seen; log = err.log; paths = err.paths };
}

-- the same by another answer
again : {T U E F : Type 0} (old new : Disk) (place : List ℕ) (text : Held) (outcome : Result T E) (result : Result U F)
    → OnOk result (IsOk outcome) → OnErr result (IsErr outcome) → Replaces old new place text outcome → Replaces old new place text result
again old new place text (Ok v) (Ok w) ok err r = record { any_moment = r.any_moment; ok = r.ok; err = tt }
again old new place text (Err e) (Err f) ok err r = record { any_moment = r.any_moment; ok = tt; err = r.err }
again old new place text (Ok v) (Err f) ok err r = absurd (cc err)
again old new place text (Err e) (Ok w) ok err r = absurd (cc ok)

-- the path leads to the place that was written
pub puts_once : {T U E F : Type 0} (old new : Disk) (target : Option (List ℕ)) (place : List ℕ) (text : Held) (outcome : Result T E) (result : Result U F)
    → target ≡ Some place → OnOk result (IsOk outcome) → OnErr result (IsErr outcome) → Replaces old new place text outcome
    → PutsOnce old new target text result
puts_once old new target place text outcome result at ok err r = rw at (again old new place text outcome result ok err r)

-- nothing was done
stays : (at : Disk) → Stays at at
stays at = record {
  names = record { seen = λ n. refl; left = λ n x l. l; paths = refl; regular = λ i r. r; log = refl };
  files = record { seen = λ i. refl; left = λ i h l. l };
}

only_now : (at : Disk) (P : List ℕ → Option Held → Type 0) → ((n : List ℕ) (c : Option Held) → at.left_since at.moment n c → MayLeave at n c)
    → ((n : List ℕ) (c : Option Held) → MayLeave at n c → P n c) → LeavesOnly at at P
only_now at P now implies = record { later = omega arith; each = λ n c l. implies n c (now n c l); before = λ t n c le l. inl l }

pub unchanged : (at : Disk) → ((n : List ℕ) (c : Option Held) → at.left_since at.moment n c → MayLeave at n c) → IsUnchanged at at
unchanged at now = record { stays = stays at; moments = only_now at (MayLeave at) now (λ n c l. l) }

pub fails_now : {E : Type 0} (T : Type 0) (at : Disk) (target : Option (List ℕ)) (text : Held) (e : E)
    → ((n : List ℕ) (c : Option Held) → at.left_since at.moment n c → MayLeave at n c) → PutsOnce {T = T} at at target text (Err e)
fails_now T at None text e now = unchanged at now
fails_now T at (Some place) text e now = record {
  any_moment = only_now at (OldOrNewIfThere at place text) now (λ n c l there. inl l);
  ok = tt;
  err = record {
    seen = inl (λ n there. refl);
    log = inl (record { log = refl; moments = only_now at (λ n c. (n ≡ place) ⊎ (at.leads n ≢ None) → MayLeave at n c) now (λ n c l there. l) });
    paths = λ place. refl;
  };
}

-- what is no regular file was written
pub puts_elsewhere : {T E : Type 0} (at : Disk) (target : Option (List ℕ)) (text : Held) (result : Result T E)
    → ((n : List ℕ) (c : Option Held) → at.left_since at.moment n c → MayLeave at n c) → target ≡ None → PutsOnce at at target text result
puts_elsewhere at target text result now is = rw is (unchanged at now)
