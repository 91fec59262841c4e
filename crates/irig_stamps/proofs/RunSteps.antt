-- A run after one more read.
use Rattle.std.proofs.Common.{◌≡◌, ◌≢◌, ◌++◌, ◌∷◌, [], ℕ, Bool, Option, List, refl, sym, ap, ◌∙◌, inl, inr, subst, append_assoc, arith}
use Rattle.std.proofs.KnownBytes.{Appends-nil, Appends-trans, Consumes-kept, Consumes-nil, Consumes-trans}
use Rattle.std.specs.Io.KnownBytes.{Appends, Consumes, IsAtEnd, Keeps}
use Rattle.std.proofs.lemmas.{Bool.false≢true, Bool.true≢false, List.append-nil}
use Rattle.std.specs.Prelude.{true, false, Result, Ok, Err, IfOk}
use Rattle.irig_codes.specs.Format.{FormatView}
use Rattle.irig_recording.specs.declared.pulse.Pulse.{Pulse}
use Rattle.irig_track.specs.Looks.{counted}
use Rattle.irig_stamps.specs.Steps.{GoesOn, PrintsAll, Stops, Takes, TakesAs, TakesUpTo, Underway}
use Rattle.irig_stamps.specs.declared.fault.RunFault.TheVariants.{PrintFailed, ReadFailed, TooLong, OutOfMemory}
use Rattle.irig_stamps.specs.Runs.{Broke, IsCause, Ran, ending_of}
use Rattle.irig_print.specs.{Front.AppendsFront, declared.output.PrintFault.PrintFault}
use Rattle.irig_stamps.specs.{Stamped.Stamped, declared.fault.RunFault.RunFault}
use Rattle.irig_stamps.specs.{declared.fault.TakeFault.TakeFault, declared.progress.Progress.Progress, declared.settings.Settings.Settings}
use Rattle.irig_stamps.specs.declared.fault.TakeFault.TheVariants as take
use Rattle.irig_stamps.specs.{Tallies.no_tally, declared.tally.Tally.Tally}
use Rattle.irig_stamps.proofs.{Endings.ending-none, Endings.ending-rest, Tallied.none-tallied}

module _ (f : FormatView) (ps : List Pulse) (s : Settings) where
  -- nothing more was printed
  pub stopped : (start a b from to : Option (List ℕ)) (rest more : List ℕ) (count : ℕ) (tally : Tally) (fault : RunFault)
      → Underway f ps s start a from to rest count tally → Consumes a b more → IsCause fault more [] rest count → Broke f ps s start b from to fault
  stopped start a b from to rest more count tally fault h read cause = record {
    bytes = h.bytes;
    ending = [];
    more = more;
    rest = rest;
    text = h.text;
    front = h.text;
    back = [];
    count = count;
    tally = tally;
    read = Consumes-trans start a b h.bytes more h.read read;
    is_ending = inl refl;
    stamped = subst (λ t. Stamped f ps s t h.text rest count tally) (sym (append-nil h.bytes)) h.stamped;
    part = sym (append-nil h.text);
    printed = h.printed;
    cause = cause;
  }

  pub read-failed : (start a b from to : Option (List ℕ)) (rest : List ℕ) (count : ℕ) (tally : Tally)
      → Underway f ps s start a from to rest count tally → Keeps a b
      → Broke f ps s start b from to ReadFailed
  read-failed start a b from to rest count tally h kept =
      stopped start a b from to rest [] count tally ReadFailed h (Consumes-kept a a b [] (Consumes-nil a) kept) (refl, refl)

  -- only a front was printed of what comes out for a front of what was read
  pub print-failed : (start a b from to end : Option (List ℕ)) (rest part front more left text : List ℕ) (count n : ℕ) (tally t2 : Tally)
      (why : PrintFault) (h : Underway f ps s start a from to rest count tally) → Consumes a b part → part ≡ front ++ more
      → Stamped f ps s (h.bytes ++ front) (h.text ++ text) left n t2 → AppendsFront to end text → Broke f ps s start b from end (PrintFailed why)
  print-failed start a b from to end rest part front more left text count n tally t2 why h read cut stamped printed = record {
    bytes = h.bytes ++ front;
    ending = [];
    more = more;
    rest = left;
    text = h.text ++ text;
    front = h.text ++ printed.front;
    back = printed.back;
    count = n;
    tally = t2;
    read = subst (Consumes start b) (ap (λ t. h.bytes ++ t) cut ∙ sym (append_assoc h.bytes front more)) (Consumes-trans start a b h.bytes part h.read read);
    is_ending = inl refl;
    stamped = subst (λ t. Stamped f ps s t (h.text ++ text) left n t2) (sym (append-nil (h.bytes ++ front))) stamped;
    part = ap (λ t. h.text ++ t) printed.part ∙ sym (append_assoc h.text printed.front printed.back);
    printed = Appends-trans from to end h.text printed.front h.printed printed.appends;
    cause = printed.missing;
  }

  -- the line after what was taken is too long
  pub too-long : (start a b from to end : Option (List ℕ)) (part text : List ℕ) (was is : Progress)
      (h : Underway f ps s start a from to was.line.items was.count was.tally) → Consumes a b part
      → (long : TakesUpTo f ps s part [] text was is) → Appends to end text → Broke f ps s start b from end (TooLong (counted is.count 1))
  too-long start a b from to end part text was is h read long printed =
      let stamped = long.taken h.bytes h.text (subst (λ t. Stamped f ps s h.bytes t was.line.items was.count was.tally) (sym (append-nil h.text)) h.stamped) in
      record {
        bytes = h.bytes ++ long.front;
        ending = [];
        more = long.byte ∷ long.others;
        rest = is.line.items;
        text = h.text ++ text;
        front = h.text ++ text;
        back = [];
        count = is.count;
        tally = is.tally;
        read = subst (Consumes start b) (ap (λ t. h.bytes ++ t) long.cut ∙ sym (append_assoc h.bytes long.front (long.byte ∷ long.others)))
            (Consumes-trans start a b h.bytes part h.read read);
        is_ending = inl refl;
        stamped = subst (λ t. Stamped f ps s t (h.text ++ text) is.line.items is.count is.tally) (sym (append-nil (h.bytes ++ long.front))) stamped;
        part = sym (append-nil (h.text ++ text));
        printed = Appends-trans from to end h.text text h.printed printed;
        cause = (long.byte, long.others, refl, long.plain, long.long, refl, refl);
      }

  -- why a run was broken off in which some bytes were not taken
  pub not-taken : (start a b from to end : Option (List ℕ)) (part old text : List ℕ) (was is : Progress) (fault : TakeFault) (why : RunFault) → old ≡ []
      → Underway f ps s start a from to was.line.items was.count was.tally → Consumes a b part
      → TakesAs f ps s part old text was is (Err fault) → Stops to end text is.count fault why → Broke f ps s start b from end why
  not-taken start a b from to end part old text was is take.OutOfMemory why none h read taken stops =
      subst (λ w. Broke f ps s start b from end w) (sym stops.0) (subst (λ o. Broke f ps s start b from o OutOfMemory) (sym stops.1)
      (stopped start a b from to was.line.items part was.count was.tally OutOfMemory h read refl))
  not-taken start a b from to end part old text was is take.TooLong why none h read taken (inl stops) =
      subst (λ w. Broke f ps s start b from end w) (sym stops.0)
      (too-long start a b from to end part text was is h read (subst (λ o. TakesUpTo f ps s part o text was is) none taken) stops.1)
  not-taken start a b from to end part old text was is take.TooLong why none h read taken (inr stops) =
      let long = subst (λ o. TakesUpTo f ps s part o text was is) none taken in
      let stamped = long.taken h.bytes h.text (subst (λ t. Stamped f ps s h.bytes t was.line.items was.count was.tally) (sym (append-nil h.text)) h.stamped) in
      subst (λ w. Broke f ps s start b from end w) (sym stops.1)
      (print-failed start a b from to end was.line.items part long.front (long.byte ∷ long.others) is.line.items text was.count is.count was.tally is.tally
      stops.0 h read long.cut stamped stops.2)

  goes-on : (start a b from to end : Option (List ℕ)) (rest part left text : List ℕ) (count n : ℕ) (tally t2 : Tally)
      (h : Underway f ps s start a from to rest count tally) → Consumes a b part
      → Stamped f ps s (h.bytes ++ part) (h.text ++ text) left n t2 → Appends to end text → Underway f ps s start b from end left n t2
  goes-on start a b from to end rest part left text count n tally t2 h read stamped printed = record {
    bytes = h.bytes ++ part;
    text = h.text ++ text;
    read = Consumes-trans start a b h.bytes part h.read read;
    stamped = stamped;
    printed = Appends-trans from to end h.text text h.printed printed;
  }

  -- all bytes were taken, and what comes out for them was printed or not
  pub all-taken : (start a b from to end : Option (List ℕ)) (part old text : List ℕ) (was is : Progress) (result : Result Bool RunFault) → old ≡ []
      → IfOk result (λ e. e ≡ false)
      → Underway f ps s start a from to was.line.items was.count was.tally → Consumes a b part
      → Takes f ps s part old text was is → PrintsAll to end text result → GoesOn f ps s start b from end is result
  all-taken start a b from to end part old text was is (Ok false) none e h read taken printed =
      let stamped = taken h.bytes h.text (subst (λ t. Stamped f ps s h.bytes t was.line.items was.count was.tally)
      (sym (ap (λ t. h.text ++ t) none ∙ append-nil h.text)) h.stamped) in
      goes-on start a b from to end was.line.items part is.line.items text was.count is.count was.tally is.tally h read stamped printed
  all-taken start a b from to end part old text was is (Ok true) none e h read taken printed = absurd (true≢false e)
  all-taken start a b from to end part old text was is (Err fault) none e h read taken printed =
      let stamped = taken h.bytes h.text (subst (λ t. Stamped f ps s h.bytes t was.line.items was.count was.tally)
      (sym (ap (λ t. h.text ++ t) none ∙ append-nil h.text)) h.stamped) in
      subst (λ w. Broke f ps s start b from end w) (sym printed.1)
      (print-failed start a b from to end was.line.items part part [] is.line.items text was.count is.count was.tally is.tally
      printed.0 h read (sym (append-nil part)) stamped printed.2)

  -- the end, if no line was begun
  pub ended-whole : (start b from to : Option (List ℕ)) (rest : List ℕ) (count : ℕ) (tally : Tally)
      → Underway f ps s start b from to rest count tally → IsAtEnd b
      → rest ≡ [] → Ran f ps s start b from to tally
  ended-whole start b from to rest count tally h at_end none = record {
    bytes = h.bytes;
    text = h.text;
    count = count;
    read = h.read;
    end = at_end;
    stamped = subst (λ r. Stamped f ps s (h.bytes ++ ending_of h.bytes) h.text r count tally) none
        (subst (λ t. Stamped f ps s t h.text rest count tally)
        (sym (ap (λ t. h.bytes ++ t) (ending-none h.bytes rest h.stamped.lines h.stamped.cut none) ∙ append-nil h.bytes)) h.stamped);
    printed = h.printed;
  }

  -- the end of a line that no newline ends
  pub ended-line : (start b from to end : Option (List ℕ)) (old text : List ℕ) (was is : Progress) (result : Result Bool RunFault) → old ≡ []
      → was.line.items ≢ [] → is.line.items ≡ [] → IfOk result (λ e. e ≡ true)
      → Underway f ps s start b from to was.line.items was.count was.tally → IsAtEnd b
      → Takes f ps s (10 ∷ []) old text was is → PrintsAll to end text result → GoesOn f ps s start b from end is result
  ended-line start b from to end old text was is result none some new e h at_end taken printed =
      let lacks = ending-rest h.bytes was.line.items h.stamped.lines h.stamped.cut h.stamped.begun some in
      let first = taken h.bytes h.text (subst (λ t. Stamped f ps s h.bytes t was.line.items was.count was.tally)
      (sym (ap (λ t. h.text ++ t) none ∙ append-nil h.text)) h.stamped) in
      let stamped = subst (λ t. Stamped f ps s (h.bytes ++ t) (h.text ++ text) is.line.items is.count is.tally) (sym lacks) first in
      with_result result e printed stamped where
        with_result : (result : Result Bool RunFault) → IfOk result (λ e. e ≡ true) → PrintsAll to end text result
            → Stamped f ps s (h.bytes ++ ending_of h.bytes) (h.text ++ text) is.line.items is.count is.tally → GoesOn f ps s start b from end is result
        with_result (Ok true) e printed stamped = record {
          bytes = h.bytes;
          text = h.text ++ text;
          count = is.count;
          read = h.read;
          end = at_end;
          stamped = subst (λ r. Stamped f ps s (h.bytes ++ ending_of h.bytes) (h.text ++ text) r is.count is.tally) new stamped;
          printed = Appends-trans from to end h.text text h.printed printed;
        }
        with_result (Ok false) e printed stamped = absurd (false≢true e)
        with_result (Err fault) e printed stamped = subst (λ w. Broke f ps s start b from end w) (sym printed.1) (record {
          bytes = h.bytes;
          ending = ending_of h.bytes;
          more = [];
          rest = is.line.items;
          text = h.text ++ text;
          front = h.text ++ printed.2.front;
          back = printed.2.back;
          count = is.count;
          tally = is.tally;
          read = subst (Consumes start b) (sym (append-nil h.bytes)) h.read;
          is_ending = inr (refl, at_end);
          stamped = stamped;
          part = ap (λ t. h.text ++ t) printed.2.part ∙ sym (append_assoc h.text printed.2.front printed.2.back);
          printed = Appends-trans from to end h.text printed.2.front h.printed printed.2.appends;
          cause = printed.2.missing;
        })

  -- nothing yet
  pub begun : (a from : Option (List ℕ)) → Underway f ps s a a from from [] 0 no_tally
  begun a from = record {
    bytes = [];
    text = [];
    read = Consumes-nil a;
    stamped = record { lines = []; outs = []; cut = refl; begun = refl; each = tt; whole = refl; counts = omega arith; tallied = none-tallied };
    printed = Appends-nil from;
  }

  pub begun-with : (a from : Option (List ℕ)) (rest : List ℕ) (count : ℕ) (tally : Tally) → rest ≡ [] → count ≡ 0 → tally ≡ no_tally
      → Underway f ps s a a from from rest count tally
  begun-with a from rest count tally r c l =
      subst (λ x. Underway f ps s a a from from x count tally) (sym r) (subst (λ x. Underway f ps s a a from from [] x tally) (sym c)
      (subst (λ x. Underway f ps s a a from from [] 0 x) (sym l) (begun a from)))

  -- a read of no byte
  pub read-nothing : (start a b from to : Option (List ℕ)) (rest : List ℕ) (count : ℕ) (tally : Tally) → Underway f ps s start a from to rest count tally
      → Consumes a b [] → Underway f ps s start b from to rest count tally
  read-nothing start a b from to rest count tally h read = record {
    bytes = h.bytes;
    text = h.text;
    read = subst (Consumes start b) (append-nil h.bytes) (Consumes-trans start a b h.bytes [] h.read read);
    stamped = h.stamped;
    printed = h.printed;
  }
