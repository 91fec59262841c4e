-- The comments that a run under guard prints of its own are lines that the editor passes over.
use Rattle.std.proofs.Common.{◌≡◌, ◌+◌, ◌-◌, ◌/◌, ◌%◌, ◌≤◌, ◌==◌, ◌++◌, ◌∙◌, ℕ, zero, suc, Bool, true, false, List, [], ◌∷◌, Option, Some, None, ap, arith, codes}
use Rattle.std.proofs.Common.{decimal, inl, length, length-append, not, refl, replicate, sym}
use Rattle.std.specs.Prelude.{if◌then◌else◌}
use Rattle.std.specs.Fmt.{digit_glyph, digits, digits_onto}
use Rattle.std.specs.List.{AllByRecursion}
use Rattle.std.proofs.lemmas.{Bool.and_from, Bool.Decides.nat_tests, List.append-nil, List.Folds.list_all-append}
use Rattle.irig_codes.specs.declared.fields.Fields.{Fields}
use Rattle.irig_edit.specs.declared.session.refusal.Refusal.{Refusal}
use Rattle.irig_edit.specs.declared.session.refusal.Refusal.TheVariants as refusal
use Rattle.irig_script.specs.{Obey.Run.IsPlain, Obey.Run.unlines}
use Rattle.irig_print.specs.{FrameLine.clock_text, FrameLine.hundredths_text, FrameLine.time_text, Row.padded}
use Rattle.irig_guarding.specs.{Guarded.IsRemark, Reasons.fault_text, Reasons.frame_text, Reasons.head_lines, Reasons.change_text, Reasons.moment_text, Reasons.reason_line, Reasons.reason_text, Reasons.refusal_name}
use Rattle.irig_guarding.specs.declared.reason.Reason.{Reason}
use Rattle.irig_guarding.specs.declared.reason.Reason.TheVariants.{Disagrees, NoRepair, NotSafe, OutOfMemory, Refused}
use Rattle.irig_agreement.specs.declared.fault.{Change.Change, Fault.Fault as Disagreement}
use Rattle.irig_agreement.specs.declared.fault.Change.TheVariants as change
use Rattle.irig_safety.specs.declared.fault.Fault.TheVariants.{Alone, Changed, Lost, Misplaced, Moved, Removed, Unjudged, Unrecorded, Unsupported}
use Rattle.irig_safety.specs.{declared.fault.Fault.Fault, declared.shown.Shown.Shown}

-- a front after a number sign is a remark
pub front_remark : (text : List ℕ) → IsPlain text → length text ≤ 900 → IsRemark (35 ∷ 32 ∷ text)
front_remark text h few = record { plain = h; asks = (omega arith, ([], 35 ∷ 32 ∷ text, refl, refl, inl (refl, refl))) }

-- a text of one line, of at most that many bytes
record Fits (most : ℕ) (text : List ℕ) : Type 0 where
  plain : IsPlain text
  few : length text ≤ most

both : (m n : ℕ) (xs ys : List ℕ) → Fits m xs → Fits n ys → Fits (m + n) (xs ++ ys)
both m n xs ys h k = record {
  plain = list_all-append (λ b. not (b == 10)) xs ys ∙ and_from _ _ h.plain k.plain;
  few = omega (arith, length-append xs ys, h.few, k.few);
}

fits_name : (why : Refusal) → Fits 20 (refusal_name why)
fits_name refusal.OutOfRange = record { plain = refl; few = omega arith }
fits_name refusal.NoPulse = record { plain = refl; few = omega arith }
fits_name refusal.Touching = record { plain = refl; few = omega arith }
fits_name refusal.NotInside = record { plain = refl; few = omega arith }
fits_name refusal.TooMany = record { plain = refl; few = omega arith }
fits_name refusal.BadExpression = record { plain = refl; few = omega arith }
fits_name refusal.BadTime = record { plain = refl; few = omega arith }
fits_name refusal.BadControl = record { plain = refl; few = omega arith }
fits_name refusal.NothingToUndo = record { plain = refl; few = omega arith }
fits_name refusal.NothingToRedo = record { plain = refl; few = omega arith }
fits_name refusal.OutOfMemory = record { plain = refl; few = omega arith }
fits_name refusal.GroupOpen = record { plain = refl; few = omega arith }
fits_name refusal.NoGroup = record { plain = refl; few = omega arith }
fits_name refusal.GroupFloor = record { plain = refl; few = omega arith }

-- numbers
few_glyphs : (d : ℕ) → not (digit_glyph false d == 10) ≡ true
few_glyphs d = grind (arith, nat_tests)

one_of : (v : Bool) (n : ℕ) (xs ys : List ℕ) → Fits n xs → Fits n ys → Fits n (if v then xs else ys)
one_of true n xs ys h k = h
one_of false n xs ys h k = k

digits_more : (k base n m : ℕ) (acc : List ℕ) → Fits m acc → Fits (k + m) (digits_onto k base false n acc)
digits_more zero base n m acc h = record { plain = h.plain; few = omega (arith, h.few) }
digits_more (suc k) base n m acc h =
    let more = digit_glyph false (n % base) ∷ acc in
    let here : Fits (suc k + m) more = record { plain = and_from _ _ (few_glyphs (n % base)) h.plain; few = omega (arith, h.few) } in
    let next : Fits (suc m) more = record { plain = and_from _ _ (few_glyphs (n % base)) h.plain; few = omega (arith, h.few) } in
    let rest = digits_more k base (n / base) (suc m) more next in
    one_of (n / base == 0) (suc k + m) more (digits_onto k base false (n / base) more) here
    record { plain = rest.plain; few = omega (arith, rest.few) }

fits_number : (n : ℕ) → Fits 64 (decimal n)
unfolding digits
fits_number n = digits_more 64 10 n 0 [] (record { plain = refl; few = omega arith })

fits_zeros : (n : ℕ) → Fits n (replicate n 48)
fits_zeros zero = record { plain = refl; few = omega arith }
fits_zeros (suc n) = let rest = fits_zeros n in record { plain = rest.plain; few = omega (arith, rest.few) }

fits_padded : (n : ℕ) (width : ℕ) → width ≤ 3 → Fits 67 (padded width n)
fits_padded n width narrow =
    let zeros = width - length (decimal n) in
    let whole = both zeros 64 (replicate zeros 48) (decimal n) (fits_zeros zeros) (fits_number n) in
    record { plain = whole.plain; few = omega (arith, whole.few, narrow) }

-- the text of a frame
fits_clock : (g : Fields) → Fits 210 (clock_text g)
fits_clock g =
    let colon : Fits 1 (codes ":") = record { plain = refl; few = omega arith } in
    let hours = fits_padded g.hours 2 (omega arith) in
    let minutes = fits_padded g.minutes 2 (omega arith) in
    let seconds = fits_padded g.seconds 2 (omega arith) in
    let two = both 68 67 _ _ (both 67 1 _ _ hours colon) minutes in
    let whole = both 136 67 _ _ (both 135 1 _ _ two colon) seconds in
    record { plain = whole.plain; few = omega (arith, whole.few) }

fits_hundredths : (v : Option ℕ) → Fits 70 (hundredths_text v)
fits_hundredths None = record { plain = refl; few = omega arith }
fits_hundredths (Some v) =
    let whole = both 1 67 (codes ".") (padded 2 v) (record { plain = refl; few = omega arith }) (fits_padded v 2 (omega arith)) in
    record { plain = whole.plain; few = omega (arith, whole.few) }

fits_time : (g : Fields) → Fits 360 (time_text g)
fits_time g =
    let days = fits_padded g.days 3 (omega arith) in
    let space : Fits 1 (codes " ") = record { plain = refl; few = omega arith } in
    let whole = both 278 70 _ _ (both 68 210 _ _ (both 67 1 _ _ days space) (fits_clock g)) (fits_hundredths g.hundredths) in
    record { plain = whole.plain; few = omega (arith, whole.few) }

fits_frame : (x : Shown) → Fits 500 (frame_text x)
fits_frame x =
    let word : Fits 10 (codes "frame ") = record { plain = refl; few = omega arith } in
    let at : Fits 10 (codes " at ") = record { plain = refl; few = omega arith } in
    let whole = both 380 64 _ _ (both 370 10 _ _ (both 10 360 _ _ word (fits_time x.fields)) at) (fits_number x.rise) in
    record { plain = whole.plain; few = omega (arith, whole.few) }

fits_fault : (why : Fault) → Fits 600 (fault_text why)
fits_fault (Lost x) = both 500 100 _ _ (fits_frame x) (record { plain = refl; few = omega arith })
fits_fault (Changed x) = both 500 100 _ _ (fits_frame x) (record { plain = refl; few = omega arith })
fits_fault (Unsupported x) = both 500 100 _ _ (fits_frame x) (record { plain = refl; few = omega arith })
fits_fault (Misplaced x) = both 500 100 _ _ (fits_frame x) (record { plain = refl; few = omega arith })
fits_fault (Moved x) = both 500 100 _ _ (fits_frame x) (record { plain = refl; few = omega arith })
fits_fault (Unrecorded x) = both 500 100 _ _ (fits_frame x) (record { plain = refl; few = omega arith })
fits_fault Alone = record { plain = refl; few = omega arith }
fits_fault (Removed t) =
    let front : Fits 100 (codes "the pulse at ") = record { plain = refl; few = omega arith } in
    let back : Fits 100 (codes " is in step, and would be gone") = record { plain = refl; few = omega arith } in
    let whole = both 100 164 _ _ front (both 64 100 _ _ (fits_number t) back) in
    record { plain = whole.plain; few = omega (arith, whole.few) }
fits_fault Unjudged = record { plain = refl; few = omega arith }

fits_change : (what : Change) → Fits 100 (change_text what)
fits_change change.Lost = record { plain = refl; few = omega arith }
fits_change change.Other = record { plain = refl; few = omega arith }
fits_change change.Doubted = record { plain = refl; few = omega arith }

fits_moment : (x : Disagreement) → Fits 264 (moment_text x)
fits_moment x = both 100 164 (codes "the moment ") _ (record { plain = refl; few = omega arith }) (both 64 100 _ _ (fits_number x.moment) (fits_change x.what))

fits_text : (reason : Reason) → Fits 800 (reason_text reason)
fits_text NoRepair = record { plain = refl; few = omega arith }
fits_text (Refused why) =
    let name = fits_name why in
    let whole = both 20 20 (codes "refused: ") (refusal_name why) (record { plain = refl; few = omega arith }) name in
    record { plain = whole.plain; few = omega (arith, whole.few) }
fits_text OutOfMemory = record { plain = refl; few = omega arith }
fits_text (NotSafe why) = let whole = fits_fault why in record { plain = whole.plain; few = omega (arith, whole.few) }
fits_text (Disagrees why) = let whole = fits_moment why in record { plain = whole.plain; few = omega (arith, whole.few) }

pub reason_remark : (reason : Reason) → IsRemark (reason_line reason)
reason_remark reason =
    let whole = both 20 800 (codes "not kept: ") (reason_text reason) (record { plain = refl; few = omega arith }) (fits_text reason) in
    front_remark (codes "not kept: " ++ reason_text reason) whole.plain (omega (arith, whole.few))

pub head_remarks : (opened : List Shown) → AllByRecursion IsRemark (head_lines opened)
head_remarks [] = (front_remark (codes "nothing to go by: no frame of the recording is fine") refl (omega arith), tt)
head_remarks (x ∷ opened) = tt

pub none_there : (n : ℕ) (r : Bool) → r ≡ (n == 0) → r ≡ true → n ≡ 0
none_there n r is t = grind (arith, nat_tests)

some_there : (n : ℕ) (r : Bool) → r ≡ (n == 0) → r ≡ false → n ≡ 0 → ⊥
some_there n r is f e = let bad : false ≡ true = sym f ∙ (is ∙ ap (λ k. k == 0) e) in cc

-- the head, by whether some frame of the recording reads well
pub head_none : (opened : List Shown) (old new : List ℕ) (r : Bool) → r ≡ (length opened == 0) → r ≡ true
    → new ≡ old ++ (codes "# nothing to go by: no frame of the recording is fine" ++ 10 ∷ []) → new ≡ old ++ unlines (head_lines opened)
head_none [] old new r is t e = e ∙ ap (λ l. old ++ l) (sym (append-nil (codes "# nothing to go by: no frame of the recording is fine" ++ 10 ∷ [])))
head_none (x ∷ opened) old new r is t e = let none = none_there (length (x ∷ opened)) r is t in absurd (omega (arith, none))

pub head_some : (opened : List Shown) (out : List ℕ) (r : Bool) → r ≡ (length opened == 0) → r ≡ false → out ≡ out ++ unlines (head_lines opened)
head_some [] out r is f = absurd (some_there 0 r is f refl)
head_some (x ∷ opened) out r is f = sym (append-nil out)
