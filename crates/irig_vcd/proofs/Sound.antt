-- No fault of a dump is out of memory.
use Rattle.std.proofs.Common.{◌≡◌, ◌∷◌, ◌==◌, [], ℕ, Bool, true, false, not, cond, List, Option, Some, None, Result, Ok, Err, IfErr, length, nat_lt, ◌∙◌}
use Rattle.std.specs.{Str.bytes_eq, List.list_any, List.list_all}
use Rattle.irig_vcd.specs.Cut.{Section, Stop, no_end, no_definitions, bad, ended, cut_from}
use Rattle.irig_vcd.specs.Declarations.{Heading, nothing, taken, with_var, with_scale, judged, stopped, read_cut, scale_needed, start_of, declarations_of}
use Rattle.irig_vcd.specs.Sections.{is_comment, SectionKind, timescale, variable, definitions_end, skipped, no_section, is_mark}
use Rattle.irig_vcd.specs.Scan.{Open, closed, code_of, comment_of, Scan, word_by_kind, word_in, scan_on, scan_words}
use Rattle.irig_vcd.specs.Words.{Word, WordKind, dollar, hash, scalar, vector, real, text, other, is_code, rest_of}
use Rattle.irig_vcd.specs.declared.fault.VcdFault.TheVariants.{OutOfMemory, BadToken, Backward, TimeTooLarge, BadVar, ManyWires, NotOneBit}
use Rattle.irig_vcd.specs.{Answer.◌>>=◌, Digits.is_digit, Digits.is_number, Digits.number_from, Values.level_by, Values.scalar_level, Scales.exponent_of}
use Rattle.irig_vcd.specs.{Scales.joined, Scales.scale_of, Scales.scale_or_fault, Times.time_of, Variables.Declared, Variables.declared_by}
use Rattle.irig_vcd.specs.{Variables.variable_of, Wire.chosen, Wire.code_of as common_code, Wire.has_others, Wire.is_wide, declared.fault.VcdFault.VcdFault}

-- no fault is out of memory
abbrev IsSound : {X : Type 0} → Result X VcdFault → Type 0
IsSound r = IfErr r (λ e. e ≡ OutOfMemory → ⊥)

bad_sound : {X : Type 0} (b : Bool) (r : Result X VcdFault) (offset : ℕ) → IsSound r → IsSound (cond b (Err (BadToken offset)) r)
bad_sound true r offset h = λ is. absurd (cc is)
bad_sound false r offset h = h

late_sound : (b c : Bool) (n offset : ℕ) → IsSound (cond b (Err (Backward offset)) (cond c (Err (TimeTooLarge offset)) (Ok n)))
late_sound true c n offset = λ is. absurd (cc is)
late_sound false true n offset = λ is. absurd (cc is)
late_sound false false n offset = tt

time_sound : (unit last : ℕ) (digits : List ℕ) (offset : ℕ) → IsSound (time_of unit last digits offset)
unfolding time_of
time_sound unit last digits offset =
    bad_sound (not (is_number digits)) _ offset (late_sound (nat_lt (number_from 0 digits) last) _ (number_from 0 digits) offset)

value_sound : (b : Bool) (offset : ℕ) (x : Option Bool) → IsSound (cond b (Ok x) (Err (BadToken offset)))
value_sound true offset x = tt
value_sound false offset x = λ is. absurd (cc is)

other_sound : (b : Bool) (r : Result (Option Bool) VcdFault) → IsSound r → IsSound (cond b (Ok None) r)
other_sound true r h = tt
other_sound false r h = h

level_sound : (kind : WordKind) (code : List ℕ) (w : Word) (next : List ℕ) → IsSound (level_by kind code w next)
level_sound vector code w next = other_sound (not (bytes_eq next code)) _ (bad_sound (nat_lt (length w.bytes) 2) _ w.offset (value_sound _ w.offset _))
level_sound dollar code w next = tt
level_sound hash code w next = tt
level_sound scalar code w next = tt
level_sound real code w next = tt
level_sound text code w next = tt
level_sound other code w next = tt

then_sound : {X Y : Type 0} (r : Result X VcdFault) (f : X → Y) → IsSound r → IsSound (r >>= λ x. Ok (f x))
then_sound (Ok x) f h = tt
then_sound (Err e) f h = h

dollar_sound : (mark comments : Bool) (s t : Scan) (offset : ℕ) → IsSound (cond mark (Ok s) (cond comments (Ok t) (Err (BadToken offset))))
dollar_sound true comments s t offset = tt
dollar_sound false true s t offset = tt
dollar_sound false false s t offset = λ is. absurd (cc is)

kind_sound : (kind : WordKind) (code : List ℕ) (unit : ℕ) (s : Scan) (w : Word) → IsSound (word_by_kind kind code unit s w)
kind_sound hash code unit s w = then_sound (time_of unit s.last (rest_of w.bytes) w.offset) _ (time_sound unit s.last (rest_of w.bytes) w.offset)
kind_sound scalar code unit s w = then_sound (scalar_level code w) _ (bad_sound (length (rest_of w.bytes) == 0) _ w.offset tt)
kind_sound vector code unit s w = tt
kind_sound real code unit s w = tt
kind_sound text code unit s w = tt
kind_sound dollar code unit s w = dollar_sound (is_mark w.bytes) (is_comment w.bytes) s (record s { opened = comment_of None }) w.offset
kind_sound other code unit s w = λ is. absurd (cc is)

word_sound : (now : Open) (code : List ℕ) (unit : ℕ) (s : Scan) (w : Word) → IsSound (word_in now code unit s w)
word_sound closed code unit s w = kind_sound w.kind code unit s w
word_sound (code_of value) code unit s w = then_sound (level_by value.kind code value w.bytes) _ (level_sound value.kind code value w.bytes)
word_sound (comment_of first) code unit s w = tt

on_sound : (r : Result Scan VcdFault) (s : Scan) (f : Scan → Scan × Option VcdFault) → IsSound r → ((t : Scan) → (f t).1 ≡ Some OutOfMemory → ⊥)
    → (scan_on s r f).1 ≡ Some OutOfMemory → ⊥
on_sound (Ok t) s f h ih is = ih t is
on_sound (Err e) s f h ih is = h (cc is)

pub never_memory : (code : List ℕ) (unit : ℕ) (ws : List Word) (s : Scan) → (scan_words code unit s ws).1 ≡ Some OutOfMemory → ⊥
never_memory code unit [] s is = absurd (cc is)
never_memory code unit (w ∷ ws) s is =
    on_sound (word_in s.opened code unit s w) s _ (word_sound s.opened code unit s w) (never_memory code unit ws) is

-- a chain of what is sound
pub chain_sound : {X Y : Type 0} (r : Result X VcdFault) (f : X → Result Y VcdFault) → IsSound r → ((x : X) → IsSound (f x)) → IsSound (r >>= f)
chain_sound (Ok x) f h k = k x
chain_sound (Err e) f h k = h

scale_sound : (s : Option ℕ) → IsSound (scale_or_fault s)
scale_sound None = λ is. absurd (cc is)
scale_sound (Some s) = tt

var_sound : (a b : Bool) (d : Declared) → IsSound (cond a (Err BadVar) (cond b (Err BadVar) (Ok d)))
var_sound true b d = λ is. absurd (cc is)
var_sound false true d = λ is. absurd (cc is)
var_sound false false d = tt

declared_sound : (words : List (List ℕ)) → IsSound (declared_by words)
unfolding declared_by variable_of
declared_sound [] = λ is. absurd (cc is)
declared_sound (kind ∷ []) = λ is. absurd (cc is)
declared_sound (kind ∷ digits ∷ []) = λ is. absurd (cc is)
declared_sound (kind ∷ digits ∷ code ∷ []) = λ is. absurd (cc is)
declared_sound (kind ∷ digits ∷ code ∷ reference ∷ more) = var_sound (not (is_code code)) (not (list_all is_digit digits)) _

taken_sound : (kind : SectionKind) (h : Heading) (words : List (List ℕ)) → IsSound (taken kind h words)
taken_sound timescale h words = then_sound (scale_of words) (with_scale h) (scale_sound (exponent_of (joined words)))
taken_sound variable h words = then_sound (declared_by words) (with_var h) (declared_sound words)
taken_sound definitions_end h words = tt
taken_sound skipped h words = tt
taken_sound no_section h words = tt

judged_sound : (h : Heading) (ss : List Section) → IsSound (judged h ss)
judged_sound h [] = tt
judged_sound h (s ∷ ss) = chain_sound (taken s.kind h s.words) (λ g. judged g ss) (taken_sound s.kind h s.words) (λ g. judged_sound g ss)

stopped_sound : (h : Heading) (s : Stop) → IsSound (stopped h s)
stopped_sound h no_end = λ is. absurd (cc is)
stopped_sound h no_definitions = λ is. absurd (cc is)
stopped_sound h (bad offset) = λ is. absurd (cc is)
stopped_sound h (ended words) = tt

needed_sound : (s : Option ℕ) → IsSound (scale_needed s)
needed_sound None = λ is. absurd (cc is)
needed_sound (Some s) = tt

wire_sound : (many wide : Bool) (code : List ℕ) → IsSound (cond many (Err ManyWires) (cond wide (Err NotOneBit) (Ok code)))
wire_sound true wide code = λ is. absurd (cc is)
wire_sound false true code = λ is. absurd (cc is)
wire_sound false false code = tt

common_sound : (vs : List Declared) → IsSound (common_code vs)
common_sound [] = λ is. absurd (cc is)
common_sound (v ∷ vs) = wire_sound (has_others (v ∷ vs)) (list_any is_wide (v ∷ vs)) v.code

pub heading_sound : (wire : Option (List ℕ)) (words : List Word) → IsSound (declarations_of wire words)
unfolding declarations_of
heading_sound wire words =
    let cut = cut_from None words in
    chain_sound (read_cut nothing cut) _ (chain_sound (judged nothing cut.sections) (λ g. stopped g cut.stop) (judged_sound nothing cut.sections)
    (λ g. stopped_sound g cut.stop)) (λ x. chain_sound (start_of wire x.0) _ (chain_sound (scale_needed x.0.scale) _ (needed_sound x.0.scale)
    (λ s. chain_sound (common_code (chosen wire x.0.vars)) _ (common_sound (chosen wire x.0.vars)) (λ c. tt))) (λ s. tt))

pub never_declared : (wire : Option (List ℕ)) (words : List Word) (e : VcdFault) → declarations_of wire words ≡ Err e → e ≡ OutOfMemory → ⊥
never_declared wire words e h = by (declarations_of wire words) h (heading_sound wire words) where
  by : (r : Result ((ℕ × List ℕ) × List Word) VcdFault) → r ≡ Err e → IsSound r → e ≡ OutOfMemory → ⊥
  by (Ok x) is sound = absurd (cc is)
  by (Err f) is sound = let same : f ≡ e = cc is in λ memory. sound (same ∙ memory)
