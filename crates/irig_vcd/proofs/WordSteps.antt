-- What a word can make of a scan.
use Rattle.std.proofs.Common.{◌≡◌, ℕ, Bool, true, false, cond, List, Option, Some, None, Result, Ok, Err, IfOk, refl}
use Rattle.irig_vcd.specs.Scan.{Open, closed, code_of, comment_of, Scan, given, shut, scan_on, word_by_kind, word_in}
use Rattle.irig_vcd.specs.Words.{Word, WordKind, dollar, hash, scalar, vector, real, text, other, rest_of}
use Rattle.irig_vcd.specs.{Answer.◌>>=◌, Journals.comment, Journals.first_or, Sections.is_comment, Sections.is_end, Sections.is_mark, Times.time_of}
use Rattle.irig_vcd.specs.{Values.level_by, Values.scalar_level, declared.fault.VcdFault.VcdFault, declared.fault.VcdFault.TheVariants.BadToken}

-- nothing is open, or what has no first word
abbrev pub Plain : Open → Type 0
Plain closed = Unit {0}
Plain (code_of v) = Unit {0}
Plain (comment_of None) = Unit {0}
Plain (comment_of (Some w)) = ⊥

-- what holds whatever a word makes of a scan: a later time, a level or none, something open, or of a comment its end or more of it
pub record Always (unit : ℕ) (s : Scan) (w : Word) (P : Scan → Type 0) : Type 0 where
  pub same : P s
  pub timed : Plain s.opened → (t : ℕ) → time_of unit s.last (rest_of w.bytes) w.offset ≡ Ok t → P (record s { last = t })
  pub levels : Plain s.opened → (level : Option Bool) → P (given unit s level)
  pub opens : Plain s.opened → (now : Open) → Plain now → P (record s { opened = now })
  pub ends : (first : Option Word) → s.opened ≡ comment_of first → P (shut s (comment (first_or first w) w.offset))
  pub goes : (first : Option Word) → s.opened ≡ comment_of first → P (record s { opened = comment_of (Some (first_or first w)) })

a_time : (r : Result ℕ VcdFault) (s : Scan) (P : Scan → Type 0) → ((t : ℕ) → r ≡ Ok t → P (record s { last = t }))
    → IfOk (r >>= λ t. Ok (record s { last = t })) P
a_time (Ok t) s P h = h t refl
a_time (Err e) s P h = tt

a_level : (r : Result (Option Bool) VcdFault) (unit : ℕ) (s : Scan) (P : Scan → Type 0) → ((level : Option Bool) → P (given unit s level))
    → IfOk (r >>= λ level. Ok (given unit s level)) P
a_level (Ok level) unit s P h = h level
a_level (Err e) unit s P h = tt

a_dollar : (mark comments : Bool) (s t : Scan) (e : VcdFault) (P : Scan → Type 0) → P s → P t → IfOk (cond mark (Ok s) (cond comments (Ok t) (Err e))) P
a_dollar true comments s t e P h k = h
a_dollar false true s t e P h k = k
a_dollar false false s t e P h k = tt

a_comment : (ends : Bool) (s t : Scan) (P : Scan → Type 0) → P s → P t → P (cond ends s t)
a_comment true s t P h k = h
a_comment false s t P h k = k

by_kind : (kind : WordKind) (code : List ℕ) (unit : ℕ) (s : Scan) (w : Word) (P : Scan → Type 0) → Plain s.opened → Always unit s w P
    → IfOk (word_by_kind kind code unit s w) P
by_kind hash code unit s w P plain a = a_time (time_of unit s.last (rest_of w.bytes) w.offset) s P (a.timed plain)
by_kind scalar code unit s w P plain a = a_level (scalar_level code w) unit s P (a.levels plain)
by_kind vector code unit s w P plain a = a.opens plain (code_of w) tt
by_kind real code unit s w P plain a = a.opens plain (code_of w) tt
by_kind text code unit s w P plain a = a.opens plain (code_of w) tt
by_kind dollar code unit s w P plain a =
    a_dollar (is_mark w.bytes) (is_comment w.bytes) s (record s { opened = comment_of None }) (BadToken w.offset) P a.same (a.opens plain (comment_of None) tt)
by_kind other code unit s w P plain a = tt

word_always : (now : Open) (code : List ℕ) (unit : ℕ) (s : Scan) (w : Word) (P : Scan → Type 0) → s.opened ≡ now → Always unit s w P
    → IfOk (word_in now code unit s w) P
word_always closed code unit s w P is a = by_kind w.kind code unit s w P (rw is tt) a
word_always (code_of v) code unit s w P is a = a_level (level_by v.kind code v w.bytes) unit s P (a.levels (rw is tt))
word_always (comment_of first) code unit s w P is a = a_comment (is_end w.bytes) _ _ P (a.ends first is) (a.goes first is)

on_always : (r : Result Scan VcdFault) (s : Scan) (P : Scan → Type 0) (Q : Scan × Option VcdFault → Type 0) (f : Scan → Scan × Option VcdFault)
    → IfOk r P → ((t : Scan) → P t → Q (f t)) → ((e : VcdFault) → Q (s, Some e)) → Q (scan_on s r f)
on_always (Ok t) s P Q f h more stop = more t h
on_always (Err e) s P Q f h more stop = stop e

-- the next word
pub next_always : (code : List ℕ) (unit : ℕ) (s : Scan) (w : Word) (P : Scan → Type 0) (Q : Scan × Option VcdFault → Type 0)
    (f : Scan → Scan × Option VcdFault) → Always unit s w P → ((t : Scan) → P t → Q (f t)) → ((e : VcdFault) → Q (s, Some e))
    → Q (scan_on s (word_in s.opened code unit s w) f)
next_always code unit s w P Q f a more stop =
    on_always (word_in s.opened code unit s w) s P Q f (word_always s.opened code unit s w P refl a) more stop
