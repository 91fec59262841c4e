-- When the same is reported of two frames; of the same frames nothing differs.
use Rattle.std.proofs.Common.{◌≡◌, ℕ, ◌+◌, ◌==◌, ◌∙◌, Bool, true, not, cond, List, [], ◌∷◌, Option, Some, None, refl, sym, ap, arith, filter}
use Rattle.std.specs.Prelude.{◌↔◌, IsTrue}
use Rattle.std.proofs.lemmas.{Bool.and_from, Bool.and_parts, Bool.eq-eqb, Bool.eqb-true}
use Rattle.irig_codes.specs.{declared.fields.Fields.Fields, declared.note.Name.Name, declared.note.Note.Note}
use Rattle.irig_codes.specs.declared.note.Name.TheVariants as name
use Rattle.irig_codes.specs.declared.note.Note.TheVariants as note
use Rattle.irig_index.specs.{declared.record.Cause.Cause, declared.record.Verdict.Verdict}
use Rattle.irig_index.specs.declared.record.Cause.TheVariants as cause
use Rattle.irig_index.specs.declared.record.Verdict.TheVariants as verdict
use Rattle.irig_comments.specs.{Framed.FramesRise, declared.shown.Shown.Shown}
use Rattle.irig_comments.specs.Same.{cause_number, name_number, same_fields, same_note, same_part, same_verdict}
use Rattle.irig_comments.specs.Sides.{differs, sides_of}
use Rattle.irig_comments.proofs.SidesSteps.{step_both}

-- what is the same, is found to be
same-number : (n : ℕ) → (n == n) ≡ true
same-number n = eq-eqb n n refl

part-self : (a : Option ℕ) → same_part a a ≡ true
part-self None = refl
part-self (Some a) = same-number a

fields-self : (f : Fields) → same_fields f f ≡ true
fields-self f =
    and_from _ _
    (and_from _ _
    (and_from _ _
    (and_from _ _
    (and_from _ _ (and_from _ _ (and_from _ _ (part-self f.hundredths) (same-number f.seconds)) (same-number f.minutes)) (same-number f.hours))
    (same-number f.days))
    (part-self f.year))
    (part-self f.sbs))
    (part-self f.control)

note-self : (n : Note) → same_note n n ≡ true
note-self note.Fine = refl
note-self (note.Field n) = same-number (name_number n)
note-self note.SbsDisagrees = refl
note-self (note.Stray e) = same-number e

pub verdict-self : (v : Verdict) → same_verdict v v ≡ true
verdict-self (verdict.Broken e c) = and_from _ _ (same-number e) (same-number (cause_number c))
verdict-self (verdict.Read f n) = and_from _ _ (fields-self f) (note-self n)

-- what is found to be the same, is
part-same : (a b : Option ℕ) → same_part a b ≡ true → a ≡ b
part-same None None h = refl
part-same None (Some b) h = absurd (cc)
part-same (Some a) None h = absurd (cc)
part-same (Some a) (Some b) h = ap Some (eqb-true a b h)

fields-same : (f g : Fields) → same_fields f g ≡ true → f ≡ g
fields-same f g h =
    let a = and_parts _ _ h in
    let b = and_parts _ _ a.0 in
    let c = and_parts _ _ b.0 in
    let d = and_parts _ _ c.0 in
    let e = and_parts _ _ d.0 in
    let i = and_parts _ _ e.0 in
    let k = and_parts _ _ i.0 in
    let hundredths = part-same f.hundredths g.hundredths k.0 in
    let seconds = eqb-true f.seconds g.seconds k.1 in
    let minutes = eqb-true f.minutes g.minutes i.1 in
    let hours = eqb-true f.hours g.hours e.1 in
    let days = eqb-true f.days g.days d.1 in
    let year = part-same f.year g.year c.1 in
    let sbs = part-same f.sbs g.sbs b.1 in
    let control = part-same f.control g.control a.1 in
    (λ j. record {
      hundredths = hundredths j;
      seconds = seconds j;
      minutes = minutes j;
      hours = hours j;
      days = days j;
      year = year j;
      sbs = sbs j;
      control = control j;
    })

-- a name by its number
abbrev name_at : ℕ → Name
name_at n =
    cond (n == 0) name.Hundredths
    (cond (n == 1) name.Seconds (cond (n == 2) name.Minutes (cond (n == 3) name.Hours (cond (n == 4) name.Days name.Year))))

name_of-number : (n : Name) → name_at (name_number n) ≡ n
name_of-number name.Hundredths = refl
name_of-number name.Seconds = refl
name_of-number name.Minutes = refl
name_of-number name.Hours = refl
name_of-number name.Days = refl
name_of-number name.Year = refl

name-same : (a b : Name) → (name_number a == name_number b) ≡ true → a ≡ b
name-same a b h = sym (name_of-number a) ∙ ap name_at (eqb-true (name_number a) (name_number b) h) ∙ name_of-number b

abbrev cause_at : ℕ → Cause
cause_at n = cond (n == 0) cause.Ended (cond (n == 1) cause.Step cause.Class)

cause_of-number : (c : Cause) → cause_at (cause_number c) ≡ c
cause_of-number cause.Ended = refl
cause_of-number cause.Step = refl
cause_of-number cause.Class = refl

cause-same : (a b : Cause) → (cause_number a == cause_number b) ≡ true → a ≡ b
cause-same a b h = sym (cause_of-number a) ∙ ap cause_at (eqb-true (cause_number a) (cause_number b) h) ∙ cause_of-number b

note-same : (m n : Note) → same_note m n ≡ true → m ≡ n
note-same note.Fine note.Fine h = refl
note-same note.Fine (note.Field n) h = absurd (cc)
note-same note.Fine note.SbsDisagrees h = absurd (cc)
note-same note.Fine (note.Stray e) h = absurd (cc)
note-same (note.Field a) note.Fine h = absurd (cc)
note-same (note.Field a) (note.Field b) h = ap note.Field (name-same a b h)
note-same (note.Field a) note.SbsDisagrees h = absurd (cc)
note-same (note.Field a) (note.Stray e) h = absurd (cc)
note-same note.SbsDisagrees note.Fine h = absurd (cc)
note-same note.SbsDisagrees (note.Field n) h = absurd (cc)
note-same note.SbsDisagrees note.SbsDisagrees h = refl
note-same note.SbsDisagrees (note.Stray e) h = absurd (cc)
note-same (note.Stray d) note.Fine h = absurd (cc)
note-same (note.Stray d) (note.Field n) h = absurd (cc)
note-same (note.Stray d) note.SbsDisagrees h = absurd (cc)
note-same (note.Stray d) (note.Stray e) h = ap note.Stray (eqb-true d e h)

pub verdict-same : (v w : Verdict) → same_verdict v w ≡ true → v ≡ w
verdict-same (verdict.Broken a c) (verdict.Broken b d) h =
    let both = and_parts _ _ h in
    let element = eqb-true a b both.0 in
    let why = cause-same c d both.1 in
    (λ j. verdict.Broken (element j) (why j))
verdict-same (verdict.Broken a c) (verdict.Read g n) h = absurd (cc)
verdict-same (verdict.Read f m) (verdict.Broken b d) h = absurd (cc)
verdict-same (verdict.Read f m) (verdict.Read g n) h =
    let both = and_parts _ _ h in
    let fields = fields-same f g both.0 in
    let noted = note-same m n both.1 in
    (λ j. verdict.Read (fields j) (noted j))

-- the test holds exactly if they are the same
pub test_is : (v w : Verdict) (r : Bool) → r ≡ same_verdict v w → (IsTrue r ↔ (v ≡ w))
test_is v w r e = (λ t. verdict-same v w (sym e ∙ t), λ same. e ∙ ap (same_verdict v) (sym same) ∙ verdict-self v)

-- of the same frames nothing differs
pub none_change : (xs : List Shown) → FramesRise 0 xs → filter differs (sides_of xs xs) ≡ []
none_change xs h = none 0 xs h
  where
    none : (low : ℕ) (xs : List Shown) → FramesRise low xs → filter differs (sides_of xs xs) ≡ []
    none low [] h = refl
    none low (x ∷ xs) h =
        ap (filter differs) (step_both x x xs xs refl (omega arith, h.1))
        ∙ ap (λ v. cond (not v) (record { before = Some x; after = Some x } ∷ filter differs (sides_of xs xs)) (filter differs (sides_of xs xs)))
        (verdict-self x.verdict)
        ∙ none (x.rise + 1) xs h.1
