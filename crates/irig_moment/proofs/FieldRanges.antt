-- The fields of a generated frame fit its format.
use Rattle.std.proofs.Common.{◌≡◌, ℕ, ◌+◌, ◌*◌, ◌/◌, ◌%◌, ◌^◌, ◌<◌, ◌≤◌, nat_le, nat_lt, true, Option, refl, mul-le-mul, arith}
use Rattle.std.proofs.lemmas.Bool.{and_from, eq-eqb, le-leb, lt-ltb}
use Rattle.irig_codes.specs.Format.{FormatView, frame_period_of, has_hundredths, has_control, has_year, carries_sbs, control_count_of}
use Rattle.irig_codes.specs.declared.format.Kind.TheVariants.{A, B, E, G}
use Rattle.irig_codes.specs.declared.note.Name.TheVariants.{Hundredths, Seconds}
use Rattle.irig_codes.specs.{Fields.fits_in, Fields.fits_part, Fields.is_in_range, Fields.part, declared.format.Kind.Kind, declared.fields.Fields.Fields}
use Rattle.irig_codes.proofs.FieldLemmas.{fits_part-part}
use Rattle.irig_moment.specs.Generated.{period_of}

hundredths-fit : (k : Kind) (t : ℕ) → t % 6000 % (frame_period_of k / 10000) ≡ 0
    → fits_part (has_hundredths k) (is_in_range k Hundredths) (part (has_hundredths k) (t % 100)) ≡ true
hundredths-fit A t h = and_from _ _ (le-leb (t % 100) 99 (omega arith)) (eq-eqb (t % 100 % 10) 0 (omega arith))
hundredths-fit B t h = refl
hundredths-fit E t h = refl
hundredths-fit G t h = and_from _ _ (le-leb (t % 100) 99 (omega arith)) (eq-eqb (t % 100 % 1) 0 (omega arith))

seconds-fit : (k : Kind) (t : ℕ) → t % 6000 % (frame_period_of k / 10000) ≡ 0 → is_in_range k Seconds (t / 100 % 60) ≡ true
seconds-fit A t h = and_from _ _ (le-leb (t / 100 % 60) 60 (omega arith)) (eq-eqb (t / 100 % 60 % 1) 0 (omega arith))
seconds-fit B t h = and_from _ _ (le-leb (t / 100 % 60) 60 (omega arith)) (eq-eqb (t / 100 % 60 % 1) 0 (omega arith))
seconds-fit E t h = and_from _ _ (le-leb (t / 100 % 60) 60 (omega arith)) (eq-eqb (t / 100 % 60 % 10) 0 (omega arith))
seconds-fit G t h = and_from _ _ (le-leb (t / 100 % 60) 60 (omega arith)) (eq-eqb (t / 100 % 60 % 1) 0 (omega arith))

pub fields-fit : (f : FormatView) (t place year control : ℕ) → t < 8640000 → t % 6000 % period_of f ≡ 0 → 1 ≤ place → place ≤ 366
    → control < 2 ^ control_count_of f →
    (let g : Fields = record {
      hundredths = part (has_hundredths f.kind) (t % 100);
      seconds = t / 100 % 60;
      minutes = t / 6000 % 60;
      hours = t / 360000;
      days =
          place;
      year = part (has_year f.expression) (year % 100);
      sbs = part (carries_sbs f.kind f.expression) (t / 100);
      control =
          part (has_control f.expression) control;
    } in fits_in f g ≡ true)
fields-fit f t place year control h s p q c =
    and_from _ _ (hundredths-fit f.kind t s)
    (and_from _ _ (seconds-fit f.kind t s)
    (and_from _ _ (le-leb (t / 6000 % 60) 59 (omega arith))
    (and_from _ _ (le-leb (t / 360000) 23 (omega arith))
    (and_from _ _ (and_from _ _ (le-leb 1 place p) (le-leb place 366 q))
    (and_from _ _ (fits_part-part (has_year f.expression) (λ v. nat_le v 99) (year % 100) (le-leb (year % 100) 99 (omega arith)))
    (and_from _ _ (fits_part-part (carries_sbs f.kind f.expression) (λ v. nat_le v 86400) (t / 100) (le-leb (t / 100) 86400 (omega arith)))
    (fits_part-part (has_control f.expression) (λ v. nat_lt v (2 ^ control_count_of f)) control (lt-ltb control (2 ^ control_count_of f) c))))))))

pub parts-fit : (f : FormatView) (t place year control : ℕ) (h y b o : Option ℕ) → t < 8640000 → t % 6000 % period_of f ≡ 0 → 1 ≤ place → place ≤ 366
    → control < 2 ^ control_count_of f →
    h ≡ part (has_hundredths f.kind) (t % 100) → y ≡ part (has_year f.expression) (year % 100) → b ≡ part (carries_sbs f.kind f.expression) (t / 100)
    → o ≡ part (has_control f.expression) control →
    (let g : Fields = record {
      hundredths = h;
      seconds = t / 100 % 60;
      minutes = t / 6000 % 60;
      hours = t / 360000;
      days = place;
      year = y;
      sbs = b;
      control =
          o;
    } in fits_in f g ≡ true)
parts-fit f t place year control h y b o s p q r c eh ey eb eo = rw (eh, ey, eb, eo) (fields-fit f t place year control s p q r c)

-- how far a frame can lie from midnight
pub elapsed-small : (h k p : ℕ) → h < 8640000 → k < 10000 → p ≤ 1000 → h + k * p < 18640000
elapsed-small h k p a b c =
    let most : k * p ≤ 9999 * 1000 = mul-le-mul {n₁ = k} {m₁ = p} {n₂ = 9999} {m₂ = 1000} (omega arith) c in
    omega (arith, a, most)
