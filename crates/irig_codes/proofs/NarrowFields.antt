-- The numbers of a frame that was read are no larger than the weights of their rows together.
use Rattle.std.proofs.Common.{ℕ, ◌+◌, ◌≤◌, ◌-◌, ◌^◌, Bool, true, false, cond, List, [], ◌∷◌, unwrap_or, arith}
use Rattle.irig_codes.specs.Format.{FormatView, has_hundredths, has_control, has_sbs, has_year, carries_sbs}
use Rattle.irig_codes.specs.declared.format.Kind.TheVariants.{A, B, E, G}
use Rattle.irig_codes.specs.declared.note.Name.TheVariants.{Hundredths, Seconds, Minutes, Hours, Days, Year}
use Rattle.irig_codes.specs.{Fields.part, Layout.decimal, Layout.sbs, Layout.control, Layout.rows_of, Layout.table, Runs.Row, Narrow.AreNarrow}
use Rattle.irig_codes.specs.{Reading.fields_read, Reading.is_one, Reading.sum_of, Reading.value_of, declared.format.Kind.Kind, declared.width.Element.Element}

-- the weights of rows together
abbrev total : List Row → ℕ
total [] = 0
total (r ∷ rs) = r.weight + total rs

cond-le : (b : Bool) (w : ℕ) → cond b w 0 ≤ w
cond-le true w = omega arith
cond-le false w = omega arith

sum_of-le : (es : List Element) (rs : List Row) → sum_of es rs ≤ total rs
sum_of-le es [] = omega arith
sum_of-le es (r ∷ rs) = omega (arith, cond-le (is_one es r.element) r.weight, sum_of-le es rs)

part-le : (there : Bool) (v n : ℕ) → v ≤ n → unwrap_or (part there v) 0 ≤ n
part-le true v n le = le
part-le false v n le = omega arith

total-hundredths : (k : Kind) (c s y : Bool) → total (table k c s y (decimal Hundredths)) ≤ 165
total-hundredths A c s y = omega arith
total-hundredths B c s y = omega arith
total-hundredths E c s y = omega arith
total-hundredths G c s y = omega arith

total-seconds : (k : Kind) (c s y : Bool) → total (table k c s y (decimal Seconds)) ≤ 85
total-seconds A c s y = omega arith
total-seconds B c s y = omega arith
total-seconds E c s y = omega arith
total-seconds G c s y = omega arith

total-year : (k : Kind) (c s y : Bool) → total (table k c s y (decimal Year)) ≤ 165
total-year k c s false = omega arith
total-year A c s true = omega arith
total-year B c s true = omega arith
total-year E c s true = omega arith
total-year G c s true = omega arith

total-sbs : (k : Kind) (c s y : Bool) → total (table k c s y sbs) ≤ 2 ^ 17 - 1
total-sbs k c false y = omega arith
total-sbs A c true y = omega arith
total-sbs B c true y = omega arith
total-sbs E c true y = omega arith
total-sbs G c true y = omega arith

total-control : (k : Kind) (c s y : Bool) → total (table k c s y control) ≤ 2 ^ 45 - 1
total-control k false s y = omega arith
total-control A true s false = omega arith
total-control A true s true = omega arith
total-control B true s false = omega arith
total-control B true s true = omega arith
total-control E true s false = omega arith
total-control E true s true = omega arith
total-control G true s false = omega arith
total-control G true s true = omega arith

-- what is read of a frame is narrow
pub narrow-fields_read : (f : FormatView) (es : List Element) → AreNarrow (fields_read f es)
narrow-fields_read f es =
    let k = f.kind in
    let c = has_control f.expression in
    let s = has_sbs f.expression in
    let y = has_year f.expression in
    let hundredths : value_of f es (decimal Hundredths) ≤ 165 =
    omega (arith, sum_of-le es (rows_of f (decimal Hundredths)), total-hundredths k c s y) in
    let seconds : value_of f es (decimal Seconds) ≤ 85 = omega (arith, sum_of-le es (rows_of f (decimal Seconds)), total-seconds k c s y) in
    let year : value_of f es (decimal Year) ≤ 165 = omega (arith, sum_of-le es (rows_of f (decimal Year)), total-year k c s y) in
    let binary : value_of f es sbs ≤ 2 ^ 17 - 1 = omega (arith, sum_of-le es (rows_of f sbs), total-sbs k c s y) in
    let functions : value_of f es control ≤ 2 ^ 45 - 1 = omega (arith, sum_of-le es (rows_of f control), total-control k c s y) in
    record {
      hundredths = part-le (has_hundredths k) (value_of f es (decimal Hundredths)) 165 hundredths;
      seconds = seconds;
      minutes = sum_of-le es (rows_of f (decimal Minutes));
      hours = sum_of-le es (rows_of f (decimal Hours));
      days = sum_of-le es (rows_of f (decimal Days));
      year = part-le y (value_of f es (decimal Year)) 165 year;
      sbs = omega (arith, part-le (carries_sbs k f.expression) (value_of f es sbs) (2 ^ 17 - 1) binary);
      control = omega (arith, part-le c (value_of f es control) (2 ^ 45 - 1) functions);
    }
