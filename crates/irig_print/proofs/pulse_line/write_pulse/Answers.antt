use Rattle.std.proofs.Common.{rules, ◌≡◌, ◌-◌, ◌++◌, ◌∷◌, [], ℕ, List, drop, decimal, ap, sym, ◌∙◌, append_assoc, arith}
use Rattle.irig_codes.specs.{Width.class_of, Words.class_word}
use Rattle.irig_print.proofs.pulse_line.write_pulse.Goals as goal

-- a part of a line that goes from after it to its end
joined : (x y z : List ℕ) (d : ℕ) → x ++ (y ++ d ∷ z) ≡ (x ++ y ++ d ∷ []) ++ z
joined x y z d = sym (append_assoc x y (d ∷ z)) ∙ sym (append_assoc (x ++ y) (d ∷ []) z)

-- a line in front of a text, part by part
line_before : (a b c w z : List ℕ) → a ++ 32 ∷ (b ++ 32 ∷ (c ++ 32 ∷ (w ++ 10 ∷ z))) ≡ a ++ 32 ∷ [] ++ b ++ 32 ∷ [] ++ c ++ 32 ∷ [] ++ w ++ 10 ∷ [] ++ z
line_before a b c w z =
    sym (append_assoc a (32 ∷ []) (b ++ 32 ∷ (c ++ 32 ∷ (w ++ 10 ∷ z))))
    ∙ joined (a ++ 32 ∷ []) b (c ++ 32 ∷ (w ++ 10 ∷ z)) 32
    ∙ joined (a ++ 32 ∷ [] ++ b ++ 32 ∷ []) c (w ++ 10 ∷ z) 32
    ∙ joined (a ++ 32 ∷ [] ++ b ++ 32 ∷ [] ++ c ++ 32 ∷ []) w z 10

pub write_number-requires : goal.write_number-requires
write_number-requires c = (
  omega (arith, c.requires.0, c.write_class-word.ensures.start.0, c.write_number-fall.ensures.start.0, c.write_number-rise.ensures.start.0),
  omega (arith, c.write_number-rise.ensures.start.1, c.write_number-rise.ensures.long),
)

pub returns-clause-start : goal.returns-clause-start
returns-clause-start c = (
  omega (arith, c.write_class-word.ensures.start.0, c.write_number-fall.ensures.start.0, c.write_number-rise.ensures.start.0, c.write_number.ensures.start.0),
  omega (arith, c.write_class-word.ensures.long, c.write_number-fall.ensures.long, c.write_number-rise.ensures.long, c.write_number.ensures.start.1),
)

pub returns-clause-written : goal.returns-clause-written
returns-clause-written c =
    let p = c.args.pulse in
    let behind = drop c.args.end c.args.bytes.now in
    let same : c.class-class.result ≡ class_of c.args.format (p.fall - p.rise) = search rules in
    c.write_number.ensures.written
    ∙ ap (λ l. decimal c.args.number ++ 32 ∷ l) (c.write_number-rise.ensures.written
    ∙ ap (λ l. decimal p.rise ++ 32 ∷ l) (c.write_number-fall.ensures.written
    ∙ ap (λ l. decimal p.fall ++ 32 ∷ l) (c.write_class-word.ensures.written
    ∙ ap (λ e. class_word e ++ 10 ∷ behind) same)))
    ∙ line_before (decimal c.args.number) (decimal p.rise) (decimal p.fall) (class_word (class_of c.args.format (p.fall - p.rise))) behind
