use Rattle.std.proofs.Common.{rules, ◌≡◌, ◌++◌, ◌∷◌, [], ℕ, Bool, false, Option, Some, None, length, drop, refl, ap, ◌∙◌, append_assoc, arith}
use Rattle.std.proofs.Math.Seq.{drop-append_seam}
use Rattle.std.specs.Prelude.{is_some, option_map, unwrap_or}
use Rattle.irig_track.specs.Looks.{counted}
use Rattle.irig_stamps.specs.Looks.{begins}
use Rattle.irig_stamps.specs.{Numbers.capped, Numbers.number_in, Stamps.picos_in, StampTexts.stamp_text}
use Rattle.irig_stamps.specs.{declared.look.Look.Look, declared.picos.Picos.Picos}
use Rattle.irig_print.proofs.Known.{rest_whole}
use Rattle.irig_stamps.proofs.stamping.put_stamped.Goals as goal

-- a number that is too great for its bits is a number
some-capped : (v : Option Picos) → is_some (option_map capped v) ≡ is_some v
some-capped None = refl
some-capped (Some v) = refl

abbrev look : ℕ → Option ℕ → Bool → Bool → Option ℕ → Look
look k w n t m = record {
  number = k;
  width = w;
  header = false;
  other_unit = false;
  numbered = n;
  timed = t;
  moment = m;
}

same-look : (k k' : ℕ) (w w' : Option ℕ) (n n' t t' : Bool) (m m' : Option ℕ) → k ≡ k' → w ≡ w' → n ≡ n' → t ≡ t' → m ≡ m'
    → look k w n t m ≡ look k' w' n' t' m'
same-look k k' w w' n n' t t' m m' o u p q r = λ i. look (o i) (u i) (p i) (q i) (r i)

pub returns-clause-stamped : goal.returns-clause-stamped
returns-clause-stamped c =
    let s = c.args.settings.now in
    let old = c.args.text.now.items in
    let v = picos_in s c.args.line.now in
    let word = stamp_text s c.stamp_of-stamp.result in
    let tail = unwrap_or s.comma 9 ∷ c.args.line.now ++ 10 ∷ [] in
    let out = word ++ tail in
    let number : c.number-number.result ≡ option_map capped v =
    c.number-number.ensures ∙ ap (λ t. option_map capped (number_in s.places t)) c.column-column.ensures in
    let text : c.put_separated.new.text.items ≡ old ++ out =
    c.in_ok-put_separated.ensures ∙ (ap (λ t. t ++ tail) c.in_ok-put_stamp.ensures ∙ append_assoc old word tail) in
    let all = c.deref.result.now in
    let start : c.len-start.result ≡ length old = search rules in
    let after : drop c.len-start.result all ≡ out =
    ap (λ n. drop n all) start ∙ (ap (λ t. drop (length old) t) (c.deref.ensures.value ∙ text) ∙ drop-append_seam old out) in
    let timed : c.begins.result ≡ begins out = c.begins.ensures ∙ ap begins (rest_whole all c.len-start.result ∙ after) in
    let is = c.stamp_of-stamp.ensures.word v number in
    let line : c.saturating_add.result ≡ counted c.args.count 1 = omega (arith, c.saturating_add.ensures) in
    let numbered : c.is_some.result ≡ is_some v = c.is_some.ensures ∙ (ap (λ o. is_some o) number ∙ some-capped v) in (
      out,
      record {
        word = word;
        is_word = is;
        is_true = c.printed_times_are_true.ensures.words c.args.format c.args.pulses.now.track.pulses s v word is;
        whole = refl;
      },
      text,
      same-look _ _ _ _ _ _ _ _ _ _ line c.width.ensures numbered timed (c.moment_of.ensures v number),
    )
