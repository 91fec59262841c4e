-- What stops one part stops another of the same lines.
use Rattle.std.proofs.Common.{◌≡◌, ◌≤◌, ◌+◌, ◌++◌, ◌∷◌, ℕ, suc, List, length, take, refl, sym, ap, ◌∙◌, append_assoc, arith, inl, inr, ◌⊎◌, subst, Result, Ok}
use Rattle.std.proofs.Common.{Err}
use Rattle.std.specs.Borrow.{Bor}
use Rattle.irig_saved.specs.Reading.{Reads, Stops, Lacks, IsStop, Parses}
use Rattle.irig_saved.specs.{Lines.text_of, declared.stop.Stop.Stop, declared.stop.Stop.TheVariants.At, declared.stop.Stop.TheVariants.Memory}
use Rattle.irig_saved.proofs.Bytes.{cut_at, not_lacking}

-- a text begins otherwise than with the first of these lines
pub record Differs (text : List ℕ) (ls : List (List ℕ)) : Type 0 where
  pub first : List ℕ
  pub others : List (List ℕ)
  pub lines : ls ≡ first ∷ others
  pub apart : (next : List ℕ) → text ≡ first ++ 10 ∷ next → ⊥

-- so it begins with none of them
pub not_whole : (text : List ℕ) (ls : List (List ℕ)) (more : List ℕ) → Differs text ls → text ≡ text_of ls ++ more → ⊥
not_whole text ls more d e =
    d.apart (text_of d.others ++ more)
    (e ∙ ap (λ (l : List (List ℕ)). text_of l ++ more) d.lines ∙ append_assoc d.first (10 ∷ text_of d.others) more)

pub not_some : (text : List ℕ) (ls : List (List ℕ)) (n : ℕ) (more : List ℕ) → Differs text ls → text ≡ text_of (take (n + 1) ls) ++ more → ⊥
not_some text ls n more d e =
    let next : n + 1 ≡ suc n = omega arith in
    d.apart (text_of (take n d.others) ++ more)
    (e ∙ ap (λ k. text_of (take k ls) ++ more) next ∙ ap (λ (l : List (List ℕ)). text_of (take (suc n) l) ++ more) d.lines
    ∙ append_assoc d.first (10 ∷ text_of (take n d.others)) more)

-- if the first line is at fault
pub first_line_stops : {X : Type 0} (Is : X → Type 0) (lines : X → List (List ℕ)) (text : List ℕ) (some : X) → Is some
    → ((x : X) → Is x → Differs text (lines x)) → Stops Is lines text text
first_line_stops Is lines text some lawful differs = record {
  n = 0;
  part = some;
  lawful = lawful;
  there = omega arith;
  same = refl;
  wrong = λ x more h few e. not_some text (lines x) 0 more (differs x h) e;
  refused = λ x more h e. not_whole text (lines x) more (differs x h) e;
}

-- a line that is not the first of these
pub other_line : (text line next first : List ℕ) (others : List (List ℕ)) → text ≡ line ++ 10 ∷ next → Lacks 10 line → Lacks 10 first
    → (line ≡ first → ⊥) → Differs text (first ∷ others)
other_line text line next first others cut whole clean not = record {
  first = first;
  others = others;
  lines = refl;
  apart = λ more e. not (cut_at 10 line first next more whole clean (sym cut ∙ e)).0;
}

-- a text without a line
pub lineless : (text first : List ℕ) (others : List (List ℕ)) → Lacks 10 text → Differs text (first ∷ others)
lineless text first others lacks = record {
  first = first;
  others = others;
  lines = refl;
  apart = λ more e. let P : List ℕ → Type 0 = λ l. Lacks 10 l in not_lacking 10 first more (subst P e lacks);
}

-- each of the one has the lines of some of the other, and each other begins otherwise
pub carried : {X Z : Type 0} (IsX : X → Type 0) (IsZ : Z → Type 0) (xs : X → List (List ℕ)) (zs : Z → List (List ℕ)) (text rest : List ℕ)
    → ((x : X) → IsX x → (z : Z) × IsZ z × (zs z ≡ xs x))
    → ((z : Z) → IsZ z → ((x : X) × IsX x × (xs x ≡ zs z)) ⊎ Differs text (zs z))
    → Stops IsX xs text rest → Stops IsZ zs text rest
carried {X} {Z} IsX IsZ xs zs text rest to from s =
    let z = to s.part s.lawful in
    record {
      n = s.n;
      part = z.0;
      lawful = z.1;
      there = let more : s.n ≤ length (xs s.part) = s.there in omega (arith, more, ap length z.2);
      same = s.same ∙ ap (λ (l : List (List ℕ)). text_of (take s.n l) ++ rest) (sym z.2);
      wrong = λ y more h few e. elim (from y h) as (λ _. ⊥) [
        | inl x ↦ s.wrong x.0 more x.1 (omega (arith, few, ap length x.2)) (e ∙ ap (λ (l : List (List ℕ)). text_of (take (s.n + 1) l) ++ more) (sym x.2))
        | inr d ↦ not_some text (zs y) s.n more d e
      ];
      refused = λ y more h e. elim (from y h) as (λ _. ⊥) [
        | inl x ↦ s.refused x.0 more x.1 (e ∙ ap (λ (l : List (List ℕ)). text_of l ++ more) (sym x.2))
        | inr d ↦ not_whole text (zs y) more d e
      ];
    }

-- if one part stops and another stops there, so do their readings
pub stopped : {P Q : List ℕ → Type 0} {M N : Type 0} (stop : Stop) → ((rest : List ℕ) → P rest → Q rest) → (M → N)
    → IsStop P M stop → IsStop Q N stop
stopped (At rest) f out h = f rest.now h
stopped Memory f out h = out h

-- what is read of one part is read of another
pub reparsed : {X : Type 0} (IsX IsY : X → Type 0) (xs ys : X → List (List ℕ)) (OutX OutY : List ℕ → Type 0) (text mid : List ℕ)
    (r : Result (X × Bor (List ℕ)) Stop)
    → ((x : X) (rest : List ℕ) → Reads IsX xs mid x rest → Reads IsY ys text x rest)
    → ((rest : List ℕ) → Stops IsX xs mid rest → Stops IsY ys text rest)
    → (OutX mid → OutY text) → Parses IsX xs OutX mid r → Parses IsY ys OutY text r
reparsed IsX IsY xs ys OutX OutY text mid (Ok p) reads stops out h = reads p.0 p.1.now h
reparsed IsX IsY xs ys OutX OutY text mid (Err stop) reads stops out h = stopped stop stops out h
