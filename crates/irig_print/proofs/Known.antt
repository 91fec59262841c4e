-- Bytes that are known, over several calls.
use Rattle.std.proofs.Common.{[], ◌≡◌, ◌≢◌, ℕ, List, Option, ap, sym, ◌∙◌, subst, length, take, drop, ◌-◌, ◌+◌, ◌<◌, arith}
use Rattle.std.proofs.{Math.Seq.take-add, KnownBytes.Appends-trans}
use Rattle.std.proofs.lemmas.List.{length-drop, take_all}
use Rattle.std.specs.Io.KnownBytes.{Appends}

-- what is left of a text is all that is left
pub rest_whole : (l : List ℕ) (done : ℕ) → take (length l - done) (drop done l) ≡ drop done l
rest_whole l done = take_all (length l - done) (drop done l) (omega (arith, length-drop done l))

-- before the end of a text, what is left of it is not nothing
pub rest_some : (l : List ℕ) (done : ℕ) → done < length l → drop done l ≢ []
rest_some l done h = λ e. absurd (omega (arith, h, sym (length-drop done l) ∙ ap length e))

-- one more write, of n bytes of what is left
pub wrote_more : (a b c : Option (List ℕ)) (bytes : List ℕ) (done n : ℕ) → Appends a b (take done bytes)
    → Appends b c (take n (take (length bytes - done) (drop done bytes))) → Appends a c (take (done + n) bytes)
wrote_more a b c bytes done n p q =
    rw take-add (Appends-trans a b c (take done bytes) (take n (drop done bytes)) p
    (subst (λ (l : List ℕ). Appends b c (take n l)) (rest_whole bytes done) q))
