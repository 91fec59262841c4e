-- Listings of pulses, piece by piece.
use Rattle.std.proofs.Common.{◌≡◌, ◌+◌, ◌-◌, ◌≤◌, ◌++◌, ℕ, suc, zero, List, ◌∷◌, Option, Some, length, drop, take, get_or, slice_get, min, ap, sym, ◌∙◌, subst}
use Rattle.std.proofs.Common.{append_assoc, arith}
use Rattle.std.proofs.lemmas.{List.length-drop, List.take_min, Option.slice_get-get_or}
use Rattle.std.proofs.KnownBytes.{Appends-trans}
use Rattle.std.specs.Io.KnownBytes.{Appends}
use Rattle.irig_recording.specs.declared.pulse.Pulse.{Pulse}
use Rattle.irig_track.specs.{Edges.pulse, Splices.piece}
use Rattle.irig_track.proofs.Items.{drop-item}
use Rattle.irig_edit.specs.State.State.{State}
use Rattle.irig_script.specs.Print.Listings.{list_text}
use Rattle.irig_print.specs.{Front.AppendsFront, Numbered.numbered, PulseLine.pulse_line}
use Rattle.irig_lines.proofs.WordLemmas.{rest_whole}
use Rattle.irig_print.proofs.Blocks.{front_behind, front_longer}

-- the first line of a listing, and those after it
listing_opened : (s : State) (m k : ℕ) (p : Pulse) → slice_get s.pulses m ≡ Some p → list_text m (suc k) s ≡ pulse_line s.format (m + 1) p
    ++ list_text (m + 1) k s
listing_opened s m k p e =
    let up : suc (m + 1) ≡ m + 1 + 1 = omega arith in
    let pulses : piece m (suc k) s.pulses ≡ p ∷ piece (m + 1) k s.pulses = ap (take (suc k)) (drop-item s.pulses m p e) in
    ap (numbered (pulse_line s.format) (m + 1)) pulses
    ∙ ap (λ n. pulse_line s.format (m + 1) p ++ numbered (pulse_line s.format) n (piece (m + 1) k s.pulses)) up

-- one more line in front of a listing
pub listing_before : (s : State) (n m k : ℕ) (p : Pulse) → n ≡ m + 1 → slice_get s.pulses (n - 1) ≡ Some p
    → pulse_line s.format n p ++ list_text n k s ≡ list_text m (k + 1) s
listing_before s n m k p h e =
    let place : n - 1 ≡ m = omega (arith, h) in
    let count : suc k ≡ k + 1 = omega arith in
    ap (λ j. pulse_line s.format j p ++ list_text j k s) h
    ∙ sym (listing_opened s m k p (ap (slice_get s.pulses) (sym place) ∙ e))
    ∙ ap (λ j. list_text m j s) count

-- a listing after another
listings_joined : (s : State) (m d k : ℕ) → m + d ≤ length s.pulses → list_text m d s ++ list_text (m + d) k s ≡ list_text m (d + k) s
listings_joined s m zero k h =
    let here : m + 0 ≡ m = omega arith in
    let count : k ≡ 0 + k = omega arith in
    ap (λ n. list_text n k s) here ∙ ap (λ n. list_text m n s) count
listings_joined s m (suc d) k h =
    let p = get_or s.pulses m (pulse 0 0) in
    let there : slice_get s.pulses m ≡ Some p = slice_get-get_or s.pulses m (pulse 0 0) (omega (arith, h)) in
    let first = pulse_line s.format (m + 1) p in
    let rest = listings_joined s (m + 1) d k (omega (arith, h)) in
    let place : m + suc d ≡ m + 1 + d = omega arith in
    let count : suc (d + k) ≡ suc d + k = omega arith in
    ap (λ l. l ++ list_text (m + suc d) k s) (listing_opened s m d p there)
    ∙ append_assoc first (list_text (m + 1) d s) (list_text (m + suc d) k s)
    ∙ ap (λ n. first ++ (list_text (m + 1) d s ++ list_text n k s)) place
    ∙ ap (λ l. first ++ l) rest
    ∙ sym (listing_opened s m (d + k) p there)
    ∙ ap (λ n. list_text m n s) count

-- the lines at the end of a block
pub piece_written : (s : State) (m k start : ℕ) (bytes : List ℕ) → drop start bytes ≡ list_text (m + k - k) k s
    → take (length bytes - start) (drop start bytes) ≡ list_text m k s
piece_written s m k start bytes h = let place : m + k - k ≡ m = omega arith in rest_whole bytes start ∙ h ∙ ap (λ n. list_text n k s) place

-- one more piece was printed
pub listing_more : (s : State) (m d k : ℕ) (a b c : Option (List ℕ)) → m + d ≤ length s.pulses → Appends a b (list_text m d s)
    → Appends b c (list_text (m + d) k s) → Appends a c (list_text m (d + k) s)
listing_more s m d k a b c h p q =
    subst (λ (t : List ℕ). Appends a c t) (listings_joined s m d k h) (Appends-trans a b c (list_text m d s) (list_text (m + d) k s) p q)

-- the same, if the printing failed
pub listing_front : (s : State) (m d k n : ℕ) (a b c : Option (List ℕ)) → m + (d + k) ≤ length s.pulses → d + k ≤ n → Appends a b (list_text m d s)
    → AppendsFront b c (list_text (m + d) k s) → AppendsFront a c (list_text m n s)
listing_front s m d k n a b c h le p q =
    let upto = subst (λ (t : List ℕ). AppendsFront a c t) (listings_joined s m d k (omega (arith, h)))
    (front_behind a b c (list_text m d s) (list_text (m + d) k s) p q) in
    let count : d + k + (n - (d + k)) ≡ n = omega (arith, le) in
    subst (λ (t : List ℕ). AppendsFront a c t) (listings_joined s m (d + k) (n - (d + k)) h ∙ ap (λ j. list_text m j s) count)
    (front_longer a c (list_text m (d + k) s) (list_text (m + (d + k)) (n - (d + k)) s) upto)

-- a listing of more pulses than there are lists all that there are
pub listing_whole : (s : State) (m n : ℕ) → list_text m (min n (length s.pulses - m)) s ≡ list_text m n s
listing_whole s m n =
    ap (numbered (pulse_line s.format) (m + 1)) (ap (λ k. take (min n k) (drop m s.pulses)) (sym (length-drop m s.pulses)) ∙ take_min n (drop m s.pulses))
