-- What the stretches of a recording say of its pulses, part by part.
use Rattle.std.proofs.Common.{◌≡◌, inl, inr, ◌<◌, ◌≤◌, ◌+◌, ◌-◌, ℕ, suc, zero, List, length, slice_get, get_or, Option, Some, None, arith, refl, sym, ap, ◌∙◌, subst}
use Rattle.std.specs.Prelude.{◌↔◌}
use Rattle.std.proofs.lemmas.Bool.{cases_lt}
use Rattle.std.proofs.lemmas.Option.{same_Some, slice_get-get_or, slice_get_past, slice_get_within}
use Rattle.irig_codes.specs.Format.{FormatView}
use Rattle.irig_recording.specs.declared.pulse.Pulse.{Pulse}
use Rattle.irig_times.specs.TimedElements.{time_elements}
use Rattle.irig_law.specs.{Ends.IsAfterLast, Ends.IsBeforeFirst, Law.IsBetween, Stretches.stretch}
use Rattle.irig_law.specs.Points.{AreJoined, ArePoints, AreSaid, Knows, points_end, marker_or, part_begin}
use Rattle.irig_law.specs.Points.{AreFrames, IsPoint, IsSaid}
use Rattle.irig_law.specs.declared.{frame.Frame.Frame, point.Point.Point, points.Points.Points}

-- an earlier frame has an earlier marker
in-order : (ps : List Pulse) (frames : List Frame) → AreFrames ps frames → (i d : ℕ) (p q : Frame) → slice_get frames i ≡ Some p
    → slice_get frames (i + d) ≡ Some q → p.marker ≤ q.marker
in-order ps frames are i zero p q at at_too =
    let zeroed : i + 0 ≡ i = omega arith in
    let same : p ≡ q = same_Some p q (sym at ∙ (ap (λ (j : ℕ). slice_get frames j) (sym zeroed) ∙ at_too)) in
    let markers = ap (λ (p : Frame). p.marker) same in omega (arith, markers)
in-order ps frames are i (suc d) p q at at_too =
    let inside = slice_get_within frames (i + suc d) q at_too in
    let there = slice_get-get_or frames (i + d) p (omega (arith, inside)) in
    let next : i + suc d ≡ i + d + 1 = omega arith in
    let low = in-order ps frames are i d p (get_or frames (i + d) p) at there in
    let high = are.order (i + d) (get_or frames (i + d) p) q there (ap (λ (j : ℕ). slice_get frames j) (sym next) ∙ at_too) in
    omega (arith, low, high)

module _ (ps : List Pulse) (frames : List Frame) where
  up-to : (i j : ℕ) (p q : Frame) → AreFrames ps frames → i ≤ j → slice_get frames i ≡ Some p → slice_get frames j ≡ Some q → p.marker ≤ q.marker
  up-to i j p q are le at at_too =
      let sum : i + (j - i) ≡ j = omega (arith, le) in in-order ps frames are i (j - i) p q at (ap (λ (j : ℕ). slice_get frames j) sum ∙ at_too)

  -- where parts begin
  pub begins-at : (n : ℕ) (a : Frame) → slice_get frames n ≡ Some a → part_begin (length ps) frames (n + 1) ≡ a.marker
  begins-at n a at = let e : n + 1 ≡ suc n = omega arith in ap (part_begin (length ps) frames) e ∙ ap (marker_or (length ps)) at

  begins-last : (n : ℕ) → slice_get frames n ≡ None → part_begin (length ps) frames (n + 1) ≡ length ps
  begins-last n none = let e : n + 1 ≡ suc n = omega arith in ap (part_begin (length ps) frames) e ∙ ap (marker_or (length ps)) none

  pub begins-end : part_begin (length ps) frames (length frames + 1) ≡ length ps
  begins-end = begins-last (length frames) (slice_get_past frames (length frames) (omega arith))

  -- a part begins before the frame after it
  begins-low : AreFrames ps frames → (n : ℕ) (a : Frame) → slice_get frames n ≡ Some a → part_begin (length ps) frames n ≤ a.marker
  begins-low are zero a at = omega arith
  begins-low are (suc n) a at =
      let inside = slice_get_within frames (suc n) a at in
      let there = slice_get-get_or frames n a (omega (arith, inside)) in
      let next : n + 1 ≡ suc n = omega arith in
      let low = are.order n (get_or frames n a) a there (ap (λ (j : ℕ). slice_get frames j) next ∙ at) in
      let begin : part_begin (length ps) frames (suc n) ≡ (get_or frames n a).marker = ap (marker_or (length ps)) there in
      omega (arith, low, begin)

  -- and where it ends
  begins-in : AreFrames ps frames → (n : ℕ) (o : Option Frame) → slice_get frames n ≡ o → marker_or (length ps) o ≤ length ps
  begins-in are n None none = omega arith
  begins-in are n (Some a) at = let inside = are.inside n a at in omega (arith, inside)

  pub begins-inside : AreFrames ps frames → (n : ℕ) → part_begin (length ps) frames n ≤ length ps
  begins-inside are zero = omega arith
  begins-inside are (suc n) = begins-in are n (slice_get frames n) refl

  pub begins-rise : AreFrames ps frames → (n : ℕ) → part_begin (length ps) frames n ≤ part_begin (length ps) frames (n + 1)
  begins-rise are n = go (slice_get frames n) refl
    where
      go : (o : Option Frame) → slice_get frames n ≡ o → part_begin (length ps) frames n ≤ part_begin (length ps) frames (n + 1)
      go None none = let all = begins-last n none in let inside = begins-inside are n in omega (arith, all, inside)
      go (Some a) at = let begin = begins-at n a at in let low = begins-low are n a at in omega (arith, begin, low)

module _ (f : FormatView) (century : ℕ) (ps : List Pulse) (frames : List Frame) where
  -- up to the first frame
  pub said-first : (b : Frame) (p : Points) → slice_get frames 0 ≡ Some b → p.from ≡ b.marker - 100 → points_end p ≡ b.marker + time_elements f.kind
      → ((i : ℕ) (x : Point) → (slice_get p.list.items i ≡ Some (Some x)) ↔ IsBeforeFirst f ps b (p.from + i) x) → AreSaid f century ps frames 0 p
  said-first b p at first many says = record {
    last = b;
    there = at;
    from = omega (arith, first);
    long = many;
    said = λ k x low inside. (
      λ known. record {
        begin = λ c there few. (let same : b ≡ c = same_Some b c (sym at ∙ there) in
            let from = known.from in
            let place : p.from + (k - p.from) ≡ k = omega (arith, from) in
            subst (λ (q : Frame). IsBeforeFirst f ps q k x) same
            (subst (λ (j : ℕ). IsBeforeFirst f ps b j x) place ((says (k - p.from) x).0 known.is)));
        between = λ i a c less. absurd (omega (arith, less));
      },
      λ h. (let is = h.begin b at (omega (arith, inside, many)) in
          let few = is.few in
          let from : p.from ≤ k = omega (arith, few, first) in
          let place : k ≡ p.from + (k - p.from) = omega (arith, from) in
          record { from = from; is = (says (k - p.from) x).1 (subst (λ (j : ℕ). IsBeforeFirst f ps b j x) place is) }),
    );
  }

  module _ (are : AreFrames ps frames) (n : ℕ) (a : Frame) (at : slice_get frames n ≡ Some a) (p : Points)
      (said : AreSaid f century ps frames n p) where
    same-frame : said.last ≡ a
    same-frame = same_Some said.last a (sym said.there ∙ at)

    pub long-points : points_end p ≡ a.marker + time_elements f.kind
    long-points = said.long ∙ ap (λ (q : Frame). q.marker + time_elements f.kind) same-frame

    pub points-from : p.from ≤ a.marker
    points-from = let from = said.from in let markers = ap (λ (q : Frame). q.marker) same-frame in omega (arith, from, markers)

    -- no pulse before that frame is in another stretch
    pub said-points : ArePoints f century ps frames n p
    said-points k x low high =
        let begin = begins-at ps frames n a at in
        let less : k < a.marker = omega (arith, high, begin) in
        let is = said.said k x low (omega (arith, less, long-points)) in
        let room = are.inside n a at in
        let inside = slice_get_within frames n a at in (
          λ known. (let h = is.0 known in
              record {
                some = omega (arith, inside);
                inside = omega (arith, less, room);
                said = record {
                  begin = h.begin;
                  between = λ i b c few one other from to. elim (cases_lt (i + 1) (n + 1)) [
                    | inl early ↦ h.between i b c early one other from to
                    | inr late ↦ absurd (let order = up-to ps frames n i a b are (omega (arith, late)) at one in omega (arith, order, from, less))
                  ];
                };
                end = λ i b last there from. absurd (let order = up-to ps frames n i a b are (omega (arith, inside, last)) at there in
                    omega (arith, order, from, less));
              }),
          λ point. is.1 (record {
            begin = point.said.begin;
            between = λ i b c few. point.said.between i b c (omega (arith, few, inside));
          }),
        )

    -- no stretch so far goes further than the points
    all-said : (k : ℕ) (x : Point) → a.marker ≤ k → (k < points_end p → Knows p k x) → IsSaid f century ps frames (n + 1) k x
    all-said k x low known =
        let begin = begins-low ps frames are n a at in
        let is = λ (inside : k < points_end p). (said.said k x (omega (arith, begin, low)) inside).0 (known inside) in
        record {
          begin = λ b there few. (let order = up-to ps frames 0 n b a are (omega arith) there at in
              (is (omega (arith, order, few, long-points))).begin b there few);
          between = λ i b c less one other from to. (let order = up-to ps frames (i + 1) n c a are (omega (arith, less)) other at in
              (is (omega (arith, order, to, long-points))).between i b c less one other from to);
        }

    known-said : (k : ℕ) (x : Point) → a.marker ≤ k → IsSaid f century ps frames (n + 1) k x → k < points_end p → Knows p k x
    known-said k x low h inside = let begin = begins-low ps frames are n a at in (said.said k x (omega (arith, begin, low)) inside).1 h

    -- a stretch that begins with that frame, and points that are joined with it
    module _ (Says : ℕ → Point → Type 0) (more : List (Option Point)) (q : Points)
        (says : (i : ℕ) (x : Point) → (slice_get more i ≡ Some (Some x)) ↔ Says (a.marker + i) x) (from : q.from ≡ a.marker)
        (joined : AreJoined p a.marker more q.list.items (points_end p - a.marker)) where
      knows-both : (k : ℕ) (x : Point) → a.marker ≤ k → Knows q k x ↔ (Says k x × IsSaid f century ps frames (n + 1) k x)
      knows-both k x low =
          let i = k - a.marker in
          let place : a.marker + i ≡ k = omega (arith, low) in
          let index : k - q.from ≡ i = omega (arith, from) in
          let both = joined.joined i x in
          let stretch-says = subst (λ (j : ℕ). (slice_get more i ≡ Some (Some x)) ↔ Says j x) place (says i x) in
          let before = λ (h : i < points_end p - a.marker → Knows p (a.marker + i) x) (inside : k < points_end p).
          subst (λ (j : ℕ). Knows p j x) place (h (omega (arith, inside, low))) in (
            λ known. (let h = both.0 (ap (λ (j : ℕ). slice_get q.list.items j) (sym index) ∙ known.is) in
                (stretch-says.0 h.0, all-said k x low (before h.1))),
            λ h. record {
              from = omega (arith, from, low);
              is = ap (λ (j : ℕ). slice_get q.list.items j) index ∙ both.1 (
                stretch-says.1 h.0,
                λ inside. subst (λ (j : ℕ). Knows p j x) (sym place) (known-said k x low h.1 (omega (arith, inside, low))),
              );
            },
          )

    -- one frame more
    module _ (b : Frame) (next-at : slice_get frames (n + 1) ≡ Some b) (more : List (Option Point)) (q : Points)
        (says : (i : ℕ) (x : Point) → (slice_get more i ≡ Some (Some x)) ↔ IsBetween f century ps a b (a.marker + i) x)
        (many : length more ≡ stretch f a b) (from : q.from ≡ a.marker)
        (joined : AreJoined p a.marker more q.list.items (points_end p - a.marker)) where
      order : a.marker < b.marker
      order = are.order n a b at next-at

      end : points_end q ≡ b.marker + time_elements f.kind
      end = let long = joined.long in omega (arith, from, long, many, order)

      with-next : (k : ℕ) (x : Point) → IsBetween f century ps a b k x → IsSaid f century ps frames (n + 1) k x
          → IsSaid f century ps frames (n + 1 + 1) k x
      with-next k x last h = record {
        begin = h.begin;
        between = λ i c d less one other low high. elim (cases_lt (i + 1) (n + 1)) [
          | inl fewer ↦ h.between i c d fewer one other low high
          | inr far ↦ (let here : n ≡ i = omega (arith, far, less) in
              let first : a ≡ c = same_Some a c (sym at ∙ (ap (λ (j : ℕ). slice_get frames j) here ∙ one)) in
              let second : b ≡ d = same_Some b d (sym next-at ∙ (ap (λ (j : ℕ). slice_get frames (j + 1)) here ∙ other)) in
              subst (λ (r : Frame). IsBetween f century ps c r k x) second (subst (λ (r : Frame). IsBetween f century ps r b k x) first last))
        ];
      }

      pub said-more : AreSaid f century ps frames (n + 1) q
      said-more = record {
        last = b;
        there = next-at;
        from = omega (arith, from, order);
        long = end;
        said = λ k x low inside. (let begin = begins-at ps frames n a at in
            let later : a.marker ≤ k = omega (arith, low, begin) in
            let is = knows-both (λ j y. IsBetween f century ps a b j y) more q says from joined k x later in (
              λ known. (let h = is.0 known in with-next k x h.0 h.1),
              λ h. is.1 (
                h.between n a b (omega arith) at next-at later (omega (arith, inside, end)),
                record { begin = h.begin; between = λ i c d less. h.between i c d (omega (arith, less)) },
              ),
            ));
      }

    -- the end
    module _ (last : n + 1 ≡ length frames) (more : List (Option Point)) (q : Points)
        (says : (i : ℕ) (x : Point) → (slice_get more i ≡ Some (Some x)) ↔ IsAfterLast f ps a (a.marker + i) x) (from : q.from ≡ a.marker)
        (joined : AreJoined p a.marker more q.list.items (points_end p - a.marker)) where
      point : (k : ℕ) (x : Point) → k < length ps → IsAfterLast f ps a k x → IsSaid f century ps frames (n + 1) k x → IsPoint f century ps frames k x
      point k x inside end h = record {
        some = omega (arith, last);
        inside = inside;
        said = subst (λ (m : ℕ). IsSaid f century ps frames m k x) last h;
        end = λ i c is there low. (let here : n ≡ i = omega (arith, is, last) in
            let same : a ≡ c = same_Some a c (sym at ∙ (ap (λ (j : ℕ). slice_get frames j) here ∙ there)) in
            subst (λ (r : Frame). IsAfterLast f ps r k x) same end);
      }

      pub last-points : ArePoints f century ps frames (n + 1) q
      last-points k x low high =
          let begin = begins-at ps frames n a at in
          let later : a.marker ≤ k = omega (arith, low, begin) in
          let is = knows-both (λ j y. IsAfterLast f ps a j y) more q says from joined k x later in (
            λ known. (let h = is.0 known in point k x h.0.to h.0 h.1),
            λ h. is.1 (h.end n a last at later, subst (λ (m : ℕ). IsSaid f century ps frames m k x) (sym last) h.said),
          )

  pub said-are : AreFrames ps frames → (n : ℕ) (p : Points) → AreSaid f century ps frames n p → ArePoints f century ps frames n p
  said-are are n p said = said-points are n said.last said.there p said
