-- Lists of what is seen, of a track that is the same.
use Rattle.std.proofs.Common.{◌≡◌, ℕ, List, subst}
use Rattle.irig_codes.specs.Format.{FormatView}
use Rattle.irig_recording.specs.declared.pulse.Pulse.{Pulse}
use Rattle.irig_law.specs.Seens.{SeenAfter, SeenBefore}
use Rattle.irig_law.specs.declared.{frame.Frame.Frame, names.Seen.Seen}

pub seen-after-moved : (f : FormatView) (ps qs : List Pulse) (a : Frame) (n m : ℕ) (xs ys : List Seen) → SeenAfter f ps a n xs
    → ps ≡ qs → n ≡ m → xs ≡ ys → SeenAfter f qs a m ys
seen-after-moved f ps qs a n m xs ys seen e g h =
    subst (λ (l : List Seen). SeenAfter f qs a m l) h (subst (λ (k : ℕ). SeenAfter f qs a k xs) g (subst (λ (q : List Pulse). SeenAfter f q a n xs) e seen))

pub seen-before-moved : (f : FormatView) (ps qs : List Pulse) (a : Frame) (n m : ℕ) (xs ys : List Seen) → SeenBefore f ps a n xs
    → ps ≡ qs → n ≡ m → xs ≡ ys → SeenBefore f qs a m ys
seen-before-moved f ps qs a n m xs ys seen e g h =
    subst (λ (l : List Seen). SeenBefore f qs a m l) h (subst (λ (k : ℕ). SeenBefore f qs a k xs) g (subst (λ (q : List Pulse). SeenBefore f q a n xs) e seen))
