-- What a command refuses.
use Rattle.std.proofs.Common.{◌≡◌, List, Result, Ok, Err, true, inr, subst}
use Rattle.std.specs.Prelude.{IfErr}
use Rattle.clap.specs.Words.{App, FailsBy, Text, fault_of, kind_of, takes}
use Rattle.clap.specs.{declared.error.Error.Error, declared.error.kind.ErrorKind.TheVariants.OutOfMemory}
use Rattle.irig_words.specs.Errors.{MayRefuse}

-- the error of a parse by the command
pub may_refuse : {T : Type 0} (app : App) (words : List Text) (result : Result T Error)
    → IfErr result (λ e. takes app words ≡ true → kind_of e ≡ OutOfMemory)
    → FailsBy (fault_of app words) result
    → IfErr result (MayRefuse app words)
may_refuse app words (Ok matches) p k = tt
may_refuse app words (Err error) p k = inr (record { taken = p; kind = k })

-- that of a command that is known
pub refused_by : {T : Type 0} (app known : App) (words : List Text) → app ≡ known → (result : Result T Error)
    → IfErr result (MayRefuse app words) → IfErr result (MayRefuse known words)
refused_by app known words h result p = subst (λ (a : App). IfErr result (MayRefuse a words)) h p
