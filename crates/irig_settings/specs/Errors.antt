-- The errors of the command line. This project's own.
use Rattle.std.specs.Prelude.{◌⊎◌, List}
use Rattle.clap.specs.{Words.App, Words.Text, declared.error.Error.Error}
use Rattle.irig_settings.specs.Options.{IsCommand}
use Rattle.irig_words.specs.Errors.{IsRefused, WantsMemory}

-- an error that a parse of the words by the command may give
abbrev pub MayRefuse : List Text → Error → Type 0
MayRefuse words error =
    WantsMemory error ⊎ ((app : App) × IsCommand app × IsRefused app words error)
