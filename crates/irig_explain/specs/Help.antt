-- What is printed if the words ask for help, or for the version. This project's own.
use Rattle.std.specs.Prelude.{ℕ, List, ◌++◌, codes}

abbrev pub help_text : List ℕ
help_text = codes "Usage: irig_explain [OPTIONS] <TRACK>\n\nArguments:\n"
    ++ codes "  <TRACK>  the dump; 10 million pulses take a minute and 700 MB\n\nOptions:\n"
    ++ codes "      --wire <NAME>          the wire of the dump\n"
    ++ codes "      --from <TIME>          in microseconds, is the new 0: 0\n"
    ++ codes "      --to <TIME>            in microseconds, ends the part that is read\n"
    ++ codes "      --format <FORMAT>      A, B, E or G: B\n"
    ++ codes "      --expression <NUMBER>  of the format: 2\n"
    ++ codes "      --sure                 how sure that is: takes longer\n"
    ++ codes "      --json                 an object of JSON for each line\n"
    ++ codes "      --version              says which tool prints the version\n"
    ++ codes "  -h, --help                 Print help\n"

-- what is printed if the words ask for the version
abbrev pub version_text : List ℕ
version_text = codes "irig_explain has the version of the tools that were installed with it: "
    ++ codes "irig_mend --version\n"
