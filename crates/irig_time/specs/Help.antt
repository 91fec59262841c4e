-- What is printed if the words ask for help, or for the version. This project's own.
use Rattle.std.specs.Prelude.{ℕ, List, ◌++◌, codes}

abbrev pub help_text : List ℕ
help_text = codes "Usage: irig_time [OPTIONS] <TRACK>\n\nArguments:\n"
    ++ codes "  <TRACK>  the dump; lines come on standard input\n\nOptions:\n"
    ++ codes "      --wire <NAME>          the wire of the dump\n"
    ++ codes "      --from <TIME>          in microseconds, is the new 0: 0\n"
    ++ codes "      --to <TIME>            in microseconds, ends the part that is read\n"
    ++ codes "      --format <FORMAT>      A, B, E or G: B\n"
    ++ codes "      --expression <NUMBER>  of the format: 2\n"
    ++ codes "      --unit <UNIT>          s, ms, us, ns, ps; 10ns, 100ns: us\n"
    ++ codes "      --offset <NUMBER>      its time at the start of TRACK: 0\n"
    ++ codes "      --column <COLUMN>      of its time: a number from 1, or its name in the header"
    ++ codes ": 1\n"
    ++ codes "      --comma <CHARACTER>    parts columns, if not white space\n"
    ++ codes "      --header <NUMBER>      lines of the header: 0\n"
    ++ codes "      --name <NAME>          of the new column: time\n"
    ++ codes "      --year <YEAR>          the year of the first fine frame\n"
    ++ codes "      --form <FORM>          ordinal, calendar or seconds\n"
    ++ codes "      --alone                take each frame that reads well, supported or not\n"
    ++ codes "      --why                  a word in place of - says why a line has no time\n"
    ++ codes "      --bound                how many microseconds each time can be off\n"
    ++ codes "      --within <NUMBER>      a time that can be off by more microseconds is none\n"
    ++ codes "      --table                print a table of the frames; no lines are read\n"
    ++ codes "      --holes                print each stretch without a time; no lines are read\n"
    ++ codes "      --json                 of --holes: an object of JSON for each\n"
    ++ codes "      --out <FILE>           takes all at the end, from memory: standard output\n"
    ++ codes "      --quiet                no line at the end says what was done\n"
    ++ codes "      --version              says which tool prints the version\n"
    ++ codes "  -h, --help                 Print help\n"

-- what is printed if the words ask for the version
abbrev pub version_text : List ℕ
version_text = codes "irig_time has the version of the tools that were installed with it: "
    ++ codes "irig_mend --version\n"
