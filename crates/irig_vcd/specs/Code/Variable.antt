-- A variable, read word by word.
use Rattle.std.specs.Prelude.{ℕ, List, [], ◌∷◌, Result, Ok, Err, if◌then◌else◌}
use Rattle.irig_vcd.specs.Variables.{Declared, variable_of}
use Rattle.irig_vcd.specs.declared.fault.VcdFault.TheVariants.{Unclosed, BadVar}
use Rattle.irig_vcd.specs.{Answer.◌>>=◌, Code.Section.after_end, Sections.is_end, Words.Word}
use Rattle.irig_vcd.specs.{declared.fault.VcdFault.VcdFault, declared.variable.Variable.Variable}

-- a variable without where its words lie in memory
abbrev pub variable_view : Variable → Declared
variable_view v = record { one_bit = v.one_bit; code = v.code.now; reference = v.reference.now }

-- the next word of a variable
abbrev pub word_at : List Word → Result (List ℕ × List Word) VcdFault
word_at [] = Err Unclosed
word_at (w ∷ ws) = if is_end w.bytes then Err BadVar else Ok (w.bytes, ws)

-- the next two words of a variable
abbrev pub two_words_at : List Word → Result ((List ℕ × List ℕ) × List Word) VcdFault
two_words_at words = do
  first ← word_at words
  second ← word_at first.1
  Ok ((first.0, second.0), second.1)

-- the variable of a section, and the words after its end
unfoldable pub var_read : List Word → Result (Declared × List Word) VcdFault
var_read words = do
  kind ← word_at words
  digits ← word_at kind.1
  code ← word_at digits.1
  reference ← word_at code.1
  rest ← after_end reference.1
  v ← variable_of kind.0 digits.0 code.0 reference.0
  Ok (v, rest)
