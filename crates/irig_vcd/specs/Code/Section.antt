-- The sections of the declarations, read word by word.
use Rattle.std.specs.Prelude.{◌++◌, ℕ, List, [], ◌∷◌, Result, Ok, Err, if◌then◌else◌}
use Rattle.irig_vcd.specs.Sections.{SectionKind, timescale, variable, definitions_end, skipped}
use Rattle.irig_vcd.specs.Sections.{no_section, is_end}
use Rattle.irig_vcd.specs.declared.fault.VcdFault.TheVariants.{Unclosed}
use Rattle.irig_vcd.specs.declared.section.Head.TheVariants.{Timescale, Var, Last, Skipped, Stray}
use Rattle.irig_vcd.specs.{Words.Word, declared.fault.VcdFault.VcdFault, declared.section.Head.Head}

-- what a section is
abbrev pub section_view : Head → SectionKind
section_view Timescale = timescale
section_view Var = variable
section_view Last = definitions_end
section_view Skipped = skipped
section_view Stray = no_section

-- the words after a section's end
abbrev pub after_end : List Word → Result (List Word) VcdFault
after_end [] = Err Unclosed
after_end (w ∷ ws) = if is_end w.bytes then Ok ws else after_end ws

-- the place of the next $end, and the words after it
abbrev pub end_read : List Word → Result (ℕ × List Word) VcdFault
end_read [] = Err Unclosed
end_read (w ∷ ws) = if is_end w.bytes then Ok (w.offset, ws) else end_read ws

-- the words of a section after those before, and the words after its end
abbrev pub section_words : List (List ℕ) → List Word → Result (List (List ℕ) × List Word) VcdFault
section_words before [] = Err Unclosed
section_words before (w ∷ ws) =
    if is_end w.bytes then Ok (before, ws)
    else section_words (before ++ w.bytes ∷ []) ws
