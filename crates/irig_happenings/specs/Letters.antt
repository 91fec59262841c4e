-- The elements of a frame as letters, as the code has them: they name the roles of Roles. This
-- project's own.
use Rattle.std.specs.Prelude.{ℕ, ◌==◌, ◌&&◌, ◌||◌, ◌++◌, Bool, true, false, List, codes}
use Rattle.std.specs.Prelude.{if◌then◌else◌}
use Rattle.irig_codes.specs.declared.format.Kind.{Kind}
use Rattle.irig_codes.specs.declared.format.Kind.TheVariants.{A, B, E, G}
use Rattle.irig_explaining.specs.declared.role.Role.{Role}
use Rattle.irig_explaining.specs.declared.role.Role.TheVariants.{Unused, Bit, Position}

-- the role that a letter names, if the expression has control functions (c) and straight binary
-- seconds (s)
abbrev pub named : Bool → Bool → ℕ → Role
named c s letter =
    if letter == 80 then Position
    else (if (letter == 98) || (((letter == 99) && c) || ((letter == 115) && s)) then Bit
    else Unused)

-- the letters of a frame, without and with the year
abbrev pub letters_of : Kind → Bool → List ℕ
letters_of A false = codes "Pbbbb.bbbPbbbb.bbb.Pbbbb.bb..Pbbbb.bbbbPbb...bbbbP"
    ++ codes "cccccccccPcccccccccPcccccccccPsssssssssPssssssss.P"
letters_of A true = codes "Pbbbb.bbbPbbbb.bbb.Pbbbb.bb..Pbbbb.bbbbPbb...bbbbP"
    ++ codes "bbbb.bbbbPcccccccccPcccccccccPsssssssssPssssssss.P"
letters_of B false = codes "Pbbbb.bbbPbbbb.bbb.Pbbbb.bb..Pbbbb.bbbbPbb.......P"
    ++ codes "cccccccccPcccccccccPcccccccccPsssssssssPssssssss.P"
letters_of B true = codes "Pbbbb.bbbPbbbb.bbb.Pbbbb.bb..Pbbbb.bbbbPbb.......P"
    ++ codes "bbbb.bbbbPcccccccccPcccccccccPsssssssssPssssssss.P"
letters_of E false = codes "P.....bbbPbbbb.bbb.Pbbbb.bb..Pbbbb.bbbbPbb.......P"
    ++ codes "cccccccccPcccccccccPcccccccccPcccccccccPcccccccccP"
letters_of E true = codes "P.....bbbPbbbb.bbb.Pbbbb.bb..Pbbbb.bbbbPbb.......P"
    ++ codes "bbbb.bbbbPcccccccccPcccccccccPcccccccccPcccccccccP"
letters_of G false = codes "Pbbbb.bbbPbbbb.bbb.Pbbbb.bb..Pbbbb.bbbbPbb...bbbbP"
    ++ codes "bbbb.....PcccccccccPcccccccccPcccccccccPcccccccccP"
letters_of G true = codes "Pbbbb.bbbPbbbb.bbb.Pbbbb.bb..Pbbbb.bbbbPbb...bbbbP"
    ++ codes "bbbb.....Pbbbb.bbbbPcccccccccPcccccccccPcccccccccP"
