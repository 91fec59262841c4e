-- What a program says after a fault of a dump. This project's own.
use Rattle.std.specs.Prelude.{ℕ, List, [], codes}
use Rattle.irig_vcd.specs.declared.fault.VcdFault.{VcdFault}
use Rattle.irig_vcd.specs.declared.fault.VcdFault.TheVariants.{NoSuchWire, ManyWires}
use Rattle.irig_vcd.specs.declared.fault.VcdFault.TheVariants.{NoEndDefinitions, BadToken}

-- what a user can do next
abbrev pub what_next : VcdFault → List ℕ
what_next NoSuchWire = codes "; irig_what FILE says more"
what_next ManyWires = codes "; irig_what FILE says more"
what_next NoEndDefinitions = codes "; irig_what FILE says more"
what_next (BadToken at) = codes "; irig_what FILE says more"
what_next fault = []
