use Rattle.irig_vcd.proofs.{WindowLaws.window_of_all, WindowLaws.windows_joined, Windows.window_told}
use Rattle.irig_vcd.proofs.law.windows_tell_levels.Goals as goal

pub returns : goal.returns
returns c = record {
  level = λ extent w wire bytes r in_window is. window_told extent w wire bytes r in_window is;
  whole = λ w wire bytes r low high is. window_of_all w wire bytes r low high is;
  meet = λ wire bytes from middle to first second both le also one two three.
      windows_joined wire bytes from middle to first second both le also one two three;
}
