-- Where a step led.
use Rattle.std.specs.Prelude.{◌≡◌, ◌+◌, List, reverse}
use Rattle.campl_code.specs.Frames as m
use Rattle.campl_code.specs.Results.{TooDeep, Faulty}
use Rattle.campl_code.specs.Machine.{Next, Goes, Enters, Gives, Breaks}
use Rattle.campl_operands.specs.Effects.{After, Leaves, Stops}
use Rattle.campl_eval.specs.declared.machine.Flow.{Flow}
use Rattle.campl_eval.specs.declared.machine.Flow.TheVariants as F

-- it leads where the answer and the machine after it say, unless memory is out
abbrev pub Leads : Next → Flow → m.Frame → List m.Frame → Type 0
Leads next F.Goes f fs = next ≡ Goes f fs
Leads next F.Entered f fs = next ≡ Enters f fs
Leads next F.Gives f fs = next ≡ Gives f (reverse f.stack)
Leads next F.TooDeep f fs = next ≡ Breaks TooDeep
Leads next F.Faulty f fs = next ≡ Breaks Faulty
Leads next F.OutOfMemory f fs = Unit {0}

-- on behind the instruction with these operands, or a break
abbrev pub goes : m.Frame → List m.Frame → After → Next
goes f fs (Leaves stack) = Goes (record f { at = f.at + 1; stack = stack }) fs
goes f fs (Stops b) = Breaks b
