-- When each fault comes.
use Rattle.std.specs.Prelude.{ℕ, List}
use Rattle.campl_plug.specs.declared.plug.Link.{Link}
use Rattle.campl_plug.specs.declared.plug.PlugFault.{PlugFault}
use Rattle.campl_plug.specs.declared.plug.PlugFault.TheVariants.{Cycle, Apart, OutOfMemory}
use Rattle.campl_plug.specs.Tree.{HasNoCycle, IsFirstCycle, IsLeastApart}

-- the first link that closes a cycle; where there is none, the least part apart; want of memory at any time
abbrev pub IsFaultOf : ℕ → List Link → PlugFault → Type 0
IsFaultOf k links (Cycle i) = IsFirstCycle links i
IsFaultOf k links (Apart p) = HasNoCycle links × IsLeastApart k links p
IsFaultOf k links OutOfMemory = Unit {0}
