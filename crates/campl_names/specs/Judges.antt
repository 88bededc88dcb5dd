-- What a judgement answers.
use Rattle.std.specs.Prelude.{List, [], ◌∷◌, Result, Ok, Err}
use Rattle.campl_types.specs.declared.fault.NameFault.{NameFault}
use Rattle.campl_types.specs.declared.fault.NameFault.TheVariants.{OutOfMemory}

-- it passes where there is no fault, and else refuses by the first; want of memory may end it anywhere
pub data Judges {A : Type 0} : List NameFault → Result A NameFault → Type 0 where
  passes : {x : A} → Judges [] (Ok x)
  refuses : {fault : NameFault} {more : List NameFault} → Judges (fault ∷ more) (Err fault)
  starves : {faults : List NameFault} → Judges faults (Err OutOfMemory)
