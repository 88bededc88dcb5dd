-- What code that judges answers.
use Rattle.std.specs.Prelude.{◌≡◌, ◌⊎◌, Result, Ok, Err}
use Rattle.campl_tree.specs.View.{view_chan}
use Rattle.campl_seqcheck.specs.declared.fault.SeqFault.{SeqFault}
use Rattle.campl_seqcheck.specs.declared.fault.SeqFault.TheVariants as seq
use Rattle.campl_linear.specs.Faults as plain
use Rattle.campl_seqcheck.specs.Judged.{Judged, Is, Fails}
use Rattle.campl_held.specs.declared.fault.LinFault.{LinFault}
use Rattle.campl_held.specs.declared.fault.LinFault.TheVariants as f

-- a fault with plain types
abbrev pub view_fault : LinFault → plain.LinFault
view_fault (f.Seq fault) = plain.Seq fault
view_fault (f.NotHeld at x) = plain.NotHeld at x
view_fault (f.LeftOver at x) = plain.LeftOver at x
view_fault (f.WrongAction at x t s) = plain.WrongAction at x (view_chan t) s
view_fault (f.PlugUse at x) = plain.PlugUse at x
view_fault (f.PlugCycle at x) = plain.PlugCycle at x
view_fault (f.PlugApart at p) = plain.PlugApart at p
view_fault (f.CaseMissing at k) = plain.CaseMissing at k
view_fault (f.CaseTwice at k) = plain.CaseTwice at k
view_fault (f.RaceForm at) = plain.RaceForm at
view_fault (f.IdentityType at) = plain.IdentityType at
view_fault (f.CallChannels at x) = plain.CallChannels at x
view_fault (f.PartCount at) = plain.PartCount at
view_fault f.OutOfMemory = plain.OutOfMemory

-- this fault, or want of memory
abbrev pub Tells : plain.LinFault → LinFault → Type 0
Tells fault told = (view_fault told ≡ fault) ⊎ (told ≡ f.OutOfMemory)

-- this is the first fault, or want of memory
abbrev pub Refused : {B : Type 0} → Judged plain.LinFault B → LinFault → Type 0
Refused judged fault = (judged ≡ Fails (view_fault fault)) ⊎ (fault ≡ f.OutOfMemory)

-- what was found, as it is seen, or the first fault; want of memory may end it anywhere
abbrev pub Answers : {A B : Type 0} (seen : A → B) → Judged plain.LinFault B → Result A LinFault → Type 0
Answers seen judged (Ok x) = judged ≡ Is (seen x)
Answers seen judged (Err fault) = Refused judged fault

-- a fault of the sequential rules as one of these
abbrev pub from_fault : SeqFault → LinFault
from_fault (seq.TypeDiffers at found wanted) = f.Seq (seq.TypeDiffers at found wanted)
from_fault (seq.NeedsType at) = f.Seq (seq.NeedsType at)
from_fault (seq.NotExhaustive at missing) = f.Seq (seq.NotExhaustive at missing)
from_fault (seq.ArgumentCount at found wanted) = f.Seq (seq.ArgumentCount at found wanted)
from_fault (seq.NameTwiceInPattern at x) = f.Seq (seq.NameTwiceInPattern at x)
from_fault seq.OutOfMemory = f.OutOfMemory
