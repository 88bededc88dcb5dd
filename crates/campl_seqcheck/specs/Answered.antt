-- What code that judges answers.
use Rattle.std.specs.Prelude.{◌≡◌, ◌⊎◌, Result, Ok, Err, Option, option_map}
use Rattle.std.specs.Borrow.{Bor}
use Rattle.std.specs.Option.{option_copied}
use Rattle.campl_tree.specs.declared.types.SeqType.{SeqType}
use Rattle.campl_tree.specs.View.{view_seq}
use Rattle.campl_seqcheck.specs.declared.fault.SeqFault.{SeqFault}
use Rattle.campl_seqcheck.specs.declared.fault.SeqFault.TheVariants.{OutOfMemory}
use Rattle.campl_seqcheck.specs.Judged.{Judged, Is, Fails}
use Rattle.campl_seqcheck.specs.Judging.{Wanted}

-- this fault, or want of memory
abbrev pub Refuses : (fault told : SeqFault) → Type 0
Refuses fault told = (told ≡ fault) ⊎ (told ≡ OutOfMemory)

-- this is the first fault, or want of memory
abbrev pub StopsAt : {B : Type 0} → Judged SeqFault B → SeqFault → Type 0
StopsAt judged fault = (judged ≡ Fails fault) ⊎ (fault ≡ OutOfMemory)

-- what was found, as it is seen, or the first fault; want of memory may end it anywhere
abbrev pub IsVerdict : {A B : Type 0} (seen : A → B) → Judged SeqFault B → Result A SeqFault → Type 0
IsVerdict seen judged (Ok x) = judged ≡ Is (seen x)
IsVerdict seen judged (Err fault) = StopsAt judged fault

-- the type that is wanted, if one is, as code has it
abbrev pub view_wanted : Option (Bor SeqType) → Wanted
view_wanted wanted = option_map view_seq (option_copied wanted)
