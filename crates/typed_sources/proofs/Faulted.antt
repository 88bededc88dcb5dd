-- Where judging finds a fault in a source's functions, the source isn't typed.
use Rattle.std.proofs.Common.{◌≡◌, ◌∙◌, sym}
use Rattle.campl_tree.specs.Plain.Decl.{Program}
use Rattle.campl_types.specs.World.{world_of}
use Rattle.campl_types.specs.WellDeclared.{IsWellDeclared}
use Rattle.campl_seqcheck.specs.declared.fault.SeqFault.{SeqFault}
use Rattle.campl_seqcheck.specs.Judged.{Judged, Is, Fails, Fine, fine}
use Rattle.campl_seqcheck.specs.Functions.{judge_functions}
use Rattle.campl_seqcheck.proofs.AgreesFunctions.{functions-agree}
use Rattle.typed_sources.specs.IllTyped.{IsIllTyped}

differ : (fault : SeqFault) → ◌≡◌ {A = Judged SeqFault Fine} (Is fine) (Fails fault) → ⊥
differ fault i = cc i

pub ill-typed : (source : Program) (fault : SeqFault) → IsWellDeclared source → judge_functions (world_of source) source ≡ Fails fault → IsIllTyped source (Fails fault)
ill-typed source fault declared found = (declared, λ h. differ fault (sym ((functions-agree source declared).1 h.functions) ∙ found), found)
