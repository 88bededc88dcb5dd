use Rattle.std.proofs.Common.{◌≡◌, List, Some, sym, ap, ◌∙◌}
use Rattle.campl_parts.specs.declared.part.ProcPart.{ProcPart}
use Rattle.campl_parts.specs.Tables.{procs}
use Rattle.campl_parts.specs.Views.{proc_of}
use Rattle.campl_steps.proofs.InPlace.{stands-some}
use Rattle.campl_steps.proofs.Seen.{stands}
use Rattle.campl_steps.proofs.config.Config.standing.Goals as goal

pub returns-in-Some : goal.returns-in-Some
returns-in-Some c =
    let there : procs c.args.self.now.processes.items c.args.number ≡ Some (proc_of c.in-Some.part.now) =
    ap (λ (xs : List ProcPart). procs xs c.args.number) (sym c.deref.ensures.value)
    ∙ stands proc_of c.deref.result.now c.args.number c.in-Some.part.now c.in-Some.ensures.lookup.0 c.in-Some.ensures.lookup.1 in
    stands-some c.args.self.now c.args.number c.in-Some.part.now there c.standing.result c.standing.ensures
