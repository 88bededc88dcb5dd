-- What is told of a run that stopped is the source's run.
use Rattle.std.proofs.Common.{◌≡◌, refl, sym, ap, subst, ◌∙◌, ℕ, suc, ◌+◌, ◌/◌, ◌%◌, ◌≤◌, List, [], ◌++◌, Option, Some, None, IsSome, Ok, length, option_map, slice_get, add-one, arith}
use Rattle.std.proofs.lemmas.Option.{slice_get_past}
use Rattle.campl_tree.specs.declared.service.ServiceName.{ServiceName}
use Rattle.campl_tree.specs.Plain.Decl.{Program}
use Rattle.campl_machine.specs.Runs.{Run}
use Rattle.campl_types.specs.World.{world_of}
use Rattle.campl_types.specs.Run.{services_of}
use Rattle.campl_service.specs.Scripts.{Lines}
use Rattle.campl_meaning.specs.Reductions.{Configuration}
use Rattle.campl_meaning.specs.Ends.{IsEnd}
use Rattle.campl_meaning.specs.Journals.{IsRunOf, naming_at_start}
use Rattle.campl_meaning.specs.OneAtATime.{FirstReduces}
use Rattle.campl_meaning.specs.Start.{start}
use Rattle.campl_code.specs.Instructions.{Code}
use Rattle.campl_cells.specs.Parts.{far, near}
use Rattle.campl_cells.specs.Stands.{IsFresh, Naming}
use Rattle.campl_cells.specs.Starts.{start_naming}
use Rattle.campl_turns.specs.Turns.{told_naming}
use Rattle.campl_turns.proofs.Ending.{ends, service-told}
use Rattle.campl_parts.specs.declared.entry.Entry.{Entry}
use Rattle.campl_parts.specs.declared.part.ProcPart.{ProcPart}
use Rattle.campl_parts.specs.Journal.{weight_of}
use Rattle.campl_parts.specs.Tables.{tips}
use Rattle.campl_parts.specs.Views.{proc_of, tip_of}
use Rattle.campl_steps.specs.declared.config.Config.{Config}
use Rattle.campl_steps.specs.Configs.{drawn, parts}
use Rattle.campl_solo.specs.declared.solo.Solo.{Solo}
use Rattle.campl_solo.specs.declared.solo.Stop.{Stop}
use Rattle.campl_solo.specs.declared.solo.Stop.TheVariants.{Rested, Spent}
use Rattle.campl_solo.specs.Solos as solos
use Rattle.campl_solo.specs.Solos.{IsAtStart, IsRun, Stopped, told}
use Rattle.campl_run.specs.declared.ended.Ended.{Ended}
use Rattle.campl_run.specs.declared.running.Ran.{Ran}
use Rattle.campl_run.specs.Runs.{IsRunThrough, ending_of}
use Rattle.campl_run.specs.Endings.{EndsSo, IsToldOf}
use Rattle.campl_run.specs.Printed.{printed}
use Rattle.campl_run.proofs.Lining.{HaveServices, output-told}

-- numbers that are drawn aren't in use
fresh : (c : Config) → IsFresh (drawn c) (parts c)
fresh c =
    let even : length c.ends.items % 2 ≡ 0 = sym (ap (λ n. n % 2) c.ends.ok.0) ∙ c.paired in
    let no-tip : (k : ℕ) → length c.ends.items ≤ k → tips c.ends.items k ≡ None = (λ k l. ap (option_map tip_of) (slice_get_past c.ends.items k l)) in
    record {
      child = ap (option_map proc_of) (slice_get_past c.processes.items (length c.processes.items) (omega arith));
      near_end = no-tip (near (length c.ends.items / 2)) (omega (arith, even));
      far_end = no-tip (far (length c.ends.items / 2)) (omega (arith, even));
      near_end2 = no-tip (near (length c.ends.items / 2 + 1)) (omega (arith, even));
      far_end2 = no-tip (far (length c.ends.items / 2 + 1)) (omega (arith, even));
      two_channels = λ e. let f : ⊥ = omega (arith, e) in f;
    }

-- how it ended
ends-so : (source : Program) (code : Code) (n : Naming) (c : Configuration) (solo : Solo) (steps budget : ℕ) (stop : Stop) (ended : Ended) → IsRun source code n c solo
    → Stopped source code steps budget c solo (Ok stop) → EndsSo stop solo.config ended → IsEnd (world_of source) c steps budget (ending_of ended)
ends-so source code n c solo steps budget Spent ended is stopped so = subst (λ x. IsEnd (world_of source) c steps budget (ending_of x)) (sym so) stopped
ends-so source code n c solo steps budget Rested ended is rests so =
    ends source code n (parts solo.config) c is.met is.stands is.represents (drawn solo.config) (fresh solo.config) rests steps budget (ending_of ended) so

part-there : (o : Option ProcPart) → IsSome (option_map proc_of o) → (p : ProcPart) × (o ≡ Some p)
part-there None there = absurd (cc there)
part-there (Some p) there = (p, refl)

-- its services stand behind `run`
have-services : (source : Program) (code : Code) (n : Naming) (c : Configuration) (solo : Solo) → IsRun source code n c solo
    → HaveServices n.end solo.config.processes.items c 0 (length (services_of (world_of source)))
have-services source code n c solo is k a b =
    let (there, named) = is.services k (omega (arith, b)) in
    let (p, stands) = part-there (slice_get solo.config.processes.items (suc k)) there in
    let node = service-told (world_of source) code n (parts solo.config) c is.represents (suc k) k named (proc_of p) (ap (option_map proc_of) stands) in
    (p, ap (slice_get solo.config.processes.items) (add-one k) ∙ stands, node)

pub run-through : (source : Program) (scripts : List Lines) (budget : ℕ) (code : Code) (names : List ServiceName) (old new : Solo) (before after : List Entry) (stop : Stop) (ran : Ran)
    → IsAtStart source code scripts old → names ≡ services_of (world_of source) → before ≡ []
    → solos.Ran source code budget start_naming (start (world_of source) scripts) old new before after (Ok stop)
    → IsToldOf stop new.config after names ran → IsRunThrough source scripts budget ran
run-through source scripts budget code names old new before after stop ran at named none r tells =
    let w = world_of source in
    let c = start w scripts in
    let first = told_naming start_naming (parts old.config) in
    let last = told_naming r.goes.naming (parts new.config) in
    let appended : r.entries ≡ ran.journal.entries = sym (tells.journal ∙ (r.appended ∙ ap (λ b. b ++ r.entries) none)) in
    let weights : weight_of after ≡ weight_of ran.journal.entries = ap weight_of (sym tells.journal) in
    record {
      last = r.goes.last;
      met = r.goes.is.met;
      journal = (last, subst (λ es. IsRunOf w (naming_at_start w) c (told es) last r.goes.last) appended (subst (λ n. IsRunOf w n c (told r.entries) last r.goes.last) at.told r.goes.journal));
      alone = record {
        run = subst (λ es. Run (FirstReduces w) (weight_of es) c r.goes.last) appended r.goes.run;
        within = subst (λ n. n ≤ budget) weights r.within;
        ends = subst (λ n. IsEnd w r.goes.last n budget (ending_of ran.ended)) weights (ends-so source code r.goes.naming r.goes.last new (weight_of after) budget stop ran.ended r.goes.is r.stopped tells.ended);
      };
      output = tells.output ∙ (ap (printed names new.config.processes.items ran.ended) weights
          ∙ output-told r.goes.naming.end new.config.processes.items r.goes.last w names ran.ended (weight_of ran.journal.entries) named (have-services source code r.goes.naming r.goes.last new r.goes.is));
    }
