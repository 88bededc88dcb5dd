-- Runs of accepted sources.
use Rattle.std.proofs.Common.{refl, ◌≡◌, ℕ, List, inl, ap, ap₂, sym, subst, ◌∙◌, Option, Some, None}
use Rattle.campl_tree.specs.declared.service.ServiceName.{ServiceName}
use Rattle.campl_tree.specs.Plain.Decl.{Program}
use Rattle.campl_types.specs.World.{World, world_of}
use Rattle.campl_service.specs.Scripts.{Lines}
use Rattle.campl_code.specs.Forward.{IsForward}
use Rattle.campl_code.specs.Instructions.{Code}
use Rattle.campl_code_bodies.specs.Bodies.{StandsFor, processes_of}
use Rattle.campl_code_bodies.specs.BodySizes.{processes_size}
use Rattle.campl_code_bodies.proofs.BodiesAhead.{source-ahead}
use Rattle.campl_code_laws.proofs.Generated.{code-itself, code-stands}
use Rattle.campl_gen.specs.Generated.{world_code}
use Rattle.campl_meaning.specs.Lawful.{IsAccepted}
use Rattle.campl_meaning.specs.Reductions.{Configuration}
use Rattle.campl_meaning.specs.Ends.{Ending, IsEnd}
use Rattle.campl_meaning.specs.Ends as e
use Rattle.campl_progress.proofs.Takes.{broken-is-deep}
use Rattle.campl_laws.specs.Reached.{IsMet}
use Rattle.campl_laws.proofs.All.{met-lawful}
use Rattle.campl_parts.specs.Journal.{Recorded, weight_of}
use Rattle.campl_run.specs.declared.ended.Ended.{Ended}
use Rattle.campl_run.specs.declared.running.Ran.{Ran}
use Rattle.campl_run.specs.Runs.{IsRunThrough, ending_of}
use Rattle.campl_cli.specs.declared.performance.Performance.{Performance}
use Rattle.campl_cli.specs.declared.report.Report.{Report}
use Rattle.campl_cli.specs.declared.refusal.Refusal.TheVariants.{OutOfMemory}
use Rattle.campl_cli.specs.Performance.{IsHeaded, report_of}
use Rattle.campl_cli.specs.Refusals.{Files, IsRefusedScripts}
use Rattle.campl_cli.specs.Runs.{HasRun, RunsGenerated, RunsText, HaveNoLines, StandsStill, generated_budget, generated_line, status_by}
use Rattle.campl_pipeline.specs.Source.{generated_source}

-- ---- code

-- the jumps of a world's code lead onward
pub world-forward : (w : World) (code : Code) → code ≡ world_code w → IsForward code
world-forward w code is = subst (λ (c : Code). IsForward c) (sym is) (source-ahead w (processes_size (processes_of w)))

-- the code of an accepted source's world stands for it
pub world-stands : (source : Program) (w : World) (code : Code) → IsAccepted source → w ≡ world_of source → code ≡ world_code w → StandsFor (world_of source) code
world-stands source w code accepted same is =
    subst (λ (c : Code). StandsFor (world_of source) c) (sym (is ∙ ap world_code same)) (code-stands source accepted (world_code (world_of source)) (code-itself source))

-- ---- the end

stands-still : (source : Program) (ending : Ending) (steps budget : ℕ) (c : Configuration) → IsMet source c → IsEnd (world_of source) c steps budget ending → StandsStill source c ending
stands-still source e.Finished steps budget c met ends = ends.0
stands-still source e.Broken steps budget c met ends = (ends.1, broken-is-deep source c (met-lawful source c met))
stands-still source e.Awaiting steps budget c met (none, unbroken, some, asked) = (unbroken, asked)
stands-still source e.OutOfSteps steps budget c met ends = ends.1

-- a run up to its end is what is reported
pub has-run : (source : Program) (scripts : List Lines) (budget : ℕ) (ran : Ran) (p : Performance)
    → p ≡ record { journal = ran.journal; ended = Some ran.ended; output = ran.output }
    → IsRunThrough source scripts budget ran → HasRun source scripts budget (report_of p) p.output.items
has-run source scripts budget ran p is h = subst (λ (p : Performance). HasRun source scripts budget (report_of p) p.output.items) (sym is) (record {
  ended = ran.ended;
  is_ended = refl;
  last = h.last;
  journal = h.journal;
  alone = h.alone;
  steps = refl;
  still = stands-still source (ending_of ran.ended) _ budget h.last h.met h.alone.ends;
  prints = h.output;
})

-- ---- orders

-- want of memory refuses any scripts
pub memory-refuses : (files : Files) (script : Option (List ℕ)) (names : List ServiceName) → IsRefusedScripts files script names OutOfMemory
memory-refuses files None names = refl
memory-refuses files (Some file) names = inl tt

-- the report of this journal and this end
abbrev reported : Recorded → Option Ended → Report
reported journal ended = record { status = status_by ended; ended = ended; steps = weight_of journal.entries; journal = journal }

-- the run with its line is that of the pipeline
pub runs-generated : (stages budget : ℕ) (text : List ℕ) (before after : Performance) → text ≡ generated_source stages → budget ≡ generated_budget stages
    → RunsText text HaveNoLines budget (report_of before) before.output.items
    → IsHeaded (generated_line stages) before after → RunsGenerated stages (report_of after) after.output.items
runs-generated stages budget text before after is so_long runs headed =
    let same : report_of before ≡ report_of after = ap₂ reported (sym headed.journal) (sym headed.ended) in
    let of_source : RunsText (generated_source stages) HaveNoLines budget (report_of before) before.output.items =
    subst (λ (t : List ℕ). RunsText t HaveNoLines budget (report_of before) before.output.items) is runs in
    let in_budget : RunsText (generated_source stages) HaveNoLines (generated_budget stages) (report_of before) before.output.items =
    subst (λ (n : ℕ). RunsText (generated_source stages) HaveNoLines n (report_of before) before.output.items) so_long of_source in
    record {
      transcript = before.output.items;
      run = subst (λ (r : Report). RunsText (generated_source stages) HaveNoLines (generated_budget stages) r before.output.items) same in_budget;
      prints = headed.output;
    }
