-- The four ways in which the command ends.
use Rattle.std.proofs.Common.{ℕ, List, inl, inr, ap, sym, subst, ◌∙◌, Option, Some, None}
use Rattle.campl_tree.specs.declared.service.ServiceName.{ServiceName}
use Rattle.campl_tree.specs.Plain.Decl.{Program}
use Rattle.campl_tree.specs.View.{view_program}
use Rattle.campl_service.specs.Scripts.{Lines}
use Rattle.campl_parts.specs.Journal.{weight_of}
use Rattle.campl_cli.specs.declared.performance.Performance.{Performance}
use Rattle.campl_cli.specs.declared.refusal.Refusal.{Refusal}
use Rattle.campl_cli.specs.declared.refusal.Refusal.TheVariants.{BadCommandLine, ReadFault, TooLong, NotUtf8, Source, Script, OutOfMemory}
use Rattle.campl_cli.specs.declared.report.Report.{Report}
use Rattle.campl_cli.specs.Refusals.{Files, IsDue, IsRefusedOrder, IsRefusedScripts, IsRefusedSource, TakesMemory}
use Rattle.campl_cli.specs.Runs.{HasRun, HasScripts, HaveNoLines, RunsText, generated_budget, status_by}
use Rattle.campl_cli.specs.Source.{heading_of}
use Rattle.campl_orders.specs.Orders.{IsOrder, PlainOrder, run, check, code, generate, migrate}
use Rattle.campl_pipeline.specs.Source.{generated_source}
use Rattle.campl_cli.specs.Told.{ListsFile, MigratesFile, accepted_line}
use Rattle.campl_cli.specs.Performance.{IsTelling, IsDone, IsPrinted, report_of, report_with}
use Rattle.campl_cli.specs.Answer.{Stream, HadNothing, HasNoRun, Does, IsAnswer, IsTold, IsRefused}

-- words that are an order aren't refused as a bad command line
not_bad : (files : Files) (file : List ℕ) → IsRefusedSource files file BadCommandLine → ⊥
not_bad files file (inl unread) = unread
not_bad files file (inr (text, has, fault)) = fault

no_scripts_bad : (files : Files) (script : Option (List ℕ)) (names : List ServiceName) → IsRefusedScripts files script names BadCommandLine → ⊥
no_scripts_bad files None names is = let no : ⊥ = cc in no
no_scripts_bad files (Some file) names (inl unread) = unread
no_scripts_bad files (Some file) names (inr (text, has, wrong)) = wrong

no_words_due : (order : PlainOrder) (files : Files) → IsRefusedOrder order files BadCommandLine → ⊥
no_words_due (run file script steps workers) files (inl unread) = unread
no_words_due (run file script steps workers) files (inr (text, has, inl fault)) = fault
no_words_due (run file script steps workers) files (inr (text, has, inr (tree, accepted, wrong))) = no_scripts_bad files script (heading_of tree) wrong
no_words_due (check file) files is = not_bad files file is
no_words_due (code file) files is = not_bad files file is
no_words_due (generate stages workers) files is = is
no_words_due (migrate file) files (inl unread) = unread
no_words_due (migrate file) files (inr (text, has, unmigrated)) = unmigrated

-- want of memory comes freely
memory_comes : (order : PlainOrder) (files : Files) → IsRefusedOrder order files OutOfMemory
memory_comes (run file script steps workers) files = inl tt
memory_comes (check file) files = inl tt
memory_comes (code file) files = inl tt
memory_comes (generate stages workers) files = tt
memory_comes (migrate file) files = inl tt

-- an order's refusal is one of the command
pub order_due : (words : List (List ℕ)) (files : Files) (order : PlainOrder) (refusal : Refusal) → IsOrder words order → IsRefusedOrder order files refusal → IsDue words files refusal
order_due words files order BadCommandLine is refused = absurd (no_words_due order files refused)
order_due words files order ReadFault is refused = (order, is, refused)
order_due words files order TooLong is refused = (order, is, refused)
order_due words files order (NotUtf8 at) is refused = (order, is, refused)
order_due words files order (Source fault) is refused = (order, is, refused)
order_due words files order (Script why) is refused = (order, is, refused)
order_due words files order OutOfMemory is refused = (order, is, refused)

module _ (words : List (List ℕ)) (files : Files) (out err : Stream) (report : Report) where
  -- nothing ran where something is told alone
  no_run : (output : List ℕ) (status : ℕ) (performance : Performance) → IsTelling output performance → HasNoRun (report_with status performance)
  no_run output status performance done = record { entries = done.entries; steps = ap weight_of done.entries; ended = done.ended }

  -- what ran is the same with another status
  has_run : (source : Program) (scripts : List Lines) (budget : ℕ) (output : List ℕ) (status : ℕ) (performance : Performance)
      → HasRun source scripts budget (report_of performance) output → HasRun source scripts budget (report_with status performance) output
  has_run source scripts budget output status performance h = record {
    ended = h.ended;
    is_ended = h.is_ended;
    last = h.last;
    journal = h.journal;
    alone = h.alone;
    steps = h.steps;
    still = h.still;
    prints = h.prints;
  }

  runs_text : (text : List ℕ) (are : List ServiceName → List Lines → Type 0) (budget : ℕ) (output : List ℕ) (status : ℕ) (performance : Performance)
      → RunsText text are budget (report_of performance) output → RunsText text are budget (report_with status performance) output
  runs_text text are budget output status performance (tree, accepted, h) =
      (tree, accepted, record { scripts = h.scripts; are_so = h.are_so; run = has_run (view_program tree) h.scripts budget output status performance h.run })

  does : (order : PlainOrder) (status : ℕ) (performance : Performance) → IsDone order files performance → Does order files (report_with status performance) performance.output.items
  does (run file script steps workers) status performance (text, has, done) =
      (text, has, runs_text text (HasScripts files script) steps performance.output.items status performance done)
  does (check file) status performance (accepted, done) = (no_run accepted_line status performance done, accepted, done.told)
  does (code file) status performance (output, lists, done) = (no_run output status performance done, subst (λ x. ListsFile files file x) (sym done.told) lists)
  does (generate stages workers) status performance done = record {
    transcript = done.transcript;
    run = runs_text (generated_source stages) HaveNoLines (generated_budget stages) done.transcript status performance done.run;
    prints = done.prints;
  }
  does (migrate file) status performance (output, migrates, done) =
      (no_run output status performance done, subst (λ x. MigratesFile files file x) (sym done.told) migrates)

  -- what is done is printed or couldn't be
  pub answers_done : (order : PlainOrder) (performance : Performance) → IsOrder words order → IsDone order files performance → IsPrinted performance out err report
      → IsAnswer words files out err report
  answers_done order performance is done told = elim told [
    | inl written ↦ inl (record {
      status = ap (λ r. r.status) written.0 ∙ ap (λ r. status_by r.ended) (sym written.0);
      order = order;
      is = is;
      output = performance.output.items;
      does = subst (λ r. Does order files r performance.output.items) (sym written.0) (does order (status_by performance.ended) performance done);
      written = written.1;
      silent = written.2;
    })
    | inr failed ↦ inr (inl (record {
      status = ap (λ r. r.status) failed.0;
      order = order;
      is = is;
      output = performance.output.items;
      does = subst (λ r. Does order files r performance.output.items) (sym failed.0) (does order 6 performance done);
      failed = failed.1;
      told = failed.2;
    }))
  ]

  -- what was refused and told, or couldn't be
  told_answer : (refusal : Refusal) → IsDue words files refusal → HadNothing out → IsTold refusal err report → IsAnswer words files out err report
  told_answer refusal due nothing told = elim told.answer [
    | inl answer ↦ inr (inr (inl (record { refusal = refusal; status = answer.0; due = due; no_run = told.no_run; no_output = nothing; told = answer.1 })))
    | inr answer ↦ inr (inr (inr (record { status = answer.0; refusal = refusal; due = due; other = answer.1; no_run = told.no_run; no_output = nothing; told = answer.2 })))
  ]

  -- where a line takes memory, the words are an order
  starved : (refusal : Refusal) → IsDue words files refusal → TakesMemory refusal → IsDue words files OutOfMemory
  starved (NotUtf8 at) (order, is, refused) takes = (order, is, memory_comes order files)
  starved (Source fault) (order, is, refused) takes = (order, is, memory_comes order files)
  starved (Script why) (order, is, refused) takes = (order, is, memory_comes order files)
  starved BadCommandLine due takes = absurd takes
  starved TooLong due takes = absurd takes
  starved ReadFault due takes = absurd takes
  starved OutOfMemory due takes = absurd takes

  pub answers_refusal : (refusal : Refusal) → IsDue words files refusal → HadNothing out → IsRefused refusal err report → IsAnswer words files out err report
  answers_refusal refusal due nothing refused = elim refused [
    | inl told ↦ told_answer refusal due nothing told
    | inr told ↦ told_answer OutOfMemory (starved refusal due told.0) nothing told.1
  ]
