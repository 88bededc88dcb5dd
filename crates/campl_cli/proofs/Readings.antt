-- Files that are read one after another.
use Rattle.std.proofs.Common.{refl, ◌≡◌, ◌∙◌, ◌≤◌, ℕ, zero, suc, List, [], ◌∷◌, ◌++◌, slice_set, slice_index_or, arith, inl, inr, ap, sym, subst, Option, Some, None, Result, Ok, Err, length}
use Rattle.std.specs.Prelude.{MatchResult, replicate}
use Rattle.std.specs.List.{fold}
use Rattle.std.proofs.lemmas.List.{length-replicate}
use Rattle.campl_text.specs.Counts.{Rose}
use Rattle.campl_tree.specs.declared.service.ServiceName.{ServiceName}
use Rattle.campl_service.specs.Scripts.{Lines, put_behind}
use Rattle.campl_service.specs.Reading.{Sayings, judged, lines_of, place_of, scripts_of, with_line, with_lines}
use Rattle.campl_service.specs.declared.entry.Entry.{Entry}
use Rattle.campl_cli.specs.declared.refusal.Refusal.{Refusal}
use Rattle.campl_cli.specs.declared.refusal.Refusal.TheVariants.{BadCommandLine, ReadFault, TooLong, NotUtf8, Source, Script, OutOfMemory}
use Rattle.campl_cli.specs.declared.script.ScriptRefusal.TheVariants as script
use Rattle.campl_cli.specs.declared.performance.Performance.{Performance}
use Rattle.campl_cli.specs.Performance.{report_of}
use Rattle.campl_cli.specs.Refusals.{Files, HasScript, HasText, IsRefusedRun, IsRefusedScripts, IsRefusedText, IsUnreadScript}
use Rattle.campl_cli.specs.Runs.{HasScripts, RunsFile, RunsText}
use Rattle.campl_cli.specs.Source.{heading_of}

-- ---- a file that is read behind another

-- what is seen of a read behind one before which the outside held the same and had counted no more faults
pub record IsEarlier (files later : Files) : Type 0 where
  pub held : (name : List ℕ) → later.held name ≡ files.held name
  pub before : (name : List ℕ) → files.before name ≤ later.before name
  pub after : (name : List ℕ) → files.after name ≡ later.after name

rose-before : (a b c : ℕ) → a ≤ b → Rose b c → Rose a c
rose-before a b c less (inl rose) = inl (omega (arith, less, rose))
rose-before a b c less (inr full) = inr full

module _ (files later : Files) (earlier : IsEarlier files later) where
  unread-before : (file : List ℕ) (refusal : Refusal) → IsUnreadScript later file refusal → IsUnreadScript files file refusal
  unread-before file ReadFault h = subst (λ (n : ℕ). Rose (files.before file) n) (sym (earlier.after file)) (rose-before (files.before file) (later.before file) (later.after file) (earlier.before file) h)
  unread-before file (Script script.TooLong) h = rw (earlier.held file) at h
  unread-before file (Script (script.NotUtf8 at)) h = rw (earlier.held file) at h
  unread-before file (Script (script.Line fault)) h = h
  unread-before file (Script script.MigratedTooLong) h = h
  unread-before file OutOfMemory h = tt
  unread-before file BadCommandLine h = h
  unread-before file TooLong h = h
  unread-before file (NotUtf8 at) h = h
  unread-before file (Source fault) h = h

  script-before : (file text : List ℕ) → HasScript later file text → HasScript files file text
  script-before file text (within, of_held) = (within, rw (earlier.held file) at of_held)

  pub refused-before : (script : Option (List ℕ)) (names : List ServiceName) (refusal : Refusal) → IsRefusedScripts later script names refusal → IsRefusedScripts files script names refusal
  refused-before None names refusal h = h
  refused-before (Some file) names refusal (inl unread) = inl (unread-before file refusal unread)
  refused-before (Some file) names refusal (inr (text, has, wrong)) = inr (text, script-before file text has, wrong)

  pub scripts-before : (script : Option (List ℕ)) (names : List ServiceName) (scripts : List Lines) → HasScripts later script names scripts → HasScripts files script names scripts
  scripts-before None names scripts h = h
  scripts-before (Some file) names scripts (text, has, are) = (text, script-before file text has, are)

-- ---- the lines of a script

set-length : (xs : List Lines) (n : ℕ) (x : Lines) → length (slice_set xs n x) ≡ length xs
set-length [] n x = refl
set-length (y ∷ xs) zero x = refl
set-length (y ∷ xs) (suc n) x = ap suc (set-length xs n x)

lines-length : (said : List (Option Entry)) (scripts : List Lines) → length (fold with_line scripts said) ≡ length scripts
lines-length [] scripts = refl
lines-length (None ∷ said) scripts = lines-length said scripts
lines-length (Some e ∷ said) scripts =
    lines-length said (put_behind e.channel e.text scripts) ∙ set-length scripts e.channel (slice_index_or scripts e.channel [] ++ e.text ∷ [])

read-length : (before scripts : List Lines) (s : Sayings) → with_lines before s ≡ Ok scripts → length scripts ≡ length before
read-length before scripts (Ok said) is = let same : fold with_line before said ≡ scripts = cc in ap length (sym same) ∙ lines-length said before
read-length before scripts (Err fault) is = absurd cc

-- a script that is read has lines for each name
pub scripts-length : (names : List ServiceName) (characters : List ℕ) (scripts : List Lines) → scripts_of names characters ≡ Ok scripts → length scripts ≡ length names
scripts-length names characters scripts is =
    read-length (replicate (length names) []) scripts (judged (place_of names) (lines_of characters)) is ∙ length-replicate (length names) []

-- ---- a run behind the reading of its source

-- the run of a file is that of its text
pub file-run : (result : Result Performance Refusal) (files later : Files) → IsEarlier files later → (file : List ℕ) (script : Option (List ℕ)) (budget : ℕ) (text : List ℕ) → HasText files file text
    → MatchResult result (λ p. RunsText text (HasScripts later script) budget (report_of p) p.output.items) (IsRefusedText text (IsRefusedScripts later script))
    → MatchResult result (λ p. RunsFile files file script budget (report_of p) p.output.items) (IsRefusedRun files file script)
file-run (Ok p) files later earlier file script budget text has (tree, accepted, run) =
    (text, has, (tree, accepted, record { scripts = run.scripts; are_so = scripts-before files later earlier script (heading_of tree) run.scripts run.are_so; run = run.run }))
file-run (Err refusal) files later earlier file script budget text has (inl fault) = inr (text, has, inl fault)
file-run (Err refusal) files later earlier file script budget text has (inr (tree, accepted, wrong)) =
    inr (text, has, inr (tree, accepted, refused-before files later earlier script (heading_of tree) refusal wrong))
