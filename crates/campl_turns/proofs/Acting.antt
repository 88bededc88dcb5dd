-- The machine's command behind a step by number, under names that the machine gives to what is born.
use Rattle.std.proofs.Common.{◌≡◌, ℕ, suc, [], ◌∷◌, ◌++◌, Some, None, refl, sym, ap, subst, ◌∙◌}
use Rattle.campl_machine.specs.Names.{Path, Who, Process, Service}
use Rattle.campl_service.specs.Services as services
use Rattle.campl_meaning.specs.States as s
use Rattle.campl_meaning.specs.Wants.{serving_command}
use Rattle.campl_code.specs.Instructions.{Code}
use Rattle.campl_code.specs.Frames.{frame_at}
use Rattle.campl_code.specs.Runs.{Outcome, Gave, Broke, Pauses, Short, IsOver}
use Rattle.campl_code.proofs.Resume.{settled}
use Rattle.campl_code_bodies.specs.Commands as commands
use Rattle.campl_code_bodies.specs.Commands.{Cell, RunsCode, Beside, CodeCommand, run_of}
use Rattle.campl_code_bodies.specs.Kept.{kept_of, kept_command}
use Rattle.campl_code_bodies.specs.Running.{CodeConfiguration, IsEnough, wants, command_beside, reduce_command, reduce_state, reduce_code}
use Rattle.campl_cells.specs.Parts.{Held, Life, Ended, Runs, Serves, Parts, Proc}
use Rattle.campl_cells.specs.Wants.{Drawn, wanted}
use Rattle.campl_cells.specs.Steps.{Change, by_want, change_of}
use Rattle.campl_cells.specs.Stands.{Naming, StandsFor, IsFresh, IsNode, IsCell, IsServing, IsEnd, LifeWithin, birth, cell_of}
use Rattle.campl_cells.proofs.Puts.{if-here, is-there}
use Rattle.campl_cells.proofs.Alike.{WantAs}
use Rattle.campl_cells.proofs.Doing.{kept-as}
use Rattle.campl_cells.proofs.Serving.{serving-as}
use Rattle.campl_cells.proofs.Fresh.{drawn-grows, drawn-naming, drawn-names}
use Rattle.campl_cells.proofs.Renamed.{ends-same}

wanted-kept : (code : Code) (c : Cell) (path : Path) (branch : ℕ) (o : Outcome) → IsOver o → commands.wanted code c path branch o ≡ kept_command code c path branch (kept_of o)
wanted-kept code c path branch (Gave at vars vs left) over = refl
wanted-kept code c path branch (Broke reason left) over = refl
wanted-kept code c path branch (Pauses f fs) over = refl
wanted-kept code c path branch Short over = absurd over

-- a cell's command is read off what is kept
pub kept-reduces : (code : Code) (c : CodeConfiguration) (who : Who) (path : Path) (cell : Cell) (h : Held) (i k : ℕ) → who ≡ Process path → c.nodes who ≡ Some (RunsCode cell) → IsOver (run_of code k cell) →
    (j : ℕ) → IsOver (run_of code j cell) → h.kept ≡ kept_of (run_of code j cell) → reduce_code code k c who i ≡ reduce_command c who (kept_command code cell path i h.kept)
kept-reduces code c who path cell h i k named runs over j over2 kept =
    let settles : run_of code k cell ≡ run_of code j cell = settled code k j (frame_at cell.block cell.at cell.vars) [] cell.spent over over2 in
    let e : commands.wanted code cell path i (run_of code k cell) ≡ kept_command code cell path i h.kept =
    ap (commands.wanted code cell path i) settles ∙ (wanted-kept code cell path i (run_of code j cell) over2 ∙ ap (kept_command code cell path i) (sym kept)) in
    ap (reduce_state code k c who i) runs ∙ (ap (λ w. reduce_command c who (wants code k w (RunsCode cell) i)) named ∙ ap (reduce_command c who) e)

-- the command that is what the process wants
pub record Acting (code : Code) (n : Naming) (m : Parts) (c : CodeConfiguration) (d : Drawn) (p : ℕ) (q : Proc) (i k : ℕ) : Type 0 where
  pub naming : Naming
  pub command : CodeCommand
  pub wants : WantAs code naming m.tip d (naming.who p) q.steps (wanted code d q.life i) command
  pub reduces : reduce_code code k c (n.who p) i ≡ reduce_command c (n.who p) command
  pub child : (path : Path) → n.who p ≡ Process path → naming.who d.child ≡ Process (path ++ birth (suc q.steps) ∷ [])

same-path : (a b : Path) → Process a ≡ Process b → a ≡ b
same-path a b e = cc e

module _ (code : Code) (n : Naming) (m : Parts) (c : CodeConfiguration) (z : StandsFor code n m c) (d : Drawn) (fresh : IsFresh d m)
    (p : ℕ) (q : Proc) (there : m.process p ≡ Some q) (i k : ℕ) (enough : IsEnough code k (c.nodes (n.who p))) where
  held : (life : Life) → q.life ≡ life → LifeWithin (IsEnd m.tip) life
  held life e = subst (LifeWithin (IsEnd m.tip)) e (if-here (λ q. LifeWithin (IsEnd m.tip) q.life) (m.process p) q there (z.wired.held p))

  runs-acting : (h : Held) → q.life ≡ Runs h → IsCell code n.end (n.who p) q.steps h (c.nodes (n.who p)) → Acting code n m c d p q i k
  runs-acting h life is =
      let n2 = drawn-naming n m d fresh is.path (suc q.steps) in
      let g = drawn-grows n m d fresh is.path (suc q.steps) in
      let names = drawn-names n m d fresh is.path (suc q.steps) in
      let ends = held (Runs h) life in
      let cell : Cell = cell_of n2.end h q.steps is.at is.vars is.spent in
      let same : cell_of n.end h q.steps is.at is.vars is.spent ≡ cell =
      ap (λ (ends : commands.Ends). record { block = h.block; at = is.at; vars = is.vars; ends = ends; steps = q.steps; spent = is.spent }) (ends-same n.end n2.end (IsEnd m.tip) g.end h.ends ends) in
      let runs : c.nodes (n.who p) ≡ Some (RunsCode cell) = is.runs ∙ ap (λ c. Some (RunsCode c)) same in
      record {
        naming = n2;
        command = kept_command code cell is.path i h.kept;
        wants = subst (λ life. WantAs code n2 m.tip d (n2.who p) q.steps (wanted code d life i) (kept_command code cell is.path i h.kept)) (sym life)
            (kept-as code n2 m.tip d (n2.who p) q.steps is.path (g.who p (is-there (m.process p) q there) ∙ is.process) h is.at is.vars is.spent is.kept ends names i h.kept);
        reduces = kept-reduces code c (n.who p) is.path cell h i k is.process runs (subst (IsEnough code k) runs enough) is.kept.0 is.kept.1 is.kept.2;
        child = λ path named. names.child ∙ ap (λ a. Process (a ++ birth (suc q.steps) ∷ [])) (same-path is.path path (sym is.process ∙ named));
      }

  serves-acting : (e : ℕ) (serving : services.Serving) → q.life ≡ Serves e serving → IsServing n.end (n.who p) e serving (c.nodes (n.who p)) → Acting code n m c d p q i k
  serves-acting e serving life is =
      let command : CodeCommand = command_beside (serving_command (record { end = n.end e; serving = serving }) (services.want serving)) in
      record {
        naming = n;
        command = command;
        wants = subst (λ life. WantAs code n m.tip d (n.who p) q.steps (wanted code d life i) command) (sym life)
            (serving-as code n m.tip d (n.who p) q.steps is.number is.service e (held (Serves e serving) life) serving (services.want serving));
        reduces = ap (reduce_state code k c (n.who p) i) is.serves ∙ ap (λ v. reduce_command c (n.who p) (wants code k v (Beside (s.Serves (record { end = n.end e; serving = serving }))) i)) is.service;
        child = λ path named. let e : Service is.number ≡ Process path = sym is.service ∙ named in absurd (cc e);
      }

  pub acting : (change : Change) → change_of code d m p q i ≡ Some change → Acting code n m c d p q i k
  acting change changes = go q.life refl (if-here (λ q. IsNode code n.end (n.who p) q.steps q.life (c.nodes (n.who p))) (m.process p) q there (z.shows.process p))
    where
      go : (life : Life) → q.life ≡ life → IsNode code n.end (n.who p) q.steps life (c.nodes (n.who p)) → Acting code n m c d p q i k
      go Ended life is = let e : None ≡ Some change = ap (λ life. by_want m.tip d p (wanted code d life i)) (sym life) ∙ changes in absurd (cc e)
      go (Runs h) life is = runs-acting h life is
      go (Serves e s) life is = serves-acting e s life is
