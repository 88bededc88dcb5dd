-- No two processes or services wait on one end.
use Rattle.std.proofs.Common.{◌≡◌, ℕ, Option, Some, None, refl, sym, ap, subst, ◌∙◌}
use Rattle.campl_machine.specs.Names.{End, Process, Service, Who}
use Rattle.campl_tree.specs.Plain.Decl.{Program}
use Rattle.campl_types.specs.World.{World, world_of}
use Rattle.campl_service.specs.Services as services
use Rattle.campl_meaning.specs.States as k
use Rattle.campl_meaning.specs.States.{Attending, Running, State}
use Rattle.campl_meaning.specs.Wants.{term_command}
use Rattle.campl_meaning.specs.Reductions.{Configuration}
use Rattle.campl_meaning.specs.Apart.{At, IsApart, Place}
use Rattle.campl_meaning.proofs.Independent.{stands-at}
use Rattle.campl_code.specs.Instructions.{Code}
use Rattle.campl_code_bodies.specs.Bodies as bodies
use Rattle.campl_code_bodies.specs.Alike.{CellStands, OptionAlike, StandsState}
use Rattle.campl_code_bodies.specs.Commands.{Beside, Cell, CodeState, RunsCode}
use Rattle.campl_code_bodies.specs.Kept.{kept_command}
use Rattle.campl_code_bodies.proofs.KeptCells.{kept-wants}
use Rattle.campl_laws.specs.Reached.{IsMet}
use Rattle.campl_laws.proofs.All.{met-lawful}
use Rattle.campl_cells.specs.Parts.{Ended, Held, Life, Parts, Proc, Runs, Serves}
use Rattle.campl_cells.specs.Wants.{Drawn, wanted}
use Rattle.campl_cells.specs.Stands.{IsCell, IsNode, IsServing, Naming, cell_of}
use Rattle.campl_cells.specs.Local.{Watches}
use Rattle.campl_cells.proofs.Puts.{if-here, is-there}
use Rattle.campl_cells_laws.specs.Sources.{Represents}
use Rattle.campl_turns.specs.Turns.{IsLonely}
use Rattle.campl_turns.proofs.Watching.{kept-uses, serving-uses, uses-alike}

-- a running process of the source for which a cell stands
pub record Runner (w : World) (code : Code) (cell : Cell) (o : Option State) : Type 0 where
  pub running : Running
  pub runs : o ≡ Some (k.Runs running)
  pub stands : CellStands w code cell running

pub runner : (w : World) (code : Code) (cell : Cell) (a : Option CodeState) (o : Option State) → a ≡ Some (RunsCode cell) → OptionAlike (StandsState w code) a o → Runner w code cell o
runner w code cell a o e h = go o (subst (λ a. OptionAlike (StandsState w code) a o) e h)
  where
    go : (o : Option State) → OptionAlike (StandsState w code) (Some (RunsCode cell)) o → Runner w code cell o
    go None h = absurd h
    go (Some (k.Runs r)) h = record { running = r; runs = refl; stands = h }
    go (Some (k.Serves t)) h = absurd h

-- and a service
pub server : (w : World) (code : Code) (t : Attending) (a : Option CodeState) (o : Option State) → a ≡ Some (Beside (k.Serves t)) → OptionAlike (StandsState w code) a o → o ≡ Some (k.Serves t)
server w code t a o e h = go o (subst (λ a. OptionAlike (StandsState w code) a o) e h)
  where
    go : (o : Option State) → OptionAlike (StandsState w code) (Some (Beside (k.Serves t))) o → o ≡ Some (k.Serves t)
    go None h = absurd h
    go (Some (k.Runs r)) h = absurd h
    go (Some (k.Serves u)) h = ap Some (sym h)

module _ (w : World) (code : Code) (n : Naming) (m : Parts) (c : Configuration) (standing : bodies.StandsFor w code) (z : Represents w code n m c) (place : End → Place) (apart : IsApart c place) where
  module _ (p : ℕ) (q : Proc) (there : m.process p ≡ Some q) (d : Drawn) (i e : ℕ) where
    running-at : (h : Held) → IsCell code n.end (n.who p) q.steps h (z.between.nodes (n.who p)) → Watches (wanted code d (Runs h) i) e → place (n.end e) ≡ At (n.who p)
    running-at h is l =
        let cell : Cell = cell_of n.end h q.steps is.at is.vars is.spent in
        let r = runner w code cell (z.between.nodes (n.who p)) (c.nodes (n.who p)) is.runs (z.by_terms.nodes (n.who p)) in
        let alike = kept-wants w code standing is.path i cell r.running h.kept r.stands is.kept in
        let uses = uses-alike w code (kept_command code cell is.path i h.kept).act (term_command w is.path r.running i r.running.term).act alike.0 (n.end e)
        (kept-uses n.end e code d h is.path q.steps is.at is.vars is.spent i h.kept l) in
        stands-at w c place apart (Process is.path) (k.Runs r.running) i (n.end e) (ap c.nodes (sym is.process) ∙ r.runs) uses ∙ ap At (sym is.process)

    serving-at : (x : ℕ) (s : services.Serving) → IsServing n.end (n.who p) x s (z.between.nodes (n.who p)) → Watches (wanted code d (Serves x s) i) e → place (n.end e) ≡ At (n.who p)
    serving-at x s is l =
        let t : Attending = record { end = n.end x; serving = s } in
        let there : c.nodes (n.who p) ≡ Some (k.Serves t) = server w code t (z.between.nodes (n.who p)) (c.nodes (n.who p)) is.serves (z.by_terms.nodes (n.who p)) in
        stands-at w c place apart (Service is.number) (k.Serves t) i (n.end e) (ap c.nodes (sym is.service) ∙ there) (serving-uses n.end e x s (services.want s) l) ∙ ap At (sym is.service)

    waits-at : Watches (wanted code d q.life i) e → place (n.end e) ≡ At (n.who p)
    waits-at = go q.life (if-here (λ q. IsNode code n.end (n.who p) q.steps q.life (z.between.nodes (n.who p))) (m.process p) q there (z.by_number.shows.process p))
      where
        go : (life : Life) → IsNode code n.end (n.who p) q.steps life (z.between.nodes (n.who p)) → Watches (wanted code d life i) e → place (n.end e) ≡ At (n.who p)
        go Ended is l = absurd l
        go (Runs h) is l = running-at h is l
        go (Serves x s) is l = serving-at x s is l

  same-who : (a b : Who) → At a ≡ At b → a ≡ b
  same-who a b e = cc e

  pub alone : IsLonely code m
  alone p p2 e (q, there, (d, i, l)) (q2, there2, (d2, i2, l2)) =
      z.by_number.named.processes p p2 (is-there (m.process p) q there) (is-there (m.process p2) q2 there2)
      (same-who (n.who p) (n.who p2) (sym (waits-at p q there d i e l) ∙ waits-at p2 q2 there2 d2 i2 e l2))

pub lonely : (source : Program) (code : Code) (n : Naming) (m : Parts) (c : Configuration) → IsMet source c → bodies.StandsFor (world_of source) code → Represents (world_of source) code n m c → IsLonely code m
lonely source code n m c met standing z = let l = met-lawful source c met in alone (world_of source) code n m c standing z l.place l.apart
