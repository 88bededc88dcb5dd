-- How a run ends that rests, read off its parts.
use Rattle.std.proofs.Common.{◌≡◌, ◌⊎◌, inl, inr, ℕ, Option, Some, None, IsSome, refl, sym, ap, subst, ◌∙◌}
use Rattle.campl_machine.specs.Names.{Path, Process, Service, Who}
use Rattle.campl_machine.specs.Machine.{Act, Breaks, Links, Looks, Moves, Stands}
use Rattle.campl_tree.specs.Plain.Decl.{Program}
use Rattle.campl_types.specs.World.{World, world_of}
use Rattle.campl_meaning.specs.Ends.{Awaiting, Broken, Ending, Finished, HasNoProcess, HasProcess, IsBrokenAt, IsEnabled, IsEnd, NeverActs, OutOfSteps}
use Rattle.campl_meaning.specs.Reductions.{Configuration}
use Rattle.campl_meaning.specs.States as s
use Rattle.campl_meaning.specs.States.{Message, Running, State}
use Rattle.campl_meaning.specs.Wants.{term_command}
use Rattle.campl_progress.specs.Deep.{SaysDeep}
use Rattle.campl_progress.proofs.Takes.{broken-is-deep}
use Rattle.campl_progress.proofs.Walk.{progress}
use Rattle.campl_laws.specs.Reached.{IsMet}
use Rattle.campl_laws.proofs.All.{met-lawful}
use Rattle.campl_code.specs.Instructions.{Code}
use Rattle.campl_code_bodies.specs.Alike.{ActsAlike, OptionAlike, StandsState}
use Rattle.campl_code_bodies.specs.Bodies as bodies
use Rattle.campl_code_bodies.specs.Commands.{Cell, CodeState}
use Rattle.campl_code_bodies.specs.Kept.{kept_command}
use Rattle.campl_code_bodies.proofs.KeptCells.{kept-wants}
use Rattle.campl_cells.specs.Parts.{Ended, Held, Life, Parts, Proc, Runs, Serves}
use Rattle.campl_cells.specs.Wants.{Drawn}
use Rattle.campl_cells.specs.Stands.{IsCell, IsFresh, IsNode, Naming, cell_of}
use Rattle.campl_cells.proofs.Puts.{if-here}
use Rattle.campl_cells_laws.specs.Sources.{Represents}
use Rattle.campl_cells_laws.proofs.Represented.{parts-rest}
use Rattle.campl_turns.specs.Turns.{Rests}
use Rattle.campl_turns.specs.Endings.{EndsAs, HasBroken, HasRunning, service_state}
use Rattle.campl_turns.proofs.Alone.{Runner, runner, server}
use Rattle.campl_turns.proofs.Breaking.{deep-kept}

none-alike : (w : World) (code : Code) (a : Option CodeState) (o : Option State) → a ≡ None → OptionAlike (StandsState w code) a o → o ≡ None
none-alike w code a o e h = go o (subst (λ a. OptionAlike (StandsState w code) a o) e h)
  where
    go : (o : Option State) → OptionAlike (StandsState w code) None o → o ≡ None
    go None h = refl
    go (Some s) h = absurd h

-- only a break is alike to a break
break-alike : (w : World) (code : Code) (b : Act State Message) → ActsAlike (StandsState w code) Breaks b → b ≡ Breaks
break-alike w code Breaks h = refl
break-alike w code (Moves m) h = absurd h
break-alike w code (Looks takes e f) h = absurd h
break-alike w code (Links e f) h = absurd h
break-alike w code Stands h = absurd h

module _ (w : World) (code : Code) (n : Naming) (m : Parts) (c : Configuration) (z : Represents w code n m c) where
  node-at : (p : ℕ) (q : Proc) → m.process p ≡ Some q → IsNode code n.end (n.who p) q.steps q.life (z.between.nodes (n.who p))
  node-at p q there = if-here (λ q. IsNode code n.end (n.who p) q.steps q.life (z.between.nodes (n.who p))) (m.process p) q there (z.by_number.shows.process p)

  -- what the source has at a service's name
  pub service-told : (p k : ℕ) → n.who p ≡ Service k → (q : Proc) → m.process p ≡ Some q → c.nodes (Service k) ≡ service_state n.end q.life
  service-told p k named q there = ap c.nodes (sym named) ∙ go q.life (node-at p q there)
    where
      go : (life : Life) → IsNode code n.end (n.who p) q.steps life (z.between.nodes (n.who p)) → c.nodes (n.who p) ≡ service_state n.end life
      go Ended is = none-alike w code (z.between.nodes (n.who p)) (c.nodes (n.who p)) is (z.by_terms.nodes (n.who p))
      go (Runs h) is = let f : Process is.path ≡ Service k = sym is.process ∙ named in absurd (cc f)
      go (Serves e serving) is = server w code _ (z.between.nodes (n.who p)) (c.nodes (n.who p)) is.serves (z.by_terms.nodes (n.who p))

  -- the cell of a process, and the running process for which it stands
  runs-at : (p : ℕ) (q : Proc) (h : Held) (is : IsCell code n.end (n.who p) q.steps h (z.between.nodes (n.who p))) → Runner w code (cell_of n.end h q.steps is.at is.vars is.spent) (c.nodes (n.who p))
  runs-at p q h is = runner w code (cell_of n.end h q.steps is.at is.vars is.spent) (z.between.nodes (n.who p)) (c.nodes (n.who p)) is.runs (z.by_terms.nodes (n.who p))

  -- where each process of this name is shown not to be, none is
  nobody-at : (v : Who) → ((p : ℕ) (q : Proc) → m.process p ≡ Some q → n.who p ≡ v → ⊥) → c.nodes v ≡ None
  nobody-at v h = none-alike w code (z.between.nodes v) (c.nodes v) (z.by_number.shows.no_node v (λ p there e. go p (m.process p) refl there e)) (z.by_terms.nodes v)
    where
      go : (p : ℕ) (o : Option Proc) → m.process p ≡ o → IsSome o → n.who p ≡ v → ⊥
      go p None e there named = cc there
      go p (Some q) e there named = h p q e named

  -- a process of the source runs by some number
  by-number : (p : Path) (state : State) → c.nodes (Process p) ≡ Some state → ((i : ℕ) (q : Proc) (h : Held) → m.process i ≡ Some q → q.life ≡ Runs h → n.who i ≡ Process p → ⊥) → ⊥
  by-number p state is h =
      let f : None ≡ Some state = sym (nobody-at (Process p) (λ i q there named. go i q there named q.life refl (node-at i q there))) ∙ is in
      let x : ⊥ = cc f in x
    where
      go : (i : ℕ) (q : Proc) → m.process i ≡ Some q → n.who i ≡ Process p → (life : Life) → q.life ≡ life → IsNode code n.end (n.who i) q.steps life (z.between.nodes (n.who i)) → ⊥
      go i q there named Ended e is2 =
          let gone : c.nodes (n.who i) ≡ None = none-alike w code (z.between.nodes (n.who i)) (c.nodes (n.who i)) is2 (z.by_terms.nodes (n.who i)) in
          let f : None ≡ Some state = sym gone ∙ (ap c.nodes named ∙ is) in
          let x : ⊥ = cc f in x
      go i q there named (Runs held) e is2 = h i q held there e named
      go i q there named (Serves x serving) e is2 = let f : Service is2.number ≡ Process p = sym is2.service ∙ named in cc f

  no-process : (HasRunning m → ⊥) → HasNoProcess c
  no-process h p = go (c.nodes (Process p)) refl
    where
      go : (o : Option State) → c.nodes (Process p) ≡ o → o ≡ None
      go None e = refl
      go (Some state) e = absurd (by-number p state e (λ i q held there life named. h (i, q, held, there, life)))

  has-process : HasRunning m → HasProcess c
  has-process (i, q, h, there, life) =
      let is = subst (λ life. IsNode code n.end (n.who i) q.steps life (z.between.nodes (n.who i))) life (node-at i q there) in
      let r = runs-at i q h is in
      (is.path, s.Runs r.running, ap c.nodes (sym is.process) ∙ r.runs)

  module _ (standing : bodies.StandsFor w code) where
    -- what keeps a break is broken
    broken-there : HasBroken m → (p : Path) × IsBrokenAt w c p
    broken-there (i, q, h, there, life, broke) =
        let is = subst (λ life. IsNode code n.end (n.who i) q.steps life (z.between.nodes (n.who i))) life (node-at i q there) in
        let cell : Cell = cell_of n.end h q.steps is.at is.vars is.spent in
        let r = runs-at i q h is in
        let alike = kept-wants w code standing is.path 0 cell r.running h.kept r.stands is.kept in
        let act : (term_command w is.path r.running 0 r.running.term).act ≡ Breaks =
        break-alike w code (term_command w is.path r.running 0 r.running.term).act
        (subst (λ o. ActsAlike (StandsState w code) (kept_command code cell is.path 0 o).act (term_command w is.path r.running 0 r.running.term).act) broke alike.0) in
        (is.path, (s.Runs r.running, ap c.nodes (sym is.process) ∙ r.runs, subst (NeverActs c (Process is.path)) (sym act) tt))

    -- and whose evaluation says Deep keeps a break
    deep-broken : (HasBroken m → ⊥) → (p : Path) (r : Running) → c.nodes (Process p) ≡ Some (s.Runs r) → SaysDeep w r → ⊥
    deep-broken none p r there deep = by-number p (s.Runs r) there (λ i q h at life named.
        let is = subst (λ life. IsNode code n.end (n.who i) q.steps life (z.between.nodes (n.who i))) life (node-at i q at) in
        let x = runs-at i q h is in
        let f : Some (s.Runs x.running) ≡ Some (s.Runs r) = sym x.runs ∙ (ap c.nodes named ∙ there) in
        let same : x.running ≡ r = cc f in
        none (i, q, h, at, life, deep-kept w code standing (cell_of n.end h q.steps is.at is.vars is.spent) x.running h.kept x.stands is.kept (subst (SaysDeep w) (sym same) deep)))

pub ends : (source : Program) (code : Code) (n : Naming) (m : Parts) (c : Configuration) → IsMet source c → bodies.StandsFor (world_of source) code → Represents (world_of source) code n m c →
    (d : Drawn) → IsFresh d m → ((p : ℕ) → Rests code m p) → (steps budget : ℕ) (e : Ending) → EndsAs m e → IsEnd (world_of source) c steps budget e
ends source code n m c met standing z d fresh rests steps budget = go
  where
    stuck : IsEnabled (world_of source) c → ⊥
    stuck (who, (i, next, e)) =
        let f : None ≡ Some next = sym (parts-rest (world_of source) code n m c standing z d fresh (λ p i. rests p d i) who i) ∙ e in
        let x : ⊥ = cc f in x

    no-break : (HasBroken m → ⊥) → (p : Path) → IsBrokenAt (world_of source) c p → ⊥
    no-break none p broken =
        let deep = broken-is-deep source c (met-lawful source c met) p broken in
        deep-broken (world_of source) code n m c z standing none p deep.0 deep.1 deep.2

    awaits : HasProcess c → ((p : Path) → IsBrokenAt (world_of source) c p → ⊥) →
        IsEnd (world_of source) c steps budget Finished ⊎ (IsEnd (world_of source) c steps budget Broken ⊎ IsEnd (world_of source) c steps budget Awaiting) → IsEnd (world_of source) c steps budget Awaiting
    awaits (p, state, there) none (inl finished) = let f : None ≡ Some state = sym (finished.0 p) ∙ there in absurd (cc f)
    awaits some none (inr (inl broken)) = absurd (none broken.1.0 broken.1.1)
    awaits some none (inr (inr awaiting)) = awaiting

    go : (e : Ending) → EndsAs m e → IsEnd (world_of source) c steps budget e
    go Finished h = (no-process (world_of source) code n m c z h, stuck)
    go Broken h = (stuck, broken-there (world_of source) code n m c z standing h)
    go Awaiting h = awaits (has-process (world_of source) code n m c z h.0) (no-break h.1) (progress source c (met-lawful source c met) stuck steps budget)
    go OutOfSteps h = absurd h
