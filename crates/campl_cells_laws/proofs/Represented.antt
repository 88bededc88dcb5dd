-- Parts that represent a configuration of the source do as it does.
use Rattle.std.proofs.Common.{◌≡◌, ◌∙◌, refl, sym, ap, subst, ℕ, List, [], Option, Some, None, slice_get}
use Rattle.std.specs.Prelude.{codes}
use Rattle.campl_machine.specs.Names.{Who, Process}
use Rattle.campl_tree.specs.Plain.Decl.{Program}
use Rattle.campl_types.specs.World.{World, world_of}
use Rattle.campl_service.specs.Scripts.{Lines}
use Rattle.campl_meaning.specs.Lawful.{IsAccepted}
use Rattle.campl_meaning.specs.Reductions.{Configuration, Event, reduce}
use Rattle.campl_meaning.specs.Start.{start}
use Rattle.campl_code.specs.Instructions.{Block, Code}
use Rattle.campl_code_bodies.specs.Bodies as bodies
use Rattle.campl_code_bodies.specs.BodyCode.{process_number}
use Rattle.campl_code_bodies.specs.Commands.{run_of}
use Rattle.campl_code_bodies.specs.Kept.{kept_of}
use Rattle.campl_code_bodies.specs.Running.{CodeConfiguration, ReduceAlike, Stand, code_begins, code_start, first_cell, reduce_code, starts_at, starts_in}
use Rattle.campl_code_bodies.specs.Runs.{SourceGoes}
use Rattle.campl_code_bodies.proofs.Lifted.{reduces-alike}
use Rattle.campl_code_bodies.proofs.Runs.{source-goes}
use Rattle.campl_code_laws.proofs.Runs.{code-begins}
use Rattle.campl_cells.specs.Parts.{Parts, Proc}
use Rattle.campl_cells.specs.Wants.{Drawn}
use Rattle.campl_cells.specs.Steps.{Change, Entry, IsStill, change_of}
use Rattle.campl_cells.specs.Stands.{Grows, IsFresh, Naming, StandsFor, StepsAlike}
use Rattle.campl_cells.specs.Starts.{start_naming, start_parts}
use Rattle.campl_cells.specs.Runs.{PartsGo, Turn, named_entries, named_turns}
use Rattle.campl_cells.proofs.GoingOn.{runs-stand, still-stands}
use Rattle.campl_cells.proofs.StartNodes.{start-stands}
use Rattle.campl_cells.proofs.Theorem.{step-alike}
use Rattle.campl_cells_laws.specs.Sources.{IsStartOf, ReducesAs, Represents}

-- The start

-- `run`'s number and block, where the code begins
record Begins (w : World) (code : Code) (scripts : List Lines) (c : CodeConfiguration) : Type 0 where
  pub number : ℕ
  pub block : Block
  pub numbered : process_number w (codes "run") ≡ Some number
  pub there : slice_get code.processes number ≡ Some block
  pub same : code_start w code number block scripts ≡ c

begins : (w : World) (code : Code) (scripts : List Lines) (c : CodeConfiguration) → code_begins w code scripts ≡ Some c → Begins w code scripts c
begins w code scripts c e = at-number (process_number w (codes "run")) refl e
  where
    at-block : (g : ℕ) → process_number w (codes "run") ≡ Some g → (o : Option Block) → slice_get code.processes g ≡ o → starts_in w code g o scripts ≡ Some c → Begins w code scripts c
    at-block g n None t e = absurd (cc e)
    at-block g n (Some b) t e = record { number = g; block = b; numbered = n; there = t; same = cc e }

    at-number : (o : Option ℕ) → process_number w (codes "run") ≡ o → starts_at w code o scripts ≡ Some c → Begins w code scripts c
    at-number None n e = absurd (cc e)
    at-number (Some g) n e = at-block g n (slice_get code.processes g) refl e

module _ (source : Program) (code : Code) (scripts : List Lines) (accepted : IsAccepted source) (standing : bodies.StandsFor (world_of source) code) where
  abbrev w : World
  w = world_of source

  pub parts-there : (m : Parts) × IsStartOf w code scripts m
  parts-there =
      let a = code-begins source accepted code standing scripts in
      let b = begins w code scripts a.0 a.1 in
      let c : CodeConfiguration = code_start w code b.number b.block scripts in
      let s : Stand w code c (start w scripts) = subst (λ c. Stand w code c (start w scripts)) (sym b.same) a.2 in
      let r = reduces-alike w code standing c (start w scripts) s (Process []) 0 in
      let kept = kept_of (run_of code r.0 (first_cell w code b.number b.block)) in (
        start_parts w code b.number kept scripts,
        record { number = b.number; block = b.block; kept = kept; numbered = b.numbered; there = b.there; keeps = (r.0, r.1.0, refl); is = refl },
      )

  pub parts-stand : (m : Parts) → IsStartOf w code scripts m → Represents w code start_naming m (start w scripts)
  parts-stand m h =
      let a = code-begins source accepted code standing scripts in
      let begun : code_begins w code scripts ≡ Some (code_start w code h.number h.block scripts) = ap (λ o. starts_at w code o scripts) h.numbered ∙ ap (λ o. starts_in w code h.number o scripts) h.there in
      let same : a.0 ≡ code_start w code h.number h.block scripts = cc (sym a.1 ∙ begun) in
      record {
        between = code_start w code h.number h.block scripts;
        by_number = subst (λ m. StandsFor code start_naming m (code_start w code h.number h.block scripts)) (sym h.is) (start-stands w code h.number h.block h.kept scripts h.keeps);
        by_terms = subst (λ c. Stand w code c (start w scripts)) same a.2;
      }

-- Steps and runs

module _ (w : World) (code : Code) (n : Naming) (m : Parts) (c : Configuration) (standing : bodies.StandsFor w code) (z : Represents w code n m c) where
  pub parts-step : (d : Drawn) → IsFresh d m → (p : ℕ) (q : Proc) → m.process p ≡ Some q → (i : ℕ) → ReducesAs w code n d m p q (reduce w c (n.who p) i) (change_of code d m p q i)
  parts-step d fresh p q there i =
      let r = reduces-alike w code standing z.between c z.by_terms (n.who p) i in
      go (reduce_code code r.0 z.between (n.who p) i) (reduce w c (n.who p) i) (change_of code d m p q i) r.1.1 (step-alike code n m z.between z.by_number d fresh p q there i r.0 r.1.0)
    where
      go : (a : Option (Event × CodeConfiguration)) (b : Option (Event × Configuration)) (o : Option Change) → ReduceAlike w code a b → StepsAlike code n d m p q a o → ReducesAs w code n d m p q b o
      go None None None alike s = tt
      go None None (Some change) alike s = absurd s
      go (Some a) (Some b) (Some change) alike s = (
        s.0,
        s.1,
        sym alike.0 ∙ s.2,
        λ life child is born. record { between = a.1; by_number = s.3 life child is born; by_terms = alike.1 },
      )
      go (Some a) (Some b) None alike s = absurd s
      go None (Some b) o alike s = absurd alike
      go (Some a) None o alike s = absurd alike

  pub parts-run : (turns : List Turn) (entries : List Entry) (m2 : Parts) → PartsGo code m turns entries m2 →
      (n2 : Naming) × Grows n n2 m × (e : Configuration) × SourceGoes w c (named_turns n2 turns) (named_entries n2 entries) e × Represents w code n2 m2 e
  parts-run turns entries m2 g =
      let r = runs-stand code turns n m z.between z.by_number entries m2 g in
      let s = source-goes w code standing (named_turns r.0 turns) z.between c (named_entries r.0 entries) r.2 z.by_terms r.3 in
      (r.0, r.1, s.0, s.1, record { between = r.2; by_number = r.4; by_terms = s.2 })

  pub parts-rest : (d : Drawn) → IsFresh d m → ((p i : ℕ) → IsStill code d m p i) → (who : Who) (i : ℕ) → reduce w c who i ≡ None
  parts-rest d fresh still who i =
      let r = reduces-alike w code standing z.between c z.by_terms who i in
      go (reduce w c who i) (subst (λ o. ReduceAlike w code o (reduce w c who i)) (still-stands code n m z.between z.by_number d fresh still who i r.0 r.1.0) r.1.1)
    where
      go : (o : Option (Event × Configuration)) → ReduceAlike w code None o → o ≡ None
      go None a = refl
      go (Some r) a = absurd a
