-- Code that stands for an accepted source begins as it does, and makes its runs.
use Rattle.std.proofs.Common.{◌≡◌, ◌∙◌, refl, sym, ap, subst, arith, Bool, true, false, List, [], ◌∷◌, ◌++◌, Option, Some, None, length}
use Rattle.std.specs.Prelude.{codes}
use Rattle.campl_tree.specs.declared.process.Binder.{Binder}
use Rattle.campl_tree.specs.Plain.SeqType.{SeqType}
use Rattle.campl_tree.specs.Plain.Decl.{Program, ProcessDecl}
use Rattle.campl_types.specs.Names.{is_empty}
use Rattle.campl_types.specs.World.{World, world_of, process_named}
use Rattle.campl_types.specs.declared.fault.NameFault.{NameFault}
use Rattle.campl_types.specs.Twice.{twice_faults}
use Rattle.campl_types.specs.Known.{each, in_decl}
use Rattle.campl_types.specs.Run.{run_faults, has_services_alone}
use Rattle.campl_types.proofs.Lowers.{process-typed}
use Rattle.campl_meaning.specs.Lawful.{IsAccepted}
use Rattle.campl_service.specs.Scripts.{Lines}
use Rattle.campl_meaning.specs.Start.{start}
use Rattle.campl_code.specs.Instructions.{Code}
use Rattle.campl_code_bodies.specs.Bodies.{StandsFor}
use Rattle.campl_meaning.specs.Reductions.{Configuration, Event}
use Rattle.campl_meaning.proofs.Run.{run-is}
use Rattle.campl_types.proofs.DeclaredOnce.{no-second}
use Rattle.campl_code_bodies.specs.Runs.{Steps, SourceGoes, CodeGoes}
use Rattle.campl_code_bodies.proofs.Runs.{code-goes, source-goes}
use Rattle.campl_code_bodies.specs.Running.{CodeConfiguration, Stand, code_start, starts_in, starts_at, code_begins}
use Rattle.campl_code_bodies.proofs.BodyStands.{process-numbered}
use Rattle.campl_code_bodies.proofs.Starting.{starts-alike}

-- `run` has no variables

no-parameters : (q : ProcessDecl) → has_services_alone q ≡ true → is_empty q.parameters ≡ true
no-parameters q i = go (is_empty q.parameters) refl
  where
    go : (b : Bool) → is_empty q.parameters ≡ b → is_empty q.parameters ≡ true
    go true e = e
    go false e = absurd (cc (rw e at i))

no-variables : (xs : List Binder) (ts : List SeqType) → length xs ≡ length ts → is_empty ts ≡ true → xs ≡ []
no-variables [] ts l e = refl
no-variables (x ∷ xs) [] l e = absurd (omega (arith, l))
no-variables (x ∷ xs) (t ∷ ts) l e = absurd (cc e)

module _ (source : Program) (accepted : IsAccepted source) (code : Code) (standing : StandsFor (world_of source) code) where
  abbrev w : World
  w = world_of source

  -- code that stands for the source begins as it does
  pub code-begins : (scripts : List Lines) → (c : CodeConfiguration) × (code_begins w code scripts ≡ Some c) × Stand w code c (start w scripts)
  code-begins scripts =
      let declared : run_faults w ≡ [] = no-second (twice_faults source ++ each (in_decl w) source) (run_faults w) accepted.typed.declared in
      let (d, named, alone) = run-is w declared in
      let typed = process-typed source accepted.typed (codes "run") d named in
      let none : d.row.variables ≡ [] = no-variables d.row.variables d.parameters typed.1 (no-parameters d alone) in
      let g = process-numbered w (codes "run") d named in
      let s = standing.processes g.0 d g.2 in (
        code_start w code g.0 s.0 scripts,
        ap (λ o. starts_at w code o scripts) g.1 ∙ ap (λ o. starts_in w code g.0 o scripts) s.1,
        starts-alike w code d g.0 s.0 scripts named none s.1 s.2,
      )

  begun : (scripts : List Lines) (c : CodeConfiguration) → code_begins w code scripts ≡ Some c → Stand w code c (start w scripts)
  begun scripts c i = let b = code-begins scripts in let same : b.0 ≡ c = cc (sym b.1 ∙ i) in subst (λ d. Stand w code d (start w scripts)) same b.2

  -- each run of the source is one of its code, with the same events
  pub code-runs : (scripts : List Lines) (c : CodeConfiguration) → code_begins w code scripts ≡ Some c
      → (steps : Steps) (events : List Event) (e : Configuration) → SourceGoes w (start w scripts) steps events e → (f : CodeConfiguration) × CodeGoes code c steps events f × Stand w code f e
  code-runs scripts c i steps events e h = code-goes w code standing steps c (start w scripts) events e (begun scripts c i) h

  -- and each run of the code is one of the source
  pub source-runs : (scripts : List Lines) (c : CodeConfiguration) → code_begins w code scripts ≡ Some c
      → (steps : Steps) (events : List Event) (f : CodeConfiguration) → CodeGoes code c steps events f → (e : Configuration) × SourceGoes w (start w scripts) steps events e × Stand w code f e
  source-runs scripts c i steps events f h = source-goes w code standing steps c (start w scripts) events f (begun scripts c i) h
