-- The code that is generated for an accepted source stands for it.
use Rattle.std.proofs.Common.{◌≡◌, ◌∙◌, refl, sym, ap, subst, arith, ℕ, suc, ◌+◌, ◌≤◌, List, [], ◌∷◌, ◌++◌, Some, length, slice_get}
use Rattle.campl_tree.specs.declared.place.Ident.{Ident}
use Rattle.campl_tree.specs.declared.process.Binder.{Binder}
use Rattle.campl_tree.specs.declared.process.Binder.TheVariants as binder
use Rattle.campl_tree.specs.declared.service.Side.{Side}
use Rattle.campl_tree.specs.declared.service.Side.TheVariants.{Input, Output}
use Rattle.campl_tree.specs.Plain.SeqType.{SeqType}
use Rattle.campl_tree.specs.Plain.ChanType.{ChanType}
use Rattle.campl_tree.specs.Plain.Decl.{Program, ProcessDecl, Decl, Data, Protocol, Coprotocol, Function, Process}
use Rattle.campl_types.specs.Names.{Name}
use Rattle.campl_types.specs.World.{World, world_of}
use Rattle.campl_types.specs.Held.{On, Held, nothing_held}
use Rattle.campl_types.specs.Linear.{ProcessIsTyped, ProcessesAreTyped, row_variables, row_channels, hold, bound}
use Rattle.campl_meaning.specs.Lawful.{IsAccepted}
use Rattle.campl_peel.specs.Trees.{ProcessesHaveTrees, PlugsAreTrees}
use Rattle.campl_code.specs.Instructions.{Block, Code}
use Rattle.campl_code.specs.Forward.{IsForward}
use Rattle.campl_code_bodies.proofs.BodiesAhead.{source-ahead}
use Rattle.campl_code_bodies.proofs.OtherDecisions.{source-too}
use Rattle.campl_code.specs.Numbers.{Numbers, names}
use Rattle.campl_code.proofs.Known.{var_names, names-append}
use Rattle.campl_code_bodies.specs.Bodies.{Channels, binds, parameter_numbers, channel_numbers, processes_of, StandsFor}
use Rattle.campl_code_bodies.specs.BodyNeeds.{ProcessNeeds, ProcessesNeed}
use Rattle.campl_code_bodies.specs.SourceCode.{first_channels, source_code, IsCodeOf}
use Rattle.campl_code_bodies.specs.BodySizes.{body_size, processes_size}
use Rattle.campl_code_bodies.proofs.Sources.{source-stands}
use Rattle.campl_code_laws.proofs.HeldNames.{HeldAs, held-new}
use Rattle.campl_code_laws.proofs.Needs.{body-needs}

names-both : (ns ms : Numbers) → names (ns ++ ms) ≡ names ns ++ names ms
names-both [] ms = refl
names-both (n ∷ ns) ms = ap (λ (l : List Name). n.0 ∷ l) (names-both ns ms)

names-one : (x : Binder) (n : ℕ) (t : SeqType) → names (binds x n []) ≡ var_names (bound x t [])
names-one (binder.Variable at y) n t = refl
names-one (binder.Wildcard at) n t = refl

names-parameters : (xs : List Binder) (ts : List SeqType) (n : ℕ) → length xs ≡ length ts → names (parameter_numbers n xs) ≡ var_names (row_variables xs ts)
names-parameters [] ts n l = refl
names-parameters (x ∷ xs) [] n l = absurd (omega (arith, l))
names-parameters (x ∷ xs) (t ∷ ts) n l =
    names-both (parameter_numbers (suc n) xs) (binds x n []) ∙ ap (λ (l : List Name). l ++ names (binds x n [])) (names-parameters xs ts (suc n) (omega (arith, l)))
    ∙ ap (λ (l : List Name). var_names (row_variables xs ts) ++ l) (names-one x n t) ∙ sym (names-append (row_variables xs ts) (bound x t []))

none-held : (cs : Channels) → HeldAs nothing_held cs
none-held cs x ch h = absurd (cc h)

hold-held : (side : Side) (xs : List Ident) (ts : List ChanType) (n : ℕ) (held : Held) (cs : Channels) → length xs ≡ length ts → HeldAs held cs → HeldAs (hold side xs ts held) (channel_numbers n xs ++ cs)
hold-held side [] ts n held cs l h = h
hold-held side (x ∷ xs) [] n held cs l h = absurd (omega (arith, l))
hold-held side (x ∷ xs) (t ∷ ts) n held cs l h = held-new x.name (Some (On side t)) n (hold side xs ts held) (channel_numbers (suc n) xs ++ cs) (hold-held side xs ts (suc n) held cs (omega (arith, l)) h)

hold-alone : (side : Side) (xs : List Ident) (ts : List ChanType) (n : ℕ) → length xs ≡ length ts → HeldAs (hold side xs ts nothing_held) (channel_numbers n xs)
hold-alone side [] ts n l = none-held []
hold-alone side (x ∷ xs) [] n l = absurd (omega (arith, l))
hold-alone side (x ∷ xs) (t ∷ ts) n l = held-new x.name (Some (On side t)) n (hold side xs ts nothing_held) (channel_numbers (suc n) xs) (hold-alone side xs ts (suc n) (omega (arith, l)))

module _ (source : Program) (accepted : IsAccepted source) where
  abbrev w : World
  w = world_of source

  process-needs : (n : ℕ) (p : ProcessDecl) → body_size p.row.body ≤ n → ProcessIsTyped w p → PlugsAreTrees p.row.body → ProcessNeeds w n p
  process-needs n p l h trees =
      body-needs source accepted.typed n p.row.body (row_variables p.row.variables p.parameters) (row_channels p) (length p.row.variables) (parameter_numbers 0 p.row.variables) (length p.row.inputs + length p.row.outputs) (first_channels p) l h.5 trees
      (names-parameters p.row.variables p.parameters 0 h.1) (hold-held Input p.row.inputs p.inputs 0 (hold Output p.row.outputs p.outputs nothing_held) (channel_numbers (length p.row.inputs) p.row.outputs) h.2 (hold-alone Output p.row.outputs p.outputs (length p.row.inputs) h.3))

  processes-need : (n : ℕ) (ds : List Decl) → processes_size (processes_of ds) ≤ n → ProcessesAreTyped w ds → ProcessesHaveTrees ds → ProcessesNeed w n (processes_of ds)
  processes-need n [] l h t = tt
  processes-need n (Process p ∷ ds) l h t = (process-needs n p (omega (arith, l)) h.0 t.0, processes-need n ds (omega (arith, l)) h.1 t.1)
  processes-need n (Data d ∷ ds) l h t = processes-need n ds l h.1 t.1
  processes-need n (Protocol d ∷ ds) l h t = processes-need n ds l h.1 t.1
  processes-need n (Coprotocol d ∷ ds) l h t = processes-need n ds l h.1 t.1
  processes-need n (Function d ∷ ds) l h t = processes-need n ds l h.1 t.1

  -- the generated code stands for the source
  generated-stands : StandsFor w (source_code source)
  generated-stands = source-stands source accepted.typed (processes_size (processes_of w)) (processes-need (processes_size (processes_of w)) source (omega arith) accepted.typed.processes accepted.trees)

  -- and so does code with other decisions that choose alike
  pub code-stands : (code : Code) → IsCodeOf source code → StandsFor w code
  code-stands code is =
      subst (λ (fs : List Block). StandsFor w (record { functions = fs; processes = code.processes; decisions = code.decisions })) is.functions
      (subst (λ (ps : List Block). StandsFor w (record { functions = (source_code source).functions; processes = ps; decisions = code.decisions })) is.processes
      (source-too w (source_code source) code.decisions is.decisions generated-stands))

-- each jump in it leads onward
pub code-onward : (source : Program) (code : Code) → IsCodeOf source code → IsForward code
code-onward source code is n b at =
    source-ahead (world_of source) (processes_size (processes_of (world_of source))) n b
    (subst (λ (fs : List Block). slice_get (fs ++ (source_code source).processes) n ≡ Some b) (sym is.functions) (subst (λ (ps : List Block). slice_get (code.functions ++ ps) n ≡ Some b) (sym is.processes) at))

-- the generated code itself
pub code-itself : (source : Program) → IsCodeOf source (source_code source)
code-itself source = record { functions = refl; processes = refl; decisions = λ m c at. (c, at, record { width = refl; bound = refl; choice = λ vs l. refl }) }
