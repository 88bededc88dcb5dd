-- The spaces of names, and the process `run`.
use Rattle.std.proofs.Common.{◌≡◌, refl, pos, List, [], ◌∷◌, None, codes}
use Rattle.campl_tree.specs.declared.place.Ident.{Ident}
use Rattle.campl_tree.specs.declared.service.Side.TheVariants.{Input, Output}
use Rattle.campl_tree.specs.Plain.SeqType as s
use Rattle.campl_tree.specs.Plain.ChanType.{ChanType, TopBot}
use Rattle.campl_tree.specs.Plain.Pattern as p
use Rattle.campl_tree.specs.Plain.Expr as e
use Rattle.campl_tree.specs.Plain.Process as b
use Rattle.campl_tree.specs.Plain.Decl as d
use Rattle.campl_types.specs.declared.fault.NameFault.TheVariants.{Twice, NoRun, RunNotService}
use Rattle.campl_types.specs.Names.{Name}
use Rattle.campl_types.specs.WellDeclared.{name_faults}
use Rattle.campl_types.specs.Run.{run_faults, services_of}
use Rattle.campl_types.specs.World.{world_of, type_parameters}
use Rattle.typing_examples.proofs.Sources.{place, ident, protocol, data_decl, constructor, protocol_decl, line, process, silent_run}

abbrev a : Ident
a = ident 1 10 (codes "a")

-- fun NAME :: -> Int where
--     -> 1
abbrev function : Name → d.Decl
function name =
    d.Function
    (record {
      place = place 1 1;
      name = ident 1 5 name;
      parameters = [];
      result = s.Int;
      rows = record { place = place 2 5; patterns = p.no_patterns; value = e.Number (place 2 8) (pos 1) } ∷ [];
    })

-- data One(a) where
--     One(a)
-- data Two(a) where
--     Two(a)
-- has a type and a constructor of one name, and two headings with one parameter
own-spaces : name_faults (data_decl 1 (ident 1 6 (codes "One")) (a ∷ []) (constructor (ident 2 5 (codes "One")) (s.Variable (place 2 9) (codes "a") ∷ []) ∷ []) ∷ data_decl 3 (ident 3 6 (codes "Two")) (ident 3 10 (codes "a") ∷ []) (constructor (ident 4 5 (codes "Two")) (s.Variable (place 4 9) (codes "a") ∷ []) ∷ []) ∷ silent_run 5 ∷ []) ≡ []
own-spaces = refl

-- data One where
--     Dot
--     Dot
two-lines : name_faults (data_decl 1 (ident 1 6 (codes "One")) [] (constructor (ident 2 5 (codes "Dot")) [] ∷ constructor (ident 3 5 (codes "Dot")) [] ∷ []) ∷ silent_run 4 ∷ []) ≡ Twice (place 3 5) (codes "Dot") ∷ []
two-lines = refl

-- protocol P(a, a) => S where
--     Stop :: TopBot => S
protocol-parameters : name_faults (protocol_decl 1 (ident 1 8 (codes "P")) (a ∷ ident 1 13 (codes "a") ∷ []) (ident 1 19 (codes "S")) (line (ident 2 5 (codes "Stop")) TopBot (ident 2 23 (codes "S")) ∷ []) ∷ silent_run 3 ∷ []) ≡ Twice (place 1 13) (codes "a") ∷ []
protocol-parameters = refl

-- coprotocol S => Console(a, a) where
--     ConsoleClose :: S => TopBot
-- has a name of the prelude, a parameter twice, and a constructor of the prelude
coprotocol-again : name_faults (d.Coprotocol (record { place = place 1 1; local = ident 1 12 (codes "S"); name = ident 1 17 (codes "Console"); parameters = a ∷ ident 1 28 (codes "a") ∷ []; constructors = record { name = ident 2 5 (codes "ConsoleClose"); local = ident 2 21 (codes "S"); channel_type = TopBot } ∷ [] }) ∷ silent_run 3 ∷ []) ≡ Twice (place 1 17) (codes "Console") ∷ Twice (place 1 28) (codes "a") ∷ Twice (place 2 5) (codes "ConsoleClose") ∷ []
coprotocol-again = refl

-- a function and a process of one name
lower-names : name_faults (process 3 (codes "one") [] [] (b.Halt (place 4 9) None) ∷ function (codes "one") ∷ silent_run 5 ∷ []) ≡ Twice (place 1 5) (codes "one") ∷ []
lower-names = refl

-- the parameters of `fun f :: a, b -> a`, each once
each-once : type_parameters (record { place = place 1 1; name = ident 1 5 (codes "f"); parameters = s.Variable (place 1 10) (codes "a") ∷ s.List (s.Variable (place 1 14) (codes "b")) ∷ []; result = s.Variable (place 1 21) (codes "a"); rows = [] }) ≡ codes "a" ∷ codes "b" ∷ []
each-once = refl

-- run

abbrev runs : List s.SeqType → (inputs outputs : List ChanType) → d.Decl
runs parameters inputs outputs =
    d.Process
    (record {
      place = place 1 1;
      name = ident 1 6 (codes "run");
      parameters = parameters;
      inputs = inputs;
      outputs = outputs;
      row = record {
        place = place 2 5;
        variables = [];
        inputs = ident 2 7 (codes "desk") ∷ [];
        outputs = ident 2 15 (codes "term") ∷ [];
        body = b.Halt (place 2 22) None;
      };
    })

abbrev console : ChanType
console = protocol 1 15 (codes "Console")

abbrev terminal : ChanType
terminal = protocol 1 26 (codes "StringTerminal")

-- inputs are named before outputs
both-services : (run_faults (world_of (runs [] (console ∷ []) (terminal ∷ []) ∷ [])) ≡ []) × (services_of (world_of (runs [] (console ∷ []) (terminal ∷ []) ∷ [])) ≡ record { name = codes "desk"; side = Input } ∷ record { name = codes "term"; side = Output } ∷ [])
both-services = (refl, refl)

with-a-variable : run_faults (world_of (runs (s.Int ∷ []) (console ∷ []) [] ∷ [])) ≡ RunNotService (place 1 6) ∷ []
with-a-variable = refl

console-as-output : run_faults (world_of (runs [] [] (console ∷ []) ∷ [])) ≡ RunNotService (place 1 6) ∷ []
console-as-output = refl

another-type : run_faults (world_of (runs [] (TopBot ∷ []) [] ∷ [])) ≡ RunNotService (place 1 6) ∷ []
another-type = refl

-- a function of that name is no process
a-function : name_faults (function (codes "run") ∷ []) ≡ NoRun (place 1 1) ∷ []
a-function = refl
