-- The start of a source with scripts.
use Rattle.std.specs.Prelude.{ℕ, suc, List, [], ◌∷◌, ◌++◌, Option, Some, None, codes}
use Rattle.campl_tree.specs.declared.service.Side.{Side}
use Rattle.campl_tree.specs.declared.service.Side.TheVariants.{Input, Output}
use Rattle.campl_tree.specs.declared.service.ServiceName.{ServiceName}
use Rattle.campl_tree.specs.Plain.Decl.{ProcessDecl}
use Rattle.campl_machine.specs.Names.{End, First, Second, Half, Who, Process, Service, same_end, same_who}
use Rattle.campl_machine.specs.Machine.{update, both_ways}
use Rattle.campl_types.specs.World.{World, process_named}
use Rattle.campl_types.specs.Run.{services_of}
use Rattle.campl_service.specs.declared.phase.ServiceKind.{ServiceKind}
use Rattle.campl_service.specs.declared.phase.ServiceKind.TheVariants.{Console, Terminal}
use Rattle.campl_service.specs.declared.phase.Phase.TheVariants as phase
use Rattle.campl_service.specs.Scripts.{Lines}
use Rattle.campl_peel.specs.Terms.{Doing}
use Rattle.campl_meaning.specs.States.{State, Runs, Serves, Ends}
use Rattle.campl_meaning.specs.Reductions.{Configuration}

-- a half of the start's channel n, from 0: a channel of the empty path's step 0
abbrev pub half : ℕ → Half → End
half n h = record { bearer = []; step = 0; channel = suc n; half = h }

-- `run` holds the first half of each of its channels, and the service the second
abbrev pub near : ℕ → End
near n = half n First

abbrev pub far : ℕ → End
far n = half n Second

-- the channels from n on
abbrev pub wires : ℕ → List ServiceName → List (End × End)
wires n [] = []
wires n (x ∷ xs) = (near n, far n) ∷ wires (suc n) xs

-- what `run` holds
abbrev pub holding : ℕ → List ServiceName → Ends
holding n [] = []
holding n (x ∷ xs) = (x.name, near n) ∷ holding (suc n) xs

abbrev first_script : List Lines → Lines
first_script [] = []
first_script (s ∷ ss) = s

abbrev other_scripts : List Lines → List Lines
other_scripts [] = []
other_scripts (s ∷ ss) = ss

-- at an input stands a console, at an output a terminal
abbrev pub kind_at : Side → ServiceKind
kind_at Input = Console
kind_at Output = Terminal

-- the services from n on, each with its script and ready for a constructor
abbrev pub attending : ℕ → List ServiceName → List Lines → List (Who × Option State)
attending n [] scripts = []
attending n (x ∷ xs) scripts = (
  Service n,
  Some (Serves (record {
    end = far n;
    serving = record { kind = kind_at x.side; phase = phase.Pick; script = first_script scripts; transcript = [] };
  })),
)
    ∷ attending (suc n) xs (other_scripts scripts)

-- the process `run`, where it is declared
abbrev pub running : Option ProcessDecl → Ends → List (Who × Option State)
running None ends = []
running (Some p) ends = (Process [], Some (Runs (record { term = Doing p.row.body; variables = []; ends = ends; steps = 0; spent = 0 }))) ∷ []

-- one process, `run`, and a service at each of its channels in heading order; nothing is owed and nothing written down
abbrev pub start : World → List Lines → Configuration
start w scripts = record {
  nodes = update same_who (running (process_named w (codes "run")) (holding 0 (services_of w)) ++ attending 0 (services_of w) scripts) (λ who. None);
  partner = update same_end (both_ways (wires 0 (services_of w))) (λ e. None);
  owed = λ e. [];
}
