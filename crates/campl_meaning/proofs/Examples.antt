-- First steps that compute: a call, an expression that needs a call, and a fork.
use Rattle.std.proofs.Common.{◌≡◌, refl, pos, List, [], ◌∷◌, Option, Some, None, option_map}
use Rattle.std.specs.Prelude.{codes, ℕ}
use Rattle.campl_tree.specs.declared.place.Ident.{Ident}
use Rattle.campl_tree.specs.declared.process.Binder.{Binder}
use Rattle.campl_tree.specs.declared.process.Binder.TheVariants as binder
use Rattle.campl_tree.specs.Plain.SeqType as s
use Rattle.campl_tree.specs.Plain.ChanType as c
use Rattle.campl_tree.specs.Plain.Pattern as p
use Rattle.campl_tree.specs.Plain.Expr as e
use Rattle.campl_tree.specs.Plain.Process as b
use Rattle.campl_tree.specs.Plain.Process.{Body}
use Rattle.campl_tree.specs.Plain.Decl as d
use Rattle.campl_tree.specs.Plain.Decl.{Program, ProcessDecl}
use Rattle.campl_value.specs.Tree as v
use Rattle.campl_machine.specs.Names.{Who, Process, End, First}
use Rattle.campl_types.specs.Names.{Name}
use Rattle.campl_types.specs.SameType.{nowhere}
use Rattle.campl_types.specs.World.{world_of}
use Rattle.campl_peel.specs.Terms.{Doing}
use Rattle.campl_meaning.specs.States.{Ends, State, Runs}
use Rattle.campl_meaning.specs.Reductions.{Configuration, reduce}
use Rattle.campl_meaning.specs.Start.{start}

abbrev ident : Name → Ident
ident x = record { place = nowhere; name = x }

-- a process with these types of values, variables, console channels and body
abbrev process : Name → List s.SeqType → List Binder → List Name → Body → ProcessDecl
process name values variables consoles body = record {
  place = nowhere;
  name = ident name;
  parameters = values;
  inputs = types consoles;
  outputs = [];
  row = record { place = nowhere; variables = variables; inputs = idents consoles; outputs = []; body = body };
}
  where
    types : List Name → List c.ChanType
    types [] = []
    types (x ∷ xs) = c.Named nowhere (codes "Console") s.no_types ∷ types xs

    idents : List Name → List Ident
    idents [] = []
    idents (x ∷ xs) = ident x ∷ idents xs

-- what is at a node behind the first step of `run`
abbrev behind : Program → Who → Option State
behind source who = node (option_map (λ next. next.1) (reduce (world_of source) (start (world_of source) []) (Process []) 0))
  where
    node : Option Configuration → Option State
    node None = None
    node (Some c) = c.nodes who

-- run is `=> -> last(7)`, and `last` has `n | => -> halt`
abbrev halts : Body
halts = b.Halt nowhere None

abbrev calls : Program
calls =
    d.Process (process (codes "last") (s.Int ∷ []) (binder.Variable nowhere (codes "n") ∷ []) [] halts)
    ∷ d.Process (process (codes "run") [] [] [] (b.Call nowhere (codes "last") (e.expr_then (e.Number nowhere (pos 7)) e.no_exprs) [] []))
    ∷ []

call-binds : behind calls (Process []) ≡ Some (Runs (record { term = Doing halts; variables = (codes "n", v.Int (pos 7)) ∷ []; ends = []; steps = 1; spent = 0 }))
call-binds = refl

-- run is `=> -> case one() of _ -> halt`, and `one` has the value 1: a call is spent first
abbrev scrutinizes : Body
scrutinizes = b.Case nowhere (e.Call nowhere (codes "one") e.no_exprs) (b.case_row_then (p.Wildcard nowhere) halts b.no_case_rows)

abbrev works : Program
works =
    d.Function (record {
      place = nowhere;
      name = ident (codes "one");
      parameters = [];
      result = s.Int;
      rows = record { place = nowhere; patterns = p.no_patterns; value = e.Number nowhere (pos 1) } ∷ [];
    })
    ∷ d.Process (process (codes "run") [] [] [] scrutinizes)
    ∷ []

work-is-spent : behind works (Process []) ≡ Some (Runs (record { term = Doing scrutinizes; variables = []; ends = []; steps = 1; spent = 1 }))
work-is-spent = refl

-- run is `| c, d => -> fork c into a -> halt d; b -> halt b`: the first body has d, and each body a channel of its own
abbrev forks : Program
forks = d.Process (process (codes "run") [] [] (codes "c" ∷ codes "d" ∷ []) (b.Fork nowhere (ident (codes "c")) (ident (codes "a")) left (ident (codes "b")) right)) ∷ []
  where
    left : Body
    left = b.Halt nowhere (Some (ident (codes "d")))

    right : Body
    right = b.Halt nowhere (Some (ident (codes "b")))

abbrev born : ℕ → End
born channel = record { bearer = []; step = 1; channel = channel; half = First }

abbrev ends_of : Option State → Ends
ends_of (Some (Runs r)) = r.ends
ends_of _ = []

first-body : ends_of (behind forks (Process [])) ≡ (codes "a", born 1) ∷ (codes "d", record { bearer = []; step = 0; channel = 2; half = First }) ∷ []
first-body = refl

second-body : ends_of (behind forks (Process (record { step = 1; place = 1 } ∷ []))) ≡ (codes "b", born 2) ∷ []
second-body = refl
