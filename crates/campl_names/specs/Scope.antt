-- The variables in scope as a set of names.
use Rattle.std.specs.Prelude.{List, [], ◌∷◌, ◌++◌, Option}
use Rattle.campl_tree.specs.Plain.Process.{Action}
use Rattle.campl_types.specs.declared.fault.NameFault.{NameFault}
use Rattle.campl_types.specs.Names.{Name}
use Rattle.campl_names.specs.NameSet.{with_name}
use Rattle.campl_types.specs.Known.{Heading, in_action, bound_by_action}
use Rattle.campl_types.specs.World.{World}

-- names go behind the others, each that isn't there
abbrev pub with_names : List Name → List Name → List Name
with_names xs [] = xs
with_names xs (y ∷ ys) = with_names (with_name y xs) ys

abbrev pub heading : List Name → Option Name → Heading
heading parameters local = record { parameters = parameters; local = local }

-- the variables behind actions
abbrev pub behind_actions : List Name → List Action → List Name
behind_actions vs [] = vs
behind_actions vs (a ∷ more) = behind_actions (with_names vs (bound_by_action a)) more

-- the faults of actions in turn
abbrev pub in_actions : World → List Name → List Action → List NameFault
in_actions w vs [] = []
in_actions w vs (a ∷ more) = in_action w vs a ++ in_actions w (with_names vs (bound_by_action a)) more
