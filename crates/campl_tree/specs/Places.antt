-- Where a node stands: the place of its first token.
use Rattle.campl_tree.specs.declared.place.Place.{Place}
use Rattle.campl_tree.specs.declared.process.Binder.{Binder}
use Rattle.campl_tree.specs.declared.process.Binder.TheVariants as binder
use Rattle.campl_tree.specs.Plain.Pattern as p
use Rattle.campl_tree.specs.Plain.Expr as e
use Rattle.campl_tree.specs.Plain.Process as b

abbrev pub pattern_place : p.Pattern → Place
pattern_place (p.Wildcard at) = at
pattern_place (p.Variable at _) = at
pattern_place (p.Number at _) = at
pattern_place (p.Negative at _) = at
pattern_place (p.Character at _) = at
pattern_place (p.Text at _) = at
pattern_place (p.True at) = at
pattern_place (p.False at) = at
pattern_place (p.Constructor at _ _) = at
pattern_place (p.List at _) = at
pattern_place (p.Pair at _ _) = at
pattern_place (p.Cons at _ _) = at

abbrev pub expr_place : e.Expr → Place
expr_place (e.If at _ _ _) = at
expr_place (e.Case at _ _) = at
expr_place (e.Or at _ _) = at
expr_place (e.And at _ _) = at
expr_place (e.Compare at _ _ _) = at
expr_place (e.Cons at _ _) = at
expr_place (e.Append at _ _) = at
expr_place (e.Calculate at _ _ _) = at
expr_place (e.Negate at _) = at
expr_place (e.Number at _) = at
expr_place (e.Character at _) = at
expr_place (e.Text at _) = at
expr_place (e.True at) = at
expr_place (e.False at) = at
expr_place (e.Variable at _) = at
expr_place (e.Call at _ _) = at
expr_place (e.CodeOf at _) = at
expr_place (e.CharOf at _) = at
expr_place (e.Constructor at _ _) = at
expr_place (e.List at _) = at
expr_place (e.Pair at _ _) = at

abbrev pub binder_place : Binder → Place
binder_place (binder.Variable at _) = at
binder_place (binder.Wildcard at) = at

abbrev pub action_place : b.Action → Place
action_place (b.Put at _ _) = at
action_place (b.Get at _ _) = at
action_place (b.Hput at _ _) = at
action_place (b.Split at _ _ _) = at
action_place (b.Close at _) = at

-- that of a body's first command
abbrev pub command_place : b.Body → Place
command_place (b.Then a _) = action_place a
command_place (b.Halt at _) = at
command_place (b.Hcase at _ _) = at
command_place (b.Fork at _ _ _ _ _) = at
command_place (b.Plug at _ _) = at
command_place (b.Race at _) = at
command_place (b.Case at _ _) = at
command_place (b.Identity at _ _ _) = at
command_place (b.Call at _ _ _ _) = at
