use Rattle.std.proofs.Common.{◌∙◌, ap}
use Rattle.campl_types.specs.Names.{is_among}
use Rattle.campl_vars.specs.Variables.{variable_names}
use Rattle.campl_vars.specs.Variables.{view_vars}
use Rattle.campl_vars.proofs.Variables.{among-told}
use Rattle.campl_vars.proofs.vars.Vars.has.Goals as goal

pub returns : goal.returns
returns c =
    c.contains_key.ensures ∙ among-told c.args.name.now c.self.inside.newest.entries c.self.inside.bindings c.self.invariant.0
    ∙ ap (λ v. is_among c.args.name.now (variable_names (view_vars v))) c.self.view_is
