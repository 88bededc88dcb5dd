-- What type parameters stand for, as code knows it: each name with its type, in the order in which they
-- were bound.
use Rattle.std.specs.Prelude.{List, [], ◌∷◌, ◌++◌, map, is_some, if◌then◌else◌}
use Rattle.campl_tree.specs.declared.types.SeqType as declared
use Rattle.campl_tree.specs.View.{view_seq}
use Rattle.campl_types.specs.Names.{Name, found}
use Rattle.campl_types.specs.Substitution.{Filling}

abbrev pub Bound : Type 0
Bound = List (Name × declared.SeqType)

abbrev pub view_filling : Bound → Filling
view_filling = map (λ (e : Name × declared.SeqType). (e.0, view_seq e.1))

-- a name's type goes behind the others, if the name has none
abbrev pub with_type : Name → declared.SeqType → Bound → Bound
with_type x t f = if is_some (found x f) then f else f ++ (x, t) ∷ []
