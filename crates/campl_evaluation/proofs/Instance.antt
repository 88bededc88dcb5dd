-- A value of what a type is filled to is one of the type.
use Rattle.std.proofs.Common.{List, [], ◌∷◌, map}
use Rattle.campl_tree.specs.Plain.SeqType.{SeqType}
use Rattle.campl_value.specs.Tree.{Tree, trees_of}
use Rattle.campl_types.specs.Substitution.{Filling, filled}
use Rattle.campl_types.specs.Values.{AreValues, AllAreValues}
use Rattle.campl_types.proofs.Instances.{value-of-instance}
use Rattle.campl_types.specs.World.{World}

pub instances-of : (w : World) (vs : List Tree) (f : Filling) (ts : List SeqType) → AllAreValues w vs (map (filled f) ts) → AllAreValues w vs ts
instances-of w [] f [] h = tt
instances-of w (v ∷ vs) f (t ∷ ts) (h, k) = (value-of-instance w v f t h, instances-of w vs f ts k)
instances-of w [] f (t ∷ ts) h = absurd h
instances-of w (v ∷ vs) f [] h = absurd h

-- a constructor's parts, from the list of them
pub parts-of : (w : World) (vs : List Tree) (ts : List SeqType) → AllAreValues w vs ts → AreValues w (trees_of vs) ts
parts-of w [] [] h = tt
parts-of w (v ∷ vs) (t ∷ ts) (h, k) = (h, parts-of w vs ts k)
parts-of w [] (t ∷ ts) h = absurd h
parts-of w (v ∷ vs) [] h = absurd h
