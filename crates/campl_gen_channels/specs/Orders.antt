-- A plug's parts in the order of their peels, as a list.
use Rattle.std.specs.Prelude.{ℕ, ◌-◌, ◌==◌, List, [], ◌∷◌, Option, Some, None, if◌then◌else◌, slice_get}
use Rattle.std.specs.Borrow.{Bor}
use Rattle.campl_tree.specs.declared.place.Ident.{Ident}
use Rattle.campl_tree.specs.declared.service.Side.{Side}
use Rattle.campl_tree.specs.declared.service.Side.TheVariants.{Input, Output}
use Rattle.campl_tree.specs.declared.process.Part.{Part}
use Rattle.campl_tree.specs.Plain.Process.{Body, Header}
use Rattle.campl_tree.specs.View.{view_part}
use Rattle.campl_peel.specs.Numbered.{inputs_in, outputs_in}

-- the names on one side of a header
abbrev pub names_on : Side → Header → List Ident
names_on Input = inputs_in
names_on Output = outputs_in

-- the item with a number from 1 before others, where there is one
abbrev pub put_before : {A : Type 0} → Option A → List A → List A
put_before None rest = rest
put_before (Some x) rest = x ∷ rest

abbrev pub item_at : {A : Type 0} → List A → ℕ → Option A
item_at xs n = if n == 0 then None else slice_get xs (n - 1)

-- the items of these numbers
abbrev pub items_at : {A : Type 0} → List A → List ℕ → List A
items_at xs [] = []
items_at xs (n ∷ ns) = put_before (item_at xs n) (items_at xs ns)

-- a part by reference, as the definitions see it
abbrev pub view_part_at : Bor Part → Header × Body
view_part_at p = view_part p.now
