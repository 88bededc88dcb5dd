-- What is missing, by each of its rules.
use Rattle.std.proofs.Common.{◌≡◌, refl, pos, negsuc, [], ◌∷◌, Some, None, true, false, codes}
use Rattle.campl_tree.specs.Plain.SeqType as s
use Rattle.campl_types.specs.Forms.{Anything, Variable, Number, Character, Truth, Nil, Cons, Pair, Built, none, more}
use Rattle.campl_types.specs.Missing.{missing}
use Rattle.campl_types.specs.Prelude.{prelude}
use Rattle.campl_types.specs.World.{World, world_of}
use Rattle.typing_examples.proofs.Sources.{place, ident, named, data_decl, constructor}

-- of no types: the empty list where there is no row
no-types : (missing prelude [] [] ≡ Some []) × (missing prelude ([] ∷ []) [] ≡ None)
no-types = (refl, refl)

-- a first column of variables and _ alone
open-column : missing prelude ((Anything ∷ Truth true ∷ []) ∷ (Variable (codes "x") ∷ Truth true ∷ []) ∷ []) (s.Int ∷ s.Bool ∷ []) ≡ Some (Anything ∷ Truth false ∷ [])
open-column = refl

-- True is tried before False, and [] before a list with a head
true-first : missing prelude ((Truth false ∷ Nil ∷ []) ∷ (Truth true ∷ Cons Anything Anything ∷ []) ∷ []) (s.Bool ∷ s.List s.Int ∷ []) ≡ Some (Truth true ∷ Nil ∷ [])
true-first = refl

nil-first : missing prelude ((Cons Anything Anything ∷ []) ∷ []) (s.List s.Int ∷ []) ≡ Some (Nil ∷ [])
nil-first = refl

-- a pair is put back round its parts
pairs : missing prelude ((Pair (Truth true) Anything ∷ []) ∷ (Pair (Truth false) (Truth true) ∷ []) ∷ []) (s.Pair s.Bool s.Bool ∷ []) ≡ Some (Pair (Truth false) (Truth false) ∷ [])
pairs = refl

-- literals are tried in the order in which they stand, and any other last
at-a-literal : missing prelude ((Number (pos 9) ∷ Truth true ∷ []) ∷ (Number (negsuc 0) ∷ Truth true ∷ []) ∷ (Anything ∷ Truth true ∷ []) ∷ []) (s.Int ∷ s.Bool ∷ []) ≡ Some (Number (pos 9) ∷ Truth false ∷ [])
at-a-literal = refl

at-the-second : missing prelude ((Number (pos 9) ∷ Anything ∷ []) ∷ (Number (negsuc 0) ∷ Truth true ∷ []) ∷ (Anything ∷ Truth true ∷ []) ∷ []) (s.Int ∷ s.Bool ∷ []) ≡ Some (Number (negsuc 0) ∷ Truth false ∷ [])
at-the-second = refl

at-another : missing prelude ((Character 97 ∷ Anything ∷ []) ∷ (Anything ∷ Truth false ∷ []) ∷ []) (s.Char ∷ s.Bool ∷ []) ≡ Some (Anything ∷ Truth true ∷ [])
at-another = refl

every-number : missing prelude ((Number (pos 9) ∷ []) ∷ (Variable (codes "x") ∷ []) ∷ []) (s.Int ∷ []) ≡ None
every-number = refl

-- data Shape where
--     Dot
--     Bar(Int, Bool)
--     Box
-- in the order of its lines
abbrev shapes : World
shapes = world_of (data_decl 1 (ident 1 6 (codes "Shape")) [] (constructor (ident 2 5 (codes "Dot")) [] ∷ constructor (ident 3 5 (codes "Bar")) (s.Int ∷ s.Bool ∷ []) ∷ constructor (ident 4 5 (codes "Box")) [] ∷ []) ∷ [])

abbrev shape : s.SeqType
shape = named 5 1 (codes "Shape")

bar-before-box : missing shapes ((Built (codes "Dot") none ∷ []) ∷ (Built (codes "Bar") (more Anything (more (Truth true) none)) ∷ []) ∷ []) (shape ∷ []) ≡ Some (Built (codes "Bar") (more Anything (more (Truth false) none)) ∷ [])
bar-before-box = refl

-- and what follows it in the row
behind-bar : missing shapes ((Built (codes "Bar") (more Anything (more Anything none)) ∷ Truth true ∷ []) ∷ (Anything ∷ Truth false ∷ []) ∷ []) (shape ∷ s.Bool ∷ []) ≡ Some (Built (codes "Dot") none ∷ Truth true ∷ [])
behind-bar = refl

every-shape : missing shapes ((Built (codes "Box") none ∷ []) ∷ (Built (codes "Bar") (more Anything (more Anything none)) ∷ []) ∷ (Built (codes "Dot") none ∷ []) ∷ []) (shape ∷ []) ≡ None
every-shape = refl

-- a value of a type variable is any value
of-a-variable : missing prelude ((Anything ∷ []) ∷ []) (s.Variable (place 1 1) (codes "a") ∷ []) ≡ None
of-a-variable = refl
