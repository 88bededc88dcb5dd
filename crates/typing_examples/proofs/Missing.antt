-- Missing patterns, and values against patterns.
use Rattle.std.proofs.Common.{◌≡◌, refl, pos, [], ◌∷◌, Some, None, true, false, codes}
use Rattle.campl_tree.specs.Plain.SeqType as s
use Rattle.campl_tree.specs.Plain.Pattern as p
use Rattle.campl_value.specs.Tree as v
use Rattle.campl_types.specs.Forms.{Anything, Variable, Number, Truth, Nil, Cons, Built, Character, none, more, form_of}
use Rattle.campl_types.specs.Fits.{fits}
use Rattle.campl_types.specs.Matching.{matched, first_match}
use Rattle.campl_types.specs.Missing.{missing}
use Rattle.campl_types.specs.Prelude.{prelude}
use Rattle.campl_types.specs.World.{World, world_of}
use Rattle.typing_examples.proofs.Sources.{place, ident, data_decl, constructor}

-- data Maybe(a) where
--     None
--     Just(a)
abbrev maybe : World
maybe = world_of (data_decl 1 (ident 1 6 (codes "Maybe")) (ident 1 12 (codes "a") ∷ []) (constructor (ident 2 5 (codes "None")) [] ∷ constructor (ident 3 5 (codes "Just")) (s.Variable (place 3 10) (codes "a") ∷ []) ∷ []) ∷ [])

abbrev maybe_int : s.SeqType
maybe_int = s.Named (place 5 1) (codes "Maybe") (s.type_then s.Int s.no_types)

text-form : form_of (p.Text (place 1 1) (codes "a")) ≡ Cons (Character 97) Nil
text-form = refl

-- Just(x) at Maybe(Int)
just-fits : fits maybe (p.Constructor (place 1 1) (codes "Just") (p.pattern_then (p.Variable (place 1 6) (codes "x")) p.no_patterns)) maybe_int ≡ Some ((codes "x", s.Int) ∷ [])
just-fits = refl

just-is-no-int : fits maybe (p.Constructor (place 1 1) (codes "Just") (p.pattern_then (p.Variable (place 1 6) (codes "x")) p.no_patterns)) s.Int ≡ None
just-is-no-int = refl

just-matches : matched maybe (Built (codes "Just") (more (Variable (codes "x")) none)) (v.Built 1 (v.more (v.Int (pos 3)) v.none)) ≡ Some ((codes "x", v.Int (pos 3)) ∷ [])
just-matches = refl

first-row : first_match prelude ((Truth true ∷ []) ∷ (Anything ∷ []) ∷ []) (v.Truth false ∷ []) ≡ Some (1, [])
first-row = refl

no-rows : missing prelude [] (s.Int ∷ s.Bool ∷ []) ≡ Some (Anything ∷ Anything ∷ [])
no-rows = refl

true-alone : missing prelude ((Truth true ∷ []) ∷ []) (s.Bool ∷ []) ≡ Some (Truth false ∷ [])
true-alone = refl

both-truths : missing prelude ((Truth true ∷ []) ∷ (Truth false ∷ []) ∷ []) (s.Bool ∷ []) ≡ None
both-truths = refl

-- [] and x : [] leave lists of two and more
two-and-more : missing prelude ((Nil ∷ []) ∷ (Cons (Variable (codes "x")) Nil ∷ []) ∷ []) (s.List s.Int ∷ []) ≡ Some (Cons Anything (Cons Anything Anything) ∷ [])
two-and-more = refl

another-number : missing prelude ((Number (pos 3) ∷ []) ∷ []) (s.Int ∷ []) ≡ Some (Anything ∷ [])
another-number = refl

-- the literal's row asks more of the second column
with-a-literal : missing prelude ((Number (pos 3) ∷ Truth true ∷ []) ∷ (Anything ∷ Truth false ∷ []) ∷ []) (s.Int ∷ s.Bool ∷ []) ≡ Some (Anything ∷ Truth true ∷ [])
with-a-literal = refl

just-is-missing : missing maybe ((Built (codes "None") none ∷ []) ∷ []) (maybe_int ∷ []) ≡ Some (Built (codes "Just") (more Anything none) ∷ [])
just-is-missing = refl
