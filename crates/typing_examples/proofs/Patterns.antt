-- The form of each pattern, the types that each pattern fits, and the values that each form matches.
use Rattle.std.proofs.Common.{◌≡◌, refl, pos, negsuc, [], ◌∷◌, Some, None, true, false, codes}
use Rattle.campl_tree.specs.Plain.SeqType as s
use Rattle.campl_tree.specs.Plain.Pattern as p
use Rattle.campl_value.specs.Tree as v
use Rattle.campl_types.specs.Forms.{Form, Anything, Variable, Number, Character, Truth, Nil, Cons, Pair, Built, none, more, form_of}
use Rattle.campl_types.specs.Fits.{fits, all_fit}
use Rattle.campl_types.specs.Names.{Name}
use Rattle.campl_types.specs.Matching.{matched, row_matched, first_match}
use Rattle.campl_types.specs.Prelude.{prelude}
use Rattle.campl_types.specs.World.{World, world_of}
use Rattle.typing_examples.proofs.Sources.{place, ident, named, data_decl, constructor}

abbrev a : p.Pattern
a = p.Variable (place 1 1) (codes "a")

-- Forms

-- _, 7, -7, 'x', True and False
wildcard-form : form_of (p.Wildcard (place 1 1)) ≡ Anything
wildcard-form = refl

number-form : form_of (p.Number (place 1 1) (pos 7)) ≡ Number (pos 7)
number-form = refl

negative-form : form_of (p.Negative (place 1 1) (pos 7)) ≡ Number (negsuc 6)
negative-form = refl

-- -0 is the number 0
negative-zero : form_of (p.Negative (place 1 1) (pos 0)) ≡ form_of (p.Number (place 1 1) (pos 0))
negative-zero = refl

character-form : form_of (p.Character (place 1 1) 120) ≡ Character 120
character-form = refl

truth-forms : (form_of (p.True (place 1 1)) ≡ Truth true) × (form_of (p.False (place 1 1)) ≡ Truth false)
truth-forms = (refl, refl)

-- Just(a)
constructor-form : form_of (p.Constructor (place 1 1) (codes "Just") (p.pattern_then a p.no_patterns)) ≡ Built (codes "Just") (more (Variable (codes "a")) none)
constructor-form = refl

-- [a, _] and a : _ : [] are one form
list-form : form_of (p.List (place 1 1) (p.pattern_then a (p.pattern_then (p.Wildcard (place 1 5)) p.no_patterns))) ≡ form_of (p.Cons (place 1 1) a (p.Cons (place 1 5) (p.Wildcard (place 1 5)) (p.List (place 1 9) p.no_patterns)))
list-form = refl

-- (a, _)
pair-form : form_of (p.Pair (place 1 1) a (p.Wildcard (place 1 5))) ≡ Pair (Variable (codes "a")) Anything
pair-form = refl

-- ""
empty-text : form_of (p.Text (place 1 1) []) ≡ form_of (p.List (place 1 1) p.no_patterns)
empty-text = refl

-- Types

abbrev seven : p.Pattern
seven = p.Number (place 1 1) (pos 7)

abbrev x : p.Pattern
x = p.Variable (place 1 1) (codes "x")

abbrev y : p.Pattern
y = p.Variable (place 1 5) (codes "y")

abbrev nil : p.Pattern
nil = p.List (place 1 1) p.no_patterns

-- so many patterns
abbrev one_pattern : p.Pattern → p.Patterns
one_pattern q = p.pattern_then q p.no_patterns

abbrev two_patterns : p.Pattern → p.Pattern → p.Patterns
two_patterns q r = p.pattern_then q (one_pattern r)

wildcard-fits : fits prelude (p.Wildcard (place 1 1)) (s.List s.Bool) ≡ Some []
wildcard-fits = refl

number-fits : (fits prelude seven s.Int ≡ Some []) × (fits prelude seven s.Char ≡ None)
number-fits = (refl, refl)

negative-fits : (fits prelude (p.Negative (place 1 1) (pos 7)) s.Int ≡ Some []) × (fits prelude (p.Negative (place 1 1) (pos 7)) s.Bool ≡ None)
negative-fits = (refl, refl)

character-fits : (fits prelude (p.Character (place 1 1) 120) s.Char ≡ Some []) × (fits prelude (p.Character (place 1 1) 120) (s.List s.Char) ≡ None)
character-fits = (refl, refl)

-- a text fits [Char] alone, the empty one too
text-fits : (fits prelude (p.Text (place 1 1) (codes "a")) (s.List s.Char) ≡ Some []) × (fits prelude (p.Text (place 1 1) []) (s.List s.Char) ≡ Some [])
text-fits = (refl, refl)

empty-text-is-of-characters : fits prelude (p.Text (place 1 1) []) (s.List s.Int) ≡ None
empty-text-is-of-characters = refl

truth-fits : (fits prelude (p.True (place 1 1)) s.Bool ≡ Some []) × (fits prelude (p.False (place 1 1)) s.Int ≡ None)
truth-fits = (refl, refl)

nil-fits : (fits prelude nil (s.List s.Int) ≡ Some []) × (fits prelude nil s.Int ≡ None)
nil-fits = (refl, refl)

-- [x, 7]
list-fits : (fits prelude (p.List (place 1 1) (two_patterns x seven)) (s.List s.Int) ≡ Some ((codes "x", s.Int) ∷ [])) × (fits prelude (p.List (place 1 1) (two_patterns x seven)) (s.List s.Char) ≡ None)
list-fits = (refl, refl)

-- x : y at [Int]: what stands on the right is newer
cons-fits : fits prelude (p.Cons (place 1 1) x y) (s.List s.Int) ≡ Some ((codes "y", s.List s.Int) ∷ (codes "x", s.Int) ∷ [])
cons-fits = refl

pair-fits : fits prelude (p.Pair (place 1 1) x y) (s.Pair s.Int s.Char) ≡ Some ((codes "y", s.Char) ∷ (codes "x", s.Int) ∷ [])
pair-fits = refl

-- a literal fits no type variable, and a variable does
variable-alone : (fits prelude x (s.Variable (place 1 1) (codes "a")) ≡ Some ((codes "x", s.Variable (place 1 1) (codes "a")) ∷ [])) × (fits prelude seven (s.Variable (place 1 1) (codes "a")) ≡ None)
variable-alone = (refl, refl)

-- data Shape where
--     Dot
--     Bar(Int, Bool)
-- data Other where
--     Only
abbrev shapes : World
shapes =
    world_of
    (data_decl 1 (ident 1 6 (codes "Shape")) [] (constructor (ident 2 5 (codes "Dot")) [] ∷ constructor (ident 3 5 (codes "Bar")) (s.Int ∷ s.Bool ∷ []) ∷ [])
    ∷ data_decl 4 (ident 4 6 (codes "Other")) [] (constructor (ident 5 5 (codes "Only")) [] ∷ [])
    ∷ [])

abbrev shape : s.SeqType
shape = named 6 1 (codes "Shape")

-- a constructor with these parts
abbrev constructed : Name → p.Patterns → p.Pattern
constructed k ps = p.Constructor (place 1 1) k ps

bar-fits : fits shapes (constructed (codes "Bar") (two_patterns x y)) shape ≡ Some ((codes "y", s.Bool) ∷ (codes "x", s.Int) ∷ [])
bar-fits = refl

-- with too few parts, with too many, of another type, of no type, and of a protocol
bar-of-one : fits shapes (constructed (codes "Bar") (one_pattern x)) shape ≡ None
bar-of-one = refl

dot-of-one : fits shapes (constructed (codes "Dot") (one_pattern x)) shape ≡ None
dot-of-one = refl

other-constructor : fits shapes (constructed (codes "Only") p.no_patterns) shape ≡ None
other-constructor = refl

unknown-constructor : fits shapes (constructed (codes "Nothing") p.no_patterns) shape ≡ None
unknown-constructor = refl

protocol's-constructor : fits shapes (constructed (codes "ConsoleClose") p.no_patterns) shape ≡ None
protocol's-constructor = refl

-- a row of patterns for two types
row-fits : (all_fit prelude (two_patterns x nil) (s.Int ∷ s.List s.Int ∷ []) ≡ Some ((codes "x", s.Int) ∷ [])) × (all_fit prelude (one_pattern x) (s.Int ∷ s.Int ∷ []) ≡ None)
row-fits = (refl, refl)

-- Values

abbrev one : Form
one = Variable (codes "x")

abbrev two : Form
two = Variable (codes "y")

number-matches : (matched prelude (Number (negsuc 6)) (v.Int (negsuc 6)) ≡ Some []) × (matched prelude (Number (pos 7)) (v.Int (negsuc 6)) ≡ None)
number-matches = (refl, refl)

character-matches : (matched prelude (Character 120) (v.Char 120) ≡ Some []) × (matched prelude (Character 120) (v.Char 121) ≡ None)
character-matches = (refl, refl)

truth-matches : (matched prelude (Truth false) (v.Truth false) ≡ Some []) × (matched prelude (Truth true) (v.Truth false) ≡ None)
truth-matches = (refl, refl)

nil-matches : (matched prelude Nil v.Nil ≡ Some []) × (matched prelude Nil (v.Cell (v.Int (pos 1)) v.Nil) ≡ None)
nil-matches = (refl, refl)

-- x : y
cons-matches : (matched prelude (Cons one two) (v.Cell (v.Int (pos 1)) v.Nil) ≡ Some ((codes "y", v.Nil) ∷ (codes "x", v.Int (pos 1)) ∷ [])) × (matched prelude (Cons one two) v.Nil ≡ None)
cons-matches = (refl, refl)

-- (7, x)
pair-matches : (matched prelude (Pair (Number (pos 7)) one) (v.Pair (v.Int (pos 7)) v.Nil) ≡ Some ((codes "x", v.Nil) ∷ [])) × (matched prelude (Pair (Number (pos 7)) one) (v.Pair (v.Int (pos 8)) v.Nil) ≡ None)
pair-matches = (refl, refl)

-- Bar(_, x) and Dot, at the second line's constructor
bar-matches : (matched shapes (Built (codes "Bar") (more Anything (more one none))) (v.Built 1 (v.more (v.Int (pos 7)) (v.more (v.Truth true) v.none))) ≡ Some ((codes "x", v.Truth true) ∷ [])) × (matched shapes (Built (codes "Dot") none) (v.Built 1 (v.more (v.Int (pos 7)) (v.more (v.Truth true) v.none))) ≡ None)
bar-matches = (refl, refl)

-- rows of two patterns: the first that matches as a whole
second-row : first_match prelude ((Number (pos 1) ∷ one ∷ []) ∷ (two ∷ Nil ∷ []) ∷ (Anything ∷ Anything ∷ []) ∷ []) (v.Int (pos 2) ∷ v.Nil ∷ []) ≡ Some (1, (codes "y", v.Int (pos 2)) ∷ [])
second-row = refl

no-row : first_match prelude ((Number (pos 1) ∷ []) ∷ []) (v.Int (pos 2) ∷ []) ≡ None
no-row = refl

other-length : row_matched prelude (one ∷ []) [] ≡ None
other-length = refl
