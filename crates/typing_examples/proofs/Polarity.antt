-- The polarity table at work, on the prelude's protocols.
use Rattle.std.proofs.Common.{◌≡◌, refl, pos, inl, [], ◌∷◌, Some, None, codes}
use Rattle.campl_tree.specs.declared.service.Side.TheVariants.{Input, Output}
use Rattle.campl_tree.specs.Plain.SeqType as s
use Rattle.campl_tree.specs.Plain.ChanType.{ChanType, Put, Get, Tensor, Par, TopBot, Neg, Named}
use Rattle.campl_types.specs.declared.act.Act.TheVariants as act
use Rattle.campl_types.specs.Polarity.{Puts, Gets, Forks, Splits, deed, allowed, after, ArePartners}
use Rattle.campl_types.specs.SameType.{nowhere, IsSame}
use Rattle.campl_types.specs.Substitution.{filled}
use Rattle.campl_types.specs.Views.{As, view_of, Takes, Word}
use Rattle.campl_types.specs.Prelude.{prelude}
use Rattle.campl_types.specs.World.{World, world_of}
use Rattle.campl_value.specs.Tree as v
use Rattle.typing_examples.proofs.Sources.{place, ident, named, protocol, protocol_decl, line}

replaced : filled ((codes "a", s.Int) ∷ []) (s.Pair (s.Variable (place 1 1) (codes "a")) (s.Variable (place 1 4) (codes "b"))) ≡ s.Pair s.Int (s.Variable (place 1 4) (codes "b"))
replaced = refl

same-elsewhere : IsSame (named 1 1 (codes "Maybe")) (named 2 7 (codes "Maybe"))
same-elsewhere = refl

abbrev text : s.SeqType
text = s.List s.Char

abbrev console : ChanType
console = protocol 1 1 (codes "Console")

put-out : deed prelude Output (Put s.Int TopBot) ≡ Puts s.Int TopBot
put-out = refl

put-in : deed prelude Input (Put s.Int TopBot) ≡ Gets s.Int TopBot
put-in = refl

fork-out : deed prelude Output (Tensor TopBot console) ≡ Forks TopBot console
fork-out = refl

split-out : deed prelude Output (Par TopBot console) ≡ Splits TopBot console
split-out = refl

-- the console's user holds it as an input, and picks
picks : allowed prelude console Input ≡ act.Pick
picks = refl

offers : allowed prelude console Output ≡ act.Offer
offers = refl

terminal-picks : allowed prelude (protocol 1 1 (codes "StringTerminal")) Output ≡ act.Pick
terminal-picks = refl

ends : allowed prelude TopBot Input ≡ act.End
ends = refl

linked : allowed prelude (Neg console) Output ≡ act.Link
linked = refl

after-put : after prelude (codes "ConsolePut") [] ≡ Some (Get text (Named nowhere (codes "Console") s.no_types))
after-put = refl

after-nothing : after prelude (codes "Other") [] ≡ None
after-nothing = refl

-- protocol Box(a) => S where
--     Give :: Put(a | S) => S
-- at Int
abbrev boxes : World
boxes = world_of (protocol_decl 1 (ident 1 10 (codes "Box")) (ident 1 14 (codes "a") ∷ []) (ident 1 20 (codes "S")) (line (ident 2 5 (codes "Give")) (Put (s.Variable (place 2 17) (codes "a")) (protocol 2 21 (codes "S"))) (ident 2 27 (codes "S")) ∷ []) ∷ [])

after-give : after boxes (codes "Give") (s.Int ∷ []) ≡ Some (Put s.Int (Named nowhere (codes "Box") (s.type_then s.Int s.no_types)))
after-give = refl

negated-view : view_of Output (Neg (Neg (Neg TopBot))) ≡ As Input TopBot
negated-view = refl

takes-a-word : Takes prelude (As Input (Put s.Int TopBot)) (Word (v.Int (pos 3))) (As Input TopBot)
takes-a-word = (tt, refl)

facing : ArePartners console Input (protocol 9 9 (codes "Console")) Output
facing = inl (refl, refl)
