-- Each entry of the polarity table, views, letters and values.
use Rattle.std.proofs.Common.{◌≡◌, refl, ap, inl, inr, pos, [], ◌∷◌, Some, None, option_map, length, arith, true, codes}
use Rattle.campl_tree.specs.declared.service.Side.TheVariants.{Input, Output}
use Rattle.campl_tree.specs.Plain.SeqType as s
use Rattle.campl_tree.specs.Plain.ChanType.{ChanType, Put, Get, Tensor, Par, TopBot, Neg, Named}
use Rattle.campl_tree.specs.Plain.Decl as d
use Rattle.campl_value.specs.Tree as v
use Rattle.campl_types.specs.SameType.{nowhere}
use Rattle.campl_types.specs.Substitution.{filled}
use Rattle.campl_types.specs.Values.{IsValue}
use Rattle.campl_types.specs.Polarity.{Puts, Gets, Forks, Splits, Picks, Offers, Ends, IsLinked, deed, after, ArePartners}
use Rattle.campl_types.specs.Views.{As, Nothing, view_of, Takes, TakesAll, Word, Pick, TwoEnds}
use Rattle.campl_types.specs.World.{World, world_of}
use Rattle.typing_examples.proofs.Sources.{place, ident, protocol, data_decl, constructor, protocol_decl, line}

abbrev number : ChanType
number = Put s.Int TopBot

-- data Maybe(a) where
--     None
--     Just(a)
-- protocol Bit => S where
--     Zero :: TopBot => S
--     One :: Put(Int | TopBot) => S
-- coprotocol T => Ask(a) where
--     Next :: T => Get(Maybe(a) | Neg(T)) (*) TopBot
abbrev w : World
w =
    world_of
    (data_decl 1 (ident 1 6 (codes "Maybe")) (ident 1 12 (codes "a") ∷ []) (constructor (ident 2 5 (codes "None")) [] ∷ constructor (ident 3 5 (codes "Just")) (s.Variable (place 3 10) (codes "a") ∷ []) ∷ [])
    ∷ protocol_decl 4 (ident 4 10 (codes "Bit")) [] (ident 4 17 (codes "S")) (line (ident 5 5 (codes "Zero")) TopBot (ident 5 23 (codes "S")) ∷ line (ident 6 5 (codes "One")) number (ident 6 33 (codes "S")) ∷ [])
    ∷ d.Coprotocol (record {
      place = place 7 1;
      local = ident 7 12 (codes "T");
      name = ident 7 17 (codes "Ask");
      parameters = ident 7 21 (codes "a") ∷ [];
      constructors = record {
        name = ident 8 5 (codes "Next");
        local = ident 8 13 (codes "T");
        channel_type = Tensor (Get (s.Named (place 8 22) (codes "Maybe") (s.type_then (s.Variable (place 8 28) (codes "a")) s.no_types)) (Neg (protocol 8 37 (codes "T")))) TopBot;
      } ∷ [];
    })
    ∷ [])

abbrev bit : ChanType
bit = protocol 9 1 (codes "Bit")

abbrev ask : ChanType
ask = Named (place 9 1) (codes "Ask") (s.type_then s.Int s.no_types)

-- The table

gets : (deed w Output (Get s.Int TopBot) ≡ Gets s.Int TopBot) × (deed w Input (Get s.Int TopBot) ≡ Puts s.Int TopBot)
gets = (refl, refl)

tensor-in : deed w Input (Tensor number TopBot) ≡ Splits number TopBot
tensor-in = refl

par-in : deed w Input (Par number TopBot) ≡ Forks number TopBot
par-in = refl

protocol-out : deed w Output bit ≡ Picks ((codes "Zero", TopBot) ∷ (codes "One", number) ∷ [])
protocol-out = refl

protocol-in : deed w Input bit ≡ Offers ((codes "Zero", TopBot) ∷ (codes "One", number) ∷ [])
protocol-in = refl

-- after Next of Ask(Int): T is Ask(Int), and a is Int
abbrev next : ChanType
next =
    Tensor
    (Get (s.Named (place 8 22) (codes "Maybe") (s.type_then s.Int s.no_types)) (Neg (Named nowhere (codes "Ask") (s.type_then s.Int s.no_types))))
    TopBot

coprotocol-out : deed w Output ask ≡ Offers ((codes "Next", next) ∷ [])
coprotocol-out = refl

coprotocol-in : deed w Input ask ≡ Picks ((codes "Next", next) ∷ [])
coprotocol-in = refl

ends : (deed w Output TopBot ≡ Ends) × (deed w Input TopBot ≡ Ends)
ends = (refl, refl)

linked : (deed w Output (Neg bit) ≡ IsLinked) × (deed w Input (Neg bit) ≡ IsLinked)
linked = (refl, refl)

-- a data type and an unknown one are no channel's
no-channel : (deed w Input (protocol 9 1 (codes "Maybe")) ≡ IsLinked) × (deed w Output (protocol 9 1 (codes "Other")) ≡ IsLinked)
no-channel = (refl, refl)

after-next : after w (codes "Next") (s.Int ∷ []) ≡ Some next
after-next = refl

-- a constructor of data leaves no channel's type
after-just : after w (codes "Just") (s.Int ∷ []) ≡ None
after-just = refl

-- parameters are replaced all at once: what stands for one isn't looked into
swapped : filled ((codes "a", s.Variable (place 1 1) (codes "b")) ∷ (codes "b", s.List s.Char) ∷ []) (s.Named (place 2 1) (codes "Both") (s.type_then (s.Variable (place 2 6) (codes "a")) (s.type_then (s.List (s.Variable (place 2 9) (codes "b"))) s.no_types))) ≡ s.Named (place 2 1) (codes "Both") (s.type_then (s.Variable (place 1 1) (codes "b")) (s.type_then (s.List (s.List s.Char)) s.no_types))
swapped = refl

-- Partners

negated-beside : ArePartners (Neg bit) Input bit Input
negated-beside = inr (refl, inl refl)

beside-negated : ArePartners bit Output (Neg bit) Output
beside-negated = inr (refl, inr refl)

no-partners : ArePartners bit Input bit Input → ⊥
no-partners (inl (i, j)) = cc i
no-partners (inr (i, inl j)) = cc j
no-partners (inr (i, inr j)) = cc j

-- Views and letters

own-views : (view_of Input number ≡ As Input number) × (view_of Output bit ≡ As Output bit)
own-views = (refl, refl)

negated-view : view_of Input (Neg ask) ≡ As Output ask
negated-view = refl

-- a word by `get`, and not of another type
takes-number : Takes w (As Output (Get s.Int (Neg bit))) (Word (v.Int (pos 7))) (As Input bit)
takes-number = (tt, refl)

takes-no-text : Takes w (As Input number) (Word v.Nil) (As Input TopBot) → ⊥
takes-no-text (i, j) = i

-- a pick by `hcase`, by its line
takes-pick : Takes w (As Input bit) (Pick 1) (As Input number)
takes-pick = (_, _, refl, refl)

takes-no-third : Takes w (As Input bit) (Pick 2) (As Input TopBot) → ⊥
takes-no-third (x, t, i, j) = cc i

-- two ends by `split`, after which there is nothing
takes-ends : Takes w (As Input (Tensor number TopBot)) TwoEnds Nothing
takes-ends = refl

-- at a `put` nothing is taken, nor where there is nothing
takes-no-word : Takes w (As Output number) (Word (v.Int (pos 7))) (As Output TopBot) → ⊥
takes-no-word i = i

nothing-takes : Takes w Nothing TwoEnds Nothing → ⊥
nothing-takes i = i

-- letters in order: One, and its number
takes-both : TakesAll w (As Input bit) (Pick 1 ∷ Word (v.Int (pos 7)) ∷ []) (As Input TopBot)
takes-both = (_, (_, _, refl, refl), (_, (tt, refl), refl))

-- Values

-- ([True], 'a')
pair-value : IsValue w (v.Pair (v.Cell (v.Truth true) v.Nil) (v.Char 97)) (s.Pair (s.List s.Bool) s.Char)
pair-value = ((tt, tt), tt)

-- Just(7) is a Maybe(Int), and no Maybe(Char)
just-seven : IsValue w (v.Built 1 (v.more (v.Int (pos 7)) v.none)) (s.Named (place 9 1) (codes "Maybe") (s.type_then s.Int s.no_types))
just-seven = (_, _, refl, refl, refl, (tt, tt))

-- nor is it a value of Maybe without an argument, where a function could take the 7 for whatever it likes
no-arguments : IsValue w (v.Built 1 (v.more (v.Int (pos 7)) v.none)) (s.Named (place 9 1) (codes "Maybe") s.no_types) → ⊥
no-arguments (e, k, i, j, long, h) =
    let one : Some 1 ≡ Some (length e.parameters) = ap (option_map (λ (c : d.DataDecl). length c.parameters)) i in
    let n : 1 ≡ length e.parameters = cc one in
    omega (arith, n, long)

-- of a type variable is any value
any-value : IsValue w (v.Built 5 v.none) (s.Variable (place 9 1) (codes "a"))
any-value = tt
