-- What a process may do with a channel, by its type and the side on which it holds it, and what remains
-- on the same side:
--
--     type                output side   input side    remains
--     Put(A | X)          put           get           X
--     Get(A | X)          get           put           X
--     X (*) Y             fork          split         X and Y
--     X (+) Y             split         fork          X and Y
--     a protocol          hput          hcase         the constructor's type
--     a coprotocol        hcase         hput          the constructor's type
--     TopBot              close, halt   close, halt   nothing
--     Neg(X)              identity      identity      nothing
use Rattle.std.specs.Prelude.{◌≡◌, ℕ, ◌⊎◌, List, [], ◌∷◌, Option, Some, None, if◌then◌else◌, map, slice_get}
use Rattle.campl_tree.specs.declared.place.Ident.{Ident}
use Rattle.campl_tree.specs.declared.service.Side.{Side}
use Rattle.campl_tree.specs.declared.service.Side.TheVariants.{Input, Output}
use Rattle.campl_tree.specs.Side.{opposite}
use Rattle.campl_tree.specs.Plain.SeqType.{SeqType}
use Rattle.campl_tree.specs.Plain.ChanType.{ChanType, Put, Get, Tensor, Par, TopBot, Neg, Named}
use Rattle.campl_tree.specs.Plain.Decl.{ProtocolDecl, ProtocolConstructor, CoprotocolDecl, CoprotocolConstructor}
use Rattle.campl_types.specs.declared.act.Act.{Act}
use Rattle.campl_types.specs.declared.act.Act.TheVariants as act
use Rattle.campl_types.specs.Names.{Name, same_name}
use Rattle.campl_types.specs.Substitution.{Filling, filling, filled, all_filled, list_of, types_of}
use Rattle.campl_types.specs.SameType.{nowhere, bare, bare_chan, IsSameChan}
use Rattle.campl_types.specs.World.{World, TypeEntry, DataType, ProtocolType, CoprotocolType, type_named, names_of, ConstructorEntry, OfData, OfProtocol, OfCoprotocol, constructor_named}

-- The type after a constructor

-- a line's type, where the heading's own name stands for the whole, and each parameter for its argument
abbrev pub at_whole : Name → ChanType → Filling → ChanType → ChanType
at_whole own whole f (Put t x) = Put (filled f t) (at_whole own whole f x)
at_whole own whole f (Get t x) = Get (filled f t) (at_whole own whole f x)
at_whole own whole f (Tensor x y) = Tensor (at_whole own whole f x) (at_whole own whole f y)
at_whole own whole f (Par x y) = Par (at_whole own whole f x) (at_whole own whole f y)
at_whole own whole f TopBot = TopBot
at_whole own whole f (Neg x) = Neg (at_whole own whole f x)
at_whole own whole f (Named at x ts) = if same_name x own then whole else Named at x (all_filled f ts)

abbrev pub line : (local name : Ident) → List Ident → List SeqType → ChanType → ChanType
line local name parameters arguments =
    at_whole local.name (Named nowhere name.name (types_of arguments)) (filling (names_of parameters) arguments)

abbrev after_entry : Option ConstructorEntry → List SeqType → Option ChanType
after_entry (Some (OfProtocol d n k)) arguments = Some (line d.local d.name d.parameters arguments k.channel_type)
after_entry (Some (OfCoprotocol d n k)) arguments = Some (line d.local d.name d.parameters arguments k.channel_type)
after_entry (Some (OfData d n k)) arguments = None
after_entry None arguments = None

-- what remains after a constructor of a protocol or coprotocol that stands at these arguments
abbrev pub after : World → Name → List SeqType → Option ChanType
after w x arguments = after_entry (constructor_named w x) arguments

-- The table

-- the constructors that may be picked or offered, as declared, with the types that remain
abbrev pub Choices : Type 0
Choices = List (Name × ChanType)

-- what may be done, with the value's type and the types that remain
pub data Deed : Type 0 where
  Puts : SeqType → ChanType → Deed
  Gets : SeqType → ChanType → Deed
  Forks : ChanType → ChanType → Deed
  Splits : ChanType → ChanType → Deed
  Picks : Choices → Deed
  Offers : Choices → Deed
  Ends : Deed
  IsLinked : Deed

abbrev pub protocol_choices : ProtocolDecl → List SeqType → Choices
protocol_choices d ts =
    map (λ (k : ProtocolConstructor). (k.name.name, line d.local d.name d.parameters ts k.channel_type)) d.constructors

abbrev pub coprotocol_choices : CoprotocolDecl → List SeqType → Choices
coprotocol_choices d ts =
    map (λ (k : CoprotocolConstructor). (k.name.name, line d.local d.name d.parameters ts k.channel_type)) d.constructors

abbrev pub of_named : Option TypeEntry → Side → List SeqType → Deed
of_named (Some (ProtocolType d)) Output ts = Picks (protocol_choices d ts)
of_named (Some (ProtocolType d)) Input ts = Offers (protocol_choices d ts)
of_named (Some (CoprotocolType d)) Output ts = Offers (coprotocol_choices d ts)
of_named (Some (CoprotocolType d)) Input ts = Picks (coprotocol_choices d ts)
of_named (Some (DataType d)) side ts = IsLinked
of_named None side ts = IsLinked

abbrev pub deed : World → Side → ChanType → Deed
deed w Output (Put t x) = Puts t x
deed w Input (Put t x) = Gets t x
deed w Output (Get t x) = Gets t x
deed w Input (Get t x) = Puts t x
deed w Output (Tensor x y) = Forks x y
deed w Input (Tensor x y) = Splits x y
deed w Output (Par x y) = Splits x y
deed w Input (Par x y) = Forks x y
deed w side (Named at x ts) = of_named (type_named w x) side (list_of ts)
deed w side TopBot = Ends
deed w side (Neg x) = IsLinked

abbrev pub act_of : Deed → Act
act_of (Puts t x) = act.Put
act_of (Gets t x) = act.Get
act_of (Forks x y) = act.Fork
act_of (Splits x y) = act.Split
act_of (Picks cs) = act.Pick
act_of (Offers cs) = act.Offer
act_of Ends = act.End
act_of IsLinked = act.Link

-- the table's entry
abbrev pub allowed : World → ChanType → Side → Act
allowed w t side = act_of (deed w side t)

-- a constructor of a protocol is known by its name, with its number
abbrev pub ProtocolsAreKnown : World → Type 0
ProtocolsAreKnown w =
    (x : Name) (d : ProtocolDecl) (n : ℕ) (k : ProtocolConstructor) → type_named w x ≡ Some (ProtocolType d) → slice_get d.constructors n ≡ Some k
    → constructor_named w k.name.name ≡ Some (OfProtocol d n k)

-- so is one of a coprotocol
abbrev pub CoprotocolsAreKnown : World → Type 0
CoprotocolsAreKnown w =
    (x : Name) (d : CoprotocolDecl) (n : ℕ) (k : CoprotocolConstructor) → type_named w x ≡ Some (CoprotocolType d) → slice_get d.constructors n ≡ Some k
    → constructor_named w k.name.name ≡ Some (OfCoprotocol d n k)

-- Without places

abbrev pub bare_choices : Choices → Choices
bare_choices [] = []
bare_choices (c ∷ cs) = (c.0, bare_chan c.1) ∷ bare_choices cs

abbrev pub bare_deed : Deed → Deed
bare_deed (Puts t x) = Puts (bare t) (bare_chan x)
bare_deed (Gets t x) = Gets (bare t) (bare_chan x)
bare_deed (Forks x y) = Forks (bare_chan x) (bare_chan y)
bare_deed (Splits x y) = Splits (bare_chan x) (bare_chan y)
bare_deed (Picks cs) = Picks (bare_choices cs)
bare_deed (Offers cs) = Offers (bare_choices cs)
bare_deed Ends = Ends
bare_deed IsLinked = IsLinked

-- Partners

-- two ends fit together: one type on opposite sides, or on one side a type and the same behind `Neg`
abbrev pub ArePartners : ChanType → Side → ChanType → Side → Type 0
ArePartners x s y r = ((r ≡ opposite s) × IsSameChan x y) ⊎ ((r ≡ s) × (IsSameChan x (Neg y) ⊎ IsSameChan (Neg x) y))
