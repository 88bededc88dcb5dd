-- The table of what may be done doesn't see places.
use Rattle.std.proofs.Common.{◌≡◌, ◌∙◌, refl, sym, ap, Bool, true, false, List, [], ◌∷◌, Option, Some, None, if◌then◌else◌, unwrap_or, map}
use Rattle.campl_tree.specs.declared.place.Place.{Place}
use Rattle.campl_tree.specs.declared.service.Side.{Side}
use Rattle.campl_tree.specs.declared.service.Side.TheVariants.{Input, Output}
use Rattle.campl_tree.specs.Plain.SeqType.{SeqType, SeqTypes, no_types, type_then, Variable}
use Rattle.campl_tree.specs.Plain.SeqType as s
use Rattle.campl_tree.specs.Plain.ChanType.{ChanType, Put, Get, Tensor, Par, TopBot, Neg, Named}
use Rattle.campl_tree.specs.Plain.Decl.{ProtocolDecl, ProtocolConstructor, CoprotocolDecl, CoprotocolConstructor}
use Rattle.campl_types.specs.Names.{Name, same_name, found}
use Rattle.campl_types.specs.SameType.{nowhere, bare, all_bare, bare_chan}
use Rattle.campl_types.specs.Substitution.{filling, filled, all_filled, list_of, types_of}
use Rattle.campl_types.specs.World.{World, TypeEntry, DataType, ProtocolType, CoprotocolType, type_named, names_of}
use Rattle.campl_types.specs.Polarity.{Deed, Puts, Gets, Forks, Splits, Picks, Offers, Choices, deed, of_named, line, at_whole, bare_choices, bare_deed}

-- Types without places

mutual
  pub bare-twice : (t : SeqType) → bare (bare t) ≡ bare t
  bare-twice s.Int = refl
  bare-twice s.Char = refl
  bare-twice s.Bool = refl
  bare-twice (s.List t) = ap s.List (bare-twice t)
  bare-twice (s.Pair t u) = let p = bare-twice t in let q = bare-twice u in λ k. s.Pair (p k) (q k)
  bare-twice (s.Named at x ts) = ap (s.Named nowhere x) (all-bare-twice ts)
  bare-twice (Variable at x) = refl

  pub all-bare-twice : (ts : SeqTypes) → all_bare (all_bare ts) ≡ all_bare ts
  all-bare-twice no_types = refl
  all-bare-twice (type_then t ts) = let p = bare-twice t in let q = all-bare-twice ts in λ k. type_then (p k) (q k)

pub bare-chan-twice : (t : ChanType) → bare_chan (bare_chan t) ≡ bare_chan t
bare-chan-twice (Put t x) = let p = bare-twice t in let q = bare-chan-twice x in λ k. Put (p k) (q k)
bare-chan-twice (Get t x) = let p = bare-twice t in let q = bare-chan-twice x in λ k. Get (p k) (q k)
bare-chan-twice (Tensor x y) = let p = bare-chan-twice x in let q = bare-chan-twice y in λ k. Tensor (p k) (q k)
bare-chan-twice (Par x y) = let p = bare-chan-twice x in let q = bare-chan-twice y in λ k. Par (p k) (q k)
bare-chan-twice TopBot = refl
bare-chan-twice (Neg x) = ap Neg (bare-chan-twice x)
bare-chan-twice (Named at x ts) = ap (Named nowhere x) (all-bare-twice ts)

-- Lines at arguments without places

pub stands-bare : (xs : List Name) (ts : SeqTypes) (at : Place) (x : Name)
    → bare (unwrap_or (found x (filling xs (list_of ts))) (Variable at x)) ≡ bare (unwrap_or (found x (filling xs (list_of (all_bare ts)))) (Variable at x))
stands-bare [] ts at x = refl
stands-bare (y ∷ xs) no_types at x = refl
stands-bare (y ∷ xs) (type_then t ts) at x = go (same_name x y) (stands-bare xs ts at x)
  where
    go : (b : Bool)
        → bare (unwrap_or (found x (filling xs (list_of ts))) (Variable at x)) ≡ bare (unwrap_or (found x (filling xs (list_of (all_bare ts)))) (Variable at x))
        → bare (unwrap_or (if b then Some t else found x (filling xs (list_of ts))) (Variable at x)) ≡ bare (unwrap_or (if b then Some (bare t) else found x (filling xs (list_of (all_bare ts)))) (Variable at x))
    go true later = sym (bare-twice t)
    go false later = later

mutual
  pub part-bare : (xs : List Name) (ts : SeqTypes) (p : SeqType) → bare (filled (filling xs (list_of ts)) p) ≡ bare (filled (filling xs (list_of (all_bare ts))) p)
  part-bare xs ts s.Int = refl
  part-bare xs ts s.Char = refl
  part-bare xs ts s.Bool = refl
  part-bare xs ts (s.List p) = ap s.List (part-bare xs ts p)
  part-bare xs ts (s.Pair p q) = let i = part-bare xs ts p in let j = part-bare xs ts q in λ k. s.Pair (i k) (j k)
  part-bare xs ts (s.Named at x ps) = ap (s.Named nowhere x) (all-part-bare xs ts ps)
  part-bare xs ts (Variable at x) = stands-bare xs ts at x

  pub all-part-bare : (xs : List Name) (ts ps : SeqTypes) → all_bare (all_filled (filling xs (list_of ts)) ps) ≡ all_bare (all_filled (filling xs (list_of (all_bare ts))) ps)
  all-part-bare xs ts no_types = refl
  all-part-bare xs ts (type_then p ps) = let i = part-bare xs ts p in let j = all-part-bare xs ts ps in λ k. type_then (i k) (j k)

pub types-again : (ts : SeqTypes) → types_of (list_of ts) ≡ ts
types-again no_types = refl
types-again (type_then t ts) = ap (type_then t) (types-again ts)

whole-bare : (name : Name) (ts : SeqTypes) → bare_chan (Named nowhere name (types_of (list_of ts))) ≡ bare_chan (Named nowhere name (types_of (list_of (all_bare ts))))
whole-bare name ts =
    ap (λ us. Named nowhere name (all_bare us)) (types-again ts)
    ∙ (ap (Named nowhere name) (sym (all-bare-twice ts)) ∙ ap (λ us. Named nowhere name (all_bare us)) (sym (types-again (all_bare ts))))

pub line-bare : (own name : Name) (ps : List Name) (ts : SeqTypes) (c : ChanType)
    → bare_chan (at_whole own (Named nowhere name (types_of (list_of ts))) (filling ps (list_of ts)) c)
    ≡ bare_chan (at_whole own (Named nowhere name (types_of (list_of (all_bare ts)))) (filling ps (list_of (all_bare ts))) c)
line-bare own name ps ts (Put t x) = let p = part-bare ps ts t in let q = line-bare own name ps ts x in λ k. Put (p k) (q k)
line-bare own name ps ts (Get t x) = let p = part-bare ps ts t in let q = line-bare own name ps ts x in λ k. Get (p k) (q k)
line-bare own name ps ts (Tensor x y) = let p = line-bare own name ps ts x in let q = line-bare own name ps ts y in λ k. Tensor (p k) (q k)
line-bare own name ps ts (Par x y) = let p = line-bare own name ps ts x in let q = line-bare own name ps ts y in λ k. Par (p k) (q k)
line-bare own name ps ts TopBot = refl
line-bare own name ps ts (Neg x) = ap Neg (line-bare own name ps ts x)
line-bare own name ps ts (Named at x us) = go (same_name x own)
  where
    go : (b : Bool)
        → bare_chan (if b then Named nowhere name (types_of (list_of ts)) else Named at x (all_filled (filling ps (list_of ts)) us))
        ≡ bare_chan (if b then Named nowhere name (types_of (list_of (all_bare ts))) else Named at x (all_filled (filling ps (list_of (all_bare ts))) us))
    go true = whole-bare name ts
    go false = ap (Named nowhere x) (all-part-bare ps ts us)

-- Deeds without places

protocol-bare : (d : ProtocolDecl) (ts : SeqTypes) (ks : List ProtocolConstructor)
    → bare_choices (map (λ (k : ProtocolConstructor). (k.name.name, line d.local d.name d.parameters (list_of ts) k.channel_type)) ks)
    ≡ bare_choices (map (λ (k : ProtocolConstructor). (k.name.name, line d.local d.name d.parameters (list_of (all_bare ts)) k.channel_type)) ks)
protocol-bare d ts [] = refl
protocol-bare d ts (k ∷ ks) =
    let p = line-bare d.local.name d.name.name (names_of d.parameters) ts k.channel_type in
    let q = protocol-bare d ts ks in
    λ i. (k.name.name, p i) ∷ q i

coprotocol-bare : (d : CoprotocolDecl) (ts : SeqTypes) (ks : List CoprotocolConstructor)
    → bare_choices (map (λ (k : CoprotocolConstructor). (k.name.name, line d.local d.name d.parameters (list_of ts) k.channel_type)) ks)
    ≡ bare_choices (map (λ (k : CoprotocolConstructor). (k.name.name, line d.local d.name d.parameters (list_of (all_bare ts)) k.channel_type)) ks)
coprotocol-bare d ts [] = refl
coprotocol-bare d ts (k ∷ ks) =
    let p = line-bare d.local.name d.name.name (names_of d.parameters) ts k.channel_type in
    let q = coprotocol-bare d ts ks in
    λ i. (k.name.name, p i) ∷ q i

named-bare : (e : Option TypeEntry) (side : Side) (ts : SeqTypes) → bare_deed (of_named e side (list_of ts)) ≡ bare_deed (of_named e side (list_of (all_bare ts)))
named-bare (Some (ProtocolType d)) Output ts = ap Picks (protocol-bare d ts d.constructors)
named-bare (Some (ProtocolType d)) Input ts = ap Offers (protocol-bare d ts d.constructors)
named-bare (Some (CoprotocolType d)) Output ts = ap Offers (coprotocol-bare d ts d.constructors)
named-bare (Some (CoprotocolType d)) Input ts = ap Picks (coprotocol-bare d ts d.constructors)
named-bare (Some (DataType d)) side ts = refl
named-bare None side ts = refl

-- what may be done is the same up to places
pub deed-bare : (w : World) (side : Side) (t : ChanType) → bare_deed (deed w side t) ≡ bare_deed (deed w side (bare_chan t))
deed-bare w Output (Put t x) = let p = bare-twice t in let q = bare-chan-twice x in λ k. Puts (sym p k) (sym q k)
deed-bare w Input (Put t x) = let p = bare-twice t in let q = bare-chan-twice x in λ k. Gets (sym p k) (sym q k)
deed-bare w Output (Get t x) = let p = bare-twice t in let q = bare-chan-twice x in λ k. Gets (sym p k) (sym q k)
deed-bare w Input (Get t x) = let p = bare-twice t in let q = bare-chan-twice x in λ k. Puts (sym p k) (sym q k)
deed-bare w Output (Tensor x y) = let p = bare-chan-twice x in let q = bare-chan-twice y in λ k. Forks (sym p k) (sym q k)
deed-bare w Input (Tensor x y) = let p = bare-chan-twice x in let q = bare-chan-twice y in λ k. Splits (sym p k) (sym q k)
deed-bare w Output (Par x y) = let p = bare-chan-twice x in let q = bare-chan-twice y in λ k. Splits (sym p k) (sym q k)
deed-bare w Input (Par x y) = let p = bare-chan-twice x in let q = bare-chan-twice y in λ k. Forks (sym p k) (sym q k)
deed-bare w Output (Named at x ts) = named-bare (type_named w x) Output ts
deed-bare w Input (Named at x ts) = named-bare (type_named w x) Input ts
deed-bare w Output TopBot = refl
deed-bare w Input TopBot = refl
deed-bare w Output (Neg x) = refl
deed-bare w Input (Neg x) = refl

-- What a deed without places is one of

pub puts-of : (d : Deed) (t : SeqType) (x : ChanType) → bare_deed d ≡ Puts t x → (u : SeqType) × (y : ChanType) × (d ≡ Puts u y) × (bare u ≡ t) × (bare_chan y ≡ x)
puts-of (Puts u y) t x e = (u, y, refl, cc e, cc e)
puts-of d t x e = absurd (cc e)

pub gets-of : (d : Deed) (t : SeqType) (x : ChanType) → bare_deed d ≡ Gets t x → (u : SeqType) × (y : ChanType) × (d ≡ Gets u y) × (bare u ≡ t) × (bare_chan y ≡ x)
gets-of (Gets u y) t x e = (u, y, refl, cc e, cc e)
gets-of d t x e = absurd (cc e)

pub picks-of : (d : Deed) (cs : Choices) → bare_deed d ≡ Picks cs → (bs : Choices) × (d ≡ Picks bs) × (bare_choices bs ≡ cs)
picks-of (Picks bs) cs e = (bs, refl, cc e)
picks-of d cs e = absurd (cc e)

pub offers-of : (d : Deed) (cs : Choices) → bare_deed d ≡ Offers cs → (bs : Choices) × (d ≡ Offers bs) × (bare_choices bs ≡ cs)
offers-of (Offers bs) cs e = (bs, refl, cc e)
offers-of d cs e = absurd (cc e)
