-- The choices of a deed are the lines of a declared protocol or coprotocol, numbered from 0.
use Rattle.std.proofs.Common.{◌≡◌, ◌≢◌, ◌∙◌, refl, sym, ap, subst, ℕ, zero, suc, Bool, true, false, ◌⊎◌, inl, inr, List, [], ◌∷◌, Option, Some, None, if◌then◌else◌, map, slice_get, option_map}
use Rattle.campl_tree.specs.declared.service.Side.{Side}
use Rattle.campl_tree.specs.declared.service.Side.TheVariants.{Input, Output}
use Rattle.campl_tree.specs.Plain.SeqType.{SeqType}
use Rattle.campl_tree.specs.Plain.ChanType.{ChanType, Put, Get, Tensor, Par, TopBot, Neg, Named}
use Rattle.campl_tree.specs.Plain.Decl.{ProtocolDecl, CoprotocolDecl, ProtocolConstructor, CoprotocolConstructor}
use Rattle.campl_types.specs.Names.{Name, same_name, found}
use Rattle.campl_types.specs.Substitution.{list_of}
use Rattle.campl_types.specs.World.{World, TypeEntry, DataType, ProtocolType, CoprotocolType, type_named, OfProtocol, OfCoprotocol, number_in, constructor_named}
use Rattle.campl_types.specs.Matching.{number_of}
use Rattle.campl_types.specs.Polarity.{ProtocolsAreKnown, CoprotocolsAreKnown, Deed, Picks, Offers, Choices, deed, of_named, protocol_choices, coprotocol_choices, line}
use Rattle.campl_types.proofs.Names.{same-is}

abbrev pub AreChoices : World → Choices → Type 0
AreChoices w cs =
    ((x : Name) × (d : ProtocolDecl) × (ts : List SeqType) × (type_named w x ≡ Some (ProtocolType d)) × (cs ≡ protocol_choices d ts))
    ⊎ ((x : Name) × (d : CoprotocolDecl) × (ts : List SeqType) × (type_named w x ≡ Some (CoprotocolType d)) × (cs ≡ coprotocol_choices d ts))

abbrev pub MayChoose : Deed → Choices → Type 0
MayChoose d cs = (d ≡ Picks cs) ⊎ (d ≡ Offers cs)

named-choices : (w : World) (x : Name) (e : Option TypeEntry) (s : Side) (ts : List SeqType) (cs : Choices) → type_named w x ≡ e → MayChoose (of_named e s ts) cs → AreChoices w cs
named-choices w x (Some (ProtocolType d)) Output ts cs i (inl j) = inl (x, d, ts, i, cc j)
named-choices w x (Some (ProtocolType d)) Output ts cs i (inr j) = absurd (cc j)
named-choices w x (Some (ProtocolType d)) Input ts cs i (inl j) = absurd (cc j)
named-choices w x (Some (ProtocolType d)) Input ts cs i (inr j) = inl (x, d, ts, i, cc j)
named-choices w x (Some (CoprotocolType d)) Output ts cs i (inl j) = absurd (cc j)
named-choices w x (Some (CoprotocolType d)) Output ts cs i (inr j) = inr (x, d, ts, i, cc j)
named-choices w x (Some (CoprotocolType d)) Input ts cs i (inl j) = inr (x, d, ts, i, cc j)
named-choices w x (Some (CoprotocolType d)) Input ts cs i (inr j) = absurd (cc j)
named-choices w x (Some (DataType d)) s ts cs i (inl j) = absurd (cc j)
named-choices w x (Some (DataType d)) s ts cs i (inr j) = absurd (cc j)
named-choices w x None s ts cs i (inl j) = absurd (cc j)
named-choices w x None s ts cs i (inr j) = absurd (cc j)

none-chosen : {A : Type 0} (d : Deed) (cs : Choices) → MayChoose d cs → ((bs : Choices) → d ≢ Picks bs) → ((bs : Choices) → d ≢ Offers bs) → A
none-chosen d cs (inl i) h k = absurd (h cs i)
none-chosen d cs (inr i) h k = absurd (k cs i)

pub choices-of : (w : World) (s : Side) (u : ChanType) (cs : Choices) → MayChoose (deed w s u) cs → AreChoices w cs
choices-of w Output (Named at x ts) cs h = named-choices w x (type_named w x) Output (list_of ts) cs refl h
choices-of w Input (Named at x ts) cs h = named-choices w x (type_named w x) Input (list_of ts) cs refl h
choices-of w Output (Put t x) cs h = none-chosen _ cs h (λ b i. cc i) (λ b i. cc i)
choices-of w Input (Put t x) cs h = none-chosen _ cs h (λ b i. cc i) (λ b i. cc i)
choices-of w Output (Get t x) cs h = none-chosen _ cs h (λ b i. cc i) (λ b i. cc i)
choices-of w Input (Get t x) cs h = none-chosen _ cs h (λ b i. cc i) (λ b i. cc i)
choices-of w Output (Tensor t x) cs h = none-chosen _ cs h (λ b i. cc i) (λ b i. cc i)
choices-of w Input (Tensor t x) cs h = none-chosen _ cs h (λ b i. cc i) (λ b i. cc i)
choices-of w Output (Par t x) cs h = none-chosen _ cs h (λ b i. cc i) (λ b i. cc i)
choices-of w Input (Par t x) cs h = none-chosen _ cs h (λ b i. cc i) (λ b i. cc i)
choices-of w Output TopBot cs h = none-chosen _ cs h (λ b i. cc i) (λ b i. cc i)
choices-of w Input TopBot cs h = none-chosen _ cs h (λ b i. cc i) (λ b i. cc i)
choices-of w Output (Neg x) cs h = none-chosen _ cs h (λ b i. cc i) (λ b i. cc i)
choices-of w Input (Neg x) cs h = none-chosen _ cs h (λ b i. cc i) (λ b i. cc i)

-- what is found stands somewhere
abbrev Choice : Type 0
Choice = Name × ChanType

found-at : (cs : Choices) (k : Name) (y : ChanType) → found k cs ≡ Some y → (n : ℕ) × (x : Name) × (slice_get cs n ≡ Some (x, y)) × (same_name k x ≡ true)
found-at [] k y i = absurd (cc i)
found-at (c ∷ cs) k y i = go (same_name k c.0) refl i (found-at cs k y)
  where
    go : (t : Bool) → same_name k c.0 ≡ t → (if t then Some c.1 else found k cs) ≡ Some y → (found k cs ≡ Some y → (n : ℕ) × (x : Name) × (slice_get cs n ≡ Some (x, y)) × (same_name k x ≡ true))
        → (n : ℕ) × (x : Name) × (slice_get (c ∷ cs) n ≡ Some (x, y)) × (same_name k x ≡ true)
    go true e j later = let q : c.1 ≡ y = cc j in (0, c.0, (λ k. Some (c.0, q k)), e)
    go false e j later = let (n, x, at, same) = later j in (suc n, x, at, same)

pub get-mapped : {A B : Type 0} (f : A → B) (ks : List A) (n : ℕ) (z : B) → slice_get (map f ks) n ≡ Some z → (k : A) × (slice_get ks n ≡ Some k) × (f k ≡ z)
get-mapped f [] n z i = absurd (cc i)
get-mapped f (k ∷ ks) zero z i = (k, refl, cc i)
get-mapped f (k ∷ ks) (suc n) z i = get-mapped f ks n z i

module _ (w : World) (protocols : ProtocolsAreKnown w) (coprotocols : CoprotocolsAreKnown w) where
  -- the constructor's number is the place of its choice
  pub numbered-choice : (cs : Choices) → AreChoices w cs → (k : Name) (y : ChanType) (n : ℕ) → found k cs ≡ Some y → number_of w k ≡ Some n
      → (x : Name) × (slice_get cs n ≡ Some (x, y))
  numbered-choice cs (inl (z, d, ts, named, is)) k y n i j =
      let (m, x, at, same) = found-at cs k y i in
      let (q, get, e) = get-mapped (λ (k : ProtocolConstructor). let p : Choice = (k.name.name, line d.local d.name d.parameters ts k.channel_type) in p) d.constructors m (x, y) (ap (λ bs. slice_get bs m) (sym is) ∙ at) in
      let name : k ≡ q.name.name = same-is k x same ∙ ap (λ (p : Choice). p.0) (sym e) in
      let known : constructor_named w k ≡ Some (OfProtocol d m q) = subst (λ x. constructor_named w x ≡ Some (OfProtocol d m q)) (sym name) (protocols z d m q named get) in
      let number : Some m ≡ Some n = sym (ap (option_map number_in) known) ∙ j in
      let mn : m ≡ n = cc number in
      (x, subst (λ m. slice_get cs m ≡ Some (x, y)) mn at)
  numbered-choice cs (inr (z, d, ts, named, is)) k y n i j =
      let (m, x, at, same) = found-at cs k y i in
      let (q, get, e) = get-mapped (λ (k : CoprotocolConstructor). let p : Choice = (k.name.name, line d.local d.name d.parameters ts k.channel_type) in p) d.constructors m (x, y) (ap (λ bs. slice_get bs m) (sym is) ∙ at) in
      let name : k ≡ q.name.name = same-is k x same ∙ ap (λ (p : Choice). p.0) (sym e) in
      let known : constructor_named w k ≡ Some (OfCoprotocol d m q) = subst (λ x. constructor_named w x ≡ Some (OfCoprotocol d m q)) (sym name) (coprotocols z d m q named get) in
      let number : Some m ≡ Some n = sym (ap (option_map number_in) known) ∙ j in
      let mn : m ≡ n = cc number in
      (x, subst (λ m. slice_get cs m ≡ Some (x, y)) mn at)

  -- and a choice that stands somewhere has this place as its number
  pub choice-number : (cs : Choices) → AreChoices w cs → (n : ℕ) (x : Name) (y : ChanType) → slice_get cs n ≡ Some (x, y) → number_of w x ≡ Some n
  choice-number cs (inl (z, d, ts, named, is)) n x y at =
      let (q, get, e) = get-mapped (λ (k : ProtocolConstructor). let p : Choice = (k.name.name, line d.local d.name d.parameters ts k.channel_type) in p) d.constructors n (x, y) (ap (λ bs. slice_get bs n) (sym is) ∙ at) in
      ap (option_map number_in) (subst (λ x. constructor_named w x ≡ Some (OfProtocol d n q)) (ap (λ (p : Choice). p.0) e) (protocols z d n q named get))
  choice-number cs (inr (z, d, ts, named, is)) n x y at =
      let (q, get, e) = get-mapped (λ (k : CoprotocolConstructor). let p : Choice = (k.name.name, line d.local d.name d.parameters ts k.channel_type) in p) d.constructors n (x, y) (ap (λ bs. slice_get bs n) (sym is) ∙ at) in
      ap (option_map number_in) (subst (λ x. constructor_named w x ≡ Some (OfCoprotocol d n q)) (ap (λ (p : Choice). p.0) e) (coprotocols z d n q named get))

  pub found-number : (cs : Choices) → AreChoices w cs → (k : Name) (y : ChanType) → found k cs ≡ Some y → (n : ℕ) × (number_of w k ≡ Some n)
  found-number cs are k y i =
      let (n, x, at, same) = found-at cs k y i in
      (n, subst (λ x. number_of w x ≡ Some n) (sym (same-is k x same)) (choice-number cs are n x y at))
