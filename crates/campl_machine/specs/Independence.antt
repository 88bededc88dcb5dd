-- When two steps have nothing to do with one another, and what it means that their order doesn't matter.
use Rattle.std.specs.Prelude.{◌≡◌, ◌≢◌, List, [], ◌∷◌, Option, Some, None}
use Rattle.campl_machine.specs.Names.{End, Who}
use Rattle.campl_machine.specs.Graph.{Mutual}
use Rattle.campl_machine.specs.Machine.{Config, Move, Act, Moves, Looks, Links, Stands, Breaks, Lies, Uses, both_ways, ends_born, nodes_born, performs}

-- each end's partner has it as its own partner
abbrev pub Paired : {S M : Type 0} → Config S M → Type 0
Paired c = Mutual c.partner

-- p's step A and q's step B make, bear and use nothing in common, and bear only ends that have no partner yet
pub record Independent {S M : Type 0} (c : Config S M) (p : Who) (A : Act S M) (q : Who) (B : Act S M) : Type 0 where
  pub nodes : (w : Who) → Lies (nodes_born p A) w → Lies (nodes_born q B) w → ⊥
  pub ends : (e : End) → Lies (ends_born A) e → Lies (ends_born B) e → ⊥
  pub uses : (e : End) → Uses A e → Uses B e → ⊥
  pub fresh_a : (e : End) → Lies (ends_born A) e → c.partner e ≡ None
  pub fresh_b : (e : End) → Lies (ends_born B) e → c.partner e ≡ None

-- the two steps are no identities of the same two channels, which would close a ring
abbrev pub NotBoth : {S M : Type 0} → Config S M → Act S M → Act S M → Type 0
NotBoth c (Links x y) (Links u v) = (c.partner x ≡ Some u → c.partner y ≡ Some v → ⊥) × (c.partner x ≡ Some v → c.partner y ≡ Some u → ⊥)
NotBoth c (Links x y) (Moves m) = Unit {0}
NotBoth c (Links x y) (Looks t z k) = Unit {0}
NotBoth c (Links x y) Stands = Unit {0}
NotBoth c (Links x y) Breaks = Unit {0}
NotBoth c (Moves n) B = Unit {0}
NotBoth c (Looks u x k) B = Unit {0}
NotBoth c Stands B = Unit {0}
NotBoth c Breaks B = Unit {0}

-- where p can do A and q can do B, each stays possible after the other, and both orders lead to one configuration
abbrev pub Commute : {S M : Type 0} → Config S M → Who → Act S M → Who → Act S M → Type 0
Commute {S} {M} c p A q B =
    (b d : Config S M) → performs c p A ≡ Some b → performs c q B ≡ Some d → (e : Config S M) × (performs b q B ≡ Some e) × (performs d p A ≡ Some e)

-- a step that bears no channel and no child
abbrev pub BearsNothing : {S M : Type 0} → Act S M → Type 0
BearsNothing (Moves m) = (m.channels ≡ []) × (m.children ≡ [])
BearsNothing (Looks t x k) = Unit {0}
BearsNothing (Links x y) = Unit {0}
BearsNothing Stands = Unit {0}
BearsNothing Breaks = Unit {0}

-- the move that only sends v on e and goes on as s
abbrev pub only_sends : {S M : Type 0} → End → M → Option S → Move S M
only_sends e v s = record { send = Some (e, v); channels = []; children = []; next = s }

-- the halves of these channels are all different
abbrev pub AllNew : List (End × End) → Type 0
AllNew [] = Unit {0}
AllNew (c ∷ cs) = (c.0 ≢ c.1) × (Lies (both_ways cs) c.0 → ⊥) × (Lies (both_ways cs) c.1 → ⊥) × AllNew cs

-- the channels that a step bears have different halves
abbrev pub BearsNew : {S M : Type 0} → Act S M → Type 0
BearsNew (Moves m) = AllNew m.channels
BearsNew (Looks t x k) = Unit {0}
BearsNew (Links x y) = Unit {0}
BearsNew Stands = Unit {0}
BearsNew Breaks = Unit {0}
