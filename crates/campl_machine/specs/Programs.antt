-- Programs: what each node does next, by its name, its state and a choice where it has one. With a program the machine's steps are reductions.
use Rattle.std.specs.Prelude.{◌≡◌, ◌≢◌, Option, Some, None}
use Rattle.campl_machine.specs.Names.{Who}
use Rattle.campl_machine.specs.Machine.{Config, Act, performs}
use Rattle.campl_machine.specs.Independence.{Independent, NotBoth, Paired}
use Rattle.campl_machine.specs.Runs.{By, Reaches}

-- the step of the node w in this state
abbrev pub reduce_state : {S M I : Type 0} → (Who → S → I → Act S M) → Config S M → Who → I → Option S → Option (Config S M)
reduce_state act c w i None = None
reduce_state act c w i (Some s) = performs c w (act w s i)

-- what c becomes where w makes its next step by the choice i, if it can
abbrev pub reduce : {S M I : Type 0} → (Who → S → I → Act S M) → Config S M → Who → I → Option (Config S M)
reduce act c w i = reduce_state act c w i (c.nodes w)

-- the reductions of the machine where each node's choice is i
abbrev pub Steps : {S M I : Type 0} → (Who → S → I → Act S M) → I → Config S M → Who → Config S M → Type 0
Steps act i = By (λ c w. reduce act c w i)

-- each two steps that the program can make in c, of different nodes, are independent
pub record KeepsApart {S M I : Type 0} (act : Who → S → I → Act S M) (c : Config S M) : Type 0 where
  pub paired : Paired c
  pub apart : (p q : Who) (s t : S) (i j : I) (b d : Config S M) → p ≢ q → c.nodes p ≡ Some s → c.nodes q ≡ Some t →
      performs c p (act p s i) ≡ Some b → performs c q (act q t j) ≡ Some d →
      Independent c p (act p s i) q (act q t j) × NotBoth c (act p s i) (act q t j)

-- so it is in every configuration that is reached from the start
abbrev pub KeepsApartFrom : {S M I : Type 0} → (Who → S → I → Act S M) → I → Config S M → Type 0
KeepsApartFrom {S} {M} {I} act i start = (c : Config S M) → Reaches (Steps act i) start c → KeepsApart act c
