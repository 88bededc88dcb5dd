-- A derivation that a body is well formed, command by command. It carries the names outside of which
-- nothing is held, so that the facts for all names at its ends follow by tests that compute.
use Rattle.std.proofs.Common.{◌≡◌, IsTrue, List, [], ◌∷◌, Some, None}
use Rattle.campl_tree.specs.declared.place.Place.{Place}
use Rattle.campl_tree.specs.declared.place.Ident.{Ident}
use Rattle.campl_tree.specs.declared.process.Binder.{Binder}
use Rattle.campl_tree.specs.declared.service.Side.{Side}
use Rattle.campl_tree.specs.Plain.SeqType.{SeqType}
use Rattle.campl_tree.specs.Plain.ChanType.{ChanType}
use Rattle.campl_tree.specs.Plain.Expr.{Expr}
use Rattle.campl_tree.specs.Plain.Process as b
use Rattle.campl_tree.specs.Plain.Process.{Body}
use Rattle.campl_types.specs.Names.{Name, found}
use Rattle.campl_types.specs.World.{World}
use Rattle.campl_types.specs.Polarity.{Puts, Gets, Splits, Picks, Ends, Choices, deed}
use Rattle.campl_types.specs.Fits.{Vars}
use Rattle.campl_types.specs.Sequential.{HasType, Checked}
use Rattle.campl_types.specs.Held.{On, Held, with, without}
use Rattle.campl_types.specs.Linear.{IsWellFormed, AreNew, bound}
use Rattle.typed_sources.proofs.Within.{Within, more, alone, all_held, is_gone}

-- the body is well formed where nothing is held but under these names
pub record Flows (w : World) (vs : Vars) (names : List Name) (held : Held) (body : Body) : Type 0 where
  pub well-formed : Within names held → IsWellFormed w vs held body

pub put : {w : World} {vs : Vars} {names : List Name} {held : Held} {at : Place} {a : Expr} {x : Ident} {rest : Body} {s : Side} {u : ChanType} {t : SeqType} {y : ChanType}
    → held x.name ≡ Some (On s u) → deed w s u ≡ Puts t y → HasType Checked w vs a t → Flows w vs (x.name ∷ names) (with x.name (Some (On s y)) held) rest
    → Flows w vs names held (b.Then (b.Put at a x) rest)
put i j a next = record { well-formed = λ h. (_, _, _, _, i, j, a, next.well-formed (more _ h)) }

pub get : {w : World} {vs : Vars} {names : List Name} {held : Held} {at : Place} {v : Binder} {x : Ident} {rest : Body} {s : Side} {u : ChanType} {t : SeqType} {y : ChanType}
    → held x.name ≡ Some (On s u) → deed w s u ≡ Gets t y → Flows w (bound v t vs) (x.name ∷ names) (with x.name (Some (On s y)) held) rest
    → Flows w vs names held (b.Then (b.Get at v x) rest)
get i j next = record { well-formed = λ h. (_, _, _, _, i, j, next.well-formed (more _ h)) }

pub hput : {w : World} {vs : Vars} {names : List Name} {held : Held} {at : Place} {k x : Ident} {rest : Body} {s : Side} {u : ChanType} {cs : Choices} {y : ChanType}
    → held x.name ≡ Some (On s u) → deed w s u ≡ Picks cs → found k.name cs ≡ Some y → Flows w vs (x.name ∷ names) (with x.name (Some (On s y)) held) rest
    → Flows w vs names held (b.Then (b.Hput at k x) rest)
hput i j k next = record { well-formed = λ h. (_, _, _, _, i, j, k, next.well-formed (more _ h)) }

pub split : {w : World} {vs : Vars} {names : List Name} {held : Held} {at : Place} {x y z : Ident} {rest : Body} {s : Side} {u t r : ChanType}
    → held x.name ≡ Some (On s u) → deed w s u ≡ Splits t r → AreNew x.name y.name z.name held
    → Flows w vs (z.name ∷ y.name ∷ x.name ∷ names) (with z.name (Some (On s r)) (with y.name (Some (On s t)) (without x.name held))) rest
    → Flows w vs names held (b.Then (b.Split at x y z) rest)
split i j new next = record { well-formed = λ h. (_, _, _, _, i, j, new, next.well-formed (more _ (more _ (more _ h)))) }

pub close : {w : World} {vs : Vars} {names : List Name} {held : Held} {at : Place} {x : Ident} {rest : Body} {s : Side} {u : ChanType}
    → held x.name ≡ Some (On s u) → deed w s u ≡ Ends → Flows w vs (x.name ∷ names) (without x.name held) rest
    → Flows w vs names held (b.Then (b.Close at x) rest)
close i j next = record { well-formed = λ h. (_, _, i, j, next.well-formed (more _ h)) }

pub halt : {w : World} {vs : Vars} {names : List Name} {held : Held} {at : Place} {x : Ident} {s : Side} {u : ChanType}
    → held x.name ≡ Some (On s u) → deed w s u ≡ Ends → IsTrue (all_held (is_gone (x.name ∷ [])) names held)
    → Flows w vs names held (b.Halt at (Some x))
halt {x = x} i j test = record { well-formed = λ h. (_, _, i, j, alone (x.name ∷ []) h test) }

-- `halt` with no channel
pub halt-alone : {w : World} {vs : Vars} {names : List Name} {held : Held} {at : Place} → IsTrue (all_held (is_gone []) names held) → Flows w vs names held (b.Halt at None)
halt-alone test = record { well-formed = λ h. alone [] h test }
