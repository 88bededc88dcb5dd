-- What a well formed command tells where it is known how its channel is held.
use Rattle.std.proofs.Common.{◌≡◌, subst, false, [], ◌∷◌, Some, None}
use Rattle.campl_tree.specs.declared.place.Place.{Place}
use Rattle.campl_tree.specs.declared.place.Ident.{Ident}
use Rattle.campl_tree.specs.declared.service.Side.{Side}
use Rattle.campl_tree.specs.Plain.ChanType.{ChanType}
use Rattle.campl_tree.specs.Plain.Process as b
use Rattle.campl_types.specs.Names.{Name, found, is_among}
use Rattle.campl_types.specs.World.{World}
use Rattle.campl_types.specs.Polarity.{Deed, Picks, Choices, deed}
use Rattle.campl_types.specs.Fits.{Vars}
use Rattle.campl_types.specs.Held.{Channel, On, Held, with, without}
use Rattle.campl_types.specs.Linear.{IsWellFormed}

-- a channel is held on one side with one type
pub held-once : {s r : Side} {t u : ChanType} → Some (On s t) ≡ Some (On r u) → (s ≡ r) × (t ≡ u)
held-once i = (cc i, cc i)

-- so it is due for one deed
pub one-deed : (w : World) {s r : Side} {t u : ChanType} {d : Deed} → Some (On s t) ≡ Some (On r u) → deed w r u ≡ d → deed w s t ≡ d
one-deed w {s} {r} {t} {u} i j = let (p, q) : (s ≡ r) × (t ≡ u) = held-once i in cc (p, q, j)

-- what follows `hput`
pub after-hput : (w : World) (vs : Vars) (held : Held) (at : Place) (k x : Ident) (rest : b.Body) {s : Side} {u y : ChanType} {cs : Choices}
    → held x.name ≡ Some (On s u) → deed w s u ≡ Picks cs → found k.name cs ≡ Some y → IsWellFormed w vs held (b.Then (b.Hput at k x) rest)
    → IsWellFormed w vs (with x.name (Some (On s y)) held) rest
after-hput w vs held at k x rest {s} {u} {y} {cs} h d f (r, v, ds, z, i, j, g, l) =
    let side : s ≡ r = cc (h, i) in
    let same : u ≡ v = cc (h, i) in
    let picked : cs ≡ ds = cc (side, same, d, j) in
    let next : y ≡ z = cc (picked, f, g) in
    let c : Some (On r z) ≡ Some (On s y) = cc (side, next) in
    subst (λ c. IsWellFormed w vs (with x.name c held) rest) c l

-- what follows `close`
pub after-close : (w : World) (vs : Vars) (held : Held) (at : Place) (x : Ident) (rest : b.Body)
    → IsWellFormed w vs held (b.Then (b.Close at x) rest) → IsWellFormed w vs (without x.name held) rest
after-close w vs held at x rest (s, u, i, j, l) = l

-- nothing else is held where a process halts
pub halts-alone : (w : World) (vs : Vars) (held : Held) (at : Place) (x : Ident) (y : Name) {c : Channel}
    → held y ≡ Some c → is_among y (x.name ∷ []) ≡ false → IsWellFormed w vs held (b.Halt at (Some x)) → ⊥
halts-alone w vs held at x y {c} h other (s, u, i, j, alone) = let k : held y ≡ None = alone y other in cc (h, k)
