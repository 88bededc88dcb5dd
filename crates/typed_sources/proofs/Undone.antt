-- What a derivation shows of a command: its channel is held as it is, the table's entry is the one that it is,
-- and so the body that follows is well formed with what remains. With these a derivation is undone command by
-- command, up to where there can be none.
use Rattle.std.proofs.Common.{◌≡◌, ◌∙◌, refl, sym, ap, subst, Bool, false, List, [], ◌∷◌, Some, None, length}
use Rattle.std.proofs.lemmas.Option.{none-some, same_Some}
use Rattle.campl_tree.specs.declared.place.Place.{Place}
use Rattle.campl_tree.specs.declared.place.Ident.{Ident}
use Rattle.campl_tree.specs.declared.service.Side.{Side}
use Rattle.campl_tree.specs.declared.service.Side.TheVariants.{Input}
use Rattle.campl_tree.specs.Plain.SeqType.{SeqType}
use Rattle.campl_tree.specs.Plain.ChanType.{ChanType}
use Rattle.campl_tree.specs.Plain.Expr as e
use Rattle.campl_tree.specs.Plain.Expr.{Expr, Exprs}
use Rattle.campl_tree.specs.Plain.Process as b
use Rattle.campl_tree.specs.Plain.Process.{Body}
use Rattle.campl_tree.specs.Plain.Decl.{FunctionDecl, ProcessDecl}
use Rattle.campl_types.specs.Names.{Name, found, is_among}
use Rattle.campl_types.specs.World.{World, function_named, process_named, type_parameters}
use Rattle.campl_types.specs.Polarity.{Puts, Gets, Picks, Offers, Choices, deed}
use Rattle.campl_types.specs.Fits.{Vars}
use Rattle.campl_types.specs.Sequential.{HasType, Checked, PartsHaveTypes}
use Rattle.campl_types.specs.SameType.{IsSame}
use Rattle.campl_types.specs.Substitution.{filling, filled, variables_of}
use Rattle.campl_types.specs.Headers.{links_in, share}
use Rattle.campl_types.specs.Held.{Channel, On, Held, with, without}
use Rattle.campl_types.specs.Linear.{IsWellFormed, ProcessIsTyped, HasEachOnce, AreJoined, AreHanded, row_variables, row_channels}

-- a record, so that the world and what is held can be read off it
pub record Formed (w : World) (vs : Vars) (held : Held) (body : Body) : Type 0 where
  pub well-formed : IsWellFormed w vs held body

-- a channel is held in one way
same-side : {s r : Side} {t u : ChanType} → Some (On s t) ≡ Some (On r u) → s ≡ r
same-side i = cc

same-type : {s r : Side} {t u : ChanType} → Some (On s t) ≡ Some (On r u) → t ≡ u
same-type i = cc

same-deed : (w : World) {s r : Side} {t u : ChanType} → Some (On s t) ≡ Some (On r u) → deed w s t ≡ deed w r u
same-deed w i = let p = same-side i in let q = same-type i in rw (p, q) refl

same-picks : {cs ds : Choices} → Picks cs ≡ Picks ds → cs ≡ ds
same-picks i = cc

same-on : {s r : Side} {t u : ChanType} → s ≡ r → t ≡ u → On s t ≡ On r u
same-on i j = cc

-- the body of a typed process
pub of-process : (w : World) (p : ProcessDecl) → ProcessIsTyped w p → Formed w (row_variables p.row.variables p.parameters) (row_channels p) p.row.body
of-process w p h = record { well-formed = h.5 }

pub after-hput : {w : World} {vs : Vars} {held : Held} {at : Place} {k x : Ident} {rest : Body} {s : Side} {u : ChanType} {cs : Choices} {y : ChanType}
    → Formed w vs held (b.Then (b.Hput at k x) rest) → held x.name ≡ Some (On s u) → deed w s u ≡ Picks cs → found k.name cs ≡ Some y
    → Formed w vs (with x.name (Some (On s y)) held) rest
after-hput {w} {vs} {held} {k = k} {x = x} {rest} {y = y} h i j named =
    let d = h.well-formed in
    let p = sym d.4 ∙ i in
    let q = same-picks (sym d.5 ∙ same-deed w p ∙ j) in
    let r = same_Some _ _ (sym d.6 ∙ ap (found k.name) q ∙ named) in
    record { well-formed = subst (λ c. IsWellFormed w vs (with x.name (Some c) held) rest) (same-on (same-side p) r) d.7 }

pub after-close : {w : World} {vs : Vars} {held : Held} {at : Place} {x : Ident} {rest : Body} → Formed w vs held (b.Then (b.Close at x) rest)
    → Formed w vs (without x.name held) rest
after-close h = record { well-formed = h.well-formed.4 }

-- the value that is put may be checked against the type at the table's entry
pub put-value : {w : World} {vs : Vars} {held : Held} {at : Place} {a : Expr} {x : Ident} {rest : Body} {s : Side} {u : ChanType} {t : SeqType} {y : ChanType}
    → Formed w vs held (b.Then (b.Put at a x) rest) → held x.name ≡ Some (On s u) → deed w s u ≡ Puts t y → HasType Checked w vs a t
put-value {w} {vs} {held} {a = a} h i j =
    let d = h.well-formed in subst (HasType Checked w vs a) (same (sym d.5 ∙ same-deed w (sym d.4 ∙ i) ∙ j)) d.6
  where
    same : {t u : SeqType} {x y : ChanType} → Puts t x ≡ Puts u y → t ≡ u
    same k = cc

-- the first part of a plug, with its share
pub first-part : {w : World} {vs : Vars} {held : Held} {at : Place} {links : List b.Link} {header : b.Header} {body : Body} {parts : b.Parts}
    → Formed w vs held (b.Plug at links (b.part_then header body parts)) → Formed w vs (share (links_in links) held header) body
first-part h = record { well-formed = h.well-formed.3.0 }

-- each constructor that is offered has one row
pub each-once : {w : World} {vs : Vars} {held : Held} {at : Place} {x : Ident} {rows : b.HcaseRows} {s : Side} {u : ChanType} {cs : Choices}
    → Formed w vs held (b.Hcase at x rows) → held x.name ≡ Some (On s u) → deed w s u ≡ Offers cs → HasEachOnce rows cs
each-once {w} {rows = rows} h i j = let d = h.well-formed in subst (HasEachOnce rows) (same (sym d.4 ∙ same-deed w (sym d.3 ∙ i) ∙ j)) d.5
  where
    same : {cs ds : Choices} → Offers cs ≡ Offers ds → cs ≡ ds
    same k = cc

-- the ends of an identity fit together as they are held
pub joined : {w : World} {vs : Vars} {held : Held} {at : Place} {x : Name} {negated : Bool} {y : Ident} {s r : Side} {t u : ChanType}
    → Formed w vs held (b.Identity at x negated y) → held x ≡ Some (On s t) → held y.name ≡ Some (On r u) → AreJoined negated s r t u
joined {negated = negated} {r = r} {t = t} {u = u} h i j =
    let d = h.well-formed in
    let p = sym d.4 ∙ i in
    let q = sym d.5 ∙ j in
    let first = subst (λ s. AreJoined negated s d.2 d.1 d.3) (same-side p) d.7 in
    let second = subst (λ t. AreJoined negated _ d.2 t d.3) (same-type p) first in
    let third = subst (λ r. AreJoined negated _ r t d.3) (same-side q) second in
    subst (λ u. AreJoined negated _ r t u) (same-type q) third

-- the inputs of a call are held as the process's heading has them
pub handed-inputs : {w : World} {vs : Vars} {held : Held} {at : Place} {x : Name} {args : Exprs} {inputs outputs : List Ident} {p : ProcessDecl}
    → Formed w vs held (b.Call at x args inputs outputs) → process_named w x ≡ Some p → AreHanded held Input inputs p.inputs
handed-inputs {held = held} {inputs = inputs} h i =
    let d = h.well-formed in subst (λ (p : ProcessDecl). AreHanded held Input inputs p.inputs) (same_Some _ _ (sym d.1 ∙ i)) d.3

-- a call that is checked: the result at the filling is the type, and the parts have their types
abbrev Called : World → Vars → Exprs → SeqType → FunctionDecl → Type 0
Called w vs args t f =
    (ts : List SeqType) × (length ts ≡ length (type_parameters f)) × IsSame t (filled (filling (type_parameters f) ts) f.result)
    × PartsHaveTypes w vs (filling (type_parameters f) ts) (variables_of f.result) f.parameters args × Unit {0}

pub called : (w : World) (vs : Vars) (at : Place) (x : Name) (args : Exprs) (t : SeqType) (f : FunctionDecl)
    → HasType Checked w vs (e.Call at x args) t → function_named w x ≡ Some f → Called w vs args t f
called w vs at x args t f h i = subst (Called w vs args t) (same_Some _ _ (sym h.1 ∙ i)) h.2

-- no process halts on a channel that isn't held
pub halts-on-none : {w : World} {vs : Vars} {held : Held} {at : Place} {x : Ident} → Formed w vs held (b.Halt at (Some x)) → held x.name ≡ None → ⊥
halts-on-none h i = none-some (On h.well-formed.0 h.well-formed.1) (sym i ∙ h.well-formed.2)

-- or holding another
pub halts-holding : {w : World} {vs : Vars} {held : Held} {at : Place} {x : Ident} {c : Channel} → Formed w vs held (b.Halt at (Some x)) → (y : Name)
    → is_among y (x.name ∷ []) ≡ false → held y ≡ Some c → ⊥
halts-holding {c = c} h y other i = none-some c (sym (h.well-formed.4 y other) ∙ i)

-- or puts where the table's entry is `get`
pub puts-at-get : {w : World} {vs : Vars} {held : Held} {at : Place} {a : Expr} {x : Ident} {rest : Body} {s : Side} {u : ChanType} {t : SeqType} {y : ChanType}
    → Formed w vs held (b.Then (b.Put at a x) rest) → held x.name ≡ Some (On s u) → deed w s u ≡ Gets t y → ⊥
puts-at-get {w} h i j = let d = h.well-formed in unlike (sym d.5 ∙ same-deed w (sym d.4 ∙ i) ∙ j)
  where
    unlike : {t u : SeqType} {x y : ChanType} → Puts t x ≡ Gets u y → ⊥
    unlike k = cc
