-- At a fork the free names of the first body tell which channels go to it: where some division makes both
-- bodies well formed, it is this one.
use Rattle.std.proofs.Common.{◌≡◌, ◌∙◌, refl, sym, ap, subst, Bool, true, false, not, ◌↔◌, if◌then◌else◌, Option, Some, None, is_some}
use Rattle.std.proofs.Math.Path.{fun_ext}
use Rattle.std.proofs.lemmas.Option.{none-some}
use Rattle.campl_tree.specs.declared.place.Place.{Place}
use Rattle.campl_tree.specs.declared.place.Ident.{Ident}
use Rattle.campl_tree.specs.Plain.Process as b
use Rattle.campl_tree.specs.Plain.Process.{Body}
use Rattle.campl_types.specs.Names.{Name, same_name}
use Rattle.campl_types.specs.World.{World}
use Rattle.campl_types.specs.Fits.{Vars}
use Rattle.campl_types.specs.Held.{Channel, On, Held, with, without, only}
use Rattle.campl_types.specs.Linear.{IsWellFormed}
use Rattle.campl_types.specs.Free.{is_free, IsDividedBy, IsDividedByNames}
use Rattle.campl_types.proofs.Names.{same-is}
use Rattle.campl_types.proofs.FreeCommands.{passed, none-kept}
use Rattle.campl_types.proofs.FreeNames.{names-held}

-- a name that is held isn't one that isn't
differ : (held : Held) (n y : Name) (c : Channel) → held y ≡ None → held n ≡ Some c → same_name n y ≡ false
differ held n y c i j = go (same_name n y) refl
  where
    go : (p : Bool) → same_name n y ≡ p → p ≡ false
    go true k = absurd (none-some c (sym i ∙ ap held (sym (same-is n y k)) ∙ j))
    go false k = refl

kept-is-some : (keep : Name → Bool) (held : Held) (n : Name) (c : Channel) → held n ≡ Some c → is_some (only keep held n) ≡ keep n
kept-is-some keep held n c i = go (keep n)
  where
    go : (p : Bool) → is_some (if p then held n else None) ≡ p
    go true = ap is_some i
    go false = refl

-- each division keeps the channels that are free in the first body
pub keeps-free : (w : World) (vs : Vars) (held : Held) (x y : Ident) (left : Body) (z : Ident) (right : Body) (keep : Name → Bool)
    → IsDividedBy keep w vs held x y left z right → (n : Name) (c : Channel) → without x.name held n ≡ Some c → keep n ≡ is_free n left
keeps-free w vs held x y left z right keep d n c i =
    let others : Held = without x.name held in
    sym
    (names-held w vs (with y.name (Some (On d.0 d.2)) (only keep others)) left d.7 n
    ∙ ap is_some (passed (only keep others) n y.name (Some (On d.0 d.2)) (differ others n y.name c d.6.0 i))
    ∙ kept-is-some keep others n c i)

-- tests that agree on what is held keep the same
same-kept : (keep test : Name → Bool) (held : Held) → ((n : Name) (c : Channel) → held n ≡ Some c → keep n ≡ test n) → only keep held ≡ only test held
same-kept keep test held same = fun_ext (λ n. go n (held n) refl)
  where
    go : (n : Name) (o : Option Channel) → held n ≡ o → only keep held n ≡ only test held n
    go n None i = none-kept keep held n i ∙ sym (none-kept test held n i)
    go n (Some c) i = ap (λ p. if p then held n else None) (same n c i)

pub divided-by-names : (w : World) (vs : Vars) (held : Held) (x y : Ident) (left : Body) (z : Ident) (right : Body) (keep : Name → Bool)
    → IsDividedBy keep w vs held x y left z right → IsDividedByNames w vs held x y left z right
divided-by-names w vs held x y left z right keep d =
    let others : Held = without x.name held in
    let free : ((n : Name) (c : Channel) → others n ≡ Some c → keep n ≡ is_free n left) = keeps-free w vs held x y left z right keep d in
    let first = same-kept keep (λ n. is_free n left) others free in
    let second = same-kept (λ n. not (keep n)) (λ n. not (is_free n left)) others (λ n c i. ap not (free n c i)) in (
      d.0,
      d.1,
      d.2,
      d.3,
      d.4,
      d.5,
      d.6,
      subst (λ h. IsWellFormed w vs (with y.name (Some (On d.0 d.2)) h) left) first d.7,
      subst (λ h. IsWellFormed w vs (with z.name (Some (On d.0 d.3)) h) right) second d.8,
    )

-- a fork is well formed exactly by the division by free names
pub forks-by-names : (w : World) (vs : Vars) (held : Held) (at : Place) (x y : Ident) (left : Body) (z : Ident) (right : Body)
    → IsWellFormed w vs held (b.Fork at x y left z right) ↔ IsDividedByNames w vs held x y left z right
forks-by-names w vs held at x y left z right = (
  λ d. divided-by-names w vs held x y left z right d.0 d.1,
  λ d. (λ n. is_free n left, d),
)
