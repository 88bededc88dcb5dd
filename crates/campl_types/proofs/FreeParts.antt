-- The names of a plug: those of its headers that are no links are the ones that are held.
use Rattle.std.proofs.Common.{◌≡◌, ◌∙◌, refl, sym, ap, ℕ, zero, suc, ◌+◌, arith, Bool, true, false, not, ◌&&◌, ◌||◌, if◌then◌else◌, List, [], ◌∷◌, Option, Some, None, is_some}
use Rattle.campl_tree.specs.declared.place.Ident.{Ident}
use Rattle.campl_tree.specs.declared.service.Side.TheVariants.{Input, Output}
use Rattle.campl_tree.specs.Plain.ChanType.{ChanType}
use Rattle.campl_tree.specs.Plain.Process as b
use Rattle.campl_types.specs.Names.{Name, same_name, is_among}
use Rattle.campl_types.specs.World.{names_of}
use Rattle.campl_types.specs.Held.{Channel, On, Held}
use Rattle.campl_types.specs.Headers.{links_in, link_names, times, times_in, times_out, one_if, IsUsed}

-- whether a name stands in a header
abbrev pub in_headers : Name → b.Parts → Bool
in_headers n b.no_parts = false
in_headers n (b.part_then h body parts) = is_among n (names_of h.inputs) || (is_among n (names_of h.outputs) || in_headers n parts)

-- a body names no more than its header: i and o say whether the name is among the inputs and the outputs
pub no-more-than-header : (i o : Bool) (a c : Option Channel) (f g k : Bool) → f ≡ is_some (if o then a else (if i then c else None)) → g ≡ k
    → (i || (o || (f || g))) ≡ (i || (o || k))
no-more-than-header true o a c f g k e r = refl
no-more-than-header false true a c f g k e r = refl
no-more-than-header false false a c f g k e r = ap (λ p. p || g) e ∙ r

-- How often names stand

abbrev pub stands : ℕ → Bool
stands zero = false
stands (suc m) = true

pub stands-sum : (m n : ℕ) → stands (m + n) ≡ (stands m || stands n)
stands-sum zero n = ap stands (omega arith)
stands-sum (suc m) n = ap stands (sum m n)
  where
    sum : (m n : ℕ) → suc m + n ≡ suc (m + n)
    sum m n = omega arith

pub among-times : (n : Name) (xs : List Ident) → is_among n (names_of xs) ≡ stands (times n xs)
among-times n [] = refl
among-times n (x ∷ xs) = (λ k. one (same_name n x.name) k || among-times n xs k) ∙ sym (stands-sum (one_if (same_name n x.name)) (times n xs))
  where
    one : (p : Bool) → p ≡ stands (one_if p)
    one true = refl
    one false = refl

four : (i o j p : Bool) → (i || (o || (j || p))) ≡ ((i || j) || (o || p))
four true o j p = refl
four false true true p = refl
four false true false p = refl
four false false j p = refl

pub headers-times : (n : Name) (parts : b.Parts) → in_headers n parts ≡ (stands (times_in n parts) || stands (times_out n parts))
headers-times n b.no_parts = refl
headers-times n (b.part_then h body parts) =
    (λ k. among-times n h.inputs k || (among-times n h.outputs k || headers-times n parts k))
    ∙ four (stands (times n h.inputs)) (stands (times n h.outputs)) (stands (times_in n parts)) (stands (times_out n parts))
    ∙ (λ k. sym (stands-sum (times n h.inputs) (times_in n parts)) k || sym (stands-sum (times n h.outputs) (times_out n parts)) k)

-- Links

pub among-links : (n : Name) (ls : List b.Link) → is_among n (link_names ls) ≡ is_some (links_in ls n)
among-links n [] = refl
among-links n (l ∷ ls) = go (same_name n l.name.name) (among-links n ls)
  where
    go : (p : Bool) → is_among n (link_names ls) ≡ is_some (links_in ls n) → (p || is_among n (link_names ls)) ≡ is_some (if p then Some l.channel_type else links_in ls n)
    go true i = refl
    go false i = i

used : (link : Option ChanType) (held : Option Channel) (o i : ℕ) → IsUsed link held o i → (not (is_some link) && (stands i || stands o)) ≡ is_some held
used (Some t) None o i u = refl
used (Some t) (Some c) o i u = absurd u
used None (Some (On Output t)) o i u = rw (u.0, u.1) refl
used None (Some (On Input t)) o i u = rw (u.0, u.1) refl
used None None o i u = rw (u.0, u.1) refl

pub plugs : (ls : List b.Link) (held : Held) (parts : b.Parts) (n : Name) → IsUsed (links_in ls n) (held n) (times_out n parts) (times_in n parts)
    → (not (is_among n (link_names ls)) && in_headers n parts) ≡ is_some (held n)
plugs ls held parts n u =
    (λ k. not (among-links n ls k) && headers-times n parts k) ∙ used (links_in ls n) (held n) (times_out n parts) (times_in n parts) u
