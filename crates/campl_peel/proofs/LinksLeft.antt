-- The links that are left when one is peeled.
use Rattle.std.proofs.Common.{◌≡◌, ◌∙◌, inl, inr, refl, sym, ap, subst, ◌+◌, ◌≤◌, arith, Bool, true, false, not, ◌&&◌, if◌then◌else◌, List, [], ◌∷◌, Some, None}
use Rattle.std.proofs.Math.Path.{fun_ext}
use Rattle.std.proofs.lemmas.Bool.{and_parts}
use Rattle.campl_tree.specs.Plain.ChanType.{ChanType}
use Rattle.campl_tree.specs.Plain.Process.{Link, Header, Parts, no_parts, part_then}
use Rattle.campl_types.specs.Names.{Name, same_name, is_among, are_distinct}
use Rattle.campl_types.specs.Headers.{links_in, link_names, times, times_in, times_out}
use Rattle.campl_types.proofs.Names.{same-itself, split-names}
use Rattle.campl_peel.specs.Plugging.{stands_in, stands_among, links_to, HasOneLinkTo, EachHasOneLink, without_link}
use Rattle.campl_types.proofs.Truth.{split, no-both, or-none, or-second, not-true}
use Rattle.campl_peel.proofs.Standing.{stands-some, parts-some}
use Rattle.campl_peel.proofs.Peeling.{but}

module _ (parts : Parts) (h : Header) where
  passes : Name → Bool
  passes y = stands_in h y && stands_among parts y

  -- the first link that joins them is what is found under its name
  pub first-link : (links : List Link) (l : Link) (more : List Link) → links_to parts h links ≡ l ∷ more
      → (links_in links l.name.name ≡ Some l.channel_type) × (stands_in h l.name.name ≡ true) × (stands_among parts l.name.name ≡ true)
  first-link [] l more e = absurd (let no : ⊥ = cc in no)
  first-link (m ∷ links) l more e = elim (split (stands_in h m.name.name && stands_among parts m.name.name)) [
    | inl t ↦
        let f : m ∷ links_to parts h links ≡ l ∷ more = rw t at e in
        let s : m ≡ l = cc in
        let (a, b) = and_parts (stands_in h m.name.name) (stands_among parts m.name.name) t in
        subst (λ z. (links_in (m ∷ links) z.name.name ≡ Some z.channel_type) × (stands_in h z.name.name ≡ true) × (stands_among parts z.name.name ≡ true)) s
        (rw (same-itself m.name.name) refl, a, b)
    | inr t ↦
        let f : links_to parts h links ≡ l ∷ more = rw t at e in
        let (a, b, c) = first-link links l more f in (
          elim (split-names l.name.name m.name.name) [
            | inl s ↦ absurd (no-both (stands_in h l.name.name && stands_among parts l.name.name) (rw (b, c) refl) (subst (λ z. (stands_in h z && stands_among parts z) ≡ false) (sym s) t))
            | inr s ↦ rw s a
          ],
          b,
          c,
        )
  ]

  -- and each link that joins them stands there
  pub each-link : (links : List Link) (y : Name) (u : ChanType) → links_in links y ≡ Some u → (stands_in h y && stands_among parts y) ≡ true
      → is_among y (link_names (links_to parts h links)) ≡ true
  each-link [] y u e t = absurd (let no : ⊥ = cc in no)
  each-link (m ∷ links) y u e t = elim (split-names y m.name.name) [
    | inl s ↦ rw (subst (λ z. (stands_in h z && stands_among parts z) ≡ true) s t) (rw (subst (λ z. same_name z m.name.name ≡ true) (sym s) (same-itself m.name.name)) refl)
    | inr s ↦
        let r : is_among y (link_names (links_to parts h links)) ≡ true = each-link links y u (rw s at e) t in
        elim (split (stands_in h m.name.name && stands_among parts m.name.name)) [
          | inl a ↦ rw a (or-second (same_name y m.name.name) (is_among y (link_names (links_to parts h links))) r)
          | inr a ↦ rw a r
        ]
  ]

  -- a link that doesn't join them may go
  pub others-kept : (x : Name) → (stands_in h x && stands_among parts x) ≡ false → (links : List Link) → links_to parts h (without_link x links) ≡ links_to parts h links
  others-kept x f [] = refl
  others-kept x f (m ∷ links) = elim (split-names x m.name.name) [
    | inl s ↦ rw (subst (λ z. same_name x z ≡ true) s (same-itself x), subst (λ z. (stands_in h z && stands_among parts z) ≡ false) s f) (others-kept x f links)
    | inr s ↦ rw s (elim (split (stands_in h m.name.name && stands_among parts m.name.name)) [
      | inl a ↦ rw a (ap (λ ls. m ∷ ls) (others-kept x f links))
      | inr a ↦ rw a (others-kept x f links)
    ])
  ]

-- what is found among the links left
pub links-but : (x : Name) (links : List Link) → links_in (without_link x links) ≡ but x (links_in links)
links-but x links = fun_ext (go links)
  where
    go : (links : List Link) (y : Name) → links_in (without_link x links) y ≡ (if same_name x y then None else links_in links y)
    go [] y = elim (split (same_name x y)) [ inl i ↦ rw i refl | inr i ↦ rw i refl ]
    go (m ∷ links) y = elim (split-names x m.name.name) [
      | inl s ↦ rw (subst (λ z. same_name x z ≡ true) s (same-itself x)) (elim (split-names x y) [
        | inl e ↦ go links y ∙ rw (subst (λ z. same_name x z ≡ true) e (same-itself x)) refl
        | inr e ↦ go links y ∙ rw (e, other m y s e) refl
      ])
      | inr s ↦ rw s (elim (split-names y m.name.name) [
        | inl e ↦ rw (subst (λ z. same_name z m.name.name ≡ true) (sym e) (same-itself m.name.name), subst (λ z. same_name x z ≡ false) (sym e) s) refl
        | inr e ↦ rw e (go links y)
      ])
    ]
      where
        other : (m : Link) (y : Name) → x ≡ m.name.name → same_name x y ≡ false → same_name y m.name.name ≡ false
        other m y s e = elim (split-names y m.name.name) [
          | inl t ↦ absurd (no-both (same_name x y) (subst (λ z. same_name x z ≡ true) (s ∙ sym t) (same-itself x)) e)
          | inr t ↦ t
        ]

not-among : (x y : Name) (links : List Link) → is_among y (link_names links) ≡ false → is_among y (link_names (without_link x links)) ≡ false
not-among x y [] i = refl
not-among x y (m ∷ links) i =
    let (a, b) = or-none (same_name y m.name.name) (is_among y (link_names links)) i in
    elim (split (same_name x m.name.name)) [
      | inl s ↦ rw s (not-among x y links b)
      | inr s ↦ rw (s, a) (not-among x y links b)
    ]

pub distinct-kept : (x : Name) (links : List Link) → are_distinct (link_names links) ≡ true → are_distinct (link_names (without_link x links)) ≡ true
distinct-kept x [] i = refl
distinct-kept x (m ∷ links) i =
    let (a, b) = and_parts (not (is_among m.name.name (link_names links))) (are_distinct (link_names links)) i in
    elim (split (same_name x m.name.name)) [
      | inl s ↦ rw s (distinct-kept x links b)
      | inr s ↦ rw (s, not-among x m.name.name links (not-true (is_among m.name.name (link_names links)) a)) (distinct-kept x links b)
    ]

-- where a name stands at most once among the parts, no two of them are joined by it
pub one-link-kept : (x : Name) (links : List Link) (parts : Parts) → times_in x parts + times_out x parts ≤ 1 → EachHasOneLink links parts → EachHasOneLink (without_link x links) parts
one-link-kept x links no_parts few each = tt
one-link-kept x links (part_then h body parts) few each = (
  still parts (apart (stands_in h x) (stands_among parts x) refl refl) each.0,
  one-link-kept x links parts (omega (arith, few)) each.1,
)
  where
    apart : (a b : Bool) → stands_in h x ≡ a → stands_among parts x ≡ b → (stands_in h x && stands_among parts x) ≡ false
    apart true true i j = absurd (
        let e : 1 ≤ times x h.inputs + times x h.outputs = stands-some x h i in
        let f : 1 ≤ times_in x parts + times_out x parts = parts-some x parts j in
        omega (arith, e, f, few))
    apart true false i j = rw (i, j) refl
    apart false b i j = rw i refl

    still : (parts : Parts) → (stands_in h x && stands_among parts x) ≡ false → HasOneLinkTo parts h links → HasOneLinkTo parts h (without_link x links)
    still no_parts f one = tt
    still (part_then g c more) f (l, e) = (l, others-kept (part_then g c more) h x f links ∙ e)
