-- What is judged of the headers of a plug is that they divide the links and the held channels.
use Rattle.std.proofs.Common.{◌≡◌, ◌∙◌, ◌⊎◌, inl, inr, refl, sym, ap, subst, ℕ, zero, suc, ◌+◌, ◌≤◌, arith, nat_le, Bool, true, false, not, ◌||◌, if◌then◌else◌, List, [], ◌∷◌, ◌++◌, Option, Some, None, map, true≢false}
use Rattle.std.proofs.lemmas.Bool.{le-leb, leb-true}
use Rattle.campl_tree.specs.declared.place.Place.{Place}
use Rattle.campl_tree.specs.declared.place.Ident.{Ident}
use Rattle.campl_tree.specs.declared.service.Side.{Side}
use Rattle.campl_tree.specs.declared.service.Side.TheVariants.{Input, Output}
use Rattle.campl_tree.specs.Plain.ChanType.{ChanType}
use Rattle.campl_tree.specs.Plain.Process.{Body, Link, Header, Parts, no_parts, part_then}
use Rattle.campl_types.specs.Names.{Name, same_name, is_among, are_distinct, found}
use Rattle.campl_types.specs.World.{names_of}
use Rattle.campl_types.specs.Held.{Channel, On}
use Rattle.campl_types.specs.Headers.{Links, links_in, link_names, times, times_in, times_out, IsUsed, NamesDiffer, Divide}
use Rattle.campl_types.proofs.Names.{same-is, same-itself, among-append}
use Rattle.campl_seqcheck.specs.Judged.{Fine, fine, Is, and_then}
use Rattle.campl_linear.specs.Holding.{Holding, as_held}
use Rattle.campl_linear.specs.Channels.{new_name, same_side}
use Rattle.campl_peel.specs.Numbered.{outputs_in, inputs_in}
use Rattle.campl_linear.specs.Plugs.{stands_once, links_are_new, may_stand, names_stand, headers_stand, uses, links_are_used, all_are_used}
use Rattle.campl_linear.proofs.Turns.{in-turn}
use Rattle.campl_linear.proofs.Uses.{is-new, side-is, side-same}
use Rattle.campl_types.proofs.Times.{among-some, among-none, at-most-once}
use Rattle.campl_linear.proofs.Standing.{on, on-out, on-in}
use Rattle.campl_types.proofs.Truth.{and-first, and-second, and-both, or-first, or-second, or-split, as-false, or-none, no-both, split, not-true}
use Rattle.campl_types.proofs.Among.{Apart, distinct-append, DistinctFrom, none-distinct, distinct-more, distinct-first, distinct-rest}

-- Where a name may stand

abbrev pub MayStand : Side → Option ChanType → Option Channel → Type 0
MayStand s (Some t) held = Unit {0}
MayStand s None (Some (On r u)) = r ≡ s
MayStand s None None = ⊥

may-so : (x : Ident) (s : Side) (l : Option ChanType) (c : Option Channel) (f : Fine) → may_stand x s l c ≡ Is f → MayStand s l c
may-so x s (Some t) c f i = tt
may-so x s None None f i = absurd (cc i)
may-so x s None (Some (On r u)) f i = go (same_side r s) refl
  where
    go : (b : Bool) → same_side r s ≡ b → r ≡ s
    go true e = side-is r s e
    go false e = absurd (cc (rw e at i))

so-may : (x : Ident) (s : Side) (l : Option ChanType) (c : Option Channel) → MayStand s l c → may_stand x s l c ≡ Is fine
so-may x s (Some t) c h = refl
so-may x s None None h = absurd h
so-may x s None (Some (On r u)) h = let e : same_side r s ≡ true = ap (λ z. same_side z s) h ∙ side-same s in rw e refl

once-so : (x : Ident) (before : List Name) (f : Fine) → stands_once x before ≡ Is f → is_among x.name before ≡ false
once-so x before f i = go (is_among x.name before) refl
  where
    go : (b : Bool) → is_among x.name before ≡ b → is_among x.name before ≡ false
    go true e = absurd (cc (rw e at i))
    go false e = e

-- The names of one side of a header

module _ (links : Links) (held : Holding) (s : Side) where
  abbrev pub AllMay : List Name → Type 0
  AllMay names = (y : Name) → is_among y names ≡ true → MayStand s (links y) (found y held)

  pub names-so : (before : List Name) (xs : List Ident) (f : Fine) → names_stand links held s before xs ≡ Is f → DistinctFrom before (names_of xs) × AllMay (names_of xs)
  names-so before [] f i = (none-distinct before, λ y j. absurd (true≢false (sym j)))
  names-so before (x ∷ xs) f i =
      let j = in-turn (may_stand x s (links x.name) (found x.name held)) (λ z. and_then (stands_once x before) (λ v. names_stand links held s (x.name ∷ before) xs)) f i in
      let k = in-turn (stands_once x before) (λ z. names_stand links held s (x.name ∷ before) xs) f j.2 in
      let r = names-so (x.name ∷ before) xs f k.2 in
      (distinct-more before (names_of xs) x.name (once-so x before k.0 k.1) r.0, go (may-so x s (links x.name) (found x.name held) j.0 j.1) r.1)
    where
      go : MayStand s (links x.name) (found x.name held) → AllMay (names_of xs) → AllMay (names_of (x ∷ xs))
      go first later y m = elim (or-split (same_name y x.name) (is_among y (names_of xs)) m) [
        | inl e ↦ subst (λ z. MayStand s (links z) (found z held)) (sym (same-is y x.name e)) first
        | inr e ↦ later y e
      ]

  pub so-names : (before : List Name) (xs : List Ident) → DistinctFrom before (names_of xs) → AllMay (names_of xs) → names_stand links held s before xs ≡ Is fine
  so-names before [] d h = refl
  so-names before (x ∷ xs) d h =
      let p = so-may x s (links x.name) (found x.name held) (h x.name (or-first (same_name x.name x.name) (is_among x.name (names_of xs)) (same-itself x.name))) in
      let q : is_among x.name before ≡ false = distinct-first before (names_of xs) x.name d in
      rw (p, q) (so-names (x.name ∷ before) xs (distinct-rest before (names_of xs) x.name d) (λ y m. h y (or-second (same_name y x.name) (is_among y (names_of xs)) m)))

  -- One side of all headers, where these names stood on it before

  pub record OneSide (side : Header → List Ident) (before : List Name) (parts : Parts) : Type 0 where
    pub none : (x : Name) → is_among x before ≡ true → on side x parts ≡ 0
    pub most : (x : Name) → on side x parts ≤ 1
    pub may : (x : Name) → 1 ≤ on side x parts → MayStand s (links x) (found x held)

  pub no-more : (side : Header → List Ident) (before : List Name) → OneSide side before no_parts
  no-more side before = record { none = λ x i. refl; most = λ x. omega arith; may = λ x i. absurd (omega (arith, i)) }

  pub one-more : (side : Header → List Ident) (before : List Name) (h : Header) (body : Body) (parts : Parts) → DistinctFrom before (names_of (side h)) → AllMay (names_of (side h))
      → OneSide side (names_of (side h) ++ before) parts → OneSide side before (part_then h body parts)
  one-more side before h body parts d m r = record { none = none; most = most; may = may }
    where
      none : (x : Name) → is_among x before ≡ true → times x (side h) + on side x parts ≡ 0
      none x i =
          let j : times x (side h) ≡ 0 = among-none x (side h) (as-false (is_among x (names_of (side h))) (λ k. no-both (is_among x before) i (d.apart x k))) in
          let k : on side x parts ≡ 0 = r.none x (among-append x (names_of (side h)) before ∙ or-second (is_among x (names_of (side h))) (is_among x before) i) in
          omega (arith, j, k)

      most : (x : Name) → times x (side h) + on side x parts ≤ 1
      most x = elim (split (is_among x (names_of (side h)))) [
        | inl i ↦
            let j : times x (side h) ≤ 1 = at-most-once x (side h) d.distinct in
            let k : on side x parts ≡ 0 = r.none x (among-append x (names_of (side h)) before ∙ or-first (is_among x (names_of (side h))) (is_among x before) i) in
            omega (arith, j, k)
        | inr i ↦ let j : times x (side h) ≡ 0 = among-none x (side h) i in let k : on side x parts ≤ 1 = r.most x in omega (arith, j, k)
      ]

      may : (x : Name) → 1 ≤ times x (side h) + on side x parts → MayStand s (links x) (found x held)
      may x some = elim (split (is_among x (names_of (side h)))) [
        | inl i ↦ m x i
        | inr i ↦ let j : times x (side h) ≡ 0 = among-none x (side h) i in r.may x (omega (arith, j, some))
      ]

  pub one-less : (side : Header → List Ident) (before : List Name) (h : Header) (body : Body) (parts : Parts) → are_distinct (names_of (side h)) ≡ true → OneSide side before (part_then h body parts)
      → DistinctFrom before (names_of (side h)) × AllMay (names_of (side h)) × OneSide side (names_of (side h) ++ before) parts
  one-less side before h body parts d r = (
    record { distinct = d; apart = λ x i. as-false (is_among x before) (λ j. let k : 1 ≤ times x (side h) = among-some x (side h) i in let l : times x (side h) + on side x parts ≡ 0 = r.none x j in absurd (omega (arith, k, l))) },
    λ x i. r.may x (let k : 1 ≤ times x (side h) = among-some x (side h) i in omega (arith, k)),
    record {
      none = λ x i. none x (or-split (is_among x (names_of (side h))) (is_among x before) (sym (among-append x (names_of (side h)) before) ∙ i));
      most = λ x. let k : times x (side h) + on side x parts ≤ 1 = r.most x in omega (arith, k);
      may = λ x i. r.may x (omega (arith, i));
    },
  )
    where
      none : (x : Name) → (is_among x (names_of (side h)) ≡ true) ⊎ (is_among x before ≡ true) → on side x parts ≡ 0
      none x (inl i) = let k : 1 ≤ times x (side h) = among-some x (side h) i in let l : times x (side h) + on side x parts ≤ 1 = r.most x in omega (arith, k, l)
      none x (inr i) = let l : times x (side h) + on side x parts ≡ 0 = r.none x i in omega (arith, l)

-- names in two lists differ exactly where they do in each, and none stands in both
pub left-distinct : (ks bs : List Name) → are_distinct (ks ++ bs) ≡ true → (are_distinct ks ≡ true) × (are_distinct bs ≡ true) × Apart bs ks
left-distinct [] bs i = (refl, i, λ x j. refl)
left-distinct (a ∷ ks) bs i =
    let first : not (is_among a (ks ++ bs)) ≡ true = and-first (not (is_among a (ks ++ bs))) (are_distinct (ks ++ bs)) i in
    let r = left-distinct ks bs (and-second (not (is_among a (ks ++ bs))) (are_distinct (ks ++ bs)) i) in
    let none : (is_among a ks || is_among a bs) ≡ false = sym (among-append a ks bs) ∙ not-true (is_among a (ks ++ bs)) first in
    let n = or-none (is_among a ks) (is_among a bs) none in
    let p : is_among a ks ≡ false = n.0 in
    (and-both (not (is_among a ks)) (are_distinct ks) (rw p refl) r.0, r.1, λ x j. go x j (same_name x a) refl (r.2 x j) n.1)
  where
    go : (x : Name) → is_among x bs ≡ true → (c : Bool) → same_name x a ≡ c → is_among x ks ≡ false → is_among a bs ≡ false → (c || is_among x ks) ≡ false
    go x j true e k n = absurd (no-both (is_among a bs) (subst (λ z. is_among z bs ≡ true) (same-is x a e) j) n)
    go x j false e k n = k

-- All headers

module _ (links : Links) (held : Holding) where
  pub record Stand (inputs outputs : List Name) (parts : Parts) : Type 0 where
    pub on_inputs : OneSide links held Input inputs_in inputs parts
    pub on_outputs : OneSide links held Output outputs_in outputs parts
    pub differ : NamesDiffer parts

  pub headers-so : (inputs outputs : List Name) (parts : Parts) (f : Fine) → headers_stand links held inputs outputs parts ≡ Is f → Stand inputs outputs parts
  headers-so inputs outputs no_parts f i = record { on_inputs = no-more links held Input inputs_in inputs; on_outputs = no-more links held Output outputs_in outputs; differ = tt }
  headers-so inputs outputs (part_then h body parts) f i =
      let j = in-turn (names_stand links held Input inputs h.inputs) (λ z. and_then (names_stand links held Output (names_of h.inputs ++ outputs) h.outputs) (λ v. headers_stand links held (names_of h.inputs ++ inputs) (names_of h.outputs ++ outputs) parts)) f i in
      let k = in-turn (names_stand links held Output (names_of h.inputs ++ outputs) h.outputs) (λ v. headers_stand links held (names_of h.inputs ++ inputs) (names_of h.outputs ++ outputs) parts) f j.2 in
      let r = headers-so (names_of h.inputs ++ inputs) (names_of h.outputs ++ outputs) parts f k.2 in
      let a = names-so links held Input inputs h.inputs j.0 j.1 in
      let c = names-so links held Output (names_of h.inputs ++ outputs) h.outputs k.0 k.1 in
      record {
        on_inputs = one-more links held Input inputs_in inputs h body parts a.0 a.1 r.on_inputs;
        on_outputs = one-more links held Output outputs_in outputs h body parts (record { distinct = c.0.distinct; apart = λ x m. (apart x (c.0.apart x m)).1 }) c.1 r.on_outputs;
        differ = (distinct-append (names_of h.inputs) (names_of h.outputs) a.0.distinct c.0.distinct (λ x m. (apart x (c.0.apart x m)).0), r.differ);
      }
    where
      apart : (x : Name) → is_among x (names_of h.inputs ++ outputs) ≡ false → (is_among x (names_of h.inputs) ≡ false) × (is_among x outputs ≡ false)
      apart x e = or-none (is_among x (names_of h.inputs)) (is_among x outputs) (sym (among-append x (names_of h.inputs) outputs) ∙ e)

  pub so-headers : (inputs outputs : List Name) (parts : Parts) → Stand inputs outputs parts → headers_stand links held inputs outputs parts ≡ Is fine
  so-headers inputs outputs no_parts h = refl
  so-headers inputs outputs (part_then h body parts) r =
      let d = left-distinct (names_of h.inputs) (names_of h.outputs) r.differ.0 in
      let a = one-less links held Input inputs_in inputs h body parts d.0 r.on_inputs in
      let c = one-less links held Output outputs_in outputs h body parts d.1 r.on_outputs in
      let p = so-names links held Input inputs h.inputs a.0 a.1 in
      let q = so-names links held Output (names_of h.inputs ++ outputs) h.outputs (record { distinct = d.1; apart = λ x m. both x (d.2 x m) (c.0.apart x m) }) c.1 in
      rw (p, q) (so-headers (names_of h.inputs ++ inputs) (names_of h.outputs ++ outputs) parts (record { on_inputs = a.2; on_outputs = c.2; differ = r.differ.1 }))
    where
      both : (x : Name) → is_among x (names_of h.inputs) ≡ false → is_among x outputs ≡ false → is_among x (names_of h.inputs ++ outputs) ≡ false
      both x i j = among-append x (names_of h.inputs) outputs ∙ rw (i, j) refl

-- Links and held channels

pub link-among : (links : List Link) (x : Name) (t : ChanType) → links_in links x ≡ Some t → is_among x (link_names links) ≡ true
link-among [] x t i = absurd (cc i)
link-among (l ∷ ls) x t i = go (same_name x l.name.name) i (link-among ls x t)
  where
    go : (b : Bool) → (if b then Some l.channel_type else links_in ls x) ≡ Some t → (links_in ls x ≡ Some t → is_among x (link_names ls) ≡ true) → (b || is_among x (link_names ls)) ≡ true
    go true j later = refl
    go false j later = later j

pub among-link : (links : List Link) (x : Name) → is_among x (link_names links) ≡ true → (t : ChanType) × (links_in links x ≡ Some t)
among-link [] x i = absurd (true≢false (sym i))
among-link (l ∷ ls) x i = go (same_name x l.name.name) i (among-link ls x)
  where
    go : (b : Bool) → (b || is_among x (link_names ls)) ≡ true → (is_among x (link_names ls) ≡ true → (t : ChanType) × (links_in ls x ≡ Some t)) → (t : ChanType) × ((if b then Some l.channel_type else links_in ls x) ≡ Some t)
    go true j later = (l.channel_type, refl)
    go false j later = later j

-- no link's name is held
abbrev pub LinksAreNew : List Link → Holding → Type 0
LinksAreNew links held = (x : Name) → is_among x (link_names links) ≡ true → found x held ≡ None

pub links-new : (held : Holding) (before : List Name) (links : List Link) (f : Fine) → links_are_new held before links ≡ Is f → DistinctFrom before (link_names links) × LinksAreNew links held
links-new held before [] f i = (none-distinct before, λ x j. absurd (true≢false (sym j)))
links-new held before (l ∷ ls) f i =
    let j = in-turn (new_name l.name held) (λ z. and_then (stands_once l.name before) (λ v. links_are_new held (l.name.name ∷ before) ls)) f i in
    let k = in-turn (stands_once l.name before) (λ v. links_are_new held (l.name.name ∷ before) ls) f j.2 in
    let r = links-new held (l.name.name ∷ before) ls f k.2 in
    (distinct-more before (link_names ls) l.name.name (once-so l.name before k.0 k.1) r.0, go (is-new l.name held j.0 j.1) r.1)
  where
    go : found l.name.name held ≡ None → LinksAreNew ls held → LinksAreNew (l ∷ ls) held
    go first later x m = elim (or-split (same_name x l.name.name) (is_among x (link_names ls)) m) [
      | inl e ↦ subst (λ z. found z held ≡ None) (sym (same-is x l.name.name e)) first
      | inr e ↦ later x e
    ]

pub new-links : (held : Holding) (before : List Name) (links : List Link) → DistinctFrom before (link_names links) → LinksAreNew links held → links_are_new held before links ≡ Is fine
new-links held before [] d h = refl
new-links held before (l ∷ ls) d h =
    let p : found l.name.name held ≡ None = h l.name.name (or-first (same_name l.name.name l.name.name) (is_among l.name.name (link_names ls)) (same-itself l.name.name)) in
    let q : is_among l.name.name before ≡ false = distinct-first before (link_names ls) l.name.name d in
    rw (p, q) (new-links held (l.name.name ∷ before) ls (distinct-rest before (link_names ls) l.name.name d) (λ x m. h x (or-second (same_name x l.name.name) (is_among x (link_names ls)) m)))

pub links-used : (links : List Link) (parts : Parts) (f : Fine) → links_are_used links parts ≡ Is f → (x : Name) → is_among x (link_names links) ≡ true → 2 ≤ uses x parts
links-used [] parts f i x j = absurd (true≢false (sym j))
links-used (l ∷ ls) parts f i x j = go (nat_le 2 (uses l.name.name parts)) refl (links-used ls parts f)
  where
    go : (b : Bool) → nat_le 2 (uses l.name.name parts) ≡ b → (links_are_used ls parts ≡ Is f → (y : Name) → is_among y (link_names ls) ≡ true → 2 ≤ uses y parts) → 2 ≤ uses x parts
    go true e later = elim (or-split (same_name x l.name.name) (is_among x (link_names ls)) j) [
      | inl s ↦ subst (λ z. 2 ≤ uses z parts) (sym (same-is x l.name.name s)) (leb-true 2 (uses l.name.name parts) e)
      | inr s ↦ later (rw e at i) x s
    ]
    go false e later = absurd (cc (rw e at i))

pub used-links : (links : List Link) (parts : Parts) → ((x : Name) → is_among x (link_names links) ≡ true → 2 ≤ uses x parts) → links_are_used links parts ≡ Is fine
used-links [] parts h = refl
used-links (l ∷ ls) parts h =
    let p : nat_le 2 (uses l.name.name parts) ≡ true = le-leb 2 (uses l.name.name parts) (h l.name.name (or-first (same_name l.name.name l.name.name) (is_among l.name.name (link_names ls)) (same-itself l.name.name))) in
    rw p (used-links ls parts (λ x m. h x (or-second (same_name x l.name.name) (is_among x (link_names ls)) m)))

pub all-used : (at : Place) (held : Holding) (parts : Parts) (f : Fine) → all_are_used at held parts ≡ Is f → (x : Name) (c : Channel) → found x held ≡ Some c → 1 ≤ uses x parts
all-used at [] parts f i x c j = absurd (cc j)
all-used at (e ∷ es) parts f i x c j = go (nat_le 1 (uses e.0 parts)) refl (all-used at es parts f)
  where
    go : (b : Bool) → nat_le 1 (uses e.0 parts) ≡ b → (all_are_used at es parts ≡ Is f → (y : Name) (d : Channel) → found y es ≡ Some d → 1 ≤ uses y parts) → 1 ≤ uses x parts
    go true k later = elim (split (same_name x e.0)) [
      | inl s ↦ subst (λ z. 1 ≤ uses z parts) (sym (same-is x e.0 s)) (leb-true 1 (uses e.0 parts) k)
      | inr s ↦ later (rw k at i) x c (rw s at j)
    ]
    go false k later = absurd (cc (rw k at i))

pub used-all : (at : Place) (held : Holding) (parts : Parts) → ((x : Name) → is_among x (map (λ (e : Name × Channel). e.0) held) ≡ true → 1 ≤ uses x parts) → all_are_used at held parts ≡ Is fine
used-all at [] parts h = refl
used-all at (e ∷ es) parts h =
    let p : nat_le 1 (uses e.0 parts) ≡ true = le-leb 1 (uses e.0 parts) (h e.0 (or-first (same_name e.0 e.0) (is_among e.0 (map (λ (d : Name × Channel). d.0) es)) (same-itself e.0))) in
    rw p (used-all at es parts (λ x m. h x (or-second (same_name x e.0) (is_among x (map (λ (d : Name × Channel). d.0) es)) m)))

pub among-held : (held : Holding) (x : Name) → is_among x (map (λ (e : Name × Channel). e.0) held) ≡ true → (c : Channel) × (found x held ≡ Some c)
among-held [] x i = absurd (true≢false (sym i))
among-held (e ∷ es) x i = go (same_name x e.0) i (among-held es x)
  where
    go : (b : Bool) → (b || is_among x (map (λ (d : Name × Channel). d.0) es)) ≡ true → (is_among x (map (λ (d : Name × Channel). d.0) es) ≡ true → (c : Channel) × (found x es ≡ Some c)) → (c : Channel) × ((if b then Some e.1 else found x es) ≡ Some c)
    go true j later = (e.1, refl)
    go false j later = later j

-- Uses

zero-or-one : (n : ℕ) → n ≤ 1 → (n ≡ 0) ⊎ (n ≡ 1)
zero-or-one zero h = inl refl
zero-or-one (suc zero) h = inr refl
zero-or-one (suc (suc n)) h = absurd (omega (arith, h))

uses-so : (l : Option ChanType) (c : Option Channel) (o i : ℕ) → ((t : ChanType) → l ≡ Some t → (c ≡ None) × (2 ≤ i + o)) → ((d : Channel) → c ≡ Some d → 1 ≤ i + o)
    → o ≤ 1 → i ≤ 1 → (1 ≤ i → MayStand Input l c) → (1 ≤ o → MayStand Output l c) → IsUsed l c o i
uses-so (Some t) None o i f g a b m n = let h = (f t refl).1 in (omega (arith, h, a, b), omega (arith, h, a, b))
uses-so (Some t) (Some c) o i f g a b m n = absurd (cc ((f t refl).0))
uses-so None (Some (On Output t)) o i f g a b m n = elim (zero-or-one i b) [
  | inl z ↦ let h = g (On Output t) refl in (omega (arith, z, h, a), z)
  | inr z ↦ absurd (cc (m (omega (arith, z))))
]
uses-so None (Some (On Input t)) o i f g a b m n = elim (zero-or-one o a) [
  | inl z ↦ let h = g (On Input t) refl in (z, omega (arith, z, h, b))
  | inr z ↦ absurd (cc (n (omega (arith, z))))
]
uses-so None None o i f g a b m n = (elim (zero-or-one o a) [ inl z ↦ z | inr z ↦ absurd (n (omega (arith, z))) ], elim (zero-or-one i b) [ inl z ↦ z | inr z ↦ absurd (m (omega (arith, z))) ])

record UsedSo (l : Option ChanType) (c : Option Channel) (o i : ℕ) : Type 0 where
  pub out_most : o ≤ 1
  pub in_most : i ≤ 1
  pub in_may : 1 ≤ i → MayStand Input l c
  pub out_may : 1 ≤ o → MayStand Output l c

so-uses : (l : Option ChanType) (c : Option Channel) (o i : ℕ) → IsUsed l c o i → UsedSo l c o i
so-uses (Some t) None o i u = record { out_most = omega (arith, u.0); in_most = omega (arith, u.1); in_may = λ z. tt; out_may = λ z. tt }
so-uses (Some t) (Some c) o i u = absurd u
so-uses None (Some (On Output t)) o i u = record { out_most = omega (arith, u.0); in_most = omega (arith, u.1); in_may = λ z. absurd (omega (arith, z, u.1)); out_may = λ z. refl }
so-uses None (Some (On Input t)) o i u = record { out_most = omega (arith, u.0); in_most = omega (arith, u.1); in_may = λ z. refl; out_may = λ z. absurd (omega (arith, z, u.0)) }
so-uses None None o i u = record { out_most = omega (arith, u.0); in_most = omega (arith, u.1); in_may = λ z. absurd (omega (arith, z, u.1)); out_may = λ z. absurd (omega (arith, z, u.0)) }

link-use : (l : Option ChanType) (t : ChanType) (c : Option Channel) (o i : ℕ) → l ≡ Some t → IsUsed l c o i → (c ≡ None) × (o ≡ 1) × (i ≡ 1)
link-use (Some t) r None o i e u = (refl, u.0, u.1)
link-use (Some t) r (Some c) o i e u = absurd u
link-use None r c o i e u = absurd (cc e)

held-use : (l : Option ChanType) (c : Option Channel) (d : Channel) (o i : ℕ) → c ≡ Some d → IsUsed l c o i → 1 ≤ i + o
held-use (Some t) None d o i e u = absurd (cc e)
held-use (Some t) (Some c) d o i e u = absurd u
held-use None None d o i e u = absurd (cc e)
held-use None (Some (On Output t)) d o i e u = omega (arith, u.0, u.1)
held-use None (Some (On Input t)) d o i e u = omega (arith, u.0, u.1)

module _ (links : List Link) (held : Holding) (parts : Parts) where
  -- what is judged tells that they divide
  pub divide-so : LinksAreNew links held → Stand (links_in links) held [] [] parts → ((x : Name) → is_among x (link_names links) ≡ true → 2 ≤ uses x parts)
      → ((x : Name) (c : Channel) → found x held ≡ Some c → 1 ≤ uses x parts) → Divide (links_in links) (as_held held) parts
  divide-so new stand twice once = (λ x. one x, stand.differ)
    where
      one : (x : Name) → IsUsed (links_in links x) (found x held) (times_out x parts) (times_in x parts)
      one x =
          let o : times_out x parts ≡ on outputs_in x parts = on-out x parts in
          let i : times_in x parts ≡ on inputs_in x parts = on-in x parts in
          let p : on outputs_in x parts ≤ 1 = stand.on_outputs.most x in
          let q : on inputs_in x parts ≤ 1 = stand.on_inputs.most x in
          uses-so (links_in links x) (found x held) (times_out x parts) (times_in x parts)
          (λ t e. let a = link-among links x t e in (new x a, twice x a)) (λ d e. once x d e)
          (omega (arith, o, p)) (omega (arith, i, q)) (λ h. stand.on_inputs.may x (omega (arith, i, h))) (λ h. stand.on_outputs.may x (omega (arith, o, h)))

  -- and the other way round
  module _ (divide : Divide (links_in links) (as_held held) parts) where
    pub link-is : (x : Name) → is_among x (link_names links) ≡ true → (found x held ≡ None) × (times_out x parts ≡ 1) × (times_in x parts ≡ 1)
    link-is x i = let m = among-link links x i in link-use (links_in links x) m.0 (found x held) (times_out x parts) (times_in x parts) m.1 (divide.0 x)

    pub so-new : LinksAreNew links held
    so-new x i = (link-is x i).0

    pub so-twice : (x : Name) → is_among x (link_names links) ≡ true → 2 ≤ uses x parts
    so-twice x i = let m = link-is x i in let o = m.1 in let n = m.2 in omega (arith, o, n)

    pub so-once : (x : Name) → is_among x (map (λ (e : Name × Channel). e.0) held) ≡ true → 1 ≤ uses x parts
    so-once x i = let m = among-held held x i in held-use (links_in links x) (found x held) m.0 (times_out x parts) (times_in x parts) m.1 (divide.0 x)

    pub so-stand : Stand (links_in links) held [] [] parts
    so-stand =
        record {
          on_inputs = record {
            none = λ x i. absurd (true≢false (sym i));
            most = λ x. let i : times_in x parts ≡ on inputs_in x parts = on-in x parts in let p : times_in x parts ≤ 1 = (used x).in_most in omega (arith, i, p);
            may = λ x h. (used x).in_may (let i : times_in x parts ≡ on inputs_in x parts = on-in x parts in omega (arith, i, h));
          };
          on_outputs = record {
            none = λ x i. absurd (true≢false (sym i));
            most = λ x. let i : times_out x parts ≡ on outputs_in x parts = on-out x parts in let p : times_out x parts ≤ 1 = (used x).out_most in omega (arith, i, p);
            may = λ x h. (used x).out_may (let i : times_out x parts ≡ on outputs_in x parts = on-out x parts in omega (arith, i, h));
          };
          differ = divide.1;
        }
      where
        used : (x : Name) → UsedSo (links_in links x) (found x held) (times_out x parts) (times_in x parts)
        used x = so-uses (links_in links x) (found x held) (times_out x parts) (times_in x parts) (divide.0 x)
