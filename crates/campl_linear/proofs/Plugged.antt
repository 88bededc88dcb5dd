-- A plug before its bodies, and what each part holds.
use Rattle.std.proofs.Common.{◌≡◌, ◌∙◌, refl, sym, ap, ℕ, ◌≤◌, arith, Bool, true, false, ◌||◌, if◌then◌else◌, List, [], ◌∷◌, Option, Some, None, slice_get}
use Rattle.std.specs.List.{AllByRecursion}
use Rattle.std.proofs.lemmas.List.Elements.{All-from_recursion}
use Rattle.std.proofs.Math.Path.{fun_ext}
use Rattle.campl_plug.specs.declared.plug.PlugFault.{PlugFault}
use Rattle.campl_plug.specs.declared.plug.PlugFault.TheVariants as plug
use Rattle.campl_plug.specs.Links.{IsWithin}
use Rattle.campl_plug.specs.Faults.{IsFaultOf}
use Rattle.std.specs.Prelude.{All, ◌≢◌}
use Rattle.campl_tree.specs.declared.place.Place.{Place}
use Rattle.campl_tree.specs.declared.service.Side.TheVariants.{Input, Output}
use Rattle.campl_tree.specs.Plain.ChanType.{ChanType}
use Rattle.campl_tree.specs.Plain.Process.{Body, Link, Header, Parts}
use Rattle.campl_types.specs.Names.{Name, same_name, is_among, are_distinct, found}
use Rattle.campl_types.specs.World.{names_of, or_else}
use Rattle.campl_types.specs.Held.{Channel, On, Held}
use Rattle.campl_types.specs.Headers.{links_in, link_names, times_in, times_out, Divide, share, count}
use Rattle.campl_types.specs.Linear.{between, most_parts}
use Rattle.campl_types.proofs.Names.{same-is}
use Rattle.campl_seqcheck.specs.Judged.{Fine, fine, Is, and_then}
use Rattle.campl_linear.specs.Holding.{Holding, as_held, those}
use Rattle.campl_linear.specs.Rows.{is_between}
use Rattle.campl_plug.specs.FirstFault.{fault_of}
use Rattle.campl_peel.specs.Numbered.{part_at, joined_parts, outputs_in, inputs_in, PlugIsTree}
use Rattle.campl_linear.specs.Plugs.{part_count, links_are_new, headers_stand, links_are_used, all_are_used, in_cycle, is_apart, tree_fault, parts_form_tree, plug_stands, is_in, ends_of, share_of}
use Rattle.campl_linear.proofs.Turns.{in-turn, is-between, between-is}
use Rattle.campl_linear.proofs.Lists.{held-those, found-append}
use Rattle.campl_plug.proofs.Faulted.{tree-exactly, fault-exactly}
use Rattle.campl_linear.proofs.Standing.{on, on-out, on-in, joined-within}
use Rattle.campl_linear.proofs.Headers.{link-among, headers-so, so-headers, LinksAreNew, links-new, new-links, links-used, used-links, all-used, used-all, divide-so, link-is, so-new, so-twice, so-once, so-stand}
use Rattle.campl_types.proofs.Among.{from-nothing}

parts-so : (at : Place) (n : ℕ) (f : Fine) → part_count at n ≡ Is f → between 2 n most_parts
parts-so at n f i = go (is_between 2 n most_parts) refl
  where
    go : (p : Bool) → is_between 2 n most_parts ≡ p → between 2 n most_parts
    go true e = is-between 2 n most_parts e
    go false e = absurd (cc (rw e at i))

so-parts : (at : Place) (n : ℕ) → between 2 n most_parts → part_count at n ≡ Is fine
so-parts at n h = let e : is_between 2 n most_parts ≡ true = between-is 2 n most_parts h in rw e refl

-- Trees

no-fault : (links : List Link) (parts : Parts) (o : Option PlugFault) (f : Fine) → tree_fault links parts o ≡ Is f → o ≡ None
no-fault links parts None f i = refl
no-fault links parts (Some (plug.Cycle n)) f i = go (slice_get links n) i
  where
    go : (o : Option Link) → in_cycle o ≡ Is f → Some (plug.Cycle n) ≡ None
    go None j = absurd (cc j)
    go (Some l) j = absurd (cc j)
no-fault links parts (Some (plug.Apart n)) f i = go (part_at parts n) i
  where
    go : (o : Option (Header × Body)) → is_apart n o ≡ Is f → Some (plug.Apart n) ≡ None
    go None j = absurd (cc j)
    go (Some l) j = absurd (cc j)
no-fault links parts (Some plug.OutOfMemory) f i = absurd (cc i)

module _ (links : List Link) (held : Holding) (parts : Parts) (divide : Divide (links_in links) (as_held held) parts) where
  pub within : AllByRecursion (IsWithin (count parts)) (joined_parts links parts)
  within = joined-within parts links (λ x i.
      let m = link-is links held parts divide x i in
      let o : times_out x parts ≡ 1 = m.1 in
      let n : times_in x parts ≡ 1 = m.2 in
      let p : times_out x parts ≡ on outputs_in x parts = on-out x parts in
      let q : times_in x parts ≡ on inputs_in x parts = on-in x parts in
      (omega (arith, o, p), omega (arith, n, q)))

  module _ (some : 1 ≤ count parts) where
    tree-so : (f : Fine) → parts_form_tree links parts ≡ Is f → PlugIsTree links parts
    tree-so f i = (tree-exactly (count parts) (joined_parts links parts) within some).1 (no-fault links parts (fault_of (count parts) (joined_parts links parts)) f i)

    so-tree : PlugIsTree links parts → parts_form_tree links parts ≡ Is fine
    so-tree t = let e : fault_of (count parts) (joined_parts links parts) ≡ None = (tree-exactly (count parts) (joined_parts links parts) within some).0 t in rw e refl

    -- the fault that the links have is the one that is told
    fault-told : (fault : PlugFault) → (fault ≡ plug.OutOfMemory → ⊥) → IsFaultOf (count parts) (joined_parts links parts) fault → parts_form_tree links parts ≡ tree_fault links parts (Some fault)
    fault-told fault stays is =
        let e : fault_of (count parts) (joined_parts links parts) ≡ Some fault = (fault-exactly (count parts) (joined_parts links parts) within some fault stays).0 is in
        ap (tree_fault links parts) e

-- behind the first five steps
pub divides : (at : Place) (links : List Link) (parts : Parts) (held : Holding) → links_are_new held [] links ≡ Is fine → headers_stand (links_in links) held [] [] parts ≡ Is fine → links_are_used links parts ≡ Is fine
    → all_are_used at held parts ≡ Is fine → Divide (links_in links) (as_held held) parts
divides at links parts held a b c d =
    divide-so links held parts (links-new held [] links fine a).1 (headers-so (links_in links) held [] [] parts fine b) (links-used links parts fine c) (all-used at held parts fine d)

pub joins-parts : (links : List Link) (parts : Parts) (held : Holding) → Divide (links_in links) (as_held held) parts → All (IsWithin (count parts)) (joined_parts links parts)
joins-parts links parts held divide = All-from_recursion (IsWithin (count parts)) (joined_parts links parts) (within links held parts divide)

pub tells-fault : (links : List Link) (parts : Parts) (held : Holding) → Divide (links_in links) (as_held held) parts → 1 ≤ count parts
    → (fault : PlugFault) → fault ≢ plug.OutOfMemory → IsFaultOf (count parts) (joined_parts links parts) fault → parts_form_tree links parts ≡ tree_fault links parts (Some fault)
tells-fault links parts held divide some fault stays is = fault-told links held parts divide some fault stays is

pub tells-tree : (links : List Link) (parts : Parts) (held : Holding) → Divide (links_in links) (as_held held) parts → 1 ≤ count parts → PlugIsTree links parts → parts_form_tree links parts ≡ Is fine
tells-tree links parts held divide some tree = so-tree links held parts divide some tree

-- The seven steps

some-parts : {n : ℕ} → between 2 n most_parts → 1 ≤ n
some-parts {n} h = let k : 2 ≤ n = h.0 in omega (arith, k)

pub record PlugStands (links : List Link) (parts : Parts) (held : Holding) : Type 0 where
  pub size : between 2 (count parts) most_parts
  pub distinct : are_distinct (link_names links) ≡ true
  pub divide : Divide (links_in links) (as_held held) parts
  pub tree : PlugIsTree links parts

pub plug-so : (at : Place) (links : List Link) (parts : Parts) (held : Holding) (f : Fine) → plug_stands at links parts held ≡ Is f → PlugStands links parts held
plug-so at links parts held f i =
    let a = in-turn (part_count at (count parts)) (λ z. and_then (links_are_new held [] links) (λ y. and_then (headers_stand (links_in links) held [] [] parts) (λ x. and_then (links_are_used links parts) (λ v. and_then (all_are_used at held parts) (λ u. parts_form_tree links parts))))) f i in
    let b = in-turn (links_are_new held [] links) (λ y. and_then (headers_stand (links_in links) held [] [] parts) (λ x. and_then (links_are_used links parts) (λ v. and_then (all_are_used at held parts) (λ u. parts_form_tree links parts)))) f a.2 in
    let c = in-turn (headers_stand (links_in links) held [] [] parts) (λ x. and_then (links_are_used links parts) (λ v. and_then (all_are_used at held parts) (λ u. parts_form_tree links parts))) f b.2 in
    let d = in-turn (links_are_used links parts) (λ v. and_then (all_are_used at held parts) (λ u. parts_form_tree links parts)) f c.2 in
    let e = in-turn (all_are_used at held parts) (λ u. parts_form_tree links parts) f d.2 in
    let size = parts-so at (count parts) a.0 a.1 in
    let new = links-new held [] links b.0 b.1 in
    let divide = divide-so links held parts new.1 (headers-so (links_in links) held [] [] parts c.0 c.1) (links-used links parts d.0 d.1) (all-used at held parts e.0 e.1) in
    record { size = size; distinct = new.0.distinct; divide = divide; tree = tree-so links held parts divide (some-parts size) f e.2 }

pub so-plug : (at : Place) (links : List Link) (parts : Parts) (held : Holding) → PlugStands links parts held → plug_stands at links parts held ≡ Is fine
so-plug at links parts held p =
    let a = so-parts at (count parts) p.size in
    let b = new-links held [] links (from-nothing (link_names links) p.distinct) (so-new links held parts p.divide) in
    let c = so-headers (links_in links) held [] [] parts (so-stand links held parts p.divide) in
    let d = used-links links parts (so-twice links held parts p.divide) in
    let e = used-all at held parts (so-once links held parts p.divide) in
    rw (a, b, c, d, e) (so-tree links held parts p.divide (some-parts p.size) p.tree)

-- Shares

pub stands-new : (links : List Link) (parts : Parts) (held : Holding) → PlugStands links parts held → LinksAreNew links held
stands-new links parts held p = so-new links held parts p.divide

-- a part's ends of links by name
abbrev end_found : Bool → Bool → Option ChanType → Option Channel
end_found o i None = None
end_found true i (Some t) = Some (On Output t)
end_found false true (Some t) = Some (On Input t)
end_found false false (Some t) = None

ends-found : (h : Header) (links : List Link) (x : Name) → found x (ends_of h links) ≡ end_found (is_among x (names_of h.outputs)) (is_among x (names_of h.inputs)) (links_in links x)
ends-found h [] x = refl
ends-found h (l ∷ ls) x = go (is_among l.name.name (names_of h.outputs)) refl (is_among l.name.name (names_of h.inputs)) refl (same_name x l.name.name) refl (ends-found h ls x)
  where
    go : (o : Bool) → is_among l.name.name (names_of h.outputs) ≡ o → (i : Bool) → is_among l.name.name (names_of h.inputs) ≡ i → (s : Bool) → same_name x l.name.name ≡ s
        → found x (ends_of h ls) ≡ end_found (is_among x (names_of h.outputs)) (is_among x (names_of h.inputs)) (links_in ls x)
        → found x (if o then (l.name.name, On Output l.channel_type) ∷ ends_of h ls else (if i then (l.name.name, On Input l.channel_type) ∷ ends_of h ls else ends_of h ls))
        ≡ end_found (is_among x (names_of h.outputs)) (is_among x (names_of h.inputs)) (if s then Some l.channel_type else links_in ls x)
    go true eo i ei true es ih = let p : is_among x (names_of h.outputs) ≡ true = ap (λ z. is_among z (names_of h.outputs)) (same-is x l.name.name es) ∙ eo in rw (es, p) refl
    go false eo true ei true es ih =
        let p : is_among x (names_of h.outputs) ≡ false = ap (λ z. is_among z (names_of h.outputs)) (same-is x l.name.name es) ∙ eo in
        let q : is_among x (names_of h.inputs) ≡ true = ap (λ z. is_among z (names_of h.inputs)) (same-is x l.name.name es) ∙ ei in rw (es, p, q) refl
    go false eo false ei true es ih =
        let p : is_among x (names_of h.outputs) ≡ false = ap (λ z. is_among z (names_of h.outputs)) (same-is x l.name.name es) ∙ eo in
        let q : is_among x (names_of h.inputs) ≡ false = ap (λ z. is_among z (names_of h.inputs)) (same-is x l.name.name es) ∙ ei in
        rw (p, q) (none (links_in ls x) (rw (p, q) at ih))
      where
        none : (o : Option ChanType) → found x (ends_of h ls) ≡ end_found false false o → found x (ends_of h ls) ≡ None
        none None j = j
        none (Some t) j = j
    go true eo i ei false es ih = rw es ih
    go false eo true ei false es ih = rw es ih
    go false eo false ei false es ih = ih

module _ (links : List Link) (held : Holding) (new : LinksAreNew links held) where
  clash : (x : Name) (t : ChanType) → links_in links x ≡ Some t → (c : Channel) → found x held ≡ Some c → ⊥
  clash x t el c ec = let e : None ≡ Some c = sym (new x (link-among links x t el)) ∙ ec in cc e

pub shares : (links : List Link) (held : Holding) (h : Header) → LinksAreNew links held → as_held (share_of links held h) ≡ share (links_in links) (as_held held) h
shares links held h new = fun_ext (λ x.
    found-append x (those (is_in h) held) (ends_of h links)
    ∙ ap (λ (g : Held). or_else (g x) (found x (ends_of h links))) (held-those (is_in h) held)
    ∙ ap (or_else (if is_among x (names_of h.outputs) || is_among x (names_of h.inputs) then found x held else None)) (ends-found h links x)
    ∙ go x (is_among x (names_of h.outputs)) refl (is_among x (names_of h.inputs)) refl (links_in links x) refl (found x held) refl)
  where
    go : (x : Name) (o : Bool) → is_among x (names_of h.outputs) ≡ o → (i : Bool) → is_among x (names_of h.inputs) ≡ i → (l : Option ChanType) → links_in links x ≡ l → (c : Option Channel) → found x held ≡ c
        → or_else (if o || i then c else None) (end_found o i l) ≡ share (links_in links) (as_held held) h x
    go x true eo i ei None el None ec = rw (eo, el, ec) refl
    go x true eo i ei None el (Some c) ec = rw (eo, el, ec) refl
    go x true eo i ei (Some t) el None ec = rw (eo, el) refl
    go x true eo i ei (Some t) el (Some c) ec = absurd (clash links held new x t el c ec)
    go x false eo true ei None el None ec = rw (eo, ei, el, ec) refl
    go x false eo true ei None el (Some c) ec = rw (eo, ei, el, ec) refl
    go x false eo true ei (Some t) el None ec = rw (eo, ei, el) refl
    go x false eo true ei (Some t) el (Some c) ec = absurd (clash links held new x t el c ec)
    go x false eo false ei None el c ec = rw (eo, ei) refl
    go x false eo false ei (Some t) el c ec = rw (eo, ei) refl
