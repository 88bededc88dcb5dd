-- What a part holds.
use Rattle.std.proofs.Common.{◌≡◌, ◌∙◌, refl, sym, ap, subst, ℕ, ◌+◌, ◌<◌, ◌≤◌, Bool, true, false, not, ◌||◌, if◌then◌else◌, List, [], ◌∷◌, ◌++◌, append_assoc, append-nil, map, drop, length, get_or, Option, Some, None}
use Rattle.std.proofs.Math.Path.{fun_ext}
use Rattle.std.proofs.lemmas.List.{drop_all}
use Rattle.campl_tree.specs.declared.service.Side.{Side}
use Rattle.campl_tree.specs.declared.service.Side.TheVariants.{Input, Output}
use Rattle.campl_tree.specs.declared.process.Link as code
use Rattle.campl_tree.specs.Plain.Process.{Link, Header}
use Rattle.campl_tree.specs.View.{view_link}
use Rattle.campl_types.specs.Names.{Name, same_name, is_among, are_distinct, found}
use Rattle.campl_types.specs.World.{names_of, or_else}
use Rattle.campl_types.specs.Held.{On}
use Rattle.campl_types.specs.Headers.{link_names}
use Rattle.campl_types.proofs.Names.{same-is, same-itself, among-append}
use Rattle.campl_types.proofs.Truth.{and-first, and-second, not-true, or-first, or-second, no-both}
use Rattle.campl_names.specs.NameSet.{HaveSame}
use Rattle.campl_names.specs.Scope.{with_names}
use Rattle.campl_seqcheck.specs.Judged.{fine, Is}
use Rattle.campl_seqcheck.proofs.Answered.{drop-at}
use Rattle.campl_linear.specs.Holding.{Holding, those}
use Rattle.campl_linear.specs.Plugs.{links_are_new, is_in, ends_of, share_of}
use Rattle.campl_linear.proofs.Headers.{links-new}
use Rattle.campl_linear.proofs.Lists.{held-those, found-append}
use Rattle.campl_plug_heads.specs.Heads.{held_end, side_in, end_in, ends_in, LinksStand}
use Rattle.campl_plug_heads.proofs.Names.{same-set}

-- Links that are new

pub links-stand : (links : List Link) (held : Holding) → links_are_new held [] links ≡ Is fine → LinksStand links held
links-stand links held i = let r = links-new held [] links fine i in record { distinct = r.0.distinct; new = r.1 }

if-none : {A : Type 0} (b : Bool) (o : Option A) → o ≡ None → (if b then o else None) ≡ None
if-none true o i = i
if-none false o i = refl

pub stand-kept : (links : List Link) (held : Holding) (keep : Name → Bool) → LinksStand links held → LinksStand links (those keep held)
stand-kept links held keep s = record { distinct = s.distinct; new = λ x i. ap (λ g. g x) (held-those keep held) ∙ if-none (keep x) (found x held) (s.new x i) }

pub first-free : (l : Link) (ls : List Link) (held : Holding) → LinksStand (l ∷ ls) held → found l.name.name held ≡ None
first-free l ls held s = s.new l.name.name (or-first (same_name l.name.name l.name.name) (is_among l.name.name (link_names ls)) (same-itself l.name.name))

-- an end of the first link leaves the others free
pub rest-stands : (l : Link) (ls : List Link) (held : Holding) (outputs names : List Name) → LinksStand (l ∷ ls) held → LinksStand ls (held ++ end_in outputs names l)
rest-stands l ls held outputs names s =
    record {
      distinct = and-second (not (is_among l.name.name (link_names ls))) (are_distinct (link_names ls)) s.distinct;
      new = λ x i. found-append x held (end_in outputs names l) ∙ ap (λ o. or_else o (found x (end_in outputs names l))) (s.new x (or-second (same_name x l.name.name) (is_among x (link_names ls)) i)) ∙ none x i;
    }
  where
    other : (x : Name) → is_among x (link_names ls) ≡ true → same_name x l.name.name ≡ false
    other x i = go (same_name x l.name.name) refl
      where
        go : (b : Bool) → same_name x l.name.name ≡ b → b ≡ false
        go true e = absurd (no-both (is_among l.name.name (link_names ls)) (subst (λ z. is_among z (link_names ls) ≡ true) (same-is x l.name.name e) i)
            (not-true (is_among l.name.name (link_names ls)) (and-first (not (is_among l.name.name (link_names ls))) (are_distinct (link_names ls)) s.distinct)))
        go false e = refl

    none : (x : Name) → is_among x (link_names ls) ≡ true → found x (held_end l (side_in outputs names l.name.name)) ≡ None
    none x i = go (side_in outputs names l.name.name)
      where
        go : (o : Option Side) → found x (held_end l o) ≡ None
        go None = refl
        go (Some s) = rw (other x i) refl

-- One turn of the loop over links

module _ (outputs names : List Name) (links : List code.Link) (i : ℕ) (share : Holding) where
  pub ends-at : (l : code.Link) → i < length links → l ≡ get_or links i l
      → (share ++ end_in outputs names (view_link l)) ++ ends_in outputs names (map view_link (drop (i + 1) links)) ≡ share ++ ends_in outputs names (map view_link (drop i links))
  ends-at l n is =
      append_assoc share (end_in outputs names (view_link l)) (ends_in outputs names (map view_link (drop (i + 1) links)))
      ∙ ap (λ ls. share ++ ends_in outputs names (map view_link ls)) (sym (drop-at links i l n is))

  pub ends-end : length links ≤ i → share ++ ends_in outputs names (map view_link (drop i links)) ≡ share
  ends-end n = ap (λ ls. share ++ ends_in outputs names (map view_link ls)) (drop_all i links n) ∙ append-nil share

  pub free-at : (l : code.Link) → i < length links → l ≡ get_or links i l → LinksStand (map view_link (drop i links)) share → found l.name.name share ≡ None
  free-at l n is s = first-free (view_link l) (map view_link (drop (i + 1) links)) share (subst (λ ls. LinksStand (map view_link ls) share) (drop-at links i l n is) s)

  pub stand-at : (l : code.Link) → i < length links → l ≡ get_or links i l → LinksStand (map view_link (drop i links)) share
      → LinksStand (map view_link (drop (i + 1) links)) (share ++ end_in outputs names (view_link l))
  stand-at l n is s = rest-stands (view_link l) (map view_link (drop (i + 1) links)) share outputs names (subst (λ ls. LinksStand (map view_link ls) share) (drop-at links i l n is) s)

-- The share of a header

module _ (h : Header) (outputs names : List Name) (o : HaveSame outputs (names_of h.outputs)) (n : HaveSame names (names_of h.outputs ++ names_of h.inputs)) where
  ends-are : (links : List Link) → ends_in outputs names links ≡ ends_of h links
  ends-are [] = refl
  ends-are (l ∷ ls) =
      ap (λ (z : Bool). held_end l (if z then Some Output else (if is_among l.name.name names then Some Input else None)) ++ ends_in outputs names ls) (o l.name.name)
      ∙ ap (λ (z : Bool). held_end l (if is_among l.name.name (names_of h.outputs) then Some Output else (if z then Some Input else None)) ++ ends_in outputs names ls)
      (n l.name.name ∙ among-append l.name.name (names_of h.outputs) (names_of h.inputs))
      ∙ go (is_among l.name.name (names_of h.outputs)) (is_among l.name.name (names_of h.inputs)) (ends-are ls)
    where
      go : (a b : Bool) → ends_in outputs names ls ≡ ends_of h ls
          → held_end l (if a then Some Output else (if a || b then Some Input else None)) ++ ends_in outputs names ls
          ≡ (if a then (l.name.name, On Output l.channel_type) ∷ ends_of h ls else (if b then (l.name.name, On Input l.channel_type) ∷ ends_of h ls else ends_of h ls))
      go true b i = ap (λ (r : Holding). (l.name.name, On Output l.channel_type) ∷ r) i
      go false true i = ap (λ (r : Holding). (l.name.name, On Input l.channel_type) ∷ r) i
      go false false i = i

  share-so : (links : List Link) (held : Holding) → those (λ x. is_among x names) held ++ ends_in outputs names links ≡ share_of links held h
  share-so links held =
      ap (λ (keep : Name → Bool). those keep held ++ ends_in outputs names links) (fun_ext (λ x. n x ∙ among-append x (names_of h.outputs) (names_of h.inputs)))
      ∙ ap (λ (r : Holding). those (is_in h) held ++ r) (ends-are links)

pub share-is : (links : List Link) (held : Holding) (h : Header) (outputs names : List Name) → outputs ≡ with_names [] (names_of h.outputs)
    → names ≡ with_names [] (names_of h.outputs ++ names_of h.inputs) → those (λ x. is_among x names) held ++ ends_in outputs names links ≡ share_of links held h
share-is links held h outputs names i j =
    share-so h outputs names (λ x. ap (is_among x) i ∙ same-set (names_of h.outputs) x) (λ x. ap (is_among x) j ∙ same-set (names_of h.outputs ++ names_of h.inputs) x) links held

pub ruleset shares = (stand-kept, share-is)
