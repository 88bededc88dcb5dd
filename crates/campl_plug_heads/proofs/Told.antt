-- What code tells of a plug, step by step.
use Rattle.std.proofs.Common.{◌≡◌, ◌∙◌, refl, sym, ap, ℕ, zero, suc, ◌-◌, ◌<◌, ◌≤◌, ltb, ltb-true, get_or, arith, Bool, true, false, if◌then◌else◌, List, [], Option, Some, None, option_map, map, length, slice_get}
use Rattle.std.proofs.lemmas.Option.{slice_get-get_or}
use Rattle.std.specs.Prelude.{All}
use Rattle.campl_plug.specs.Links.{IsWithin}
use Rattle.campl_tree.specs.declared.place.Place.{Place}
use Rattle.campl_tree.specs.declared.place.Ident.{Ident}
use Rattle.campl_tree.specs.declared.process.Link as code
use Rattle.campl_tree.specs.declared.process.Part.{Part}
use Rattle.campl_tree.specs.declared.service.Side.{Side}
use Rattle.campl_tree.specs.Plain.ChanType.{ChanType, TopBot}
use Rattle.campl_tree.specs.Plain.Process.{Link, Parts}
use Rattle.campl_tree.specs.View.{view_link, view_part, parts}
use Rattle.campl_types.specs.Names.{Name, is_among}
use Rattle.campl_types.specs.Held.{Channel, On}
use Rattle.campl_types.specs.Headers.{count, links_in, link_names}
use Rattle.campl_types.proofs.Names.{among-append}
use Rattle.campl_peel.specs.Numbered.{inputs_in, outputs_in, joined_parts, part_at}
use Rattle.campl_names.specs.Scope.{with_names}
use Rattle.campl_seqcheck.specs.Judged.{fine, Is, Fails}
use Rattle.campl_linear.specs.Faults as plain
use Rattle.campl_linear.specs.Holding.{Holding}
use Rattle.campl_linear.specs.Channels.{same_side}
use Rattle.campl_linear.specs.Plugs.{may_stand, in_cycle, is_apart, headers_stand, links_are_used, all_are_used}
use Rattle.campl_linear.proofs.Headers.{headers-so, links-used, all-used, divide-so}
use Rattle.campl_linear.proofs.Plugged.{joins-parts}
use Rattle.campl_held.proofs.Told.{refused, stopped}
use Rattle.campl_plug_heads.specs.Heads.{Numbered, links_named, numbered, links_join, LinksStand, HeadersStand}
use Rattle.campl_plug_heads.proofs.Trees.{link-is, part-is}
use Rattle.campl_plug_heads.proofs.Used.{links-join}
use Rattle.campl_plug_heads.proofs.Same.{headers-are}
use Rattle.campl_plug_heads.proofs.Shares.{links-stand}

pub ruleset refusals = (refused, stopped, among-append)

-- Where a name may stand

pub may-link : (x : Ident) (s : Side) (names : List Name) (c : Option Channel) → is_among x.name names ≡ true → may_stand x s (links_named names x.name) c ≡ Is fine
may-link x s names c i = ap (λ (b : Bool). may_stand x s (if b then Some TopBot else None) c) i

may-other : (x : Ident) (s : Side) (names : List Name) (c d : Option Channel) → is_among x.name names ≡ false → d ≡ c → may_stand x s (links_named names x.name) c ≡ may_stand x s None d
may-other x s names c d i j = ap (λ (b : Bool). may_stand x s (if b then Some TopBot else None) c) i ∙ ap (may_stand x s None) (sym j)

pub may-held : (x : Ident) (s : Side) (names : List Name) (c : Option Channel) (r : Side) (u : ChanType) → is_among x.name names ≡ false → Some (On r u) ≡ c
    → may_stand x s (links_named names x.name) c ≡ (if same_side r s then Is fine else Fails (plain.PlugUse x.place x.name))
may-held x s names c r u i j = may-other x s names c (Some (On r u)) i j

pub may-none : (x : Ident) (s : Side) (names : List Name) (c : Option Channel) → is_among x.name names ≡ false → None ≡ c → may_stand x s (links_named names x.name) c ≡ Fails (plain.NotHeld x.place x.name)
may-none x s names c i j = may-other x s names c None i j

pub ruleset places = (may-link, may-held, may-none)

-- The link or the part at fault

pub cycle-of : (links : List code.Link) (i : ℕ) (l : code.Link) → Some l ≡ slice_get links i → in_cycle (slice_get (map view_link links) i) ≡ Fails (plain.PlugCycle l.name.place l.name.name)
cycle-of links i l e = ap in_cycle (link-is links i ∙ ap (option_map view_link) (sym e))

pub some-number : (n : ℕ) → (n ≡ 0 → ⊥) → 1 ≤ n
some-number zero i = absurd (i refl)
some-number (suc n) i = omega arith

-- what a look-up found stands there
pub stands-at : {A : Type 0} (xs : List A) (i : ℕ) (x : A) → true ≡ ltb i (length xs) → x ≡ get_or xs i x → Some x ≡ slice_get xs i
stands-at xs i x l is = let h : i < length xs = ltb-true i (length xs) (sym l) in sym (slice_get-get_or xs i x h ∙ ap (λ y. Some y) (sym is))

pub apart-of : (ps : List Part) (n : ℕ) (p : Part) → 1 ≤ n → Some p ≡ slice_get ps (n - 1) → is_apart n (part_at (parts (map view_part ps)) n) ≡ Fails (plain.PlugApart (view_part p).0.place n)
apart-of ps n p some e =
    let is : n ≡ suc (n - 1) = omega (arith, some) in
    ap (is_apart n) (ap (part_at (parts (map view_part ps))) is ∙ part-is ps (n - 1) ∙ ap (option_map view_part) (sym e))

pub ruleset trees = (cycle-of)

-- Links join parts, behind the first five steps
pub within : (at : Place) (links : List Link) (ps : Parts) (held : Holding) → HeadersStand links ps held → links_are_used links ps ≡ Is fine → all_are_used at held ps ≡ Is fine
    → All (IsWithin (count ps)) (joined_parts links ps)
within at links ps held s i j =
    joins-parts links ps held
    (divide-so links held ps s.links_stand.new (headers-so (links_in links) held [] [] ps fine s.headers) (links-used links ps fine i) (all-used at held ps fine j))

-- the links are used where each stands on both sides
pub used-are : (links : List Link) (ps : Parts) (held : Holding) (ins outs : Numbered) → HeadersStand links ps held → ins ≡ numbered inputs_in 1 ps → outs ≡ numbered outputs_in 1 ps
    → links_are_used links ps ≡ links_join ins outs links
used-are links ps held ins outs s i j =
    links-join (links_in links) held ps (headers-so (links_in links) held [] [] ps fine s.headers) links
    ∙ ap (λ (z : Numbered). links_join z (numbered outputs_in 1 ps) links) (sym i) ∙ ap (λ (z : Numbered). links_join ins z links) (sym j)

-- headers are judged by the names of links
pub stand-headers : (links : List Link) (names : List Name) (held : Holding) (ps : Parts) → LinksStand links held → names ≡ with_names [] (link_names links)
    → headers_stand (links_named names) held [] [] ps ≡ Is fine → HeadersStand links ps held
stand-headers links names held ps s i j = record { links_stand = s; headers = headers-are links names held ps i ∙ j }

pub ruleset steps = (stopped, within, used-are, stand-headers, headers-are, links-stand)
