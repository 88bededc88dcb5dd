-- What is judged of a name beside others depends on which these are alone.
use Rattle.std.proofs.Common.{◌≡◌, ◌∙◌, refl, sym, ap, Bool, true, false, ◌||◌, true≢false, if◌then◌else◌, List, [], ◌∷◌, ◌++◌, Option, Some, None, is_some}
use Rattle.campl_tree.specs.declared.place.Ident.{Ident}
use Rattle.campl_tree.specs.declared.service.Side.{Side}
use Rattle.campl_tree.specs.declared.service.Side.TheVariants.{Input, Output}
use Rattle.campl_tree.specs.Plain.ChanType.{ChanType, TopBot}
use Rattle.campl_tree.specs.Plain.Process.{Body, Link, Header, Parts, no_parts, part_then}
use Rattle.campl_types.specs.Names.{Name, same_name, is_among, found}
use Rattle.campl_types.specs.World.{names_of}
use Rattle.campl_types.specs.Held.{Channel}
use Rattle.campl_types.specs.Headers.{Links, links_in, link_names}
use Rattle.campl_types.proofs.Names.{among-append}
use Rattle.campl_names.specs.NameSet.{HaveSame}
use Rattle.campl_names.specs.Scope.{with_names}
use Rattle.campl_names.proofs.Declared.{among-behind}
use Rattle.campl_seqcheck.specs.Judged.{Fine, fine, Judged, Is, Fails, and_then}
use Rattle.campl_linear.specs.Faults.{LinFault, PlugUse}
use Rattle.campl_linear.specs.Holding.{Holding}
use Rattle.campl_linear.specs.Channels.{new_name}
use Rattle.campl_linear.specs.Plugs.{stands_once, links_are_new, may_stand, names_stand, headers_stand}
use Rattle.campl_plug_heads.specs.Heads.{links_named, header_stands}
use Rattle.campl_plug_heads.proofs.Names.{same-set}
use mathlib.Core.Bool.{or_comm}

pub same-first : (x : Name) (a b : List Name) → HaveSame a b → HaveSame (x ∷ a) (x ∷ b)
same-first x a b h y = ap (λ z. same_name y x || z) (h y)

pub same-last : (x : Name) (a : List Name) → HaveSame (x ∷ a) (a ++ x ∷ [])
same-last x a y = sym (among-behind y x a)

pub same-behind : (a b c : List Name) → HaveSame b c → HaveSame (a ++ b) (a ++ c)
same-behind a b c h y = among-append y a b ∙ ap (λ z. is_among y a || z) (h y) ∙ sym (among-append y a c)

pub same-turned : (a b : List Name) → HaveSame (a ++ b) (b ++ a)
same-turned a b y = among-append y a b ∙ or_comm (is_among y a) (is_among y b) ∙ sym (among-append y b a)

-- judging in turn
pub regroup : {A B C : Type 0} (first : Judged LinFault A) (next : Judged LinFault B) (last : Judged LinFault C)
    → and_then first (λ _. and_then next (λ _. last)) ≡ and_then (and_then first (λ _. next)) (λ _. last)
regroup (Is x) next last = refl
regroup (Fails fault) next last = refl

pub once-same : (x : Ident) (a b : List Name) → HaveSame a b → stands_once x a ≡ stands_once x b
once-same x a b h = ap (λ (z : Bool). if z then Fails (PlugUse x.place x.name) else Is fine) (h x.name)

pub links-same : (held : Holding) (a b : List Name) (ls : List Link) → HaveSame a b → links_are_new held a ls ≡ links_are_new held b ls
links-same held a b [] h = refl
links-same held a b (l ∷ ls) h =
    ap (λ (z : Judged LinFault Fine). and_then (new_name l.name held) (λ _. and_then z (λ _. links_are_new held (l.name.name ∷ a) ls))) (once-same l.name a b h)
    ∙ ap (λ (z : Judged LinFault Fine). and_then (new_name l.name held) (λ _. and_then (stands_once l.name b) (λ _. z))) (links-same held (l.name.name ∷ a) (l.name.name ∷ b) ls (same-first l.name.name a b h))

-- links of the same names
abbrev pub SameLinks : Links → Links → Type 0
SameLinks f g = (x : Name) → is_some (f x) ≡ is_some (g x)

may-same : (x : Ident) (s : Side) (l m : Option ChanType) (c : Option Channel) → is_some l ≡ is_some m → may_stand x s l c ≡ may_stand x s m c
may-same x s None None c i = refl
may-same x s (Some t) (Some u) c i = refl
may-same x s None (Some u) c i = absurd (true≢false (sym i))
may-same x s (Some t) None c i = absurd (true≢false i)

pub names-same : (f g : Links) (held : Holding) (s : Side) (a b : List Name) (xs : List Ident) → SameLinks f g → HaveSame a b → names_stand f held s a xs ≡ names_stand g held s b xs
names-same f g held s a b [] k h = refl
names-same f g held s a b (x ∷ xs) k h =
    ap (λ (z : Judged LinFault Fine). and_then z (λ _. and_then (stands_once x a) (λ _. names_stand f held s (x.name ∷ a) xs))) (may-same x s (f x.name) (g x.name) (found x.name held) (k x.name))
    ∙ ap (λ (z : Judged LinFault Fine). and_then (may_stand x s (g x.name) (found x.name held)) (λ _. and_then z (λ _. names_stand f held s (x.name ∷ a) xs))) (once-same x a b h)
    ∙ ap (λ (z : Judged LinFault Fine). and_then (may_stand x s (g x.name) (found x.name held)) (λ _. and_then (stands_once x b) (λ _. z))) (names-same f g held s (x.name ∷ a) (x.name ∷ b) xs k (same-first x.name a b h))

pub header-same : (f g : Links) (held : Holding) (a b c d : List Name) (h : Header) → SameLinks f g → HaveSame a b → HaveSame c d → header_stands f held a c h ≡ header_stands g held b d h
header-same f g held a b c d h k i j =
    ap (λ (z : Judged LinFault Fine). and_then z (λ _. names_stand f held Output (names_of h.inputs ++ c) h.outputs)) (names-same f g held Input a b h.inputs k i)
    ∙ ap (λ (z : Judged LinFault Fine). and_then (names_stand g held Input b h.inputs) (λ _. z)) (names-same f g held Output (names_of h.inputs ++ c) (names_of h.inputs ++ d) h.outputs k (same-behind (names_of h.inputs) c d j))

-- the first header, and then the others
pub headers-step : (f : Links) (held : Holding) (ins outs : List Name) (h : Header) (body : Body) (parts : Parts)
    → headers_stand f held ins outs (part_then h body parts) ≡ and_then (header_stands f held ins outs h) (λ _. headers_stand f held (names_of h.inputs ++ ins) (names_of h.outputs ++ outs) parts)
headers-step f held ins outs h body parts =
    regroup (names_stand f held Input ins h.inputs) (names_stand f held Output (names_of h.inputs ++ outs) h.outputs) (headers_stand f held (names_of h.inputs ++ ins) (names_of h.outputs ++ outs) parts)

pub headers-same : (f g : Links) (held : Holding) (a b c d : List Name) (parts : Parts) → SameLinks f g → HaveSame a b → HaveSame c d → headers_stand f held a c parts ≡ headers_stand g held b d parts
headers-same f g held a b c d no_parts k i j = refl
headers-same f g held a b c d (part_then h body parts) k i j =
    headers-step f held a c h body parts
    ∙ ap (λ (z : Judged LinFault Fine). and_then z (λ _. headers_stand f held (names_of h.inputs ++ a) (names_of h.outputs ++ c) parts)) (header-same f g held a b c d h k i j)
    ∙ ap (λ (z : Judged LinFault Fine). and_then (header_stands g held b d h) (λ _. z))
    (headers-same f g held (names_of h.inputs ++ a) (names_of h.inputs ++ b) (names_of h.outputs ++ c) (names_of h.outputs ++ d) parts k (same-behind (names_of h.inputs) a b i) (same-behind (names_of h.outputs) c d j))
    ∙ sym (headers-step g held b d h body parts)

-- a plug's links, and their names alone
named-so : (names : List Name) (x : Name) → is_some (links_named names x) ≡ is_among x names
named-so names x = go (is_among x names)
  where
    go : (b : Bool) → is_some (if b then Some TopBot else None) ≡ b
    go true = refl
    go false = refl

links-so : (links : List Link) (x : Name) → is_some (links_in links x) ≡ is_among x (link_names links)
links-so [] x = refl
links-so (l ∷ ls) x = go (same_name x l.name.name) (links-so ls x)
  where
    go : (b : Bool) → is_some (links_in ls x) ≡ is_among x (link_names ls) → is_some (if b then Some l.channel_type else links_in ls x) ≡ (b || is_among x (link_names ls))
    go true i = refl
    go false i = i

pub same-links : (links : List Link) (names : List Name) → HaveSame names (link_names links) → SameLinks (links_named names) (links_in links)
same-links links names h x = named-so names x ∙ h x ∙ sym (links-so links x)

-- the definition's links are judged by their names
pub headers-are : (links : List Link) (names : List Name) (held : Holding) (parts : Parts) → names ≡ with_names [] (link_names links)
    → headers_stand (links_in links) held [] [] parts ≡ headers_stand (links_named names) held [] [] parts
headers-are links names held parts i =
    sym (headers-same (links_named names) (links_in links) held [] [] [] [] parts (same-links links names (λ x. ap (is_among x) i ∙ same-set (link_names links) x)) (λ x. refl) (λ x. refl))
