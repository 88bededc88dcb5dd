-- A plug's parts in turn.
use Rattle.std.proofs.Common.{◌≡◌, ◌∙◌, refl, sym, ap, ℕ, zero, suc, ◌+◌, ◌-◌, ◌<◌, ◌≤◌, Bool, true, false, not, ◌&&◌, ◌||◌, max, List, [], ◌∷◌, ◌++◌, map, if◌then◌else◌, length, drop, take, get_or, arith}
use Rattle.std.specs.Borrow.{Bor}
use Rattle.std.proofs.lemmas.List.{drop_all, drop_more}
use Rattle.campl_tree.specs.declared.process.Link.{Link as Joint}
use Rattle.campl_tree.specs.declared.process.Part.{Part}
use Rattle.campl_tree.specs.Plain.Process.{Body, Link, Header, Parts, no_parts, part_then}
use Rattle.campl_tree.specs.View.{view_link, view_part, parts as part_list}
use Rattle.campl_types.specs.Names.{Name, same_name, is_among, found}
use Rattle.campl_types.specs.World.{World}
use Rattle.campl_types.proofs.Names.{same-turned}
use Rattle.campl_names.specs.NameSet.{with_name}
use Rattle.campl_peel.specs.Plugging.{stands_in, stands_among, side_in, links_to, without_link}
use Rattle.campl_peel.specs.Terms.{those}
use Rattle.campl_code.specs.Instructions as i
use Rattle.campl_code_bodies.specs.Bodies.{Channels}
use Rattle.campl_code_bodies.specs.BodyCode.{link_name}
use Rattle.campl_code_bodies.specs.BodySizes.{body_size, parts_size}
use Rattle.campl_gen_channels.specs.Numbers.{NumbersAlike}
use Rattle.campl_gen_channels.specs.Orders.{view_part_at}
use Rattle.campl_gen_channels.specs.View.{is_kept}
use Rattle.campl_gen_channels.proofs.Alike.{alike-on, alike-more, those-so}
use Rattle.campl_gen_channels.proofs.InHeaders.{among-with}
use Rattle.campl_gen_bodies.specs.Making.{Making, pushed, patched, whole, added, built}
use Rattle.campl_gen_bodies.specs.Peels.{Child, child_built, children_built, left_links, link_of, child_held, rest_held, peeled_child, peels_built, heaviest, heaviest_child, heaviest_with}
use Rattle.campl_gen_bodies.proofs.Alike.{peels-alike, all-fit, AllFit, whole-same}
use Rattle.campl_gen_bodies.proofs.Commands.{built-same, peels-are}

drop-at : {A : Type 0} (xs : List A) (n : ℕ) (x : A) → n < length xs → x ≡ get_or xs n x → drop n xs ≡ x ∷ drop (n + 1) xs
drop-at xs n x l is = drop_more xs n x l ∙ ap (λ y. y ∷ drop (n + 1) xs) (sym is)

-- Channels

pub share-held : (keep : Name → Bool) (y : Name) (n m : ℕ) (cs c0 c1 : Channels) → NumbersAlike c0 (those keep cs) → NumbersAlike c1 ((y, n) ∷ c0) → n ≡ m → NumbersAlike c1 ((y, m) ∷ those keep cs)
share-held keep y n m cs c0 c1 kept came one =
    alike-on c1 ((y, n) ∷ c0) ((y, m) ∷ those keep cs) came
    (alike-on ((y, n) ∷ c0) ((y, m) ∷ c0) ((y, m) ∷ those keep cs) (record { told = λ v. ap (λ k. found v ((y, k) ∷ c0)) one }) (alike-more y m c0 (those keep cs) kept))

pub ruleset shares = (share-held)

pub child-so : (l : Name) (h : Header) (n : ℕ) (cs c : Channels) (names : List Name) → ((x : Name) → is_among x names ≡ stands_in h x) → NumbersAlike c ((l, n) ∷ those (is_kept true names) cs) → NumbersAlike c (child_held l h n cs)
child-so l h n cs c names told same =
    alike-on c ((l, n) ∷ those (is_kept true names) cs) (child_held l h n cs) same (alike-more l n (those (is_kept true names) cs) (those (stands_in h) cs) (those-so (is_kept true names) (stands_in h) cs told))

pub rest-so : (l : Name) (h : Header) (n : ℕ) (cs c : Channels) (names : List Name) → ((x : Name) → is_among x names ≡ stands_in h x) → NumbersAlike c ((l, n) ∷ those (is_kept false names) cs) → NumbersAlike c (rest_held l h n cs)
rest-so l h n cs c names told same =
    alike-on c ((l, n) ∷ those (is_kept false names) cs) (rest_held l h n cs) same
    (alike-more l n (those (is_kept false names) cs) (those (λ x. not (stands_in h x)) cs) (those-so (is_kept false names) (λ x. not (stands_in h x)) cs (λ x. ap not (told x))))

pub ruleset dividing = (child-so, rest-so)

-- Links

pub none-used : (links : List Link) → left_links [] links ≡ links
none-used [] = refl
none-used (l ∷ links) = ap (λ ls. l ∷ ls) (none-used links)

pub one-used : (x : Name) (used : List Name) (links : List Link) → left_links (with_name x used) links ≡ without_link x (left_links used links)
one-used x used [] = refl
one-used x used (l ∷ links) =
    ap (λ t. if t then left_links (with_name x used) links else l ∷ left_links (with_name x used) links) (among-with l.name.name x used)
    ∙ ap (λ ls. if same_name l.name.name x || is_among l.name.name used then ls else l ∷ ls) (one-used x used links)
    ∙ ap (λ t. if t || is_among l.name.name used then without_link x (left_links used links) else l ∷ without_link x (left_links used links)) (same-turned l.name.name x)
    ∙ go (same_name x l.name.name) refl (is_among l.name.name used)
  where
    go : (s : Bool) → same_name x l.name.name ≡ s → (t : Bool)
        → (if s || t then without_link x (left_links used links) else l ∷ without_link x (left_links used links)) ≡ without_link x (if t then left_links used links else l ∷ left_links used links)
    go true e true = refl
    go false e true = refl
    go true e false = sym (ap (λ k. if k then without_link x (left_links used links) else l ∷ without_link x (left_links used links)) e)
    go false e false = sym (ap (λ k. if k then without_link x (left_links used links) else l ∷ without_link x (left_links used links)) e)

module _ (used : List Name) (h : Header) (rest : Parts) where
  -- whether a link is the one
  abbrev is-link : Name → Bool
  is-link x = not (is_among x used) && (stands_in h x && stands_among rest x)

  link-first : (l : Link) (links : List Link) → is-link l.name.name ≡ true → link_of (left_links used (l ∷ links)) h rest ≡ l.name.name
  link-first l links t = go (is_among l.name.name used) (stands_in h l.name.name && stands_among rest l.name.name) refl t
    where
      go : (a c : Bool) → (stands_in h l.name.name && stands_among rest l.name.name) ≡ c → (not a && c) ≡ true → link_of (if a then left_links used links else l ∷ left_links used links) h rest ≡ l.name.name
      go true c e f = absurd (let none : ⊥ = cc in none)
      go false true e f = ap (λ k. link_name (if k then l ∷ links_to rest h (left_links used links) else links_to rest h (left_links used links))) e
      go false false e f = absurd (let none : ⊥ = cc in none)

  link-later : (l : Link) (links : List Link) → is-link l.name.name ≡ false → link_of (left_links used (l ∷ links)) h rest ≡ link_of (left_links used links) h rest
  link-later l links t = go (is_among l.name.name used) (stands_in h l.name.name && stands_among rest l.name.name) refl t
    where
      go : (a c : Bool) → (stands_in h l.name.name && stands_among rest l.name.name) ≡ c → (not a && c) ≡ false → link_of (if a then left_links used links else l ∷ left_links used links) h rest ≡ link_of (left_links used links) h rest
      go true c e f = refl
      go false true e f = absurd (let none : ⊥ = cc in none)
      go false false e f = ap (λ k. link_name (if k then l ∷ links_to rest h (left_links used links) else links_to rest h (left_links used links))) e

  module _ (links : List Joint) (n : ℕ) (l : Joint) where
    pub link-at : n < length links → l ≡ get_or links n l → is-link l.name.name ≡ true → link_of (left_links used (map view_link (drop n links))) h rest ≡ l.name.name
    link-at less is t = ap (λ d. link_of (left_links used (map view_link d)) h rest) (drop-at links n l less is) ∙ link-first (view_link l) (map view_link (drop (n + 1) links)) t

    pub link-past : n < length links → l ≡ get_or links n l → is-link l.name.name ≡ false
        → link_of (left_links used (map view_link (drop n links))) h rest ≡ link_of (left_links used (map view_link (drop (n + 1) links))) h rest
    link-past less is t = ap (λ d. link_of (left_links used (map view_link d)) h rest) (drop-at links n l less is) ∙ link-later (view_link l) (map view_link (drop (n + 1) links)) t

  pub link-end : (links : List Joint) (n : ℕ) → length links ≤ n → link_of (left_links used (map view_link (drop n links))) h rest ≡ []
  link-end links n l = ap (λ d. link_of (left_links used (map view_link d)) h rest) (drop_all n links l)

-- Peels

pub peels-same : (w : World) (links : List Link) (parts : Parts) (next : ℕ) (cs ds : Channels) (s : Making) → NumbersAlike cs ds → peels_built w links parts next cs s ≡ peels_built w links parts next ds s
peels-same w links parts next cs ds s same =
    peels-are w links parts next cs s
    ∙ ap (λ m. added m s)
    (peels-alike w (parts_size parts) (whole w) (whole w) (λ body fits base dec free ns n es fs alike. whole-same w body base dec free ns n es fs alike) links parts (all-fit (parts_size parts) parts (omega arith))
    (length s.emission.code) s.emission.decisions s.emission.free s.emission.numbers next cs ds same)
    ∙ sym (peels-are w links parts next ds s)

children-more : (w : World) (cs : List Child) (c : Child) (s : Making) → children_built w (cs ++ c ∷ []) s ≡ children_built w cs (child_built w c s)
children-more w [] c s = refl
children-more w (d ∷ cs) c s = ap (child_built w d) (children-more w cs c s)

-- a child that is as it should be
record IsChild (c d : Child) : Type 0 where
  at : c.at ≡ d.at
  channel : c.channel ≡ d.channel
  side : c.side ≡ d.side
  body : c.body ≡ d.body
  next : c.next ≡ d.next
  held : NumbersAlike c.held d.held

child-same : (w : World) (c d : Child) (s : Making) → IsChild c d → child_built w c s ≡ child_built w d s
child-same w c d s is =
    let to = length s.emission.code in
    ap (λ n. patched n (i.Peel c.channel c.side to) (built w c.body c.next c.held s)) is.at
    ∙ ap (λ n. patched d.at (i.Peel n c.side to) (built w c.body c.next c.held s)) is.channel
    ∙ ap (λ n. patched d.at (i.Peel d.channel n to) (built w c.body c.next c.held s)) is.side
    ∙ ap (λ n. patched d.at (i.Peel d.channel d.side to) (built w n c.next c.held s)) is.body
    ∙ ap (λ n. patched d.at (i.Peel d.channel d.side to) (built w d.body n c.held s)) is.next
    ∙ ap (patched d.at (i.Peel d.channel d.side to)) (built-same w d.body d.next c.held d.held s is.held)

pub map-more : {A B : Type 0} (f : A → B) (xs : List A) (y : A) → map f (xs ++ y ∷ []) ≡ map f xs ++ f y ∷ []
map-more f [] y = refl
map-more f (x ∷ xs) y = ap (λ (l : List _). f x ∷ l) (map-more f xs y)

-- one peel
pub peel-so : (w : World) (links : List Link) (used used' : List Name) (l : Name) (h : Header) (body : Body) (rest : List (Bor Part)) (next next' : ℕ) (cs cs' : Channels) (s s' : Making) (old new : List Child) (c : Child)
    → 1 ≤ length rest → l ≡ link_of (left_links used links) h (part_list (map view_part_at rest)) → used' ≡ with_name l used → next' ≡ suc next → NumbersAlike cs' (rest_held l h next cs) → s' ≡ pushed (i.Nil ∷ []) s → new ≡ old ++ c ∷ []
    → c.at ≡ length s.emission.code → c.channel ≡ next → c.side ≡ side_in h l → c.body ≡ body → c.next ≡ suc next → NumbersAlike c.held (child_held l h next cs)
    → children_built w new (peels_built w (left_links used' links) (part_list (map view_part_at rest)) next' cs' s') ≡ children_built w old (peels_built w (left_links used links) (part_then h body (part_list (map view_part_at rest))) next cs s)
peel-so w links used used' l h body [] next next' cs cs' s s' old new c some link e1 e2 e3 e4 e5 e6 e7 e8 e9 e10 e11 = absurd (let none : ⊥ = omega (arith, some) in none)
peel-so w links used used' l h body (q ∷ rest) next next' cs cs' s s' old new c some link e1 e2 e3 e4 e5 e6 e7 e8 e9 e10 e11 =
    let more = part_list (map view_part_at (q ∷ rest)) in
    let ls = left_links used links in
    let m = link_of ls h more in
    let p = pushed (i.Nil ∷ []) s in
    let inner : peels_built w (left_links used' links) more next' cs' s' ≡ peels_built w (without_link m ls) more (suc next) (rest_held m h next cs) p =
    ap (λ u. peels_built w (left_links u links) more next' cs' s') e1 ∙ ap (λ x. peels_built w x more next' cs' s') (one-used l used links) ∙ ap (λ n. peels_built w (without_link l ls) more n cs' s') e2
    ∙ ap (peels_built w (without_link l ls) more (suc next) cs') e4 ∙ peels-same w (without_link l ls) more (suc next) cs' (rest_held l h next cs) p e3
    ∙ ap (λ x. peels_built w (without_link x ls) more (suc next) (rest_held x h next cs) p) link in
    let child : IsChild c (peeled_child l h body next cs s) = record { at = e6; channel = e7; side = e8; body = e9; next = e10; held = e11 } in
    let t = peels_built w (without_link m ls) more (suc next) (rest_held m h next cs) p in
    ap (λ x. children_built w new x) inner ∙ ap (λ x. children_built w x t) e5 ∙ children-more w old c t
    ∙ ap (children_built w old) (child-same w c (peeled_child l h body next cs s) t child ∙ ap (λ x. child_built w (peeled_child x h body next cs s) t) link)

pub heaviest-more : (cs : List Child) (c : Child) → heaviest_child (cs ++ c ∷ []) ≡ max (heaviest_child cs) (body_size c.body)
heaviest-more [] c = grind arith
heaviest-more (d ∷ cs) c = let h : heaviest_child (cs ++ c ∷ []) ≡ max (heaviest_child cs) (body_size c.body) = heaviest-more cs c in ap (max (body_size d.body)) h ∙ turn (body_size d.body) (heaviest_child cs) (body_size c.body)
  where
    turn : (x y z : ℕ) → max x (max y z) ≡ max (max x y) z
    turn x y z = grind arith

pub heaviest-so : (old new : List Child) (c : Child) (body : Body) → new ≡ old ++ c ∷ [] → c.body ≡ body → heaviest_child new ≡ heaviest_with body old
heaviest-so old new c body is same = ap heaviest_child is ∙ heaviest-more old c ∙ ap (λ x. max (heaviest_child old) (body_size x)) same

-- All peels

pub part-light : (order : List (Bor Part)) (n : ℕ) (p : Bor Part) → n < length order → p ≡ get_or order n p → body_size (view_part_at p).1 ≤ heaviest (part_list (map view_part_at order))
part-light [] n p l is = absurd (let none : ⊥ = omega (arith, l) in none)
part-light (x ∷ order) zero p l is =
    let h : body_size (view_part_at p).1 ≡ body_size (view_part_at x).1 = ap (λ q. body_size (view_part_at q).1) is in
    go (body_size (view_part_at p).1) (body_size (view_part_at x).1) (heaviest (part_list (map view_part_at order))) h
  where
    go : (x y z : ℕ) → x ≡ y → x ≤ max y z
    go x y z e = grind arith
part-light (x ∷ order) (suc n) p l is =
    go (body_size (view_part_at p).1) (body_size (view_part_at x).1) (heaviest (part_list (map view_part_at order))) (part-light order n p (omega (arith, l)) is)
  where
    go : (x y z : ℕ) → x ≤ z → x ≤ max y z
    go x y z e = grind arith

pub still-light : (m n k : ℕ) → m ≤ k → n ≤ k → max m n ≤ k
still-light m n k a b = grind arith

pub fit-heaviest : (k : ℕ) (parts : Parts) → AllFit k parts → heaviest parts ≤ k
fit-heaviest k no_parts f = omega arith
fit-heaviest k (part_then h body parts) f = still-light (body_size body) (heaviest parts) k f.0 (fit-heaviest k parts f.1)

-- nothing is peeled yet
pub peels-begin : (w : World) (links : List Link) (used : List Name) (children : List Child) (order : List (Bor Part)) (next n : ℕ) (cs ds : Channels) (s : Making) → used ≡ [] → children ≡ [] → n ≡ next → NumbersAlike ds cs
    → children_built w children (peels_built w (left_links used links) (part_list (map view_part_at (drop 0 order))) n ds s) ≡ peels_built w links (part_list (map view_part_at order)) next cs s
peels-begin w links used children order next n cs ds s u c m same =
    ap (λ l. children_built w l (peels_built w (left_links used links) (part_list (map view_part_at order)) n ds s)) c
    ∙ ap (λ l. peels_built w (left_links l links) (part_list (map view_part_at order)) n ds s) u ∙ ap (λ l. peels_built w l (part_list (map view_part_at order)) n ds s) (none-used links)
    ∙ ap (λ k. peels_built w links (part_list (map view_part_at order)) k ds s) m ∙ peels-same w links (part_list (map view_part_at order)) next ds cs s same

take-long : {A : Type 0} (xs : List A) (n : ℕ) → length xs ≤ n → take n xs ≡ xs
take-long [] zero l = refl
take-long [] (suc n) l = refl
take-long (x ∷ xs) zero l = absurd (let none : ⊥ = omega (arith, l) in none)
take-long (x ∷ xs) (suc n) l = ap (λ ys. x ∷ ys) (take-long xs n (omega (arith, l)))

long-drop : {A : Type 0} (xs : List A) (n : ℕ) → length (drop n xs) ≡ length xs - n
long-drop xs zero = omega arith
long-drop [] (suc n) = omega arith
long-drop (x ∷ xs) (suc n) = let h : length (drop n xs) ≡ length xs - n = long-drop xs n in omega (arith, h)

-- the part at a place, and the slice of those behind it
pub order-at : (order : List (Bor Part)) (n : ℕ) (p : Bor Part) → n < length order → p ≡ get_or order n p
    → part_list (map view_part_at (drop n order)) ≡ part_then (view_part p.now).0 (view_part p.now).1 (part_list (map view_part_at (take (length order - (n + 1)) (drop (n + 1) order))))
order-at order n p l is =
    let h : length (drop (n + 1) order) ≡ length order - (n + 1) = long-drop order (n + 1) in
    ap (λ d. part_list (map view_part_at d)) (drop-at order n p l is)
    ∙ ap (λ d. part_then (view_part p.now).0 (view_part p.now).1 (part_list (map view_part_at d))) (sym (take-long (drop (n + 1) order) (length order - (n + 1)) (omega (arith, h))))

pub rest-slice : (order : List (Bor Part)) (n : ℕ) → drop (n + 1) order ≡ take (length order - (n + 1)) (drop (n + 1) order)
rest-slice order n =
    let h : length (drop (n + 1) order) ≡ length order - (n + 1) = long-drop order (n + 1) in sym (take-long (drop (n + 1) order) (length order - (n + 1)) (omega (arith, h)))

-- only the last part is left
pub all-peeled : (order : List (Bor Part)) (n : ℕ) → length order ≤ n + 1 → n ≤ length order - 1 → drop (length order - 1) order ≡ drop n order
all-peeled order n l m = let same : length order - 1 ≡ n = omega (arith, l, m) in ap (λ k. drop k order) same
