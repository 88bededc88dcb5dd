-- The bodies of a plug's parts, behind all peels.
use Rattle.std.proofs.Common.{◌≡◌, ◌∙◌, refl, sym, ap, ℕ, zero, suc, ◌+◌, ◌-◌, ◌<◌, ◌≤◌, max, List, [], ◌∷◌, ◌++◌, map, length, drop, take, get_or, Some, None, slice_get, arith}
use Rattle.std.specs.Borrow.{Bor}
use Rattle.std.proofs.lemmas.List.{drop_all, drop_more}
use Rattle.campl_tree.specs.declared.process.Part.{Part}
use Rattle.campl_tree.specs.declared.process.Branch.{Branch, out-Branch}
use Rattle.campl_tree.specs.declared.place.Ident.{Ident}
use Rattle.campl_tree.specs.Plain.Process.{Body, Link}
use Rattle.campl_tree.specs.View.{view_part, view_body, view_branch, parts as part_list}
use Rattle.campl_tree.proofs.Views.{view_branch-out}
use Rattle.campl_types.specs.World.{World}
use Rattle.campl_peel.specs.Numbered.{last_first}
use Rattle.campl_code.specs.Instructions as i
use Rattle.campl_code_bodies.specs.Bodies.{Channels}
use Rattle.campl_code_bodies.specs.BodyCode.{number}
use Rattle.campl_code_bodies.specs.BodySizes.{body_size}
use Rattle.campl_gen_channels.specs.Numbers.{NumbersAlike}
use Rattle.campl_gen_channels.specs.Orders.{view_part_at}
use Rattle.campl_gen_bodies.specs.declared.peels.Child.{Child}
use Rattle.campl_gen_bodies.specs.Making.{Making, pushed, patched, built}
use Rattle.campl_gen_bodies.specs.Commands.{first_held, second_held, fork_built}
use Rattle.campl_gen_bodies.specs.Peels.{child_built, children_built, heaviest, heaviest_child}
use Rattle.campl_gen_bodies.specs.View.{view_child, one_part}
use Rattle.campl_gen_bodies.proofs.Alike.{picked-fit, all-fit}
use Rattle.campl_gen_bodies.proofs.Commands.{built-same}
use Rattle.campl_gen_bodies.proofs.Peeled.{fit-heaviest}
use Rattle.campl_gen_bodies.proofs.Sizes.{part-sizes}

drop-at : {A : Type 0} (xs : List A) (n : ℕ) (x : A) → n < length xs → x ≡ get_or xs n x → drop n xs ≡ x ∷ drop (n + 1) xs
drop-at xs n x l is = drop_more xs n x l ∙ ap (λ y. y ∷ drop (n + 1) xs) (sym is)

-- Sizes

pub plug-light : (links : List Link) (parts : List Part) (order slice : List (Bor Part)) → part_list (map view_part_at order) ≡ last_first links (part_list (map view_part parts)) → slice ≡ order
    → heaviest (part_list (map view_part_at slice)) ≤ part-sizes parts
plug-light links parts order slice is same =
    let k = part-sizes parts in
    let h : heaviest (part_list (map view_part_at slice)) ≡ heaviest (last_first links (part_list (map view_part parts))) = ap (λ l. heaviest (part_list (map view_part_at l))) same ∙ ap heaviest is in
    let f : heaviest (last_first links (part_list (map view_part parts))) ≤ k = fit-heaviest k (last_first links (part_list (map view_part parts))) (picked-fit k (part_list (map view_part parts)) _ (all-fit k (part_list (map view_part parts)) (omega arith))) in
    omega (arith, h, f)

-- some of the parts are no heavier than all
drop-light : (order : List (Bor Part)) (n : ℕ) → heaviest (part_list (map view_part_at (drop n order))) ≤ heaviest (part_list (map view_part_at order))
drop-light order zero = omega arith
drop-light [] (suc n) = omega arith
drop-light (p ∷ order) (suc n) = go (heaviest (part_list (map view_part_at (drop n order)))) (body_size (view_part_at p).1) (heaviest (part_list (map view_part_at order))) (drop-light order n)
  where
    go : (x y z : ℕ) → x ≤ z → x ≤ max y z
    go x y z e = grind arith

pub last-light : (order : List (Bor Part)) (n : ℕ) (p : Bor Part) → part_list (map view_part_at (drop n order)) ≡ one_part (Some p) → body_size (view_part p.now).1 ≤ heaviest (part_list (map view_part_at order))
last-light order n p is =
    let h : heaviest (part_list (map view_part_at (drop n order))) ≡ max (body_size (view_part p.now).1) 0 = ap heaviest is in
    go (body_size (view_part p.now).1) (heaviest (part_list (map view_part_at (drop n order)))) (heaviest (part_list (map view_part_at order))) h (drop-light order n)
  where
    go : (x y z : ℕ) → y ≡ max x 0 → y ≤ z → x ≤ z
    go x y z e f = grind arith

pub child-light : (children : List Child) (n : ℕ) (c : Child) → n < length children → c ≡ get_or children n c → body_size (view_child c).body ≤ heaviest_child (map view_child children)
child-light [] n c l is = absurd (let none : ⊥ = omega (arith, l) in none)
child-light (x ∷ children) zero c l is = go (body_size (view_child c).body) (body_size (view_child x).body) (heaviest_child (map view_child children)) (ap (λ q. body_size (view_child q).body) is)
  where
    go : (x y z : ℕ) → x ≡ y → x ≤ max y z
    go x y z e = grind arith
child-light (x ∷ children) (suc n) c l is = go (body_size (view_child c).body) (body_size (view_child x).body) (heaviest_child (map view_child children)) (child-light children n c (omega (arith, l)) is)
  where
    go : (x y z : ℕ) → x ≤ z → x ≤ max y z
    go x y z e = grind arith

-- Children, the last first

take-next : {A : Type 0} (xs : List A) (n : ℕ) (x : A) → n < length xs → x ≡ get_or xs n x → take (suc n) xs ≡ take n xs ++ x ∷ []
take-next [] n x l is = absurd (let none : ⊥ = omega (arith, l) in none)
take-next (y ∷ xs) zero x l is = ap (λ z. z ∷ []) (sym is)
take-next (y ∷ xs) (suc n) x l is = ap (λ ys. y ∷ ys) (take-next xs n x (omega (arith, l)) is)

children-one : (w : World) (cs : List Child) (c : Child) (s : Making) → children_built w (map view_child (cs ++ c ∷ [])) s ≡ children_built w (map view_child cs) (child_built w (view_child c) s)
children-one w [] c s = refl
children-one w (d ∷ cs) c s = ap (child_built w (view_child d)) (children-one w cs c s)

-- one child more
pub children-at : (w : World) (children : List Child) (m n : ℕ) (c : Child) (s : Making) → n < length children → c ≡ get_or children n c → m ≡ n + 1
    → children_built w (map view_child (take m children)) s ≡ children_built w (map view_child (take n children)) (child_built w (view_child c) s)
children-at w children m n c s l is one =
    let up : m ≡ suc n = omega (arith, one) in
    ap (λ k. children_built w (map view_child (take k children)) s) up ∙ ap (λ d. children_built w (map view_child d) s) (take-next children n c l is) ∙ children-one w (take n children) c s

-- `fork`

pub fork-done : (w : World) (x : Ident) (left right : Branch) (next n1 n2 own its to at n : ℕ) (cs c1 c2 : Channels) (s t u v : Making)
    → NumbersAlike c1 (first_held x (view_branch left) next cs) → n1 ≡ suc (suc next) → NumbersAlike c2 (second_held x (view_branch left) (view_branch right) next cs) → n2 ≡ suc (suc next)
    → t ≡ built w (view_body (out-Branch left).body) n1 c1 (pushed (i.Nil ∷ []) s) → u ≡ built w (view_body (out-Branch right).body) n2 c2 t → v ≡ patched at (i.Fork n own its to) u
    → at ≡ length s.emission.code → n ≡ number x.name cs → own ≡ next → its ≡ suc next → to ≡ length t.emission.code
    → v ≡ fork_built w x (view_branch left) (view_branch right) next cs s
fork-done w x left right next n1 n2 own its to at n cs c1 c2 s t u v a1 e1 a2 e2 first second last e3 e4 e5 e6 e7 =
    let ssn = suc (suc next) in
    let p = pushed (i.Nil ∷ []) s in
    let l = (view_branch left).1 in
    let r = (view_branch right).1 in
    let bl : view_body (out-Branch left).body ≡ l = sym (ap (λ (q : Ident × Body). q.1) (view_branch-out left)) in
    let br : view_body (out-Branch right).body ≡ r = sym (ap (λ (q : Ident × Body). q.1) (view_branch-out right)) in
    let ts : t ≡ built w l ssn (first_held x (view_branch left) next cs) p = first ∙ ap (λ b. built w b n1 c1 p) bl ∙ ap (λ k. built w l k c1 p) e1 ∙ built-same w l ssn c1 (first_held x (view_branch left) next cs) p a1 in
    let us : u ≡ built w r ssn (second_held x (view_branch left) (view_branch right) next cs) t = second ∙ ap (λ b. built w b n2 c2 t) br ∙ ap (λ k. built w r k c2 t) e2 ∙ built-same w r ssn c2 (second_held x (view_branch left) (view_branch right) next cs) t a2 in
    last ∙ ap (λ k. patched k (i.Fork n own its to) u) e3 ∙ ap (λ k. patched (length s.emission.code) (i.Fork k own its to) u) e4 ∙ ap (λ k. patched (length s.emission.code) (i.Fork (number x.name cs) k its to) u) e5
    ∙ ap (λ k. patched (length s.emission.code) (i.Fork (number x.name cs) next k to) u) e6 ∙ ap (λ k. patched (length s.emission.code) (i.Fork (number x.name cs) next (suc next) k) u) e7
    ∙ ap (patched (length s.emission.code) (i.Fork (number x.name cs) next (suc next) (length t.emission.code))) us
    ∙ ap (λ (y : Making). patched (length s.emission.code) (i.Fork (number x.name cs) next (suc next) (length y.emission.code)) (built w r ssn (second_held x (view_branch left) (view_branch right) next cs) y)) ts

-- The part that is left

last-one : (order : List (Bor Part)) (n : ℕ) (p : Bor Part) → length order ≤ n + 1 → slice_get order n ≡ Some p → drop n order ≡ p ∷ []
last-one [] n p l is = absurd (let none : ⊥ = cc in none)
last-one (x ∷ []) zero p l is = let same : x ≡ p = cc in ap (λ y. y ∷ []) same
last-one (x ∷ y ∷ order) zero p l is = absurd (let none : ⊥ = omega (arith, l) in none)
last-one (x ∷ order) (suc n) p l is = last-one order n p (omega (arith, l)) is

pub left-there : (order : List (Bor Part)) (p : Bor Part) → 1 ≤ length order → slice_get order (length order - 1) ≡ Some p → part_list (map view_part_at (drop (length order - 1) order)) ≡ one_part (Some p)
left-there order p l is = ap (λ d. part_list (map view_part_at d)) (last-one order (length order - 1) p (omega (arith, l)) is)

pub left-none : (order : List (Bor Part)) (n : ℕ) → length order ≡ 0 → part_list (map view_part_at (drop n order)) ≡ one_part None
left-none order n is = ap (λ d. part_list (map view_part_at d)) (drop_all n order (omega (arith, is)))

get-none : {A : Type 0} (xs : List A) (n : ℕ) → slice_get xs n ≡ None → length xs ≤ n
get-none [] n is = omega arith
get-none (x ∷ xs) zero is = absurd (let none : ⊥ = cc in none)
get-none (x ∷ xs) (suc n) is = let h : length xs ≤ n = get-none xs n is in omega (arith, h)

pub left-nowhere : (order : List (Bor Part)) → 1 ≤ length order → slice_get order (length order - 1) ≡ None → part_list (map view_part_at (drop (length order - 1) order)) ≡ one_part None
left-nowhere order l is = let h : length order ≤ length order - 1 = get-none order (length order - 1) is in absurd (let none : ⊥ = omega (arith, l, h) in none)

pub ruleset lefts = (left-there, left-none, left-nowhere)
