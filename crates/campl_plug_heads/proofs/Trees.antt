-- The parts that links join, and the tree that they form or don't.
use Rattle.std.proofs.Common.{◌≡◌, ◌∙◌, refl, ap, subst, ℕ, zero, suc, ◌+◌, ◌≤◌, arith, Bool, true, false, ◌||◌, if◌then◌else◌, List, [], ◌∷◌, ◌++◌, Some, option_map, map, length, slice_get}
use Rattle.std.specs.Prelude.{All, ◌≢◌}
use Rattle.std.proofs.lemmas.List.Elements.{recursion_from_All}
use Rattle.campl_plug.specs.declared.plug.Link as numbers
use Rattle.campl_plug.specs.declared.plug.PlugFault.{PlugFault}
use Rattle.campl_plug.specs.declared.plug.PlugFault.TheVariants as plug
use Rattle.campl_plug.specs.Links.{IsWithin}
use Rattle.campl_plug.specs.Tree.{IsTree}
use Rattle.campl_plug.specs.Faults.{IsFaultOf}
use Rattle.campl_plug.proofs.Faulted.{tree-exactly, fault-exactly}
use Rattle.campl_tree.specs.declared.place.Ident.{Ident}
use Rattle.campl_tree.specs.declared.process.Link as code
use Rattle.campl_tree.specs.declared.process.Part.{Part}
use Rattle.campl_tree.specs.Plain.Process.{Link, Header, Parts, no_parts, part_then}
use Rattle.campl_tree.specs.View.{view_link, view_part, parts}
use Rattle.campl_types.specs.Names.{Name, same_name, is_among, found}
use Rattle.campl_types.specs.World.{names_of}
use Rattle.campl_types.specs.Headers.{count}
use Rattle.campl_peel.specs.Numbered.{one_up, number_of, inputs_in, outputs_in, joined_by, joined_parts, part_at}
use Rattle.campl_seqcheck.specs.Judged.{fine, Is}
use Rattle.campl_linear.specs.Plugs.{in_cycle, is_apart, tree_fault, parts_form_tree}
use Rattle.campl_plug_heads.specs.Heads.{Numbered, or_zero, number_in, marked, numbered, joined_in}

-- Numbers of parts

found-marked : (x : Name) (n : ℕ) (xs : List Ident) (es : Numbered) → found x (marked n xs ++ es) ≡ (if is_among x (names_of xs) then Some n else found x es)
found-marked x n [] es = refl
found-marked x n (y ∷ ys) es = go (same_name x y.name) (found-marked x n ys es)
  where
    go : (b : Bool) → found x (marked n ys ++ es) ≡ (if is_among x (names_of ys) then Some n else found x es)
        → (if b then Some n else found x (marked n ys ++ es)) ≡ (if b || is_among x (names_of ys) then Some n else found x es)
    go true i = refl
    go false i = i

-- the number of a part, where n parts come before
abbrev shift : ℕ → ℕ → ℕ
shift n zero = 0
shift n (suc p) = suc p + n

shift-up : (n p : ℕ) → shift (suc n) p ≡ shift n (one_up p)
shift-up n zero = refl
shift-up n (suc p) = omega arith

shift-none : (p : ℕ) → shift 0 p ≡ p
shift-none zero = refl
shift-none (suc p) = omega arith

number-from : (side : Header → List Ident) (x : Name) (n : ℕ) (ps : Parts) → number_in x (numbered side (suc n) ps) ≡ shift n (number_of side x ps)
number-from side x n no_parts = refl
number-from side x n (part_then h body ps) =
    ap or_zero (found-marked x (suc n) (side h) (numbered side (suc n + 1) ps))
    ∙ go (is_among x (names_of (side h))) (ap (λ m. number_in x (numbered side m ps)) more ∙ number-from side x (suc n) ps)
  where
    more : suc n + 1 ≡ suc (suc n)
    more = omega arith

    go : (b : Bool) → or_zero (found x (numbered side (suc n + 1) ps)) ≡ shift (suc n) (number_of side x ps)
        → or_zero (if b then Some (suc n) else found x (numbered side (suc n + 1) ps)) ≡ shift n (if b then 1 else one_up (number_of side x ps))
    go true i = omega arith
    go false i = i ∙ shift-up n (number_of side x ps)

number-is : (side : Header → List Ident) (x : Name) (ps : Parts) → number_in x (numbered side 1 ps) ≡ number_of side x ps
number-is side x ps = number-from side x 0 ps ∙ shift-none (number_of side x ps)

pub joined-is : (ps : Parts) (links : List Link) → map (joined_in (numbered inputs_in 1 ps) (numbered outputs_in 1 ps)) links ≡ joined_parts links ps
joined-is ps [] = refl
joined-is ps (l ∷ ls) =
    ap (λ (j : numbers.Link). j ∷ map (joined_in (numbered inputs_in 1 ps) (numbered outputs_in 1 ps)) ls) (λ k. record { a = number-is outputs_in l.name.name ps k; b = number-is inputs_in l.name.name ps k })
    ∙ ap (λ js. joined_by ps l ∷ js) (joined-is ps ls)

-- Parts in a list

pub count-is : (ps : List Part) → count (parts (map view_part ps)) ≡ length ps
count-is [] = refl
count-is (p ∷ ps) = let h : count (parts (map view_part ps)) ≡ length ps = count-is ps in omega (arith, h)

pub part-is : (ps : List Part) (i : ℕ) → part_at (parts (map view_part ps)) (suc i) ≡ option_map view_part (slice_get ps i)
part-is [] i = refl
part-is (p ∷ ps) zero = refl
part-is (p ∷ ps) (suc i) = part-is ps i

pub link-is : (ls : List code.Link) (i : ℕ) → slice_get (map view_link ls) i ≡ option_map view_link (slice_get ls i)
link-is [] i = refl
link-is (l ∷ ls) zero = refl
link-is (l ∷ ls) (suc i) = link-is ls i

-- What the order of the parts tells

module _ (links : List Link) (ps : Parts) (some : 1 ≤ count ps) (within : All (IsWithin (count ps)) (joined_parts links ps)) where
  pub tree-stands : IsTree (count ps) (joined_parts links ps) → parts_form_tree links ps ≡ Is fine
  tree-stands t = ap (tree_fault links ps) ((tree-exactly (count ps) (joined_parts links ps) (recursion_from_All (IsWithin (count ps)) (joined_parts links ps) within) some).0 t)

  told : (fault : PlugFault) → fault ≢ plug.OutOfMemory → IsFaultOf (count ps) (joined_parts links ps) fault → parts_form_tree links ps ≡ tree_fault links ps (Some fault)
  told fault stays is = ap (tree_fault links ps) ((fault-exactly (count ps) (joined_parts links ps) (recursion_from_All (IsWithin (count ps)) (joined_parts links ps) within) some fault stays).0 is)

  pub cycle-told : (i : ℕ) → IsFaultOf (count ps) (joined_parts links ps) (plug.Cycle i) → parts_form_tree links ps ≡ in_cycle (slice_get links i)
  cycle-told i is = told (plug.Cycle i) (λ e. cc e) is

  pub apart-told : (p : ℕ) → IsFaultOf (count ps) (joined_parts links ps) (plug.Apart p) → parts_form_tree links ps ≡ is_apart p (part_at ps p)
  apart-told p is = told (plug.Apart p) (λ e. cc e) is

  -- under the names that code has for the parts and links
  pub apart-at : (n : ℕ) (joined : List numbers.Link) (p : ℕ) → n ≡ count ps → joined ≡ joined_parts links ps → IsFaultOf n joined (plug.Apart p) → parts_form_tree links ps ≡ is_apart p (part_at ps p)
  apart-at n joined p i j is = apart-told p (subst (λ m. IsFaultOf m (joined_parts links ps) (plug.Apart p)) i (subst (λ l. IsFaultOf n l (plug.Apart p)) j is))

pub joined-so : (ps : Parts) (links : List Link) (ins outs : Numbered) → ins ≡ numbered inputs_in 1 ps → outs ≡ numbered outputs_in 1 ps → map (joined_in ins outs) links ≡ joined_parts links ps
joined-so ps links ins outs i j = ap (λ (z : Numbered). map (joined_in z outs) links) i ∙ ap (λ (z : Numbered). map (joined_in (numbered inputs_in 1 ps) z) links) j ∙ joined-is ps links

pub ruleset counts = (count-is)

pub ruleset trees = (joined-is, count-is, tree-stands, cycle-told, apart-told)
