-- Numbers of processes by their names.
use Rattle.std.proofs.Common.{◌≡◌, ◌∙◌, refl, sym, ap, ℕ, suc, ◌+◌, ◌<◌, ◌≤◌, cond, List, [], ◌∷◌, Option, Some, None, if◌then◌else◌, option_map, length, map, drop, get_or, arith}
use Rattle.std.specs.Map.{lookup}
use Rattle.std.proofs.lemmas.List.{drop_all, drop_more}
use Rattle.campl_tree.specs.declared.decl.Decl.{Decl}
use Rattle.campl_tree.specs.View.{view_decl}
use Rattle.campl_types.specs.Names.{Name, same_name}
use Rattle.campl_types.specs.World.{World}
use Rattle.campl_types.proofs.Names.{same-turned}
use Rattle.campl_code.specs.Generated.{or_zero}
use Rattle.campl_code_bodies.specs.BodyCode.{process_number}
use Rattle.campl_gen_exprs.specs.Sources.{known_or}
use Rattle.campl_gen_exprs.proofs.Sources.{noted-already, noted-newly, on-function}
use Rattle.campl_gen_bodies.specs.Known.{AreNumbered, numbered_on}

-- what is told of the name is told of its place
pub told-number : (es : List (Name × ℕ)) (w : World) (x : Name) (o : Option ℕ) → AreNumbered es w → o ≡ lookup (same_name x) es → or_zero o ≡ or_zero (process_number w x)
told-number es w x o told is = ap or_zero (is ∙ told x)

pub ruleset finding = (told-number)

pub ruleset noting = (noted-already, noted-newly)

known-none : (o : Option ℕ) → known_or o None ≡ o
known-none None = refl
known-none (Some n) = refl

-- behind a process the numbers are one more
pub on-process : (es fs : List (Name × ℕ)) (y : Name) (n m : ℕ) (x : Name) (behind : Option ℕ) → lookup (same_name x) fs ≡ known_or (lookup (same_name x) es) (cond (same_name y x) (Some n) None) → m ≡ n + 1
    → known_or (lookup (same_name x) fs) (option_map (λ k. m + k) behind) ≡ known_or (lookup (same_name x) es) (option_map (λ k. n + k) (if same_name x y then Some 0 else option_map suc behind))
on-process es fs y n m x behind noted one =
    ap (λ o. known_or o (option_map (λ k. m + k) behind)) noted ∙ ap (λ j. known_or (known_or (lookup (same_name x) es) (cond (same_name y x) (Some n) None)) (option_map (λ k. j + k) behind)) one
    ∙ on-function (lookup (same_name x) es) (same_name y x) (same_name x y) n behind (same-turned y x)

pub numbered-at : (ds : List Decl) (i : ℕ) (d : Decl) → i < length ds → d ≡ get_or ds i d → map view_decl (drop i ds) ≡ view_decl d ∷ map view_decl (drop (i + 1) ds)
numbered-at ds i d l is = ap (map view_decl) (drop_more ds i d l ∙ ap (λ y. y ∷ drop (i + 1) ds) (sym is))

pub numbered-end : (es : List (Name × ℕ)) (n : ℕ) (ds : List Decl) (i : ℕ) (x : Name) → length ds ≤ i → numbered_on es n (map view_decl (drop i ds)) x ≡ lookup (same_name x) es
numbered-end es n ds i x l = ap (λ d. numbered_on es n (map view_decl d) x) (drop_all i ds l) ∙ known-none (lookup (same_name x) es)

shown : (o : Option ℕ) → option_map (λ k. 0 + k) o ≡ o
shown None = refl
shown (Some n) = let z : 0 + n ≡ n = omega arith in ap (λ k. Some k) z

pub numbered-start : (w : World) (x : Name) → numbered_on [] 0 w x ≡ process_number w x
numbered-start w x = shown (process_number w x)
