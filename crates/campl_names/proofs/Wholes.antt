-- The judgement of a whole program.
use Rattle.std.proofs.Common.{◌≡◌, ◌∙◌, refl, sym, ap, subst, List, [], ◌∷◌, ◌++◌, append_assoc, Result, Ok, Err, drop, map}
use Rattle.std.proofs.lemmas.List.{drop_all}
use Rattle.campl_tree.specs.declared.decl.Decl.{Decl}
use Rattle.campl_tree.specs.View.{view_decl}
use Rattle.campl_tree.specs.Plain.Decl.{Program}
use Rattle.campl_types.specs.declared.fault.NameFault.{NameFault}
use Rattle.campl_names.specs.Judges.{Judges}
use Rattle.campl_types.specs.Known.{each, in_decl}
use Rattle.campl_types.specs.Run.{run_faults}
use Rattle.campl_types.specs.Twice.{twice_among, twice_faults, declared_from}
use Rattle.campl_types.specs.WellDeclared.{name_faults}
use Rattle.campl_types.specs.World.{world_of}
use Rattle.std.specs.Result.{IsErr, IsErrAnd}
use Rattle.campl_names.proofs.Judged.{err-first, judged, in-turn, stopped, same-faults}

pub ruleset rests = (drop_all)

two-behind : (ds : List Decl) → map view_decl (drop 2 ds) ≡ drop 2 (map view_decl ds)
two-behind [] = refl
two-behind (d ∷ []) = refl
two-behind (d ∷ e ∷ ds) = refl

-- the uses of a source's declarations
uses : (source : Program) (ds : List Decl) → map view_decl ds ≡ world_of source
    → each (in_decl (map view_decl ds)) (map view_decl (drop 2 ds)) ++ run_faults (map view_decl ds) ≡ each (in_decl (world_of source)) source ++ run_faults (world_of source)
uses source ds i = ap (λ r. each (in_decl (map view_decl ds)) r ++ run_faults (map view_decl ds)) (two-behind ds) ∙ ap (λ w. each (in_decl w) (drop 2 w) ++ run_faults w) i

twice : {A : Type 0} (source : Program) (ds : List Decl) (i : map view_decl ds ≡ world_of source) (r : Result A NameFault) → Judges (twice_among [] (declared_from 0 (map view_decl ds))) r → Judges (twice_faults source) r
twice source ds i r j = same-faults _ _ r j (ap (λ w. twice_among [] (declared_from 0 w)) i)

whole : {A B : Type 0} (source : Program) (ds : List Decl) (i : map view_decl ds ≡ world_of source) (x : A) (r : Result B NameFault) → Judges (twice_among [] (declared_from 0 (map view_decl ds))) (Ok x)
    → Judges (each (in_decl (map view_decl ds)) (map view_decl (drop 2 ds)) ++ run_faults (map view_decl ds)) r → Judges (name_faults source) r
whole source ds i x r j k =
    let uses-judged : Judges (each (in_decl (world_of source)) source ++ run_faults (world_of source)) r = same-faults _ _ r k (uses source ds i) in
    same-faults _ _ r (in-turn (twice_faults source) _ x r (twice source ds i (Ok x) j) uses-judged) (sym (append_assoc (twice_faults source) (each (in_decl (world_of source)) source) (run_faults (world_of source))))

pub whole-judged : {A B : Type 0} (source : Program) (ds ws : List Decl) (i : map view_decl ds ≡ world_of source) (e : ws ≡ ds) (x : A) (r : Result B NameFault)
    → Judges (twice_among [] (declared_from 0 (map view_decl ds))) (Ok x)
    → Judges (each (in_decl (map view_decl ws)) (map view_decl (drop 2 ws)) ++ run_faults (map view_decl ws)) r → Judges (name_faults source) r
whole-judged source ds ws i e x r j k =
    whole source ds i x r j (subst (λ v. Judges (each (in_decl (map view_decl v)) (map view_decl (drop 2 v)) ++ run_faults (map view_decl v)) r) e k)

pub twice-refused : {A B : Type 0} (source : Program) (ds : List Decl) (i : map view_decl ds ≡ world_of source) (fault : NameFault) (r : Result B NameFault)
    → Judges {A = A} (twice_among [] (declared_from 0 (map view_decl ds))) (Err fault) → IsErr r × IsErrAnd r (λ e. e ≡ fault) → Judges {A = B} (name_faults source) r
twice-refused {A} {B} source ds i fault r j told =
    err-first {A = A} {B = B} _ (run_faults (world_of source)) fault r (stopped {A = A} {B = A} _ _ fault (twice source ds i (Err fault) j)) told

pub ruleset declaring = (judged)
