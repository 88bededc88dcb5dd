-- What is judged from where a loop stands, and what a call's parts are.
use Rattle.std.proofs.Common.{◌≡◌, ◌∙◌, refl, sym, ap, ℕ, suc, ◌+◌, ◌<◌, ◌≤◌, min, leb, Bool as Truth, true, false, if◌then◌else◌, Some, None, List, [], ◌∷◌, ◌++◌, map, drop, length, get_or, arith}
use Rattle.std.proofs.lemmas.Bool.{leb-true, leb-false}
use Rattle.std.proofs.lemmas.List.{drop_all, length-map}
use Rattle.campl_tree.specs.declared.place.Place.{Place}
use Rattle.campl_tree.specs.declared.expr.Expr.{Expr}
use Rattle.campl_tree.specs.declared.expr.ExprRow.{ExprRow}
use Rattle.campl_tree.specs.declared.types.SeqType as seq
use Rattle.campl_tree.specs.Plain.Decl.{DataDecl}
use Rattle.campl_tree.specs.Plain.Expr as e
use Rattle.campl_tree.specs.Plain.SeqType.{SeqType}
use Rattle.campl_tree.specs.Plain.SeqType as s
use Rattle.campl_tree.specs.Places.{expr_place}
use Rattle.campl_tree.specs.View.{view_seq, view_expr, exprs, view_expr_row, expr_rows, view_data_constructor}
use Rattle.campl_types.specs.Fits.{Vars}
use Rattle.campl_types.specs.Names.{Name}
use Rattle.campl_types.specs.SameType.{nowhere}
use Rattle.campl_types.specs.Sequential.{whole}
use Rattle.campl_types.specs.Substitution.{Filling, filled, variables_of, variables_of_all, types_of as as_types}
use Rattle.campl_types.specs.World.{World, names_of, constructor_named, function_named}
use Rattle.campl_matching.specs.Matching.{is_known, matched}
use Rattle.std.specs.Borrow.{Bor}
use Rattle.campl_tree.specs.declared.decl.DataConstructor as code
use Rattle.campl_seqcheck.specs.declared.callee.Callee.{Callee}
use Rattle.campl_seqcheck.specs.declared.callee.Callee.TheVariants as callee
use Rattle.campl_seqcheck.specs.declared.fault.SeqFault.TheVariants.{NeedsType}
use Rattle.campl_seqcheck.specs.Judged.{Is, Fails, fine, and_then}
use Rattle.campl_seqcheck.specs.Fitting.{counted, fit}
use Rattle.campl_seqcheck.specs.Judging.{Wanted, judge, judge_each, judge_more, judge_parts, empty_list, called, called_function, called_constructor, found_so, count_of}
use Rattle.campl_seqcheck.specs.Steps.{fitted, judged, judged_each, judged_more, judged_parts, judged_rows, judged_row, judged_first_row, judged_part, judged_items, judged_data, judged_call, types_of}
use Rattle.campl_seqcheck.proofs.Answered.{drop-at}
use Rattle.campl_seqcheck.proofs.Nodes.{in-three}

-- Elements

module _ (w : World) (vs : Vars) (t : SeqType) (items : List Expr) (i : ℕ) where
  pub each-at : (x : Expr) → i < length items → x ≡ get_or items i x
      → judged_each w vs (exprs (map view_expr (drop i items))) t ≡ and_then (judged w vs (view_expr x) (Some t)) (λ _. judged_each w vs (exprs (map view_expr (drop (i + 1) items))) t)
  unfolding judged judged_each
  each-at x l is = ap (λ xs. judge_each w vs (exprs (map view_expr xs)) t) (drop-at items i x l is)

  pub each-end : length items ≤ i → judged_each w vs (exprs (map view_expr (drop i items))) t ≡ Is fine
  unfolding judged_each
  each-end l = ap (λ xs. judge_each w vs (exprs (map view_expr xs)) t) (drop_all i items l)

module _ (w : World) (vs : Vars) (at : Place) (wanted : Wanted) where
  pub list-empty : judged w vs (e.List at e.no_exprs) wanted ≡ empty_list at wanted
  unfolding judged
  list-empty = refl

  pub list-items : (a : e.Expr) (rest : e.Exprs) → judged w vs (e.List at (e.expr_then a rest)) wanted ≡ judged_items at w vs a rest wanted
  unfolding judged judged_each
  list-items a rest = refl

-- Rows

module _ (w : World) (vs : Vars) (t u : SeqType) (rows : List ExprRow) (i : ℕ) where
  pub more-at : (r : ExprRow) → i < length rows → r ≡ get_or rows i r
      → judged_more w vs (expr_rows (map view_expr_row (drop i rows))) t u
      ≡ and_then (judged_row w vs (view_expr_row r) t (Some u)) (λ _. judged_more w vs (expr_rows (map view_expr_row (drop (i + 1) rows))) t u)
  unfolding fitted judged judged_more
  more-at r l is =
      ap (λ rs. judge_more w vs (expr_rows (map view_expr_row rs)) t u) (drop-at rows i r l is)
      ∙ in-three (fit w [] (view_expr_row r).0 t) (λ xs. judge w (xs ++ vs) (view_expr_row r).1 (Some u)) (λ _. judge_more w vs (expr_rows (map view_expr_row (drop (i + 1) rows))) t u)

  pub more-end : length rows ≤ i → judged_more w vs (expr_rows (map view_expr_row (drop i rows))) t u ≡ Is fine
  unfolding judged_more
  more-end l = ap (λ rs. judge_more w vs (expr_rows (map view_expr_row rs)) t u) (drop_all i rows l)

module _ (at : Place) (w : World) (vs : Vars) (t : SeqType) (wanted : Wanted) where
  pub rows-none : judged_rows at w vs e.no_expr_rows t wanted ≡ Fails (NeedsType at)
  unfolding judged_rows
  rows-none = refl

  pub rows-first : (r : ExprRow) (more : List ExprRow)
      → judged_rows at w vs (expr_rows (map view_expr_row (r ∷ more))) t wanted ≡ judged_first_row w vs (view_expr_row r) (expr_rows (map view_expr_row more)) t wanted
  unfolding fitted judged judged_more judged_rows
  rows-first r more =
      in-three (fit w [] (view_expr_row r).0 t) (λ xs. judge w (xs ++ vs) (view_expr_row r).1 wanted) (λ u. and_then (judge_more w vs (expr_rows (map view_expr_row more)) t u) (λ _. Is u))

-- Calls

module _ (w : World) (vs : Vars) (at : Place) (x : Name) (args : e.Exprs) (wanted : Wanted) where
  pub function-call : judged w vs (e.Call at x args) wanted ≡ called_function at (function_named w x) (count_of args) wanted (λ types start. judged_parts w vs start types args)
  unfolding judged judged_parts
  function-call = refl

  pub constructor-call : judged w vs (e.Constructor at x args) wanted ≡ called_constructor at (constructor_named w x) (count_of args) wanted (λ types start. judged_parts w vs start types args)
  unfolding judged judged_parts
  constructor-call = refl

-- the parameters of a data type are the variables of the type that its constructors build
own-parameters : (xs : List Name) → variables_of_all (as_types (map (s.Variable nowhere) xs)) ≡ xs
own-parameters [] = refl
own-parameters (x ∷ xs) = ap (λ ys. x ∷ ys) (own-parameters xs)

pub whole-parameters : (d : DataDecl) → variables_of (whole d) ≡ names_of d.parameters
whole-parameters d = own-parameters (names_of d.parameters)

pub data-call : (at : Place) (w : World) (vs : Vars) (d : DataDecl) (own : Bor seq.SeqType) (k : Bor code.DataConstructor) (args : e.Exprs) (wanted : Wanted) → view_seq own.now ≡ whole d
    → judged_data at w vs d (view_data_constructor k.now) args wanted ≡ judged_call at w vs (callee.Constructor own k) args wanted
data-call at w vs d own k args wanted i =
    let ps : variables_of (view_seq own.now) ≡ names_of d.parameters = ap variables_of i ∙ whole-parameters d in
    ap (λ xs. called at xs (count_of args) (map view_seq k.now.parts) (whole d) wanted (λ start. judged_parts w vs start (map view_seq k.now.parts) args)) (sym ps)
    ∙ ap (λ r. called at (variables_of (view_seq own.now)) (count_of args) (map view_seq k.now.parts) r wanted (λ start. judged_parts w vs start (map view_seq k.now.parts) args)) (sym i)

pub none-is : {X : Type 0} (xs : List X) → length xs ≡ 0 → xs ≡ []
none-is [] i = refl
none-is (x ∷ xs) i = absurd (let none : ⊥ = omega (arith, i) in none)

pub count-args : (args : List Expr) → count_of (exprs (map view_expr args)) ≡ length args
count-args [] = refl
count-args (a ∷ args) = ap suc (count-args args)

pub counted-call : (at : Place) (c : Callee) (args : List Expr) (types : List seq.SeqType) → map view_seq types ≡ types_of c
    → counted at (count_of (exprs (map view_expr args))) (length (types_of c)) ≡ counted at (length args) (length types)
counted-call at c args types i =
    ap (λ n. counted at n (length (types_of c))) (count-args args) ∙ ap (λ ts. counted at (length args) (length ts)) (sym i)
    ∙ ap (λ n. counted at (length args) n) (length-map types view_seq)

no-parts : (w : World) (vs : Vars) (fill : Filling) (ts : List SeqType) → judge_parts w vs fill ts e.no_exprs ≡ Is fill
no-parts w vs fill [] = refl
no-parts w vs fill (t ∷ ts) = refl

part-so : (w : World) (vs : Vars) (fill : Filling) (t : SeqType) (ts : List SeqType) (a : e.Expr) (rest : e.Exprs)
    → judge_parts w vs fill (t ∷ ts) (e.expr_then a rest) ≡ and_then (judged_part w vs fill t a) (λ next. judge_parts w vs next ts rest)
unfolding judged
part-so w vs fill t ts a rest = go (is_known fill t)
  where
    go : (b : Truth)
        → (if b
        then and_then (judge w vs a (Some (filled fill t))) (λ _. judge_parts w vs fill ts rest)
        else and_then (judge w vs a None) (λ u. and_then (found_so (expr_place a) fill t u (matched fill t u)) (λ next. judge_parts w vs next ts rest)))
        ≡ and_then (if b
        then and_then (judge w vs a (Some (filled fill t))) (λ _. Is fill)
        else and_then (judge w vs a None) (λ u. found_so (expr_place a) fill t u (matched fill t u))) (λ next. judge_parts w vs next ts rest)
    go true = in-three (judge w vs a (Some (filled fill t))) (λ _. Is fill) (λ next. judge_parts w vs next ts rest)
    go false = in-three (judge w vs a None) (λ u. found_so (expr_place a) fill t u (matched fill t u)) (λ next. judge_parts w vs next ts rest)

module _ (w : World) (vs : Vars) (fill : Filling) (types : List seq.SeqType) (args : List Expr) (i : ℕ) where
  pub parts-at : (t : seq.SeqType) (a : Expr) → i < min (length types) (length args) → t ≡ get_or types i t → a ≡ get_or args i a
      → judged_parts w vs fill (map view_seq (drop i types)) (exprs (map view_expr (drop i args)))
      ≡ and_then (judged_part w vs fill (view_seq t) (view_expr a)) (λ next. judged_parts w vs next (map view_seq (drop (i + 1) types)) (exprs (map view_expr (drop (i + 1) args))))
  unfolding judged_parts
  parts-at t a l is so =
      ap (λ ts. judge_parts w vs fill (map view_seq ts) (exprs (map view_expr (drop i args)))) (drop-at types i t (omega (arith, l)) is)
      ∙ ap (λ xs. judge_parts w vs fill (map view_seq (t ∷ drop (i + 1) types)) (exprs (map view_expr xs))) (drop-at args i a (omega (arith, l)) so)
      ∙ part-so w vs fill (view_seq t) (map view_seq (drop (i + 1) types)) (view_expr a) (exprs (map view_expr (drop (i + 1) args)))

  pub parts-end : min (length types) (length args) ≤ i → judged_parts w vs fill (map view_seq (drop i types)) (exprs (map view_expr (drop i args))) ≡ Is fill
  unfolding judged_parts
  parts-end l = go (leb (length types) i) refl
    where
      go : (b : Truth) → leb (length types) i ≡ b → judge_parts w vs fill (map view_seq (drop i types)) (exprs (map view_expr (drop i args))) ≡ Is fill
      go true q = ap (λ ts. judge_parts w vs fill (map view_seq ts) (exprs (map view_expr (drop i args)))) (drop_all i types (leb-true (length types) i q))
      go false q =
          let more : i < length types = leb-false (length types) i q in let less : length args ≤ i = omega (arith, l, more) in
          ap (λ xs. judge_parts w vs fill (map view_seq (drop i types)) (exprs (map view_expr xs))) (drop_all i args less) ∙ no-parts w vs fill (map view_seq (drop i types))
