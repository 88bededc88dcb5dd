-- The values of a call, from where a loop stands.
use Rattle.std.proofs.Common.{◌≡◌, ◌∙◌, refl, ap, ℕ, ◌+◌, ◌<◌, ◌≤◌, min, leb, Bool as Truth, true, false, List, [], ◌∷◌, map, drop, length, get_or, Some, arith}
use Rattle.std.proofs.lemmas.Bool.{leb-true, leb-false}
use Rattle.std.proofs.lemmas.List.{drop_all}
use Rattle.campl_tree.specs.declared.expr.Expr as code
use Rattle.campl_tree.specs.declared.types.SeqType as code_seq
use Rattle.campl_tree.specs.Plain.SeqType.{SeqType}
use Rattle.campl_tree.specs.View.{view_seq, view_expr, exprs}
use Rattle.campl_types.specs.Fits.{Vars}
use Rattle.campl_types.specs.World.{World}
use Rattle.campl_seqcheck.specs.declared.fault.SeqFault.{SeqFault}
use Rattle.campl_seqcheck.specs.Judged.{Fine, fine, Judged, Is, Fails, and_then}
use Rattle.campl_seqcheck.specs.Judging.{judge, checked}
use Rattle.campl_seqcheck.proofs.Answered.{drop-at}
use Rattle.campl_linear.specs.Calls.{values_fit}

-- a value that is judged, and checked
once-checked : (j : Judged SeqFault SeqType) (next : Judged SeqFault Fine) → and_then j (λ _. next) ≡ and_then (and_then j (λ _. Is fine)) (λ _. next)
once-checked (Is t) next = refl
once-checked (Fails fault) next = refl

module _ (w : World) (vs : Vars) where
  no-values : (ts : List SeqType) → values_fit w vs ts (exprs []) ≡ Is fine
  no-values [] = refl
  no-values (t ∷ ts) = refl

  module _ (types : List code_seq.SeqType) (values : List code.Expr) (i : ℕ) where
    pub values-at : (v : code.Expr) (t : code_seq.SeqType) → i < min (length types) (length values) → v ≡ get_or values i v → t ≡ get_or types i t
        → values_fit w vs (map view_seq (drop i types)) (exprs (map view_expr (drop i values)))
        ≡ and_then (checked w vs (view_expr v) (view_seq t)) (λ _. values_fit w vs (map view_seq (drop (i + 1) types)) (exprs (map view_expr (drop (i + 1) values))))
    values-at v t l is so =
        ap (λ ts. values_fit w vs (map view_seq ts) (exprs (map view_expr (drop i values)))) (drop-at types i t (omega (arith, l)) so)
        ∙ ap (λ xs. values_fit w vs (map view_seq (t ∷ drop (i + 1) types)) (exprs (map view_expr xs))) (drop-at values i v (omega (arith, l)) is)
        ∙ once-checked (judge w vs (view_expr v) (Some (view_seq t))) (values_fit w vs (map view_seq (drop (i + 1) types)) (exprs (map view_expr (drop (i + 1) values))))

    pub values-end : min (length types) (length values) ≤ i → values_fit w vs (map view_seq (drop i types)) (exprs (map view_expr (drop i values))) ≡ Is fine
    values-end l = go (leb (length types) i) refl
      where
        go : (b : Truth) → leb (length types) i ≡ b → values_fit w vs (map view_seq (drop i types)) (exprs (map view_expr (drop i values))) ≡ Is fine
        go true e = ap (λ ts. values_fit w vs (map view_seq ts) (exprs (map view_expr (drop i values)))) (drop_all i types (leb-true (length types) i e))
        go false e =
            let more : i < length types = leb-false (length types) i e in let less : length values ≤ i = omega (arith, l, more) in
            ap (λ xs. values_fit w vs (map view_seq (drop i types)) (exprs (map view_expr xs))) (drop_all i values less) ∙ no-values (map view_seq (drop i types))
