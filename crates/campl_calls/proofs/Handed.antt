-- The channels of a call, from where a loop stands.
use Rattle.std.proofs.Common.{◌≡◌, ◌∙◌, refl, ap, ℕ, ◌+◌, ◌<◌, ◌≤◌, min, leb, Bool, true, false, List, [], ◌∷◌, map, drop, length, get_or, arith}
use Rattle.std.proofs.lemmas.Bool.{leb-true, leb-false}
use Rattle.std.proofs.lemmas.List.{drop_all}
use Rattle.campl_tree.specs.declared.place.Ident.{Ident}
use Rattle.campl_tree.specs.declared.service.Side.{Side}
use Rattle.campl_tree.specs.declared.types.ChanType as code
use Rattle.campl_tree.specs.View.{view_chan}
use Rattle.campl_types.specs.Held.{Channel}
use Rattle.campl_seqcheck.specs.Judged.{Fine, Judged, Is, Fails, and_then}
use Rattle.campl_seqcheck.proofs.Answered.{drop-at}
use Rattle.campl_linear.specs.Faults.{LinFault}
use Rattle.campl_linear.specs.Holding.{Holding, given_up}
use Rattle.campl_linear.specs.Channels.{held_at}
use Rattle.campl_linear.specs.Calls.{as_declared, handed}
use Rattle.campl_calls.specs.Handing.{handed_one}

-- a channel that is handed over, and what comes next
one-handed : (j : Judged LinFault Channel) (declared : Channel → Judged LinFault Fine) (rest : Holding) (next : Holding → Judged LinFault Holding)
    → and_then j (λ c. and_then (declared c) (λ _. next rest)) ≡ and_then (and_then j (λ c. and_then (declared c) (λ _. Is rest))) next
one-handed (Fails fault) declared rest next = refl
one-handed (Is c) declared rest next = go (declared c)
  where
    go : (k : Judged LinFault Fine) → and_then k (λ _. next rest) ≡ and_then (and_then k (λ _. Is rest)) next
    go (Is f) = refl
    go (Fails fault) = refl

module _ (s : Side) where
  no-types : (xs : List Ident) (held : Holding) → handed s xs [] held ≡ Is held
  no-types [] held = refl
  no-types (x ∷ xs) held = refl

  module _ (names : List Ident) (types : List code.ChanType) (i : ℕ) (held : Holding) where
    pub handed-at : (x : Ident) (t : code.ChanType) → i < min (length names) (length types) → x ≡ get_or names i x → t ≡ get_or types i t
        → handed s (drop i names) (map view_chan (drop i types)) held
        ≡ and_then (handed_one s x (view_chan t) held) (λ rest. handed s (drop (i + 1) names) (map view_chan (drop (i + 1) types)) rest)
    handed-at x t l is so =
        ap (λ xs. handed s xs (map view_chan (drop i types)) held) (drop-at names i x (omega (arith, l)) is)
        ∙ ap (λ ts. handed s (x ∷ drop (i + 1) names) (map view_chan ts) held) (drop-at types i t (omega (arith, l)) so)
        ∙ one-handed (held_at x held) (as_declared x s (view_chan t)) (given_up x.name held) (λ rest. handed s (drop (i + 1) names) (map view_chan (drop (i + 1) types)) rest)

    pub handed-end : min (length names) (length types) ≤ i → handed s (drop i names) (map view_chan (drop i types)) held ≡ Is held
    handed-end l = go (leb (length names) i) refl
      where
        go : (b : Bool) → leb (length names) i ≡ b → handed s (drop i names) (map view_chan (drop i types)) held ≡ Is held
        go true e = ap (λ xs. handed s xs (map view_chan (drop i types)) held) (drop_all i names (leb-true (length names) i e))
        go false e =
            let more : i < length names = leb-false (length names) i e in let less : length types ≤ i = omega (arith, l, more) in
            ap (λ ts. handed s (drop i names) (map view_chan ts) held) (drop_all i types less) ∙ no-types (drop i names) held
