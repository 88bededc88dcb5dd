-- Channels behind the last that was set have no end.
use Rattle.std.proofs.Common.{◌≡◌, ◌<◌, ℕ, zero, suc, List, [], ◌∷◌, ◌++◌, Option, Some, None, length, map, set, slice_get, refl, ap, ◌∙◌}
use Rattle.std.specs.Prelude.{replicate}
use Rattle.std.proofs.Math.Path.{fun_ext}
use Rattle.campl_cells.specs.Wants.{end_at, set_end}
use Rattle.campl_cells.specs.Parts.{put}
use Rattle.campl_parts.specs.Ends.{found, ends_of, handed}
use Rattle.campl_parts.proofs.Places.{read_set}

padded : (xs : List (Option ℕ)) (k n : ℕ) → ends_of (xs ++ replicate k None) n ≡ ends_of xs n
padded [] zero n = refl
padded [] (suc k) zero = refl
padded [] (suc k) (suc n) = padded [] k n
padded (x ∷ xs) k zero = refl
padded (x ∷ xs) k (suc n) = padded xs k n

pub set_padded : (xs : List (Option ℕ)) (k n e : ℕ) → n < length (xs ++ replicate k None) →
    ends_of (set (xs ++ replicate k None) n (Some e)) ≡ set_end n e (ends_of xs)
set_padded xs k n e h = read_set found (xs ++ replicate k None) n (Some e) h ∙ ap (put n (Some e)) (fun_ext (padded xs k))

given-at : (items : List (Option ℕ)) (channels : List ℕ) (n : ℕ) → ends_of (map (ends_of items) channels) n ≡ end_at (ends_of items) (slice_get channels n)
given-at items [] n = refl
given-at items (c ∷ cs) zero = refl
given-at items (c ∷ cs) (suc n) = given-at items cs n

pub handed-given : (ends items : List (Option ℕ)) (channels : List ℕ) → ends ≡ handed items channels → ends_of ends ≡ (λ n. end_at (ends_of items) (slice_get channels n))
handed-given ends items channels e = ap ends_of e ∙ fun_ext (given-at items channels)
