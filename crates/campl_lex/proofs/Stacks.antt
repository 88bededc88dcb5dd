-- Closing the topmost blocks, one after another.
use Rattle.std.proofs.Common.{◌≡◌, ℕ, suc, ◌+◌, Bool, true, false, List, [], ◌∷◌, length, drop, slice_get, refl, ap, arith, append_assoc, ◌++◌}
use Rattle.std.proofs.Common.{replicate, Some, None, sym, ◌∙◌}
use Rattle.std.specs.List.{prefix_len}
use Rattle.campl_lex.specs.declared.stack.Enclosure.{Enclosure}
use Rattle.campl_lex.specs.Enclosure.{tops, block_count}
use Rattle.campl_lex.specs.declared.stack.Enclosure.TheVariants.{Block, Bracket}

pub prefix_len_tops : (p : Enclosure → Bool) (stack : List Enclosure) → tops p (slice_get stack 0) ≡ true → prefix_len p stack ≡ prefix_len p (drop 1 stack) + 1
prefix_len_tops p [] h = cc
prefix_len_tops p (e ∷ es) h = rw h (omega arith)

pub prefix_len_stops : (p : Enclosure → Bool) (stack : List Enclosure) → tops p (slice_get stack 0) ≡ false → prefix_len p stack ≡ 0
prefix_len_stops p [] h = refl
prefix_len_stops p (e ∷ es) h = rw h refl

pub length_tops : (p : Enclosure → Bool) (stack : List Enclosure) → tops p (slice_get stack 0) ≡ true → length stack ≡ length (drop 1 stack) + 1
length_tops p [] h = cc
length_tops p (e ∷ es) h = omega arith

pub count_block : (c : ℕ) (stack : List Enclosure) → slice_get stack 0 ≡ Some (Block c) → block_count stack ≡ suc (block_count (drop 1 stack))
count_block c [] h = cc
count_block c (Block d ∷ es) h = refl
count_block c (Bracket d ∷ es) h = cc

pub count_none : (stack : List Enclosure) → slice_get stack 0 ≡ None → block_count stack ≡ 0
count_none [] h = refl
count_none (e ∷ es) h = cc

pub one_more : {X : Type 0} (front : List X) (x : X) (n : ℕ) → (front ++ x ∷ []) ++ replicate n x ≡ front ++ replicate (suc n) x
one_more front x n = append_assoc front (x ∷ []) (replicate n x)

pub closes_one : {X : Type 0} (out : List X) (x : X) (c : ℕ) (stack below : List Enclosure) → slice_get stack 0 ≡ Some (Block c) → below ≡ drop 1 stack
    → (out ++ x ∷ []) ++ replicate (block_count below) x ≡ out ++ replicate (block_count stack) x
closes_one out x c stack below h e =
    ap (λ s. (out ++ x ∷ []) ++ replicate (block_count s) x) e
    ∙ one_more out x (block_count (drop 1 stack))
    ∙ ap (λ n. out ++ replicate n x) (sym (count_block c stack h))
