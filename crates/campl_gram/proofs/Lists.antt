-- Lists that a parser reads by a loop or a tail call.
use Rattle.std.proofs.Common.{◌≡◌, ◌≤◌, ◌+◌, ℕ, Bool, false, List, [], ◌∷◌, ◌++◌, length, Ok, Err, refl, ap, subst, append_assoc, append-nil}
use Rattle.campl_gram.specs.Grammar.{Terminals}
use Rattle.campl_gram.specs.Reading.{Outcome, and_then, adds, expect}
use Rattle.campl_gram.proofs.Fuel.{need, Leaves, leaves-expect}

-- one more value in front is one that is read before the others
pub adds_one : {T A : Type 0} (front : List A) (x : A) (o : Outcome T (List A)) → adds (front ++ x ∷ []) o ≡ adds front (and_then o (λ xs r. (Ok (x ∷ xs), r)))
adds_one front x (Ok xs, r) = ap (λ l. (Ok l, r)) (append_assoc front (x ∷ []) xs)
adds_one front x (Err e, r) = refl

-- no values in front change nothing
pub adds_none : {T A : Type 0} (o : Outcome T (List A)) → adds [] o ≡ o
adds_none (Ok xs, r) = refl
adds_none (Err e, r) = refl

-- no values behind change nothing
pub append_none : {A : Type 0} (xs : List A) → xs ++ [] ≡ xs
append_none xs = append-nil xs

-- what was found has taken a token, unless it may have none
pub leaves-found : {T A : Type 0} (may : Bool) (ts us : List T) (x : A) (o : Outcome T A) → Leaves may o ts → o ≡ (Ok x, us) → length us + need may ≤ length ts
leaves-found may ts us x o h e = subst (λ v. Leaves may v ts) e h

-- a wanted token that was found has been taken
pub leaves-token : {T K P : Type 0} (s : Terminals T K P) (limit : ℕ) (k : K) (d : ℕ) (ts us : List T) (t : T) → expect s limit k d ts ≡ (Ok t, us) → length us + 1 ≤ length ts
leaves-token s limit k d ts us t e = subst (λ o. Leaves false o ts) e (leaves-expect s limit k d ts)
