-- Lists that are taken piece by piece.
use Rattle.std.proofs.Common.{◌≡◌, ℕ, ◌+◌, ◌≤◌, List, ◌++◌, take, drop, length, refl, sym, ◌∙◌, ap, append_assoc}
use Rattle.std.specs.Prelude.{Option, None, Some, IfSome}
use Rattle.std.proofs.Math.Seq.{take-add}
use Rattle.std.proofs.lemmas.List.{take_all, length-take-le}
use Rattle.std.specs.Io.KnownBytes.{Appends}
use Rattle.campl_text.specs.Given.{IsGiven}

-- bytes that grew by a front, and then by a front of what was left, grew by the longer front
pub Appends-take : (old mid new : Option (List ℕ)) (xs : List ℕ) (i n : ℕ) → Appends old mid (take i xs) → Appends mid new (take n (drop i xs)) → Appends old new (take (i + n) xs)
Appends-take None mid new xs i n p q = tt
Appends-take (Some olds) None new xs i n p q = absurd p
Appends-take (Some olds) (Some mids) None xs i n p q = absurd q
Appends-take (Some olds) (Some mids) (Some news) xs i n p q =
    q ∙ ap (λ m. m ++ take n (drop i xs)) p ∙ append_assoc olds (take i xs) (take n (drop i xs)) ∙ ap (λ m. olds ++ m) (sym (take-add i n xs))

-- what stands at the front of a file and is as long as the file is the file
pub front_is_all : (front file : List ℕ) (n : ℕ) → front ≡ take n file → length file ≤ n → front ≡ file
front_is_all front file n e h = e ∙ take_all n file h

-- a front of a file, and then the next n bytes of it, are a front of it
pub front_more : (front more into file : List ℕ) (at n : ℕ) → front ≡ take at file → more ≡ take n into → take n into ≡ take n (drop at file) → front ++ more ≡ take (at + n) file
front_more front more into file at n e m h = ap (λ xs. xs ++ more) e ∙ ap (λ xs. take at file ++ xs) (m ∙ h) ∙ sym (take-add at n file)

-- a list that grew by the first n of the bytes grew by n
pub length_grown : (was now n : ℕ) (bytes : List ℕ) → now ≡ was + length (take n bytes) → n ≤ length bytes → now ≡ was + n
length_grown was now n bytes e h = rw (sym (length-take-le n bytes h)) e

-- the same, over a shelf that may tell its file: the read at `at` gave n bytes, and len bytes are then read
pub front_read : (was now : Option (List ℕ)) (front into news : List ℕ) (at place n len : ℕ) → now ≡ was → IfSome was (λ file. front ≡ take at file) → IfSome now (λ file. IsGiven file place n into) → news ≡ front ++ take n into → place ≡ at → len ≡ at + n → IfSome was (λ file. news ≡ take len file)
front_read None now front into news at place n len same e h grown here there = tt
front_read (Some file) None front into news at place n len same e h grown here there = cc
front_read (Some file) (Some given) front into news at place n len same e h grown here there =
    let one : given ≡ file = cc in
    let taken : take n into ≡ take n (drop at file) = rw (one, here) at h.bytes in
    grown ∙ front_more front (take n into) into file at n e refl taken ∙ ap (λ m. take m file) (sym there)
