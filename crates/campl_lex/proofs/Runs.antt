-- Runs of characters that pass a test.
use Rattle.std.proofs.Common.{◌≡◌, ℕ, suc, ◌≤◌, Bool, true, false, cond, ◌&&◌, List, [], ◌∷◌, ◌++◌, length, take, drop, refl, sym, ap, ◌∙◌, subst}
use Rattle.std.proofs.Common.{arith, one-add}
use Rattle.std.specs.List.{prefix_len, list_all}

len_cons : (p : ℕ → Bool) (x : ℕ) (xs : List ℕ) → prefix_len p (x ∷ xs) ≡ cond (p x) (suc (prefix_len p xs)) 0
len_cons p x xs = ap (λ n. cond (p x) n 0) (one-add (prefix_len p xs))

-- the run passes the test
pub run_passes : (p : ℕ → Bool) (xs : List ℕ) → list_all p (take (prefix_len p xs) xs) ≡ true
run_passes p [] = refl
run_passes p (x ∷ xs) = ap (λ n. list_all p (take n (x ∷ xs))) (len_cons p x xs) ∙ by (p x) refl (run_passes p xs)
  where
    by : (b : Bool) → p x ≡ b → list_all p (take (prefix_len p xs) xs) ≡ true → list_all p (take (cond b (suc (prefix_len p xs)) 0) (x ∷ xs)) ≡ true
    by true e h = ap (λ b. b && list_all p (take (prefix_len p xs) xs)) e ∙ h
    by false e h = refl

-- no front that passes is longer
pub run_longest : (p : ℕ → Bool) (xs ys : List ℕ) → list_all p xs ≡ true → length xs ≤ prefix_len p (xs ++ ys)
run_longest p [] ys h = omega arith
run_longest p (x ∷ xs) ys h = subst (λ n. suc (length xs) ≤ n) (sym (len_cons p x (xs ++ ys))) (by (p x) h (run_longest p xs ys))
  where
    by : (b : Bool) → (b && list_all p xs) ≡ true → (list_all p xs ≡ true → length xs ≤ prefix_len p (xs ++ ys)) → suc (length xs) ≤ cond b (suc (prefix_len p (xs ++ ys))) 0
    by true e k = let l : length xs ≤ prefix_len p (xs ++ ys) = k e in omega arith
    by false e k = cc

-- a run before what fails, or before nothing, is no longer
pub run_before : (p : ℕ → Bool) (xs : List ℕ) (y : ℕ) (ys : List ℕ) → list_all p xs ≡ true → p y ≡ false → prefix_len p (xs ++ y ∷ ys) ≡ length xs
run_before p [] y ys h e = rw e refl
run_before p (x ∷ xs) y ys h e = len_cons p x (xs ++ y ∷ ys) ∙ by (p x) h (λ k. run_before p xs y ys k e)
  where
    by : (b : Bool) → (b && list_all p xs) ≡ true → (list_all p xs ≡ true → prefix_len p (xs ++ y ∷ ys) ≡ length xs) → cond b (suc (prefix_len p (xs ++ y ∷ ys))) 0 ≡ suc (length xs)
    by true h k = ap suc (k h)
    by false h k = cc

pub run_whole : (p : ℕ → Bool) (xs : List ℕ) → list_all p xs ≡ true → prefix_len p xs ≡ length xs
run_whole p [] h = refl
run_whole p (x ∷ xs) h = len_cons p x xs ∙ by (p x) h (run_whole p xs)
  where
    by : (b : Bool) → (b && list_all p xs) ≡ true → (list_all p xs ≡ true → prefix_len p xs ≡ length xs) → cond b (suc (prefix_len p xs)) 0 ≡ suc (length xs)
    by true h k = ap suc (k h)
    by false h k = cc

-- what stands behind a run fails
pub run_stops : (p : ℕ → Bool) (xs : List ℕ) (y : ℕ) (ys : List ℕ) → drop (prefix_len p xs) xs ≡ y ∷ ys → p y ≡ false
run_stops p [] y ys h = cc
run_stops p (x ∷ xs) y ys h = by (p x) refl (sym (ap (λ n. drop n (x ∷ xs)) (len_cons p x xs)) ∙ h) (run_stops p xs y ys)
  where
    by : (b : Bool) → p x ≡ b → drop (cond b (suc (prefix_len p xs)) 0) (x ∷ xs) ≡ y ∷ ys → (drop (prefix_len p xs) xs ≡ y ∷ ys → p y ≡ false) → p y ≡ false
    by true e h r = r h
    by false e h r = let same : x ≡ y = cc in ap p (sym same) ∙ e
