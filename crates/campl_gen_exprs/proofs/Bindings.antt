-- Variables numbered one after another.
use Rattle.std.proofs.Common.{◌≡◌, ◌∙◌, refl, sym, ap, ℕ, zero, suc, ◌+◌, ◌-◌, ◌<◌, ◌≤◌, List, [], ◌∷◌, ◌++◌, map, drop, get_or, length, length-append, arith}
use Rattle.std.proofs.lemmas.List.{drop_all}
use Rattle.campl_tree.specs.declared.place.Place.{Place}
use Rattle.campl_tree.specs.declared.pattern.Pattern.{Pattern}
use Rattle.campl_tree.specs.declared.pattern.Pattern.TheVariants as pattern
use Rattle.campl_tree.specs.View.{view_pattern, patterns}
use Rattle.campl_tree.proofs.Views.{view_pattern-Wildcard, view_pattern-Variable, view_pattern-Number, view_pattern-Negative, view_pattern-Character, view_pattern-Text, view_pattern-True, view_pattern-False, view_pattern-Constructor, view_pattern-List, view_pattern-Pair, view_pattern-Cons}
use Rattle.campl_types.specs.Names.{Name}
use Rattle.campl_types.specs.Patterns.{bound_in, bound_in_all}
use Rattle.campl_code.specs.Numbers.{Numbers, numbered}
use Rattle.campl_seqcheck.proofs.Answered.{drop-at}
use Rattle.campl_gen_exprs.specs.Emission.{Emission, bound, binding, binding_all}

numbered-more : (n : ℕ) (xs ys : List Name) (ns : Numbers) → numbered n (xs ++ ys) ns ≡ numbered (n + length xs) ys (numbered n xs ns)
numbered-more n [] ys ns = let z : n ≡ n + 0 = omega arith in ap (λ k. numbered k ys ns) z
numbered-more n (x ∷ xs) ys ns =
    let z : suc n + length xs ≡ n + suc (length xs) = omega arith in
    numbered-more (suc n) xs ys ((x, n) ∷ ns) ∙ ap (λ k. numbered k ys (numbered (suc n) xs ((x, n) ∷ ns))) z

same-bound : (s : Emission) (m n : ℕ) (ms ns : Numbers) → m ≡ n → ms ≡ ns → record s { free = m; numbers = ms } ≡ record s { free = n; numbers = ns }
same-bound s m n ms ns i j = ap (λ k. record s { free = k; numbers = ms }) i ∙ ap (λ k. record s { free = n; numbers = k }) j

pub bound-more : (xs ys : List Name) (s : Emission) → bound (xs ++ ys) s ≡ bound ys (bound xs s)
bound-more xs ys s =
    same-bound s (s.free + length (xs ++ ys)) (s.free + length xs + length ys) (numbered s.free (xs ++ ys) s.numbers) (numbered (s.free + length xs) ys (numbered s.free xs s.numbers))
    (omega (arith, length-append xs ys)) (numbered-more s.free xs ys s.numbers)

pub bound-none : (s : Emission) → bound [] s ≡ s
bound-none s = same-bound s (s.free + 0) s.free s.numbers s.numbers (omega arith) refl

pub bound-Wildcard : (at : Place) (s : Emission) → binding (view_pattern (pattern.Wildcard at)) s ≡ s
unfolding binding binding_all
bound-Wildcard at s = ap (λ q. bound (bound_in q) s) (view_pattern-Wildcard at) ∙ bound-none s

pub bound-Number : (at : Place) (n : _) (s : Emission) → binding (view_pattern (pattern.Number at n)) s ≡ s
unfolding binding binding_all
bound-Number at n s = ap (λ q. bound (bound_in q) s) (view_pattern-Number at n) ∙ bound-none s

pub bound-Negative : (at : Place) (n : _) (s : Emission) → binding (view_pattern (pattern.Negative at n)) s ≡ s
unfolding binding binding_all
bound-Negative at n s = ap (λ q. bound (bound_in q) s) (view_pattern-Negative at n) ∙ bound-none s

pub bound-Character : (at : Place) (n : _) (s : Emission) → binding (view_pattern (pattern.Character at n)) s ≡ s
unfolding binding binding_all
bound-Character at n s = ap (λ q. bound (bound_in q) s) (view_pattern-Character at n) ∙ bound-none s

pub bound-Text : (at : Place) (text : _) (s : Emission) → binding (view_pattern (pattern.Text at text)) s ≡ s
unfolding binding binding_all
bound-Text at text s = ap (λ q. bound (bound_in q) s) (view_pattern-Text at text) ∙ bound-none s

pub bound-True : (at : Place) (s : Emission) → binding (view_pattern (pattern.True at)) s ≡ s
unfolding binding binding_all
bound-True at s = ap (λ q. bound (bound_in q) s) (view_pattern-True at) ∙ bound-none s

pub bound-False : (at : Place) (s : Emission) → binding (view_pattern (pattern.False at)) s ≡ s
unfolding binding binding_all
bound-False at s = ap (λ q. bound (bound_in q) s) (view_pattern-False at) ∙ bound-none s

pub bound-Variable : (at : Place) (x : Name) (s : Emission) → binding (view_pattern (pattern.Variable at x)) s ≡ bound (x ∷ []) s
unfolding binding binding_all
bound-Variable at x s = ap (λ q. bound (bound_in q) s) (view_pattern-Variable at x)

pub bound-Constructor : (at : Place) (x : Name) (qs : List Pattern) (s : Emission) → binding (view_pattern (pattern.Constructor at x qs)) s ≡ binding_all (patterns (map view_pattern qs)) s
unfolding binding binding_all
bound-Constructor at x qs s = ap (λ q. bound (bound_in q) s) (view_pattern-Constructor at x qs)

pub bound-List : (at : Place) (qs : List Pattern) (s : Emission) → binding (view_pattern (pattern.List at qs)) s ≡ binding_all (patterns (map view_pattern qs)) s
unfolding binding binding_all
bound-List at qs s = ap (λ q. bound (bound_in q) s) (view_pattern-List at qs)

pub bound-Pair : (at : Place) (q r : Pattern) (s : Emission) → binding (view_pattern (pattern.Pair at q r)) s ≡ binding (view_pattern r) (binding (view_pattern q) s)
unfolding binding binding_all
bound-Pair at q r s = ap (λ t. bound (bound_in t) s) (view_pattern-Pair at q r) ∙ bound-more (bound_in (view_pattern q)) (bound_in (view_pattern r)) s

pub bound-Cons : (at : Place) (q r : Pattern) (s : Emission) → binding (view_pattern (pattern.Cons at q r)) s ≡ binding (view_pattern r) (binding (view_pattern q) s)
unfolding binding binding_all
bound-Cons at q r s = ap (λ t. bound (bound_in t) s) (view_pattern-Cons at q r) ∙ bound-more (bound_in (view_pattern q)) (bound_in (view_pattern r)) s

pub bound-at : (s : Emission) (qs : List Pattern) (i : ℕ) (q : Pattern) → i < length qs → q ≡ get_or qs i q
    → binding_all (patterns (map view_pattern (drop i qs))) s ≡ binding_all (patterns (map view_pattern (drop (i + 1) qs))) (binding (view_pattern q) s)
unfolding binding binding_all
bound-at s qs i q l is =
    ap (λ ys. bound (bound_in_all (patterns (map view_pattern ys))) s) (drop-at qs i q l is) ∙ bound-more (bound_in (view_pattern q)) (bound_in_all (patterns (map view_pattern (drop (i + 1) qs)))) s

pub bound-end : (s : Emission) (qs : List Pattern) (i : ℕ) → length qs ≤ i → binding_all (patterns (map view_pattern (drop i qs))) s ≡ s
unfolding binding binding_all
bound-end s qs i l = ap (λ ys. bound (bound_in_all (patterns (map view_pattern ys))) s) (drop_all i qs l) ∙ bound-none s

pub ruleset names = (bound-Wildcard, bound-Number, bound-Negative, bound-Character, bound-Text, bound-True, bound-False, bound-Variable, bound-Constructor, bound-List, bound-Pair, bound-Cons, bound-at, bound-end)

-- the older ones are as they were
numbered-length : (n : ℕ) (xs : List Name) (ns : Numbers) → length (numbered n xs ns) ≡ length xs + length ns
numbered-length n [] ns = omega arith
numbered-length n (x ∷ xs) ns = omega (arith, numbered-length (suc n) xs ((x, n) ∷ ns))

abbrev none : Numbers
none = []

drop-none : (j : ℕ) → drop j none ≡ none
drop-none zero = refl
drop-none (suc j) = refl

drop-one : (j : ℕ) (l : Numbers) → drop (suc j) l ≡ drop 1 (drop j l)
drop-one j [] = sym (ap (drop 1) (drop-none j))
drop-one zero (y ∷ l) = refl
drop-one (suc j) (y ∷ l) = drop-one j l

drop-numbered : (n : ℕ) (xs : List Name) (ns : Numbers) → drop (length xs) (numbered n xs ns) ≡ ns
drop-numbered n [] ns = refl
drop-numbered n (x ∷ xs) ns = drop-one (length xs) (numbered (suc n) xs ((x, n) ∷ ns)) ∙ ap (drop 1) (drop-numbered (suc n) xs ((x, n) ∷ ns))

pub forgotten : (n : ℕ) (xs : List Name) (ns : Numbers) → drop (length (numbered n xs ns) - length ns) (numbered n xs ns) ≡ ns
forgotten n xs ns =
    let z : length (numbered n xs ns) - length ns ≡ length xs = omega (arith, numbered-length n xs ns) in
    ap (λ k. drop k (numbered n xs ns)) z ∙ drop-numbered n xs ns
