-- What judging makes of each node of a pattern.
use Rattle.std.proofs.Common.{◌≡◌, ◌∙◌, refl, sym, ap, ℕ, suc, ◌+◌, ◌<◌, ◌≤◌, min, ℤ, Bool as Truth, true, false, leb, Option, Some, None, Result, List, [], ◌∷◌, ◌++◌, map, take, drop, length, get_or, arith}
use Rattle.std.proofs.lemmas.Bool.{leb-true, leb-false}
use Rattle.std.proofs.lemmas.List.{drop_all, take_more, map-append}
use Rattle.campl_tree.specs.declared.place.Place.{Place}
use Rattle.campl_tree.specs.declared.pattern.Pattern.{Pattern}
use Rattle.campl_tree.specs.declared.pattern.Pattern.TheVariants as pattern
use Rattle.campl_tree.specs.Plain.Pattern as p
use Rattle.campl_tree.specs.Plain.SeqType.{SeqType, SeqTypes}
use Rattle.campl_tree.specs.Plain.SeqType as s
use Rattle.campl_tree.specs.View.{view_pattern, patterns, view_seq, seq_types}
use Rattle.campl_tree.proofs.Views.{view_pattern-Wildcard, view_pattern-Variable, view_pattern-Number, view_pattern-Negative, view_pattern-Character, view_pattern-Text, view_pattern-True, view_pattern-False, view_pattern-Constructor, view_pattern-List, view_pattern-Pair, view_pattern-Cons}
use Rattle.campl_types.specs.Fits.{Vars}
use Rattle.campl_types.specs.Names.{Name, same_name}
use Rattle.campl_types.specs.SameType.{nowhere}
use Rattle.campl_types.specs.Substitution.{list_of}
use Rattle.campl_matching.specs.Parts.{named_parts}
use Rattle.campl_tree.specs.declared.place.Ident.{Ident}
use Rattle.campl_tree.specs.declared.types.SeqType as seq
use Rattle.campl_tree.specs.declared.types.SeqType.TheVariants as v
use Rattle.campl_tree.specs.Plain.Decl.{DataDecl}
use Rattle.campl_tree.proofs.Views.{view_seq-Variable}
use Rattle.campl_seqcheck.specs.declared.fault.SeqFault.{SeqFault}
use Rattle.campl_seqcheck.specs.Answered.{IsVerdict}
use Rattle.campl_seqcheck.proofs.Answered.{follows, drop-at}
use Rattle.campl_types.specs.World.{World, name_of, names_of, constructor_named, ConstructorEntry, OfData, OfProtocol, OfCoprotocol}
use Rattle.campl_seqcheck.specs.Judged.{Judged, Is, Fails, Fine, and_then}
use Rattle.campl_seqcheck.specs.Fitting.{counted, variable_fits, of_type, item_type, pair_types, fit, fit_each, fit_all, built, arguments_of, number_of}
use Rattle.campl_types.specs.Values.{parts_at}
use Rattle.campl_seqcheck.specs.Steps.{fitted, fitted_each, fitted_all, part_types}

pub number-seen : (ps : List Pattern) → number_of (patterns (map view_pattern ps)) ≡ length ps
number-seen [] = refl
number-seen (p ∷ ps) = ap suc (number-seen ps)

pub list_of-types : (ts : List SeqType) → list_of (seq_types ts) ≡ ts
list_of-types [] = refl
list_of-types (t ∷ ts) = ap (λ us. t ∷ us) (list_of-types ts)

-- the arguments at which a type stands, by its name and arguments
pub arguments-are : (at : Place) (d : DataDecl) (t : SeqType) (x : Name) (us : List SeqType) → Some (x, seq_types us) ≡ named_parts t → same_name d.name.name x ≡ true
    → arguments_of at d t ≡ Is us
arguments-are at d s.Int x us i k = absurd (cc i)
arguments-are at d s.Char x us i k = absurd (cc i)
arguments-are at d s.Bool x us i k = absurd (cc i)
arguments-are at d (s.List t) x us i k = absurd (cc i)
arguments-are at d (s.Pair t u) x us i k = absurd (cc i)
arguments-are at d (s.Named there y ts) x us i k =
    let both : ◌≡◌ {A = Name × SeqTypes} (x, seq_types us) (y, ts) = cc i in let a : x ≡ y = ap (λ p. p.0) both in let b : seq_types us ≡ ts = ap (λ p. p.1) both in
    rw (← a, ← b, k, list_of-types us) refl
arguments-are at d (s.Variable there y) x us i k = absurd (cc i)

-- parameters as types, one more
pub variables-more : (ps : List Ident) (i : ℕ) (p : Ident) (ts us : List seq.SeqType) (x : Name) → i < length ps → p ≡ get_or ps i p
    → map view_seq ts ≡ map (s.Variable nowhere) (names_of (take i ps)) → x ≡ p.name → us ≡ ts ++ v.Variable nowhere x ∷ []
    → map view_seq us ≡ map (s.Variable nowhere) (names_of (take (i + 1) ps))
variables-more ps i p ts us x l is inv so new =
    rw (new, map-append view_seq ts (v.Variable nowhere x ∷ []), inv, view_seq-Variable nowhere x, so, take_more ps i p l, ← is, map-append name_of (take i ps) (p ∷ []), map-append (s.Variable nowhere) (names_of (take i ps)) (name_of p ∷ [])) refl

-- judged in turn, in three steps
pub in-three : {A B C : Type 0} (first : Judged SeqFault A) (next : A → Judged SeqFault B) (last : B → Judged SeqFault C)
    → and_then first (λ x. and_then (next x) last) ≡ and_then (and_then first next) last
in-three (Is x) next last = refl
in-three (Fails fault) next last = refl

built-so : (at : Place) (entry : Option ConstructorEntry) (n : ℕ) (t : SeqType) (fit_parts : List SeqType → Judged SeqFault Vars)
    → built at entry n t fit_parts ≡ and_then (part_types at entry n t) fit_parts
built-so at (Some (OfData d m k)) n t fit_parts = go (counted at n (length k.parts)) (arguments_of at d t)
  where
    go : (c : Judged SeqFault Fine) (ts : Judged SeqFault (List SeqType))
        → and_then c (λ _. and_then ts (λ us. fit_parts (parts_at d us k))) ≡ and_then (and_then c (λ _. and_then ts (λ us. Is (parts_at d us k)))) fit_parts
    go (Is x) (Is us) = refl
    go (Is x) (Fails fault) = refl
    go (Fails fault) ts = refl
built-so at (Some (OfProtocol d m k)) n t fit_parts = refl
built-so at (Some (OfCoprotocol d m k)) n t fit_parts = refl
built-so at None n t fit_parts = refl

module _ (w : World) (xs : Vars) (t : SeqType) (at : Place) where
  pub fitted-Wildcard : fitted w xs (view_pattern (pattern.Wildcard at)) t ≡ Is xs
  unfolding fitted
  fitted-Wildcard = ap (λ q. fit w xs q t) (view_pattern-Wildcard at)

  pub fitted-Variable : (x : Name) → fitted w xs (view_pattern (pattern.Variable at x)) t ≡ variable_fits at x xs t
  unfolding fitted
  fitted-Variable x = ap (λ q. fit w xs q t) (view_pattern-Variable at x)

  pub fitted-Number : (n : ℤ) → fitted w xs (view_pattern (pattern.Number at n)) t ≡ of_type at s.Int t xs
  unfolding fitted
  fitted-Number n = ap (λ q. fit w xs q t) (view_pattern-Number at n)

  pub fitted-Negative : (n : ℤ) → fitted w xs (view_pattern (pattern.Negative at n)) t ≡ of_type at s.Int t xs
  unfolding fitted
  fitted-Negative n = ap (λ q. fit w xs q t) (view_pattern-Negative at n)

  pub fitted-Character : (n : ℕ) → fitted w xs (view_pattern (pattern.Character at n)) t ≡ of_type at s.Char t xs
  unfolding fitted
  fitted-Character n = ap (λ q. fit w xs q t) (view_pattern-Character at n)

  pub fitted-Text : (text : List ℕ) → fitted w xs (view_pattern (pattern.Text at text)) t ≡ of_type at (s.List s.Char) t xs
  unfolding fitted
  fitted-Text text = ap (λ q. fit w xs q t) (view_pattern-Text at text)

  pub fitted-True : fitted w xs (view_pattern (pattern.True at)) t ≡ of_type at s.Bool t xs
  unfolding fitted
  fitted-True = ap (λ q. fit w xs q t) (view_pattern-True at)

  pub fitted-False : fitted w xs (view_pattern (pattern.False at)) t ≡ of_type at s.Bool t xs
  unfolding fitted
  fitted-False = ap (λ q. fit w xs q t) (view_pattern-False at)

  pub fitted-List : (ps : List Pattern) → fitted w xs (view_pattern (pattern.List at ps)) t ≡ and_then (item_type at t) (λ u. fitted_each w xs (patterns (map view_pattern ps)) u)
  unfolding fitted fitted_each
  fitted-List ps = ap (λ q. fit w xs q t) (view_pattern-List at ps)

  pub fitted-Cons : (a b : Pattern) → fitted w xs (view_pattern (pattern.Cons at a b)) t
      ≡ and_then (item_type at t) (λ u. and_then (fitted w xs (view_pattern a) u) (λ ys. fitted w ys (view_pattern b) t))
  unfolding fitted
  fitted-Cons a b = ap (λ q. fit w xs q t) (view_pattern-Cons at a b)

  pub fitted-Pair : (a b : Pattern) → fitted w xs (view_pattern (pattern.Pair at a b)) t
      ≡ and_then (pair_types at t) (λ u. and_then (fitted w xs (view_pattern a) u.0) (λ ys. fitted w ys (view_pattern b) u.1))
  unfolding fitted
  fitted-Pair a b = ap (λ q. fit w xs q t) (view_pattern-Pair at a b)

  pub fitted-Constructor : (k : Name) (ps : List Pattern) → fitted w xs (view_pattern (pattern.Constructor at k ps)) t
      ≡ and_then (part_types at (constructor_named w k) (length ps) t) (λ ts. fitted_all w xs (patterns (map view_pattern ps)) ts)
  unfolding fitted fitted_all
  fitted-Constructor k ps =
      ap (λ q. fit w xs q t) (view_pattern-Constructor at k ps) ∙ ap (λ n. built at (constructor_named w k) n t (fit_all w xs (patterns (map view_pattern ps)))) (number-seen ps)
      ∙ built-so at (constructor_named w k) (length ps) t (fit_all w xs (patterns (map view_pattern ps)))

-- a pattern of one type alone
pub typed-so : (w : World) (xs : Vars) (t : SeqType) (own : seq.SeqType) (kind : SeqType) (at : Place) (q : Pattern) (r : Result (Unit {0}) SeqFault)
    → fitted w xs (view_pattern q) t ≡ of_type at kind t xs → view_seq own ≡ kind → ((ys : Vars) → IsVerdict (λ _. ys) (of_type at (view_seq own) t ys) r)
    → IsVerdict (λ _. xs) (fitted w xs (view_pattern q) t) r
typed-so w xs t own kind at q r i k a = follows (λ _. xs) _ _ r (i ∙ ap (λ u. of_type at u t xs) (sym k)) (a xs)

-- Patterns in order

pub each-at : (w : World) (xs : Vars) (t : SeqType) (ps : List Pattern) (i : ℕ) (p : Pattern) → i < length ps → p ≡ get_or ps i p
    → fitted_each w xs (patterns (map view_pattern (drop i ps))) t ≡ and_then (fitted w xs (view_pattern p) t) (λ ys. fitted_each w ys (patterns (map view_pattern (drop (i + 1) ps))) t)
unfolding fitted fitted_each
each-at w xs t ps i p l is = ap (λ qs. fit_each w xs (patterns (map view_pattern qs)) t) (drop-at ps i p l is)

pub each-end : (w : World) (xs : Vars) (t : SeqType) (ps : List Pattern) (i : ℕ) → length ps ≤ i → fitted_each w xs (patterns (map view_pattern (drop i ps))) t ≡ Is xs
unfolding fitted_each
each-end w xs t ps i l = ap (λ qs. fit_each w xs (patterns (map view_pattern qs)) t) (drop_all i ps l)

pub all-at : (w : World) (xs : Vars) (ts : List seq.SeqType) (ps : List Pattern) (i : ℕ) (p : Pattern) (t : seq.SeqType)
    → i < min (length ps) (length ts) → p ≡ get_or ps i p → t ≡ get_or ts i t
    → fitted_all w xs (patterns (map view_pattern (drop i ps))) (map view_seq (drop i ts))
    ≡ and_then (fitted w xs (view_pattern p) (view_seq t)) (λ ys. fitted_all w ys (patterns (map view_pattern (drop (i + 1) ps))) (map view_seq (drop (i + 1) ts)))
unfolding fitted fitted_all
all-at w xs ts ps i p t l is so =
    ap (λ qs. fit_all w xs (patterns (map view_pattern qs)) (map view_seq (drop i ts))) (drop-at ps i p (omega (arith, l)) is)
    ∙ ap (λ us. fit_all w xs (patterns (map view_pattern (p ∷ drop (i + 1) ps))) (map view_seq us)) (drop-at ts i t (omega (arith, l)) so)

no-types : (w : World) (xs : Vars) (ps : p.Patterns) → fit_all w xs ps [] ≡ Is xs
no-types w xs p.no_patterns = refl
no-types w xs (p.pattern_then q qs) = refl

pub all-end : (w : World) (xs : Vars) (ts : List seq.SeqType) (ps : List Pattern) (i : ℕ) → min (length ps) (length ts) ≤ i
    → fitted_all w xs (patterns (map view_pattern (drop i ps))) (map view_seq (drop i ts)) ≡ Is xs
unfolding fitted_all
all-end w xs ts ps i l = go (leb (length ps) i) refl
  where
    go : (b : Truth) → leb (length ps) i ≡ b → fit_all w xs (patterns (map view_pattern (drop i ps))) (map view_seq (drop i ts)) ≡ Is xs
    go true e = ap (λ qs. fit_all w xs (patterns (map view_pattern qs)) (map view_seq (drop i ts))) (drop_all i ps (leb-true (length ps) i e))
    go false e =
        let more : i < length ps = leb-false (length ps) i e in let less : length ts ≤ i = omega (arith, l, more) in
        ap (λ us. fit_all w xs (patterns (map view_pattern (drop i ps))) (map view_seq us)) (drop_all i ts less) ∙ no-types w xs (patterns (map view_pattern (drop i ps)))

pub ruleset fitting = (fitted-Wildcard, fitted-Variable, fitted-Number, fitted-Negative, fitted-Character, fitted-Text, fitted-True, fitted-False, fitted-List, fitted-Cons, fitted-Pair, fitted-Constructor)
