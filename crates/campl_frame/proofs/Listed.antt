-- Lists of ends: what stands in them, some kept, and one more.
use Rattle.std.proofs.Common.{◌≡◌, ◌≢◌, ◌⊎◌, ◌∙◌, inl, inr, refl, sym, ap, subst, Bool, true, false, ◌||◌, not, true≢false, IsTrue, List, [], ◌∷◌, Option, Some, None, if◌then◌else◌}
use Rattle.campl_machine.specs.Names.{End, same_end}
use Rattle.campl_machine.proofs.Same.{same_end-is, same_end-refl}
use Rattle.campl_machine.proofs.Updates.{split}
use Rattle.campl_types.specs.Names.{Name, same_name, is_among, are_distinct, found}
use Rattle.campl_types.proofs.Names.{same-is, same-itself}
use Rattle.campl_peel.specs.Terms.{those}
use Rattle.campl_meaning.specs.States.{Ends}
use Rattle.campl_meaning.specs.Bodies.{without_end}
use Rattle.campl_meaning.specs.Apart.{end_names}
use Rattle.campl_meaning.proofs.Holding.{found-named}
use Rattle.campl_peel.proofs.Terms.{found-those}
use Rattle.campl_types.proofs.Truth.{or-first, or-second, or-split, not-true, as-false}
use Rattle.campl_peel.proofs.Standing.{and-both}

-- whether an end stands in a list
abbrev pub lists : End → Ends → Bool
lists e [] = false
lists e (x ∷ xs) = same_end e x.1 || lists e xs

pub some-is : {A : Type 0} (x y : A) → ◌≡◌ {A = Option A} (Some x) (Some y) → x ≡ y
some-is x y e = cc e

-- what is found stands there
pub lists-found : (e : End) (es : Ends) (x : Name) → found x es ≡ Some e → lists e es ≡ true
lists-found e [] x i = absurd (cc i)
lists-found e (y ∷ es) x i = elim (split (same_name x y.0)) [
  | inl s ↦
      let j : Some y.1 ≡ Some e = rw s at i in
      or-first (same_end e y.1) (lists e es) (subst (λ z. same_end e z ≡ true) (sym (some-is y.1 e j)) (same_end-refl e))
  | inr s ↦ let j : found x es ≡ Some e = rw s at i in or-second (same_end e y.1) (lists e es) (lists-found e es x j)
]

-- and what stands there is found, where names differ
pub found-listed : (e : End) (es : Ends) → IsTrue (are_distinct (end_names es)) → lists e es ≡ true → (x : Name) × (found x es ≡ Some e)
found-listed e [] d i = absurd (true≢false (sym i))
found-listed e (y ∷ es) d i = elim (split (same_end e y.1)) [
  | inl s ↦ (y.0, rw (same-itself y.0) (ap Some (sym (same_end-is e y.1 s))))
  | inr s ↦
      let b : (not (is_among y.0 (end_names es)) ≡ true) × (are_distinct (end_names es) ≡ true) = and-both (not (is_among y.0 (end_names es))) (are_distinct (end_names es)) d in
      let j : lists e es ≡ true = rw s at i in
      let (x, f) = found-listed e es b.1 j in
      (x, later x f b.0)
]
  where
    later : (x : Name) → found x es ≡ Some e → not (is_among y.0 (end_names es)) ≡ true → found x (y ∷ es) ≡ Some e
    later x f n = elim (split (same_name x y.0)) [
      | inl s ↦
          let a : is_among y.0 (end_names es) ≡ true = subst (λ z. is_among z (end_names es) ≡ true) (same-is x y.0 s) (found-named x es e f) in
          absurd (true≢false (sym a ∙ not-true (is_among y.0 (end_names es)) n))
      | inr s ↦ rw s f
    ]

-- names differ, and so do ends
pub record IsTidy (es : Ends) : Type 0 where
  pub names : IsTrue (are_distinct (end_names es))
  pub once : (x y : Name) (e : End) → found x es ≡ Some e → found y es ≡ Some e → x ≡ y

pub found-kept : (keep : Name → Bool) (es : Ends) (y : Name) (e : End) → found y (those keep es) ≡ Some e → (keep y ≡ true) × (found y es ≡ Some e)
found-kept keep es y e i = elim (split (keep y)) [
  | inl k ↦ (k, let j : (if keep y then found y es else None) ≡ Some e = sym (found-those keep es y) ∙ i in rw k at j)
  | inr k ↦ absurd (let j : (if keep y then found y es else None) ≡ Some e = sym (found-those keep es y) ∙ i in let no : None ≡ Some e = rw k at j in cc no)
]

pub found-still : (keep : Name → Bool) (es : Ends) (y : Name) (e : End) → keep y ≡ true → found y es ≡ Some e → found y (those keep es) ≡ Some e
found-still keep es y e k i = found-those keep es y ∙ rw k i

pub not-kept : (keep : Name → Bool) (es : Ends) (y : Name) → found y es ≡ None → found y (those keep es) ≡ None
not-kept keep es y i = found-those keep es y ∙ elim (split (keep y)) [ inl k ↦ rw k i | inr k ↦ rw k refl ]

among-kept : (keep : Name → Bool) (es : Ends) (x : Name) → is_among x (end_names (those keep es)) ≡ true → is_among x (end_names es) ≡ true
among-kept keep [] x i = i
among-kept keep (e ∷ es) x i = elim (split (keep e.0)) [
  | inl k ↦
      let j : (same_name x e.0 || is_among x (end_names (those keep es))) ≡ true = rw k at i in
      elim (or-split (same_name x e.0) (is_among x (end_names (those keep es))) j) [
        | inl s ↦ or-first (same_name x e.0) (is_among x (end_names es)) s
        | inr s ↦ or-second (same_name x e.0) (is_among x (end_names es)) (among-kept keep es x s)
      ]
  | inr k ↦ let j : is_among x (end_names (those keep es)) ≡ true = rw k at i in or-second (same_name x e.0) (is_among x (end_names es)) (among-kept keep es x j)
]

distinct-more : (x : Name) (xs : List Name) → is_among x xs ≡ false → are_distinct xs ≡ true → are_distinct (x ∷ xs) ≡ true
distinct-more x xs i j = rw (i, j) refl

distinct-those : (keep : Name → Bool) (es : Ends) → are_distinct (end_names es) ≡ true → are_distinct (end_names (those keep es)) ≡ true
distinct-those keep [] d = d
distinct-those keep (e ∷ es) d =
    let b : (not (is_among e.0 (end_names es)) ≡ true) × (are_distinct (end_names es) ≡ true) = and-both (not (is_among e.0 (end_names es))) (are_distinct (end_names es)) d in
    elim (split (keep e.0)) [
      | inl k ↦
          rw k (distinct-more e.0 (end_names (those keep es))
          (as-false (is_among e.0 (end_names (those keep es))) (λ t. true≢false (sym (among-kept keep es e.0 t) ∙ not-true (is_among e.0 (end_names es)) b.0)))
          (distinct-those keep es b.1))
      | inr k ↦ rw k (distinct-those keep es b.1)
    ]

-- a name that isn't found isn't there
not-there : (x : Name) (es : Ends) → found x es ≡ None → is_among x (end_names es) ≡ false
not-there x [] i = refl
not-there x (e ∷ es) i = elim (split (same_name x e.0)) [
  | inl s ↦ absurd (let no : Some e.1 ≡ None = rw s at i in cc no)
  | inr s ↦ let j : found x es ≡ None = rw s at i in rw s (not-there x es j)
]

pub found-more : (x : Name) (k : End) (es : Ends) (y : Name) (e : End) → found y ((x, k) ∷ es) ≡ Some e → ((y ≡ x) × (e ≡ k)) ⊎ (found y es ≡ Some e)
found-more x k es y e i = elim (split (same_name y x)) [
  | inl s ↦ let j : Some k ≡ Some e = rw s at i in inl (same-is y x s, sym (some-is k e j))
  | inr s ↦ inr (rw s at i)
]

pub found-first : (x : Name) (k : End) (es : Ends) → found x ((x, k) ∷ es) ≡ Some k
found-first x k es = rw (same-itself x) refl

pub lists-first : (x : Name) (k : End) (es : Ends) → lists k ((x, k) ∷ es) ≡ true
lists-first x k es = lists-found k ((x, k) ∷ es) x (found-first x k es)

pub lists-more : (x : Name) (k : End) (es : Ends) (e : End) → lists e ((x, k) ∷ es) ≡ true → (e ≡ k) ⊎ (lists e es ≡ true)
lists-more x k es e i = elim (or-split (same_end e k) (lists e es) i) [ inl s ↦ inl (same_end-is e k s) | inr s ↦ inr s ]

pub lists-later : (x : Name) (k : End) (es : Ends) (e : End) → lists e es ≡ true → lists e ((x, k) ∷ es) ≡ true
lists-later x k es e i = or-second (same_end e k) (lists e es) i

pub tidy-those : (keep : Name → Bool) (es : Ends) → IsTidy es → IsTidy (those keep es)
tidy-those keep es t = record {
  names = distinct-those keep es t.names;
  once = λ x y e i j. t.once x y e (found-kept keep es x e i).1 (found-kept keep es y e j).1;
}

pub tidy-more : (x : Name) (k : End) (es : Ends) → IsTidy es → found x es ≡ None → ((y : Name) → found y es ≢ Some k) → IsTidy ((x, k) ∷ es)
tidy-more x k es t n f = record {
  names = distinct-more x (end_names es) (not-there x es n) t.names;
  once = λ y z e i j. elim (found-more x k es y e i) [
    | inl (a, b) ↦ elim (found-more x k es z e j) [
      | inl (u, v) ↦ a ∙ sym u
      | inr v ↦ absurd (f z (v ∙ ap Some b))
    ]
    | inr a ↦ elim (found-more x k es z e j) [
      | inl (u, v) ↦ absurd (f y (a ∙ ap Some v))
      | inr v ↦ t.once y z e a v
    ]
  ];
}

-- without one name
pub without-those : (x : Name) (es : Ends) → without_end x es ≡ those (λ y. not (same_name x y)) es
without-those x [] = refl
without-those x (e ∷ es) = elim (split (same_name x e.0)) [
  | inl s ↦ rw s (without-those x es)
  | inr s ↦ rw s (ap (λ (z : Ends). e ∷ z) (without-those x es))
]

pub distinct-without : (x : Name) (es : Ends) → IsTrue (are_distinct (end_names es)) → IsTrue (are_distinct (end_names (without_end x es)))
distinct-without x es d = subst (λ z. IsTrue (are_distinct (end_names z))) (sym (without-those x es)) (distinct-those (λ y. not (same_name x y)) es d)

pub tidy-without : (x : Name) (es : Ends) → IsTidy es → IsTidy (without_end x es)
tidy-without x es t = subst IsTidy (sym (without-those x es)) (tidy-those (λ y. not (same_name x y)) es t)

pub found-without : (x : Name) (es : Ends) (y : Name) (e : End) → found y (without_end x es) ≡ Some e → (same_name x y ≡ false) × (found y es ≡ Some e)
found-without x es y e i =
    let k : (not (same_name x y) ≡ true) × (found y es ≡ Some e) = found-kept (λ y. not (same_name x y)) es y e (subst (λ z. found y z ≡ Some e) (without-those x es) i) in
    (not-true (same_name x y) k.0, k.1)

pub still-without : (x : Name) (es : Ends) (y : Name) (e : End) → same_name x y ≡ false → found y es ≡ Some e → found y (without_end x es) ≡ Some e
still-without x es y e n i = subst (λ z. found y z ≡ Some e) (sym (without-those x es)) (found-still (λ y. not (same_name x y)) es y e (rw n refl) i)
