-- A step changes its process, the ends in hand and what is born.
use Rattle.std.proofs.Common.{◌≡◌, ◌≢◌, ◌⊎◌, inl, inr, ℕ, Bool, true, false, List, [], ◌∷◌, ◌++◌, Option, Some, None, option_map, eqb, refl, sym, ap, subst, ◌∙◌, if◌then◌else◌, ap₂}
use Rattle.campl_machine.specs.Machine.{Lies}
use Rattle.campl_meaning.specs.States.{Kind}
use Rattle.campl_code.specs.Instructions.{Code}
use Rattle.campl_cells.specs.Parts.{Mail, Life, Proc, Tip, Parts, or_bare, or_else}
use Rattle.campl_cells.specs.Wants as w
use Rattle.campl_cells.specs.Wants.{Drawn, Next, Want, wanted}
use Rattle.campl_cells.specs.Steps.{Change, borne, sent, moved, looked, looks_in, links_at, linked, peopled, by_want, change_of, after}
use Rattle.campl_cells.specs.Local.{IsOnTheWay, InHand, IsEndOf, IsNewEnd, ElseStays, Watches}
use Rattle.campl_cells.proofs.Puts.{written-else}

lies-append : {A : Type 0} (es fs : List (ℕ × A)) (k : ℕ) → Lies (es ++ fs) k → Lies es k ⊎ Lies fs k
lies-append [] fs k l = inr l
lies-append (e ∷ es) fs k (inl q) = inl (inl q)
lies-append (e ∷ es) fs k (inr l) = elim (lies-append es fs k l) [ inl a ↦ inl (inr a) | inr b ↦ inr b ]

pub lies-borne : (cs : List ℕ) (k : ℕ) → Lies (borne cs) k → IsEndOf cs k
lies-borne [] k l = l
lies-borne (c ∷ cs) k l = elim (lies-append (borne cs) _ k l) [
  | inl a ↦ inr (inr (lies-borne cs k a))
  | inr b ↦ elim b [ inl q ↦ inr (inl q) | inr b ↦ elim b [ inl q ↦ inl q | inr x ↦ absurd x ] ]
]

lies-sent : (tip : ℕ → Option Tip) (o : Option (ℕ × Mail)) (k : ℕ) → Lies (sent o tip) k → IsOnTheWay tip o k
lies-sent tip None k l = l
lies-sent tip (Some s) k (inl q) = inr q
lies-sent tip (Some s) k (inr l) = absurd l

-- what is written lies in hand or is born
module _ (tip : ℕ → Option Tip) (d : Drawn) (p : ℕ) (k : ℕ) where
  looked-lies : (takes : Bool) (e : ℕ) (t : Tip) → Lies (if takes then (e, t) ∷ [] else []) k → e ≡ k
  looked-lies true e t (inl q) = q
  looked-lies true e t (inr l) = absurd l
  looked-lies false e t l = absurd l

  look-lies : (kind : Kind) (takes : Bool) (e : ℕ) (peer : ℕ) (mail : Mail) (rest : List Mail) (o : Option Next) (change : Change) →
      option_map (looked p kind takes e (Some peer) mail rest) o ≡ Some change → Lies change.ends k → e ≡ k
  look-lies kind takes e peer mail rest None change q l = absurd (cc q)
  look-lies kind takes e peer mail rest (Some next) change q l =
      let s : looked p kind takes e (Some peer) mail rest next ≡ change = cc q in
      looked-lies takes e (record { peer = Some peer; inbox = rest }) (subst (λ (x : Change). Lies x.ends k) (sym s) l)

  looks-lies : (kind : Kind) (takes : Bool) (e : ℕ) (f : Mail → Option Next) (o : Option ℕ) (inbox : List Mail) (change : Change) → looks_in p kind takes e f o inbox ≡ Some change → Lies change.ends k → e ≡ k
  looks-lies kind takes e f None inbox change q l = absurd (cc q)
  looks-lies kind takes e f (Some peer) [] change q l = absurd (cc q)
  looks-lies kind takes e f (Some peer) (mail ∷ rest) change q l = look-lies kind takes e peer mail rest (f mail) change q l

  linked-lies : (x y x2 y2 : ℕ) (a b : Bool) (change : Change) → (if a then None else if b then None else Some (linked tip p x y x2 y2)) ≡ Some change → Lies change.ends k → (y2 ≡ k) ⊎ (x2 ≡ k) ⊎ (y ≡ k) ⊎ (x ≡ k)
  linked-lies x y x2 y2 true b change q l = absurd (cc q)
  linked-lies x y x2 y2 false true change q l = absurd (cc q)
  linked-lies x y x2 y2 false false change q l =
      let s : linked tip p x y x2 y2 ≡ change = cc q in
      elim (subst (λ (x : Change). Lies x.ends k) (sym s) l) [
        | inl e ↦ inl e
        | inr l ↦ elim l [ inl e ↦ inr (inl e) | inr l ↦ elim l [ inl e ↦ inr (inr (inl e)) | inr l ↦ elim l [ inl e ↦ inr (inr (inr e)) | inr l ↦ absurd l ] ] ]
      ]

  links-lies : (x y : ℕ) (o r : Option ℕ) (change : Change) → (or_bare (tip x)).peer ≡ o → (or_bare (tip y)).peer ≡ r → links_at tip p x y o r ≡ Some change → Lies change.ends k → InHand tip (w.Links x y) k
  links-lies x y None r change px py q l = absurd (cc q)
  links-lies x y (Some x2) None change px py q l = absurd (cc q)
  links-lies x y (Some x2) (Some y2) change px py q l = elim (linked-lies x y x2 y2 (eqb x y) (eqb x2 y) change q l) [
    | inl e ↦ inr (inr (inr (ap (λ o. or_else o y) py ∙ e)))
    | inr l ↦ elim l [
      | inl e ↦ inr (inr (inl (ap (λ o. or_else o x) px ∙ e)))
      | inr l ↦ elim l [ inl e ↦ inr (inl e) | inr e ↦ inl e ]
    ]
  ]

  pub change-lies : (o : Want) (change : Change) → by_want tip d p o ≡ Some change → Lies change.ends k → InHand tip o k ⊎ IsNewEnd o k
  change-lies w.Rests change q l = absurd (cc q)
  change-lies (w.Moves kind end v) change q l =
      let s : moved tip d p kind end v ≡ change = cc q in
      elim (lies-append (sent v.send tip) (borne v.channels) k (subst (λ (x : Change). Lies x.ends k) (sym s) l)) [
        | inl a ↦ inl (lies-sent tip v.send k a)
        | inr b ↦ inr (lies-borne v.channels k b)
      ]
  change-lies (w.Looks kind takes e f) change q l = inl (looks-lies kind takes e f (or_bare (tip e)).peer (or_bare (tip e)).inbox change q l)
  change-lies (w.Links x y) change q l = inl (links-lies x y (or_bare (tip x)).peer (or_bare (tip y)).peer change refl refl q l)

people-lies : (d : Drawn) (p : ℕ) (q : Proc) (life : Life) (child : Option Life) (k : ℕ) → p ≢ k → d.child ≢ k → Lies (peopled d p q life child) k → ⊥
people-lies d p q life None k a b (inl e) = a e
people-lies d p q life None k a b (inr l) = l
people-lies d p q life (Some x) k a b (inl e) = b e
people-lies d p q life (Some x) k a b (inr (inl e)) = a e
people-lies d p q life (Some x) k a b (inr (inr l)) = l

pub else-stays : (code : Code) (d : Drawn) (m : Parts) (p : ℕ) (q : Proc) (i : ℕ) (change : Change) (life : Life) (child : Option Life) → change_of code d m p q i ≡ Some change →
    ElseStays code d m p q i (after d m p q change life child)
else-stays code d m p q i change life child e = record {
  process = λ k a b. written-else (peopled d p q life child) m.process k (people-lies d p q life child k a b);
  tips = λ k a b. written-else change.ends m.tip k (λ l. elim (change-lies m.tip d p k (wanted code d q.life i) change e l) [ inl x ↦ a x | inr x ↦ b x ]);
}

-- What waits

waiting : (tip tip2 : ℕ → Option Tip) (d : Drawn) (p : ℕ) (o : Want) → ((k : ℕ) → Watches o k → tip2 k ≡ tip k) → by_want tip d p o ≡ None → by_want tip2 d p o ≡ None
waiting tip tip2 d p w.Rests same e = refl
waiting tip tip2 d p (w.Moves kind end v) same e = absurd (cc e)
waiting tip tip2 d p (w.Looks kind takes x f) same e = ap (λ t. looks_in p kind takes x f (or_bare t).peer (or_bare t).inbox) (same x refl) ∙ e
waiting tip tip2 d p (w.Links x y) same e =
    ap₂ (λ s t. links_at tip2 p x y (or_bare s).peer (or_bare t).peer) (same x (inl refl)) (same y (inr refl)) ∙ go (or_bare (tip x)).peer (or_bare (tip y)).peer e
  where
    tests : (x2 y2 : ℕ) (a b : Bool) → (if a then None else if b then None else Some (linked tip p x y x2 y2)) ≡ None → (if a then None else if b then None else Some (linked tip2 p x y x2 y2)) ≡ None
    tests x2 y2 true b e = refl
    tests x2 y2 false true e = refl
    tests x2 y2 false false e = absurd (cc e)

    go : (o r : Option ℕ) → links_at tip p x y o r ≡ None → links_at tip2 p x y o r ≡ None
    go None r e = refl
    go (Some x2) None e = refl
    go (Some x2) (Some y2) e = tests x2 y2 (eqb x y) (eqb x2 y) e

pub still-waits : (code : Code) (d : Drawn) (m m2 : Parts) (p : ℕ) (q : Proc) (i : ℕ) → ((k : ℕ) → Watches (wanted code d q.life i) k → m2.tip k ≡ m.tip k) → change_of code d m p q i ≡ None → change_of code d m2 p q i ≡ None
still-waits code d m m2 p q i same e = waiting m.tip m2.tip d p (wanted code d q.life i) same e
