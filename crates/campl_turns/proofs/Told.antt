-- Namings as journals read them, before a step and behind it.
use Rattle.std.proofs.Common.{◌≡◌, ◌≢◌, ◌⊎◌, inl, inr, ℕ, ◌%◌, ◌/◌, true, false, List, [], ◌∷◌, Option, Some, None, IsSome, IfSome, option_map, if◌then◌else◌, eqb, eq-eqb, ne_eqb, refl, sym, ap, ap₂, subst, ◌∙◌, arith}
use Rattle.std.proofs.Math.Path.{fun_ext}
use Rattle.campl_machine.specs.Names.{End}
use Rattle.campl_value.specs.declared.message.Message.TheVariants.{Word, Pick, Ends as EndPair}
use Rattle.campl_meaning.specs.Journals as journals
use Rattle.campl_meaning.specs.Journals.{NamesBoth, NamesChildren, SaysAMessage, SaysEnd, end_named, half_of}
use Rattle.campl_code.specs.Instructions.{Code}
use Rattle.campl_cells.specs.Parts.{Life, Mail, Parts, Proc, Tip, far, near, put, written}
use Rattle.campl_cells.specs.Wants.{Drawn, Start}
use Rattle.campl_cells.specs.Steps.{IsChildOf, child_number, first_of, goes_on, newborn, peopled, second_of}
use Rattle.campl_cells.specs.Stands.{Grows, IsEnd, IsFresh, MailWithin, Naming, named_channels, named_child, named_mail}
use Rattle.campl_cells.specs.Local.{IsEndOf}
use Rattle.campl_cells.proofs.Alike.{FewChannels}
use Rattle.campl_cells.proofs.Fresh.{IsDrawn, far-far, far-near, near-far, near-near}
use Rattle.campl_cells.proofs.Puts.{is-there, put-both, same}
use Rattle.campl_turns.specs.Turns.{told_channel, told_mail, told_naming}

not-none : {A : Type 0} (o : Option A) → o ≡ None → IsSome o → ⊥
not-none {A} o e h = let a : IsSome {T = A} None = subst IsSome e h in cc a

-- Ends and messages

pub told-first : (c : End × End) (o r : Option Tip) → IsSome o → told_channel c o r ≡ Some c
told-first c None r h = absurd (cc h)
told-first c (Some t) r h = refl

told-second : (c : End × End) (o r : Option Tip) → IsSome r → told_channel c o r ≡ Some c
told-second c None None h = absurd (cc h)
told-second c None (Some t) h = refl
told-second c (Some t) r h = refl

module _ (n : Naming) (m : Parts) where
  abbrev told : journals.Naming
  told = told_naming n m

  end-told : (k : ℕ) → IsSome (m.tip k) → end_named told k ≡ Some (n.end k)
  end-told k h = elim (same k (near (k / 2))) [
    | inl e ↦
        let even : eqb (k % 2) 0 ≡ true = eq-eqb (k % 2) 0 (omega (arith, e)) in
        ap₂ half_of even (told-first (n.end (near (k / 2)), n.end (far (k / 2))) (m.tip (near (k / 2))) (m.tip (far (k / 2))) (subst (λ k. IsSome (m.tip k)) e h)) ∙ ap (λ k. Some (n.end k)) (sym e)
    | inr e ↦
        let is : k ≡ far (k / 2) = omega (arith, e) in
        let odd : eqb (k % 2) 0 ≡ false = ne_eqb (k % 2) 0 (λ z. let f : ⊥ = omega (arith, e, z) in f) in
        ap₂ half_of odd (told-second (n.end (near (k / 2)), n.end (far (k / 2))) (m.tip (near (k / 2))) (m.tip (far (k / 2))) (subst (λ k. IsSome (m.tip k)) is h)) ∙ ap (λ k. Some (n.end k)) (sym is)
  ]

  pub says-end : (o : Option ℕ) → IfSome o (IsEnd m.tip) → SaysEnd told o (option_map n.end o)
  says-end None h = tt
  says-end (Some k) h = end-told k h

  pub says-message : (o : Option Mail) → IfSome o (MailWithin (IsEnd m.tip)) → SaysAMessage told (option_map told_mail o) (option_map (named_mail n.end) o)
  says-message None h = tt
  says-message (Some (Word v)) h = refl
  says-message (Some (Pick k)) h = refl
  says-message (Some (EndPair e f)) h = (end-told e h.0, end-told f h.1)

-- Channels

told-same : (a b : End × End) (o r o2 r2 : Option Tip) → (IsSome o → IsSome o2) → (IsSome o2 → IsSome o) → (IsSome r → IsSome r2) → (IsSome r2 → IsSome r) → (IsSome o ⊎ IsSome r → b ≡ a) →
    told_channel b o2 r2 ≡ told_channel a o r
told-same a b None None None None f g h i e = refl
told-same a b None None None (Some t) f g h i e = absurd (cc (i refl))
told-same a b None None (Some t) r2 f g h i e = absurd (cc (g refl))
told-same a b None (Some t) o2 r2 f g h i e = told-second b o2 r2 (h refl) ∙ ap Some (e (inr refl))
told-same a b (Some t) r o2 r2 f g h i e = told-first b o2 r2 (f refl) ∙ ap Some (e (inl refl))

-- which ends are in use behind a step that bears these channels
pub record Borne (m m2 : Parts) (d : Drawn) (cs : List ℕ) : Type 0 where
  pub few : FewChannels d cs
  pub keeps : (k : ℕ) → IsSome (m.tip k) → IsSome (m2.tip k)
  pub was : (k : ℕ) → IsSome (m2.tip k) → IsSome (m.tip k) ⊎ IsEndOf cs k
  pub there : (k : ℕ) → IsEndOf cs k → IsSome (m2.tip k)

-- names that stay: those of all numbers in use, and of all ends that aren't drawn
pub record Stays (n n2 : Naming) (m : Parts) (d : Drawn) : Type 0 where
  pub grows : Grows n n2 m
  pub others : (k : ℕ) → (IsDrawn d k → ⊥) → n2.end k ≡ n.end k

half-same : (a b : ℕ) → near a ≡ near b → a ≡ b
half-same a b e = omega (arith, e)

far-same : (a b : ℕ) → far a ≡ far b → a ≡ b
far-same a b e = omega (arith, e)

drawn-near : (d : Drawn) (j : ℕ) → IsDrawn d (near j) → (d.channel ≡ j) ⊎ (d.channel2 ≡ j)
drawn-near d j (inl e) = inl (half-same d.channel j e)
drawn-near d j (inr (inl e)) = absurd (far-near d.channel j e)
drawn-near d j (inr (inr (inl e))) = inr (half-same d.channel2 j e)
drawn-near d j (inr (inr (inr e))) = absurd (far-near d.channel2 j e)

drawn-far : (d : Drawn) (j : ℕ) → IsDrawn d (far j) → (d.channel ≡ j) ⊎ (d.channel2 ≡ j)
drawn-far d j (inl e) = absurd (near-far d.channel j e)
drawn-far d j (inr (inl e)) = inl (far-same d.channel j e)
drawn-far d j (inr (inr (inl e))) = absurd (near-far d.channel2 j e)
drawn-far d j (inr (inr (inr e))) = inr (far-same d.channel2 j e)

module _ (n n2 : Naming) (m m2 : Parts) (d : Drawn) (fresh : IsFresh d m) (stays : Stays n n2 m d) where
  -- the children are named, and not yet the channels
  abbrev pub between : journals.Naming
  between = record { who = (told_naming n2 m2).who; channel = (told_naming n m).channel }

  free-near : (j : ℕ) → (d.channel ≡ j) ⊎ (d.channel2 ≡ j) → m.tip (near j) ≡ None
  free-near j (inl e) = ap (λ j. m.tip (near j)) (sym e) ∙ fresh.near_end
  free-near j (inr e) = ap (λ j. m.tip (near j)) (sym e) ∙ fresh.near_end2

  free-far : (j : ℕ) → (d.channel ≡ j) ⊎ (d.channel2 ≡ j) → m.tip (far j) ≡ None
  free-far j (inl e) = ap (λ j. m.tip (far j)) (sym e) ∙ fresh.far_end
  free-far j (inr e) = ap (λ j. m.tip (far j)) (sym e) ∙ fresh.far_end2

  not-used : (j : ℕ) → (d.channel ≡ j) ⊎ (d.channel2 ≡ j) → IsSome (m.tip (near j)) ⊎ IsSome (m.tip (far j)) → ⊥
  not-used j e (inl h) = not-none (m.tip (near j)) (free-near j e) h
  not-used j e (inr h) = not-none (m.tip (far j)) (free-far j e) h

  free-told : (j : ℕ) → (d.channel ≡ j) ⊎ (d.channel2 ≡ j) → (told_naming n m).channel j ≡ None
  free-told j e = ap₂ (told_channel (n.end (near j), n.end (far j))) (free-near j e) (free-far j e)

  module _ (cs : List ℕ) (b : Borne m m2 d cs) where
    old-end : (k : ℕ) → (IsEndOf cs k → ⊥) → IsSome (m2.tip k) → IsSome (m.tip k)
    old-end k other h = elim (b.was k h) [ inl old ↦ old | inr new ↦ absurd (other new) ]

    channel-else : (j : ℕ) → (IsEndOf cs (near j) → ⊥) → (IsEndOf cs (far j) → ⊥) → (told_naming n2 m2).channel j ≡ (told_naming n m).channel j
    channel-else j x y = told-same (n.end (near j), n.end (far j)) (n2.end (near j), n2.end (far j)) (m.tip (near j)) (m.tip (far j)) (m2.tip (near j)) (m2.tip (far j))
        (b.keeps (near j)) (old-end (near j) x) (b.keeps (far j)) (old-end (far j) y)
        (λ h. ap₂ (λ x y. (x, y)) (stays.others (near j) (λ i. not-used j (drawn-near d j i) h)) (stays.others (far j) (λ i. not-used j (drawn-far d j i) h)))

    channel-born : (j : ℕ) → IsEndOf cs (near j) → (told_naming n2 m2).channel j ≡ Some (n2.end (near j), n2.end (far j))
    channel-born j e = told-first (n2.end (near j), n2.end (far j)) (m2.tip (near j)) (m2.tip (far j)) (b.there (near j) e)

  not-end-of-one : (a j : ℕ) → a ≢ j → (IsEndOf (a ∷ []) (near j) → ⊥) × (IsEndOf (a ∷ []) (far j) → ⊥)
  not-end-of-one a j x = (
    λ h. elim h [ inl e ↦ near-near a j x e | inr h ↦ elim h [ inl e ↦ far-near a j e | inr h ↦ absurd h ] ],
    λ h. elim h [ inl e ↦ near-far a j e | inr h ↦ elim h [ inl e ↦ far-far a j x e | inr h ↦ absurd h ] ],
  )

  not-end-of-two : (a b j : ℕ) → a ≢ j → b ≢ j → (IsEndOf (a ∷ b ∷ []) (near j) → ⊥) × (IsEndOf (a ∷ b ∷ []) (far j) → ⊥)
  not-end-of-two a b j x y =
      let one = not-end-of-one b j y in (
        λ h. elim h [ inl e ↦ near-near a j x e | inr h ↦ elim h [ inl e ↦ far-near a j e | inr h ↦ one.0 h ] ],
        λ h. elim h [ inl e ↦ near-far a j e | inr h ↦ elim h [ inl e ↦ far-far a j x e | inr h ↦ one.1 h ] ],
      )

  -- the channels of a step are named one after the other
  pub says-channels : (cs : List ℕ) → Borne m m2 d cs → NamesBoth between (first_of cs) (second_of cs) (named_channels n2 (first_of cs) (second_of cs)) (told_naming n2 m2)
  says-channels [] b = let e = fun_ext (λ j. channel-else [] b j (λ h. h) (λ h. h)) in λ i. record { who = (told_naming n2 m2).who; channel = e i }
  says-channels (a ∷ []) b = (
    free-told a (inl (sym b.few)),
    (let e = fun_ext each in λ i. record { who = (told_naming n2 m2).who; channel = e i }),
  )
    where
      each : (j : ℕ) → (told_naming n2 m2).channel j ≡ (if eqb a j then Some (n2.end (near a), n2.end (far a)) else (told_naming n m).channel j)
      each j = elim (same a j) [
        | inl e ↦ rw (eq-eqb a j e) (subst (λ j. (told_naming n2 m2).channel j ≡ Some (n2.end (near a), n2.end (far a))) e (channel-born (a ∷ []) b a (inl refl)))
        | inr x ↦ rw (ne_eqb a j x) (let x = not-end-of-one a j x in channel-else (a ∷ []) b j x.0 x.1)
      ]
  says-channels (a ∷ a2 ∷ []) b = (
    free-told a (inl (sym b.few.0)),
    (
      rw (ne_eqb a a2 two) (free-told a2 (inr (sym b.few.1))),
      (let e = fun_ext each in λ i. record { who = (told_naming n2 m2).who; channel = e i }),
    ),
  )
    where
      two : a ≢ a2
      two e = fresh.two_channels (sym b.few.0 ∙ (e ∙ b.few.1))

      each : (j : ℕ) → (told_naming n2 m2).channel j
          ≡ (if eqb a2 j then Some (n2.end (near a2), n2.end (far a2)) else if eqb a j then Some (n2.end (near a), n2.end (far a)) else (told_naming n m).channel j)
      each j = elim (same a2 j) [
        | inl e ↦ rw (eq-eqb a2 j e) (subst (λ j. (told_naming n2 m2).channel j ≡ Some (n2.end (near a2), n2.end (far a2))) e (channel-born (a ∷ a2 ∷ []) b a2 (inr (inr (inl refl)))))
        | inr y ↦ elim (same a j) [
          | inl e ↦ rw (ne_eqb a2 j y, eq-eqb a j e) (subst (λ j. (told_naming n2 m2).channel j ≡ Some (n2.end (near a), n2.end (far a))) e (channel-born (a ∷ a2 ∷ []) b a (inl refl)))
          | inr x ↦ rw (ne_eqb a2 j y, ne_eqb a j x) (let z = not-end-of-two a a2 j x y in channel-else (a ∷ a2 ∷ []) b j z.0 z.1)
        ]
      ]
  says-channels (a ∷ a2 ∷ a3 ∷ cs) b = absurd b.few

-- The child

module _ (code : Code) (n n2 : Naming) (m : Parts) (d : Drawn) (fresh : IsFresh d m) (grows : Grows n n2 m) (p : ℕ) (q : Proc) (there : m.process p ≡ Some q) (life : Life) where
  old-who : (j : ℕ) → option_map (λ q. n2.who j) (put p (Some (goes_on q life)) m.process j) ≡ option_map (λ q. n.who j) (m.process j)
  old-who j = put-both (λ k o. option_map (λ q. n2.who k) o ≡ option_map (λ q. n.who k) (m.process k)) p (Some (goes_on q life)) m.process j
      (ap Some (grows.who p (is-there (m.process p) q there)) ∙ ap (option_map (λ q. n.who p)) (sym there))
      (λ x. each (m.process j) refl)
    where
      each : (o : Option Proc) → m.process j ≡ o → option_map (λ q. n2.who j) o ≡ option_map (λ q. n.who j) o
      each None e = refl
      each (Some r) e = ap Some (grows.who j (is-there (m.process j) r e))

  -- the child gets a number that wasn't in use
  pub says-child : (s : Option Start) (child : Option Life) → IsChildOf code s child → NamesChildren (told_naming n m) (child_number d s) (named_child n2 (child_number d s))
      (record { who = λ j. option_map (λ q. n2.who j) (written (peopled d p q life child) m.process j); channel = (told_naming n m).channel })
  says-child None None h = let e = fun_ext old-who in λ i. record { who = e i; channel = (told_naming n m).channel }
  says-child (Some s) (Some x) h = (
    ap (option_map (λ q. n.who d.child)) fresh.child,
    (let e = fun_ext each in λ i. record { who = e i; channel = (told_naming n m).channel }),
  )
    where
      each : (j : ℕ) → option_map (λ q. n2.who j) (written (peopled d p q life (Some x)) m.process j) ≡ (if eqb d.child j then Some (n2.who d.child) else (told_naming n m).who j)
      each j = put-both (λ k o. option_map (λ q. n2.who k) o ≡ (if eqb d.child k then Some (n2.who d.child) else (told_naming n m).who k)) d.child (Some (newborn p q x)) (put p (Some (goes_on q life)) m.process) j
          (rw (eq-eqb d.child d.child refl) refl)
          (λ x. rw (ne_eqb d.child j x) (old-who j))
  says-child None (Some x) h = absurd h
  says-child (Some s) None h = absurd h
