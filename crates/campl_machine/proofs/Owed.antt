-- What sends, receipts and identities leave owed, in both orders.
use Rattle.std.proofs.Common.{◌≡◌, ◌≢◌, Bool, true, false, List, [], ◌∷◌, ◌++◌, ◌&&◌, ◌⊎◌, inl, inr, refl, sym, ap, subst, ◌∙◌, Option, Some, None, if◌then◌else◌, append_assoc, append-nil}
use Rattle.std.proofs.Math.Path.{fun_ext}
use Rattle.campl_machine.specs.Names.{End, same_end}
use Rattle.campl_machine.specs.Machine.{sent, taken, joined, rest_of}
use Rattle.campl_machine.proofs.Same.{same_end-is, same_end-refl}
use Rattle.campl_machine.proofs.Updates.{split, both}
use Rattle.campl_machine.proofs.Ends.{apart, unlike, ne, Off, Six}

-- the four places of an identity
pub Reads : (M : Type 0) → End → End → End → End → End → Type 0
Reads M x y x2 y2 e =
    (((x ≡ e) ⊎ (y ≡ e)) × ((f : End → List M) → joined x y x2 y2 f e ≡ []))
    ⊎ ((y2 ≡ e) × (x ≢ e) × (y ≢ e) × ((f : End → List M) → joined x y x2 y2 f e ≡ f x ++ f y2))
    ⊎ ((x2 ≡ e) × (x ≢ e) × (y ≢ e) × (y2 ≢ e) × ((f : End → List M) → joined x y x2 y2 f e ≡ f y ++ f x2))
    ⊎ ((x ≢ e) × (y ≢ e) × (x2 ≢ e) × (y2 ≢ e) × ((f : End → List M) → joined x y x2 y2 f e ≡ f e))

-- each end is at one of them
reads : (M : Type 0) (x y x2 y2 e : End) → Reads M x y x2 y2 e
unfolding Reads
reads M x y x2 y2 e = elim (split (same_end x e)) [
  | inl i ↦ inl (inl (same_end-is x e i), λ f. rw i refl)
  | inr i ↦ elim (split (same_end y e)) [
    | inl j ↦ inl (inr (same_end-is y e j), λ f. rw (i, j) refl)
    | inr j ↦ elim (split (same_end y2 e)) [
      | inl k ↦ inr (inl (same_end-is y2 e k, unlike x e i, unlike y e j, λ f. rw (i, j, k) refl))
      | inr k ↦ elim (split (same_end x2 e)) [
        | inl l ↦ inr (inr (inl (same_end-is x2 e l, unlike x e i, unlike y e j, unlike y2 e k, λ f. rw (i, j, k, l) refl)))
        | inr l ↦ inr (inr (inr (unlike x e i, unlike y e j, unlike x2 e l, unlike y2 e k, λ f. rw (i, j, k, l) refl)))
      ]
    ]
  ]
]

module _ {M : Type 0} where
  -- two sends on different ends
  pub sent-sent : (a b : Option (End × M)) (f : End → List M) → ((e : End) (v w : M) → a ≡ Some (e, v) → b ≡ Some (e, w) → ⊥) →
      sent a (sent b f) ≡ sent b (sent a f)
  sent-sent None b f ne = refl
  sent-sent (Some x) None f ne = refl
  sent-sent (Some x) (Some y) f ne = fun_ext (λ e. elim (split (same_end x.0 e)) [
    | inr i ↦ rw i refl
    | inl i ↦ elim (split (same_end y.0 e)) [
      | inr j ↦ rw (i, j) refl
      | inl j ↦
          let t : y.0 ≡ x.0 = same_end-is y.0 e j ∙ sym (same_end-is x.0 e i) in
          absurd (ne x.0 x.1 y.1 refl (λ k. Some (t k, y.1)))
    ]
  ])

  -- a receipt of what is owed already, and a send
  pub taken-sent : (a : Option (End × M)) (takes : Bool) (z : End) (f : End → List M) (m : M) (rest : List M) → f z ≡ m ∷ rest →
      taken takes z (sent a f) ≡ sent a (taken takes z f)
  taken-sent None takes z f m rest is = refl
  taken-sent (Some x) takes z f m rest is = fun_ext (λ e. elim (split (same_end x.0 e)) [
    | inr i ↦ rw i refl
    | inl i ↦ elim (split (takes && same_end z e)) [
      | inr j ↦ rw (i, j) refl
      | inl j ↦
          let q : f e ≡ m ∷ rest = subst (λ t. f t ≡ m ∷ rest) (same_end-is z e (both _ _ j).1) is in
          rw (i, j, q) refl
    ]
  ])

  -- receipts of what two ends owe
  pub taken-taken : (t u : Bool) (y z : End) (f : End → List M) → y ≢ z → taken t y (taken u z f) ≡ taken u z (taken t y f)
  taken-taken t u y z f ne = fun_ext (λ e. elim (split (t && same_end y e)) [
    | inr i ↦ rw i refl
    | inl i ↦ elim (split (u && same_end z e)) [
      | inr j ↦ rw (i, j) refl
      | inl j ↦ absurd (ne (same_end-is y e (both _ _ i).1 ∙ sym (same_end-is z e (both _ _ j).1)))
    ]
  ])

  -- what a send adds at an end
  pub added : Option (End × M) → End → List M
  added None e = []
  added (Some x) e = if same_end x.0 e then x.1 ∷ [] else []

  -- a send only adds at the end
  pub sent-added : (a : Option (End × M)) (f : End → List M) (e : End) → sent a f e ≡ f e ++ added a e
  unfolding added
  sent-added None f e = sym (append-nil (f e))
  sent-added (Some x) f e = elim (split (same_end x.0 e)) [
    | inl i ↦ rw i refl
    | inr i ↦ rw i (sym (append-nil (f e)))
  ]

  -- nothing is added elsewhere
  added-other : (a : Option (End × M)) (e : End) → ((v : M) → a ≢ Some (e, v)) → added a e ≡ []
  unfolding added
  added-other None e ne = refl
  added-other (Some x) e ne = rw (apart x.0 e (λ i. ne x.1 (λ k. Some (i k, x.1)))) refl

  -- an identity, and a send on no end of its own
  pub joined-sent : (a : Option (End × M)) (x y x2 y2 : End) (f : End → List M) → ((v : M) → a ≢ Some (x, v)) →
      ((v : M) → a ≢ Some (y, v)) → joined x y x2 y2 (sent a f) ≡ sent a (joined x y x2 y2 f)
  unfolding Reads
  joined-sent a x y x2 y2 f nx ny =
      let at_x : sent a f x ≡ f x = sent-added a f x ∙ (ap (λ t. f x ++ t) (added-other a x nx) ∙ append-nil (f x)) in
      let at_y : sent a f y ≡ f y = sent-added a f y ∙ (ap (λ t. f y ++ t) (added-other a y ny) ∙ append-nil (f y)) in
      fun_ext (λ e.
      let right : sent a (joined x y x2 y2 f) e ≡ joined x y x2 y2 f e ++ added a e = sent-added a (joined x y x2 y2 f) e in
      elim (reads M x y x2 y2 e) [
        | inl (w, q) ↦
            let none : added a e ≡ [] = elim w [
              | inl i ↦ subst (λ t. added a t ≡ []) i (added-other a x nx)
              | inr i ↦ subst (λ t. added a t ≡ []) i (added-other a y ny)
            ] in
            cc (q (sent a f), q f, right, none)
        | inr (inl (i, nex, ney, q)) ↦ cc (q (sent a f), q f, right, at_x, sent-added a f y2, i, append_assoc (f x) (f y2) (added a e))
        | inr (inr (inl (i, nex, ney, ney2, q))) ↦ cc (q (sent a f), q f, right, at_y, sent-added a f x2, i, append_assoc (f y) (f x2) (added a e))
        | inr (inr (inr (nex, ney, nex2, ney2, q))) ↦ cc (q (sent a f), q f, right, sent-added a f e)
      ])

  -- a receipt changes nothing elsewhere
  pub taken-other : (t : Bool) (z : End) (f : End → List M) (e : End) → z ≢ e → taken t z f e ≡ f e
  taken-other false z f e ne = refl
  taken-other true z f e ne = rw (apart z e ne) refl

  -- and takes the first where it is
  taken-there : (t : Bool) (z : End) (f : End → List M) → taken t z f z ≡ (if t then rest_of (f z) else f z)
  taken-there false z f = refl
  taken-there true z f = rw (same_end-refl z) refl

  -- the first of two lists loses its first
  rest-append : (t : Bool) (xs ys : List M) (m : M) (rest : List M) → xs ≡ m ∷ rest →
      (if t then rest_of (xs ++ ys) else xs ++ ys) ≡ (if t then rest_of xs else xs) ++ ys
  rest-append false xs ys m rest e = refl
  rest-append true xs ys m rest e = rw e refl

  -- a receipt elsewhere
  pub joined-taken : (t : Bool) (z x y x2 y2 : End) (f : End → List M) → z ≢ x → z ≢ y → z ≢ x2 → z ≢ y2 →
      joined x y x2 y2 (taken t z f) ≡ taken t z (joined x y x2 y2 f)
  unfolding Reads
  joined-taken t z x y x2 y2 f nx ny nx2 ny2 = fun_ext (λ e.
      elim (reads M x y x2 y2 e) [
        | inl (w, q) ↦
            let ne : z ≢ e = elim w [ inl i ↦ subst (λ v. z ≢ v) i nx | inr i ↦ subst (λ v. z ≢ v) i ny ] in
            cc (q (taken t z f), q f, taken-other t z (joined x y x2 y2 f) e ne)
        | inr (inl (i, nex, ney, q)) ↦ cc (q (taken t z f), q f, taken-other t z f x nx, taken-other t z f y2 ny2, taken-other t z (joined x y x2 y2 f) e (subst (λ v. z ≢ v) i ny2))
        | inr (inr (inl (i, nex, ney, ney2, q))) ↦ cc (q (taken t z f), q f, taken-other t z f y ny, taken-other t z f x2 nx2, taken-other t z (joined x y x2 y2 f) e (subst (λ v. z ≢ v) i nx2))
        | inr (inr (inr (nex, ney, nex2, ney2, q))) ↦
            q (taken t z f) ∙ sym (ap (λ (v : List M). if t && same_end z e then rest_of v else v) (q f))
      ])

  -- a receipt of what x owes, before the identity or after it, when y2 owes it
  pub joined-taken-x : (t : Bool) (x y x2 y2 : End) (f : End → List M) (m : M) (rest : List M) → f x ≡ m ∷ rest → y2 ≢ x → y2 ≢ y →
      y2 ≢ x2 → x ≢ y → x ≢ x2 → x ≢ y2 →
      joined x y x2 y2 (taken t x f) ≡ taken t y2 (joined x y x2 y2 f)
  unfolding Reads
  joined-taken-x t x y x2 y2 f m rest is y2x y2y y2x2 xy xx2 xy2 = fun_ext (λ e.
      elim (reads M x y x2 y2 e) [
        | inl (w, q) ↦
            let ne : y2 ≢ e = elim w [ inl i ↦ subst (λ v. y2 ≢ v) i y2x | inr i ↦ subst (λ v. y2 ≢ v) i y2y ] in
            cc (q (taken t x f), q f, taken-other t y2 (joined x y x2 y2 f) e ne)
        | inr (inl (i, nex, ney, q)) ↦
            let left : joined x y x2 y2 (taken t x f) e ≡ (if t then rest_of (f x) else f x) ++ f y2 =
            cc (q (taken t x f), taken-there t x f, taken-other t x f y2 xy2) in
            let right : taken t y2 (joined x y x2 y2 f) y2 ≡ (if t then rest_of (joined x y x2 y2 f y2) else joined x y x2 y2 f y2) =
            taken-there t y2 (joined x y x2 y2 f) in
            let both_there : joined x y x2 y2 f y2 ≡ f x ++ f y2 = subst (λ v. joined x y x2 y2 f v ≡ f x ++ f y2) (sym i) (q f) in
            let mid : taken t y2 (joined x y x2 y2 f) y2 ≡ (if t then rest_of (f x ++ f y2) else f x ++ f y2) =
            right ∙ ap (λ (v : List M). if t then rest_of v else v) both_there in
            left ∙ (sym (rest-append t (f x) (f y2) m rest is) ∙ (sym mid ∙ ap (taken t y2 (joined x y x2 y2 f)) i))
        | inr (inr (inl (i, nex, ney, ney2, q))) ↦ cc (q (taken t x f), q f, taken-other t x f y xy, taken-other t x f x2 xx2, taken-other t y2 (joined x y x2 y2 f) e ney2)
        | inr (inr (inr (nex, ney, nex2, ney2, q))) ↦ cc (q (taken t x f), q f, taken-other t x f e nex, taken-other t y2 (joined x y x2 y2 f) e ney2)
      ])

  -- what an identity leaves at each place
  pub at_gone : (x y x2 y2 : End) (f : End → List M) (e : End) → (x ≡ e) ⊎ (y ≡ e) → joined x y x2 y2 f e ≡ []
  at_gone x y x2 y2 f e (inl i) = rw (ap (λ t. same_end t e) i ∙ same_end-refl e) refl
  at_gone x y x2 y2 f e (inr i) = elim (split (same_end x e)) [
    | inl j ↦ rw j refl
    | inr j ↦ rw (j, ap (λ t. same_end t e) i ∙ same_end-refl e) refl
  ]

  -- the new partner y2 owes what x owed first
  pub at_y2 : (x y x2 y2 : End) (f : End → List M) → x ≢ y2 → y ≢ y2 → joined x y x2 y2 f y2 ≡ f x ++ f y2
  at_y2 x y x2 y2 f nx ny = rw (apart x y2 nx, apart y y2 ny, same_end-refl y2) refl

  -- and x2 what y owed first
  pub at_x2 : (x y x2 y2 : End) (f : End → List M) → x ≢ x2 → y ≢ x2 → y2 ≢ x2 → joined x y x2 y2 f x2 ≡ f y ++ f x2
  at_x2 x y x2 y2 f nx ny ny2 = rw (apart x x2 nx, apart y x2 ny, apart y2 x2 ny2, same_end-refl x2) refl

  -- elsewhere an identity changes nothing
  pub off : (x y x2 y2 : End) (f : End → List M) (e : End) → Off x y x2 y2 e → joined x y x2 y2 f e ≡ f e
  off x y x2 y2 f e n = rw (apart x e n.not_x, apart y e n.not_y, apart y2 e n.not_y2, apart x2 e n.not_x2) refl

  -- two identities that share no end
  pub joined-joined : (x y x2 y2 u v u2 v2 : End) (f : End → List M) → Off x y x2 y2 u → Off x y x2 y2 v → Off x y x2 y2 u2 →
      Off x y x2 y2 v2 →
      joined x y x2 y2 (joined u v u2 v2 f) ≡ joined u v u2 v2 (joined x y x2 y2 f)
  unfolding Reads
  joined-joined x y x2 y2 u v u2 v2 f ou ov ou2 ov2 =
      fun_ext (λ e. elim (reads M x y x2 y2 e) [
        | inl (w, q) ↦
            let oe : Off u v u2 v2 e = elim w [
              | inl i ↦ record { not_x = λ k. ou.not_x (i ∙ sym k); not_y = λ k. ov.not_x (i ∙ sym k); not_x2 = λ k. ou2.not_x (i ∙ sym k); not_y2 = λ k. ov2.not_x (i ∙ sym k) }
              | inr i ↦ record { not_x = λ k. ou.not_y (i ∙ sym k); not_y = λ k. ov.not_y (i ∙ sym k); not_x2 = λ k. ou2.not_y (i ∙ sym k); not_y2 = λ k. ov2.not_y (i ∙ sym k) }
            ] in
            q (joined u v u2 v2 f) ∙ sym (off u v u2 v2 (joined x y x2 y2 f) e oe ∙ q f)
        | inr (inl (i, nex, ney, q)) ↦
            let oe : Off u v u2 v2 e = record { not_x = λ k. ou.not_y2 (i ∙ sym k); not_y = λ k. ov.not_y2 (i ∙ sym k); not_x2 = λ k. ou2.not_y2 (i ∙ sym k); not_y2 = λ k. ov2.not_y2 (i ∙ sym k) } in
            cc (
              q (joined u v u2 v2 f),
              q f,
              off u v u2 v2 (joined x y x2 y2 f) e oe,
              off u v u2 v2 f x (record { not_x = ne x u ou.not_x; not_y = ne x v ov.not_x; not_x2 = ne x u2 ou2.not_x; not_y2 = ne x v2 ov2.not_x }),
              off u v u2 v2 f y2 (record { not_x = ne y2 u ou.not_y2; not_y = ne y2 v ov.not_y2; not_x2 = ne y2 u2 ou2.not_y2; not_y2 = ne y2 v2 ov2.not_y2 }),
            )
        | inr (inr (inl (i, nex, ney, ney2, q))) ↦
            let oe : Off u v u2 v2 e = record { not_x = λ k. ou.not_x2 (i ∙ sym k); not_y = λ k. ov.not_x2 (i ∙ sym k); not_x2 = λ k. ou2.not_x2 (i ∙ sym k); not_y2 = λ k. ov2.not_x2 (i ∙ sym k) } in
            cc (
              q (joined u v u2 v2 f),
              q f,
              off u v u2 v2 (joined x y x2 y2 f) e oe,
              off u v u2 v2 f y (record { not_x = ne y u ou.not_y; not_y = ne y v ov.not_y; not_x2 = ne y u2 ou2.not_y; not_y2 = ne y v2 ov2.not_y }),
              off u v u2 v2 f x2 (record { not_x = ne x2 u ou.not_x2; not_y = ne x2 v ov.not_x2; not_x2 = ne x2 u2 ou2.not_x2; not_y2 = ne x2 v2 ov2.not_x2 }),
            )
        | inr (inr (inr (nex, ney, nex2, ney2, q))) ↦ elim (reads M u v u2 v2 e) [
          | inl (w, r) ↦ cc (q (joined u v u2 v2 f), r f, r (joined x y x2 y2 f))
          | inr (inl (i, neu, nev, r)) ↦ cc (q (joined u v u2 v2 f), r f, r (joined x y x2 y2 f), off x y x2 y2 f u ou, off x y x2 y2 f v2 ov2)
          | inr (inr (inl (i, neu, nev, nev2, r))) ↦ cc (q (joined u v u2 v2 f), r f, r (joined x y x2 y2 f), off x y x2 y2 f v ov, off x y x2 y2 f u2 ou2)
          | inr (inr (inr (neu, nev, neu2, nev2, r))) ↦ cc (q (joined u v u2 v2 f), r f, r (joined x y x2 y2 f), q f)
        ]
      ])

  -- two identities that share the channel of x and u
  pub joined-shared : (x y u y2 v v2 : End) (f : End → List M) → Six x y u y2 v v2 →
      joined u v y2 v2 (joined x y u y2 f) ≡ joined x y v2 y2 (joined u v x v2 f)
  unfolding Reads
  joined-shared x y u y2 v v2 f s =
      let ou : Off x y v2 y2 u = record { not_x = s.xu; not_y = s.yu; not_x2 = ne u v2 s.uv2; not_y2 = ne u y2 s.uy2 } in
      let ov : Off x y v2 y2 v = record { not_x = s.xv; not_y = s.yv; not_x2 = ne v v2 s.vv2; not_y2 = s.y2v } in
      fun_ext (λ e. elim (reads M u v y2 v2 e) [
        | inl (w, q) ↦
            let oe : Off x y v2 y2 e = elim w [ inl i ↦ subst (Off x y v2 y2) i ou | inr i ↦ subst (Off x y v2 y2) i ov ] in
            q (joined x y u y2 f) ∙ sym (off x y v2 y2 (joined u v x v2 f) e oe ∙ at_gone u v x v2 f e w)
        | inr (inl (i, neu, nev, q)) ↦
            let left : joined x y u y2 f u ++ joined x y u y2 f v2 ≡ (f y ++ f u) ++ f v2 =
            cc (at_x2 x y u y2 f s.xu s.yu (ne u y2 s.uy2), off x y u y2 f v2 (record { not_x = s.xv2; not_y = s.yv2; not_x2 = s.uv2; not_y2 = s.y2v2 })) in
            let right : joined x y v2 y2 (joined u v x v2 f) v2 ≡ f y ++ (f u ++ f v2) =
            cc (
              at_x2 x y v2 y2 (joined u v x v2 f) s.xv2 s.yv2 s.y2v2,
              off u v x v2 f y (record { not_x = ne y u s.yu; not_y = ne y v s.yv; not_x2 = s.xy; not_y2 = ne y v2 s.yv2 }),
              at_y2 u v x v2 f s.uv2 s.vv2,
            ) in
            q (joined x y u y2 f) ∙ (left ∙ (append_assoc (f y) (f u) (f v2) ∙ (sym right ∙ ap (joined x y v2 y2 (joined u v x v2 f)) i)))
        | inr (inr (inl (i, neu, nev, nev2, q))) ↦
            let left : joined x y u y2 f v ++ joined x y u y2 f y2 ≡ f v ++ (f x ++ f y2) =
            cc (off x y u y2 f v (record { not_x = s.xv; not_y = s.yv; not_x2 = s.uv; not_y2 = s.y2v }), at_y2 x y u y2 f s.xy2 s.yy2) in
            let right : joined x y v2 y2 (joined u v x v2 f) y2 ≡ (f v ++ f x) ++ f y2 =
            cc (
              at_y2 x y v2 y2 (joined u v x v2 f) s.xy2 s.yy2,
              at_x2 u v x v2 f (ne x u s.xu) (ne x v s.xv) (ne x v2 s.xv2),
              off u v x v2 f y2 (record { not_x = s.uy2; not_y = ne y2 v s.y2v; not_x2 = s.xy2; not_y2 = ne y2 v2 s.y2v2 }),
            ) in
            q (joined x y u y2 f) ∙ (left ∙ (sym (append_assoc (f v) (f x) (f y2)) ∙ (sym right ∙ ap (joined x y v2 y2 (joined u v x v2 f)) i)))
        | inr (inr (inr (neu, nev, ney2, nev2, q))) ↦ elim (reads M x y u y2 e) [
          | inl (w, r) ↦ q (joined x y u y2 f) ∙ (r f ∙ sym (at_gone x y v2 y2 (joined u v x v2 f) e w))
          | inr (inl (i, nex, ney, r)) ↦ absurd (ney2 i)
          | inr (inr (inl (i, nex, ney, k, r))) ↦ absurd (neu i)
          | inr (inr (inr (nex, ney, k, l, r))) ↦
              q (joined x y u y2 f) ∙ (r f ∙ sym (off x y v2 y2 (joined u v x v2 f) e (record { not_x = nex; not_y = ney; not_x2 = nev2; not_y2 = ney2 }) ∙ off u v x v2 f e (record { not_x = neu; not_y = nev; not_x2 = nex; not_y2 = nev2 })))
        ]
      ])

  -- an identity read from its other side
  pub joined-turned : (x y x2 y2 : End) (f : End → List M) → x2 ≢ y2 → joined x y x2 y2 f ≡ joined y x y2 x2 f
  unfolding Reads
  joined-turned x y x2 y2 f n = fun_ext (λ e. elim (reads M x y x2 y2 e) [
    | inl (w, q) ↦ elim (reads M y x y2 x2 e) [
      | inl (v, r) ↦ q f ∙ sym (r f)
      | inr (inl (i, ny, nx, r)) ↦ absurd (elim w [ inl j ↦ nx j | inr j ↦ ny j ])
      | inr (inr (inl (i, ny, nx, k, r))) ↦ absurd (elim w [ inl j ↦ nx j | inr j ↦ ny j ])
      | inr (inr (inr (ny, nx, k, l, r))) ↦ absurd (elim w [ inl j ↦ nx j | inr j ↦ ny j ])
    ]
    | inr (inl (i, nex, ney, q)) ↦ elim (reads M y x y2 x2 e) [
      | inl (v, r) ↦ absurd (elim v [ inl j ↦ ney j | inr j ↦ nex j ])
      | inr (inl (j, ny, nx, r)) ↦ absurd (n (j ∙ sym i))
      | inr (inr (inl (j, ny, nx, k, r))) ↦ q f ∙ sym (r f)
      | inr (inr (inr (ny, nx, k, l, r))) ↦ absurd (k i)
    ]
    | inr (inr (inl (i, nex, ney, ney2, q))) ↦ elim (reads M y x y2 x2 e) [
      | inl (v, r) ↦ absurd (elim v [ inl j ↦ ney j | inr j ↦ nex j ])
      | inr (inl (j, ny, nx, r)) ↦ q f ∙ sym (r f)
      | inr (inr (inl (j, ny, nx, k, r))) ↦ absurd (ney2 j)
      | inr (inr (inr (ny, nx, k, l, r))) ↦ absurd (l i)
    ]
    | inr (inr (inr (nex, ney, nex2, ney2, q))) ↦ q f ∙ sym (off y x y2 x2 f e (record { not_x = ney; not_y = nex; not_x2 = ney2; not_y2 = nex2 }))
  ])
