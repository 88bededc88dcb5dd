-- Who is whose partner after an identity, and after two in both orders.
use Rattle.std.proofs.Common.{◌≡◌, ◌≢◌, ◌⊎◌, inl, inr, refl, sym, ap, subst, ◌∙◌, Option, Some, None}
use Rattle.std.proofs.Math.Path.{fun_ext}
use Rattle.campl_machine.specs.Names.{End, same_end}
use Rattle.campl_machine.specs.Machine.{update, rewired}
use Rattle.campl_machine.proofs.Same.{same_end-is, same_end-refl}
use Rattle.campl_machine.proofs.Updates.{split}
use Rattle.campl_machine.proofs.Ends.{apart, unlike, ne, Off, Six}

module _ (x y x2 y2 : End) where
  -- who is whose partner after the identity of x and y
  abbrev pub wired : (End → Option End) → End → Option End
  wired f = update same_end (rewired x y x2 y2) f

  -- its ends have no partner
  pub wired-gone : (f : End → Option End) (e : End) → (x ≡ e) ⊎ (y ≡ e) → wired f e ≡ None
  wired-gone f e (inl i) = rw (ap (λ t. same_end t e) i ∙ same_end-refl e) refl
  wired-gone f e (inr i) = elim (split (same_end x e)) [
    | inl j ↦ rw j refl
    | inr j ↦ rw (j, ap (λ t. same_end t e) i ∙ same_end-refl e) refl
  ]

  -- x2's is y2
  pub wired-x2 : (f : End → Option End) → x ≢ x2 → y ≢ x2 → wired f x2 ≡ Some y2
  wired-x2 f nx ny = rw (apart x x2 nx, apart y x2 ny, same_end-refl x2) refl

  -- and y2's is x2
  pub wired-y2 : (f : End → Option End) → x ≢ y2 → y ≢ y2 → x2 ≢ y2 → wired f y2 ≡ Some x2
  wired-y2 f nx ny n2 = rw (apart x y2 nx, apart y y2 ny, apart x2 y2 n2, same_end-refl y2) refl

  -- the others keep theirs
  pub wired-off : (f : End → Option End) (e : End) → Off x y x2 y2 e → wired f e ≡ f e
  wired-off f e n = rw (apart x e n.not_x, apart y e n.not_y, apart x2 e n.not_x2, apart y2 e n.not_y2) refl

  -- the places of an end
  unfoldable pub Sits : End → Type 0
  Sits e = ((x ≡ e) ⊎ (y ≡ e)) ⊎ (x2 ≡ e) ⊎ (y2 ≡ e) ⊎ Off x y x2 y2 e

  -- each end is at one of them
  pub sits : (e : End) → Sits e
  unfolding Sits
  sits e = elim (split (same_end x e)) [
    | inl i ↦ inl (inl (same_end-is x e i))
    | inr i ↦ elim (split (same_end y e)) [
      | inl j ↦ inl (inr (same_end-is y e j))
      | inr j ↦ elim (split (same_end x2 e)) [
        | inl k ↦ inr (inl (same_end-is x2 e k))
        | inr k ↦ elim (split (same_end y2 e)) [
          | inl l ↦ inr (inr (inl (same_end-is y2 e l)))
          | inr l ↦ inr (inr (inr (record { not_x = unlike x e i; not_y = unlike y e j; not_x2 = unlike x2 e k; not_y2 = unlike y2 e l })))
        ]
      ]
    ]
  ]

-- two identities that share the channel of x and u
pub wired-shared : (x y u y2 v v2 : End) (f : End → Option End) → Six x y u y2 v v2 →
    wired u v y2 v2 (wired x y u y2 f) ≡ wired x y v2 y2 (wired u v x v2 f)
unfolding Sits
wired-shared x y u y2 v v2 f s =
    let ou : Off x y v2 y2 u = record { not_x = s.xu; not_y = s.yu; not_x2 = ne u v2 s.uv2; not_y2 = ne u y2 s.uy2 } in
    let ov : Off x y v2 y2 v = record { not_x = s.xv; not_y = s.yv; not_x2 = ne v v2 s.vv2; not_y2 = s.y2v } in
    fun_ext (λ e. elim (sits u v y2 v2 e) [
      | inl w ↦
          let oe : Off x y v2 y2 e = elim w [ inl i ↦ subst (Off x y v2 y2) i ou | inr i ↦ subst (Off x y v2 y2) i ov ] in
          wired-gone u v y2 v2 (wired x y u y2 f) e w ∙ sym (wired-off x y v2 y2 (wired u v x v2 f) e oe ∙ wired-gone u v x v2 f e w)
      | inr (inl i) ↦ subst (λ t. wired u v y2 v2 (wired x y u y2 f) t ≡ wired x y v2 y2 (wired u v x v2 f) t) i
          (wired-x2 u v y2 v2 (wired x y u y2 f) s.uy2 (ne y2 v s.y2v) ∙ sym (wired-y2 x y v2 y2 (wired u v x v2 f) s.xy2 s.yy2 (ne y2 v2 s.y2v2)))
      | inr (inr (inl i)) ↦ subst (λ t. wired u v y2 v2 (wired x y u y2 f) t ≡ wired x y v2 y2 (wired u v x v2 f) t) i
          (wired-y2 u v y2 v2 (wired x y u y2 f) s.uv2 s.vv2 s.y2v2 ∙ sym (wired-x2 x y v2 y2 (wired u v x v2 f) s.xv2 s.yv2))
      | inr (inr (inr o)) ↦ elim (sits x y v2 y2 e) [
        | inl w ↦
            wired-off u v y2 v2 (wired x y u y2 f) e o ∙ (wired-gone x y u y2 f e w ∙ sym (wired-gone x y v2 y2 (wired u v x v2 f) e w))
        | inr (inl i) ↦ absurd (o.not_y2 i)
        | inr (inr (inl i)) ↦ absurd (o.not_x2 i)
        | inr (inr (inr q)) ↦ wired-off u v y2 v2 (wired x y u y2 f) e o ∙ (wired-off x y u y2 f e (record { not_x = q.not_x; not_y = q.not_y; not_x2 = o.not_x; not_y2 = o.not_x2 }) ∙ sym (wired-off x y v2 y2 (wired u v x v2 f) e q ∙ wired-off u v x v2 f e (record { not_x = o.not_x; not_y = o.not_y; not_x2 = q.not_x; not_y2 = o.not_y2 })))
      ]
    ])

-- an identity read from its other side
pub wired-turned : (x y x2 y2 : End) (f : End → Option End) → x2 ≢ y2 → wired x y x2 y2 f ≡ wired y x y2 x2 f
unfolding Sits
wired-turned x y x2 y2 f n = fun_ext (λ e. elim (sits x y x2 y2 e) [
  | inl w ↦ wired-gone x y x2 y2 f e w ∙ sym (wired-gone y x y2 x2 f e (elim w [ inl i ↦ inr i | inr i ↦ inl i ]))
  | inr (inl i) ↦ elim (split (same_end x e)) [
    | inl j ↦ wired-gone x y x2 y2 f e (inl (same_end-is x e j)) ∙ sym (wired-gone y x y2 x2 f e (inr (same_end-is x e j)))
    | inr j ↦ elim (split (same_end y e)) [
      | inl k ↦ wired-gone x y x2 y2 f e (inr (same_end-is y e k)) ∙ sym (wired-gone y x y2 x2 f e (inl (same_end-is y e k)))
      | inr k ↦
          let xx2 : x ≢ x2 = λ q. unlike x e j (q ∙ i) in
          let yx2 : y ≢ x2 = λ q. unlike y e k (q ∙ i) in
          subst (λ t. wired x y x2 y2 f t ≡ wired y x y2 x2 f t) i (wired-x2 x y x2 y2 f xx2 yx2 ∙ sym (wired-y2 y x y2 x2 f yx2 xx2 (ne x2 y2 n)))
    ]
  ]
  | inr (inr (inl i)) ↦ elim (split (same_end x e)) [
    | inl j ↦ wired-gone x y x2 y2 f e (inl (same_end-is x e j)) ∙ sym (wired-gone y x y2 x2 f e (inr (same_end-is x e j)))
    | inr j ↦ elim (split (same_end y e)) [
      | inl k ↦ wired-gone x y x2 y2 f e (inr (same_end-is y e k)) ∙ sym (wired-gone y x y2 x2 f e (inl (same_end-is y e k)))
      | inr k ↦
          let xy2 : x ≢ y2 = λ q. unlike x e j (q ∙ i) in
          let yy2 : y ≢ y2 = λ q. unlike y e k (q ∙ i) in
          subst (λ t. wired x y x2 y2 f t ≡ wired y x y2 x2 f t) i (wired-y2 x y x2 y2 f xy2 yy2 n ∙ sym (wired-x2 y x y2 x2 f yy2 xy2))
    ]
  ]
  | inr (inr (inr o)) ↦ wired-off x y x2 y2 f e o ∙ sym (wired-off y x y2 x2 f e (record { not_x = o.not_y; not_y = o.not_x; not_x2 = o.not_y2; not_y2 = o.not_x2 }))
])
