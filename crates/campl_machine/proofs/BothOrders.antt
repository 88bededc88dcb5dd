-- Two steps made in both orders give equal configurations, kind by kind.
use Rattle.std.proofs.Common.{◌≡◌, ◌≢◌, Bool, List, [], ◌∷◌, ◌⊎◌, inl, inr, refl, sym, subst, ◌∙◌, Option, Some, None}
use Rattle.campl_machine.specs.Names.{End, Who, same_end, same_who}
use Rattle.campl_machine.specs.Machine.{Config, Move, Moves, Links, update, Lies, rewired, moved, looked, linked, Does, nodes_born, both_ways, alive}
use Rattle.campl_machine.specs.Independence.{Independent, Paired}
use Rattle.campl_machine.proofs.Same.{same_end-is, same_end-refl, same_who-is, same_who-refl}
use Rattle.campl_machine.proofs.Updates.{swap_updates}
use Rattle.campl_machine.proofs.Ends.{ne, Off, Six}
use Rattle.campl_machine.proofs.Owed.{sent-sent, taken-sent, taken-taken, joined-sent, joined-taken, joined-taken-x, joined-joined, joined-shared, joined-turned}
use Rattle.campl_machine.proofs.Wired.{wired-shared, wired-turned}

-- lists of nodes that have none in common are updated in either order
nodes-swap : {S : Type 0} → (d1 d2 : List (Who × Option S)) (f : Who → Option S) → ((w : Who) → Lies d1 w → Lies d2 w → ⊥) →
    update same_who d1 (update same_who d2 f) ≡ update same_who d2 (update same_who d1 f)
nodes-swap = swap_updates same_who same_who-is same_who-refl

module _ {S M : Type 0} where
  -- two moves
  pub moves-moves : (c : Config S M) (p q : Who) (m n : Move S M) → Independent c p (Moves m) q (Moves n) →
      moved (moved c p m) q n ≡ moved (moved c q n) p m
  moves-moves c p q m n s =
      let a : (moved (moved c p m) q n).nodes ≡ (moved (moved c q n) p m).nodes =
      nodes-swap ((q, n.next) ∷ alive n.children) ((p, m.next) ∷ alive m.children) c.nodes (λ w i j. s.nodes w j i) in
      let b : (moved (moved c p m) q n).partner ≡ (moved (moved c q n) p m).partner =
      swap_updates same_end same_end-is same_end-refl (both_ways n.channels) (both_ways m.channels) c.partner (λ w i j. s.ends w j i) in
      let o : (moved (moved c p m) q n).owed ≡ (moved (moved c q n) p m).owed = sent-sent n.send m.send c.owed (λ e v w i j. s.uses e (w, j) (v, i)) in
      λ i. record { nodes = a i; partner = b i; owed = o i }

  -- a move, and a receipt of what is owed already
  pub moves-looks : (c : Config S M) (p q : Who) (m : Move S M) (t : Bool) (z : End) (k : S) (v : M) (rest : List M) →
      c.owed z ≡ v ∷ rest → ((w : Who) → Lies (nodes_born p (Moves m)) w → (q ≡ w) ⊎ ⊥ → ⊥) →
      looked (moved c p m) q t z k ≡ moved (looked c q t z k) p m
  moves-looks c p q m t z k v rest is s =
      let a : (looked (moved c p m) q t z k).nodes ≡ (moved (looked c q t z k) p m).nodes =
      nodes-swap ((q, Some k) ∷ []) ((p, m.next) ∷ alive m.children) c.nodes (λ w i j. s w j i) in
      let o : (looked (moved c p m) q t z k).owed ≡ (moved (looked c q t z k) p m).owed = taken-sent m.send t z c.owed v rest is in
      λ i. record { nodes = a i; partner = update same_end (both_ways m.channels) c.partner; owed = o i }

  -- a move, and an identity of old ends
  pub moves-links : (c : Config S M) (p q : Who) (m : Move S M) (x y x2 y2 : End) → Paired c → c.partner x ≡ Some x2 →
      c.partner y ≡ Some y2 → Independent c p (Moves m) q (Links x y) →
      linked (moved c p m) q x y x2 y2 ≡ moved (linked c q x y x2 y2) p m
  moves-links c p q m x y x2 y2 pr px py s =
      let a : (linked (moved c p m) q x y x2 y2).nodes ≡ (moved (linked c q x y x2 y2) p m).nodes =
      nodes-swap ((q, None) ∷ []) ((p, m.next) ∷ alive m.children) c.nodes (λ w i j. s.nodes w j i) in
      let old : (e f : End) → c.partner e ≡ Some f → Lies (both_ways m.channels) e → ⊥ = λ e f i l. let n : c.partner e ≡ None = s.fresh_a e l in cc (i, n) in
      let b : (linked (moved c p m) q x y x2 y2).partner ≡ (moved (linked c q x y x2 y2) p m).partner =
      swap_updates same_end same_end-is same_end-refl (rewired x y x2 y2) (both_ways m.channels) c.partner
      (λ e i j. elim i [
        | inl r ↦ old x x2 px (subst (Lies (both_ways m.channels)) (sym r) j)
        | inr (inl r) ↦ old y y2 py (subst (Lies (both_ways m.channels)) (sym r) j)
        | inr (inr (inl r)) ↦ old x2 x (pr.back x x2 px) (subst (Lies (both_ways m.channels)) (sym r) j)
        | inr (inr (inr (inl r))) ↦ old y2 y (pr.back y y2 py) (subst (Lies (both_ways m.channels)) (sym r) j)
        | inr (inr (inr (inr r))) ↦ absurd r
      ]) in
      let o : (linked (moved c p m) q x y x2 y2).owed ≡ (moved (linked c q x y x2 y2) p m).owed =
      joined-sent m.send x y x2 y2 c.owed (λ v i. s.uses x (v, i) (inl refl)) (λ v i. s.uses y (v, i) (inr refl)) in
      λ i. record { nodes = a i; partner = b i; owed = o i }

  -- receipts of what two ends owe
  pub looks-looks : (c : Config S M) (p q : Who) (t u : Bool) (y z : End) (k l : S) → y ≢ z → p ≢ q →
      looked (looked c p t y k) q u z l ≡ looked (looked c q u z l) p t y k
  looks-looks c p q t u y z k l n pq =
      let a : (looked (looked c p t y k) q u z l).nodes ≡ (looked (looked c q u z l) p t y k).nodes =
      nodes-swap ((q, Some l) ∷ []) ((p, Some k) ∷ []) c.nodes (λ w i j. elim i [ inl r ↦ elim j [ inl v ↦ pq (v ∙ sym r) | inr v ↦ v ] | inr r ↦ r ]) in
      let o : (looked (looked c p t y k) q u z l).owed ≡ (looked (looked c q u z l) p t y k).owed = taken-taken u t z y c.owed (ne y z n) in
      λ i. record { nodes = a i; partner = c.partner; owed = o i }

  -- an identity read from its other side
  pub turned : (c : Config S M) (p : Who) (x y : End) (d : Config S M) → Paired c → Does c p (Links x y) d → Does c p (Links y x) d
  turned c p x y d pr (x2, y2, px, py, xy, x2y, is) =
      let n : x2 ≢ y2 = λ i. xy (cc (pr.back x x2 px, pr.back y y2 py, i)) in
      let m : y2 ≢ x = λ i. x2y (cc (pr.back y y2 py, px, i)) in
      let b : (linked c p x y x2 y2).partner ≡ (linked c p y x y2 x2).partner = wired-turned x y x2 y2 c.partner n in
      let o : (linked c p x y x2 y2).owed ≡ (linked c p y x y2 x2).owed = joined-turned x y x2 y2 c.owed n in
      (y2, x2, py, px, ne x y xy, m, is ∙ (λ i. record { nodes = update same_who ((p, None) ∷ []) c.nodes; partner = b i; owed = o i }))

  -- a receipt on the channel of u
  pub looks-links-u : (c : Config S M) (p q : Who) (t : Bool) (s : S) (u v x v2 : End) (m : M) (rest : List M) → p ≢ q →
      c.owed u ≡ m ∷ rest → u ≢ v → u ≢ x → v ≢ x → u ≢ v2 → v ≢ v2 → x ≢ v2 →
      looked (linked c q u v x v2) p t v2 s ≡ linked (looked c p t u s) q u v x v2
  looks-links-u c p q t s u v x v2 m rest pq is uv ux vx uv2 vv2 xv2 =
      let a : (looked (linked c q u v x v2) p t v2 s).nodes ≡ (linked (looked c p t u s) q u v x v2).nodes =
      nodes-swap ((p, Some s) ∷ []) ((q, None) ∷ []) c.nodes (λ w i j. elim i [ inl r ↦ elim j [ inl k ↦ pq (r ∙ sym k) | inr k ↦ k ] | inr r ↦ r ]) in
      let o : (looked (linked c q u v x v2) p t v2 s).owed ≡ (linked (looked c p t u s) q u v x v2).owed =
      sym (joined-taken-x t u v x v2 c.owed m rest is (ne u v2 uv2) (ne v v2 vv2) (ne x v2 xv2) uv ux uv2) in
      λ i. record { nodes = a i; partner = update same_end (rewired u v x v2) c.partner; owed = o i }

  -- a receipt elsewhere
  pub looks-links-off : (c : Config S M) (p q : Who) (t : Bool) (s : S) (z u v u2 v2 : End) → p ≢ q → z ≢ u → z ≢ v → z ≢ u2 → z ≢ v2 →
      looked (linked c q u v u2 v2) p t z s ≡ linked (looked c p t z s) q u v u2 v2
  looks-links-off c p q t s z u v u2 v2 pq zu zv zu2 zv2 =
      let a : (looked (linked c q u v u2 v2) p t z s).nodes ≡ (linked (looked c p t z s) q u v u2 v2).nodes =
      nodes-swap ((p, Some s) ∷ []) ((q, None) ∷ []) c.nodes (λ w i j. elim i [ inl r ↦ elim j [ inl k ↦ pq (r ∙ sym k) | inr k ↦ k ] | inr r ↦ r ]) in
      let o : (looked (linked c q u v u2 v2) p t z s).owed ≡ (linked (looked c p t z s) q u v u2 v2).owed =
      sym (joined-taken t z u v u2 v2 c.owed zu zv zu2 zv2) in
      λ i. record { nodes = a i; partner = update same_end (rewired u v u2 v2) c.partner; owed = o i }

  -- two identities that share the channel of x and u
  pub links-shared : (c : Config S M) (p q : Who) (x y u y2 v v2 : End) → p ≢ q → Six x y u y2 v v2 →
      linked (linked c p x y u y2) q u v y2 v2 ≡ linked (linked c q u v x v2) p x y v2 y2
  links-shared c p q x y u y2 v v2 pq s =
      let a : (linked (linked c p x y u y2) q u v y2 v2).nodes ≡ (linked (linked c q u v x v2) p x y v2 y2).nodes =
      nodes-swap ((q, None) ∷ []) ((p, None) ∷ []) c.nodes (λ w i j. elim i [ inl r ↦ elim j [ inl k ↦ pq (k ∙ sym r) | inr k ↦ k ] | inr r ↦ r ]) in
      let b : (linked (linked c p x y u y2) q u v y2 v2).partner ≡ (linked (linked c q u v x v2) p x y v2 y2).partner =
      wired-shared x y u y2 v v2 c.partner s in
      let o : (linked (linked c p x y u y2) q u v y2 v2).owed ≡ (linked (linked c q u v x v2) p x y v2 y2).owed = joined-shared x y u y2 v v2 c.owed s in
      λ i. record { nodes = a i; partner = b i; owed = o i }

  -- two identities that share none
  pub links-apart : (c : Config S M) (p q : Who) (x y x2 y2 u v u2 v2 : End) → p ≢ q → Off x y x2 y2 u → Off x y x2 y2 v →
      Off x y x2 y2 u2 → Off x y x2 y2 v2 →
      linked (linked c p x y x2 y2) q u v u2 v2 ≡ linked (linked c q u v u2 v2) p x y x2 y2
  links-apart c p q x y x2 y2 u v u2 v2 pq ou ov ou2 ov2 =
      let a : (linked (linked c p x y x2 y2) q u v u2 v2).nodes ≡ (linked (linked c q u v u2 v2) p x y x2 y2).nodes =
      nodes-swap ((q, None) ∷ []) ((p, None) ∷ []) c.nodes (λ w i j. elim i [ inl r ↦ elim j [ inl k ↦ pq (k ∙ sym r) | inr k ↦ k ] | inr r ↦ r ]) in
      let clash : (e : End) → Off x y x2 y2 e → Lies (rewired x y x2 y2) e → ⊥ =
      λ e f l. elim l [ inl i ↦ f.not_x i | inr (inl i) ↦ f.not_y i | inr (inr (inl i)) ↦ f.not_x2 i | inr (inr (inr (inl i))) ↦ f.not_y2 i | inr (inr (inr (inr i))) ↦ absurd i ] in
      let b : (linked (linked c p x y x2 y2) q u v u2 v2).partner ≡ (linked (linked c q u v u2 v2) p x y x2 y2).partner =
      swap_updates same_end same_end-is same_end-refl (rewired u v u2 v2) (rewired x y x2 y2) c.partner (λ e l j. elim l [
        | inl i ↦ clash u ou (subst (Lies (rewired x y x2 y2)) (sym i) j)
        | inr (inl i) ↦ clash v ov (subst (Lies (rewired x y x2 y2)) (sym i) j)
        | inr (inr (inl i)) ↦ clash u2 ou2 (subst (Lies (rewired x y x2 y2)) (sym i) j)
        | inr (inr (inr (inl i))) ↦ clash v2 ov2 (subst (Lies (rewired x y x2 y2)) (sym i) j)
        | inr (inr (inr (inr i))) ↦ absurd i
      ]) in
      let o : (linked (linked c p x y x2 y2) q u v u2 v2).owed ≡ (linked (linked c q u v u2 v2) p x y x2 y2).owed =
      sym (joined-joined x y x2 y2 u v u2 v2 c.owed ou ov ou2 ov2) in
      λ i. record { nodes = a i; partner = b i; owed = o i }
