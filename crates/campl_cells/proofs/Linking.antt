-- An identity: its two ends are given up, and their peers become peers.
use Rattle.std.proofs.Common.{◌≡◌, ◌≢◌, ℕ, List, [], ◌∷◌, ◌++◌, Option, Some, None, IsSome, map, option_map, refl, sym, ap, ap₂, subst, ◌∙◌}
use Rattle.std.specs.List.{AllByRecursion}
use Rattle.std.proofs.lemmas.List.{map-append}
use Rattle.campl_machine.specs.Names.{End, same_end}
use Rattle.campl_machine.specs.Machine.{update, rewired, joined}
use Rattle.campl_meaning.specs.States.{Message}
use Rattle.campl_cells.specs.Parts.{Mail, Tip, put, bare, or_bare, or_else, owner}
use Rattle.campl_cells.specs.Steps.{meets}
use Rattle.campl_cells.specs.Stands.{named_mail, MailWithin, IsEnd}
use Rattle.campl_cells.proofs.Puts.{put-both, put-here, put-else, all-append, all-wider}
use Rattle.campl_cells.proofs.Tips.{TipsStand, owner-back, owner-there, peer-there, mail-wider, ne, end-here, end-else}

-- four updates, read at each of the four ends and elsewhere
module _ {V : Type 0} (x y r t : End) (xy : x ≢ y) (xr : x ≢ r) (yr : y ≢ r) (xt : x ≢ t) (yt : y ≢ t) (rt : r ≢ t) (a b u v : V) (F : End → V) where
  abbrev four : List (End × V)
  four = (x, a) ∷ (y, b) ∷ (r, u) ∷ (t, v) ∷ []

  four-x : update same_end four F x ≡ a
  four-x = end-here x x a ((y, b) ∷ (r, u) ∷ (t, v) ∷ []) F refl

  four-y : update same_end four F y ≡ b
  four-y = end-else x y a ((y, b) ∷ (r, u) ∷ (t, v) ∷ []) F xy ∙ end-here y y b ((r, u) ∷ (t, v) ∷ []) F refl

  four-r : update same_end four F r ≡ u
  four-r = end-else x r a ((y, b) ∷ (r, u) ∷ (t, v) ∷ []) F xr ∙ (end-else y r b ((r, u) ∷ (t, v) ∷ []) F yr ∙ end-here r r u ((t, v) ∷ []) F refl)

  four-t : update same_end four F t ≡ v
  four-t = end-else x t a ((y, b) ∷ (r, u) ∷ (t, v) ∷ []) F xt ∙ (end-else y t b ((r, u) ∷ (t, v) ∷ []) F yt ∙ (end-else r t u ((t, v) ∷ []) F rt ∙ end-here t t v [] F refl))

  four-else : (k : End) → x ≢ k → y ≢ k → r ≢ k → t ≢ k → update same_end four F k ≡ F k
  four-else k nx ny nr nt = end-else x k a ((y, b) ∷ (r, u) ∷ (t, v) ∷ []) F nx ∙ (end-else y k b ((r, u) ∷ (t, v) ∷ []) F ny ∙ (end-else r k u ((t, v) ∷ []) F nr ∙ end-else t k v [] F nt))

module _ (name : ℕ → End) (tip : ℕ → Option Tip) (partner : End → Option End) (owed : End → List Message) (z : TipsStand name tip partner owed)
    (x y x2 y2 : ℕ) (px : (or_bare (tip x)).peer ≡ Some x2) (py : (or_bare (tip y)).peer ≡ Some y2) (xy : x ≢ y) (x2y : x2 ≢ y) where
  px2 : (or_bare (tip x2)).peer ≡ Some x
  px2 = z.peers.back x x2 px

  py2 : (or_bare (tip y2)).peer ≡ Some y
  py2 = z.peers.back y y2 py

  hx : IsSome (tip x)
  hx = peer-there (tip x) x2 px

  hy : IsSome (tip y)
  hy = peer-there (tip y) y2 py

  hx2 : IsSome (tip x2)
  hx2 = peer-there (tip x2) x px2

  hy2 : IsSome (tip y2)
  hy2 = peer-there (tip y2) y py2

  xx2 : x ≢ x2
  xx2 e = z.peers.other x (subst (λ k. (or_bare (tip x)).peer ≡ Some k) (sym e) px)

  yy2 : y ≢ y2
  yy2 e = z.peers.other y (subst (λ k. (or_bare (tip y)).peer ≡ Some k) (sym e) py)

  xy2 : x ≢ y2
  xy2 e = x2y (let q : Some x2 ≡ Some y = sym px ∙ (ap (λ k. (or_bare (tip k)).peer) e ∙ py2) in let r : x2 ≡ y = cc q in r)

  x2y2 : x2 ≢ y2
  x2y2 e = xy (let q : Some x ≡ Some y = sym px2 ∙ (ap (λ k. (or_bare (tip k)).peer) e ∙ py2) in let r : x ≡ y = cc q in r)

  abbrev tx : Tip
  tx = meets (or_bare (tip x2)) y2 (or_bare (tip y))

  abbrev ty : Tip
  ty = meets (or_bare (tip y2)) x2 (or_bare (tip x))

  abbrev tip2 : ℕ → Option Tip
  tip2 = put y2 (Some ty) (put x2 (Some tx) (put y (Some bare) (put x (Some bare) tip)))

  -- what holds of the four ends and of each other holds of all
  each : (P : ℕ → Option Tip → Type 0) → P x (Some bare) → P y (Some bare) → P x2 (Some tx) → P y2 (Some ty) → ((k : ℕ) → x ≢ k → y ≢ k → x2 ≢ k → y2 ≢ k → P k (tip k)) → (k : ℕ) → P k (tip2 k)
  each P ax ay ax2 ay2 h k =
      put-both P y2 (Some ty) (put x2 (Some tx) (put y (Some bare) (put x (Some bare) tip))) k ay2
      (λ ny2. put-both P x2 (Some tx) (put y (Some bare) (put x (Some bare) tip)) k ax2
      (λ nx2. put-both P y (Some bare) (put x (Some bare) tip) k ay (λ ny. put-both P x (Some bare) tip k ax (λ nx. h k nx ny nx2 ny2))))

  keeps : (k : ℕ) → IsSome (tip k) → IsSome (tip2 k)
  keeps = each (λ k o. IsSome (tip k) → IsSome o) (λ h. refl) (λ h. refl) (λ h. refl) (λ h. refl) (λ k nx ny nx2 ny2 h. h)

  before : (k : ℕ) → IsSome (tip2 k) → IsSome (tip k)
  before = each (λ k o. IsSome o → IsSome (tip k)) (λ h. hx) (λ h. hy) (λ h. hx2) (λ h. hy2) (λ k nx ny nx2 ny2 h. h)

  -- different numbers in use have different names
  named-apart : (e f : ℕ) → IsSome (tip e) → IsSome (tip f) → e ≢ f → name e ≢ name f
  named-apart e f he hf n q = n (z.one e f he hf q)

  nxy : name x ≢ name y
  nxy = named-apart x y hx hy xy

  nxx2 : name x ≢ name x2
  nxx2 = named-apart x x2 hx hx2 xx2

  nxy2 : name x ≢ name y2
  nxy2 = named-apart x y2 hx hy2 xy2

  nyx2 : name y ≢ name x2
  nyx2 = named-apart y x2 hy hx2 (ne x2 y x2y)

  nyy2 : name y ≢ name y2
  nyy2 = named-apart y y2 hy hy2 yy2

  nx2y2 : name x2 ≢ name y2
  nx2y2 = named-apart x2 y2 hx2 hy2 x2y2

  abbrev O : ℕ → List Message
  O k = owed (name k)

  abbrev partner2 : End → Option End
  partner2 = update same_end (rewired (name x) (name y) (name x2) (name y2)) partner

  abbrev owed2 : End → List Message
  owed2 = joined (name x) (name y) (name x2) (name y2) owed

  -- the other ends' owners are others
  others : (k : ℕ) → x ≢ k → y ≢ k → x2 ≢ k → y2 ≢ k → (x ≢ owner tip k) × (y ≢ owner tip k) × (x2 ≢ owner tip k) × (y2 ≢ owner tip k)
  others k nx ny nx2 ny2 =
      let back = owner-back name tip partner owed z k in (
        (λ e. nx2 (sym (ap (λ o. or_else o x) px) ∙ (ap (owner tip) e ∙ back))),
        (λ e. ny2 (sym (ap (λ o. or_else o y) py) ∙ (ap (owner tip) e ∙ back))),
        (λ e. nx (sym (ap (λ o. or_else o x2) px2) ∙ (ap (owner tip) e ∙ back))),
        (λ e. ny (sym (ap (λ o. or_else o y2) py2) ∙ (ap (owner tip) e ∙ back))),
      )

  partner-is : (k : ℕ) → IsSome (tip2 k) → partner2 (name k) ≡ option_map name (or_bare (tip2 k)).peer
  partner-is =
      each (λ k o. IsSome o → partner2 (name k) ≡ option_map name (or_bare o).peer)
      (λ h. four-x (name x) (name y) (name x2) (name y2) nxy nxx2 nyx2 nxy2 nyy2 nx2y2 None None (Some (name y2)) (Some (name x2)) partner)
      (λ h. four-y (name x) (name y) (name x2) (name y2) nxy nxx2 nyx2 nxy2 nyy2 nx2y2 None None (Some (name y2)) (Some (name x2)) partner)
      (λ h. four-r (name x) (name y) (name x2) (name y2) nxy nxx2 nyx2 nxy2 nyy2 nx2y2 None None (Some (name y2)) (Some (name x2)) partner)
      (λ h. four-t (name x) (name y) (name x2) (name y2) nxy nxx2 nyx2 nxy2 nyy2 nx2y2 None None (Some (name y2)) (Some (name x2)) partner)
      (λ k nx ny nx2 ny2 h.
      four-else (name x) (name y) (name x2) (name y2) nxy nxx2 nyx2 nxy2 nyy2 nx2y2 None None (Some (name y2)) (Some (name x2)) partner (name k)
      (named-apart x k hx h nx) (named-apart y k hy h ny) (named-apart x2 k hx2 h nx2) (named-apart y2 k hy2 h ny2)
      ∙ z.partner_is k h)

  -- what each end of the four owes lies at its peer
  lies : (e f : ℕ) → IsSome (tip e) → (or_bare (tip e)).peer ≡ Some f → O f ≡ map (named_mail name) (or_bare (tip e)).inbox
  lies e f h q = ap (λ o. O (or_else o e)) (sym q) ∙ z.owed_is e h

  owed-is : (k : ℕ) → IsSome (tip2 k) → owed2 (name (owner tip2 k)) ≡ map (named_mail name) (or_bare (tip2 k)).inbox
  owed-is =
      each (λ k o. IsSome o → owed2 (name (or_else (or_bare o).peer k)) ≡ map (named_mail name) (or_bare o).inbox)
      (λ h. four-x (name x) (name y) (name y2) (name x2) nxy nxy2 nyy2 nxx2 nyx2 (ne (name x2) (name y2) nx2y2) [] [] (O x ++ O y2) (O y ++ O x2) owed)
      (λ h. four-y (name x) (name y) (name y2) (name x2) nxy nxy2 nyy2 nxx2 nyx2 (ne (name x2) (name y2) nx2y2) [] [] (O x ++ O y2) (O y ++ O x2) owed)
      (λ h. four-r (name x) (name y) (name y2) (name x2) nxy nxy2 nyy2 nxx2 nyx2 (ne (name x2) (name y2) nx2y2) [] [] (O x ++ O y2) (O y ++ O x2) owed
      ∙ (ap₂ ◌++◌ (lies x2 x hx2 px2) (lies y y2 hy py) ∙ sym (map-append (named_mail name) (or_bare (tip x2)).inbox (or_bare (tip y)).inbox)))
      (λ h. four-t (name x) (name y) (name y2) (name x2) nxy nxy2 nyy2 nxx2 nyx2 (ne (name x2) (name y2) nx2y2) [] [] (O x ++ O y2) (O y ++ O x2) owed
      ∙ (ap₂ ◌++◌ (lies y2 y hy2 py2) (lies x x2 hx px) ∙ sym (map-append (named_mail name) (or_bare (tip y2)).inbox (or_bare (tip x)).inbox)))
      (λ k nx ny nx2 ny2 h.
      let o = others k nx ny nx2 ny2 in
      let ho = owner-there name tip partner owed z k h in
      four-else (name x) (name y) (name y2) (name x2) nxy nxy2 nyy2 nxx2 nyx2 (ne (name x2) (name y2) nx2y2) [] [] (O x ++ O y2) (O y ++ O x2) owed (name (owner tip k))
      (named-apart x (owner tip k) hx ho o.0) (named-apart y (owner tip k) hy ho o.1) (named-apart y2 (owner tip k) hy2 ho o.3) (named-apart x2 (owner tip k) hx2 ho o.2)
      ∙ z.owed_is k h)

  at-y2 : (or_bare (tip2 y2)).peer ≡ Some x2
  at-y2 = ap (λ o. (or_bare o).peer) (put-here y2 (Some ty) (put x2 (Some tx) (put y (Some bare) (put x (Some bare) tip))))

  at-x2 : (or_bare (tip2 x2)).peer ≡ Some y2
  at-x2 = ap (λ o. (or_bare o).peer) (put-else y2 x2 (Some ty) (put x2 (Some tx) (put y (Some bare) (put x (Some bare) tip))) (ne x2 y2 x2y2) ∙ put-here x2 (Some tx) (put y (Some bare) (put x (Some bare) tip)))

  elsewhere : (k : ℕ) → x ≢ k → y ≢ k → x2 ≢ k → y2 ≢ k → tip2 k ≡ tip k
  elsewhere k nx ny nx2 ny2 = put-else y2 k (Some ty) (put x2 (Some tx) (put y (Some bare) (put x (Some bare) tip))) ny2
      ∙ (put-else x2 k (Some tx) (put y (Some bare) (put x (Some bare) tip)) nx2 ∙ (put-else y k (Some bare) (put x (Some bare) tip) ny ∙ put-else x k (Some bare) tip nx))

  abbrev Back : ℕ → Option Tip → Type 0
  Back k o = (f : ℕ) → (or_bare o).peer ≡ Some f → (or_bare (tip2 f)).peer ≡ Some k

  back : (k : ℕ) → Back k (tip2 k)
  back = each Back
      (λ f e. absurd (cc e))
      (λ f e. absurd (cc e))
      (λ f e. let q : y2 ≡ f = cc e in subst (λ f. (or_bare (tip2 f)).peer ≡ Some x2) q at-y2)
      (λ f e. let q : x2 ≡ f = cc e in subst (λ f. (or_bare (tip2 f)).peer ≡ Some y2) q at-x2)
      (λ k nx ny nx2 ny2 f e.
      let o = others k nx ny nx2 ny2 in
      let q : owner tip k ≡ f = ap (λ o. or_else o k) e in
      ap (λ o. (or_bare o).peer) (elsewhere f (λ r. o.0 (r ∙ sym q)) (λ r. o.1 (r ∙ sym q)) (λ r. o.2 (r ∙ sym q)) (λ r. o.3 (r ∙ sym q))) ∙ z.peers.back k f e)

  wider : (xs : List Mail) → AllByRecursion (MailWithin (IsEnd tip)) xs → AllByRecursion (MailWithin (IsEnd tip2)) xs
  wider = all-wider (MailWithin (IsEnd tip)) (MailWithin (IsEnd tip2)) (mail-wider (IsEnd tip) (IsEnd tip2) keeps)

  pub linking-keeps : (k : ℕ) → IsSome (tip k) → IsSome (tip2 k)
  linking-keeps = keeps

  pub linking : TipsStand name tip2 partner2 owed2
  linking = record {
    partner_is = partner-is;
    owed_is = owed-is;
    no_end = λ e h. (
      four-else (name x) (name y) (name x2) (name y2) nxy nxx2 nyx2 nxy2 nyy2 nx2y2 None None (Some (name y2)) (Some (name x2)) partner e
          (h x (keeps x hx)) (h y (keeps y hy)) (h x2 (keeps x2 hx2)) (h y2 (keeps y2 hy2)) ∙ (z.no_end e (λ k i. h k (keeps k i))).0,
      four-else (name x) (name y) (name y2) (name x2) nxy nxy2 nyy2 nxx2 nyx2 (ne (name x2) (name y2) nx2y2) [] [] (O x ++ O y2) (O y ++ O x2) owed e
          (h x (keeps x hx)) (h y (keeps y hy)) (h y2 (keeps y2 hy2)) (h x2 (keeps x2 hx2)) ∙ (z.no_end e (λ k i. h k (keeps k i))).1,
    );
    one = λ e f h i q. z.one e f (before e h) (before f i) q;
    peers = record {
      back = λ e f q. back e f q;
      other = each (λ k o. (or_bare o).peer ≢ Some k)
          (λ q. let r : ⊥ = cc q in r)
          (λ q. let r : ⊥ = cc q in r)
          (λ q. x2y2 (let r : y2 ≡ x2 = cc q in sym r))
          (λ q. x2y2 (let r : x2 ≡ y2 = cc q in r))
          (λ k nx ny nx2 ny2. z.peers.other k);
    };
    carried = each (λ k o. AllByRecursion (MailWithin (IsEnd tip2)) (or_bare o).inbox)
        tt
        tt
        (all-append (MailWithin (IsEnd tip2)) (or_bare (tip x2)).inbox (or_bare (tip y)).inbox (wider (or_bare (tip x2)).inbox (z.carried x2)) (wider (or_bare (tip y)).inbox (z.carried y)))
        (all-append (MailWithin (IsEnd tip2)) (or_bare (tip y2)).inbox (or_bare (tip x)).inbox (wider (or_bare (tip y2)).inbox (z.carried y2)) (wider (or_bare (tip x)).inbox (z.carried x)))
        (λ k nx ny nx2 ny2. wider (or_bare (tip k)).inbox (z.carried k));
  }

  pub linking-before : (k : ℕ) → IsSome (tip2 k) → IsSome (tip k)
  linking-before = before
