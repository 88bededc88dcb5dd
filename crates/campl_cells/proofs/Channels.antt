-- A channel that is born has two new ends, whose names are new.
use Rattle.std.proofs.Common.{◌≡◌, ◌≢◌, ℕ, List, Option, Some, None, IsSome, map, option_map, refl, sym, ap, subst, ◌∙◌}
use Rattle.std.specs.List.{AllByRecursion}
use Rattle.campl_machine.specs.Names.{End}
use Rattle.campl_meaning.specs.States.{Message}
use Rattle.campl_cells.specs.Parts.{Mail, Tip, put, or_bare, or_else}
use Rattle.campl_cells.specs.Steps.{joined_to}
use Rattle.campl_cells.specs.Stands.{named_mail, MailWithin, IsEnd}
use Rattle.campl_cells.proofs.Puts.{put-both, put-here, put-else, all-wider, not-free}
use Rattle.campl_cells.proofs.Tips.{TipsStand, peer-there, mail-wider, ne}

module _ (name : ℕ → End) (tip : ℕ → Option Tip) (partner partner2 : End → Option End) (owed : End → List Message) (z : TipsStand name tip partner owed)
    (a b : ℕ) (free_a : tip a ≡ None) (free_b : tip b ≡ None) (ab : a ≢ b)
    (new_a : (k : ℕ) → IsSome (tip k) → name k ≢ name a) (new_b : (k : ℕ) → IsSome (tip k) → name k ≢ name b) (two : name a ≢ name b)
    (at_a : partner2 (name a) ≡ Some (name b)) (at_b : partner2 (name b) ≡ Some (name a)) (others : (e : End) → name a ≢ e → name b ≢ e → partner2 e ≡ partner e) where
  abbrev tip2 : ℕ → Option Tip
  tip2 = put b (Some (joined_to a)) (put a (Some (joined_to b)) tip)

  -- what holds of the two new ends and of the others holds of all
  each : (P : ℕ → Option Tip → Type 0) → P a (Some (joined_to b)) → P b (Some (joined_to a)) → ((k : ℕ) → a ≢ k → b ≢ k → P k (tip k)) → (k : ℕ) → P k (tip2 k)
  each P ha hb h k = put-both P b (Some (joined_to a)) (put a (Some (joined_to b)) tip) k hb (λ nb. put-both P a (Some (joined_to b)) tip k ha (λ na. h k na nb))

  at-a : tip2 a ≡ Some (joined_to b)
  at-a = put-else b a (Some (joined_to a)) (put a (Some (joined_to b)) tip) (ne a b ab) ∙ put-here a (Some (joined_to b)) tip

  at-b : tip2 b ≡ Some (joined_to a)
  at-b = put-here b (Some (joined_to a)) (put a (Some (joined_to b)) tip)

  pub born-near : IsSome (tip2 a)
  born-near = subst IsSome (sym at-a) refl

  pub born-far : IsSome (tip2 b)
  born-far = subst IsSome (sym at-b) refl

  elsewhere : (k : ℕ) → IsSome (tip k) → tip2 k ≡ tip k
  elsewhere k h = put-else b k (Some (joined_to a)) (put a (Some (joined_to b)) tip) (not-free tip b k free_b h) ∙ put-else a k (Some (joined_to b)) tip (not-free tip a k free_a h)

  pub born-keeps : (k : ℕ) → IsSome (tip k) → IsSome (tip2 k)
  born-keeps k h = subst IsSome (sym (elsewhere k h)) h

  wider : (xs : List Mail) → AllByRecursion (MailWithin (IsEnd tip)) xs → AllByRecursion (MailWithin (IsEnd tip2)) xs
  wider = all-wider (MailWithin (IsEnd tip)) (MailWithin (IsEnd tip2)) (mail-wider (IsEnd tip) (IsEnd tip2) born-keeps)

  abbrev One : ℕ → Option Tip → Type 0
  One e o = IsSome o → (f : ℕ) → IsSome (tip2 f) → name e ≡ name f → e ≡ f

  one : (e : ℕ) → One e (tip2 e)
  one = each One
      (λ h. each (λ f o. IsSome o → name a ≡ name f → a ≡ f) (λ h q. refl) (λ h q. absurd (two q)) (λ k na nb h q. absurd (new_a k h (sym q))))
      (λ h. each (λ f o. IsSome o → name b ≡ name f → b ≡ f) (λ h q. absurd (two (sym q))) (λ h q. refl) (λ k na nb h q. absurd (new_b k h (sym q))))
      (λ e na nb h. each (λ f o. IsSome o → name e ≡ name f → e ≡ f) (λ i q. absurd (new_a e h q)) (λ i q. absurd (new_b e h q)) (λ f ma mb i q. z.one e f h i q))

  abbrev Back : ℕ → Option Tip → Type 0
  Back e o = (f : ℕ) → (or_bare o).peer ≡ Some f → (or_bare (tip2 f)).peer ≡ Some e

  back : (e : ℕ) → Back e (tip2 e)
  back = each Back
      (λ f q. let r : b ≡ f = cc q in subst (λ f. (or_bare (tip2 f)).peer ≡ Some a) r (ap (λ o. (or_bare o).peer) at-b))
      (λ f q. let r : a ≡ f = cc q in subst (λ f. (or_bare (tip2 f)).peer ≡ Some b) r (ap (λ o. (or_bare o).peer) at-a))
      (λ k na nb f q. let r = z.peers.back k f q in ap (λ o. (or_bare o).peer) (elsewhere f (peer-there (tip f) k r)) ∙ r)

  pub bearing : TipsStand name tip2 partner2 owed
  bearing = record {
    partner_is = each (λ k o. IsSome o → partner2 (name k) ≡ option_map name (or_bare o).peer) (λ h. at_a) (λ h. at_b)
        (λ k na nb h. others (name k) (ne (name k) (name a) (new_a k h)) (ne (name k) (name b) (new_b k h)) ∙ z.partner_is k h);
    owed_is = each (λ k o. IsSome o → owed (name (or_else (or_bare o).peer k)) ≡ map (named_mail name) (or_bare o).inbox)
        (λ h. (z.no_end (name b) new_b).1) (λ h. (z.no_end (name a) new_a).1) (λ k na nb h. z.owed_is k h);
    no_end = λ e h. (
      others e (h a born-near) (h b born-far) ∙ (z.no_end e (λ k i. h k (born-keeps k i))).0,
      (z.no_end e (λ k i. h k (born-keeps k i))).1,
    );
    one = λ e f h i q. one e h f i q;
    peers = record {
      back = λ e f q. back e f q;
      other = each (λ k o. (or_bare o).peer ≢ Some k) (λ q. ab (let r : b ≡ a = cc q in sym r)) (λ q. ab (let r : a ≡ b = cc q in r)) (λ k na nb. z.peers.other k);
    };
    carried = each (λ k o. AllByRecursion (MailWithin (IsEnd tip2)) (or_bare o).inbox) tt tt (λ k na nb. wider (or_bare (tip k)).inbox (z.carried k));
  }
