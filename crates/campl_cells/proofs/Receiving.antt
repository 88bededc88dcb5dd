-- A message that is taken off an end was the first that the end's peer owes.
use Rattle.std.proofs.Common.{◌≡◌, ◌≢◌, ℕ, true, List, ◌∷◌, Option, Some, IsSome, map, option_map, refl, sym, ap, subst, ◌∙◌, if◌then◌else◌}
use Rattle.std.specs.List.{AllByRecursion}
use Rattle.campl_machine.specs.Names.{End, same_end}
use Rattle.campl_machine.specs.Machine.{taken, rest_of}
use Rattle.campl_machine.proofs.Same.{same_end-refl}
use Rattle.campl_machine.proofs.Ends.{apart}
use Rattle.campl_meaning.specs.States.{Message}
use Rattle.campl_cells.specs.Parts.{Mail, Tip, put, or_bare, or_else, owner}
use Rattle.campl_cells.specs.Stands.{named_mail, MailWithin, IsEnd}
use Rattle.campl_cells.proofs.Puts.{put-both, all-wider}
use Rattle.campl_cells.proofs.Tips.{TipsStand, owner-back, owner-there, peer-there, mail-wider}

taken-here : (x : End) (F : End → List Message) (k : End) → x ≡ k → taken true x F k ≡ rest_of (F k)
taken-here x F k q = ap (λ b. if b then rest_of (F k) else F k) (ap (same_end x) (sym q) ∙ same_end-refl x)

taken-else : (x : End) (F : End → List Message) (k : End) → x ≢ k → taken true x F k ≡ F k
taken-else x F k q = ap (λ b. if b then rest_of (F k) else F k) (apart x k q)

module _ (name : ℕ → End) (tip : ℕ → Option Tip) (partner : End → Option End) (owed : End → List Message) (z : TipsStand name tip partner owed)
    (e f : ℕ) (pf : (or_bare (tip e)).peer ≡ Some f) (mail : Mail) (rest : List Mail) (il : (or_bare (tip e)).inbox ≡ mail ∷ rest) where
  abbrev new : Tip
  new = record { peer = Some f; inbox = rest }

  abbrev tip2 : ℕ → Option Tip
  tip2 = put e (Some new) tip

  there : IsSome (tip e)
  there = peer-there (tip e) f pf

  peer : (k : ℕ) → (or_bare (tip2 k)).peer ≡ (or_bare (tip k)).peer
  peer k = put-both (λ k o. (or_bare o).peer ≡ (or_bare (tip k)).peer) e (Some new) tip k (sym pf) (λ n. refl)

  pub taking-keeps : (k : ℕ) → IsSome (tip k) → IsSome (tip2 k)
  taking-keeps k h = put-both (λ k o. IsSome (tip k) → IsSome o) e (Some new) tip k (λ h. refl) (λ n h. h) h

  pub taking-before : (k : ℕ) → IsSome (tip2 k) → IsSome (tip k)
  taking-before k h = put-both (λ k o. IsSome o → IsSome (tip k)) e (Some new) tip k (λ h. there) (λ n h. h) h

  owner-e : owner tip e ≡ f
  owner-e = ap (λ o. or_else o e) pf

  owner-f : owner tip f ≡ e
  owner-f = ap (λ o. or_else o f) (z.peers.back e f pf)

  f-there : IsSome (tip f)
  f-there = peer-there (tip f) e (z.peers.back e f pf)

  within : AllByRecursion (MailWithin (IsEnd tip)) (mail ∷ rest)
  within = subst (AllByRecursion (MailWithin (IsEnd tip))) il (z.carried e)

  owed2 : (k : ℕ) → IsSome (tip2 k) → taken true (name f) owed (name (owner tip2 k)) ≡ map (named_mail name) (or_bare (tip2 k)).inbox
  owed2 k h = put-both (λ k o. IsSome o → taken true (name f) owed (name (or_else (or_bare o).peer k)) ≡ map (named_mail name) (or_bare o).inbox) e (Some new) tip k
      (λ h. taken-here (name f) owed (name f) refl
      ∙ ap (λ (l : List Message). rest_of l) (ap (λ k. owed (name k)) (sym owner-e) ∙ (z.owed_is e there ∙ ap (map (named_mail name)) il)))
      (λ n h. taken-else (name f) owed (name (owner tip k))
      (λ q. n (sym owner-f ∙ (ap (owner tip) (z.one f (owner tip k) f-there (owner-there name tip partner owed z k h) q) ∙ owner-back name tip partner owed z k)))
      ∙ z.owed_is k h)
      h

  pub taking : TipsStand name tip2 partner (taken true (name f) owed)
  taking = record {
    partner_is = λ k h. z.partner_is k (taking-before k h) ∙ ap (option_map name) (sym (peer k));
    owed_is = owed2;
    no_end = λ k h. (
      (z.no_end k (λ g i. h g (taking-keeps g i))).0,
      taken-else (name f) owed k (h f (taking-keeps f f-there)) ∙ (z.no_end k (λ g i. h g (taking-keeps g i))).1,
    );
    one = λ k g h i q. z.one k g (taking-before k h) (taking-before g i) q;
    peers = record {
      back = λ k g q. peer g ∙ z.peers.back k g (sym (peer k) ∙ q);
      other = λ k q. z.peers.other k (sym (peer k) ∙ q);
    };
    carried = λ k. put-both (λ k o. AllByRecursion (MailWithin (IsEnd tip2)) (or_bare o).inbox) e (Some new) tip k
        (all-wider (MailWithin (IsEnd tip)) (MailWithin (IsEnd tip2)) (mail-wider (IsEnd tip) (IsEnd tip2) taking-keeps) rest within.1)
        (λ n. all-wider (MailWithin (IsEnd tip)) (MailWithin (IsEnd tip2)) (mail-wider (IsEnd tip) (IsEnd tip2) taking-keeps) (or_bare (tip k)).inbox (z.carried k));
  }
