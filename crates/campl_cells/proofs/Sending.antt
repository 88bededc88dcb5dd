-- A message that is sent lies behind the others at the end whose owner sent it.
use Rattle.std.proofs.Common.{◌≡◌, ◌≢◌, ℕ, List, [], ◌∷◌, ◌++◌, Option, Some, IsSome, map, option_map, refl, sym, ap, ◌∙◌, if◌then◌else◌}
use Rattle.std.specs.List.{AllByRecursion}
use Rattle.std.proofs.lemmas.List.{map-append}
use Rattle.campl_machine.specs.Names.{End, same_end}
use Rattle.campl_machine.specs.Machine.{sent}
use Rattle.campl_machine.proofs.Same.{same_end-refl}
use Rattle.campl_machine.proofs.Ends.{apart}
use Rattle.campl_meaning.specs.States.{Message}
use Rattle.campl_cells.specs.Parts.{Mail, Tip, put, or_bare, or_else, owner}
use Rattle.campl_cells.specs.Steps.{arrives}
use Rattle.campl_cells.specs.Stands.{named_mail, MailWithin, IsEnd}
use Rattle.campl_cells.proofs.Puts.{put-both, all-append, all-wider}
use Rattle.campl_cells.proofs.Tips.{TipsStand, owner-back, owner-there, mail-wider}

sent-here : (x : End) (v : Message) (F : End → List Message) (k : End) → x ≡ k → sent (Some (x, v)) F k ≡ F k ++ v ∷ []
sent-here x v F k q = ap (λ b. if b then F k ++ v ∷ [] else F k) (ap (same_end x) (sym q) ∙ same_end-refl x)

sent-else : (x : End) (v : Message) (F : End → List Message) (k : End) → x ≢ k → sent (Some (x, v)) F k ≡ F k
sent-else x v F k q = ap (λ b. if b then F k ++ v ∷ [] else F k) (apart x k q)

module _ (name : ℕ → End) (tip : ℕ → Option Tip) (partner : End → Option End) (owed : End → List Message) (z : TipsStand name tip partner owed)
    (e : ℕ) (there : IsSome (tip e)) (mail : Mail) (within : MailWithin (IsEnd tip) mail) where
  abbrev to : ℕ
  to = owner tip e

  abbrev new : Tip
  new = arrives mail (or_bare (tip to))

  abbrev tip2 : ℕ → Option Tip
  tip2 = put to (Some new) tip

  to-there : IsSome (tip to)
  to-there = owner-there name tip partner owed z e there

  peer : (f : ℕ) → (or_bare (tip2 f)).peer ≡ (or_bare (tip f)).peer
  peer f = put-both (λ k o. (or_bare o).peer ≡ (or_bare (tip k)).peer) to (Some new) tip f refl (λ n. refl)

  pub sent-keeps : (f : ℕ) → IsSome (tip f) → IsSome (tip2 f)
  sent-keeps f h = put-both (λ k o. IsSome (tip k) → IsSome o) to (Some new) tip f (λ h. refl) (λ n h. h) h

  before : (f : ℕ) → IsSome (tip2 f) → IsSome (tip f)
  before f h = put-both (λ k o. IsSome o → IsSome (tip k)) to (Some new) tip f (λ h. to-there) (λ n h. h) h

  owed2 : (f : ℕ) → IsSome (tip2 f) → sent (Some (name e, named_mail name mail)) owed (name (owner tip2 f)) ≡ map (named_mail name) (or_bare (tip2 f)).inbox
  owed2 f h = put-both (λ k o. IsSome o → sent (Some (name e, named_mail name mail)) owed (name (or_else (or_bare o).peer k)) ≡ map (named_mail name) (or_bare o).inbox) to (Some new) tip f
      (λ h. sent-here (name e) (named_mail name mail) owed (name (owner tip to)) (ap name (sym (owner-back name tip partner owed z e)))
      ∙ (ap (λ l. l ++ named_mail name mail ∷ []) (z.owed_is to to-there) ∙ sym (map-append (named_mail name) (or_bare (tip to)).inbox (mail ∷ []))))
      (λ n h. sent-else (name e) (named_mail name mail) owed (name (owner tip f))
      (λ q. n (ap (owner tip) (z.one e (owner tip f) there (owner-there name tip partner owed z f h) q) ∙ owner-back name tip partner owed z f))
      ∙ z.owed_is f h)
      h

  pub sending : TipsStand name tip2 partner (sent (Some (name e, named_mail name mail)) owed)
  sending = record {
    partner_is = λ f h. z.partner_is f (before f h) ∙ ap (option_map name) (sym (peer f));
    owed_is = owed2;
    no_end = λ k h. (
      (z.no_end k (λ f i. h f (sent-keeps f i))).0,
      sent-else (name e) (named_mail name mail) owed k (h e (sent-keeps e there)) ∙ (z.no_end k (λ f i. h f (sent-keeps f i))).1,
    );
    one = λ f g h i q. z.one f g (before f h) (before g i) q;
    peers = record {
      back = λ f g q. peer g ∙ z.peers.back f g (sym (peer f) ∙ q);
      other = λ f q. z.peers.other f (sym (peer f) ∙ q);
    };
    carried = λ f. put-both (λ k o. AllByRecursion (MailWithin (IsEnd tip2)) (or_bare o).inbox) to (Some new) tip f
        (all-append (MailWithin (IsEnd tip2)) (or_bare (tip to)).inbox (mail ∷ [])
        (all-wider (MailWithin (IsEnd tip)) (MailWithin (IsEnd tip2)) (mail-wider (IsEnd tip) (IsEnd tip2) sent-keeps) (or_bare (tip to)).inbox (z.carried to))
        (mail-wider (IsEnd tip) (IsEnd tip2) sent-keeps mail within, tt))
        (λ n. all-wider (MailWithin (IsEnd tip)) (MailWithin (IsEnd tip2)) (mail-wider (IsEnd tip) (IsEnd tip2) sent-keeps) (or_bare (tip f)).inbox (z.carried f));
  }
