-- The ends by number and the machine's channels: what stands for what, apart from processes.
use Rattle.std.proofs.Common.{◌≡◌, ◌≢◌, ℕ, List, [], ◌∷◌, Option, Some, None, IsSome, map, option_map, refl, sym, ap, subst, ◌∙◌, if◌then◌else◌}
use Rattle.std.specs.List.{AllByRecursion}
use Rattle.campl_machine.specs.Names.{End, same_end}
use Rattle.campl_machine.specs.Machine.{update}
use Rattle.campl_machine.specs.Graph.{Mutual}
use Rattle.campl_machine.proofs.Same.{same_end-refl}
use Rattle.campl_machine.proofs.Ends.{apart}
use Rattle.campl_value.specs.declared.message.Message.TheVariants.{Word, Pick, Ends as EndPair}
use Rattle.campl_meaning.specs.States.{Message}
use Rattle.campl_cells.specs.Parts.{Mail, Tip, or_bare, or_else, owner}
use Rattle.campl_cells.specs.Stands.{named_mail, MailWithin, IsEnd}

-- all that parts have to say of the ends of channels
pub record TipsStand (name : ℕ → End) (tip : ℕ → Option Tip) (partner : End → Option End) (owed : End → List Message) : Type 0 where
  pub partner_is : (e : ℕ) → IsSome (tip e) → partner (name e) ≡ option_map name (or_bare (tip e)).peer
  pub owed_is : (e : ℕ) → IsSome (tip e) → owed (name (owner tip e)) ≡ map (named_mail name) (or_bare (tip e)).inbox
  pub no_end : (e : End) → ((k : ℕ) → IsSome (tip k) → name k ≢ e) → (partner e ≡ None) × (owed e ≡ [])
  pub one : (e f : ℕ) → IsSome (tip e) → IsSome (tip f) → name e ≡ name f → e ≡ f
  pub peers : Mutual (λ e. (or_bare (tip e)).peer)
  pub carried : (e : ℕ) → AllByRecursion (MailWithin (IsEnd tip)) (or_bare (tip e)).inbox

-- what has a peer is in use
pub peer-there : (o : Option Tip) (f : ℕ) → (or_bare o).peer ≡ Some f → IsSome o
peer-there None f e = absurd (cc e)
peer-there (Some t) f e = refl

pub mail-wider : (P Q : ℕ → Type 0) → ((e : ℕ) → P e → Q e) → (mail : Mail) → MailWithin P mail → MailWithin Q mail
mail-wider P Q f (Word v) h = tt
mail-wider P Q f (Pick k) h = tt
mail-wider P Q f (EndPair a b) h = (f a h.0, f b h.1)

pub end-here : {V : Type 0} (e f : End) (x : V) (es : List (End × V)) (F : End → V) → e ≡ f → update same_end ((e, x) ∷ es) F f ≡ x
end-here e f x es F q = ap (λ b. if b then x else update same_end es F f) (ap (same_end e) (sym q) ∙ same_end-refl e)

pub end-else : {V : Type 0} (e f : End) (x : V) (es : List (End × V)) (F : End → V) → e ≢ f → update same_end ((e, x) ∷ es) F f ≡ update same_end es F f
end-else e f x es F q = ap (λ b. if b then x else update same_end es F f) (apart e f q)

pub ne : {A : Type 0} (a b : A) → a ≢ b → b ≢ a
ne a b h e = h (sym e)

module _ (name : ℕ → End) (tip : ℕ → Option Tip) (partner : End → Option End) (owed : End → List Message) (z : TipsStand name tip partner owed) where
  -- what lies at e is its owner's, and what lies at the owner is e's
  pub owner-back : (e : ℕ) → owner tip (owner tip e) ≡ e
  owner-back e = go (or_bare (tip e)).peer refl
    where
      go : (o : Option ℕ) → (or_bare (tip e)).peer ≡ o → owner tip (owner tip e) ≡ e
      go None k = ap (λ q. or_else (or_bare (tip (or_else q e))).peer (or_else q e)) k ∙ ap (λ q. or_else q e) k
      go (Some f) k = ap (λ q. or_else (or_bare (tip (or_else q e))).peer (or_else q e)) k ∙ ap (λ q. or_else q f) (z.peers.back e f k)

  pub owner-there : (e : ℕ) → IsSome (tip e) → IsSome (tip (owner tip e))
  owner-there e h = go (or_bare (tip e)).peer refl
    where
      go : (o : Option ℕ) → (or_bare (tip e)).peer ≡ o → IsSome (tip (owner tip e))
      go None k = subst (λ q. IsSome (tip (or_else q e))) (sym k) h
      go (Some f) k = subst (λ q. IsSome (tip (or_else q e))) (sym k) (peer-there (tip f) e (z.peers.back e f k))
