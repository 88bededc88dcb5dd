-- Which messages suit a service.
use Rattle.std.proofs.Common.{◌≡◌, ℕ, zero, suc, Bool, true, false, List, [], ◌∷◌, Option, Some, None, IsSome, is_some, option_map, refl, sym, ap, subst, ◌∙◌, true≢false, nat_lt, ltb-true}
use Rattle.campl_value.specs.Text.{chars_of}
use Rattle.campl_value.specs.declared.message.Message.{Message}
use Rattle.campl_value.specs.declared.message.Message.TheVariants as m
use Rattle.campl_service.specs.declared.phase.ServiceKind.{ServiceKind}
use Rattle.campl_service.specs.declared.phase.ServiceKind.TheVariants.{Console, Terminal}
use Rattle.campl_service.specs.declared.phase.Phase.{Phase}
use Rattle.campl_service.specs.declared.phase.Phase.TheVariants as p
use Rattle.campl_service.specs.declared.phase.Want.TheVariants as w
use Rattle.campl_service.specs.Scripts.{Lines}
use Rattle.campl_service.specs.Services.{Serving, Suits, action_in, asked, request, took, want, want_in}
use Rattle.campl_cells.specs.Wants.{hears, served}
use Rattle.campl_parts.specs.Serving.{IsSuited, is_request, is_text}

pick-phase : (x : Phase) (lines : Lines) → w.Pick ≡ want_in x lines → x ≡ p.Pick
pick-phase p.Pick lines e = refl
pick-phase p.Text lines e = absurd (let z : ⊥ = cc in z)
pick-phase p.Send [] e = absurd (let z : ⊥ = cc in z)
pick-phase p.Send (l ∷ ls) e = absurd (let z : ⊥ = cc in z)
pick-phase p.Closed lines e = absurd (let z : ⊥ = cc in z)

text-phase : (x : Phase) (lines : Lines) → w.Text ≡ want_in x lines → x ≡ p.Text
text-phase p.Pick lines e = absurd (let z : ⊥ = cc in z)
text-phase p.Text lines e = refl
text-phase p.Send [] e = absurd (let z : ⊥ = cc in z)
text-phase p.Send (l ∷ ls) e = absurd (let z : ⊥ = cc in z)
text-phase p.Closed lines e = absurd (let z : ⊥ = cc in z)

no-request : (kind : ServiceKind) (n : ℕ) → nat_lt n 3 ≡ false → request kind n ≡ None
no-request kind zero e = absurd (true≢false e)
no-request kind (suc zero) e = absurd (true≢false e)
no-request kind (suc (suc zero)) e = absurd (true≢false e)
no-request Console (suc (suc (suc n))) e = refl
no-request Terminal (suc (suc (suc n))) e = refl

no-pick : (s : Serving) (message : Message) → is_request message ≡ false → action_in p.Pick s (Some message) ≡ None
no-pick s (m.Word v) e = refl
no-pick s (m.Pick n) e = ap (asked s) (no-request s.kind n e)
no-pick s (m.Ends a b) e = refl

pick-true : (message : Message) → is_request message ≡ true → Suits w.Pick (Some message)
pick-true (m.Word v) e = absurd (true≢false (sym e))
pick-true (m.Pick n) e = ltb-true n 3 e
pick-true (m.Ends a b) e = absurd (true≢false (sym e))

none-took : (s : Serving) (o : Option (List ℕ)) → is_some o ≡ false → took s o ≡ None
none-took s None e = refl
none-took s (Some cs) e = absurd (true≢false e)

no-text : (s : Serving) (message : Message) → is_text message ≡ false → action_in p.Text s (Some message) ≡ None
no-text s (m.Word v) e = none-took s (chars_of v) e
no-text s (m.Pick n) e = refl
no-text s (m.Ends a b) e = refl

some-is : (o : Option (List ℕ)) → is_some o ≡ true → IsSome o
some-is None e = absurd (true≢false (sym e))
some-is (Some cs) e = refl

text-true : (message : Message) → is_text message ≡ true → Suits w.Text (Some message)
text-true (m.Word v) e = some-is (chars_of v) e
text-true (m.Pick n) e = absurd (true≢false (sym e))
text-true (m.Ends a b) e = absurd (true≢false (sym e))

in-phase : (s : Serving) (message : Message) (x : Phase) → s.phase ≡ x → action_in x s (Some message) ≡ None → (e : ℕ) → hears e s message ≡ None
in-phase s message x h a e = ap (λ y. option_map (served e) (action_in y s (Some message))) h ∙ ap (option_map (served e)) a

pub suits-pick : (b : Bool) (s : Serving) (message : Message) → b ≡ is_request message → w.Pick ≡ want s → IsSuited b s message
suits-pick true s message e h = subst (λ x. Suits x (Some message)) h (pick-true message (sym e))
suits-pick false s message e h = in-phase s message p.Pick (pick-phase s.phase s.script h) (no-pick s message (sym e))

pub suits-text : (b : Bool) (s : Serving) (message : Message) → b ≡ is_text message → w.Text ≡ want s → IsSuited b s message
suits-text true s message e h = subst (λ x. Suits x (Some message)) h (text-true message (sym e))
suits-text false s message e h = in-phase s message p.Text (text-phase s.phase s.script h) (no-text s message (sym e))

sends-none : (s : Serving) (message : Message) (x : Phase) (lines : Lines) → w.Send ≡ want_in x lines → action_in x s (Some message) ≡ None
sends-none s message p.Pick lines e = absurd (let z : ⊥ = cc in z)
sends-none s message p.Text lines e = absurd (let z : ⊥ = cc in z)
sends-none s message p.Send lines e = refl
sends-none s message p.Closed lines e = absurd (let z : ⊥ = cc in z)

spent-none : (s : Serving) (message : Message) (x : Phase) (lines : Lines) → w.Spent ≡ want_in x lines → action_in x s (Some message) ≡ None
spent-none s message p.Pick lines e = absurd (let z : ⊥ = cc in z)
spent-none s message p.Text lines e = absurd (let z : ⊥ = cc in z)
spent-none s message p.Send lines e = refl
spent-none s message p.Closed lines e = absurd (let z : ⊥ = cc in z)

closed-none : (s : Serving) (message : Message) (x : Phase) (lines : Lines) → w.Closed ≡ want_in x lines → action_in x s (Some message) ≡ None
closed-none s message p.Pick lines e = absurd (let z : ⊥ = cc in z)
closed-none s message p.Text lines e = absurd (let z : ⊥ = cc in z)
closed-none s message p.Send [] e = absurd (let z : ⊥ = cc in z)
closed-none s message p.Send (l ∷ ls) e = absurd (let z : ⊥ = cc in z)
closed-none s message p.Closed lines e = refl

pub suits-send : (s : Serving) (message : Message) → w.Send ≡ want s → IsSuited false s message
suits-send s message h = in-phase s message s.phase refl (sends-none s message s.phase s.script h)

pub suits-spent : (s : Serving) (message : Message) → w.Spent ≡ want s → IsSuited false s message
suits-spent s message h = in-phase s message s.phase refl (spent-none s message s.phase s.script h)

pub suits-closed : (s : Serving) (message : Message) → w.Closed ≡ want s → IsSuited false s message
suits-closed s message h = in-phase s message s.phase refl (closed-none s message s.phase s.script h)
