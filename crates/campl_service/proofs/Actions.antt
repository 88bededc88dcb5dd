-- A service has an action exactly where it is given what it wants, and what an action leaves.
use Rattle.std.proofs.Common.{◌≡◌, refl, sym, subst, ℕ, zero, suc, ◌<◌, arith, ◌↔◌, List, [], ◌∷◌, ◌++◌, Option, Some, None}
use Rattle.std.specs.Prelude.{IsSome}
use Rattle.std.proofs.lemmas.List.{append-nil}
use Rattle.campl_value.specs.Text.{chars_of}
use Rattle.campl_value.specs.declared.message.Message.{Message}
use Rattle.campl_value.specs.declared.message.Message.TheVariants as m
use Rattle.campl_service.specs.declared.phase.ServiceKind.{ServiceKind}
use Rattle.campl_service.specs.declared.phase.ServiceKind.TheVariants.{Console, Terminal}
use Rattle.campl_service.specs.declared.phase.Phase.{Phase}
use Rattle.campl_service.specs.declared.phase.Phase.TheVariants as p
use Rattle.campl_service.specs.Scripts.{Lines}
use Rattle.campl_service.specs.Transcripts.{Records, Took, Sent, Closed}
use Rattle.campl_service.specs.Services.{Serving, Suits, want_in, action_in, asked, took, sent, request}

-- a constructor is known where its number is below 3
known : (s : Serving) (kind : ServiceKind) (n : ℕ) → IsSome (asked s (request kind n)) ↔ (n < 3)
known s Console zero = (λ _. omega arith, λ _. refl)
known s Console (suc zero) = (λ _. omega arith, λ _. refl)
known s Console (suc (suc zero)) = (λ _. omega arith, λ _. refl)
known s Console (suc (suc (suc n))) = (λ h. absurd cc, λ h. absurd (omega (arith, h)))
known s Terminal zero = (λ _. omega arith, λ _. refl)
known s Terminal (suc zero) = (λ _. omega arith, λ _. refl)
known s Terminal (suc (suc zero)) = (λ _. omega arith, λ _. refl)
known s Terminal (suc (suc (suc n))) = (λ h. absurd cc, λ h. absurd (omega (arith, h)))

taken : (s : Serving) (characters : Option (List ℕ)) → IsSome (took s characters) ↔ IsSome characters
taken s None = (λ h. absurd cc, λ h. absurd cc)
taken s (Some characters) = (λ _. refl, λ _. refl)

sends : (s : Serving) (lines : Lines) → IsSome (sent s lines) ↔ Suits (want_in p.Send lines) None
sends s [] = (λ h. absurd cc, λ h. absurd h)
sends s (line ∷ lines) = (λ _. tt, λ _. refl)

never : IsSome {T = Serving × Option Message} None ↔ ⊥
never = (λ h. absurd cc, λ h. absurd h)

-- sends lines alone
sends_only : (lines : Lines) (message : Message) → IsSome {T = Serving × Option Message} None ↔ Suits (want_in p.Send lines) (Some message)
sends_only [] message = (λ h. absurd cc, λ h. absurd h)
sends_only (line ∷ lines) message = (λ h. absurd cc, λ h. absurd h)

pub exactly : (phase : Phase) (s : Serving) (given : Option Message) → IsSome (action_in phase s given) ↔ Suits (want_in phase s.script) given
exactly p.Pick s None = never
exactly p.Pick s (Some (m.Pick n)) = known s s.kind n
exactly p.Pick s (Some (m.Word text)) = never
exactly p.Pick s (Some (m.Ends a b)) = never
exactly p.Text s None = never
exactly p.Text s (Some (m.Pick n)) = never
exactly p.Text s (Some (m.Word text)) = taken s (chars_of text)
exactly p.Text s (Some (m.Ends a b)) = never
exactly p.Send s None = sends s s.script
exactly p.Send s (Some message) = sends_only s.script message
exactly p.Closed s given = never

-- the kind stays, and records come behind those that stand
abbrev pub Grows : Serving → Serving → Type 0
Grows s t = (t.kind ≡ s.kind) × ((more : Records) × (t.transcript ≡ s.transcript ++ more))

abbrev GrowsBy : Serving → Option (Serving × Option Message) → Type 0
GrowsBy s None = Unit {0}
GrowsBy s (Some done) = Grows s done.0

grows_asked : (s : Serving) (kind : ServiceKind) (n : ℕ) → GrowsBy s (asked s (request kind n))
grows_asked s Console zero = (refl, ([], sym (append-nil s.transcript)))
grows_asked s Console (suc zero) = (refl, ([], sym (append-nil s.transcript)))
grows_asked s Console (suc (suc zero)) = (refl, (Closed ∷ [], refl))
grows_asked s Console (suc (suc (suc n))) = tt
grows_asked s Terminal zero = (refl, ([], sym (append-nil s.transcript)))
grows_asked s Terminal (suc zero) = (refl, ([], sym (append-nil s.transcript)))
grows_asked s Terminal (suc (suc zero)) = (refl, (Closed ∷ [], refl))
grows_asked s Terminal (suc (suc (suc n))) = tt

grows_took : (s : Serving) (characters : Option (List ℕ)) → GrowsBy s (took s characters)
grows_took s None = tt
grows_took s (Some characters) = (refl, (Took characters ∷ [], refl))

grows_sent : (s : Serving) (lines : Lines) → GrowsBy s (sent s lines)
grows_sent s [] = tt
grows_sent s (line ∷ lines) = (refl, (Sent line ∷ [], refl))

grows_in : (phase : Phase) (s : Serving) (given : Option Message) → GrowsBy s (action_in phase s given)
grows_in p.Pick s None = tt
grows_in p.Pick s (Some (m.Pick n)) = grows_asked s s.kind n
grows_in p.Pick s (Some (m.Word text)) = tt
grows_in p.Pick s (Some (m.Ends a b)) = tt
grows_in p.Text s None = tt
grows_in p.Text s (Some (m.Pick n)) = tt
grows_in p.Text s (Some (m.Word text)) = grows_took s (chars_of text)
grows_in p.Text s (Some (m.Ends a b)) = tt
grows_in p.Send s None = grows_sent s s.script
grows_in p.Send s (Some message) = tt
grows_in p.Closed s given = tt

pub grows : (phase : Phase) (s t : Serving) (given answer : Option Message) → action_in phase s given ≡ Some (t, answer) → Grows s t
grows phase s t given answer is = subst (GrowsBy s) is (grows_in phase s given)
