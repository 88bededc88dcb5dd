-- Each step only adds to what services have written down.
use Rattle.std.proofs.Common.{◌≡◌, ℕ, true, false, List, [], ◌∷◌, ◌++◌, ◌⊎◌, inl, inr, refl, sym, ap, subst, ◌∙◌, Option, Some, None, append-nil, option_map}
use Rattle.campl_machine.specs.Names.{Path, Who, Process, Service, same_who}
use Rattle.campl_machine.specs.Machine.{Act, Looks, Does, Lies, nodes_born, update}
use Rattle.campl_machine.specs.Runs.{IsPrefixOf}
use Rattle.campl_machine.proofs.Performs.{nodes-kept}
use Rattle.campl_machine.proofs.Same.{same_who-is, same_who-refl}
use Rattle.campl_machine.proofs.Updates.{split}
use Rattle.campl_types.specs.World.{World}
use Rattle.campl_value.specs.declared.message.Message as of_service
use Rattle.campl_service.specs.declared.phase.Want.{Want}
use Rattle.campl_service.specs.declared.phase.Want.TheVariants as want
use Rattle.campl_service.specs.Services.{Serving, Action, action}
use Rattle.campl_service.specs.Services as services
use Rattle.campl_service.specs.Transcripts.{Records}
use Rattle.campl_service.proofs.Actions.{grows}
use Rattle.campl_meaning.specs.States.{Message, Running, Attending, State, Runs, Serves}
use Rattle.campl_meaning.specs.Wants.{child, hears, heard, served, says, serving_command}
use Rattle.campl_meaning.specs.Reductions.{Configuration, act_of}
use Rattle.campl_meaning.specs.Ends.{transcript_in, transcript_of}
use Rattle.campl_meaning.proofs.Footprints.{keeps-to, serves-alone}

-- what stays is a prefix of itself
same-prefix : (xs : Records) (ys : Records) → ys ≡ xs → IsPrefixOf xs ys
same-prefix xs ys e = ([], append-nil xs ∙ sym e)

-- another node's step
other : (c d : Configuration) (v : Who) (A : Act State Message) (n : ℕ) → Does c v A d → (Lies (nodes_born v A) (Service n) → ⊥) → IsPrefixOf (transcript_of n c) (transcript_of n d)
other c d v A n e apart = same-prefix (transcript_of n c) (transcript_of n d) (ap transcript_in (nodes-kept c v (Service n) A d e apart))

-- an action of a service
action-grows : (s : Serving) (given : Option of_service.Message) (a : Action) → action s given ≡ Some a → IsPrefixOf s.transcript a.0.transcript
action-grows s given a i = let g : (more : Records) × (a.0.transcript ≡ s.transcript ++ more) = (grows s.phase s a.0 given a.1 i).1 in (g.0, sym g.1)

-- the state of a service behind its own action
abbrev IsBehind : Attending → Option State → Type 0
IsBehind s o = IsPrefixOf s.serving.transcript (transcript_in o)

served-behind : (s : Attending) (given : Option of_service.Message) (o : Option Action) (t : State) → action s.serving given ≡ o → option_map (served s.end) o ≡ Some t → IsBehind s (Some t)
served-behind s given None t i j = absurd (cc j)
served-behind s given (Some a) t i j =
    let q : served s.end a ≡ t = cc j in
    subst (λ (z : State). IsBehind s (Some z)) q (action-grows s.serving given a i)

itself-at : (n : ℕ) (c d : Configuration) (o : Option State) (more : List (Who × Option State)) → d.nodes ≡ update same_who ((Service n, o) ∷ more) c.nodes → d.nodes (Service n) ≡ o
itself-at n c d o more e = ap (λ (f : Who → Option State). f (Service n)) e ∙ rw (same_who-refl (Service n)) refl

said-behind : (n : ℕ) (s : Attending) (o : Option Action) (c d : Configuration) → action s.serving None ≡ o → Does c (Service n) (says s.end o) d → IsBehind s (d.nodes (Service n))
said-behind n s None c d i e = absurd e
said-behind n s (Some a) c d i e =
    let q : d.nodes (Service n) ≡ Some (served s.end a) = itself-at n c d (Some (served s.end a)) [] (ap (λ (z : Configuration). z.nodes) e) in
    subst (IsBehind s) (sym q) (action-grows s.serving None a i)

heard-behind : (n : ℕ) (s : Attending) (c d : Configuration) → Does c (Service n) (Looks true s.end (hears s)) d → IsBehind s (d.nodes (Service n))
heard-behind n s c d (z, m, ms, t, pz, is, fits, e) =
    let q : d.nodes (Service n) ≡ Some t = itself-at n c d (Some t) [] (ap (λ (z : Configuration). z.nodes) e) in
    subst (IsBehind s) (sym q) (served-behind s (Some (heard m)) (action s.serving (Some (heard m))) t refl fits)

own : (n : ℕ) (s : Attending) (x : Want) (c d : Configuration) → Does c (Service n) (serving_command s x).act d → IsBehind s (d.nodes (Service n))
own n s want.Pick c d e = heard-behind n s c d e
own n s want.Text c d e = heard-behind n s c d e
own n s want.Send c d e = said-behind n s (action s.serving None) c d refl e
own n s want.Spent c d e = absurd e
own n s want.Closed c d e = absurd e

not-service : (p : Path) (r : Running) (n : ℕ) → (Process p ≡ Service n) ⊎ (child p r ≡ Service n) → ⊥
not-service p r n (inl i) = absurd (cc i)
not-service p r n (inr i) = absurd (cc i)

pub only-adds : (w : World) (c d : Configuration) (v : Who) (s : State) (i n : ℕ) → c.nodes v ≡ Some s → Does c v (act_of w v s i) d → IsPrefixOf (transcript_of n c) (transcript_of n d)
only-adds w c d (Process p) (Runs r) i n is e = other c d (Process p) (act_of w (Process p) (Runs r) i) n e (λ l. not-service p r n ((keeps-to p r w i r.term).nodes (Service n) l))
only-adds w c d (Service m) (Serves s) i n is e = elim (split (same_who (Service m) (Service n))) [
  | inl j ↦
      let q : Service m ≡ Service n = same_who-is (Service m) (Service n) j in
      let before : transcript_of n c ≡ s.serving.transcript = ap transcript_in (ap c.nodes (sym q) ∙ is) in
      let behind : IsBehind s (d.nodes (Service n)) = subst (λ (z : Who). IsBehind s (d.nodes z)) q (own m s (services.want s.serving) c d e) in
      subst (λ (z : Records). IsPrefixOf z (transcript_of n d)) (sym before) behind
  | inr j ↦ other c d (Service m) (act_of w (Service m) (Serves s) i) n e
      (λ l. let q : Service m ≡ Service n = (serves-alone m s).nodes (Service n) l in
      let t : true ≡ false = sym (same_who-refl (Service m)) ∙ (ap (same_who (Service m)) q ∙ j) in absurd (cc t))
]
only-adds w c d (Process p) (Serves s) i n is e = absurd e
only-adds w c d (Service m) (Runs r) i n is e = absurd e
