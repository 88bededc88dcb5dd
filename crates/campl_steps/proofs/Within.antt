-- What is wanted is at ends that are held, bears at most the two channels that were drawn, and of a process goes on as one.
use Rattle.std.proofs.Common.{refl, ℕ, Bool, true, false, List, [], ◌∷◌, Option, Some, None, IfSome, if◌then◌else◌, slice_get, option_map}
use Rattle.campl_value.specs.Tree.{Tree}
use Rattle.campl_value.specs.declared.message.Message.TheVariants.{Word, Pick, Ends as EndPair}
use Rattle.campl_service.specs.declared.phase.Want.TheVariants as want
use Rattle.campl_service.specs.declared.phase.Want as phase
use Rattle.campl_service.specs.Services as services
use Rattle.campl_service.specs.Services.{Serving, Action}
use Rattle.campl_code.specs.Decisions.{chosen}
use Rattle.campl_code.specs.Instructions.{Instr, Block, Code, blocks}
use Rattle.campl_code.specs.Instructions as i
use Rattle.campl_code_bodies.specs.Commands.{channel_at}
use Rattle.campl_code_bodies.specs.Kept.{Kept, Values, AtCall, Broken}
use Rattle.campl_cells.specs.Parts.{Mail, Ends, Held, Life, Ended, Runs, Serves}
use Rattle.campl_cells.specs.Stands.{LifeWithin}
use Rattle.campl_cells.specs.Wants.{Drawn, Next, Gone, Spends, Begins, Attends, Want, Rests, Moves, Looks, Links, with_found, with_one, word_to, pick_to, ends_to, end_at, onward, chooses, behind, are_set, at_instruction, in_block, kept_want, spoken, said, says, serving_want, wanted}
use Rattle.campl_cells.proofs.Alike.{FewChannels}

-- it isn't how a service goes on
abbrev pub IsOwn : Next → Type 0
IsOwn Gone = Unit {0}
IsOwn (Spends h) = Unit {0}
IsOwn (Begins s) = Unit {0}
IsOwn (Attends e s) = ⊥

abbrev pub IsOwnIf : Option Next → Type 0
IsOwnIf None = Unit {0}
IsOwnIf (Some next) = IsOwn next

abbrev pub WantWithin : (ℕ → Type 0) → Drawn → Want → Type 0
WantWithin There d Rests = Unit {0}
WantWithin There d (Moves kind end v) = IfSome v.send (λ s. There s.0) × FewChannels d v.channels
WantWithin There d (Looks kind takes e f) = There e
WantWithin There d (Links x y) = There x × There y

abbrev pub IsOwnWant : Want → Type 0
IsOwnWant Rests = Unit {0}
IsOwnWant (Moves kind end v) = IsOwn v.next
IsOwnWant (Looks kind takes e f) = (mail : Mail) → IsOwnIf (f mail)
IsOwnWant (Links x y) = Unit {0}

module _ (There : ℕ → Type 0) (d : Drawn) where
  -- both
  abbrev Fine : Want → Type 0
  Fine o = WantWithin There d o × IsOwnWant o

  found : (o : Option ℕ) → IfSome o There → (f : ℕ → Want) → ((e : ℕ) → There e → Fine (f e)) → Fine (with_found o f)
  found None h f g = (tt, tt)
  found (Some e) h f g = g e h

  any : {A : Type 0} (o : Option A) (f : A → Want) → ((a : A) → Fine (f a)) → Fine (with_found o f)
  any None f g = (tt, tt)
  any (Some a) f g = g a

  one : (values : List Tree) (f : Tree → Want) → ((v : Tree) → Fine (f v)) → Fine (with_one values f)
  one [] f g = (tt, tt)
  one (v ∷ []) f g = g v
  one (v ∷ u ∷ vs) f g = (tt, tt)

  word-own : (f : Tree → Option Next) → ((v : Tree) → IsOwnIf (f v)) → (mail : Mail) → IsOwnIf (word_to f mail)
  word-own f g (Word v) = g v
  word-own f g (Pick n) = tt
  word-own f g (EndPair a b) = tt

  pick-own : (f : ℕ → Option Next) → ((n : ℕ) → IsOwnIf (f n)) → (mail : Mail) → IsOwnIf (pick_to f mail)
  pick-own f g (Word v) = tt
  pick-own f g (Pick n) = g n
  pick-own f g (EndPair a b) = tt

  ends-own : (f : ℕ → ℕ → Option Next) → ((a b : ℕ) → IsOwnIf (f a b)) → (mail : Mail) → IsOwnIf (ends_to f mail)
  ends-own f g (Word v) = tt
  ends-own f g (Pick n) = tt
  ends-own f g (EndPair a b) = g a b

  to-own : (h : Held) (vars : List Tree) (o : Option ℕ) → IsOwnIf (option_map (λ to. onward h to vars h.ends) o)
  to-own h vars None = tt
  to-own h vars (Some to) = tt

  at-held : (ends : Ends) → ((k : ℕ) → IfSome (ends k) There) → (o : Option ℕ) → IfSome (end_at ends o) There
  at-held ends held None = tt
  at-held ends held (Some n) = held n

  module _ (code : Code) (h : Held) (held : (k : ℕ) → IfSome (h.ends k) There) where
    chosen-fine : (block : List Instr) (vars : List Tree) (branch : ℕ) (o : Option ℕ) → Fine (chooses h block vars branch o)
    chosen-fine block vars branch None = (tt, tt)
    chosen-fine block vars branch (Some to) = found (end_at h.ends (channel_at block to)) (at-held h.ends held (channel_at block to)) _ (λ e t. (t, λ mail. tt))

    race-fine : (b : Bool) (o : Want) → Fine o → Fine (if b then o else Rests)
    race-fine true o f = f
    race-fine false o f = (tt, tt)

    behind-fine : (block : List Instr) (branch at : ℕ) (vars values : List Tree) (x : Instr) → Fine (behind code d h block branch at vars values x)
    behind-fine block branch at vars values (i.Put n) = found (h.ends n) (held n) _ (λ e t. one values _ (λ v. ((t, tt), tt)))
    behind-fine block branch at vars values (i.Get n v) = found (h.ends n) (held n) _ (λ e t. (t, word-own _ (λ u. tt)))
    behind-fine block branch at vars values (i.Pick n number) = found (h.ends n) (held n) _ (λ e t. ((t, tt), tt))
    behind-fine block branch at vars values (i.Split n l r) = found (h.ends n) (held n) _ (λ e t. (t, ends-own _ (λ a b. tt)))
    behind-fine block branch at vars values (i.Close n) = found (h.ends n) (held n) _ (λ e t. ((tt, tt), tt))
    behind-fine block branch at vars values (i.Halt None) = ((tt, tt), tt)
    behind-fine block branch at vars values (i.Halt (Some n)) = found (h.ends n) (held n) _ (λ e t. ((tt, tt), tt))
    behind-fine block branch at vars values (i.Offer n targets) = found (h.ends n) (held n) _ (λ e t. (t, pick-own _ (λ k. to-own h vars (slice_get targets k))))
    behind-fine block branch at vars values (i.Fork n l r to) = found (h.ends n) (held n) _ (λ e t. ((t, (refl, refl)), tt))
    behind-fine block branch at vars values (i.Peel n side to) = ((tt, refl), tt)
    behind-fine block branch at vars values (i.Race targets) = race-fine (are_set block h.ends targets) _ (chosen-fine block vars branch (slice_get targets branch))
    behind-fine block branch at vars values (i.Case m base targets) =
        any (slice_get code.decisions m) _ (λ c. any (chosen c.tree values) _ (λ r. any (slice_get targets r.0) _ (λ to. ((tt, tt), tt))))
    behind-fine block branch at vars values (i.Link n m) = found (h.ends n) (held n) _ (λ e t. found (h.ends m) (held m) _ (λ f u. ((t, u), tt)))
    behind-fine block branch at vars values (i.LinkNeg n m) = found (h.ends n) (held n) _ (λ e t. found (h.ends m) (held m) _ (λ f u. ((t, u), tt)))
    behind-fine block branch at vars values (i.Go g channels) = any (slice_get code.processes g) _ (λ b. ((tt, tt), tt))
    behind-fine block branch at vars values x = (tt, tt)

    there-fine : (block : List Instr) (branch at : ℕ) (vars values : List Tree) (o : Option Instr) → Fine (at_instruction code d h block branch at vars values o)
    there-fine block branch at vars values None = (tt, tt)
    there-fine block branch at vars values (Some x) = behind-fine block branch at vars values x

    block-fine : (branch at : ℕ) (vars values : List Tree) (o : Option Block) → Fine (in_block code d h branch at vars values o)
    block-fine branch at vars values None = (tt, tt)
    block-fine branch at vars values (Some b) = there-fine b.code branch at vars values (slice_get b.code at)

    kept-fine : (branch : ℕ) (o : Kept) → Fine (kept_want code d h branch o)
    kept-fine branch (Values at vars values) = block-fine branch at vars values (slice_get (blocks code) h.block)
    kept-fine branch (AtCall f fs) = ((tt, tt), tt)
    kept-fine branch Broken = (tt, tt)

    pub process-fine : (branch : ℕ) → WantWithin There d (wanted code d (Runs h) branch) × IsOwnWant (wanted code d (Runs h) branch)
    process-fine branch = kept-fine branch h.kept

  spoken-within : (e : ℕ) → There e → (mail : Mail) → IfSome (spoken e mail) (λ s. There s.0)
  spoken-within e t (Word v) = t
  spoken-within e t (Pick n) = t
  spoken-within e t (EndPair a b) = tt

  said-within : (e : ℕ) → There e → (o : Option Mail) → IfSome (said e o) (λ s. There s.0)
  said-within e t None = tt
  said-within e t (Some mail) = spoken-within e t mail

  says-within : (e : ℕ) → There e → (o : Option Action) → WantWithin There d (says e o)
  says-within e t None = tt
  says-within e t (Some a) = (said-within e t a.1, tt)

  serving-within : (e : ℕ) (s : Serving) → There e → (o : phase.Want) → WantWithin There d (serving_want e s o)
  serving-within e s t want.Pick = t
  serving-within e s t want.Text = t
  serving-within e s t want.Send = says-within e t (services.action s None)
  serving-within e s t want.Spent = tt
  serving-within e s t want.Closed = tt

  pub want-within : (code : Code) (life : Life) → LifeWithin There life → (branch : ℕ) → WantWithin There d (wanted code d life branch)
  want-within code Ended h branch = tt
  want-within code (Runs r) h branch = (process-fine code r h branch).0
  want-within code (Serves e s) h branch = serving-within e s h (services.want s)
