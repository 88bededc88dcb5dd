-- When a command of the machine is what a part wants.
use Rattle.std.proofs.Common.{◌≡◌, ◌⊎◌, inr, ℕ, suc, Bool, List, [], ◌∷◌, Option, Some, None, IsSome, IfSome, option_map, refl, sym, ap, subst}
use Rattle.campl_machine.specs.Names.{Path, End, Who, Process}
use Rattle.campl_machine.specs.Machine.{Moves, Looks, Links, Stands, Breaks}
use Rattle.campl_meaning.specs.States as k
use Rattle.campl_meaning.specs.States.{Message, Kind}
use Rattle.campl_code.specs.Instructions.{Code}
use Rattle.campl_code_bodies.specs.Commands as c
use Rattle.campl_code_bodies.specs.Commands.{CodeState, RunsCode, CodeCommand}
use Rattle.campl_value.specs.Tree.{Tree}
use Rattle.campl_cells.specs.Parts.{Mail, Life, Tip, near, far, written}
use Rattle.campl_cells.specs.Wants as w
use Rattle.campl_cells.specs.Wants.{Drawn, Start, Next, Gone, Begins, Move, Want, Rests}
use Rattle.campl_cells.specs.Steps.{borne, IsLifeOf}
use Rattle.campl_cells.specs.Stands.{Naming, IsNode, LifeWithin, MailWithin, IsEnd, named_mail, named_ends}

-- each life that goes on so is this node, and holds ends that are there
abbrev pub GoesAs : Code → Naming → (ℕ → Type 0) → Who → (steps : ℕ) → Next → Option CodeState → Type 0
GoesAs code n There who steps next o = (life : Life) → IsLifeOf code next life → IsNode code n.end who steps life o × LifeWithin There life

abbrev pub ChildAs : Code → Naming → (ℕ → Type 0) → Drawn → Option Start → List (Who × CodeState) → Type 0
ChildAs code n There d None [] = Unit {0}
ChildAs code n There d (Some s) (x ∷ []) = (x.0 ≡ n.who d.child) × GoesAs code n There x.0 0 (Begins s) (Some x.1)
ChildAs code n There d None (x ∷ xs) = ⊥
ChildAs code n There d (Some s) [] = ⊥
ChildAs code n There d (Some s) (x ∷ y ∷ xs) = ⊥

abbrev pub FitsAs : Code → Naming → (ℕ → Type 0) → Who → (steps : ℕ) → Option Next → Option CodeState → Type 0
FitsAs code n There who steps None None = Unit {0}
FitsAs code n There who steps (Some next) (Some s) = GoesAs code n There who steps next (Some s)
FitsAs code n There who steps None (Some s) = ⊥
FitsAs code n There who steps (Some next) None = ⊥

abbrev pub named_send : (ℕ → End) → Option (ℕ × Mail) → Option (End × Message)
named_send f None = None
named_send f (Some s) = Some (f s.0, named_mail f s.1)

abbrev pub SendWithin : (Old There : ℕ → Type 0) → Option (ℕ × Mail) → Type 0
SendWithin Old There None = Unit {0}
SendWithin Old There (Some s) = Old s.0 × MailWithin There s.1

abbrev pub pairs : (ℕ → End) → List ℕ → List (End × End)
pairs f [] = []
pairs f (c ∷ cs) = (f (near c), f (far c)) ∷ pairs f cs

-- none, the first, or both of the channels that are drawn
abbrev pub FewChannels : Drawn → List ℕ → Type 0
FewChannels d [] = Unit {0}
FewChannels d (c ∷ []) = c ≡ d.channel
FewChannels d (c ∷ c2 ∷ []) = (c ≡ d.channel) × (c2 ≡ d.channel2)
FewChannels d (c ∷ c2 ∷ c3 ∷ cs) = ⊥

pub record MovesAs (code : Code) (n : Naming) (tip : ℕ → Option Tip) (d : Drawn) (who : Who) (steps : ℕ) (kind : Kind) (end : Option ℕ) (v : Move) (command : CodeCommand) : Type 0 where
  pub children : List (Who × CodeState)
  pub state : Option CodeState
  pub is : command ≡ record {
    kind = kind;
    end = option_map n.end end;
    second = None;
    act = Moves (record { send = named_send n.end v.send; channels = pairs n.end v.channels; children = children; next = state });
  }
  pub end_there : IfSome end (IsEnd tip)
  pub few : FewChannels d v.channels
  pub sending : SendWithin (IsEnd tip) (IsEnd (written (borne v.channels) tip)) v.send
  pub goes : GoesAs code n (IsEnd (written (borne v.channels) tip)) who (suc steps) v.next state
  pub bears : ChildAs code n (IsEnd (written (borne v.channels) tip)) d v.child children

pub record LooksAs (code : Code) (n : Naming) (tip : ℕ → Option Tip) (who : Who) (steps : ℕ) (kind : Kind) (takes : Bool) (e : ℕ) (g : Mail → Option Next) (command : CodeCommand) : Type 0 where
  pub look : Message → Option CodeState
  pub is : command ≡ record { kind = kind; end = Some (n.end e); second = None; act = Looks takes (n.end e) look }
  pub there : IsSome (tip e)
  pub fits : (mail : Mail) → MailWithin (IsEnd tip) mail → FitsAs code n (IsEnd tip) who (suc steps) (g mail) (look (named_mail n.end mail))

pub record LinksAs (n : Naming) (tip : ℕ → Option Tip) (x y : ℕ) (command : CodeCommand) : Type 0 where
  pub is : command ≡ record { kind = k.Link; end = Some (n.end x); second = Some (n.end y); act = Links (n.end x) (n.end y) }
  pub there_x : IsSome (tip x)
  pub there_y : IsSome (tip y)

-- the command is what is wanted, under the machine's names
abbrev pub WantAs : Code → Naming → (ℕ → Option Tip) → Drawn → Who → (steps : ℕ) → Want → CodeCommand → Type 0
WantAs code n tip d who steps Rests command = (command.act ≡ Stands) ⊎ (command.act ≡ Breaks)
WantAs code n tip d who steps (w.Moves kind end v) command = MovesAs code n tip d who steps kind end v command
WantAs code n tip d who steps (w.Looks kind takes e g) command = LooksAs code n tip who steps kind takes e g command
WantAs code n tip d who steps (w.Links x y) command = LinksAs n tip x y command

-- Words for commands that are alike

module _ (code : Code) (n : Naming) (tip : ℕ → Option Tip) (d : Drawn) (who : Who) (steps : ℕ) where
  pub found-end : (kind : Kind) (o : Option ℕ) (f : ℕ → Want) (g : End → CodeCommand) → IfSome o (IsEnd tip) → ((e : ℕ) → IsSome (tip e) → WantAs code n tip d who steps (f e) (g (n.end e))) →
      WantAs code n tip d who steps (w.with_found o f) (c.with_found kind (option_map n.end o) g)
  found-end kind None f g h a = inr refl
  found-end kind (Some e) f g h a = a e h

  pub found-same : {A : Type 0} (kind : Kind) (o : Option A) (f : A → Want) (g : A → CodeCommand) → ((a : A) → WantAs code n tip d who steps (f a) (g a)) →
      WantAs code n tip d who steps (w.with_found o f) (c.with_found kind o g)
  found-same kind None f g a = inr refl
  found-same kind (Some x) f g a = a x

  pub one-same : (kind : Kind) (values : List Tree) (f : Tree → Want) (g : Tree → CodeCommand) → ((v : Tree) → WantAs code n tip d who steps (f v) (g v)) →
      WantAs code n tip d who steps (w.with_one values f) (c.with_one kind values g)
  one-same kind [] f g a = inr refl
  one-same kind (v ∷ []) f g a = a v
  one-same kind (v ∷ u ∷ vs) f g a = inr refl

  pub quiet-as : (kind : Kind) (end : Option ℕ) (next : Next) (state : Option CodeState) → IfSome end (IsEnd tip) → GoesAs code n (IsEnd tip) who (suc steps) next state →
      WantAs code n tip d who steps (w.quiet kind end next) (c.command kind (option_map n.end end) (Moves (record { send = None; channels = []; children = []; next = state })))
  quiet-as kind end next state there g = record { children = []; state = state; is = refl; end_there = there; few = tt; sending = tt; goes = g; bears = tt }

  pub send-as : (kind : Kind) (e : ℕ) (mail : Mail) (next : Next) (state : CodeState) → IsSome (tip e) → MailWithin (IsEnd tip) mail → GoesAs code n (IsEnd tip) who (suc steps) next (Some state) →
      WantAs code n tip d who steps (w.sends kind e mail next) (c.command kind (Some (n.end e)) (c.sends (n.end e) (named_mail n.end mail) state))
  send-as kind e mail next state there within g = record { children = []; state = Some state; is = refl; end_there = there; few = tt; sending = (there, within); goes = g; bears = tt }

  pub look-as : (kind : Kind) (takes : Bool) (e : ℕ) (g : Mail → Option Next) (look : Message → Option CodeState) → IsSome (tip e) →
      ((mail : Mail) → MailWithin (IsEnd tip) mail → FitsAs code n (IsEnd tip) who (suc steps) (g mail) (look (named_mail n.end mail))) →
      WantAs code n tip d who steps (w.Looks kind takes e g) (c.command kind (Some (n.end e)) (Looks takes (n.end e) look))
  look-as kind takes e g look there fits = record { look = look; is = refl; there = there; fits = fits }

-- a process begins at this place
pub begins : (code : Code) (n : Naming) (There : ℕ → Type 0) (who : Who) (steps : ℕ) (path : Path) → who ≡ Process path → (s : Start) → ((i : ℕ) → IfSome (s.ends i) There) →
    (ends : c.Ends) → ends ≡ named_ends n.end s.ends →
    GoesAs code n There who steps (Begins s) (Some (RunsCode (record { block = s.block; at = s.at; vars = s.vars; ends = ends; steps = steps; spent = 0 })))
begins code n There who steps path named s within ends e life is =
    subst (λ life. IsNode code n.end who steps life (Some (RunsCode (record { block = s.block; at = s.at; vars = s.vars; ends = ends; steps = steps; spent = 0 }))) × LifeWithin There life) (sym is.1) (
      record {
        path = path;
        process = named;
        at = s.at;
        vars = s.vars;
        spent = 0;
        runs = ap (λ (ends : c.Ends). Some (RunsCode (record { block = s.block; at = s.at; vars = s.vars; ends = ends; steps = steps; spent = 0 }))) e;
        kept = is.2;
      },
      within,
    )

pub gone-as : (code : Code) (n : Naming) (There : ℕ → Type 0) (who : Who) (steps : ℕ) → GoesAs code n There who steps Gone None
gone-as code n There who steps life is = subst (λ life. IsNode code n.end who steps life None × LifeWithin There life) (sym is) (refl, tt)
