-- What a service wants is the machine's command.
use Rattle.std.proofs.Common.{◌≡◌, inl, ℕ, suc, true, [], Option, Some, None, IsSome, option_map, refl, sym, subst}
use Rattle.campl_machine.specs.Names.{Who, Service}
use Rattle.campl_machine.specs.Machine.{Moves}
use Rattle.campl_value.specs.declared.message.Message.{Message as Said}
use Rattle.campl_value.specs.declared.message.Message.TheVariants.{Word, Pick, Ends as EndPair}
use Rattle.campl_service.specs.declared.phase.Phase.{Phase}
use Rattle.campl_service.specs.declared.phase.Phase.TheVariants as p
use Rattle.campl_service.specs.declared.phase.Want as phase
use Rattle.campl_service.specs.declared.phase.Want.TheVariants as want
use Rattle.campl_service.specs.Services as services
use Rattle.campl_service.specs.Services.{Serving, Action}
use Rattle.campl_meaning.specs.States as k
use Rattle.campl_meaning.specs.States.{Message, Attending}
use Rattle.campl_meaning.specs.Wants as t
use Rattle.campl_code.specs.Instructions.{Code}
use Rattle.campl_code_bodies.specs.Commands.{Beside}
use Rattle.campl_code_bodies.specs.Running.{beside, command_beside}
use Rattle.campl_cells.specs.Parts.{Mail, Tip}
use Rattle.campl_cells.specs.Wants as w
use Rattle.campl_cells.specs.Wants.{Drawn, Next, Attends}
use Rattle.campl_cells.specs.Stands.{Naming, IsNode, LifeWithin, MailWithin, IsEnd, named_mail}
use Rattle.campl_cells.proofs.Alike.{GoesAs, FitsAs, WantAs, SendWithin, named_send, look-as}

-- no service takes ends
no-ends : (at : Phase) (s : Serving) (a b : ℕ) → services.action_in at s (Some (EndPair a b)) ≡ None
no-ends p.Pick s a b = refl
no-ends p.Text s a b = refl
no-ends p.Send s a b = refl
no-ends p.Closed s a b = refl

module _ (code : Code) (n : Naming) (tip : ℕ → Option Tip) (d : Drawn) (who : Who) (steps number : ℕ) (named : who ≡ Service number) (e : ℕ) (there : IsSome (tip e)) (s : Serving) where
  abbrev attending : Attending
  attending = record { end = n.end e; serving = s }

  serves-as : (a : Action) → GoesAs code n (IsEnd tip) who (suc steps) (w.served e a) (Some (Beside (t.served (n.end e) a)))
  serves-as a life is = subst (λ life. IsNode code n.end who (suc steps) life (Some (Beside (t.served (n.end e) a))) × LifeWithin (IsEnd tip) life) (sym is)
      (record { number = number; service = named; serves = refl }, there)

  action-fits : (o : Option Action) → FitsAs code n (IsEnd tip) who (suc steps) (option_map (w.served e) o) (beside (option_map (t.served (n.end e)) o))
  action-fits None = tt
  action-fits (Some a) = serves-as a

  hears-fits : (mail : Mail) → MailWithin (IsEnd tip) mail → FitsAs code n (IsEnd tip) who (suc steps) (w.hears e s mail) (beside (t.hears attending (named_mail n.end mail)))
  hears-fits (Word v) m = action-fits (services.action s (Some (Word v)))
  hears-fits (Pick x) m = action-fits (services.action s (Some (Pick x)))
  hears-fits (EndPair a b) m =
      subst (λ o. FitsAs code n (IsEnd tip) who (suc steps) (option_map (w.served e) o) (beside (t.hears attending (named_mail n.end (EndPair a b))))) (sym (no-ends s.phase s a b))
      (subst (λ o. FitsAs code n (IsEnd tip) who (suc steps) None (beside (option_map (t.served (n.end e)) o))) (sym (no-ends s.phase s 0 0)) tt)

  said-named : (o : Option Said) → t.said (n.end e) o ≡ named_send n.end (w.said e o)
  said-named None = refl
  said-named (Some (Word v)) = refl
  said-named (Some (Pick x)) = refl
  said-named (Some (EndPair a b)) = refl

  said-within : (o : Option Said) → SendWithin (IsEnd tip) (IsEnd tip) (w.said e o)
  said-within None = tt
  said-within (Some (Word v)) = (there, tt)
  said-within (Some (Pick x)) = (there, tt)
  said-within (Some (EndPair a b)) = tt

  says-as : (o : Option Action) → WantAs code n tip d who steps (w.says e o) (command_beside (t.command k.ServeLine (Some (n.end e)) (t.says (n.end e) o)))
  says-as None = inl refl
  says-as (Some a) = record {
    children = [];
    state = Some (Beside (t.served (n.end e) a));
    is = λ i. record {
      kind = k.ServeLine;
      end = Some (n.end e);
      second = None;
      act = Moves (record { send = said-named a.1 i; channels = []; children = []; next = Some (Beside (t.served (n.end e) a)) });
    };
    end_there = there;
    few = tt;
    sending = said-within a.1;
    goes = serves-as a;
    bears = tt;
  }

  pub serving-as : (o : phase.Want) → WantAs code n tip d who steps (w.serving_want e s o) (command_beside (t.serving_command attending o))
  serving-as want.Pick = look-as code n tip d who steps k.ServePick true e (w.hears e s) (λ m. beside (t.hears attending m)) there hears-fits
  serving-as want.Text = look-as code n tip d who steps k.ServeText true e (w.hears e s) (λ m. beside (t.hears attending m)) there hears-fits
  serving-as want.Send = says-as (services.action s None)
  serving-as want.Spent = inl refl
  serving-as want.Closed = inl refl
