-- The states of processes and services, the messages between them, and their commands as the machine sees them.
use Rattle.std.specs.Prelude.{ℕ, List, Option}
use Rattle.campl_value.specs.Tree.{Tree}
use Rattle.campl_machine.specs.Names.{End}
use Rattle.campl_machine.specs.Machine.{Act}
use Rattle.campl_types.specs.Names.{Name}
use Rattle.campl_types.specs.Matching.{Bindings}
use Rattle.campl_service.specs.Services.{Serving}
use Rattle.campl_peel.specs.Terms.{Term}

pub data Message : Type 0 where
  -- a value, sent by `put`
  Word : Tree → Message
  -- a constructor's number, sent by `hput`
  Pick : ℕ → Message
  -- two ends, sent by `fork`
  EndPair : End → End → Message

-- the ends that a process holds, each under its name
abbrev pub Ends : Type 0
Ends = List (Name × End)

pub record Running : Type 0 where
  pub term : Term
  pub variables : Bindings
  pub ends : Ends
  -- the steps that it has made
  pub steps : ℕ
  -- the calls that were spent on its present command
  pub spent : ℕ

-- a service at its end
pub record Attending : Type 0 where
  pub end : End
  pub serving : Serving

pub data State : Type 0 where
  Runs : Running → State
  Serves : Attending → State

pub data Kind : Type 0 where
  -- one more call of a declared function is spent on the present command
  Work : Kind
  Call : Kind
  Case : Kind
  Put : Kind
  Get : Kind
  Pick' : Kind
  Offer : Kind
  Split : Kind
  Fork : Kind
  Close : Kind
  Halt : Kind
  Link : Kind
  Peel : Kind
  -- a race goes on as this branch, from 0
  Choose : (branch : ℕ) → Kind
  -- a service takes a constructor, takes a text, sends a line
  ServePick : Kind
  ServeText : Kind
  ServeLine : Kind

-- the next command of a process or service: its kind, the ends that it names, and what it does
pub record Command : Type 0 where
  pub kind : Kind
  pub end : Option End
  pub second : Option End
  pub act : Act State Message
