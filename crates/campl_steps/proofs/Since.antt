-- Where nothing has changed, what happens since then happened since before.
use Rattle.std.proofs.Common.{◌≡◌, ◌<◌, ℕ, ◌+◌, ◌*◌, ◌/◌, List, [], ◌∷◌, Option, Some, None, length, sym, ap, subst, ◌∙◌, arith}
use Rattle.campl_cells.specs.Parts.{Life, Mail, Parts, Proc, Tip, owner, written}
use Rattle.campl_cells.specs.Steps.{goes_on, peopled}
use Rattle.campl_cells.specs.Wants.{Drawn}
use Rattle.campl_parts.specs.declared.part.ProcPart.{ProcPart}
use Rattle.campl_parts.specs.declared.inbox.EndPart.{EndPart}
use Rattle.campl_parts.specs.Tables.{HasRoomFor, procs, tips}
use Rattle.campl_steps.specs.declared.config.Config.{Config}
use Rattle.campl_steps.specs.Configs.{IsSame, drawn, more}
use Rattle.campl_steps.specs.Doing.{Did, HasInbox, IsSendThere, Served, on_end}

module _ (old mid : Config) (s : IsSame old mid) where
  pub same-procs : procs mid.processes.items ≡ procs old.processes.items
  same-procs = ap (λ (m : Parts). m.process) s.parts

  pub same-tips : tips mid.ends.items ≡ tips old.ends.items
  same-tips = ap (λ (m : Parts). m.tip) s.parts

  pub same-drawn : drawn mid ≡ drawn old
  same-drawn = λ i. record { child = s.processes i; channel = s.ends i / 2; channel2 = s.ends i / 2 + 1 }

  pub did-since : (new : Config) (p : ℕ) (life : Life) (child : Option Life) (channels : ℕ) (f : Drawn → (ℕ → Option Tip) → List (ℕ × Tip)) →
      Did mid new p life child channels (f (drawn mid) (tips mid.ends.items)) → Did old new p life child channels (f (drawn old) (tips old.ends.items))
  did-since new p life child channels f d = record {
    process = λ q h. d.process q (ap (λ (g : ℕ → Option Proc). g p) same-procs ∙ h) ∙ (λ i. written (peopled (same-drawn i) p q life child) (same-procs i));
    tip = d.tip ∙ (λ i. written (f (same-drawn i) (same-tips i)) (same-tips i));
    processes = d.processes ∙ ap (λ n. n + more child 1) s.processes;
    ends = d.ends ∙ ap (λ n. n + 2 * channels) s.ends;
  }

-- a service that went on since then
pub served-since : (Goes : Life → Life → Type 0) (old mid new last : List ProcPart) (p : ℕ) (q : Proc) → procs mid ≡ procs old → last ≡ new →
    ((r : Proc) → procs mid p ≡ Some r → Served Goes mid new p r) → procs old p ≡ Some q → Served Goes old last p q
served-since Goes old mid new last p q e l g h =
    let s = g q (ap (λ (f : ℕ → Option Proc). f p) e ∙ h) in
    record { life = s.life; goes = s.goes; process = ap procs l ∙ (s.process ∙ ap (written ((p, goes_on q s.life) ∷ [])) e) }

-- a message that is sent goes to an end that is there
pub send-since : (old mid : Config) → IsSame old mid → (send : Option (ℕ × Mail)) → IsSendThere old.ends.items send → IsSendThere mid.ends.items send
send-since old mid s None h = tt
send-since old mid s (Some x) h =
    subst (λ (f : ℕ → Option Tip). owner f x.0 < length mid.ends.items) (sym (same-tips old mid s)) (omega (arith, h, s.ends))

-- what a service says
pub said-there : (es : List EndPart) (e : ℕ) (said : Option Mail) → owner (tips es) e < length es → IsSendThere es (on_end e said)
said-there es e None h = tt
said-there es e (Some mail) h = h

pub said-room : (es : List EndPart) (e : ℕ) (said : Option Mail) → HasRoomFor es (owner (tips es) e) 1 → HasInbox es (on_end e said)
said-room es e None h = tt
said-room es e (Some mail) h = h
