-- Branch by branch: whoever has no step as one is asked again, and nothing has changed.
use Rattle.std.proofs.Common.{◌<◌, inl, inr, ℕ, ◌+◌, sym, ap, subst, ◌∙◌, arith}
use Rattle.campl_code.specs.Instructions.{Code}
use Rattle.campl_cells.specs.Parts.{Parts}
use Rattle.campl_cells.specs.Steps.{IsStill, Steps}
use Rattle.campl_cells.proofs.Puts.{same}
use Rattle.campl_parts.specs.Views.{entry_of}
use Rattle.campl_steps.specs.declared.config.Config.{Config}
use Rattle.campl_steps.specs.declared.made.Made.{Made}
use Rattle.campl_steps.specs.Configs.{IsMade, IsSame, drawn, more, parts}
use Rattle.campl_steps.proofs.Since.{same-drawn}
use Rattle.campl_solo.specs.Asking.{HasTurned}

pub same-on : (old mid new : Config) → IsSame old mid → IsSame mid new → IsSame old new
same-on old mid new a b = record { parts = b.parts ∙ a.parts; processes = b.processes ∙ a.processes; ends = b.ends ∙ a.ends }

module _ (code : Code) (p b : ℕ) (old mid : Config) (s : IsSame old mid) where
  still-old : IsStill code (drawn mid) (parts mid) p b → IsStill code (drawn old) (parts old) p b
  still-old h = subst (λ m. IsStill code (drawn old) m p b) s.parts (subst (λ d. IsStill code d (parts mid) p b) (same-drawn old mid s) h)

  made-old : (made : Made) (new : Config) → IsMade code p b mid made new → IsMade code p b old made new
  made-old made new h = record {
    steps = subst (λ m. Steps code (drawn old) m p b (entry_of made.entry) (parts new)) s.parts (subst (λ d. Steps code d (parts mid) p b (entry_of made.entry) (parts new)) (same-drawn old mid s) h.steps);
    changed = λ k l n. h.changed k (let e = s.ends in omega (arith, l, e)) n ∙ ap (λ (m : Parts). m.tip k) s.parts;
    processes = h.processes ∙ ap (λ k. k + more made.entry.child 1) s.processes;
    ends = h.ends ∙ ap (λ k. k + (more made.entry.channel 2 + more made.entry.channel2 2)) s.ends;
  }

  module _ (still : (i : ℕ) → i < b → IsStill code (drawn old) (parts old) p i) where
    pub tried-made : (made : Made) (new : Config) → IsMade code p b mid made new → HasTurned code p old made new
    tried-made made new h = record { branch = b; is = made-old made new h; first = still }

    pub tried-more : IsStill code (drawn mid) (parts mid) p b → (i : ℕ) → i < b + 1 → IsStill code (drawn old) (parts old) p i
    tried-more h i l = elim (same i b) [
      | inl e ↦ subst (λ z. IsStill code (drawn old) (parts old) p z) (sym e) (still-old h)
      | inr ne ↦ still i (omega (arith, l, ne))
    ]
