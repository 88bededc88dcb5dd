-- Commands judged in order, from where a loop stands, and variables that come.
use Rattle.std.proofs.Common.{◌≡◌, ◌∙◌, sym, ap, subst, ℕ, ◌+◌, ◌-◌, ◌<◌, ◌≤◌, Result, Ok, Err, OnOk, List, [], ◌∷◌, ◌++◌, append_assoc, map, drop, length, get_or, refl}
use Rattle.std.proofs.lemmas.List.{drop_all}
use Rattle.campl_tree.specs.declared.process.Action as code
use Rattle.campl_tree.specs.View.{view_action}
use Rattle.campl_types.specs.Fits.{Vars}
use Rattle.campl_types.specs.World.{World}
use Rattle.campl_vars.proofs.Variables.{below}
use Rattle.campl_seqcheck.specs.Judged.{Judged, Is, and_then}
use Rattle.campl_seqcheck.proofs.Answered.{drop-at}
use Rattle.campl_linear.specs.Faults as plain
use Rattle.campl_linear.specs.Holding.{Holding}
use Rattle.campl_held.specs.declared.fault.LinFault.{LinFault}
use Rattle.campl_held.specs.Answered.{Refused}
use Rattle.campl_held.specs.Steps.{acted, acted_all, Grown}
use Rattle.campl_held.proofs.Told.{stopped}

-- Variables

pub grown-on : {A E : Type 0} (old new : List A) (x : A) (r : Result (Unit {0}) E) → OnOk r (new ≡ x ∷ old) → OnOk r (Grown old new)
grown-on old new x (Ok u) i = (x ∷ [], i)
grown-on old new x (Err e) i = i

pub grown-more : {A : Type 0} (first then last : List A) → Grown first then → Grown then last → Grown first last
grown-more first then last g h = (h.0 ++ g.0, h.1 ∙ ap (λ l. h.0 ++ l) g.1 ∙ sym (append_assoc h.0 g.0 first))

pub grown-none : {A : Type 0} (xs : List A) → Grown xs xs
grown-none xs = ([], refl)

pub cut : {A : Type 0} (old new : List A) (n : ℕ) → Grown old new → n ≡ length old → drop (length new - n) new ≡ old
cut old new n g i = ap (λ m. drop (length new - m) new) i ∙ ap (λ l. drop (length l - length old) l) g.1 ∙ below g.0 old

-- One turn of a loop

pub loop-went : {B C : Type 0} (here whole : Judged plain.LinFault B) (first : Judged plain.LinFault C) (next : C → Judged plain.LinFault B) (y : C) → first ≡ Is y → here ≡ and_then first next → here ≡ whole → next y ≡ whole
loop-went here whole first next y i step inv = sym (ap (λ h. and_then h next) i) ∙ sym step ∙ inv

pub loop-stopped : {B C : Type 0} (here whole : Judged plain.LinFault B) (first : Judged plain.LinFault C) (next : C → Judged plain.LinFault B) (fault : LinFault)
    → Refused first fault → here ≡ and_then first next → here ≡ whole → Refused whole fault
loop-stopped here whole first next fault a step inv = subst (λ j. Refused j fault) (sym step ∙ inv) (stopped first next fault a)

module _ (w : World) (vs : Vars) (held : Holding) (actions : List code.Action) (i : ℕ) where
  pub act-at : (a : code.Action) → i < length actions → a ≡ get_or actions i a
      → acted_all w vs held (map view_action (drop i actions)) ≡ and_then (acted w vs held (view_action a)) (λ s. acted_all w s.0 s.1 (map view_action (drop (i + 1) actions)))
  act-at a l is = ap (λ xs. acted_all w vs held (map view_action xs)) (drop-at actions i a l is)

  pub act-end : length actions ≤ i → acted_all w vs held (map view_action (drop i actions)) ≡ Is (vs, held)
  act-end l = ap (λ xs. acted_all w vs held (map view_action xs)) (drop_all i actions l)
