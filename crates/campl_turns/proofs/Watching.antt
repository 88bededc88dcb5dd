-- On which ends a process or service waits is what its command uses.
use Rattle.std.proofs.Common.{◌≡◌, inl, inr, ℕ, Bool, true, false, ◌&&◌, List, [], ◌∷◌, Option, Some, None, option_map, is_some, if◌then◌else◌, slice_get, refl, sym, ap, ap₂, subst, ◌∙◌}
use Rattle.campl_value.specs.Tree.{Tree}
use Rattle.campl_machine.specs.Names.{End, Path}
use Rattle.campl_machine.specs.Machine.{Act, Breaks, Links, Looks, Moves, Stands, Uses}
use Rattle.campl_service.specs.declared.phase.Want as phase
use Rattle.campl_service.specs.declared.phase.Want.TheVariants as want
use Rattle.campl_service.specs.Services as services
use Rattle.campl_meaning.specs.States as k
use Rattle.campl_meaning.specs.States.{Kind, Message, State}
use Rattle.campl_meaning.specs.Wants as t
use Rattle.campl_types.specs.World.{World}
use Rattle.campl_code.specs.Decisions.{chosen}
use Rattle.campl_code.specs.Instructions.{Block, Code, Instr, blocks}
use Rattle.campl_code.specs.Instructions as i
use Rattle.campl_code_bodies.specs.Alike.{ActsAlike, StandsState}
use Rattle.campl_code_bodies.specs.Commands as c
use Rattle.campl_code_bodies.specs.Commands.{Cell, CodeCommand, CodeState, channel_at}
use Rattle.campl_code_bodies.specs.Kept.{AtCall, Broken, Kept, Values, kept_command}
use Rattle.campl_cells.specs.Parts.{Ends, Held}
use Rattle.campl_cells.specs.Wants as w
use Rattle.campl_cells.specs.Wants.{Drawn, Want, end_at}
use Rattle.campl_cells.specs.Stands.{cell_of, named_ends}
use Rattle.campl_cells.specs.Local.{Watches}

-- alike commands use the same ends
pub uses-alike : (w : World) (code : Code) (a : Act CodeState Message) (b : Act State Message) → ActsAlike (StandsState w code) a b → (e : End) → Uses a e → Uses b e
uses-alike w code (Moves m) (Moves n) h e (v, s) = (v, sym h.0 ∙ s)
uses-alike w code (Looks takes x f) (Looks takes2 y g) h e u = u ∙ h.1
uses-alike w code (Links x y) (Links x2 y2) h e (inl u) = inl (u ∙ h.0)
uses-alike w code (Links x y) (Links x2 y2) h e (inr u) = inr (u ∙ h.1)
uses-alike w code Stands Stands h e u = absurd u
uses-alike w code Breaks Breaks h e u = absurd u
uses-alike w code a b h e u = absurd h

-- Ends that are named

end-at-named : (name : ℕ → End) (ends : Ends) (o : Option ℕ) → c.end_at (named_ends name ends) o ≡ option_map name (end_at ends o)
end-at-named name ends None = refl
end-at-named name ends (Some n) = refl

some-named : (name : ℕ → End) (o : Option ℕ) → is_some (option_map name o) ≡ is_some o
some-named name None = refl
some-named name (Some e) = refl

set-named : (name : ℕ → End) (block : List Instr) (ends : Ends) (targets : List ℕ) → c.are_set block (named_ends name ends) targets ≡ w.are_set block ends targets
set-named name block ends [] = refl
set-named name block ends (to ∷ targets) =
    ap₂ (λ a b. a && b) (ap is_some (end-at-named name ends (channel_at block to)) ∙ some-named name (end_at ends (channel_at block to))) (set-named name block ends targets)

module _ (name : ℕ → End) (e : ℕ) where
  -- the command uses the ends on which the part waits
  abbrev As : Want → CodeCommand → Type 0
  As o x = Watches o e → Uses x.act (name e)

  found-as : (kind : Kind) (o : Option ℕ) (f : ℕ → Want) (g : End → CodeCommand) → ((x : ℕ) → As (f x) (g (name x))) → As (w.with_found o f) (c.with_found kind (option_map name o) g)
  found-as kind None f g h l = absurd l
  found-as kind (Some x) f g h l = h x l

  found-none : {A : Type 0} (o : Option A) (f : A → Want) → ((a : A) → Watches (f a) e → ⊥) → Watches (w.with_found o f) e → ⊥
  found-none None f h l = l
  found-none (Some a) f h l = h a l

  one-none : (values : List Tree) (f : Tree → Want) → ((v : Tree) → Watches (f v) e → ⊥) → Watches (w.with_one values f) e → ⊥
  one-none [] f h l = l
  one-none (v ∷ []) f h l = h v l
  one-none (v ∷ u ∷ vs) f h l = l

  module _ (code : Code) (d : Drawn) (h : Held) (path : Path) (steps at0 : ℕ) (vars0 : List Tree) (spent branch : ℕ) where
    abbrev cell : Cell
    cell = cell_of name h steps at0 vars0 spent

    chooses-as : (block : List Instr) (vars : List Tree) (o : Option ℕ) → As (w.chooses h block vars branch o) (c.chooses cell block vars branch o)
    chooses-as block vars None l = absurd l
    chooses-as block vars (Some to) l =
        subst (λ o. Uses (c.with_found (k.Choose branch) o (λ e. c.command (k.Choose branch) (Some e) (Looks false e (λ m. Some (c.onward cell to vars cell.ends))))).act (name e))
        (sym (end-at-named name h.ends (channel_at block to)))
        (found-as (k.Choose branch) (end_at h.ends (channel_at block to)) (λ e. w.Looks (k.Choose branch) false e (w.after_choose h vars to))
        (λ e. c.command (k.Choose branch) (Some e) (Looks false e (λ m. Some (c.onward cell to vars cell.ends)))) (λ x l. ap name (sym l)) l)

    race-as : (block : List Instr) (vars : List Tree) (o : Option ℕ) (b : Bool) →
        As (if b then w.chooses h block vars branch o else w.Rests) (if b then c.chooses cell block vars branch o else c.command (k.Choose branch) None Breaks)
    race-as block vars o true l = chooses-as block vars o l
    race-as block vars o false l = absurd l

    link-as : (x y : ℕ) → As (w.with_found (h.ends x) (λ e. w.with_found (h.ends y) (λ f. w.Links e f)))
        (c.with_found k.Link (cell.ends x) (λ e. c.with_found k.Link (cell.ends y) (λ f. record { kind = k.Link; end = Some e; second = Some f; act = Links e f })))
    link-as x y = found-as k.Link (h.ends x) _ _ (λ a. found-as k.Link (h.ends y) _ _ (λ b l. elim l [ inl q ↦ inl (ap name (sym q)) | inr q ↦ inr (ap name (sym q)) ]))

    behind-as : (block : List Instr) (at : ℕ) (vars values : List Tree) (x : Instr) → As (w.behind code d h block branch at vars values x) (c.behind code cell block path branch at vars values x)
    behind-as block at vars values (i.Put x) l = absurd (found-none (h.ends x) _ (λ a. one-none values _ (λ v l. l)) l)
    behind-as block at vars values (i.Get x v) l = found-as k.Get (h.ends x) _ _ (λ a q. ap name (sym q)) l
    behind-as block at vars values (i.Pick x number) l = absurd (found-none (h.ends x) _ (λ a l. l) l)
    behind-as block at vars values (i.Split x left right) l = found-as k.Split (h.ends x) _ _ (λ a q. ap name (sym q)) l
    behind-as block at vars values (i.Close x) l = absurd (found-none (h.ends x) _ (λ a l. l) l)
    behind-as block at vars values (i.Halt None) l = absurd l
    behind-as block at vars values (i.Halt (Some x)) l = absurd (found-none (h.ends x) _ (λ a l. l) l)
    behind-as block at vars values (i.Offer x targets) l = found-as k.Offer (h.ends x) _ _ (λ a q. ap name (sym q)) l
    behind-as block at vars values (i.Fork x left right to) l = absurd (found-none (h.ends x) _ (λ a l. l) l)
    behind-as block at vars values (i.Peel x side to) l = absurd l
    behind-as block at vars values (i.Race targets) l =
        subst (λ b. Uses (if b then c.chooses cell block vars branch (slice_get targets branch) else c.command (k.Choose branch) None Breaks).act (name e))
        (sym (set-named name block h.ends targets)) (race-as block vars (slice_get targets branch) (w.are_set block h.ends targets) l)
    behind-as block at vars values (i.Case x base targets) l =
        absurd (found-none (slice_get code.decisions x) _ (λ t. found-none (chosen t.tree values) _ (λ r. found-none (slice_get targets r.0) _ (λ to l. l))) l)
    behind-as block at vars values (i.Link x y) l = link-as x y l
    behind-as block at vars values (i.LinkNeg x y) l = link-as x y l
    behind-as block at vars values (i.Go g channels) l = absurd (found-none (slice_get code.processes g) _ (λ b l. l) l)
    behind-as block at vars values (i.Int x) l = absurd l
    behind-as block at vars values (i.Char x) l = absurd l
    behind-as block at vars values (i.Truth x) l = absurd l
    behind-as block at vars values i.Nil l = absurd l
    behind-as block at vars values (i.Text x) l = absurd l
    behind-as block at vars values (i.Load x) l = absurd l
    behind-as block at vars values i.Cons l = absurd l
    behind-as block at vars values i.Pair l = absurd l
    behind-as block at vars values (i.Build x y) l = absurd l
    behind-as block at vars values (i.Op x) l = absurd l
    behind-as block at vars values (i.Jump x) l = absurd l
    behind-as block at vars values x l = absurd l

    instruction-as : (block : List Instr) (at : ℕ) (vars values : List Tree) (o : Option Instr) → As (w.at_instruction code d h block branch at vars values o) (c.at_instruction code cell block path branch at vars values o)
    instruction-as block at vars values None l = absurd l
    instruction-as block at vars values (Some x) l = behind-as block at vars values x l

    block-as : (at : ℕ) (vars values : List Tree) (o : Option Block) → As (w.in_block code d h branch at vars values o) (c.in_block code cell path branch at vars values o)
    block-as at vars values None l = absurd l
    block-as at vars values (Some b) l = instruction-as b.code at vars values (slice_get b.code at) l

    -- of a process, by what it keeps
    pub kept-uses : (o : Kept) → As (w.kept_want code d h branch o) (kept_command code cell path branch o)
    kept-uses (Values at vars values) l = block-as at vars values (slice_get (blocks code) h.block) l
    kept-uses (AtCall f fs) l = absurd l
    kept-uses Broken l = absurd l

  says-none : (x : ℕ) (o : Option services.Action) → Watches (w.says x o) e → ⊥
  says-none x None l = l
  says-none x (Some a) l = l

  -- of a service
  pub serving-uses : (x : ℕ) (s : services.Serving) (o : phase.Want) → Watches (w.serving_want x s o) e → Uses (t.serving_command (record { end = name x; serving = s }) o).act (name e)
  serving-uses x s want.Pick l = ap name (sym l)
  serving-uses x s want.Text l = ap name (sym l)
  serving-uses x s want.Send l = absurd (says-none x (services.action s None) l)
  serving-uses x s want.Spent l = absurd l
  serving-uses x s want.Closed l = absurd l
