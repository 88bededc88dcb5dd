-- Steps of a process that change only its own state: what they ask, so that a lawful configuration stays lawful.
use Rattle.std.specs.Prelude.{◌≡◌, ◌≢◌, ◌⊎◌, ℕ, ◌≤◌, Bool, true, false, IsTrue, [], ◌∷◌, Option, Some, None, option_map}
use Rattle.campl_tree.specs.declared.service.Side.{Side}
use Rattle.campl_tree.specs.Plain.ChanType.{TopBot}
use Rattle.campl_tree.specs.Plain.Decl.{Program}
use Rattle.campl_tree.specs.Plain.Process.{Body}
use Rattle.campl_machine.specs.Names.{Path, End, Process, same_who}
use Rattle.campl_machine.specs.Machine.{update, Does}
use Rattle.campl_types.specs.Names.{Name, found, are_distinct}
use Rattle.campl_types.specs.SameType.{IsSameChan}
use Rattle.campl_types.specs.World.{world_of}
use Rattle.campl_types.specs.Held.{Channel, On}
use Rattle.campl_peel.specs.Terms.{Doing}
use Rattle.campl_meaning.specs.States.{Running, Runs}
use Rattle.campl_meaning.specs.Wants.{next_command}
use Rattle.campl_meaning.specs.Reductions.{Configuration}
use Rattle.campl_meaning.specs.Apart.{Place, At, end_names}
use Rattle.campl_meaning.specs.Lawful.{Channels, IsTypedAt, Lawful}

-- the same side and type but for places, or both nothing
abbrev pub IsAlike : Option Channel → Option Channel → Type 0
IsAlike None None = Unit {0}
IsAlike (Some (On s t)) (Some (On r u)) = (s ≡ r) × IsSameChan t u
IsAlike None (Some c) = ⊥
IsAlike (Some c) None = ⊥

-- the process p goes on as this, or is gone, and nothing else changes
abbrev pub behind : Configuration → Path → Option Running → Configuration
behind c p next = record { nodes = update same_who ((Process p, option_map Runs next) ∷ []) c.nodes; partner = c.partner; owed = c.owed }

-- it keeps some of its ends, maybe under other names, and the others are given up, which have nothing more or may only be closed;
-- its term is well formed at types that are the same but for places
pub record IsQuiet (source : Program) (channel : Channels) (place : End → Place) (p : Path) (r : Running) (next : Option Running) : Type 0 where
  pub after : Channels
  pub kept : End → Bool
  pub steps : (s : Running) → next ≡ Some s → r.steps ≤ s.steps
  pub names : (s : Running) → next ≡ Some s → IsTrue (are_distinct (end_names s.ends))
  pub ends : (s : Running) (x y : Name) (e : End) → next ≡ Some s → found x s.ends ≡ Some e → found y s.ends ≡ Some e → x ≡ y
  pub came : (s : Running) (x : Name) (e : End) → next ≡ Some s → found x s.ends ≡ Some e → (kept e ≡ true) × ((y : Name) × (found y r.ends ≡ Some e))
  pub stays : (y : Name) (e : End) → found y r.ends ≡ Some e → kept e ≡ true → (s : Running) × (x : Name) × (next ≡ Some s) × (found x s.ends ≡ Some e)
  pub given : (y : Name) (e : End) → found y r.ends ≡ Some e → kept e ≡ false → (channel e ≡ None) ⊎ ((s : Side) × (channel e ≡ Some (On s TopBot)))
  pub alike : (e : End) → IsAlike (channel e) (after e)
  pub others : (e : End) → place e ≢ At (Process p) → after e ≡ channel e
  pub typed : (s : Running) → next ≡ Some s → IsTypedAt (world_of source) after s

-- the step of a body in a lawful configuration leads to a lawful one
abbrev pub Keeps : Body → Type 0
Keeps body =
    (source : Program) (c d : Configuration) (p : Path) (r : Running) (i : ℕ) → Lawful source c → c.nodes (Process p) ≡ Some (Runs r) → r.term ≡ Doing body
    → Does c (Process p) (next_command (world_of source) p r i body).act d → Lawful source d
