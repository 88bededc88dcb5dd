-- Whether one rests, and on which ends it waits, doesn't depend on what is drawn, nor on more branches than it has.
use Rattle.std.proofs.Common.{◌≡◌, ◌≤◌, ◌<◌, ◌⊎◌, inl, inr, ℕ, List, Option, Some, None, slice_get, refl, sym, ap, subst, ◌∙◌, arith}
use Rattle.std.specs.Prelude.{nat_lt}
use Rattle.campl_value.specs.Tree.{Tree}
use Rattle.campl_code.specs.Instructions.{Block, Code, Instr, blocks}
use Rattle.campl_code.specs.Instructions as i
use Rattle.campl_code_bodies.specs.Kept.{AtCall, Broken, Kept, Values}
use Rattle.campl_cells.specs.Parts.{Ended, Held, Life, Parts, Proc, Runs, Serves, Tip}
use Rattle.campl_cells.specs.Wants as w
use Rattle.campl_cells.specs.Wants.{Drawn, Want, wanted}
use Rattle.campl_cells.specs.Steps.{IsStill, by_want}
use Rattle.campl_cells.specs.Local.{Watches}
use Rattle.campl_cells.proofs.Puts.{split}
use Rattle.campl_turns.specs.Turns.{Rests}
use Rattle.campl_steps.specs.Configs.{IsAmong}
use Rattle.campl_steps.specs.Watching.{IsNoBranch, watched}

pub below : (k n : ℕ) → (k < n) ⊎ (n ≤ k)
below k n = elim (split (nat_lt k n)) [ inl e ↦ inl (grind arith) | inr e ↦ inr (grind arith) ]

abbrev IsMove : Want → Type 0
IsMove w.Rests = ⊥
IsMove (w.Moves kind end v) = Unit {0}
IsMove (w.Looks kind takes e f) = ⊥
IsMove (w.Links x y) = ⊥

-- the same, or both don't wait
abbrev Same : Want → Want → Type 0
Same o o2 = (o2 ≡ o) ⊎ (IsMove o × IsMove o2)

same-found : {A : Type 0} (o : Option A) (f g : A → Want) → ((a : A) → Same (f a) (g a)) → Same (w.with_found o f) (w.with_found o g)
same-found None f g h = inl refl
same-found (Some a) f g h = h a

module _ (code : Code) (d d2 : Drawn) (branch : ℕ) where
  module _ (h : Held) where
    behind-same : (block : List Instr) (at : ℕ) (vars values : List Tree) (x : Instr) → Same (w.behind code d h block branch at vars values x) (w.behind code d2 h block branch at vars values x)
    behind-same block at vars values (i.Put x) = inl refl
    behind-same block at vars values (i.Get x v) = inl refl
    behind-same block at vars values (i.Pick x number) = inl refl
    behind-same block at vars values (i.Split x left right) = inl refl
    behind-same block at vars values (i.Close x) = inl refl
    behind-same block at vars values (i.Halt None) = inl refl
    behind-same block at vars values (i.Halt (Some x)) = inl refl
    behind-same block at vars values (i.Offer x targets) = inl refl
    behind-same block at vars values (i.Fork x left right to) = same-found (h.ends x) _ _ (λ a. inr (tt, tt))
    behind-same block at vars values (i.Peel x side to) = inr (tt, tt)
    behind-same block at vars values (i.Race targets) = inl refl
    behind-same block at vars values (i.Case x base targets) = inl refl
    behind-same block at vars values (i.Link x y) = inl refl
    behind-same block at vars values (i.LinkNeg x y) = inl refl
    behind-same block at vars values (i.Go g channels) = inl refl
    behind-same block at vars values x = inl refl

    instruction-same : (block : List Instr) (at : ℕ) (vars values : List Tree) (o : Option Instr) → Same (w.at_instruction code d h block branch at vars values o) (w.at_instruction code d2 h block branch at vars values o)
    instruction-same block at vars values None = inl refl
    instruction-same block at vars values (Some x) = behind-same block at vars values x

    block-same : (at : ℕ) (vars values : List Tree) (o : Option Block) → Same (w.in_block code d h branch at vars values o) (w.in_block code d2 h branch at vars values o)
    block-same at vars values None = inl refl
    block-same at vars values (Some b) = instruction-same b.code at vars values (slice_get b.code at)

    kept-same : (o : Kept) → Same (w.kept_want code d h branch o) (w.kept_want code d2 h branch o)
    kept-same (Values at vars values) = block-same at vars values (slice_get (blocks code) h.block)
    kept-same (AtCall f fs) = inl refl
    kept-same Broken = inl refl

  want-same : (life : Life) → Same (wanted code d life branch) (wanted code d2 life branch)
  want-same Ended = inl refl
  want-same (Runs h) = kept-same h h.kept
  want-same (Serves e s) = inl refl

still-drawn : (tip : ℕ → Option Tip) (d d2 : Drawn) (p : ℕ) (o : Want) → by_want tip d p o ≡ None → by_want tip d2 p o ≡ None
still-drawn tip d d2 p w.Rests h = refl
still-drawn tip d d2 p (w.Moves kind end v) h = absurd (cc h)
still-drawn tip d d2 p (w.Looks kind takes e f) h = h
still-drawn tip d d2 p (w.Links x y) h = h

move-goes : (tip : ℕ → Option Tip) (d : Drawn) (p : ℕ) (o : Want) → IsMove o → by_want tip d p o ≡ None → ⊥
move-goes tip d p w.Rests m h = m
move-goes tip d p (w.Moves kind end v) m h = cc h
move-goes tip d p (w.Looks kind takes e f) m h = m
move-goes tip d p (w.Links x y) m h = m

still-by : (tip : ℕ → Option Tip) (d d2 : Drawn) (p : ℕ) (o o2 : Want) → Same o o2 → by_want tip d p o ≡ None → by_want tip d2 p o2 ≡ None
still-by tip d d2 p o o2 (inl e) h = ap (by_want tip d2 p) e ∙ still-drawn tip d d2 p o h
still-by tip d d2 p o o2 (inr m) h = absurd (move-goes tip d p o m.0 h)

-- who has no step under some drawn numbers has none under others
pub still-any : (code : Code) (d d2 : Drawn) (m : Parts) (p i : ℕ) → IsStill code d m p i → IsStill code d2 m p i
still-any code d d2 m p i h q there = still-by m.tip d d2 p (wanted code d q.life i) (wanted code d2 q.life i) (want-same code d d2 i q.life) (h q there)

-- the branches of p are those below this count
abbrev pub HasBranches : Code → Parts → (p count : ℕ) → Type 0
HasBranches code m p count = (q : Proc) → m.process p ≡ Some q → (d : Drawn) (i : ℕ) → count ≤ i → IsNoBranch (wanted code d q.life) i

module _ (code : Code) (m : Parts) (p count : ℕ) (some : 1 ≤ count) (others : HasBranches code m p count) where
  -- who has no step by any branch that it has rests
  pub rests-all : (d : Drawn) → ((i : ℕ) → i < count → IsStill code d m p i) → Rests code m p
  rests-all d still d2 i q there = elim (below i count) [
    | inl l ↦ still-any code d d2 m p i (still i l) q there
    | inr g ↦ elim (others q there d2 i g) [
      | inl e ↦ ap (by_want m.tip d2 p) e
      | inr e ↦ ap (by_want m.tip d2 p) e ∙ still-any code d d2 m p 0 (still 0 some) q there
    ]
  ]

  -- the ends on which it waits are those of the branches that it has
  pub watches-below : (q : Proc) → m.process p ≡ Some q → (d : Drawn) (i e : ℕ) → Watches (wanted code d q.life i) e → (j : ℕ) × (j < count) × Watches (wanted code d q.life j) e
  watches-below q there d i e h = elim (below i count) [
    | inl l ↦ (i, l, h)
    | inr g ↦ elim (others q there d i g) [
      | inl n ↦ absurd (subst (λ o. Watches o e) n h)
      | inr n ↦ (0, some, subst (λ o. Watches o e) n h)
    ]
  ]

-- nobody has a step where nobody is
pub rests-gone : (code : Code) (m : Parts) (p : ℕ) → m.process p ≡ None → Rests code m p
rests-gone code m p gone d i q there = let f : None ≡ Some q = sym gone ∙ there in absurd (cc f)

-- the ends that are watched
pub among-watched : (o : Want) (e : ℕ) → Watches o e → IsAmong (watched o) e
among-watched w.Rests e h = h
among-watched (w.Moves kind end v) e h = h
among-watched (w.Looks kind takes x f) e h = inl h
among-watched (w.Links x y) e (inl h) = inl h
among-watched (w.Links x y) e (inr h) = inr (inl h)

pub watched-among : (o : Want) (e : ℕ) → IsAmong (watched o) e → Watches o e
watched-among w.Rests e h = h
watched-among (w.Moves kind end v) e h = h
watched-among (w.Looks kind takes x f) e (inl h) = h
watched-among (w.Looks kind takes x f) e (inr h) = absurd h
watched-among (w.Links x y) e (inl h) = inl h
watched-among (w.Links x y) e (inr (inl h)) = inr h
watched-among (w.Links x y) e (inr (inr h)) = absurd h
