-- Which processes are left of a configuration.
use Rattle.std.proofs.Common.{◌≡◌, refl, sym, ap, ◌∙◌, ℕ, zero, suc, Bool, true, false, ◌||◌, List, [], ◌∷◌, Option, Some, None, option_map, slice_get}
use Rattle.campl_code_bodies.specs.Kept as kept
use Rattle.campl_cells.specs.Parts as c
use Rattle.campl_cells.specs.Parts.{Held, Proc}
use Rattle.campl_kept.specs.declared.kept.Kept.{Kept}
use Rattle.campl_kept.specs.declared.kept.Kept.TheVariants as K
use Rattle.campl_kept.specs.View.{view_kept}
use Rattle.campl_turns.specs.Endings.{HasBroken, HasRunning}
use Rattle.campl_parts.specs.declared.inbox.EndPart.{EndPart}
use Rattle.campl_parts.specs.declared.part.Life.{Life}
use Rattle.campl_parts.specs.declared.part.Life.TheVariants as l
use Rattle.campl_parts.specs.declared.part.ProcPart.{ProcPart}
use Rattle.campl_parts.specs.Tables.{parts_of}
use Rattle.campl_parts.specs.Views.{held_of, life_of, proc_of}
use Rattle.campl_run.specs.Left.{has_some, is_broken, is_running, keeps_break}

-- the test holds of one that stands there
some-there : (f : Life → Bool) (ps : List ProcPart) → has_some f ps ≡ true → (i : ℕ) × (p : ProcPart) × (slice_get ps i ≡ Some p) × (f p.life ≡ true)
some-there f [] e = absurd (cc e)
some-there f (p ∷ ps) e = go (f p.life) refl (some-there f ps) e
  where
    go : (b : Bool) → f p.life ≡ b → (has_some f ps ≡ true → (i : ℕ) × (q : ProcPart) × (slice_get ps i ≡ Some q) × (f q.life ≡ true)) → (b || has_some f ps) ≡ true
        → (i : ℕ) × (q : ProcPart) × (slice_get (p ∷ ps) i ≡ Some q) × (f q.life ≡ true)
    go true is rest e = (0, p, refl, is)
    go false is rest e = let (i, q, there, holds) = rest e in (suc i, q, there, holds)

-- and of none, where it holds of none of them
none-there : (f : Life → Bool) (ps : List ProcPart) → has_some f ps ≡ false → (i : ℕ) (p : ProcPart) → slice_get ps i ≡ Some p → f p.life ≡ false
none-there f [] e i p there = absurd (let g : None ≡ Some p = there in cc g)
none-there f (q ∷ ps) e i p there = go (f q.life) refl (none-there f ps) e i there
  where
    go : (b : Bool) → f q.life ≡ b → (has_some f ps ≡ false → (i : ℕ) (p : ProcPart) → slice_get ps i ≡ Some p → f p.life ≡ false) → (b || has_some f ps) ≡ false
        → (i : ℕ) → slice_get (q ∷ ps) i ≡ Some p → f p.life ≡ false
    go true is rest e i there = absurd (cc e)
    go false is rest e zero there = let g : Some q ≡ Some p = there in let same : q ≡ p = cc g in ap (λ (p : ProcPart). f p.life) (sym same) ∙ is
    go false is rest e (suc i) there = rest e i p there

-- Tests of one

runs-so : (life : Life) → is_running life ≡ true → (h : Held) × (life_of life ≡ c.Runs h)
runs-so l.Ended e = absurd (cc e)
runs-so (l.Runs r) e = (held_of r.value, refl)
runs-so (l.Serves x service) e = absurd (cc e)

runs-not : (life : Life) (h : Held) → is_running life ≡ false → life_of life ≡ c.Runs h → ⊥
runs-not l.Ended h e is = let f : c.Ended ≡ c.Runs h = is in cc f
runs-not (l.Runs r) h e is = cc e
runs-not (l.Serves x service) h e is = let f : c.Serves x service.value.serving ≡ c.Runs h = is in cc f

break-kept : (k : Kept) → keeps_break k ≡ true → view_kept k ≡ kept.Broken
break-kept (K.Values at variables values) e = absurd (cc e)
break-kept (K.AtCall eval) e = absurd (cc e)
break-kept K.Broken e = refl

no-break-kept : (k : Kept) → keeps_break k ≡ false → view_kept k ≡ kept.Broken → ⊥
no-break-kept (K.Values at variables values) e is = let f : kept.Values at variables values.items ≡ kept.Broken = is in cc f
no-break-kept (K.AtCall eval) e is = let f : view_kept (K.AtCall eval) ≡ kept.Broken = is in cc f
no-break-kept K.Broken e is = cc e

broke-so : (life : Life) → is_broken life ≡ true → (h : Held) × (life_of life ≡ c.Runs h) × (h.kept ≡ kept.Broken)
broke-so l.Ended e = absurd (cc e)
broke-so (l.Runs r) e = (held_of r.value, refl, break-kept r.value.kept e)
broke-so (l.Serves x service) e = absurd (cc e)

broke-not : (life : Life) (h : Held) → is_broken life ≡ false → life_of life ≡ c.Runs h → h.kept ≡ kept.Broken → ⊥
broke-not l.Ended h e is broke = let f : c.Ended ≡ c.Runs h = is in cc f
broke-not (l.Runs r) h e is broke =
    let f : c.Runs (held_of r.value) ≡ c.Runs h = is in
    let same : held_of r.value ≡ h = cc f in
    no-break-kept r.value.kept e (ap (λ (h : Held). h.kept) same ∙ broke)
broke-not (l.Serves x service) h e is broke = let f : c.Serves x service.value.serving ≡ c.Runs h = is in cc f

-- The parts

-- the process that stands for a part
part-of : (o : Option ProcPart) (q : Proc) → option_map proc_of o ≡ Some q → (p : ProcPart) × (o ≡ Some p) × (proc_of p ≡ q)
part-of None q e = absurd (let f : None ≡ Some q = e in cc f)
part-of (Some p) q e = let f : Some (proc_of p) ≡ Some q = e in (p, refl, cc f)

pub left-running : (ps : List ProcPart) (es : List EndPart) → has_some is_running ps ≡ true → HasRunning (parts_of ps es)
left-running ps es e =
    let (i, p, there, runs) = some-there is_running ps e in
    let (h, life) = runs-so p.life runs in
    (i, proc_of p, h, ap (option_map proc_of) there, life)

pub none-running : (ps : List ProcPart) (es : List EndPart) → has_some is_running ps ≡ false → HasRunning (parts_of ps es) → ⊥
none-running ps es e (i, q, h, there, life) =
    let (p, stands, same) = part-of (slice_get ps i) q there in
    runs-not p.life h (none-there is_running ps e i p stands) (ap (λ (q : Proc). q.life) same ∙ life)

pub left-broken : (ps : List ProcPart) (es : List EndPart) → has_some is_broken ps ≡ true → HasBroken (parts_of ps es)
left-broken ps es e =
    let (i, p, there, broke) = some-there is_broken ps e in
    let (h, life, is) = broke-so p.life broke in
    (i, proc_of p, h, ap (option_map proc_of) there, life, is)

pub none-broken : (ps : List ProcPart) (es : List EndPart) → has_some is_broken ps ≡ false → HasBroken (parts_of ps es) → ⊥
none-broken ps es e (i, q, h, there, life, broke) =
    let (p, stands, same) = part-of (slice_get ps i) q there in
    broke-not p.life h (none-there is_broken ps e i p stands) (ap (λ (q : Proc). q.life) same ∙ life) broke
